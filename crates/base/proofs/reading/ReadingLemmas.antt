-- What walking over the parts of a name reads is what the bytes spell, or the first fault.
use Rattle.std.proofs.Common.{◌≡◌, ℕ, zero, suc, ◌+◌, ◌-◌, ◌<◌, ◌≤◌, inl, inr, List, ◌∷◌, Bool, true}
use Rattle.std.proofs.Common.{length, drop, Result, Ok, Err, refl, ap, sym, ◌∙◌, subst, arith, length-take, length-drop}
use Rattle.std.proofs.Common.{get_or-take, get_or-drop}
use Rattle.std.specs.Prelude.{nat_lt, nat_le}
use Rattle.std.specs.List.{slice_range}
use Rattle.std.proofs.lemmas.Bool.{cases_lt, cond_both, cond-true, cond-false, leb-true, leb-false, ltb-true, ltb-false}
use Rattle.std.proofs.lemmas.Bool.{le-leb, lt-leb, lt-ltb, le-ltb}
use Rattle.std.proofs.lemmas.Grind.{same_number_lists}
use Rattle.base.specs.declared.error.decode_error.DecodeError.{DecodeError}
use Rattle.base.specs.declared.error.decode_error.DecodeError.TheVariants as faults
use Rattle.base.specs.reading.Faults.{IsFaulty, ended, cut_label, cut_pointer, bad_bits, long, forward, after_label}
use Rattle.base.specs.reading.Faults.{after_pointer}
use Rattle.base.specs.names.Labels.{NameValue, size_of}
use Rattle.base.specs.reading.Names.{NamePart, zero_byte, label_of, pointer_to, Labels, part_at, with_label, ending}
use Rattle.base.specs.reading.Names.{after_part, walk, labels_at, name_at}
use Rattle.base.specs.reading.Reading.{◌>>=◌}
use Rattle.base.specs.reading.Spelling.{ByteAt, BytesAt, ends, label, pointer, Spelled, IsNameAt, anywhere, target}
use Rattle.base.proofs.reading.WalkLemmas.{PartIs, is_past, is_root, is_cut_label, is_label, is_bits, is_cut_pointer}
use Rattle.base.proofs.reading.WalkLemmas.{is_pointer, fuel, part_is}
use Rattle.base.proofs.reading.WalkLemmas.{part_at-past, part_at-root, part_at-cut_label, part_at-label, part_at-bits}
use Rattle.base.proofs.reading.WalkLemmas.{part_at-cut_pointer, part_at-pointer, labels_at-step, walk-suc}

-- what is read is spelled and not too long, or is the fault
abbrev pub IsRight : List ℕ → ℕ → ℕ → ℕ → Labels → Type 0
IsRight bytes s i used (Ok r) = Spelled bytes r.0 s i r.1 × (used + size_of r.0 + 1 ≤ 255)
IsRight bytes s i used (Err f) = IsFaulty bytes s i used f

pub length-range : (bytes : List ℕ) (i n : ℕ) → i + 1 + n ≤ length bytes
    → length (slice_range bytes (i + 1) (i + 1 + n)) ≡ n
length-range bytes i n fits = omega (
  arith,
  length-take (i + 1 + n - (i + 1)) (drop (i + 1) bytes),
  length-drop (i + 1) bytes,
)

range_stands : (bytes : List ℕ) (i n : ℕ) → i + 1 + n ≤ length bytes
    → BytesAt anywhere bytes (i + 1) (slice_range bytes (i + 1) (i + 1 + n))
range_stands bytes i n fits =
    let len = length-range bytes i n fits in
    record {
      inside = omega (arith, len);
      is = λ k below. sym (get_or-take (i + 1 + n - (i + 1)) (drop (i + 1) bytes) k 0 (omega (arith, len))
          ∙ get_or-drop (i + 1) bytes k 0);
      seen = λ k below. tt;
    }

range_is : (bytes : List ℕ) (i : ℕ) (x : List ℕ) → BytesAt anywhere bytes (i + 1) x
    → slice_range bytes (i + 1) (i + 1 + length x) ≡ x
range_is bytes i x at =
    let stands = range_stands bytes i (length x) at.inside in
    let len = length-range bytes i (length x) at.inside in
    same_number_lists (slice_range bytes (i + 1) (i + 1 + length x)) x len
    (λ k below. sym (stands.is k below) ∙ at.is k (omega (arith, len)))

label_spelled : {bytes : List ℕ} {s i n e : ℕ} {x : List ℕ} {xs : List (List ℕ)} → length x ≡ n
    → ByteAt anywhere bytes i n → 1 ≤ n → n ≤ 63 → BytesAt anywhere bytes (i + 1) x
    → Spelled bytes xs s (i + 1 + n) e → Spelled bytes (x ∷ xs) s i e
label_spelled {bytes} {s} {i} {n} {e} {x} {xs} len h some small at rest =
    label (subst (λ (k : ℕ). ByteAt anywhere bytes i k) (sym len) h) (omega arith) (omega arith) at
    (subst (λ (k : ℕ). Spelled bytes xs s (i + 1 + k) e) (sym len) rest)

right_label : {bytes : List ℕ} {i n : ℕ} (s used : ℕ) (r : Labels) → ByteAt anywhere bytes i n → 1 ≤ n → n ≤ 63
    → i + 1 + n ≤ length bytes → used + n + 2 ≤ 255
    → IsRight bytes s (i + 1 + n) (used + n + 1) r
    → IsRight bytes s i used (with_label (slice_range bytes (i + 1) (i + 1 + n)) r)
right_label {bytes} {i} {n} s used (Ok r) h some small fits short right =
    let len = length-range bytes i n fits in
    (label_spelled len h some small (range_stands bytes i n fits) right.0, omega (arith, right.1, len))
right_label {bytes} {i} {n} s used (Err f) h some small fits short right =
    let more : used + n + 1 ≡ used + (1 + n) = omega arith in
    after_label h some small fits (omega arith) (subst (λ (u : ℕ). IsFaulty bytes s (i + 1 + n) u f) more right)

right_pointer : {bytes : List ℕ} {s i b c : ℕ} (used : ℕ) (r : Labels) → ByteAt anywhere bytes i b
    → ByteAt anywhere bytes (i + 1) c → 192 ≤ b → target b c < s
    → IsRight bytes (target b c) (target b c) used r → IsRight bytes s i used (ending (i + 2) r)
right_pointer used (Ok r) h next high below right = (pointer h next high below right.0, right.1)
right_pointer used (Err f) h next high below right = after_pointer h next high below right

right_after : {bytes : List ℕ} {i : ℕ} {read : Result NamePart DecodeError} (s used : ℕ) → PartIs bytes i read
    → used ≤ 254 → (again : ℕ → ℕ → ℕ → Labels)
    → ((s' i' used' : ℕ) → used' ≤ 254 → fuel s' used' < fuel s used → IsRight bytes s' i' used' (again s' i' used'))
    → IsRight bytes s i used (read >>= after_part again bytes s i used)
right_after s used (is_past h) few again right = ended h
right_after s used (is_root h) few again right = (ends h, omega arith)
right_after s used (is_cut_label h some small cut) few again right = cut_label h some small cut
right_after {bytes} {i} s used (is_label {n} h some small fits) few again right =
    cond_both (nat_lt 255 (used + n + 2)) _ _ (IsRight bytes s i used)
    (λ more. long h some small fits (omega (arith, ltb-true 255 (used + n + 2) more)))
    (λ short. let short_is = ltb-false 255 (used + n + 2) short in
    right_label s used (again s (i + 1 + n) (used + n + 1)) h some small fits short_is
    (right s (i + 1 + n) (used + n + 1) (omega (arith, short_is)) (omega (arith, short_is))))
right_after s used (is_bits h low high) few again right = bad_bits h low high
right_after s used (is_cut_pointer h high cut) few again right = cut_pointer h high cut
right_after {bytes} {i} s used (is_pointer {b} {c} h next high) few again right =
    cond_both (nat_le s (target b c)) _ _ (IsRight bytes s i used)
    (λ above. forward h next high (leb-true s (target b c) above))
    (λ below. let below_is = leb-false s (target b c) below in
    right_pointer used (again (target b c) (target b c) used) h next high below_is
    (right (target b c) (target b c) used few (omega (arith, below_is))))

walk_right : (n : ℕ) (bytes : List ℕ) (s i used : ℕ) → used ≤ 254 → fuel s used ≤ n
    → IsRight bytes s i used (walk n bytes s i used)
walk_right zero bytes s i used few enough = absurd (omega arith)
walk_right (suc n) bytes s i used few enough =
    subst (IsRight bytes s i used) (sym (walk-suc n bytes s i used))
    (right_after s used (part_is bytes i) few (walk n bytes)
    (λ s' i' used' few' less. walk_right n bytes s' i' used' few' (omega arith)))

pub labels_right : (bytes : List ℕ) (s i used : ℕ) → used ≤ 254 → IsRight bytes s i used (labels_at bytes s i used)
unfolding labels_at
labels_right bytes s i used few = walk_right (fuel s used) bytes s i used few (omega arith)

-- and the other way round

pub labels_at-part : (bytes : List ℕ) (s i used : ℕ) (read : Result NamePart DecodeError) → used ≤ 254
    → part_at bytes i ≡ read
    → labels_at bytes s i used ≡ (read >>= after_part (labels_at bytes) bytes s i used)
labels_at-part bytes s i used read few is =
    labels_at-step bytes s i used few ∙ ap (λ (r : Result NamePart DecodeError). r
    >>= after_part (labels_at bytes) bytes s i used) is

pub labels_at-label : (bytes : List ℕ) (s i used n : ℕ) → ByteAt anywhere bytes i n → 1 ≤ n → n ≤ 63
    → i + 1 + n ≤ length bytes → used + n + 2 ≤ 255
    → labels_at bytes s i used ≡ with_label (slice_range bytes (i + 1) (i + 1 + n))
    (labels_at bytes s (i + 1 + n) (used + n + 1))
labels_at-label bytes s i used n h some small fits short =
    labels_at-part bytes s i used (Ok (label_of n)) (omega arith) (part_at-label bytes i n h some small fits)
    ∙ cond-false (nat_lt 255 (used + n + 2)) _ _ (le-ltb 255 (used + n + 2) short)

pub labels_at-pointer : {bytes : List ℕ} {i b c : ℕ} (s used : ℕ) → used ≤ 254 → ByteAt anywhere bytes i b
    → ByteAt anywhere bytes (i + 1) c → 192 ≤ b → target b c < s
    → labels_at bytes s i used ≡ ending (i + 2) (labels_at bytes (target b c) (target b c) used)
labels_at-pointer {bytes} {i} {b} {c} s used few h next high below =
    labels_at-part bytes s i used (Ok (pointer_to (target b c))) few (part_at-pointer bytes i b c h next high)
    ∙ cond-false (nat_le s (target b c)) _ _ (lt-leb s (target b c) below)

pub labels_again : {bytes : List ℕ} {s i e : ℕ} {xs : List (List ℕ)} (used : ℕ) → Spelled bytes xs s i e
    → used + size_of xs + 1 ≤ 255 → labels_at bytes s i used ≡ Ok (xs, e)
labels_again {bytes} {s} {i} used (ends h) short =
    labels_at-part bytes s i used (Ok zero_byte) (omega arith) (part_at-root bytes i h)
labels_again {bytes} {s} {i} used (label {e = e} {x = x} {xs = xs} h some small at rest) short =
    let again = labels_again (used + length x + 1) rest (omega arith) in
    labels_at-label bytes s i used (length x) h some small at.inside (omega arith)
    ∙ ap (with_label (slice_range bytes (i + 1) (i + 1 + length x))) again
    ∙ ap (λ (y : List ℕ). with_label y (Ok (xs, e))) (range_is bytes i x at)
labels_again {bytes} {s} {i} used (pointer {b = b} {c = c} h next high below rest) short =
    labels_at-pointer s used (omega arith) h next high below ∙ ap (ending (i + 2)) (labels_again used rest short)

-- a spelling that is too long is refused where it is read
pub labels_too_long : {bytes : List ℕ} {s i e : ℕ} {xs : List (List ℕ)} (used : ℕ) → used ≤ 254 → Spelled bytes xs s i e
    → 255 < used + size_of xs + 1 → labels_at bytes s i used ≡ Err faults.BadName
labels_too_long {bytes} {s} {i} used few (ends h) more = absurd (omega arith)
labels_too_long {bytes} {s} {i} used few (label {e = e} {x = x} {xs = xs} h some small at rest) more =
    elim (cases_lt 255 (used + length x + 2)) [
      | inl over ↦
          labels_at-part bytes s i used (Ok (label_of (length x))) few
          (part_at-label bytes i (length x) h some small at.inside)
          ∙ cond-true (nat_lt 255 (used + length x + 2)) _ _ (lt-ltb 255 (used + length x + 2) over)
      | inr fits ↦
          labels_at-label bytes s i used (length x) h some small at.inside fits
          ∙ ap (with_label (slice_range bytes (i + 1) (i + 1 + length x)))
          (labels_too_long (used + length x + 1) (omega arith) rest (omega arith))
    ]
labels_too_long {bytes} {s} {i} used few (pointer {b = b} {c = c} h next high below rest) more =
    labels_at-pointer s used few h next high below ∙ ap (ending (i + 2)) (labels_too_long used few rest more)

pub faulty_again : {bytes : List ℕ} {s i used : ℕ} {f : DecodeError} → used ≤ 254 → IsFaulty bytes s i used f
    → labels_at bytes s i used ≡ Err f
faulty_again {bytes} {s} {i} {used} few (ended h) = labels_at-part bytes s i used _ few (part_at-past bytes i h)
faulty_again {bytes} {s} {i} {used} few (cut_label {n = n} h some small cut) =
    labels_at-part bytes s i used _ few (part_at-cut_label bytes i n h some small cut)
faulty_again {bytes} {s} {i} {used} few (cut_pointer {b = b} h high cut) =
    labels_at-part bytes s i used _ few (part_at-cut_pointer bytes i b h high cut)
faulty_again {bytes} {s} {i} {used} few (bad_bits {b = b} h low high) =
    labels_at-part bytes s i used _ few (part_at-bits bytes i b h low high)
faulty_again {bytes} {s} {i} {used} few (long {n = n} h some small fits more) =
    labels_at-part bytes s i used (Ok (label_of n)) few (part_at-label bytes i n h some small fits)
    ∙ cond-true (nat_lt 255 (used + n + 2)) _ _ (lt-ltb 255 (used + n + 2) (omega arith))
faulty_again {bytes} {s} {i} {used} few (forward {b = b} {c = c} h next high above) =
    labels_at-part bytes s i used (Ok (pointer_to (target b c))) few (part_at-pointer bytes i b c h next high)
    ∙ cond-true (nat_le s (target b c)) _ _ (le-leb s (target b c) above)
faulty_again {bytes} {s} {i} {used} few (after_label {n = n} {f = f} h some small fits short rest) =
    let more : used + (1 + n) ≡ used + n + 1 = omega arith in
    let again : labels_at bytes s (i + 1 + n) (used + n + 1) ≡ Err f =
    subst (λ (u : ℕ). labels_at bytes s (i + 1 + n) u ≡ Err f) more (faulty_again (omega arith) rest) in
    labels_at-label bytes s i used n h some small fits (omega arith)
    ∙ ap (with_label (slice_range bytes (i + 1) (i + 1 + n))) again
faulty_again {bytes} {s} {i} {used} few (after_pointer {b = b} {c = c} h next high below rest) =
    labels_at-pointer s used few h next high below ∙ ap (ending (i + 2)) (faulty_again few rest)

-- names

abbrev named : List (List ℕ) × ℕ → NameValue × ℕ
named r = (record { labels = r.0; absolute = true }, r.1)

name_ok : (bytes : List ℕ) (i : ℕ) (read : Labels) → IsRight bytes i i 0 read → (name : NameValue) (e : ℕ)
    → (read >>= λ r. Ok (named r)) ≡ Ok (name, e) → IsNameAt bytes i name e
name_ok bytes i (Ok r) right name e is =
    let same : named r ≡ (name, e) = cc in
    subst (λ (p : NameValue × ℕ). IsNameAt bytes i p.0 p.1) same
    (record { spelled = right.0; short = omega (arith, right.1); absolute = refl })
name_ok bytes i (Err f) right name e is = absurd cc

name_err : (bytes : List ℕ) (i : ℕ) (read : Labels) → IsRight bytes i i 0 read → (f : DecodeError)
    → (read >>= λ r. Ok (named r)) ≡ Err f → IsFaulty bytes i i 0 f
name_err bytes i (Ok r) right f is = absurd cc
name_err bytes i (Err g) right f is = let same : g ≡ f = cc in subst (IsFaulty bytes i i 0) same right

pub name_from : (bytes : List ℕ) (i e : ℕ) (labels : List (List ℕ)) → labels_at bytes i i 0 ≡ Ok (labels, e)
    → name_at bytes i ≡ Ok (record { labels = labels; absolute = true }, e)
unfolding name_at
name_from bytes i e labels is = ap (λ (read : Labels). read >>= λ r. Ok (named r)) is

pub name_refused : (bytes : List ℕ) (i : ℕ) (f : DecodeError) → labels_at bytes i i 0 ≡ Err f → name_at bytes i ≡ Err f
unfolding name_at
name_refused bytes i f is = ap (λ (read : Labels). read >>= λ r. Ok (named r)) is

pub name_is : (bytes : List ℕ) (i : ℕ) (name : NameValue) (e : ℕ) → name_at bytes i ≡ Ok (name, e)
    → IsNameAt bytes i name e
unfolding name_at
name_is bytes i name e is = name_ok bytes i (labels_at bytes i i 0) (labels_right bytes i i 0 (omega arith)) name e is

pub name_fault : (bytes : List ℕ) (i : ℕ) (f : DecodeError) → name_at bytes i ≡ Err f → IsFaulty bytes i i 0 f
unfolding name_at
name_fault bytes i f is = name_err bytes i (labels_at bytes i i 0) (labels_right bytes i i 0 (omega arith)) f is

pub name_again : (bytes : List ℕ) (i : ℕ) (name : NameValue) (e : ℕ) → IsNameAt bytes i name e
    → name_at bytes i ≡ Ok (name, e)
name_again bytes i name e at =
    name_from bytes i e name.labels (labels_again 0 at.spelled (omega (arith, at.short)))
    ∙ ap (λ (flag : Bool). Ok (record { labels = name.labels; absolute = flag }, e)) (sym at.absolute)

pub fault_again : (bytes : List ℕ) (i : ℕ) (f : DecodeError) → IsFaulty bytes i i 0 f → name_at bytes i ≡ Err f
fault_again bytes i f faulty = name_refused bytes i f (faulty_again (omega arith) faulty)
