-- Walking over the parts of a name: what stands at a place, and that no more parts are needed.
use Rattle.std.proofs.Common.{◌≡◌, ℕ, zero, suc, ◌+◌, ◌-◌, ◌<◌, ◌≤◌, ◌==◌, List, Bool, true, false, cond, length}
use Rattle.std.proofs.Common.{get_or, Result, Ok, Err, refl, ap, ◌∙◌, arith}
use Rattle.std.specs.Prelude.{nat_lt, nat_le}
use Rattle.std.specs.List.{slice_range}
use Rattle.std.proofs.lemmas.Bool.{cond_both, leb-true, leb-false, ltb-true, ltb-false, eqb-true, eqb-false}
use Rattle.std.proofs.lemmas.Bool.Decides.{nat_tests}
use Rattle.base.specs.declared.error.decode_error.DecodeError.{DecodeError}
use Rattle.base.specs.declared.error.decode_error.DecodeError.TheVariants as faults
use Rattle.base.specs.reading.Reading.{◌>>=◌}
use Rattle.base.specs.reading.Spelling.{ByteAt, anywhere, target}
use Rattle.base.specs.reading.Names.{NamePart, zero_byte, label_of, pointer_to, Labels, part_at, with_label, ending}
use Rattle.base.specs.reading.Names.{after_part, walk, labels_at}

-- what part_at answers, by what stands at the place
pub data PartIs (bytes : List ℕ) (i : ℕ) : Result NamePart DecodeError → Type 0 where
  is_past : length bytes ≤ i → PartIs bytes i (Err faults.InsufficientBytes)
  is_root : ByteAt anywhere bytes i 0 → PartIs bytes i (Ok zero_byte)
  is_cut_label : {n : ℕ} → ByteAt anywhere bytes i n → 1 ≤ n → n ≤ 63 → length bytes < i + 1 + n
      → PartIs bytes i (Err faults.InsufficientBytes)
  is_label : {n : ℕ} → ByteAt anywhere bytes i n → 1 ≤ n → n ≤ 63 → i + 1 + n ≤ length bytes
      → PartIs bytes i (Ok (label_of n))
  is_bits : {b : ℕ} → ByteAt anywhere bytes i b → 64 ≤ b → b < 192 → PartIs bytes i (Err faults.BadName)
  is_cut_pointer : {b : ℕ} → ByteAt anywhere bytes i b → 192 ≤ b → length bytes ≤ i + 1
      → PartIs bytes i (Err faults.InsufficientBytes)
  is_pointer : {b c : ℕ} → ByteAt anywhere bytes i b → ByteAt anywhere bytes (i + 1) c → 192 ≤ b
      → PartIs bytes i (Ok (pointer_to (target b c)))

pub byte : (bytes : List ℕ) (i b : ℕ) → i < length bytes → get_or bytes i 0 ≡ b → ByteAt anywhere bytes i b
byte bytes i b inside is = record { inside = inside; is = is; seen = tt }

pub part_is : (bytes : List ℕ) (i : ℕ) → PartIs bytes i (part_at bytes i)
unfolding part_at
part_is bytes i =
    let b = get_or bytes i 0 in
    let c = get_or bytes (i + 1) 0 in
    let P : Result NamePart DecodeError → Type 0 = PartIs bytes i in
    cond_both (nat_le (length bytes) i) _ _ P (λ h. is_past (leb-true (length bytes) i h)) (λ h1.
    let here : ByteAt anywhere bytes i b = byte bytes i b (leb-false (length bytes) i h1) refl in
    cond_both (b == 0) _ _ P (λ h. is_root (byte bytes i 0 here.inside (eqb-true b 0 h))) (λ h2.
    cond_both (nat_le b 63) _ _ P
    (λ h3. let some : 1 ≤ b = grind (arith, eqb-false b 0 h2) in
    let small : b ≤ 63 = leb-true b 63 h3 in
    cond_both (nat_lt (length bytes) (i + 1 + b)) _ _ P
    (λ h4. is_cut_label here some small (ltb-true (length bytes) (i + 1 + b) h4))
    (λ h4. is_label here some small (ltb-false (length bytes) (i + 1 + b) h4)))
    (λ h3. cond_both (nat_lt b 192) _ _ P (λ h4. is_bits here (leb-false b 63 h3) (ltb-true b 192 h4)) (λ h4.
    let high : 192 ≤ b = ltb-false b 192 h4 in
    cond_both (nat_le (length bytes) (i + 1)) _ _ P
    (λ h5. is_cut_pointer here high (leb-true (length bytes) (i + 1) h5))
    (λ h5. is_pointer here (byte bytes (i + 1) c (leb-false (length bytes) (i + 1) h5) refl) high)))))

-- the parts one by one

pub part_at-past : (bytes : List ℕ) (i : ℕ) → length bytes ≤ i → part_at bytes i ≡ Err faults.InsufficientBytes
unfolding part_at
part_at-past bytes i h = grind (arith, nat_tests)

pub part_at-root : (bytes : List ℕ) (i : ℕ) → ByteAt anywhere bytes i 0 → part_at bytes i ≡ Ok zero_byte
unfolding part_at
part_at-root bytes i b = grind (arith, nat_tests, b.is, b.inside)

pub part_at-cut_label : (bytes : List ℕ) (i n : ℕ) → ByteAt anywhere bytes i n → 1 ≤ n → n ≤ 63
    → length bytes < i + 1 + n → part_at bytes i ≡ Err faults.InsufficientBytes
unfolding part_at
part_at-cut_label bytes i n b some small cut = grind (arith, nat_tests, b.is, b.inside)

pub part_at-label : (bytes : List ℕ) (i n : ℕ) → ByteAt anywhere bytes i n → 1 ≤ n → n ≤ 63 → i + 1 + n ≤ length bytes
    → part_at bytes i ≡ Ok (label_of n)
unfolding part_at
part_at-label bytes i n b some small fits = grind (arith, nat_tests, b.is, b.inside)

pub part_at-bits : (bytes : List ℕ) (i b : ℕ) → ByteAt anywhere bytes i b → 64 ≤ b → b < 192
    → part_at bytes i ≡ Err faults.BadName
unfolding part_at
part_at-bits bytes i b at low high = grind (arith, nat_tests, at.is, at.inside)

pub part_at-cut_pointer : (bytes : List ℕ) (i b : ℕ) → ByteAt anywhere bytes i b → 192 ≤ b → length bytes ≤ i + 1
    → part_at bytes i ≡ Err faults.InsufficientBytes
unfolding part_at
part_at-cut_pointer bytes i b at high cut = grind (arith, nat_tests, at.is, at.inside)

pub part_at-pointer : (bytes : List ℕ) (i b c : ℕ) → ByteAt anywhere bytes i b → ByteAt anywhere bytes (i + 1) c
    → 192 ≤ b → part_at bytes i ≡ Ok (pointer_to (target b c))
unfolding part_at
part_at-pointer bytes i b c at next high = grind (arith, nat_tests, at.is, at.inside, next.is, next.inside)

-- how much is left to walk, at most
abbrev pub fuel : ℕ → ℕ → ℕ
fuel s used = s + 256 - used

cond_same : (b : Bool) (x y z : Labels) → (b ≡ false → y ≡ z) → cond b x y ≡ cond b x z
cond_same true x y z same = refl
cond_same false x y z same = same refl

-- two ways to read on that agree on what is shorter to walk agree after a part
after_same : {bytes : List ℕ} {i : ℕ} {part : Result NamePart DecodeError} (s used : ℕ) → PartIs bytes i part
    → used ≤ 254 → (f g : ℕ → ℕ → ℕ → Labels)
    → ((s' i' used' : ℕ) → used' ≤ 254 → fuel s' used' < fuel s used → f s' i' used' ≡ g s' i' used')
    → (part >>= after_part f bytes s i used) ≡ (part >>= after_part g bytes s i used)
after_same {bytes} {i} s used (is_label {n} h some small fits) few f g same =
    cond_same (nat_lt 255 (used + n + 2)) _ _ _ (λ short.
    let short_is : used + n + 2 ≤ 255 = ltb-false 255 (used + n + 2) short in
    ap (with_label (slice_range bytes (i + 1) (i + 1 + n)))
    (same s (i + 1 + n) (used + n + 1) (omega arith) (omega arith)))
after_same {i = i} s used (is_pointer {b} {c} h next high) few f g same =
    cond_same (nat_le s (target b c)) _ _ _ (λ below.
    let below_is : target b c < s = leb-false s (target b c) below in
    ap (ending (i + 2)) (same (target b c) (target b c) used few (omega arith)))
after_same s used other few f g same = refl

pub walk-suc : (n : ℕ) (bytes : List ℕ) (s i used : ℕ)
    → walk (suc n) bytes s i used ≡ (part_at bytes i >>= after_part (walk n bytes) bytes s i used)
unfolding walk
walk-suc n bytes s i used = refl

walk-enough : (m n : ℕ) (bytes : List ℕ) (s i used : ℕ) → used ≤ 254 → fuel s used ≤ m → fuel s used ≤ n
    → walk m bytes s i used ≡ walk n bytes s i used
unfolding walk
walk-enough zero n bytes s i used few first second = absurd (omega arith)
walk-enough (suc m) zero bytes s i used few first second = absurd (omega arith)
walk-enough (suc m) (suc n) bytes s i used few first second =
    after_same s used (part_is bytes i) few (walk m bytes) (walk n bytes)
    (λ s' i' used' few' less. walk-enough m n bytes s' i' used' few' (omega arith) (omega arith))

-- the labels at a place are those of the part there and of what comes after it
pub labels_at-step : (bytes : List ℕ) (s i used : ℕ) → used ≤ 254
    → labels_at bytes s i used ≡ (part_at bytes i >>= after_part (labels_at bytes) bytes s i used)
unfolding labels_at
labels_at-step bytes s i used few =
    let more : walk (fuel s used) bytes s i used ≡ walk (suc (fuel s used)) bytes s i used =
    walk-enough (fuel s used) (suc (fuel s used)) bytes s i used few (omega arith) (omega arith) in
    more ∙ walk-suc (fuel s used) bytes s i used
    ∙ after_same s used (part_is bytes i) few (walk (fuel s used) bytes) (labels_at bytes)
    (λ s' i' used' few' less. walk-enough (fuel s used) (fuel s' used') bytes s' i' used' few' (omega arith)
    (omega arith))
