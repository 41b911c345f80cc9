-- What the names that are spelled at offsets pass.
use Rattle.std.proofs.Common.{◌≡◌, ℕ, ◌+◌, ◌<◌, List, [], ◌∷◌, length, Bool, true, false}
use Rattle.std.proofs.Common.{Ok, Result, refl, ap, sym, ◌∙◌, subst, arith}
use Rattle.std.specs.Prelude.{is_some, nat_eq, ◌||◌}
use Rattle.std.specs.FinMap as map
use Rattle.std.specs.FinSet as set
use Rattle.std.specs.Ordering.{nat_cmp}
use Rattle.std.proofs.lemmas.Bool.{eqb-true, false≢true}
use Rattle.base.specs.declared.error.decode_error.DecodeError.{DecodeError}
use Rattle.base.specs.reading.Pointers.{AreKept, targets_of}
use Rattle.base.specs.reading.Names.{NamePart, zero_byte, label_of, pointer_to, part_at}
use Rattle.base.specs.reading.Passing.{AreIn, IsClosed, PassesKept, is_among, passed}
use Rattle.base.specs.reading.Spelling.{Spelled, ends, label, pointer, target}
use Rattle.base.proofs.reading.CountLemmas.{contains-one_more, contains_kept}
use Rattle.base.proofs.writing.LawLemmas.{none_is_not}
use Rattle.base.proofs.reading.WalkLemmas.{part_at-label, part_at-pointer, part_at-root}

-- ---- sets that hold more

pub either : (a b : Bool) (P : Type 0) → (a ≡ true → P) → (b ≡ true → P) → (a || b) ≡ true → P
either true b P left right is = left refl
either false b P left right is = right is

right_of : (a b : Bool) → b ≡ true → (a || b) ≡ true
right_of true b is = refl
right_of false b is = is

module _ (bytes : List ℕ) (kept : set.FinSet nat_cmp) (t : ℕ) (closed : IsClosed bytes kept)
    (after : PassesKept bytes kept t) where
  more : (q : ℕ) → set.contains kept q ≡ true → set.contains (set.insert kept t) q ≡ true
  more q is = contains-one_more kept t q ∙ right_of (nat_eq t q) (set.contains kept q) is

  -- where all that a new offset passes is kept
  pub closed_inserted : IsClosed bytes (set.insert kept t)
  closed_inserted u is = either (nat_eq t u) (set.contains kept u) (PassesKept bytes (set.insert kept t) u)
      (λ same. subst (PassesKept bytes (set.insert kept t)) (eqb-true t u same)
      (λ xs e h q in_it. more q (after xs e h q in_it)))
      (λ old xs e h q in_it. more q (closed u old xs e h q in_it))
      (sym (contains-one_more kept t u) ∙ is)

-- before anything is kept
pub nothing_kept : (bytes : List ℕ) → AreKept bytes map.empty × IsClosed bytes (targets_of map.empty)
nothing_kept bytes = (
  λ t items is. absurd (none_is_not items (sym (map.get-empty nat_cmp t) ∙ is)),
  λ t has. absurd (false≢true (sym (contains_kept map.empty t ∙ ap is_some (map.get-empty nat_cmp t)) ∙ has)),
)

-- ---- the rest of a spelling

-- labels are spelled from at on, in a piece that begins at start, and the offsets that they pass are such
pub record Rest (bytes : List ℕ) (start at : ℕ) (P : List ℕ → Type 0) : Type 0 where
  pub labels : List (List ℕ)
  pub end : ℕ
  pub spelled : Spelled bytes labels start at end
  pub passes : P (passed spelled)

same_label : (m n : ℕ) → ◌≡◌ {A = Result NamePart DecodeError} (Ok (label_of m)) (Ok (label_of n)) → m ≡ n
same_label m n is = cc

same_pointer : (t u : ℕ) → ◌≡◌ {A = Result NamePart DecodeError} (Ok (pointer_to t)) (Ok (pointer_to u)) → t ≡ u
same_pointer t u is = cc

after_label : {bytes : List ℕ} {start at e : ℕ} {xs : List (List ℕ)} (n : ℕ) → part_at bytes at ≡ Ok (label_of n)
    → (h : Spelled bytes xs start at e)
    → Rest bytes start (at + 1 + n) (λ qs. passed h ≡ qs)
after_label {bytes} {at = at} n is (ends h) = absurd (cc (sym (part_at-root bytes at h) ∙ is))
after_label {bytes} {start} {at} n is (label {e = e} {x = x} {xs = xs} h some small there rest) =
    let len : length x ≡ n = same_label (length x) n
    (sym (part_at-label bytes at (length x) h some small there.inside) ∙ is) in
    subst (λ (k : ℕ). Rest bytes start (at + 1 + k) (λ qs. passed rest ≡ qs)) len
    (record { labels = xs; end = e; spelled = rest; passes = refl })
after_label {bytes} {at = at} n is (pointer {b = b} {c = c} h next high below rest) =
    absurd (cc (sym (part_at-pointer bytes at b c h next high) ∙ is))

after_pointer : {bytes : List ℕ} {start at e : ℕ} {xs : List (List ℕ)} (t : ℕ) → part_at bytes at ≡ Ok (pointer_to t)
    → (h : Spelled bytes xs start at e) → Rest bytes t t (λ qs. passed h ≡ t ∷ qs)
after_pointer {bytes} {at = at} t is (ends h) = absurd (cc (sym (part_at-root bytes at h) ∙ is))
after_pointer {bytes} {at = at} t is (label {x = x} h some small there rest) =
    absurd (cc (sym (part_at-label bytes at (length x) h some small there.inside) ∙ is))
after_pointer {bytes} {at = at} t is (pointer {b = b} {c = c} {e = e} {xs = xs} h next high below rest) =
    let there : target b c ≡ t = same_pointer (target b c) t (sym (part_at-pointer bytes at b c h next high) ∙ is) in
    subst (λ (u : ℕ). Rest bytes u u (λ qs. ◌≡◌ {A = List ℕ} (target b c ∷ passed rest) (u ∷ qs))) there
    (record { labels = xs; end = e; spelled = rest; passes = refl })

after_root : {bytes : List ℕ} {start at e : ℕ} {xs : List (List ℕ)} → part_at bytes at ≡ Ok zero_byte
    → (h : Spelled bytes xs start at e) → passed h ≡ []
after_root is (ends h) = refl
after_root {bytes} {at = at} is (label {x = x} h some small there rest) =
    absurd (cc (sym (part_at-label bytes at (length x) h some small there.inside) ∙ is))
after_root {bytes} {at = at} is (pointer {b = b} {c = c} h next high below rest) =
    absurd (cc (sym (part_at-pointer bytes at b c h next high) ∙ is))

-- ---- a piece of a name

-- whatever is spelled at first goes on at a place of its piece
pub record Leads (bytes : List ℕ) (first at : ℕ) : Type 0 where
  pub rest : (xs : List (List ℕ)) (e : ℕ) (h : Spelled bytes xs first first e)
      → Rest bytes first at (λ qs. passed h ≡ qs)

pub Leads-none : (bytes : List ℕ) (first : ℕ) → Leads bytes first first
Leads-none bytes first = record { rest = λ xs e h. record { labels = xs; end = e; spelled = h; passes = refl } }

module _ {bytes : List ℕ} {first at : ℕ} (leads : Leads bytes first at) where
  pub Leads-label : {n next : ℕ} → part_at bytes at ≡ Ok (label_of n) → next ≡ at + 1 + n → Leads bytes first next
  Leads-label {n} is next_is = record {
    rest = λ xs e h.
        let r = leads.rest xs e h in
        let s = after_label n is r.spelled in
        subst (λ (k : ℕ). Rest bytes first k (λ qs. passed h ≡ qs)) (sym next_is)
        (record { labels = s.labels; end = s.end; spelled = s.spelled; passes = r.passes ∙ s.passes });
  }

  -- the offsets that it passes, by what ends the piece
  pub passes_none : part_at bytes at ≡ Ok zero_byte → (xs : List (List ℕ)) (e : ℕ) (h : Spelled bytes xs first first e)
      → passed h ≡ []
  passes_none is xs e h = let r = leads.rest xs e h in r.passes ∙ after_root is r.spelled

  pub passes_next : {t : ℕ} → part_at bytes at ≡ Ok (pointer_to t) → (xs : List (List ℕ)) (e : ℕ)
      → (h : Spelled bytes xs first first e) → Rest bytes t t (λ qs. passed h ≡ t ∷ qs)
  passes_next {t} is xs e h =
      let r = leads.rest xs e h in
      let s = after_pointer t is r.spelled in
      record { labels = s.labels; end = s.end; spelled = s.spelled; passes = r.passes ∙ s.passes }

-- all that is passed lies below the start of the piece
pub passed_below : {bytes : List ℕ} {s i e : ℕ} {xs : List (List ℕ)} (h : Spelled bytes xs s i e) (q : ℕ)
    → is_among (passed h) q ≡ true → q < s
passed_below (ends h) q in_it = absurd (false≢true in_it)
passed_below (label h some small at rest) q in_it = passed_below rest q in_it
passed_below (pointer {b = b} {c = c} h next high below rest) q in_it =
    either (nat_eq (target b c) q) (is_among (passed rest) q) (q < _)
    (λ same. omega (arith, below, eqb-true (target b c) q same))
    (λ one. omega (arith, below, passed_below rest q one)) in_it

-- what follows a kept offset is kept
pub kept_next : {bytes : List ℕ} (kept : set.FinSet nat_cmp) {t : ℕ} {ts : List ℕ} → set.contains kept t ≡ true
    → IsClosed bytes kept → Rest bytes t t (λ qs. ts ≡ t ∷ qs) → AreIn kept ts
kept_next {bytes} kept {t} {ts} has closed r q in_it =
    either (nat_eq t q) (is_among (passed r.spelled) q) (set.contains kept q ≡ true)
    (λ same. subst (λ (u : ℕ). set.contains kept u ≡ true) (eqb-true t q same) has)
    (λ one. closed t has r.labels r.end r.spelled q one)
    (ap (λ (qs : List ℕ). is_among qs q) (sym r.passes) ∙ in_it)
