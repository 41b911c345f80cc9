-- Sums of TTL texts only grow.
use Rattle.std.proofs.Common.{◌≡◌, ℕ, ◌+◌, ◌*◌, ◌^◌, ◌<◌, ◌≤◌, List, [], ◌∷◌, length, drop, get_or, refl, ap, sym, ◌∙◌}
use Rattle.std.proofs.Common.{arith, Option, Some, None, true, false}
use Rattle.std.specs.Prelude.{unwrap_or, nat_lt}
use Rattle.std.specs.Char.{is_ascii_digit}
use Rattle.std.proofs.lemmas.Bool.Decides.{nat_tests}
use Rattle.std.proofs.lemmas.List.{drop_more, drop_all}
use Rattle.base.specs.texts.Ttl.{below_limit, digit_after, grouped, ttl_of, ttl_on, ttl_sum, unit_of}

too_many : (n : ℕ) → 2 ^ 32 ≤ n → below_limit (Some n) ≡ None
too_many n big = let no : nat_lt n (2 ^ 32) ≡ false = grind (arith, nat_tests) in rw no refl

-- a unit has a second at least
unit_some : (c u : ℕ) → unit_of c ≡ Some u → 1 ≤ u
unit_some c u is = grind (arith, nat_tests)

times_some : (n u : ℕ) → 1 ≤ u → n ≤ n * u
times_some n u some = grind arith

pub ttl_end : (sum : ℕ) (begun : Option ℕ) → ttl_sum sum begun [] ≡ Some (sum + unwrap_or begun 0)
unfolding ttl_sum
ttl_end sum begun = refl

pub step_digit : (sum : ℕ) (begun : Option ℕ) (c : ℕ) (rest : List ℕ) → is_ascii_digit c ≡ true
    → ttl_sum sum begun (c ∷ rest) ≡ ttl_sum sum (Some (digit_after begun c)) rest
unfolding ttl_sum
step_digit sum begun c rest is = rw is refl

step_on : (sum : ℕ) (begun : Option ℕ) (c : ℕ) (rest : List ℕ) (group : Option ℕ) → is_ascii_digit c ≡ false
    → grouped sum begun (unit_of c) ≡ group → ttl_sum sum begun (c ∷ rest) ≡ ttl_on (λ s. ttl_sum s None rest) group
unfolding ttl_sum
step_on sum begun c rest group is to = rw is (ap (ttl_on (λ s. ttl_sum s None rest)) to)

pub step_unit : (sum n u c : ℕ) (rest : List ℕ) → is_ascii_digit c ≡ false → unit_of c ≡ Some u
    → ttl_sum sum (Some n) (c ∷ rest) ≡ ttl_sum (sum + n * u) None rest
step_unit sum n u c rest is unit = step_on sum (Some n) c rest (Some (sum + n * u)) is (ap (grouped sum (Some n)) unit)

pub step_bare : (sum c : ℕ) (rest : List ℕ) → is_ascii_digit c ≡ false → ttl_sum sum None (c ∷ rest) ≡ None
step_bare sum c rest is = step_on sum None c rest None is refl

pub step_other : (sum n c : ℕ) (rest : List ℕ) → is_ascii_digit c ≡ false → unit_of c ≡ None
    → ttl_sum sum (Some n) (c ∷ rest) ≡ None
step_other sum n c rest is unit = step_on sum (Some n) c rest None is (ap (grouped sum (Some n)) unit)

pub ttl_big : (text : List ℕ) (sum : ℕ) (begun : Option ℕ) → 2 ^ 32 ≤ sum + unwrap_or begun 0
    → below_limit (ttl_sum sum begun text) ≡ None
unfolding ttl_sum
ttl_big [] sum begun big = too_many (sum + unwrap_or begun 0) big
ttl_big (c ∷ text) sum None big =
    let again = ttl_big text sum (Some (digit_after None c)) (omega arith) in
    grind (arith, nat_tests)
ttl_big (c ∷ text) sum (Some n) big =
    go (unit_of c) refl (ttl_big text sum (Some (digit_after (Some n) c)) (omega arith)) (ttl_big text) where
      go : (u : Option ℕ) → unit_of c ≡ u → below_limit (ttl_sum sum (Some (digit_after (Some n) c)) text) ≡ None
          → ((s : ℕ) (b : Option ℕ) → 2 ^ 32 ≤ s + unwrap_or b 0 → below_limit (ttl_sum s b text) ≡ None)
          → below_limit (ttl_sum sum (Some n) (c ∷ text)) ≡ None
      go None unit digit again = rw unit (grind (arith, nat_tests))
      go (Some u) unit digit again =
          let on = again (sum + n * u) None (omega (arith, times_some n u (unit_some c u unit))) in
          rw unit (grind (arith, nat_tests))

pub digit_too_many : (sum : ℕ) (begun : Option ℕ) (c : ℕ) (rest : List ℕ) → is_ascii_digit c ≡ true
    → 2 ^ 32 ≤ digit_after begun c → below_limit (ttl_sum sum begun (c ∷ rest)) ≡ None
digit_too_many sum begun c rest is big = ap below_limit (step_digit sum begun c rest is)
    ∙ ttl_big rest sum (Some (digit_after begun c)) (omega (arith, big))

pub unit_too_many : (sum n u c : ℕ) (rest : List ℕ) → is_ascii_digit c ≡ false → unit_of c ≡ Some u
    → 2 ^ 32 ≤ sum + n * u → below_limit (ttl_sum sum (Some n) (c ∷ rest)) ≡ None
unit_too_many sum n u c rest is unit big =
    ap below_limit (step_unit sum n u c rest is unit) ∙ ttl_big rest (sum + n * u) None (omega (arith, big))

-- one byte on, in each case
pub ruleset one_byte = (digit_too_many, step_digit, step_bare, step_other, step_unit, unit_too_many)

pub ttl_nothing : (text : List ℕ) → length text ≡ 0 → None ≡ ttl_of text
unfolding ttl_of
ttl_nothing [] none = refl
ttl_nothing (c ∷ text) none = absurd (omega arith)

ttl_some : (text : List ℕ) → 0 < length text → ttl_of text ≡ below_limit (ttl_sum 0 None text)
unfolding ttl_of
ttl_some [] some = absurd (omega arith)
ttl_some (c ∷ text) some = refl

pub ttl_fails : (text : List ℕ) (i sum : ℕ) (begun : Option ℕ) → i < length text
    → below_limit (ttl_sum sum begun (drop i text)) ≡ below_limit (ttl_sum 0 None text)
    → ((rest : List ℕ) → below_limit (ttl_sum sum begun (get_or text i 0 ∷ rest)) ≡ None) → None ≡ ttl_of text
ttl_fails text i sum begun inside is none =
    sym (ttl_some text (omega arith) ∙ sym is
    ∙ ap (λ (rest : List ℕ). below_limit (ttl_sum sum begun rest)) (drop_more text i 0 inside)
    ∙ none (drop (i + 1) text))

pub ttl_ends : (text : List ℕ) (i sum : ℕ) (begun : Option ℕ) → length text ≤ i → 0 < length text
    → below_limit (ttl_sum sum begun (drop i text)) ≡ below_limit (ttl_sum 0 None text)
    → below_limit (Some (sum + unwrap_or begun 0)) ≡ ttl_of text
ttl_ends text i sum begun past some is =
    ap below_limit (sym (ttl_end sum begun)) ∙ ap (λ (rest : List ℕ). below_limit (ttl_sum sum begun rest))
    (sym (drop_all i text past)) ∙ is ∙ sym (ttl_some text some)
