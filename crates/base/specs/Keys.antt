-- Comparisons by two numbers, and look-ups by bytes.
use Rattle.std.specs.Prelude.{List, Option, Vec, nat_eq, ℕ, ◌≡◌}
use Rattle.std.specs.BTreeMap.{BTreeMap, get_by}
use Rattle.std.specs.Cmp.{both_tied, unsigned_ties}
use Rattle.std.specs.Cmp.Lexicographic.{slice_cmp}
use Rattle.std.specs.Ordering.{nat_cmp, is_eq, on, then_cmp, eq_of_both}
use Rattle.std.specs.declared.alloc.Global.{Global}

-- values have the same two keys exactly where the order by those keys does not tell them apart
pub keys_match : {K : Type 0} (f g : K → ℕ) (a b : K)
    → eq_of_both (on f nat_eq) (on g nat_eq) a b
    ≡ is_eq (then_cmp (on f nat_cmp) (on g nat_cmp) a b)
keys_match f g a b = both_tied _ _ (nat_cmp (f a) (f b)) (nat_cmp (g a) (g b))
    (unsigned_ties (f a) (f b)) (unsigned_ties (g a) (g b))

-- the number that an index has at a key
abbrev pub indexed_at : BTreeMap (Vec ℕ Global) ℕ → List ℕ → Option ℕ
indexed_at index key = get_by (λ k. slice_cmp nat_cmp key k.items) index
