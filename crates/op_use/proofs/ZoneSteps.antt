-- sets put into zones
use Rattle.std.specs.Prelude.{Bool, true, false, List, [], ◌∷◌, ◌≡◌, ◌≢◌, cond, Option, Some, None, unwrap_or}
use Rattle.std.proofs.Common.{refl, sym, ap, ◌∙◌}
use Rattle.std.proofs.lemmas.Map.Views.{tells_apart}
use Rattle.std.specs.Ordering.{eq_by_cmp}
use Rattle.std.specs.Cmp.{eq_by_cmp_equiv}
use Rattle.std.specs.FinMap as fin
use Rattle.std.specs.FinMap.{FinMap}
use Rattle.base.specs.declared.rr_key.RrKey.{RrKey}
use Rattle.base.specs.RrKey.{key_cmp}
use Rattle.base.proofs.names.KeyLemmas.{key_cmp-exact, key_cmp-total}
use Rattle.op_use.specs.Zone.{Datum, IsZone, Zone, at, put, with_set}

-- what stands in a map for a list
abbrev pub kept : List Datum → Option (List Datum)
kept [] = None
kept (x ∷ xs) = Some (x ∷ xs)

pub get_with_set : (m : FinMap key_cmp (List Datum)) (k : RrKey) (xs : List Datum) (q : RrKey)
    → fin.get (with_set m k xs) q ≡ cond (eq_by_cmp key_cmp q k) (kept xs) (fin.get m q)
get_with_set m k [] q = fin.get-remove key_cmp-total m k q
get_with_set m k (x ∷ xs) q = fin.get-insert key_cmp-total m k (x ∷ xs) q

pub retained : (m : FinMap key_cmp (List Datum)) (p : RrKey → Bool) (q : RrKey)
    → fin.get (fin.retain_keys m p) q ≡ cond (p q) (fin.get m q) None
retained m p q = fin.get-retain_keys m p q (λ x tie. ap p (sym (key_cmp-exact q x tie)))

pub same_sets : (m n : FinMap key_cmp (List Datum)) → ((q : RrKey) → fin.get m q ≡ fin.get n q) → m ≡ n
same_sets = fin.same_map key_cmp-total key_cmp-exact

pub tied : (k : RrKey) → eq_by_cmp key_cmp k k ≡ true
tied k = (eq_by_cmp_equiv key_cmp-total).refl k

unkept : (b : Bool) (ds : List Datum) (o : Option (List Datum))
    → unwrap_or (cond b (kept ds) o) [] ≡ cond b ds (unwrap_or o [])
unkept true [] o = refl
unkept true (d ∷ ds) o = refl
unkept false ds o = refl

pub at_after_put : (z : Zone) (q k : RrKey) (ds : List Datum)
    → at (put z q ds) k ≡ cond (eq_by_cmp key_cmp q k) ds (at z k)
at_after_put z q k ds =
    ap (λ o. unwrap_or o []) (get_with_set z.sets q ds k) ∙ unkept (eq_by_cmp key_cmp k q) ds (fin.get z.sets k)
    ∙ ap (λ b. cond b ds (at z k)) ((eq_by_cmp_equiv key_cmp-total).symm k q)

pub at_put : (z : Zone) (k : RrKey) (xs : List Datum) → at (put z k xs) k ≡ xs
at_put z k xs = at_after_put z k k xs ∙ ap (λ b. cond b xs (at z k)) (tied k)

pub at_put_other : (z : Zone) (k q : RrKey) (xs : List Datum) → eq_by_cmp key_cmp q k ≡ false
    → fin.get (put z k xs).sets q ≡ fin.get z.sets q
at_put_other z k q xs h = get_with_set z.sets k xs q ∙ ap (λ b. cond b (kept xs) (fin.get z.sets q)) h

pub twice : (b : Bool) (x y z : Option (List Datum)) → cond b y (cond b x z) ≡ cond b y z
twice true x y z = refl
twice false x y z = refl

pub put_put : (z : Zone) (k : RrKey) (xs ys : List Datum) → put (put z k xs) k ys ≡ put z k ys
put_put z k xs ys = ap (λ (m : FinMap key_cmp (List Datum)). record z { sets = m }) (same_sets _ _ (λ q.
    get_with_set (with_set z.sets k xs) k ys q
    ∙ ap (cond (eq_by_cmp key_cmp q k) (kept ys)) (get_with_set z.sets k xs q)
    ∙ twice (eq_by_cmp key_cmp q k) (kept xs) (kept ys) (fin.get z.sets q) ∙ sym (get_with_set z.sets k ys q)))

pub same_key : (q k : RrKey) → eq_by_cmp key_cmp q k ≡ true → q ≡ k
same_key = tells_apart key_cmp-exact

pub kept_found : (o : Option (List Datum)) → o ≢ Some [] → kept (unwrap_or o []) ≡ o
kept_found None h = refl
kept_found (Some []) h = absurd (h refl)
kept_found (Some (x ∷ xs)) h = refl

found_again : (m : FinMap key_cmp (List Datum)) (k q : RrKey) (b : Bool) → eq_by_cmp key_cmp q k ≡ b
    → fin.get m k ≢ Some [] → cond b (kept (unwrap_or (fin.get m k) [])) (fin.get m q) ≡ fin.get m q
found_again m k q true e h = kept_found (fin.get m k) h ∙ ap (fin.get m) (sym (same_key q k e))
found_again m k q false e h = refl

-- no set is empty
abbrev pub Filled : Zone → Type 0
Filled z = (q : RrKey) → fin.get z.sets q ≢ Some []

pub filled_put : (z : Zone) (k : RrKey) (xs : List Datum) → Filled z → Filled (put z k xs)
filled_put z k xs h q f = by (eq_by_cmp key_cmp q k) xs (sym (get_with_set z.sets k xs q) ∙ f) where
  by : (b : Bool) (ys : List Datum) → cond b (kept ys) (fin.get z.sets q) ≢ Some []
  by true [] e = cc
  by true (y ∷ ys) e = cc
  by false ys e = h q e

-- to put what is there changes nothing
pub put_same : (z : Zone) (k : RrKey) → IsZone z → put z k (at z k) ≡ z
put_same z k h = ap (λ (m : FinMap key_cmp (List Datum)). record z { sets = m }) (same_sets _ _ (λ q.
    get_with_set z.sets k (at z k) q ∙ found_again z.sets k q _ refl (h.filled k)))
