-- Updates look at the sets of the owners that they name alone, and change no others.
use Rattle.base.proofs.names.KeyLemmas.{key_cmp-total}
use Rattle.base.specs.names.Labels.{NameValue}
use Rattle.base.specs.names.NameOrder.{exact, lowered, same_lower, same_name}
use Rattle.base.specs.names.NameOrderLaws.{same_by-equiv, same_lower-exact}
use Rattle.base.specs.RrKey.{key_cmp, key_of}
use Rattle.base.specs.declared.record_type.RecordType.TheVariants as types
use Rattle.base.specs.declared.record_type.RecordType.{RecordType}
use Rattle.base.specs.declared.rr_key.RrKey.{RrKey}
use Rattle.base_data.specs.declared.rdata.RData.{RData}
use Rattle.op_use.proofs.ZoneSteps.{get_with_set, kept, retained, same_key, tied}
use Rattle.op_use.specs.AppliedRecords.{after_by, after_update, records_after, with_record}
use Rattle.op_use.specs.Applying.{names_owner}
use Rattle.op_use.specs.MapUpdates.{names_set}
use Rattle.op_use.specs.Server.{OfAny, OfNone, OfNothing, OfZone, Use, goes_with, is_any, is_cname, is_kept_out}
use Rattle.op_use.specs.Server.{is_needed, is_under, removed, update, update_by, use_of, with_datum}
use Rattle.op_use.specs.Zone.{Datum, Zone, at, has_type_at, is_guarded, is_owned, put}
use Rattle.rr.specs.Record.{record_key, type_of_record}
use Rattle.rr.specs.RecordSet.{is_ns, is_soa}
use Rattle.rr.specs.SetChanges.{without}
use Rattle.rr.specs.declared.record.Record.{Record}
use Rattle.std.proofs.Common.{ap, refl, subst, sym, ◌∙◌}
use Rattle.std.proofs.Math.Bool.{and-false, or-true}
use Rattle.std.proofs.lemmas.Bool.{and_parts, cond_both, false_from_ne_true, or_parts, true≢false}
use Rattle.std.specs.FinMap as fin
use Rattle.std.specs.Cmp.{both_ways, eq_by_cmp_equiv}
use Rattle.std.specs.List.{filter, fold, list_any}
use Rattle.std.specs.Ordering.{eq_by_cmp}
use Rattle.std.specs.Prelude.{Bool, List, None, [], cond, false, if◌then◌else◌, is_some, length, nat_le}
use Rattle.std.specs.Prelude.{not, true, unwrap_or, ◌&&◌, ◌||◌, ◌∷◌, ◌≡◌}

-- ---- the keys of one owner

own : (owner : NameValue) (t : RecordType) → is_owned owner (key_of owner t) ≡ true
own owner t = (same_by-equiv exact).refl (lowered owner)

-- the key of a record isn't one of another owner
pub not_under : (r : Record RData) (q : RrKey) → is_owned r.name q ≡ false → is_under r q ≡ false
not_under r q free = false_from_ne_true _ (λ e. true≢false
    (sym (own r.name (type_of_record r)) ∙ ap (is_owned r.name) (same_key (record_key r) q e) ∙ free))

-- the owner of a key that a record stands under
pub under_owner : (r : Record RData) (q : RrKey) → is_under r q ≡ true → is_owned r.name q ≡ true
under_owner r q e = ap (is_owned r.name) (sym (same_key (record_key r) q e)) ∙ own r.name (type_of_record r)

-- an owner whose set is named is named
pub owns_named : (rs : List (Record RData)) (q : RrKey) → names_set rs q ≡ true → names_owner rs q ≡ true
owns_named [] q h = absurd cc
owns_named (r ∷ rs) q h = by (is_under r q) refl h (owns_named rs q) where
  by : (b : Bool) → is_under r q ≡ b → (b || names_set rs q) ≡ true → (names_set rs q ≡ true → names_owner rs q ≡ true)
      → names_owner (r ∷ rs) q ≡ true
  by true e h more = ap (λ b. b || names_owner rs q) (under_owner r q e)
  by false e h more = ap (λ b. is_owned r.name q || b) (more h) ∙ or-true (is_owned r.name q)

-- ---- whether an owner has a type, by what stands under its keys

any_tied_at : (p : RrKey → Bool) (k x : RrKey) (rest tied : Bool) (b : Bool) → eq_by_cmp key_cmp k x ≡ b
    → (b || tied) ≡ true → p k ≡ true → (tied ≡ true → rest ≡ true) → (p x || rest) ≡ true
any_tied_at p k x rest tied true e h good more = ap (λ c. c || rest) (ap p (sym (same_key k x e)) ∙ good)
any_tied_at p k x rest tied false e h good more = ap (λ c. p x || c) (more h) ∙ or-true (p x)

any_tied : (p : RrKey → Bool) (k : RrKey) (ks : List RrKey) → list_any (eq_by_cmp key_cmp k) ks ≡ true → p k ≡ true
    → list_any p ks ≡ true
any_tied p k [] h good = absurd cc
any_tied p k (x ∷ ks) h good = any_tied_at p k x (list_any p ks) (list_any (eq_by_cmp key_cmp k) ks) _ refl h good
    (λ t. any_tied p k ks t good)

abbrev One : (RrKey → Bool) → List RrKey → Type 0
One p ks = (k : RrKey) × (p k ≡ true) × (list_any (eq_by_cmp key_cmp k) ks ≡ true)

one_at : (p : RrKey → Bool) (x : RrKey) (ks : List RrKey) → (list_any p ks ≡ true → One p ks) → (b : Bool) → p x ≡ b
    → (b || list_any p ks) ≡ true → One p (x ∷ ks)
one_at p x ks more true e h = (x, e, ap (λ c. c || list_any (eq_by_cmp key_cmp x) ks) (tied x))
one_at p x ks more false e h =
    let found = more h in
    (found.0, found.1, ap (λ c. eq_by_cmp key_cmp found.0 x || c) found.2 ∙ or-true (eq_by_cmp key_cmp found.0 x))

one_of : (p : RrKey → Bool) (ks : List RrKey) → list_any p ks ≡ true → One p ks
one_of p [] h = absurd cc
one_of p (x ∷ ks) h = one_at p x ks (one_of p ks) (p x) refl h

-- two zones have the same under the keys that pass a test
pub record Agrees (p : RrKey → Bool) (z y : Zone) : Type 0 where
  pub origin : z.origin ≡ y.origin
  pub class : z.class ≡ y.class
  pub sets : (q : RrKey) → p q ≡ true → fin.get z.sets q ≡ fin.get y.sets q

has_one : (p passes : RrKey → Bool) (z y : Zone) → Agrees p z y → ((q : RrKey) → passes q ≡ true → p q ≡ true)
    → list_any passes (fin.keys z.sets) ≡ true → list_any passes (fin.keys y.sets) ≡ true
has_one p passes z y h less any =
    let found = one_of passes (fin.keys z.sets) any in
    any_tied passes found.0 (fin.keys y.sets)
    (sym (fin.contains_key-keys y.sets found.0) ∙ ap is_some (sym (h.sets found.0 (less found.0 found.1)))
    ∙ fin.contains_key-keys z.sets found.0 ∙ found.2) found.1

turned_over : (p : RrKey → Bool) (z y : Zone) → Agrees p z y → Agrees p y z
turned_over p z y h = record { origin = sym h.origin; class = sym h.class; sets = λ q e. sym (h.sets q e) }

-- an update of an owner whose keys all pass the test
module _ (p : RrKey → Bool) (r : Record RData) (all : (q : RrKey) → is_owned r.name q ≡ true → p q ≡ true) where
  same_types : (z y : Zone) (test : RecordType → Bool) → Agrees p z y
      → has_type_at z r.name test ≡ has_type_at y r.name test
  same_types z y test h =
      both_ways _ _ (has_one p (λ k. is_owned r.name k && test k.record_type) z y h less)
      (has_one p (λ k. is_owned r.name k && test k.record_type) y z (turned_over p z y h) less) where
        less : (q : RrKey) → (is_owned r.name q && test q.record_type) ≡ true → p q ≡ true
        less q e = all q (and_parts (is_owned r.name q) (test q.record_type) e).0

  at_key : (z y : Zone) (t : RecordType) → Agrees p z y
      → fin.get z.sets (key_of r.name t) ≡ fin.get y.sets (key_of r.name t)
  at_key z y t h = h.sets (key_of r.name t) (all (key_of r.name t) (own r.name t))

  same_kept_out : (z y : Zone) → Agrees p z y → is_kept_out z r ≡ is_kept_out y r
  same_kept_out z y h i = if is_cname (type_of_record r) then same_types z y (λ t. not (is_cname t)) h i
      else is_some (at_key z y types.CNAME h i)

  same_at : (z y : Zone) → Agrees p z y → at z (record_key r) ≡ at y (record_key r)
  same_at z y h = ap (λ o. unwrap_or o []) (at_key z y (type_of_record r) h)

  same_goes : (z y : Zone) → Agrees p z y → (k : RrKey) → goes_with z r k ≡ goes_with y r k
  same_goes z y h k i = if is_any (type_of_record r)
      then is_owned r.name k && not (same_name r.name (h.origin i) && (is_soa k.record_type || is_ns k.record_type))
      else not (same_name r.name (h.origin i) && (is_soa (type_of_record r) || is_ns (type_of_record r)))
      && is_under r k

  same_needed : (z y : Zone) → Agrees p z y → is_needed z r ≡ is_needed y r
  same_needed z y h i = is_soa (type_of_record r)
      || ((same_name r.name (h.origin i) && (is_soa (type_of_record r) || is_ns (type_of_record r)))
      && nat_le (length (same_at z y h i)) 1)

  put_both : (z y : Zone) (xs ys : List Datum) → xs ≡ ys → Agrees p z y
      → Agrees p (put z (record_key r) xs) (put y (record_key r) ys)
  put_both z y xs ys same h = record {
    origin = h.origin;
    class = h.class;
    sets = λ q e. get_with_set z.sets (record_key r) xs q
        ∙ (λ i. cond (eq_by_cmp key_cmp q (record_key r)) (kept (same i)) (h.sets q e i))
        ∙ sym (get_with_set y.sets (record_key r) ys q);
  }

  left_both : (z y : Zone) → Agrees p z y → Agrees p (update_by OfAny z r) (update_by OfAny y r)
  left_both z y h = record {
    origin = h.origin;
    class = h.class;
    sets = λ q e. retained z.sets (λ k. not (goes_with z r k)) q
        ∙ (λ i. cond (not (same_goes z y h q i)) (h.sets q e i) None)
        ∙ sym (retained y.sets (λ k. not (goes_with y r k)) q);
  }

  either : (b c : Bool) (z y z2 y2 : Zone) → b ≡ c → Agrees p z y → Agrees p z2 y2
      → Agrees p (if b then z else z2) (if c then y else y2)
  either b true z y z2 y2 e h g = subst (λ a. Agrees p (if a then z else z2) y) (sym e) h
  either b false z y z2 y2 e h g = subst (λ a. Agrees p (if a then z else z2) y2) (sym e) g

  by_use : (how : Use) (z y : Zone) → Agrees p z y → Agrees p (update_by how z r) (update_by how y r)
  by_use OfZone z y h = either _ _ z y _ _ (same_kept_out z y h) h
      (put_both z y _ _ (ap (with_datum r) (same_at z y h)) h)
  by_use OfAny z y h = left_both z y h
  by_use OfNone z y h = either _ _ z y _ _ (same_needed z y h) h
      (put_both z y _ _ (ap (λ xs. removed xs r) (same_at z y h)) h)
  by_use OfNothing z y h = h

  pub agrees_next : (z y : Zone) → Agrees p z y → Agrees p (update z r) (update y r)
  agrees_next z y h = subst (λ c. Agrees p (update z r) (update_by (use_of c r.dns_class) y r)) h.class
      (by_use (use_of z.class r.dns_class) z y h)

  after_use : (how : Use) (z y : Zone) (q : RrKey) (xs : List (Record RData)) → Agrees p z y
      → after_by how z r q xs ≡ after_by how y r q xs
  after_use OfZone z y q xs h = λ i. if not (same_kept_out z y h i) && is_under r q then with_record r xs else xs
  after_use OfAny z y q xs h = λ i. if same_goes z y h q i then [] else xs
  after_use OfNone z y q xs h = λ i. if not (same_needed z y h i) && is_under r q then without r xs else xs
  after_use OfNothing z y q xs h = refl

  pub after_same : (z y : Zone) (q : RrKey) (xs : List (Record RData)) → Agrees p z y
      → after_update z r q xs ≡ after_update y r q xs
  after_same z y q xs h = after_use (use_of z.class r.dns_class) z y q xs h
      ∙ ap (λ c. after_by (use_of c r.dns_class) y r q xs) h.class

-- what an update leaves of another owner
module _ (r : Record RData) (q : RrKey) (free : is_owned r.name q ≡ false) where
  not_gone : (z : Zone) → goes_with z r q ≡ false
  not_gone z = by (is_any (type_of_record r)) where
    by : (b : Bool) → (if b then is_owned r.name q && not (is_guarded z r.name q.record_type)
        else not (is_guarded z r.name (type_of_record r)) && is_under r q) ≡ false
    by true = ap (λ b. b && not (is_guarded z r.name q.record_type)) free
    by false = ap (λ b. not (is_guarded z r.name (type_of_record r)) && b) (not_under r q free)
        ∙ and-false (not (is_guarded z r.name (type_of_record r)))

  not_both : (a b : Bool) → b ≡ false → (a && b) ≡ false
  not_both a b e = ap (λ c. a && c) e ∙ and-false a

  after_use_there : (how : Use) (z : Zone) (xs : List (Record RData)) → after_by how z r q xs ≡ xs
  after_use_there OfZone z xs = ap (λ b. if b then with_record r xs else xs)
      (not_both (not (is_kept_out z r)) (is_under r q) (not_under r q free))
  after_use_there OfAny z xs = ap (λ b. if b then [] else xs) (not_gone z)
  after_use_there OfNone z xs = ap (λ b. if b then without r xs else xs)
      (not_both (not (is_needed z r)) (is_under r q) (not_under r q free))
  after_use_there OfNothing z xs = refl

-- origin and class stay
abbrev AtPlace : Zone → Zone → Type 0
AtPlace z y = (y.origin ≡ z.origin) × (y.class ≡ z.class)

same_place_by : (how : Use) (z : Zone) (r : Record RData) → AtPlace z (update_by how z r)
same_place_by OfZone z r = cond_both (is_kept_out z r) z _ (AtPlace z) (λ _. (refl, refl)) (λ _. (refl, refl))
same_place_by OfAny z r = (refl, refl)
same_place_by OfNone z r = cond_both (is_needed z r) z _ (AtPlace z) (λ _. (refl, refl)) (λ _. (refl, refl))
same_place_by OfNothing z r = (refl, refl)

-- ---- updates one after the other

named_more : (r : Record RData) (rs : List (Record RData)) (q : RrKey) → names_owner rs q ≡ true
    → names_owner (r ∷ rs) q ≡ true
named_more r rs q h = ap (λ b. is_owned r.name q || b) h ∙ or-true (is_owned r.name q)

named_first : (r : Record RData) (rs : List (Record RData)) (q : RrKey) → is_owned r.name q ≡ true
    → names_owner (r ∷ rs) q ≡ true
named_first r rs q h = ap (λ b. b || names_owner rs q) h

module _ (p : RrKey → Bool) where
  pub records_same : (rs : List (Record RData)) (z y : Zone) (q : RrKey) (xs : List (Record RData))
      → ((q : RrKey) → names_owner rs q ≡ true → p q ≡ true) → Agrees p z y
      → records_after z rs q xs ≡ records_after y rs q xs
  records_same [] z y q xs all h = refl
  records_same (r ∷ rs) z y q xs all h =
      ap (records_after (update z r) rs q) (after_same p r (λ q e. all q (named_first r rs q e)) z y q xs h)
      ∙ records_same rs (update z r) (update y r) q (after_update y r q xs) (λ q e. all q (named_more r rs q e))
      (agrees_next p r (λ q e. all q (named_first r rs q e)) z y h)

pub same_place : (rs : List (Record RData)) (z : Zone)
    → ((fold update z rs).origin ≡ z.origin) × ((fold update z rs).class ≡ z.class)
same_place [] z = (refl, refl)
same_place (r ∷ rs) z =
    let more = same_place rs (update z r) in
    let one = same_place_by (use_of z.class r.dns_class) z r in
    (more.0 ∙ one.0, more.1 ∙ one.1)

-- the records of an owner that none names stay
pub records_stay : (rs : List (Record RData)) (z : Zone) (q : RrKey) (xs : List (Record RData))
    → names_owner rs q ≡ false → records_after z rs q xs ≡ xs
records_stay [] z q xs free = refl
records_stay (r ∷ rs) z q xs free =
    let parts = or_parts (is_owned r.name q) (names_owner rs q) free in
    records_stay rs (update z r) q _ parts.1 ∙ after_use_there r q parts.0 (use_of z.class r.dns_class) z xs

-- ---- the updates of one owner

module _ (q : RrKey) where
  -- whether a key is of the owner of q
  abbrev beside : RrKey → Bool
  beside k = same_lower q.name k.name

  -- the updates of that owner
  abbrev pub own_updates : List (Record RData) → List (Record RData)
  own_updates rs = filter (λ r. is_owned r.name q) rs

  both_of : (r : Record RData) (k : RrKey) → is_owned r.name q ≡ true → is_owned r.name k ≡ true → beside k ≡ true
  both_of r k h i = ap (λ n. same_lower n k.name) (sym (same_lower-exact (lowered r.name) q.name h)) ∙ i

  either_own : (r : Record RData) (rest : Bool) (k : RrKey) → is_owned r.name q ≡ true → (rest ≡ true → beside k ≡ true)
      → (b : Bool) → is_owned r.name k ≡ b → (b || rest) ≡ true → beside k ≡ true
  either_own r rest k e more true f t = both_of r k e f
  either_own r rest k e more false f t = more t

  own_more : (r : Record RData) (us : List (Record RData)) (k : RrKey) → (names_owner us k ≡ true → beside k ≡ true)
      → (b : Bool) → is_owned r.name q ≡ b → names_owner (cond b (r ∷ us) us) k ≡ true → beside k ≡ true
  own_more r us k more true e t = either_own r (names_owner us k) k e more (is_owned r.name k) refl t
  own_more r us k more false e t = more t

  pub own_beside : (rs : List (Record RData)) (k : RrKey) → names_owner (own_updates rs) k ≡ true → beside k ≡ true
  own_beside [] k h = absurd cc
  own_beside (r ∷ rs) k h = own_more r (own_updates rs) k (λ t. own_beside rs k t) (is_owned r.name q) refl h

  named_more_own : (r : Record RData) (rs us : List (Record RData)) → (names_set us q ≡ true → names_set rs q ≡ true)
      → (b : Bool) → names_set (cond b (r ∷ us) us) q ≡ true → names_set (r ∷ rs) q ≡ true
  named_more_own r rs us more true t = either (is_under r q) t where
    either : (c : Bool) → (c || names_set us q) ≡ true → (c || names_set rs q) ≡ true
    either true t = refl
    either false t = more t
  named_more_own r rs us more false t = ap (λ b. is_under r q || b) (more t) ∙ or-true (is_under r q)

  pub own_named : (rs : List (Record RData)) → names_set (own_updates rs) q ≡ true → names_set rs q ≡ true
  own_named [] h = h
  own_named (r ∷ rs) h = named_more_own r rs (own_updates rs) (own_named rs) (is_owned r.name q) h

  -- an update of another owner leaves those keys
  module _ (r : Record RData) (free : is_owned r.name q ≡ false) where
    other : (k : RrKey) → beside k ≡ true → is_owned r.name k ≡ false
    other k h = sym (ap (same_lower (lowered r.name)) (same_lower-exact q.name k.name h)) ∙ free

    same : (z : Zone) → Agrees beside z z
    same z = record { origin = refl; class = refl; sets = λ k h. refl }

    put_beside : (z : Zone) (xs : List Datum) → Agrees beside z (put z (record_key r) xs)
    put_beside z xs = record {
      origin = refl;
      class = refl;
      sets = λ k h. sym (get_with_set z.sets (record_key r) xs k ∙ ap (λ b. cond b (kept xs) (fin.get z.sets k))
          ((eq_by_cmp_equiv key_cmp-total).symm k (record_key r) ∙ not_under r k (other k h)));
    }

    agrees_beside : (how : Use) (z : Zone) → Agrees beside z (update_by how z r)
    agrees_beside OfZone z = cond_both (is_kept_out z r) z _ (Agrees beside z) (λ _. same z) (λ _. put_beside z _)
    agrees_beside OfAny z = record {
      origin = refl;
      class = refl;
      sets = λ k h. sym (retained z.sets (λ k. not (goes_with z r k)) k
          ∙ ap (λ b. cond (not b) (fin.get z.sets k) None) (not_gone r k (other k h) z));
    }
    agrees_beside OfNone z = cond_both (is_needed z r) z _ (Agrees beside z) (λ _. same z) (λ _. put_beside z _)
    agrees_beside OfNothing z = same z

  of_owner_next : (r : Record RData) (rs : List (Record RData)) (z : Zone) (xs : List (Record RData))
      → ((z : Zone) (xs : List (Record RData)) → records_after z (own_updates rs) q xs ≡ records_after z rs q xs)
      → (b : Bool) → is_owned r.name q ≡ b
      → records_after z (cond b (r ∷ own_updates rs) (own_updates rs)) q xs ≡ records_after z (r ∷ rs) q xs
  of_owner_next r rs z xs more true e = more (update z r) (after_update z r q xs)
  of_owner_next r rs z xs more false e =
      records_same beside (own_updates rs) z (update z r) q xs (own_beside rs)
      (agrees_beside r e (use_of z.class r.dns_class) z)
      ∙ more (update z r) xs
      ∙ ap (records_after (update z r) rs q) (sym (after_use_there r q e (use_of z.class r.dns_class) z xs))

  -- what updates leave under a key those of its owner leave there
  pub of_owner : (rs : List (Record RData)) (z : Zone) (xs : List (Record RData))
      → records_after z (own_updates rs) q xs ≡ records_after z rs q xs
  of_owner [] z xs = refl
  of_owner (r ∷ rs) z xs = of_owner_next r rs z xs (of_owner rs) (is_owned r.name q) refl
