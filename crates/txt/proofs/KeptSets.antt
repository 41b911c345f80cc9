-- The sets of a zone stay as they stand under their keys.
use Rattle.std.proofs.Common.{◌≡◌, ◌≢◌, ◌≤◌, ◌++◌, List, [], ◌∷◌, length, refl, ap, sym, subst, arith, Bool, true}
use Rattle.std.proofs.Common.{false}
use Rattle.std.specs.BTreeMap.{is_at}
use Rattle.std.specs.Bool.{beq}
use Rattle.std.specs.List.{AllByRecursion, list_any}
use Rattle.std.specs.Prelude.{◌&&◌, if◌then◌else◌}
use Rattle.base.proofs.names.KeyLemmas.{key_cmp-exact}
use Rattle.base.specs.names.Labels.{NameValue}
use Rattle.base.specs.names.NameOrder.{folded, lowered, same_labels, same_name}
use Rattle.base.specs.names.NameOrderLaws.{same_by-equiv}
use Rattle.base.specs.RrKey.{key_cmp, key_of}
use Rattle.base.specs.declared.rr_key.RrKey.{RrKey}
use Rattle.base_data.specs.declared.rdata.RData.{RData}
use Rattle.rr.proofs.SetTidy.{insert_keeps_tidy, one_is_tidy}
use Rattle.rr.specs.RecordSet.{SetValue, set_of}
use Rattle.rr.specs.SetChanges.{MayEnter, beside, has_data_of, holds_one, insert, is_left, joined, replaced}
use Rattle.rr.specs.declared.record.Record.{Record}
use Rattle.txt.specs.ZoneSets.{IsKeyed}
use Rattle.rr.specs.Record.{record_key}
use Rattle.std.proofs.lemmas.Map.Views.{tells_apart}
use Rattle.std.proofs.lemmas.Bool.Decides.{nat_tests}

-- what ties is the same key
pub same_key : (a b : RrKey) → is_at (key_cmp a) b ≡ true → a ≡ b
same_key a b is = tells_apart key_cmp-exact a b is

-- names of one lower case are the same
same_of_lower : (a b : NameValue) → lowered a ≡ lowered b → same_name a b ≡ true
same_of_lower a b is =
    subst (λ (n : NameValue). (beq n.absolute b.absolute && same_labels n.labels (folded b)) ≡ true) (sym is)
    ((same_by-equiv folded).refl b)

-- a record may enter the set that is kept under its key
pub enters : (set : SetValue) (r : Record RData) → IsKeyed (record_key r) set → MayEnter set r
enters set r kept = record {
  owner = same_of_lower set.name r.name (ap (λ (k : RrKey). k.name) (sym kept.key_is));
  own_type = ap (λ (k : RrKey). k.record_type) kept.key_is;
  single = kept.single;
}

-- what holds of a set, and of the set that the record was joined to, holds after `insert`
insert_cases : (P : SetValue → Type 0) (set : SetValue) (r : Record RData) → P set
    → P (record set { records = joined r (beside set.record_type set.records); ttl = r.ttl; serial = 0 })
    → P (insert set r 0).1
insert_cases P set r same changed = go (is_left set.record_type set.records r) where
  go : (b : Bool) → P (if◌then◌else◌ {A = Bool × SetValue} b (false, set)
      (true, record set { records = joined r (beside set.record_type set.records); ttl = r.ttl; serial = 0 })).1
  go true = same
  go false = changed

some_joined : (r : Record RData) (xs : List (Record RData)) → joined r xs ≢ []
some_joined r [] = λ none. let e : ⊥ = cc in e
some_joined r (x ∷ xs) = λ none. let e : ⊥ = cc in e

one_of : (r : Record RData) (xs : List (Record RData)) (b : Bool) → b ≡ true
    → length (joined r (if b then [] else xs)) ≤ 1
one_of r xs b is = rw is (omega arith)

-- each record has the name of the set, before and after `insert`
abbrev OwnOwner : NameValue → List (Record RData) → Type 0
OwnOwner name = AllByRecursion (λ (x : Record RData). same_name x.name name ≡ true)

own_replaced : (name : NameValue) (r : Record RData) → same_name r.name name ≡ true → (xs : List (Record RData))
    → OwnOwner name xs → OwnOwner name (replaced r xs)
own_replaced name r own [] all = tt
own_replaced name r own (x ∷ xs) all =
    (grind (arith, nat_tests, own, all.0), own_replaced name r own xs all.1)

-- what holds of both holds of all
pub append_all : {X : Type 0} (P : X → Type 0) (xs ys : List X) → AllByRecursion P xs → AllByRecursion P ys
    → AllByRecursion P (xs ++ ys)
append_all P [] ys own more = more
append_all P (x ∷ xs) ys own more = (own.0, append_all P xs ys own.1 more)

own_joined : (name : NameValue) (r : Record RData) → same_name r.name name ≡ true → (xs : List (Record RData))
    → OwnOwner name xs → OwnOwner name (joined r xs)
own_joined name r own xs all = append_all _ (replaced r xs) _ (own_replaced name r own xs all)
    (last (list_any (has_data_of r) xs)) where
      last : (b : Bool) → OwnOwner name (if b then [] else r ∷ [])
      last true = tt
      last false = (own, tt)

own_beside : (name : NameValue) (b : Bool) (xs : List (Record RData)) → OwnOwner name xs
    → OwnOwner name (if b then [] else xs)
own_beside name true xs all = tt
own_beside name false xs all = all

-- the set is kept with one record more
pub insert_kept : (set : SetValue) (r : Record RData) → IsKeyed (record_key r) set
    → IsKeyed (record_key r) (insert set r 0).1
insert_kept set r kept = record {
  key_is = insert_cases (λ s. record_key r ≡ key_of s.name s.record_type) set r kept.key_is kept.key_is;
  some = insert_cases (λ s. s.records ≢ []) set r kept.some (some_joined r (beside set.record_type set.records));
  own_owner = insert_cases (λ s. OwnOwner s.name s.records) set r kept.own_owner
      (own_joined set.name r (same_of_lower r.name set.name (ap (λ (k : RrKey). k.name) kept.key_is))
      (beside set.record_type set.records)
      (own_beside set.name (holds_one set.record_type) set.records kept.own_owner));
  tidy = insert_keeps_tidy set r 0 (enters set r kept) kept.tidy;
  single = insert_cases (λ s. holds_one s.record_type ≡ true → length s.records ≤ 1) set r kept.single
      (one_of r set.records (holds_one set.record_type));
}

-- the set of a record is kept under its key
pub new_kept : (r : Record RData) → IsKeyed (record_key r) (set_of r)
new_kept r = record {
  key_is = refl;
  some = λ none. let e : ⊥ = cc in e;
  own_owner = (same_of_lower r.name r.name refl, tt);
  tidy = one_is_tidy r;
  single = λ holds. omega arith;
}
