-- Steps of looking at the sets that prerequisites by value name.
use Rattle.base.specs.RrKey.{key_cmp}
use Rattle.base.specs.declared.dns_class.DNSClass.{DNSClass}
use Rattle.base.specs.declared.rr_key.RrKey.{RrKey}
use Rattle.base_data.specs.SameData.{same_data}
use Rattle.base_data.specs.declared.rdata.RData.{RData}
use Rattle.rr.proofs.SetLaws.{laws}
use Rattle.op_use.proofs.ZoneSteps.{same_key}
use Rattle.op_use.specs.Applying.{records_in}
use Rattle.op_use.specs.MapFaults.{AreComplete, asks_for, complete_at, is_by_value, there_under}
use Rattle.op_use.specs.Server.{is_same_key}
use Rattle.rr.specs.Record.{record_key}
use Rattle.rr.specs.RecordSet.{SetValue}
use Rattle.rr.specs.SetChanges.{has_data_of}
use Rattle.rr.specs.declared.record.Record.{Record}
use Rattle.std.proofs.Common.{ap, is_some, refl, sym, ◌∙◌}
use Rattle.std.proofs.lemmas.Bool.{and_from}
use Rattle.std.proofs.lemmas.List.Folds.{list_any_at}
use Rattle.std.proofs.lemmas.List.{at_drop_all, at_drop_more}
use Rattle.std.proofs.Math.Bool.{and-false, and-true}
use Rattle.std.specs.BTreeMap as tree
use Rattle.std.specs.BTreeMap.{BTreeMap}
use Rattle.std.specs.List.{IsAmong, list_all, list_any}
use Rattle.std.specs.Ordering.{eq_by_cmp}
use Rattle.std.specs.Prelude.{Bool, List, None, Some, cond, drop, false, length, not, slice_index_or, true}
use Rattle.std.specs.Prelude.{ℕ, ◌&&◌, ◌+◌, ◌<◌, ◌≤◌, ◌||◌, ◌≡◌}

-- a record that fails a test is passed over
pub passed_by : (p : Record RData → Bool) (xs : List (Record RData)) (i : ℕ) (x : Record RData) (b : Bool)
    → i < length xs → x ≡ slice_index_or xs i x → p x ≡ false
    → list_any p (drop i xs) ≡ b → list_any p (drop (i + 1) xs) ≡ b
passed_by p xs i x b h e fails left = sym (at_drop_more (list_any p) xs i x h
    ∙ (λ j. (ap p (sym e) ∙ fails) j || list_any p (drop (i + 1) xs))) ∙ left

-- what is left of a test of all
pub one_fails : (p : Record RData → Bool) (xs : List (Record RData)) (i : ℕ) (x : Record RData) (b : Bool)
    → i < length xs → x ≡ slice_index_or xs i x → p x ≡ false
    → list_all p (drop i xs) ≡ b → false ≡ b
one_fails p xs i x b h e fails left = sym (at_drop_more (list_all p) xs i x h
    ∙ (λ j. (ap p (sym e) ∙ fails) j && list_all p (drop (i + 1) xs))) ∙ left

pub all_done : (p : Record RData → Bool) (xs : List (Record RData)) (i : ℕ) (b : Bool) → length xs ≤ i
    → list_all p (drop i xs) ≡ b → true ≡ b
all_done p xs i b h left = sym (at_drop_all (list_all p) xs i h) ∙ left

pub among_any : (p : Record RData → Bool) (xs : List (Record RData)) (x : Record RData) → IsAmong xs x → p x ≡ true
    → list_any p xs ≡ true
among_any p xs x h good = list_any_at p xs h.0 x h.1.0 (ap p (sym h.1.1) ∙ good)

pub set_false : (a b c : Bool) → (a && b) ≡ false → (a && (b && c)) ≡ false
set_false true b c e = ap (λ x. x && c) e
set_false false b c e = refl

pub third_false : (a b c : Bool) → c ≡ false → (a && (b && c)) ≡ false
third_false a b c e = ap (λ x. a && (b && x)) e ∙ ap (λ x. a && x) (and-false b) ∙ and-false a

-- a record by value that lists the data of x for the set of r
pub asked_by : (class : DNSClass) (r x q : Record RData) (rs : List (Record RData)) → IsAmong rs q
    → same_data q.rdata x.rdata ≡ true → is_by_value class q ≡ true → is_same_key r q ≡ true
    → list_any (asks_for class r x) rs ≡ true
asked_by class r x q rs among same own named =
    among_any (asks_for class r x) rs q among
    (and_from (is_by_value class q) (is_same_key r q && has_data_of q x) own
    (and_from (is_same_key r q) (has_data_of q x) named (laws.symm x.rdata q.rdata ∙ same)))

module _ (m : BTreeMap RrKey SetValue) (class : DNSClass) (all : List (Record RData)) where
  -- whether a prerequisite passes, if it is by value
  abbrev pub passes : Record RData → Bool
  passes r = not (is_by_value class r) || (there_under m r (record_key r) && complete_at m class all (record_key r))

  pub passed : (r : Record RData) (b : Bool) → is_by_value class r ≡ true
      → b ≡ (there_under m r (record_key r) && complete_at m class all (record_key r)) → passes r ≡ b
  passed r b own met = ap (λ x. not x || (there_under m r (record_key r) && complete_at m class all (record_key r))) own
      ∙ sym met

  known_at : {V : Type 0} (held : BTreeMap RrKey V) (k q : RrKey) (v : V) (b : Bool) → eq_by_cmp key_cmp k q ≡ b
      → complete_at m class all k ≡ true → AreComplete m class all held
      → is_some (cond b (Some v) (tree.get key_cmp held q)) ≡ true → complete_at m class all q ≡ true
  known_at held k q v true t good h e = ap (complete_at m class all) (sym (same_key k q t)) ∙ good
  known_at held k q v false t good h e = h q e

  -- one more
  pub known_more : {V : Type 0} (held after : BTreeMap RrKey V) (k : RrKey) (v : V) → complete_at m class all k ≡ true
      → AreComplete m class all held → tree.Updates key_cmp held after k (Some v)
      → AreComplete m class all after
  known_more held after k v good h puts = λ q e. known_at held k q v (eq_by_cmp key_cmp k q) refl good h
      (ap is_some (sym (puts.0 q)) ∙ e)

  -- what was found of the set under a key
  pub complete_is : (r : Record RData) (k : RrKey) (s : SetValue) (xs : List (Record RData)) (b : Bool)
      → k ≡ record_key r → tree.get key_cmp m k ≡ Some s → xs ≡ s.records
      → b ≡ list_all (λ x. list_any (asks_for class r x) all) xs → complete_at m class all k ≡ b
  complete_is r k s xs b same e is found =
      (λ i. list_all (λ x. list_any (λ q. is_by_value class q
      && (eq_by_cmp key_cmp (same i) (record_key q) && has_data_of q x)) all) ((ap records_in e ∙ sym is) i))
      ∙ sym found

  pub there_is : (r : Record RData) (k : RrKey) (s : SetValue) (xs : List (Record RData)) (b : Bool) → k ≡ record_key r
      → tree.get key_cmp m k ≡ Some s → xs ≡ s.records
      → b ≡ list_any (has_data_of r) xs → there_under m r (record_key r) ≡ b
  there_is r k s xs b same e is found = ap (there_under m r) (sym same)
      ∙ ap (list_any (has_data_of r)) (ap records_in e ∙ sym is) ∙ sym found

  -- whether it has the data of a record, where it has only data that is listed
  pub both_known : (r : Record RData) (k : RrKey) (b : Bool) → k ≡ record_key r → there_under m r (record_key r) ≡ b
      → complete_at m class all k ≡ true
      → b ≡ (there_under m r (record_key r) && complete_at m class all (record_key r))
  both_known r k b same there good = sym ((λ i. there i && (ap (complete_at m class all) (sym same) ∙ good) i)
      ∙ and-true b)

  -- no set is there
  pub none_there : (r : Record RData) (k : RrKey) → k ≡ record_key r → tree.get key_cmp m k ≡ None
      → false ≡ (there_under m r (record_key r) && complete_at m class all (record_key r))
  none_there r k same e = ap (λ b. b && complete_at m class all (record_key r))
      (sym (ap (there_under m r) (sym same) ∙ ap (list_any (has_data_of r)) (ap records_in e)))

  pub not_listed : (r : Record RData) (k : RrKey) → k ≡ record_key r → complete_at m class all k ≡ false
      → false ≡ (there_under m r (record_key r) && complete_at m class all (record_key r))
  not_listed r k same bad = sym (ap (λ x. there_under m r (record_key r) && x)
      (ap (complete_at m class all) (sym same) ∙ bad) ∙ and-false (there_under m r (record_key r)))
