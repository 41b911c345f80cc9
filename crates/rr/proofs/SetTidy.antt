-- Tidy sets stay tidy.
use Rattle.std.proofs.Common.{ℕ, Bool, true, false, not, List, [], ◌∷◌, ◌++◌, ◌≡◌, ◌≤◌, ◌||◌, refl, sym}
use Rattle.std.proofs.Common.{subst, ◌∙◌, length, filter, arith, if◌then◌else◌}
use Rattle.std.specs.List.{AllByRecursion, IsDistinct, list_any}
use Rattle.std.proofs.lemmas.Bool.{cond_both, or_parts}
use Rattle.std.proofs.lemmas.List.{append-nil}
use Rattle.std.proofs.lemmas.List.Filters.{length-filter_both}
use Rattle.base.specs.names.Labels.{NameValue}
use Rattle.base.specs.declared.record_type.RecordType.{RecordType}
use Rattle.base.specs.declared.record_type.RecordType.TheVariants as types
use Rattle.base_data.specs.Kinds.{type_of_data}
use Rattle.base_data.specs.SameData.{same_data}
use Rattle.base_data.specs.declared.rdata.RData.{RData}
use Rattle.rr.specs.RecordSet.{IsTidy, SetValue, empty_set, is_soa, set_of}
use Rattle.rr.specs.SetChanges.{MayAdd, MayEnter, add_data, beside, has_data_of, holds_one, insert, is_kept, is_left}
use Rattle.rr.specs.SetChanges.{joined, own_record, remove, replaced}
use Rattle.rr.specs.declared.record.Record.{Record}
use Rattle.rr.proofs.SetLaws.{Distinct, Far, apart, grown, laws, parts_of}
use Rattle.rr.proofs.SetSteps.{may_enter, replaced_none}

-- what holds of each record, and of r, holds of each record where r was joined to them
all_append : (P : Record RData → Type 0) (xs ys : List (Record RData)) → AllByRecursion P xs → AllByRecursion P ys
    → AllByRecursion P (xs ++ ys)
all_append P [] ys h k = k
all_append P (x ∷ xs) ys h k = (h.0, all_append P xs ys h.1 k)

all_replaced : (P : Record RData → Type 0) (r : Record RData) (xs : List (Record RData)) → P r → AllByRecursion P xs
    → AllByRecursion P (replaced r xs)
all_replaced P r [] h k = tt
all_replaced P r (x ∷ xs) h k = (cond_both (has_data_of r x) r x P (λ _. h) (λ _. k.0), all_replaced P r xs h k.1)

all_joined : (P : Record RData → Type 0) (r : Record RData) (xs : List (Record RData)) → P r → AllByRecursion P xs
    → AllByRecursion P (joined r xs)
all_joined P r xs h k = all_append P (replaced r xs) _ (all_replaced P r xs h k)
    (cond_both (list_any (has_data_of r) xs) [] (r ∷ []) (AllByRecursion P) (λ _. tt) (λ _. (h, tt)))

-- data that is far from some stays far from them where r takes the place of equal data
far_replaced : (z r : Record RData) (xs : List (Record RData)) → Far z xs → Far z (replaced r xs)
far_replaced z r [] far = tt
far_replaced z r (y ∷ ys) far = (
  cond_both (has_data_of r y) r y (λ q. same_data z.rdata q.rdata ≡ false) (apart z y r far.0) (λ _. far.0),
  far_replaced z r ys far.1,
)

far_same : (x r : Record RData) (ys : List (Record RData)) → same_data x.rdata r.rdata ≡ true → Far x ys → Far r ys
far_same x r [] e far = tt
far_same x r (y ∷ ys) e far = (sym (laws.congr x.rdata r.rdata y.rdata e) ∙ far.0, far_same x r ys e far.1)

distinct_of : (x : Record RData) (xs : List (Record RData)) → Far x xs → Distinct xs → Distinct (x ∷ xs)
unfolding IsDistinct
distinct_of x xs far d = (far, d)

pub distinct_none : Distinct []
unfolding IsDistinct
distinct_none = tt

distinct_replaced : (r : Record RData) (xs : List (Record RData)) → Distinct xs → Distinct (replaced r xs)
distinct_replaced r [] d = distinct_none
distinct_replaced r (x ∷ xs) d =
    let parts : Far x xs × Distinct xs = parts_of x xs d in
    let far = far_replaced x r xs parts.0 in
    distinct_of (if has_data_of r x then r else x) (replaced r xs) (cond_both (has_data_of r x) r x
    (λ q. Far q (replaced r xs)) (λ e. far_same x r (replaced r xs) e far) (λ _. far)) (distinct_replaced r xs parts.1)

distinct_pushed : (r : Record RData) (xs : List (Record RData)) → list_any (has_data_of r) xs ≡ false → Distinct xs
    → Distinct (xs ++ r ∷ [])
distinct_pushed r [] h d = distinct_of r [] tt distinct_none
distinct_pushed r (x ∷ xs) h d =
    let parts : Far x xs × Distinct xs = parts_of x xs d in
    let none : (has_data_of r x ≡ false) × (list_any (has_data_of r) xs ≡ false) = or_parts (has_data_of r x) _ h in
    distinct_of x (xs ++ r ∷ []) (all_append (λ q. same_data x.rdata q.rdata ≡ false) xs (r ∷ []) parts.0 (none.0, tt))
    (distinct_pushed r xs none.1 parts.1)

pub distinct_joined : (r : Record RData) (xs : List (Record RData)) → Distinct xs → Distinct (joined r xs)
distinct_joined r xs d = cond_both (list_any (has_data_of r) xs) [] (r ∷ []) (λ zs. Distinct (replaced r xs ++ zs))
    (λ _. subst Distinct (sym (append-nil (replaced r xs))) (distinct_replaced r xs d))
    (λ h. subst (λ ys. Distinct (ys ++ r ∷ [])) (sym (replaced_none r xs h)) (distinct_pushed r xs h d))

soa_is_one : (t : RecordType) → is_soa t ≡ true → holds_one t ≡ true
soa_is_one types.SOA h = refl
soa_is_one _ h = cc

alone : (r : Record RData) (rs : List (Record RData)) (b : Bool) → b ≡ true
    → length (joined r (if b then [] else rs)) ≤ 1
alone r rs true h = omega arith
alone r rs false h = cc

pub insert_keeps_tidy : (set : SetValue) (r : Record RData) (serial : ℕ) → MayEnter set r → IsTidy set
    → IsTidy (insert set r serial).1
insert_keeps_tidy set r serial enters tidy =
    let Own : Record RData → Type 0 = λ x. type_of_data x.rdata ≡ set.record_type in
    let own : AllByRecursion Own (beside set.record_type set.records) =
    cond_both (holds_one set.record_type) [] set.records (AllByRecursion Own) (λ _. tt) (λ _. tidy.own_type) in
    cond_both (is_left set.record_type set.records r) (false, set) (true, grown set r serial)
    (λ (p : Bool × SetValue). IsTidy p.1) (λ _. tidy) (λ _. record {
      own_type = all_joined Own r (beside set.record_type set.records) enters.own_type own;
      distinct = distinct_joined r (beside set.record_type set.records)
          (cond_both (holds_one set.record_type) [] set.records Distinct (λ _. distinct_none) (λ _. tidy.distinct));
      single = λ soa. alone r set.records (holds_one set.record_type) (soa_is_one set.record_type soa);
    })

pub add_keeps_tidy : (set : SetValue) (rdata : RData) → MayAdd set rdata → IsTidy set → IsTidy (add_data set rdata).1
add_keeps_tidy set rdata enters tidy = insert_keeps_tidy set (own_record set rdata) 0
    (may_enter set (own_record set rdata) rdata enters refl refl) tidy

-- what is left of records
all_left : (P : Record RData → Type 0) (test : Record RData → Bool) (xs : List (Record RData)) → AllByRecursion P xs
    → AllByRecursion P (filter test xs)
all_left P test [] h = tt
all_left P test (x ∷ xs) h = cond_both (test x) (x ∷ filter test xs) (filter test xs) (AllByRecursion P)
    (λ _. (h.0, all_left P test xs h.1)) (λ _. all_left P test xs h.1)

pub distinct_left : (test : Record RData → Bool) (xs : List (Record RData)) → Distinct xs → Distinct (filter test xs)
distinct_left test [] d = distinct_none
distinct_left test (x ∷ xs) d =
    let parts : Far x xs × Distinct xs = parts_of x xs d in
    let left = distinct_left test xs parts.1 in
    cond_both (test x) (x ∷ filter test xs) (filter test xs) Distinct
    (λ _. distinct_of x (filter test xs) (all_left (λ q. same_data x.rdata q.rdata ≡ false) test xs parts.0) left)
    (λ _. left)

fewer_left : (test : Record RData → Bool) (xs : List (Record RData)) → length (filter test xs) ≤ length xs
fewer_left test xs = omega (arith, length-filter_both test (λ x. not (test x)) (λ x. refl) xs)

pub remove_keeps_tidy : (set : SetValue) (r : Record RData) (serial : ℕ) → IsTidy set → IsTidy (remove set r serial).1
remove_keeps_tidy set r serial tidy =
    let test : Record RData → Bool = λ x. not (has_data_of r x) in
    let left = record set { records = filter test set.records; serial = serial } in
    cond_both (is_kept set (type_of_data r.rdata) || not (list_any (has_data_of r) set.records)) (false, set)
    (true, left) (λ (p : Bool × SetValue). IsTidy p.1) (λ _. tidy) (λ _. record {
      own_type = all_left (λ x. type_of_data x.rdata ≡ set.record_type) test set.records tidy.own_type;
      distinct = distinct_left test set.records tidy.distinct;
      single = λ soa. omega (arith, fewer_left test set.records, tidy.single soa);
    })

pub empty_is_tidy : (name : NameValue) (type : RecordType) (ttl serial : ℕ) → IsTidy (empty_set name type ttl serial)
empty_is_tidy name type ttl serial = record { own_type = tt; distinct = distinct_none; single = λ soa. omega arith }

pub one_is_tidy : (r : Record RData) → IsTidy (set_of r)
one_is_tidy r = record {
  own_type = (refl, tt);
  distinct = distinct_of r [] tt distinct_none;
  single =
      λ soa. omega arith;
}
