-- Laws of record sets.
use Rattle.std.proofs.Common.{ℕ, Bool, true, false, not, cond, List, [], ◌∷◌, ◌≡◌, ◌≢◌, ◌<◌, ◌||◌, ◌&&◌, ◌++◌, nat_eq}
use Rattle.std.proofs.Common.{nat_le, refl, sym, ap, subst, ◌∙◌, length, arith, if◌then◌else◌, ⊎_elim}
use Rattle.std.specs.List.{list_any, AllByRecursion, IsDistinct}
use Rattle.std.specs.Ordering.{on}
use Rattle.std.specs.Cmp.{IsEquivalence, nat_eq_equiv}
use Rattle.std.proofs.lemmas.Bool.{cond-true, cond_both, and_parts, false_from_ne_true, or_parts, not-false, leb-false}
use Rattle.std.proofs.lemmas.Bool.{or_cases}
use Rattle.std.proofs.lemmas.Bool.{true≢false}
use Rattle.std.proofs.lemmas.List.{append-nil}
use Rattle.base_data.specs.Kinds.{type_of_data}
use Rattle.base_data.specs.declared.rdata.RData.{RData}
use Rattle.base_data.specs.SameData.{same_data}
use Rattle.base_data.specs.contracts.rdata.RDataEq.TheImpl.Laws.{laws-law as data_laws}
use Rattle.base_data.specs.declared.rdata.RData.TheVariants as kinds
use Rattle.base_data.proofs.EqualData.{one_type}
use Rattle.base.specs.declared.record_type.RecordType.{RecordType}
use Rattle.base.specs.declared.record_type.RecordType.TheVariants as types
use Rattle.std.proofs.Math.Bool.{or-true}
use Rattle.rr.specs.declared.record.Record.{Record}
use Rattle.rr.specs.RecordSet.{IsTidy, SetValue, is_ns, is_soa, same_entry, same_entry-equiv}
use Rattle.rr.specs.SetChanges.{beside, has_data_of, has_entry, insert, is_kept, is_later, is_left, joined, own_record}
use Rattle.rr.specs.SetChanges.{remove, replaced, without}
use Rattle.rr.specs.SetLaws.{IsRaised, StaysFilled}

pub laws : IsEquivalence same_data
laws = data_laws

abbrev pub Distinct : List (Record RData) → Type 0
Distinct rs = IsDistinct (on (λ (r : Record RData). r.rdata) same_data) rs

abbrev pub Far : Record RData → List (Record RData) → Type 0
Far x rs = AllByRecursion (λ (q : Record RData). same_data x.rdata q.rdata ≡ false) rs

pub parts_of : (x : Record RData) (xs : List (Record RData)) → Distinct (x ∷ xs) → Far x xs × Distinct xs
unfolding IsDistinct
parts_of x xs h = h

pub apart : (x y r : Record RData) → same_data x.rdata y.rdata ≡ false → same_data y.rdata r.rdata ≡ true
    → same_data x.rdata r.rdata ≡ false
apart x y r far near = laws.symm x.rdata r.rdata ∙ sym (laws.congr y.rdata r.rdata x.rdata near)
    ∙ laws.symm y.rdata x.rdata ∙ far

abbrev pub unless_kept : Bool → SetValue → Bool × SetValue → Bool × SetValue
unless_kept b set p = if b then (false, set) else p

-- the set that an insert makes of one, where it makes another
abbrev pub grown : SetValue → Record RData → ℕ → SetValue
grown set r serial =
    record set { records = joined r (beside set.record_type set.records); ttl = r.ttl; serial = serial }

-- an insert that answers false changes nothing
pub false_keeps : (set : SetValue) (r : Record RData) (serial : ℕ) → (insert set r serial).0 ≡ false
    → (insert set r serial).1 ≡ set
false_keeps set r serial = cond_both (is_left set.record_type set.records r) (false, set) (true, grown set r serial)
    (λ (p : Bool × SetValue). p.0 ≡ false → p.1 ≡ set) (λ _ h. refl) (λ _ h. cc)

-- after one that answers true the record is there
its_own : (r : Record RData) → (same_entry r r && nat_eq r.ttl r.ttl) ≡ true
its_own r = λ i. same_entry-equiv.refl r i && nat_eq_equiv.refl r.ttl i

held_at : (r x : Record RData) (ys : List (Record RData)) (b c : Bool) → (b || c) ≡ true
    → (c ≡ true → has_entry r ys ≡ true) → has_entry r ((if b then r else x) ∷ ys) ≡ true
held_at r x ys true c h go = ap (λ b. b || has_entry r ys) (its_own r)
held_at r x ys false c h go = ap (λ b. (same_entry x r && nat_eq x.ttl r.ttl) || b) (go h)
    ∙ or-true (same_entry x r && nat_eq x.ttl r.ttl)

held_replaced : (r : Record RData) (xs : List (Record RData)) → list_any (has_data_of r) xs ≡ true
    → has_entry r (replaced r xs) ≡ true
held_replaced r [] h = cc
held_replaced r (x ∷ xs) h = held_at r x (replaced r xs) (has_data_of r x) (list_any (has_data_of r) xs) h
    (held_replaced r xs)

held_pushed : (r : Record RData) (xs : List (Record RData)) → has_entry r (xs ++ r ∷ []) ≡ true
held_pushed r [] = ap (λ b. b || false) (its_own r)
held_pushed r (x ∷ xs) = ap (λ b. (same_entry x r && nat_eq x.ttl r.ttl) || b) (held_pushed r xs)
    ∙ or-true (same_entry x r && nat_eq x.ttl r.ttl)

held_joined : (r : Record RData) (xs : List (Record RData)) → has_entry r (joined r xs) ≡ true
held_joined r xs = cond_both (list_any (has_data_of r) xs) [] (r ∷ []) (λ zs. has_entry r (replaced r xs ++ zs) ≡ true)
    (λ any. ap (has_entry r) (append-nil (replaced r xs)) ∙ held_replaced r xs any)
    (λ none. held_pushed r (replaced r xs))

pub true_holds : (set : SetValue) (r : Record RData) (serial : ℕ) → (insert set r serial).0 ≡ true
    → has_entry r (insert set r serial).1.records ≡ true
true_holds set r serial = cond_both (is_left set.record_type set.records r) (false, set) (true, grown set r serial)
    (λ (p : Bool × SetValue). p.0 ≡ true → has_entry r p.1.records ≡ true) (λ _ h. cc)
    (λ _ h. held_joined r (beside set.record_type set.records))

-- the last name server stays
left_of_two : (x y : Record RData) (zs : List (Record RData)) (b c : Bool) → (b && c) ≡ false
    → cond (not b) (x ∷ cond (not c) (y ∷ zs) zs) (cond (not c) (y ∷ zs) zs) ≢ []
left_of_two x y zs true true e f = cc
left_of_two x y zs true false e f = cc
left_of_two x y zs false c e f = cc

-- of two and more records of distinct data, taking out those of one data leaves some
pub some_left : (r : Record RData) (xs : List (Record RData)) → Distinct xs → 1 < length xs → without r xs ≢ []
some_left r [] d h = absurd (omega arith)
some_left r (x ∷ []) d h = absurd (omega arith)
some_left r (x ∷ y ∷ zs) d h = left_of_two x y (without r zs) (has_data_of r x) (has_data_of r y)
    (false_from_ne_true _ (λ e. let both = and_parts (has_data_of r x) (has_data_of r y) e in
    true≢false (sym (laws.congr x.rdata r.rdata y.rdata both.0 ∙ laws.symm r.rdata y.rdata ∙ both.1)
    ∙ (parts_of x (y ∷ zs) d).0.0)))

in_type : (t : RecordType) (r : Record RData) (xs : List (Record RData))
    → AllByRecursion (λ (x : Record RData). type_of_data x.rdata ≡ t) xs → list_any (has_data_of r) xs ≡ true
    → type_of_data r.rdata ≡ t
in_type t r [] own h = cc
in_type t r (x ∷ xs) own h = ⊎_elim
    (λ (e : has_data_of r x ≡ true). sym (one_type x.rdata r.rdata e) ∙ own.0)
    (λ (e : list_any (has_data_of r) xs ≡ true). in_type t r xs own.1 e)
    (or_cases (has_data_of r x) (list_any (has_data_of r) xs) h)

-- a set of name servers with a record does not become empty
some_stay : (set : SetValue) (r : Record RData) → is_ns set.record_type ≡ true → IsTidy set
    → (is_kept set (type_of_data r.rdata) || not (list_any (has_data_of r) set.records)) ≡ false
    → without r set.records ≢ []
some_stay set r ns tidy e =
    let parts : (is_kept set (type_of_data r.rdata) ≡ false) × (not (list_any (has_data_of r) set.records) ≡ false) =
    or_parts (is_kept set (type_of_data r.rdata)) _ e in
    let type : type_of_data r.rdata ≡ set.record_type =
    in_type set.record_type r set.records tidy.own_type (not-false _ parts.1) in
    let few : (is_ns (type_of_data r.rdata) && nat_le (length set.records) 1) ≡ false =
    (or_parts (is_soa (type_of_data r.rdata)) _ parts.0).1 in
    let more : nat_le (length set.records) 1 ≡ false =
    ap (λ b. b && nat_le (length set.records) 1) (sym (ap is_ns type ∙ ns)) ∙ few in
    some_left r set.records tidy.distinct (leb-false (length set.records) 1 more)

-- a record that was joined to others is among them
joined_filled : (r : Record RData) (xs : List (Record RData)) → joined r xs ≢ []
joined_filled r [] same = cc
joined_filled r (x ∷ xs) same = cc

insert_filled : (set : SetValue) (r : Record RData) (serial : ℕ) → set.records ≢ []
    → (insert set r serial).1.records ≢ []
insert_filled set r serial full =
    cond_both (is_left set.record_type set.records r) (false, set) (true, grown set r serial)
    (λ (p : Bool × SetValue). p.1.records ≢ []) (λ _. full) (λ _. joined_filled r (beside set.record_type set.records))

pub last_server_stays : (set : SetValue) → IsTidy set → is_ns set.record_type ≡ true → set.records ≢ []
    → StaysFilled set
last_server_stays set tidy ns full = record {
  removed = λ r serial. cond_both (is_kept set (type_of_data r.rdata) || not (list_any (has_data_of r) set.records))
      (false, set) (true, record set { records = without r set.records; serial = serial })
      (λ (p : Bool × SetValue). p.1.records ≢ []) (λ _. full) (some_stay set r ns tidy);
  inserted = λ r serial. insert_filled set r serial full;
  added = λ rdata. insert_filled set (own_record set rdata) 0 full;
}

-- nothing is removed from a tidy set of an SOA
kept_or : (a b : Bool) → (b ≡ true → a ≡ true) → (a || not b) ≡ true
kept_or true b h = refl
kept_or false true h = h refl
kept_or false false h = refl

soa_kept : (set : SetValue) (t : RecordType) → t ≡ types.SOA → is_kept set t ≡ true
soa_kept set t e = ap (λ u. is_kept set u) e

pub soa_stays : (set : SetValue) (r : Record RData) (serial : ℕ) → IsTidy set → set.record_type ≡ types.SOA
    → ◌≡◌ {A = Bool × SetValue} (remove set r serial) (false, set)
soa_stays set r serial tidy soa =
    cond-true (is_kept set (type_of_data r.rdata) || not (list_any (has_data_of r) set.records)) _ _
    (kept_or (is_kept set (type_of_data r.rdata)) (list_any (has_data_of r) set.records)
    (λ any. soa_kept set (type_of_data r.rdata) (in_type set.record_type r set.records tidy.own_type any ∙ soa)))

-- an SOA that gives way
raised : (d e : RData) → is_later d e ≡ true → IsRaised d e
raised (kinds.SOA a) (kinds.SOA b) h = record { old = a; new = b; is_old = refl; is_new = refl; raised = h }
raised _ _ h = cc

abbrev alone : SetValue → Record RData → ℕ → SetValue
alone set r serial = record set { records = r ∷ []; ttl = r.ttl; serial = serial }

risen_by : (set : SetValue) (r : Record RData) (serial : ℕ) (b : Bool)
    → (unless_kept (not b || false) set (true, alone set r serial)).0 ≡ true
    → (b ≡ true) × ((unless_kept (not b || false) set (true, alone set r serial)).1.records ≡ r ∷ [])
risen_by set r serial true h = (refl, refl)
risen_by set r serial false h = cc

stayed_by : (set : SetValue) (r : Record RData) (serial : ℕ) (b : Bool) → b ≡ false
    → unless_kept (not b || false) set (true, alone set r serial) ≡ (false, set)
stayed_by set r serial true h = cc
stayed_by set r serial false h = refl

abbrev of_start : SetValue → Record RData → List (Record RData) → SetValue
of_start set x xs = record set { record_type = types.SOA; records = x ∷ xs }

is_of_start : (set : SetValue) (x : Record RData) (xs : List (Record RData)) → set.record_type ≡ types.SOA
    → set.records ≡ x ∷ xs → set ≡ of_start set x xs
is_of_start set x xs type some = λ i. record set { record_type = type i; records = some i }

start_rises : (set : SetValue) (x r : Record RData) (xs : List (Record RData)) (serial : ℕ)
    → (insert (of_start set x xs) r serial).0 ≡ true
    → IsRaised x.rdata r.rdata × ((insert (of_start set x xs) r serial).1.records ≡ r ∷ [])
start_rises set x r xs serial h =
    let both : (is_later x.rdata r.rdata ≡ true) × ((insert (of_start set x xs) r serial).1.records ≡ r ∷ []) =
    risen_by (of_start set x xs) r serial (is_later x.rdata r.rdata) h in
    (raised x.rdata r.rdata both.0, both.1)

pub serial_rises : (set : SetValue) (x r : Record RData) (xs : List (Record RData)) (serial : ℕ)
    → set.record_type ≡ types.SOA → set.records ≡ x ∷ xs
    → (insert set r serial).0 ≡ true → IsRaised x.rdata r.rdata × ((insert set r serial).1.records ≡ r ∷ [])
serial_rises set x r xs serial type some =
    subst (λ s. (insert s r serial).0 ≡ true → IsRaised x.rdata r.rdata × ((insert s r serial).1.records ≡ r ∷ []))
    (sym (is_of_start set x xs type some)) (start_rises set x r xs serial)

pub serial_stays : (set : SetValue) (x r : Record RData) (xs : List (Record RData)) (serial : ℕ)
    → set.record_type ≡ types.SOA → set.records ≡ x ∷ xs
    → is_later x.rdata r.rdata ≡ false → ◌≡◌ {A = Bool × SetValue} (insert set r serial) (false, set)
serial_stays set x r xs serial type some e =
    subst (λ s. ◌≡◌ {A = Bool × SetValue} (insert s r serial) (false, s)) (sym (is_of_start set x xs type some))
    (stayed_by (of_start set x xs) r serial (is_later x.rdata r.rdata) e)
