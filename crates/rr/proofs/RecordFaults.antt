-- The first fault of a record.
use Rattle.std.proofs.Common.{◌≡◌, ℕ, ◌+◌, ◌-◌, ◌==◌, ◌<◌, ◌≤◌, Bool, true, false, cond, not, ◌&&◌, List, [], length}
use Rattle.std.proofs.Common.{take, drop, refl, ap, sym, ◌∙◌, subst, arith, Result, Ok, Err}
use Rattle.std.specs.Prelude.{◌↔◌, ◌≢◌, nat_lt}
use Rattle.std.proofs.lemmas.Bool.{eq-eqb, le-ltb, lt-ltb, ltb-false, ltb-true, ne_eqb}
use Rattle.std.specs.Int.{Width, byte_len, from_be_bytes, w16, w32}
use Rattle.base.specs.names.Labels.{NameValue}
use Rattle.base.specs.reading.Names.{name_at}
use Rattle.base.specs.reading.Reading.{number_at}
use Rattle.base.specs.RecordType.{type_of}
use Rattle.base.specs.reading.Spelling.{IsNameAt}
use Rattle.base.specs.Words.{IsNumberAt}
use Rattle.base.specs.declared.error.decode_error.DecodeError.{DecodeError}
use Rattle.base.specs.declared.error.decode_error.DecodeError.TheVariants as faults
use Rattle.base.specs.declared.record_type.RecordType.{RecordType}
use Rattle.base.specs.declared.record_type.RecordType.TheVariants as types
use Rattle.base.proofs.reading.ReadLemmas.{bind_err, number_again, number_is, number_short}
use Rattle.base.proofs.reading.ReadingLemmas.{fault_again, name_again, name_fault, name_is}
use Rattle.base_data.proofs.DataRows.{refuses_data}
use Rattle.base_data.specs.DataAt.{IsDataAt}
use Rattle.base_data.specs.RData.{rdata_at}
use Rattle.base_data.specs.declared.rdata.RData.{RData}
use Rattle.rr.specs.declared.record.Record.{Record}
use Rattle.rr.specs.Record.{HasHead, IsRecordFault, body_at, is_opt_type, record_at}
use Rattle.rr.specs.Record.IsRecordFault.{bad_data, cut_fields, cut_type, in_name, long_data, opt_owner}
use Rattle.rr.proofs.ReadRecords.{is_wrong_owner, no_element, opt_is, root_of, root_passes}

-- a test that turns away, or goes on
turned_or : {A : Type 0} (test : Bool) (e : DecodeError) (r : Result A DecodeError) (f : DecodeError) (P : Type 0)
    → cond test (Err e) r ≡ Err f → (test ≡ true → f ≡ e → P) → (test ≡ false → r ≡ Err f → P) → P
turned_or true e r f P is turns goes = turns refl (cc)
turned_or false e r f P is turns goes = goes refl is

-- the owner of an OPT record that fails the test
wrong_type : (owner : NameValue) (type : RecordType) → is_wrong_owner owner type ≡ true → type ≡ types.OPT
wrong_type owner type is = opt_is type (first_holds (is_opt_type type) (not (length owner.labels == 0)) is) where
  first_holds : (first second : Bool) → (first && second) ≡ true → first ≡ true
  first_holds true second h = refl
  first_holds false second h = cc

wrong_labels : (owner : NameValue) (type : RecordType) → is_wrong_owner owner type ≡ true → owner.labels ≢ []
wrong_labels owner type is none =
    let zero_long : (length owner.labels == 0) ≡ true = eq-eqb (length owner.labels) 0 (ap length none) in
    fails (is_opt_type type) (length owner.labels == 0) is zero_long
  where
    fails : (first second : Bool) → (first && not second) ≡ true → second ≡ true → ⊥
    fails true true h holds = cc
    fails false true h holds = cc
    fails first false h holds = cc

wrong_owner : (owner : NameValue) (type : RecordType) → type ≡ types.OPT → owner.labels ≢ []
    → is_wrong_owner owner type ≡ true
wrong_owner owner type is some =
    let opt : is_opt_type type ≡ true = ap is_opt_type is in
    let long : (length owner.labels == 0) ≡ false =
    ne_eqb (length owner.labels) 0 (λ zero_long. some (no_element owner.labels zero_long)) in
    rw (opt, long) refl

body_fault : (owner : NameValue) (type m : ℕ) (B : List ℕ) (i : ℕ) (f : DecodeError) → HasHead B i owner type m
    → body_at owner (type_of type) B (m + 2) ≡ Err f → IsRecordFault B i f
unfolding body_at
body_fault owner type m B i f head is =
    bind_err (number_at w16 B (m + 2)) _ f (IsRecordFault B i f) is
    (λ e. let s = number_short w16 B (m + 2) f e in cut s.fault (omega (arith, s.short))) (λ class class_read is1.
    let class_is = number_is w16 B (m + 2) class class_read in
    bind_err (number_at w32 B class.1) _ f (IsRecordFault B i f) is1
    (λ e. let s = number_short w32 B class.1 f e in cut s.fault (omega (arith, s.short, class_is.after)))
    (λ ttl ttl_read is2.
    let ttl_is = number_is w32 B class.1 ttl ttl_read in
    bind_err (number_at w16 B ttl.1) _ f (IsRecordFault B i f) is2
    (λ e. let s = number_short w16 B ttl.1 f e in cut s.fault (omega (arith, s.short, class_is.after, ttl_is.after)))
    (λ len len_read is3.
    let len_is = number_is w16 B ttl.1 len len_read in
    let at_len : ttl.1 ≡ m + 8 = omega (arith, class_is.after, ttl_is.after) in
    let at_data : len.1 ≡ m + 10 = omega (arith, len_is.after, at_len) in
    let counted : IsNumberAt w16 B (m + 8) len.0 = subst (λ k. IsNumberAt w16 B k len.0) at_len len_is.stands in
    turned_or (nat_lt (length B) (len.1 + len.0)) _ _ f (IsRecordFault B i f) is3 (λ test fault.
    let short = ltb-true (length B) (len.1 + len.0) test in
    let same : f ≡ faults.IncorrectRDataLengthRead (length B - (m + 10)) len.0 =
    fault ∙ ap (λ (k : ℕ). faults.IncorrectRDataLengthRead (length B - k) len.0) at_data in
    subst (IsRecordFault B i) (sym same) (long_data head counted (omega (arith, short, at_data)))) (λ test is4.
    let fits = ltb-false (length B) (len.1 + len.0) test in
    bind_err (rdata_at (type_of type) len.0 B len.1) _ f (IsRecordFault B i f) is4 (λ e.
    let told = (refuses_data B len.1 (type_of type) len.0 f).0 e in
    let none : (d : RData) → ¬ IsDataAt B (m + 10) (type_of type) len.0 d =
    subst (λ k. (d : RData) → ¬ IsDataAt B k (type_of type) len.0 d) at_data told.1 in
    subst (IsRecordFault B i) (sym told.0) (bad_data head counted (omega (arith, fits, at_data)) none))
    (λ rdata rdata_read is5. cc)))))
  where
    cut : f ≡ faults.InsufficientBytes → length B < m + 10 → IsRecordFault B i f
    cut fault short = subst (IsRecordFault B i) (sym fault) (cut_fields head short)

record_fault : (B : List ℕ) (i : ℕ) (f : DecodeError) → record_at B i ≡ Err f → IsRecordFault B i f
unfolding record_at
record_fault B i f is =
    bind_err (name_at B i) _ f (IsRecordFault B i f) is (λ e. in_name (name_fault B i f e)) (λ owner owner_read is1.
    let stands : IsNameAt B i owner.0 owner.1 = name_is B i owner.0 owner.1 owner_read in
    bind_err (number_at w16 B owner.1) _ f (IsRecordFault B i f) is1
    (λ e. let s = number_short w16 B owner.1 f e in subst (IsRecordFault B i) (sym s.fault) (cut_type stands s.short))
    (λ type type_read is2.
    let type_is = number_is w16 B owner.1 type type_read in
    turned_or (is_wrong_owner owner.0 (type_of type.0)) _ _ f (IsRecordFault B i f) is2
    (λ test fault. subst (IsRecordFault B i) (sym fault)
    (opt_owner stands type_is.stands (wrong_type owner.0 (type_of type.0) test)
    (wrong_labels owner.0 (type_of type.0) test)))
    (λ test is3.
    let head : HasHead B i owner.0 type.0 owner.1 =
    record { owner_stands = stands; type_stands = type_is.stands; root = root_of owner.0 (type_of type.0) test } in
    body_fault owner.0 type.0 owner.1 B i f head
    (subst (λ k. body_at owner.0 (type_of type.0) B k ≡ Err f) type_is.after is3))))

-- ---- and the other way round

number_cut : (w : Width) (B : List ℕ) (i : ℕ) → length B < i + byte_len w
    → number_at w B i ≡ Err faults.InsufficientBytes
number_cut w B i short = rw (lt-ltb (length B) (i + byte_len w) short) refl

-- the number that stands where there is room for one
abbrev number_of : Width → List ℕ → ℕ → ℕ
number_of w B i = from_be_bytes w (take (byte_len w) (drop i B))

number_there : (w : Width) (B : List ℕ) (i : ℕ) → i + byte_len w ≤ length B
    → number_at w B i ≡ Ok (number_of w B i, i + byte_len w)
number_there w B i inside = number_again w B i (number_of w B i) (record { inside = inside; is = refl })

pub body_cut : (owner : NameValue) (type : RecordType) (B : List ℕ) (i : ℕ) → length B < i + 8
    → body_at owner type B i ≡ Err faults.InsufficientBytes
unfolding body_at
body_cut owner type B i short = cases (nat_lt (length B) (i + 2)) refl (nat_lt (length B) (i + 2 + 4)) refl where
  cases : (class : Bool) → nat_lt (length B) (i + 2) ≡ class → (ttl : Bool) → nat_lt (length B) (i + 2 + 4) ≡ ttl
      → body_at owner type B i ≡ Err faults.InsufficientBytes
  cases true is ttl is2 = rw (number_cut w16 B i (ltb-true (length B) (i + 2) is)) refl
  cases false is true is2 = rw (
    number_there w16 B i (ltb-false (length B) (i + 2) is),
    number_cut w32 B (i + 2) (ltb-true (length B) (i + 2 + 4) is2),
  ) refl
  cases false is false is2 =
      rw (
        number_there w16 B i (ltb-false (length B) (i + 2) is),
        number_there w32 B (i + 2) (ltb-false (length B) (i + 2 + 4) is2),
        number_cut w16 B (i + 2 + 4) (omega (arith, short)),
      ) refl

module _ (owner : NameValue) (type : RecordType) (B : List ℕ) (i len : ℕ) (counted : IsNumberAt w16 B (i + 6) len) where
  class_there : number_at w16 B i ≡ Ok (number_of w16 B i, i + 2)
  class_there = number_there w16 B i (omega (arith, counted.inside))

  ttl_there : number_at w32 B (i + 2) ≡ Ok (number_of w32 B (i + 2), i + 2 + 4)
  ttl_there = number_there w32 B (i + 2) (omega (arith, counted.inside))

  at_len : i + 2 + 4 ≡ i + 6
  at_len = omega arith

  len_there : number_at w16 B (i + 6) ≡ Ok (len, i + 6 + 2)
  len_there = number_again w16 B (i + 6) len counted

  at_data : i + 6 + 2 ≡ i + 8
  at_data = omega arith

  pub body_long : length B < i + 8 + len → body_at owner type B i ≡ Err
      (faults.IncorrectRDataLengthRead (length B - (i + 8)) len)
  unfolding body_at
  body_long short = let test = lt-ltb (length B) (i + 8 + len) short in
      rw (class_there, ttl_there, at_len, len_there, at_data, test) refl

  body_bad : i + 8 + len ≤ length B → ((d : RData) → ¬ IsDataAt B (i + 8) type len d)
      → body_at owner type B i ≡ Err (faults.BadData type)
  unfolding body_at
  body_bad inside none =
      let test = le-ltb (length B) (i + 8 + len) inside in
      let bad = (refuses_data B (i + 8) type len (faults.BadData type)).1 (refl, none) in
      rw (class_there, ttl_there, at_len, len_there, at_data, test, bad) refl

-- what a record with a head is read as is what is read after it
head_read : (B : List ℕ) (i : ℕ) (owner : NameValue) (type m : ℕ) (r : Result (Record RData × ℕ) DecodeError)
    → HasHead B i owner type m → body_at owner (type_of type) B (m + 2) ≡ r → record_at B i ≡ r
unfolding record_at
head_read B i owner type m r head is =
    let owner_read = name_again B i owner m head.owner_stands in
    let type_read : number_at w16 B m ≡ Ok (type, m + 2) = number_again w16 B m type head.type_stands in
    let passes = root_passes owner (type_of type) head.root in
    rw (owner_read, type_read, passes, is) refl

fault_read : (B : List ℕ) (i : ℕ) (f : DecodeError) → IsRecordFault B i f → record_at B i ≡ Err f
unfolding record_at
fault_read B i f (in_name faulty) = rw (fault_again B i f faulty) refl
fault_read B i f (cut_type {owner = owner} {m = m} stands short) =
    rw (name_again B i owner m stands, number_cut w16 B m short) refl
fault_read B i f (opt_owner {owner = owner} {type = type} {m = m} stands type_stands opt some) =
    let type_read : number_at w16 B m ≡ Ok (type, m + 2) = number_again w16 B m type type_stands in
    rw (name_again B i owner m stands, type_read, wrong_owner owner (type_of type) opt some) refl
fault_read B i f (cut_fields {owner = owner} {type = type} {m = m} head short) =
    head_read B i owner type m (Err f) head (body_cut owner (type_of type) B (m + 2) (omega (arith, short)))
fault_read B i f (long_data {owner = owner} {type = type} {m = m} {len = len} head counted short) =
    let at_len : m + 8 ≡ m + 2 + 6 = omega arith in
    let at_data : m + 2 + 8 ≡ m + 10 = omega arith in
    let long = body_long owner (type_of type) B (m + 2) len (subst (λ k. IsNumberAt w16 B k len) at_len counted)
    (omega (arith, short)) in
    head_read B i owner type m (Err f) head (long
    ∙ ap (λ (k : ℕ). Err (faults.IncorrectRDataLengthRead (length B - k) len)) at_data)
fault_read B i f (bad_data {owner = owner} {type = type} {m = m} {len = len} head counted inside none) =
    let at_len : m + 8 ≡ m + 2 + 6 = omega arith in
    let at_data : m + 10 ≡ m + 2 + 8 = omega arith in
    let none_there : (d : RData) → ¬ IsDataAt B (m + 2 + 8) (type_of type) len d =
    subst (λ k. (d : RData) → ¬ IsDataAt B k (type_of type) len d) at_data none in
    head_read B i owner type m (Err f) head (body_bad owner (type_of type) B (m + 2) len
    (subst (λ k. IsNumberAt w16 B k len) at_len counted) (omega (arith, inside)) none_there)

pub refuses_record : (B : List ℕ) (i : ℕ) (f : DecodeError) → (record_at B i ≡ Err f) ↔ IsRecordFault B i f
refuses_record B i f = (record_fault B i f, fault_read B i f)
