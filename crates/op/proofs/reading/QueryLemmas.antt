-- Questions that stand are questions that are read.
use Rattle.std.proofs.Common.{◌≡◌, ℕ, ◌+◌, Bool, true, List, refl, ap, sym, ◌∙◌, subst, arith, inl}
use Rattle.std.proofs.Common.{inr, Result, Ok, Err}
use Rattle.std.specs.Prelude.{◌↔◌}
use Rattle.std.specs.Int.{w16}
use Rattle.base.specs.DNSClass.{class_number, field_class, field_top}
use Rattle.base.specs.names.Labels.{NameValue}
use Rattle.base.specs.reading.Names.{name_at}
use Rattle.base.specs.reading.Reading.{Read, number_at}
use Rattle.base.specs.RecordType.{type_of}
use Rattle.base.specs.reading.Spelling.{IsNameAt}
use Rattle.base.specs.Words.{IsNumberAt}
use Rattle.base.specs.declared.dns_class.DNSClass.{DNSClass}
use Rattle.base.specs.declared.error.decode_error.DecodeError.{DecodeError}
use Rattle.base.specs.declared.record_type.RecordType.{RecordType}
use Rattle.base.proofs.reading.ReadLemmas.{bind_ok, bind_err, number_is, number_again, number_short}
use Rattle.base.proofs.reading.ReadingLemmas.{name_is, name_fault, name_again, fault_again}
use Rattle.base_data.proofs.Tells.{same_ok}
use Rattle.rr.proofs.ReadRecords.{class_kept, top_kept}
use Rattle.op.specs.Query.{FitsQuery, IsQueryAt, IsQueryFault, IsRawQueryAt, RawQuery, query_at, query_value, raw_query}
use Rattle.op.specs.declared.query.Query.{Query}

-- the same question, field by field
pub same_query : {a b : RecordType} {c d : DNSClass} {e f : Bool} (name : NameValue) → a ≡ b → c ≡ d → e ≡ f
    → ◌≡◌ {A = Query} (record { name = name; query_type = a; query_class = c; mdns_unicast_response = e })
    (record { name = name; query_type = b; query_class = d; mdns_unicast_response = f })
same_query name type class top = rw (type, class, top) refl

-- a question is read where its name is, and type and class stand after it
pub query_read : {owner : NameValue} {m type class : ℕ} {q : Query} {e : ℕ} (B : List ℕ) (i : ℕ)
    → name_at B i ≡ Ok (owner, m) → IsNumberAt w16 B m type → IsNumberAt w16 B (m + 2) class
    → q ≡ record {
      name = owner;
      query_type = type_of type;
      query_class = field_class class;
      mdns_unicast_response =
          field_top class;
    } → e ≡ m + 4 → query_at B i ≡ Ok (q, e)
unfolding query_at
query_read {owner} {m} {type} {class} B i owner_is type_stands class_stands q_is e_is =
    let type_is : number_at w16 B m ≡ Ok (type, m + 2) = number_again w16 B m type type_stands in
    let class_is : number_at w16 B (m + 2) ≡ Ok (class, m + 2 + 2) = number_again w16 B (m + 2) class class_stands in
    let end : m + 2 + 2 ≡ m + 4 = omega arith in
    rw (owner_is, type_is, class_is, end, q_is, e_is) refl

-- a question that was read, and the place after it
record IsReadQuery (B : List ℕ) (i : ℕ) (r : Query × ℕ) : Type 0 where
  word : IsQueryAt B i r.0 r.1

query_is : (B : List ℕ) (i : ℕ) (r : Query × ℕ) → query_at B i ≡ Ok r → IsReadQuery B i r
unfolding query_at
query_is B i r is =
    let owner = bind_ok (name_at B i) _ r is in
    let type = bind_ok (number_at w16 B owner.value.1) _ r owner.second in
    let class = bind_ok (number_at w16 B type.value.1) _ r type.second in
    let name = owner.value.0 in
    let m = owner.value.1 in
    let name_stands : IsNameAt B i name m = name_is B i name m owner.first in
    let type_is = number_is w16 B m type.value type.first in
    let class_is = number_is w16 B type.value.1 class.value class.first in
    let q : Query = record {
      name = name;
      query_type = type_of type.value.0;
      query_class =
          field_class class.value.0;
      mdns_unicast_response = field_top class.value.0;
    } in
    let same = same_ok (q, class.value.1) r class.second in
    let raw : RawQuery = record { labels = name.labels; type = type.value.0; class = class.value.0 } in
    let word : IsRawQueryAt B i raw class.value.1 = record {
      owner_end = m;
      owner = (name_stands.spelled, name_stands.short);
      type_stands = type_is.stands;
      class_stands = subst (λ k. IsNumberAt w16 B k class.value.0) type_is.after class_is.stands;
      end = omega (arith, type_is.after, class_is.after);
    } in
    let value : q ≡ query_value raw = ap (λ (absolute : Bool). record q { name = record name { absolute = absolute } })
    name_stands.absolute in
    subst (λ x. IsReadQuery B i x) same (record { word = record { raw = raw; word = word; value = value } })

query_again : (B : List ℕ) (i : ℕ) (q : Query) (e : ℕ) → IsQueryAt B i q e → query_at B i ≡ Ok (q, e)
unfolding query_at
query_again B i q e s =
    let w = s.word in
    let raw = s.raw in
    let m = w.owner_end in
    let name : NameValue = record { labels = raw.labels; absolute = true } in
    let owner : name_at B i ≡ Ok (name, m) = name_again B i name m
    (record { spelled = w.owner.0; short = w.owner.1; absolute = refl }) in
    let type : number_at w16 B m ≡ Ok (raw.type, m + 2) = number_again w16 B m raw.type w.type_stands in
    let class : number_at w16 B (m + 2) ≡ Ok (raw.class, m + 2 + 2) =
    number_again w16 B (m + 2) raw.class w.class_stands in
    let end : m + 2 + 2 ≡ e = omega (arith, w.end) in
    rw (owner, type, class, end, s.value) refl

pub reads_question : (B : List ℕ) (i : ℕ) (q : Query) (e : ℕ) → (query_at B i ≡ Ok (q, e)) ↔ IsQueryAt B i q e
reads_question B i q e = (λ is. (query_is B i (q, e) is).word, query_again B i q e)

-- the first fault of a question
query_fault : (B : List ℕ) (i : ℕ) (f : DecodeError) → query_at B i ≡ Err f → IsQueryFault B i f
unfolding query_at
query_fault B i f is =
    bind_err (name_at B i) _ f (IsQueryFault B i f) is (λ e. inl (name_fault B i f e)) (λ owner owner_read is1.
    let stands : IsNameAt B i owner.0 owner.1 = name_is B i owner.0 owner.1 owner_read in
    bind_err (number_at w16 B owner.1) _ f (IsQueryFault B i f) is1
    (λ e. let s = number_short w16 B owner.1 f e in inr (owner.0, owner.1, stands, omega (arith, s.short), s.fault))
    (λ type type_read is2.
    let type_is = number_is w16 B owner.1 type type_read in
    bind_err (number_at w16 B type.1) _ f (IsQueryFault B i f) is2
    (λ e. let s = number_short w16 B type.1 f e in
    inr (owner.0, owner.1, stands, omega (arith, s.short, type_is.after), s.fault)) (λ class class_read is3. cc)))

one_answer : {A : Type 0} (r : Result A DecodeError) (x : A) (f : DecodeError) → r ≡ Ok x → r ≡ Err f → ⊥
one_answer r x f ok err = cc

fails : (B : List ℕ) (i : ℕ) (f : DecodeError) (r : Read Query) → query_at B i ≡ r → IsQueryFault B i f
    → query_at B i ≡ Err f
unfolding query_at
fails B i f (Ok x) is (inl faulty) =
    let owner = bind_ok (name_at B i) _ x is in
    absurd (one_answer (name_at B i) owner.value f owner.first (fault_again B i f faulty))
fails B i f (Ok x) is (inr (name, m, stands, short, fault)) =
    let owner = bind_ok (name_at B i) _ x is in
    let type = bind_ok (number_at w16 B owner.value.1) _ x owner.second in
    let class = bind_ok (number_at w16 B type.value.1) _ x type.second in
    let type_is = number_is w16 B owner.value.1 type.value type.first in
    let class_is = number_is w16 B type.value.1 class.value class.first in
    let same : owner.value ≡ (name, m) = same_ok owner.value (name, m)
    (sym owner.first ∙ name_again B i name m stands) in
    let place : owner.value.1 ≡ m = ap (λ (r : NameValue × ℕ). r.1) same in
    absurd (omega (arith, class_is.stands.inside, type_is.after, place, short))
fails B i f (Err g) is (inl faulty) = rw (fault_again B i f faulty) refl
fails B i f (Err g) is (inr (name, m, stands, short, fault)) =
    elim (query_fault B i g is) [
      | inl faulty ↦ absurd (one_answer (name_at B i) (name, m) g (name_again B i name m stands)
          (fault_again B i g faulty))
      | inr other ↦ is ∙ ap Err (other.4 ∙ sym fault)
    ]

pub refuses_question : (B : List ℕ) (i : ℕ) (f : DecodeError) → (query_at B i ≡ Err f) ↔ IsQueryFault B i f
refuses_question B i f = (query_fault B i f, fails B i f (query_at B i) refl)

pub question_same : (q : Query) → FitsQuery q → query_value (raw_query q) ≡ q
question_same q fits =
    let n = class_number q.query_class in
    let class = class_kept q.mdns_unicast_response n fits.narrow ∙ fits.class_reads in
    let top = top_kept q.mdns_unicast_response n fits.narrow in
    rw (class, top, fits.type_reads, ← fits.absolute) refl
