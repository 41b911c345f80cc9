-- Records that stand are records that are read.
use Rattle.std.proofs.Common.{◌≡◌, ℕ, ◌+◌, ◌%◌, ◌==◌, ◌<◌, ◌≤◌, Bool, true, false, cond, not, ◌&&◌, List, [], ◌∷◌}
use Rattle.std.proofs.Common.{length, refl, ap, sym, ◌∙◌, subst, arith, Result, Ok, Err}
use Rattle.std.specs.Prelude.{◌↔◌, nat_lt}
use Rattle.std.proofs.lemmas.Bool.{eq-eqb, eqb-true, le-leb, le-ltb, lt-leb, ltb-false}
use Rattle.base.specs.DNSClass.{class_field, class_number, class_of, field_class, field_top, opt_class}
use Rattle.std.specs.Int.{w16, w32}
use Rattle.base.specs.names.Labels.{NameValue}
use Rattle.base.specs.reading.Names.{name_at}
use Rattle.base.specs.reading.Reading.{number_at}
use Rattle.base.specs.RecordType.{type_of}
use Rattle.base.specs.reading.Spelling.{IsNameAt}
use Rattle.base.specs.Words.{IsNumberAt}
use Rattle.base.specs.declared.error.decode_error.DecodeError.{DecodeError}
use Rattle.base.specs.declared.record_type.RecordType.{RecordType}
use Rattle.base.specs.declared.record_type.RecordType.TheVariants as types
use Rattle.base.proofs.reading.ReadLemmas.{bind_ok, number_is, number_again}
use Rattle.base.proofs.reading.ReadingLemmas.{name_is, name_again}
use Rattle.base_data.proofs.DataRows.{data_says, reads_data}
use Rattle.base_data.proofs.EachKind.{data_inside}
use Rattle.base_data.proofs.Tells.{same_ok}
use Rattle.base_data.specs.Kinds.{type_of_data, DataWord}
use Rattle.base_data.specs.DataAt.{IsDataAt}
use Rattle.base_data.specs.RData.{rdata_at}
use Rattle.base_data.specs.declared.rdata.RData.{RData}
use Rattle.rr.specs.Record.{FitsRecord, IsRawRecordAt, IsReadableRecord, IsRecordAt, IsRecordValue, RawRecord}
use Rattle.rr.specs.Record.{RecordWord, body_at, class_value, flush_value, is_opt_type}
use Rattle.rr.specs.Record.{raw_record, record_at, record_value}
use Rattle.rr.specs.declared.record.Record.{Record}

pub opt_is : (type : RecordType) → is_opt_type type ≡ true → type ≡ types.OPT
opt_is type is = grind arith

-- a test that turns away, or goes on
pub turned : {A : Type 0} (test : Bool) (e : DecodeError) (r : Result A DecodeError) (y : A)
    → cond test (Err e) r ≡ Ok y → (test ≡ false) × (r ≡ Ok y)
turned true e r y is = cc
turned false e r y is = (refl, is)

-- the test that an OPT record's owner fails where it isn't the root
abbrev pub is_wrong_owner : NameValue → RecordType → Bool
is_wrong_owner owner type = is_opt_type type && not (length owner.labels == 0)

pub no_element : (xs : List (List ℕ)) → length xs ≡ 0 → xs ≡ []
no_element [] is = refl
no_element (x ∷ xs) is = absurd (omega (arith, is))

no_length : (xs : List (List ℕ)) → xs ≡ [] → length xs ≡ 0
no_length xs is = ap length is

-- where both tests don't hold, and the first does
second_holds : (first second : Bool) → (first && not second) ≡ false → first ≡ true → second ≡ true
second_holds true true is holds = refl
second_holds true false is holds = cc
second_holds false second is holds = cc

pub root_of : (owner : NameValue) (type : RecordType) → is_wrong_owner owner type ≡ false → type ≡ types.OPT
    → owner.labels ≡ []
root_of owner type test is = no_element owner.labels
    (eqb-true (length owner.labels) 0 (second_holds (is_opt_type type) (length owner.labels == 0) test
    (ap is_opt_type is)))

pub root_passes : (owner : NameValue) (type : RecordType) → (type ≡ types.OPT → owner.labels ≡ [])
    → is_wrong_owner owner type ≡ false
root_passes owner type root = passes (is_opt_type type) refl where
  passes : (opt : Bool) → is_opt_type type ≡ opt → (opt && not (length owner.labels == 0)) ≡ false
  passes true is = let none : (length owner.labels == 0) ≡ true =
      eq-eqb (length owner.labels) 0 (no_length owner.labels (root (opt_is type is))) in rw none refl
  passes false is = refl

-- what was read after the type of a record
pub record IsBody (owner : NameValue) (type : RecordType) (B : List ℕ) (i : ℕ) (r : Record RData × ℕ) : Type 0 where
  pub class : ℕ
  pub ttl : ℕ
  pub len : ℕ
  pub class_stands : IsNumberAt w16 B i class
  pub ttl_stands : IsNumberAt w32 B (i + 2) ttl
  pub len_stands : IsNumberAt w16 B (i + 6) len
  pub inside : i + 8 + len ≤ length B
  pub rdata : RData
  pub rdata_stands : IsDataAt B (i + 8) type len rdata
  pub is : r ≡ (
    record {
      name = owner;
      dns_class = class_value type class;
      ttl = ttl;
      rdata = rdata;
      mdns_cache_flush =
          flush_value type class;
    },
    i + 8 + len,
  )

body_is : (owner : NameValue) (type : RecordType) (B : List ℕ) (i : ℕ) (r : Record RData × ℕ)
    → body_at owner type B i ≡ Ok r → IsBody owner type B i r
unfolding body_at
body_is owner type B i r is =
    let class = bind_ok (number_at w16 B i) _ r is in
    let ttl = bind_ok (number_at w32 B class.value.1) _ r class.second in
    let len = bind_ok (number_at w16 B ttl.value.1) _ r ttl.second in
    let room = turned (nat_lt (length B) (len.value.1 + len.value.0)) _ _ r len.second in
    let rdata = bind_ok (rdata_at type len.value.0 B len.value.1) _ r room.1 in
    let class_is = number_is w16 B i class.value class.first in
    let ttl_is = number_is w32 B class.value.1 ttl.value ttl.first in
    let len_is = number_is w16 B ttl.value.1 len.value len.first in
    let data_is = data_says type len.value.0 B len.value.1 rdata.value rdata.first in
    let at_ttl : class.value.1 ≡ i + 2 = class_is.after in
    let at_len : ttl.value.1 ≡ i + 6 = omega (arith, ttl_is.after, at_ttl) in
    let at_data : len.value.1 ≡ i + 8 = omega (arith, len_is.after, at_len) in
    let fits = ltb-false (length B) (len.value.1 + len.value.0) room.0 in
    let end : rdata.value.1 ≡ i + 8 + len.value.0 = omega (arith, data_is.1, at_data) in
    record {
      class = class.value.0;
      ttl = ttl.value.0;
      len = len.value.0;
      class_stands = class_is.stands;
      ttl_stands = subst (λ k. IsNumberAt w32 B k ttl.value.0) at_ttl ttl_is.stands;
      len_stands = subst (λ k. IsNumberAt w16 B k len.value.0) at_len len_is.stands;
      inside = omega (arith, fits, at_data);
      rdata = rdata.value.0;
      rdata_stands = subst (λ k. IsDataAt B k type len.value.0 rdata.value.0) at_data data_is.0;
      is = sym (same_ok _ r rdata.second) ∙ ap (λ (k : ℕ). (
        record {
          name = owner;
          dns_class = class_value type class.value.0;
          ttl = ttl.value.0;
          rdata =
              rdata.value.0;
          mdns_cache_flush = flush_value type class.value.0;
        },
        k,
      )) end;
    }

body_again : (owner : NameValue) (type : RecordType) (B : List ℕ) (i : ℕ) (r : Record RData × ℕ)
    → IsBody owner type B i r → body_at owner type B i ≡ Ok r
unfolding body_at
body_again owner type B i r s =
    let class : number_at w16 B i ≡ Ok (s.class, i + 2) = number_again w16 B i s.class s.class_stands in
    let ttl : number_at w32 B (i + 2) ≡ Ok (s.ttl, i + 2 + 4) = number_again w32 B (i + 2) s.ttl s.ttl_stands in
    let at_len : i + 2 + 4 ≡ i + 6 = omega arith in
    let len : number_at w16 B (i + 6) ≡ Ok (s.len, i + 6 + 2) = number_again w16 B (i + 6) s.len s.len_stands in
    let at_data : i + 6 + 2 ≡ i + 8 = omega arith in
    let room : nat_lt (length B) (i + 8 + s.len) ≡ false = le-ltb (length B) (i + 8 + s.len) s.inside in
    let data_read : rdata_at type s.len B (i + 8) ≡ Ok (s.rdata, i + 8 + s.len) =
    (reads_data B (i + 8) type s.len s.rdata (i + 8 + s.len)).1 (s.rdata_stands, refl) in
    rw (class, ttl, at_len, len, at_data, room, data_read, s.is) refl

-- a record that was read, and the place after it
record IsReadRecord (B : List ℕ) (i : ℕ) (r : Record RData × ℕ) : Type 0 where
  word : IsRecordAt B i r.0 r.1

record_is : (B : List ℕ) (i : ℕ) (r : Record RData × ℕ) → record_at B i ≡ Ok r → IsReadRecord B i r
unfolding record_at
record_is B i r is =
    let owner = bind_ok (name_at B i) _ r is in
    let type = bind_ok (number_at w16 B owner.value.1) _ r owner.second in
    let name = owner.value.0 in
    let m = owner.value.1 in
    let tested = turned (is_wrong_owner name (type_of type.value.0)) _ _ r type.second in
    let name_stands : IsNameAt B i name m = name_is B i name m owner.first in
    let type_is = number_is w16 B m type.value type.first in
    let body = body_is name (type_of type.value.0) B type.value.1 r tested.1 in
    let b : type.value.1 ≡ m + 2 = type_is.after in
    let raw : RawRecord = record {
      labels = name.labels;
      type = type.value.0;
      class = body.class;
      ttl =
          body.ttl;
      rdata = body.rdata;
    } in
    let at_ttl : type.value.1 + 2 ≡ m + 4 = omega (arith, b) in
    let at_len : type.value.1 + 6 ≡ m + 8 = omega (arith, b) in
    let at_data : type.value.1 + 8 ≡ m + 10 = omega (arith, b) in
    let end : type.value.1 + 8 + body.len ≡ m + 10 + body.len = omega (arith, b) in
    let e = m + 10 + body.len in
    let data_is = subst (λ k. IsDataAt B k (type_of type.value.0) body.len body.rdata) at_data body.rdata_stands in
    let word : IsRawRecordAt B i raw e = record {
      owner_end = m;
      owner = (name_stands.spelled, name_stands.short);
      type_stands = type_is.stands;
      class_stands = subst (λ k. IsNumberAt w16 B k body.class) b body.class_stands;
      ttl_stands = subst (λ k. IsNumberAt w32 B k body.ttl) at_ttl body.ttl_stands;
      len = body.len;
      len_stands = subst (λ k. IsNumberAt w16 B k body.len) at_len body.len_stands;
      rdata_stands = data_is.word;
      fills = refl;
    } in
    let found : Record RData = record {
      name = name;
      dns_class = class_value (type_of type.value.0) body.class;
      ttl = body.ttl;
      rdata = body.rdata;
      mdns_cache_flush = flush_value (type_of type.value.0) body.class;
    } in
    let value : IsRecordValue raw found = record {
      owner = ap (λ (absolute : Bool). record name { absolute = absolute }) name_stands.absolute;
      root = root_of name (type_of type.value.0) tested.0;
      type_is = data_is.type_is;
      class = refl;
      flush = refl;
      ttl = refl;
      rdata = refl;
      readable = data_is.readable;
    } in
    let read : IsReadRecord B i (found, e) = record { word = record { raw = raw; word = word; value = value } } in
    subst (λ x. IsReadRecord B i x) (sym body.is) (subst (λ k. IsReadRecord B i (found, k)) (sym end) read)

-- the parts of a record that stands
found_is : (raw : RawRecord) (r : Record RData) → IsRecordValue raw r → r ≡ record_value raw
found_is raw r v = λ i. record {
  name = v.owner i;
  dns_class = v.class i;
  ttl = v.ttl i;
  rdata =
      v.rdata i;
  mdns_cache_flush = v.flush i;
}

raw_again : (B : List ℕ) (i : ℕ) (raw : RawRecord) (e : ℕ) → IsRawRecordAt B i raw e
    → IsRecordValue raw (record_value raw) → record_at B i ≡ Ok (record_value raw, e)
unfolding record_at
raw_again B i raw e w v =
    let m = w.owner_end in
    let name : NameValue = record { labels = raw.labels; absolute = true } in
    let owner : name_at B i ≡ Ok (name, m) = name_again B i name m
    (record { spelled = w.owner.0; short = w.owner.1; absolute = refl }) in
    let type : number_at w16 B m ≡ Ok (raw.type, m + 2) = number_again w16 B m raw.type w.type_stands in
    let passes : is_wrong_owner name (type_of raw.type) ≡ false = root_passes name (type_of raw.type) v.root in
    let at_ttl : m + 4 ≡ m + 2 + 2 = omega arith in
    let at_len : m + 8 ≡ m + 2 + 6 = omega arith in
    let at_data : m + 10 ≡ m + 2 + 8 = omega arith in
    let end : e ≡ m + 2 + 8 + w.len = omega (arith, w.fills) in
    let inside = data_inside raw.rdata B (m + 10) e (omega (arith, w.len_stands.inside)) w.rdata_stands in
    let data_word = subst (λ k. DataWord raw.rdata B (m + 10) k) w.fills w.rdata_stands in
    let data_stands : IsDataAt B (m + 10) (type_of raw.type) w.len raw.rdata =
    record { type_is = v.type_is; word = data_word; readable = v.readable } in
    let body : IsBody name (type_of raw.type) B (m + 2) (record_value raw, e) = record {
      class = raw.class;
      ttl = raw.ttl;
      len = w.len;
      class_stands = w.class_stands;
      ttl_stands = subst (λ k. IsNumberAt w32 B k raw.ttl) at_ttl w.ttl_stands;
      len_stands = subst (λ k. IsNumberAt w16 B k w.len) at_len w.len_stands;
      inside = omega (arith, inside, end);
      rdata = raw.rdata;
      rdata_stands = subst (λ k. IsDataAt B k (type_of raw.type) w.len raw.rdata) at_data data_stands;
      is = ap (λ (k : ℕ). (record_value raw, k)) end;
    } in
    let read = body_again name (type_of raw.type) B (m + 2) (record_value raw, e) body in
    rw (owner, type, passes, read) refl

record_again : (B : List ℕ) (i : ℕ) (r : Record RData) (e : ℕ) → IsRecordAt B i r e → record_at B i ≡ Ok (r, e)
record_again B i r e s =
    let same = found_is s.raw r s.value in
    raw_again B i s.raw e s.word (subst (IsRecordValue s.raw) same s.value)
    ∙ ap (λ (x : Record RData). Ok (x, e)) (sym same)

pub reads_record : (B : List ℕ) (i : ℕ) (r : Record RData) (e : ℕ) → (record_at B i ≡ Ok (r, e)) ↔ IsRecordAt B i r e
reads_record B i r e = (λ is. (record_is B i (r, e) is).word, record_again B i r e)

-- a readable record that was written stands as the record of its fields
pub value_stands : (B : List ℕ) (i : ℕ) (r : Record RData) (e : ℕ) → RecordWord r B i e → IsReadableRecord r
    → IsRecordAt B i (record_value (raw_record r)) e
value_stands B i r e word reads = record {
  raw = raw_record r;
  word = word;
  value = record {
    owner = refl;
    root = λ is. reads.root (sym reads.type_reads ∙ is);
    type_is = sym reads.type_reads;
    class = refl;
    flush = refl;
    ttl = refl;
    rdata = refl;
    readable = reads.readable;
  };
}

-- the class field of a class number that leaves the top bit free
pub class_kept : (top : Bool) (n : ℕ) → n < 32768 → field_class (class_field top n) ≡ class_of n
class_kept true n narrow = let e : (32768 + n % 32768) % 32768 ≡ n = omega arith in ap class_of e
class_kept false n narrow = let e : n % 32768 ≡ n = omega arith in ap class_of e

pub top_kept : (top : Bool) (n : ℕ) → n < 32768 → field_top (class_field top n) ≡ top
top_kept true n narrow = le-leb 32768 (32768 + n % 32768) (omega arith)
top_kept false n narrow = lt-leb 32768 n narrow

module _ (r : Record RData) (fits : FitsRecord r) where
  abbrev type : RecordType
  type = type_of_data r.rdata

  abbrev field : ℕ
  field = class_field r.mdns_cache_flush (class_number r.dns_class)

  class_back : (opt : Bool) → is_opt_type type ≡ opt → cond opt (opt_class field) (field_class field) ≡ r.dns_class
  class_back true is = ap (λ (top : Bool). opt_class (class_field top (class_number r.dns_class)))
      (fits.not_flushing is) ∙ fits.payload_reads is
  class_back false is = class_kept r.mdns_cache_flush (class_number r.dns_class) (fits.narrow is) ∙ fits.class_reads is

  flush_back : (opt : Bool) → is_opt_type type ≡ opt → cond opt false (field_top field) ≡ r.mdns_cache_flush
  flush_back true is = sym (fits.not_flushing is)
  flush_back false is = top_kept r.mdns_cache_flush (class_number r.dns_class) (fits.narrow is)

  pub record_same : record_value (raw_record r) ≡ r
  record_same =
      let reads = fits.reads.type_reads in
      let class = ap (λ (t : RecordType). class_value t field) reads ∙ class_back (is_opt_type type) refl in
      let flush = ap (λ (t : RecordType). flush_value t field) reads ∙ flush_back (is_opt_type type) refl in
      λ i. record {
        name = record { labels = r.name.labels; absolute = sym fits.absolute i };
        dns_class = class i;
        ttl =
            r.ttl;
        rdata = r.rdata;
        mdns_cache_flush = flush i;
      }
