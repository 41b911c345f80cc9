-- What was written of a message that fits is read as it was.
use Rattle.std.proofs.Common.{◌≡◌, ℕ, ◌+◌, ◌*◌, ◌/◌, ◌%◌, ◌<◌, ◌≤◌, Bool, true, false, List, [], ◌∷◌, refl, ap, sym}
use Rattle.std.proofs.Common.{◌∙◌, subst, arith}
use Rattle.std.proofs.lemmas.Bool.{le-leb, lt-leb, le-ltb, true≢false}
use Rattle.std.specs.Prelude.{nat_le}
use Rattle.base.specs.DNSClass.{class_number, opt_class}
use Rattle.base.specs.declared.dns_class.DNSClass.TheVariants as classes
use Rattle.base.specs.names.Labels.{NameValue}
use Rattle.base.specs.RecordType.{type_number, type_of}
use Rattle.base.specs.reading.Spelling.{Spelled}
use Rattle.base_data.specs.Kinds.{IsReadable, type_of_data}
use Rattle.base_data.specs.OPT.{OptionValue}
use Rattle.base_data.specs.declared.rdata.RData.{RData}
use Rattle.base.specs.declared.record_type.RecordType.TheVariants as types
use Rattle.rr.specs.Record.{FitsRecord, is_opt_type, IsRecordAt, RecordWord}
use Rattle.rr.specs.declared.record.Record.{Record}
use Rattle.rr.proofs.ReadRecords.{record_same, value_stands}
use Rattle.op.specs.EdnsFlags.{flags_number, flags_of_number}
use Rattle.op.specs.EdnsRecord.{edns_record, opt_data, opt_ttl}
use Rattle.op.specs.Fits.{FitsEdns}
use Rattle.op.specs.Query.{FitsQuery, IsQueryAt, QueryWord, raw_query}
use Rattle.op.specs.Section.{edns_of, options_in}
use Rattle.op.specs.declared.edns.Edns.{Edns}
use Rattle.op.specs.declared.query.Query.{Query}
use Rattle.op.proofs.reading.QueryLemmas.{question_same}

-- ---- questions and records

pub query_back : (B : List ℕ) (q : Query) → FitsQuery q → (i e : ℕ) → QueryWord q B i e → IsQueryAt B i q e
query_back B q fits i e word = record { raw = raw_query q; word = word; value = sym (question_same q fits) }

pub query_ends : (B : List ℕ) (i : ℕ) (q : Query) (e : ℕ) (w : IsQueryAt B i q e)
    → Spelled B q.name.labels i i w.word.owner_end
query_ends B i q e w = subst (λ ls. Spelled B ls i i w.word.owner_end)
    (sym (ap (λ (x : Query). x.name.labels) w.value)) w.word.owner.0

pub record_back : (B : List ℕ) (r : Record RData) → FitsRecord r → (i e : ℕ) → RecordWord r B i e → IsRecordAt B i r e
record_back B r fits i e word = subst (λ x. IsRecordAt B i x e) (record_same r fits)
    (value_stands B i r e word fits.reads)

pub record_ends : (B : List ℕ) (i : ℕ) (r : Record RData) (e : ℕ) (w : IsRecordAt B i r e)
    → Spelled B r.name.labels i i w.word.owner_end
record_ends B i r e w = subst (λ ls. Spelled B ls i i w.word.owner_end)
    (sym (ap (λ (n : NameValue). n.labels) w.value.owner)) w.word.owner.0

-- ---- EDNS and signatures

opt_readable : (os : List OptionValue) → IsReadable (opt_data os)
opt_readable [] = tt
opt_readable (o ∷ os) = λ is. cc

opt_type : (os : List OptionValue) → type_of_data (opt_data os) ≡ types.OPT
opt_type [] = refl
opt_type (o ∷ os) = refl

options_back : (os : List OptionValue) → options_in (opt_data os) ≡ os
options_back [] = refl
options_back (o ∷ os) = refl

payload_is : (payload : ℕ) → 512 ≤ payload → opt_class payload ≡ classes.OPT payload
payload_is payload fits = rw (le-ltb payload 512 fits) refl

payload_kept : (payload : ℕ) → 512 ≤ payload → opt_class (class_number (opt_class payload)) ≡ opt_class payload
payload_kept payload fits = ap (λ c. opt_class (class_number c)) (payload_is payload fits)

pub opt_typed : (os : List OptionValue) → is_opt_type (type_of_data (opt_data os)) ≡ true
opt_typed os = ap is_opt_type (opt_type os)

pub edns_fits : (e : Edns) → FitsEdns e → FitsRecord (edns_record e)
edns_fits e fits = record {
  reads = record {
    type_reads = ap (λ t. type_of (type_number t)) (opt_type e.options) ∙ sym (opt_type e.options);
    root = λ _. refl;
    readable = opt_readable e.options;
  };
  absolute = refl;
  class_reads = λ is. absurd (true≢false (sym (opt_typed e.options) ∙ is));
  narrow = λ is. absurd (true≢false (sym (opt_typed e.options) ∙ is));
  payload_reads = λ _. payload_kept e.max_payload fits.payload;
  not_flushing = λ _. refl;
}

-- the parts of an OPT record's TTL
record Parts (h v f n : ℕ) : Type 0 where
  high : n / 16777216 ≡ h
  version : n / 65536 % 256 ≡ v
  flags : n % 65536 ≡ f

parts : (h v f n : ℕ) → v < 256 → f < 65536 → n ≡ 16777216 * h + (65536 * v + f) → Parts h v f n
parts h v f n small narrow is = record { high = omega arith; version = omega arith; flags = omega arith }

flags_small : (ok : Bool) (z : ℕ) → flags_number (record { dnssec_ok = ok; z = z }) < 65536
flags_small true z = omega arith
flags_small false z = omega arith

flags_back : (ok : Bool) (z n : ℕ) → z < 32768 → n ≡ flags_number (record { dnssec_ok = ok; z = z })
    → flags_of_number n ≡ record { dnssec_ok = ok; z = z }
flags_back true z n small is =
    let bit : nat_le 32768 n ≡ true = le-leb 32768 n (omega arith) in
    let low : n % 32768 ≡ z = omega arith in
    λ i. record { dnssec_ok = bit i; z = low i }
flags_back false z n small is =
    let bit : nat_le 32768 n ≡ false = lt-leb 32768 n (omega arith) in
    let low : n % 32768 ≡ z = omega arith in
    λ i. record { dnssec_ok = bit i; z = low i }

pub edns_back : (e : Edns) → FitsEdns e → edns_of (edns_record e) ≡ e
edns_back e fits =
    let p = parts e.rcode_high e.version (flags_number e.flags) (opt_ttl e) fits.version
    (flags_small e.flags.dnssec_ok e.flags.z) refl in
    let flags = flags_back e.flags.dnssec_ok e.flags.z (opt_ttl e % 65536) fits.z p.flags in
    let payload = ap class_number (payload_is e.max_payload fits.payload) in
    λ i. record {
      rcode_high = p.high i;
      version = p.version i;
      flags = flags i;
      max_payload = payload i;
      options =
          options_back e.options i;
    }
