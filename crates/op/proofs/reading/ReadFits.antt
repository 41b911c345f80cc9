-- A message that was read fits.
use Rattle.std.proofs.Common.{◌≡◌, ℕ, ◌%◌, ◌<◌, ◌≤◌, Bool, true, false, cond, List, [], ◌∷◌, refl, ap, sym, ◌∙◌, subst}
use Rattle.std.proofs.Common.{arith, rules, Option, Some, None, inl, inr}
use Rattle.std.specs.Prelude.{All, not, filter, find, nat_lt}
use Rattle.std.specs.Option.{option_map}
use Rattle.std.proofs.lemmas.Bool.{cases_Bool, ltb-false}
use Rattle.std.proofs.lemmas.List.Elements.{All-cons, All-nil, All-tail}
use Rattle.base.specs.DNSClass.{class_number, class_of, field_class, field_top, opt_class}
use Rattle.base.specs.names.Labels.{NameValue}
use Rattle.base.specs.RecordType.{type_number, type_of}
use Rattle.base.specs.Words.{BackToBack}
use Rattle.base.specs.Words.BackToBack.{none, more}
use Rattle.base_data.proofs.EachKind.{signature_is}
use Rattle.base_data.specs.Kinds.{type_of_data}
use Rattle.base_data.specs.declared.rdata.RData.{RData}
use Rattle.rr.specs.Record.{FitsRecord, IsRecordAt, is_opt_type}
use Rattle.rr.specs.declared.record.Record.{Record}
use Rattle.op.specs.Fits.{Fits, FitsAdditional, FitsEdns, FitsPlain, as_list, signature_record}
use Rattle.op.specs.Message.{IsMessageAt, MessageValue, high_code, message_of}
use Rattle.op.specs.OpCode.{op_number, op_value}
use Rattle.op.specs.Query.{FitsQuery, IsQueryAt}
use Rattle.base_data.specs.RData.{is_signature_data}
use Rattle.op.specs.Section.{HasNeededData, IsPlain, edns_of, is_opt, is_plain_record, is_signature, section_of}
use Rattle.op.specs.Section.{signature_of}
use Rattle.op.specs.declared.edns.Edns.{Edns}
use Rattle.op.specs.declared.header.Header.{Header}
use Rattle.op.specs.declared.header.metadata.Metadata.{Metadata}
use Rattle.op.specs.declared.op_code.OpCode.{OpCode}
use Rattle.op.specs.declared.query.Query.{Query}

-- ---- tables

class_kept : (n : ℕ) → class_number (class_of n) ≡ n
class_kept n = search (rules)

type_kept : (n : ℕ) → type_number (type_of n) ≡ n
type_kept n = search (rules)

op_kept : (n : ℕ) → op_number (op_value n) ≡ n
op_kept n = search (rules)

payload_bound : (n : ℕ) → 512 ≤ class_number (opt_class n)
payload_bound n = elim (cases_Bool (nat_lt n 512)) [
  | inl below ↦ rw below (omega arith)
  | inr above ↦ rw above (ltb-false n 512 above)
]

payload_kept : (n : ℕ) → opt_class (class_number (opt_class n)) ≡ opt_class n
payload_kept n = elim (cases_Bool (nat_lt n 512)) [
  | inl below ↦ rw below refl
  | inr above ↦ rw (above, above) refl
]

-- ---- questions and records

query_fits : (B : List ℕ) (i : ℕ) (q : Query) (e : ℕ) → IsQueryAt B i q e → FitsQuery q
query_fits B i q e w = subst FitsQuery (sym w.value) (record {
  absolute = refl;
  type_reads = ap type_of (type_kept w.raw.type);
  class_reads = ap class_of (class_kept (w.raw.class % 32768));
  narrow = omega (arith, class_kept (w.raw.class % 32768));
})

module _ (B : List ℕ) (i : ℕ) (r : Record RData) (e : ℕ) (w : IsRecordAt B i r e) where
  typed : type_of_data r.rdata ≡ type_of w.raw.type
  typed = w.value.type_is

  opt_as : (b : Bool) → is_opt_type (type_of_data r.rdata) ≡ b → is_opt_type (type_of w.raw.type) ≡ b
  opt_as b is = sym (ap is_opt_type typed) ∙ is

  class_plain : is_opt_type (type_of_data r.rdata) ≡ false → r.dns_class ≡ class_of (w.raw.class % 32768)
  class_plain is = w.value.class ∙ ap (λ b. cond b (opt_class w.raw.class) (field_class w.raw.class)) (opt_as false is)

  pub class_opt : is_opt_type (type_of_data r.rdata) ≡ true → r.dns_class ≡ opt_class w.raw.class
  class_opt is = w.value.class ∙ ap (λ b. cond b (opt_class w.raw.class) (field_class w.raw.class)) (opt_as true is)

  number_plain : is_opt_type (type_of_data r.rdata) ≡ false → class_number r.dns_class ≡ w.raw.class % 32768
  number_plain is = ap class_number (class_plain is) ∙ class_kept (w.raw.class % 32768)

  pub record_fits : FitsRecord r
  record_fits = record {
    reads = record {
      type_reads = ap (λ t. type_of (type_number t)) typed ∙ ap type_of (type_kept w.raw.type) ∙ sym typed;
      root = λ is. ap (λ (n : NameValue). n.labels) w.value.owner ∙ w.value.root (sym typed ∙ is);
      readable = w.value.readable;
    };
    absolute = ap (λ (n : NameValue). n.absolute) w.value.owner;
    class_reads = λ is. ap class_of (number_plain is) ∙ sym (class_plain is);
    narrow = λ is. omega (arith, number_plain is);
    payload_reads = λ is. ap (λ c. opt_class (class_number c)) (class_opt is) ∙ payload_kept w.raw.class
        ∙ sym (class_opt is);
    not_flushing = λ is. w.value.flush ∙ ap (λ b. cond b false (field_top w.raw.class)) (opt_as true is);
  }

  pub edns_fits_read : is_opt r ≡ true → FitsEdns (edns_of r)
  edns_fits_read is = record {
    payload = subst (λ c. 512 ≤ class_number c) (sym (class_opt is)) (payload_bound w.raw.class);
    version = omega arith;
    z = omega arith;
  }

-- ---- lists

pub back_all : {A : Type 0} {Word : ℕ → A → ℕ → Type 0} (P : A → Type 0) → ((i : ℕ) (x : A) (e : ℕ) → Word i x e → P x)
    → {i e : ℕ} {xs : List A} → BackToBack Word i xs e → All P xs
back_all P holds none = All-nil P
back_all P holds (more {i = i} {j = j} {x = x} {xs = xs} word rest) =
    All-cons P x xs (holds i x j word) (back_all P holds rest)

-- what passes a test, of elements that have a property
pub record Found {X : Type 0} (P : X → Type 0) (p : X → Bool) (x : X) : Type 0 where
  pub has : P x
  pub passes : p x ≡ true

filtered : {X : Type 0} (P : X → Type 0) (p : X → Bool) (xs : List X) → All P xs → All (Found P p) (filter p xs)
filtered P p [] all = All-nil (Found P p)
filtered P p (x ∷ xs) all = elim (cases_Bool (p x)) [
  | inl is ↦ rw is (All-cons (Found P p) x (filter p xs) (record { has = all 0 x (omega arith); passes = is })
      (filtered P p xs (All-tail P x xs all)))
  | inr isnt ↦ rw isnt (filtered P p xs (All-tail P x xs all))
]

pub found : {X : Type 0} (P : X → Type 0) (p : X → Bool) (xs : List X) → All P xs
    → All (Found P p) (as_list (find p xs))
found P p [] all = All-nil (Found P p)
found P p (x ∷ xs) all = elim (cases_Bool (p x)) [
  | inl is ↦ rw is (All-cons (Found P p) x [] (record { has = all 0 x (omega arith); passes = is })
      (All-nil (Found P p)))
  | inr isnt ↦ rw isnt (found P p xs (All-tail P x xs all))
]

pub listed_map : {X Y : Type 0} (P : X → Type 0) (Q : Y → Type 0) (f : X → Y) → ((x : X) → P x → Q (f x))
    → (o : Option X) → All P (as_list o) → All Q (as_list (option_map f o))
listed_map P Q f follows None all = All-nil Q
listed_map P Q f follows (Some x) all = All-cons Q (f x) [] (follows x (all 0 x (omega arith))) (All-nil Q)

untrue : (b : Bool) → not b ≡ true → b ≡ false
untrue true is = cc
untrue false is = refl

-- a record whose data is a signature is the record of that signature
signed : (r : Record RData) → is_signature_data r.rdata ≡ true → signature_record (signature_of r) ≡ r
signed r is = ap (λ (d : RData). record r { rdata = d }) (sym (signature_is r.rdata is))

-- ---- the message

-- a record that was read, and may stand where it stands
record IsRead (op : OpCode) (r : Record RData) : Type 0 where
  fits : FitsRecord r
  given : HasNeededData op r
  edns : is_opt r ≡ true → FitsEdns (edns_of r)

op_of : (edns : Option Edns) (m : Metadata) → (high_code edns m).op_code ≡ m.op_code
op_of None m = refl
op_of (Some e) m = refl

module _ (B : List ℕ) (i : ℕ) (m : MessageValue) (e : ℕ) (w : IsMessageAt B i m e) where
  op : OpCode
  op = w.header.metadata.op_code

  op_is : w.header.metadata.op_code ≡ op_value w.header_stands.raw.opcode
  op_is = ap (λ (h : Header). h.metadata.op_code) w.header_stands.value

  op_number_is : op_number w.header.metadata.op_code ≡ w.header_stands.raw.opcode
  op_number_is = ap op_number op_is ∙ op_kept w.header_stands.raw.opcode

  small : op_number w.header.metadata.op_code < 16
  small = omega (arith, op_number_is, w.header_stands.word.opcode)

  reads : op_value (op_number w.header.metadata.op_code) ≡ w.header.metadata.op_code
  reads = ap op_value op_number_is ∙ sym op_is

  plain_fits : (rs : List (Record RData)) (j k : ℕ) → BackToBack (IsRecordAt B) j rs k
      → All (IsPlain w.header.metadata.op_code) rs → All (FitsPlain w.header.metadata.op_code) rs
  plain_fits rs j k words plain =
      let fit = back_all FitsRecord (λ i r e word. record_fits B i r e word) words in
      λ n d below. record { fits = fit n d below; given = (plain n d below).given; placed = (plain n d below).placed }

  additionals_read : All (IsRead w.header.metadata.op_code) w.additionals
  additionals_read =
      let fit = back_all FitsRecord (λ i r e word. record_fits B i r e word) w.additionals_stand in
      let edns = back_all (λ r. is_opt r ≡ true → FitsEdns (edns_of r))
      (λ i r e word. edns_fits_read B i r e word) w.additionals_stand in
      λ n d below. record { fits = fit n d below; given = w.additionals_given n d below; edns = edns n d below }

  additionals_fit : All (FitsAdditional w.header.metadata.op_code) (filter is_plain_record w.additionals)
  additionals_fit =
      let all = filtered (IsRead w.header.metadata.op_code) is_plain_record w.additionals additionals_read in
      λ n d below.
      let f = all n d below in
      record { fits = f.has.fits; given = f.has.given; placed = untrue _ f.passes }

  edns_fit : All FitsEdns (as_list (option_map edns_of (find is_opt w.additionals)))
  edns_fit =
      listed_map (Found (IsRead w.header.metadata.op_code) is_opt) FitsEdns edns_of (λ r f. f.has.edns f.passes)
      (find is_opt w.additionals) (found (IsRead w.header.metadata.op_code) is_opt w.additionals additionals_read)

  signature_fit : All (λ r. FitsRecord (signature_record r))
      (as_list (option_map signature_of (find is_signature w.additionals)))
  signature_fit =
      listed_map (Found (IsRead w.header.metadata.op_code) is_signature)
      (λ r. FitsRecord (signature_record r)) signature_of
      (λ r f. subst FitsRecord (sym (signed r f.passes)) f.has.fits) (find is_signature w.additionals)
      (found (IsRead w.header.metadata.op_code) is_signature w.additionals additionals_read)

  whole_fits : Fits (message_of w.header.metadata m.queries w.answers w.authorities (section_of w.additionals))
  whole_fits =
      let same = op_of (section_of w.additionals).edns w.header.metadata in
      record {
        op_code = subst (λ o. op_number o < 16) (sym same) small;
        op_code_reads = subst (λ o. op_value (op_number o) ≡ o) (sym same) reads;
        queries = back_all FitsQuery (λ i q e word. query_fits B i q e word) w.queries_stand;
        answers = subst (λ o. All (FitsPlain o) w.answers) (sym same)
            (plain_fits w.answers w.queries_end w.answers_end w.answers_stand w.answers_plain);
        authorities = subst (λ o. All (FitsPlain o) w.authorities) (sym same)
            (plain_fits w.authorities w.answers_end w.authorities_end w.authorities_stand w.authorities_plain);
        additionals = subst (λ o. All (FitsAdditional o) (filter is_plain_record w.additionals))
            (sym same) additionals_fit;
        edns = edns_fit;
        signature = signature_fit;
      }

  pub message_fits : Fits m
  message_fits = subst Fits (sym w.message) whole_fits
