-- Updates that are built fit the wire, and uncut bytes of them are read as the same sections.
use Rattle.std.proofs.Common.{◌≡◌, ◌≢◌, ℕ, Bool, true, false, List, [], ◌∷◌, refl, ap, sym, ◌∙◌, subst, arith}
use Rattle.std.proofs.Common.{Result, Ok, Err, map}
use Rattle.std.specs.Prelude.{All, IfOk}
use Rattle.std.specs.List.{AllByRecursion}
use Rattle.std.proofs.lemmas.Bool.{true≢false}
use Rattle.std.proofs.lemmas.List.{map-id}
use Rattle.std.proofs.lemmas.List.Elements.{All-append, All-cons, All-nil, All-from_recursion, recursion_from_All}
use Rattle.base.specs.names.Labels.{NameValue}
use Rattle.base.specs.RecordType.{type_number, type_of}
use Rattle.base.specs.declared.dns_class.DNSClass.{DNSClass}
use Rattle.base.specs.declared.dns_class.DNSClass.TheVariants as classes
use Rattle.base.specs.declared.record_type.RecordType.{RecordType}
use Rattle.base.specs.declared.record_type.RecordType.TheVariants as types
use Rattle.base_data.specs.Kinds.{type_of_data}
use Rattle.base_data.specs.declared.rdata.RData.{RData}
use Rattle.rr.specs.Record.{FitsRecord, is_opt_type}
use Rattle.rr.specs.RecordSet.{SetValue}
use Rattle.rr.specs.declared.record.Record.{Record}
use Rattle.op.specs.Cut.{IsCut, IsUncut}
use Rattle.op.specs.Fits.{Fits, FitsEdns, FitsPlain, as_list}
use Rattle.op.specs.Message.{IsMessageAt, MessageValue, message_value}
use Rattle.op.specs.Query.{FitsQuery}
use Rattle.op.specs.Section.{is_additional_type}
use Rattle.op.specs.declared.op_code.OpCode.TheVariants as op_codes
use Rattle.op.specs.declared.response_code.ResponseCode.{ResponseCode}
use Rattle.op.proofs.reading.MessageStands.{one_message}
use Rattle.op.proofs.writing.UncutLemmas.{whole_of}
use Rattle.op_use.specs.SoundSet.{IsSendable, IsSendableKey, IsSendableOwner, IsSent, IsSentClass, IsSound}
use Rattle.op_use.specs.SoundSet.{is_supported_type}
use Rattle.op_use.specs.UpdateMeaning.{AppendsToSet, CreatesSet, DeletesData, DeletesName, DeletesSet, MeansUncut}
use Rattle.op_use.specs.UpdateMeaning.{SwapsSets}
use Rattle.op_use.specs.UpdateMessage.{append, compare_and_swap, create, delete_all, delete_by_rdata, delete_rrset}
use Rattle.op_use.specs.UpdateMessage.{empty_record, untimed_in, sections, update_edns, update_message, without_ttl}
use Rattle.base.specs.declared.error.proto_error.ProtoError.{ProtoError}
use Rattle.op.specs.declared.message.Message.{Message}
use Rattle.op_use.specs.Server.{Sections, sections_of, serve}
use Rattle.op_use.proofs.Meaning.{append_changes, create_changes, compare_and_swap_changes, delete_all_changes}
use Rattle.op_use.proofs.Meaning.{delete_by_rdata_changes, delete_rrset_changes}
use Rattle.op_use.specs.Zone.{Zone}

-- ---- uncut bytes

same_sections : (m : MessageValue) (limit : ℕ) (B : List ℕ) (c : MessageValue) (k : IsCut m limit B c) → IsUncut k
    → sections_of c ≡ sections_of m
same_sections m limit B c k uncut =
    let answers : c.answers ≡ m.answers = whole_of m.answers c.answers k.answers.lost k.answers.front uncut.0 in
    let authorities : c.authorities ≡ m.authorities =
    whole_of m.authorities c.authorities k.authorities.lost k.authorities.front uncut.1 in
    let queries : c.queries ≡ m.queries = k.queries in
    λ i. record { zones = queries i; prerequisites = answers i; updates = authorities i }

-- what is read from uncut bytes of a message has its sections
pub read_sections : (m : MessageValue) (limit : ℕ) (B : List ℕ) (c : MessageValue) (k : IsCut m limit B c) → IsUncut k
    → (n : MessageValue) (e : ℕ) → IsMessageAt B 0 n e
    → sections_of n ≡ sections_of m
read_sections m limit B c k uncut n e word =
    ap sections_of ((one_message B 0 n c e _ word k.word).0) ∙ same_sections m limit B c k uncut

-- what a server makes of a message, it makes of what is read from uncut bytes of it
pub means_uncut : (m : MessageValue) (Premise : Zone → Type 0) (outcome : Zone → ResponseCode × Zone)
    → ((z : Zone) → Premise z → serve z (sections_of m) ≡ outcome z) → MeansUncut m Premise outcome
means_uncut m Premise outcome means limit B c k uncut n e word z premise =
    ap (serve z) (read_sections m limit B c k uncut n e word) ∙ means z premise

-- ---- what fits

not_additional : (t : RecordType) → is_supported_type t ≡ true → is_additional_type t ≡ false
not_additional types.OPT h = cc
not_additional types.SIG h = cc
not_additional types.TSIG h = cc
not_additional _ h = refl

not_opt : (t : RecordType) → is_supported_type t ≡ true → is_opt_type t ≡ false
not_opt types.OPT h = cc
not_opt _ h = refl

-- types of which a record without data can stand among answers and authorities
record IsSentType (t : RecordType) : Type 0 where
  reads : type_of (type_number t) ≡ t
  not_opt : is_opt_type t ≡ false
  placed : is_additional_type t ≡ false

sent_type : (s : SetValue) → IsSent s → is_supported_type s.record_type ≡ true → IsSentType s.record_type
sent_type s sent plain = record {
  reads = sent.type_reads;
  not_opt = not_opt s.record_type plain;
  placed =
      not_additional s.record_type plain;
}

no_opt : (t : RecordType) → is_opt_type t ≡ false → t ≢ types.OPT
no_opt t h e = true≢false (sym (ap is_opt_type e) ∙ h)

-- a record without data, whatever its cache-flush bit
bare_fits : (owner : NameValue) (t : RecordType) (c : DNSClass) (flush : Bool) → owner.absolute ≡ true → IsSentType t
    → IsSentClass c
    → FitsPlain op_codes.Update (record (empty_record owner t c) { mdns_cache_flush = flush })
bare_fits owner t c flush absolute type class = record {
  fits = record {
    reads = record { type_reads = type.reads; root = λ e. absurd (no_opt t type.not_opt e); readable = tt };
    absolute = absolute;
    class_reads = λ _. class.reads;
    narrow = λ _. class.narrow;
    payload_reads = λ e. absurd (true≢false (sym e ∙ type.not_opt));
    not_flushing = λ e. absurd (true≢false (sym e ∙ type.not_opt));
  };
  given = λ _. refl;
  placed = type.placed;
}

empty_fits : (owner : NameValue) (t : RecordType) (c : DNSClass) → owner.absolute ≡ true → IsSentType t → IsSentClass c
    → FitsPlain op_codes.Update (empty_record owner t c)
empty_fits owner t c = bare_fits owner t c false

none_class : IsSentClass classes.NONE
none_class = record { reads = refl; narrow = omega arith }

any_class : IsSentClass classes.ANY
any_class = record { reads = refl; narrow = omega arith }

-- records that a change keeps on the wire, with their types
each_changed : (f : Record RData → Record RData)
    → ((r : Record RData) → type_of_data (f r).rdata ≡ type_of_data r.rdata)
    → ((r : Record RData) → is_opt_type (type_of_data r.rdata) ≡ false → FitsRecord r → FitsRecord (f r))
    → (s : SetValue) → IsSound s → is_supported_type s.record_type ≡ true → IsSent s
    → All (FitsPlain op_codes.Update) (map f s.records)
each_changed f same keeps s sound plain sent = All-from_recursion (FitsPlain op_codes.Update) _
    (each s.records sound.own_type (recursion_from_All FitsRecord s.records sent.records)) where
      each : (rs : List (Record RData)) → AllByRecursion (λ (r : Record RData). type_of_data r.rdata ≡ s.record_type) rs
          → AllByRecursion FitsRecord rs → AllByRecursion (FitsPlain op_codes.Update) (map f rs)
      each [] own fits = tt
      each (r ∷ rs) own fits = (
        record {
          fits = keeps r (ap is_opt_type own.0 ∙ not_opt s.record_type plain) fits.0;
          given = λ _. refl;
          placed = ap is_additional_type (same r ∙ own.0) ∙ not_additional s.record_type plain;
        },
        each rs own.1 fits.1,
      )

records_fit : (s : SetValue) → IsSound s → is_supported_type s.record_type ≡ true → IsSent s
    → All (FitsPlain op_codes.Update) s.records
records_fit s sound plain sent = subst (All (FitsPlain op_codes.Update)) (map-id s.records)
    (each_changed (λ r. r) (λ r. refl) (λ r _ fits. fits) s sound plain sent)

-- the zone's question, and EDNS
zone_fits : (origin : NameValue) (c : DNSClass) (m : Sections) → origin.absolute ≡ true → IsSentClass c
    → All FitsQuery (sections origin c m.prerequisites m.updates).zones
zone_fits origin c m absolute class = All-cons FitsQuery _ []
    (record { absolute = absolute; type_reads = refl; class_reads = class.reads; narrow = class.narrow })
    (All-nil FitsQuery)

edns_fits : (use_edns : Bool) → All FitsEdns (as_list (update_edns use_edns))
edns_fits true = All-cons FitsEdns _ [] (record { payload = omega arith; version = omega arith; z = omega arith })
    (All-nil FitsEdns)
edns_fits false = All-nil FitsEdns

sections_fit : (id : ℕ) (use_edns : Bool) (origin : NameValue) (c : DNSClass)
    (prerequisites updates : List (Record RData)) → origin.absolute ≡ true → IsSentClass c
    → All (FitsPlain op_codes.Update) prerequisites → All (FitsPlain op_codes.Update) updates
    → Fits (update_message id use_edns (sections origin c prerequisites updates))
sections_fit id use_edns origin c prerequisites updates absolute class first then = record {
  op_code = omega arith;
  op_code_reads = refl;
  queries = zone_fits origin c (sections origin c prerequisites updates) absolute class;
  answers = first;
  authorities = then;
  additionals = All-nil _;
  edns = edns_fits use_edns;
  signature = All-nil _;
}

one_fits : (r : Record RData) → FitsPlain op_codes.Update r → All (FitsPlain op_codes.Update) (r ∷ [])
one_fits r fits = All-cons (FitsPlain op_codes.Update) r [] fits (All-nil _)

pub append_fits : (id : ℕ) (s : SetValue) (origin : NameValue) (must_exist use_edns : Bool) → IsSendable origin s
    → Fits (update_message id use_edns (append s origin must_exist))
append_fits id s origin true use_edns g =
    sections_fit id use_edns origin s.dns_class _ _ g.rooted g.sent.class
    (one_fits _ (empty_fits s.name s.record_type classes.ANY g.sent.absolute
    (sent_type s g.sent g.supported) any_class)) (records_fit s g.sound g.supported g.sent)
append_fits id s origin false use_edns g =
    sections_fit id use_edns origin s.dns_class _ _ g.rooted g.sent.class (All-nil _)
    (records_fit s g.sound g.supported g.sent)

pub create_fits : (id : ℕ) (s : SetValue) (origin : NameValue) (use_edns : Bool) → IsSendable origin s
    → Fits (update_message id use_edns (create s origin))
create_fits id s origin use_edns g =
    sections_fit id use_edns origin s.dns_class _ _ g.rooted g.sent.class
    (one_fits _ (empty_fits s.name s.record_type classes.NONE g.sent.absolute
    (sent_type s g.sent g.supported) none_class)) (records_fit s g.sound g.supported g.sent)

-- records in the class NONE, and without a TTL
in_none : (r : Record RData) → is_opt_type (type_of_data r.rdata) ≡ false → FitsRecord r
    → FitsRecord (untimed_in classes.NONE r)
in_none r plain fits = record {
  reads = record { type_reads = fits.reads.type_reads; root = fits.reads.root; readable = fits.reads.readable };
  absolute = fits.absolute;
  class_reads = λ _. refl;
  narrow = λ _. omega arith;
  payload_reads = λ e. absurd (true≢false (sym e ∙ plain));
  not_flushing = λ e. absurd (true≢false (sym e ∙ plain));
}

pub delete_by_rdata_fits : (id : ℕ) (s : SetValue) (origin : NameValue) (use_edns : Bool) → IsSendable origin s
    → Fits (update_message id use_edns (delete_by_rdata s origin))
delete_by_rdata_fits id s origin use_edns g =
    sections_fit id use_edns origin s.dns_class _ _ g.rooted g.sent.class (All-nil _)
    (each_changed (untimed_in classes.NONE) (λ r. refl) in_none s g.sound g.supported g.sent)

untimed : (r : Record RData) → is_opt_type (type_of_data r.rdata) ≡ false → FitsRecord r → FitsRecord (without_ttl r)
untimed r plain fits = record {
  reads = record { type_reads = fits.reads.type_reads; root = fits.reads.root; readable = fits.reads.readable };
  absolute = fits.absolute;
  class_reads = fits.class_reads;
  narrow = fits.narrow;
  payload_reads = fits.payload_reads;
  not_flushing = fits.not_flushing;
}

pub compare_and_swap_fits : (id : ℕ) (current new : SetValue) (origin : NameValue) (use_edns : Bool)
    → IsSendable origin current → IsSendable origin new
    → Fits (update_message id use_edns (compare_and_swap current new origin))
compare_and_swap_fits id current new origin use_edns g h =
    sections_fit id use_edns origin new.dns_class _ _ g.rooted h.sent.class
    (each_changed without_ttl (λ r. refl) untimed current g.sound g.supported g.sent)
    (All-append (FitsPlain op_codes.Update) _ _
    (each_changed (untimed_in classes.NONE) (λ r. refl) in_none current g.sound g.supported g.sent)
    (records_fit new h.sound h.supported h.sent))

pub delete_rrset_fits : (id : ℕ) (r : Record RData) (origin : NameValue) (use_edns : Bool)
    → IsSendableKey origin r.name (type_of_data r.rdata) r.dns_class
    → Fits (update_message id use_edns (delete_rrset r origin))
delete_rrset_fits id r origin use_edns g =
    let t = type_of_data r.rdata in
    sections_fit id use_edns origin r.dns_class _ _ g.rooted g.sent_class (All-nil _)
    (one_fits _ (bare_fits r.name t classes.ANY r.mdns_cache_flush g.owned
    (record { reads = g.type_reads; not_opt = not_opt t g.supported; placed = not_additional t g.supported })
    any_class))

pub delete_all_fits : (id : ℕ) (owner origin : NameValue) (class : DNSClass) (use_edns : Bool)
    → IsSendableOwner origin owner class
    → Fits (update_message id use_edns (delete_all owner origin class))
delete_all_fits id owner origin class use_edns g =
    sections_fit id use_edns origin class _ _ g.rooted g.sent_class (All-nil _)
    (one_fits _ (empty_fits owner types.ANY classes.ANY g.owned
    (record { reads = refl; not_opt = refl; placed = refl }) any_class))

-- ---- what uncut bytes mean

pub creates_set : (id : ℕ) (s : SetValue) (origin : NameValue) (use_edns : Bool)
    → CreatesSet s origin (update_message id use_edns (create s origin))
creates_set id s origin use_edns = means_uncut _ _ _ (λ z p. create_changes z s origin p)

pub appends_to_set : (id : ℕ) (s : SetValue) (origin : NameValue) (must_exist use_edns : Bool)
    → AppendsToSet s origin must_exist (update_message id use_edns (append s origin must_exist))
appends_to_set id s origin must_exist use_edns = means_uncut _ _ _ (λ z p. append_changes z s origin must_exist p)

pub swaps_sets : (id : ℕ) (current new : SetValue) (origin : NameValue) (use_edns : Bool)
    → SwapsSets current new origin (update_message id use_edns (compare_and_swap current new origin))
swaps_sets id current new origin use_edns =
    means_uncut _ _ _ (λ z p. compare_and_swap_changes z current new origin p)

pub deletes_data : (id : ℕ) (s : SetValue) (origin : NameValue) (use_edns : Bool)
    → DeletesData s origin (update_message id use_edns (delete_by_rdata s origin))
deletes_data id s origin use_edns = means_uncut _ _ _ (λ z p. delete_by_rdata_changes z s origin p)

pub deletes_set : (id : ℕ) (r : Record RData) (origin : NameValue) (use_edns : Bool)
    → DeletesSet r origin (update_message id use_edns (delete_rrset r origin))
deletes_set id r origin use_edns = means_uncut _ _ _ (λ z p. delete_rrset_changes z r origin p)

pub deletes_name : (id : ℕ) (owner origin : NameValue) (class : DNSClass) (use_edns : Bool)
    → DeletesName owner origin class (update_message id use_edns (delete_all owner origin class))
deletes_name id owner origin class use_edns =
    means_uncut _ _ _ (λ z p. delete_all_changes z owner origin class p)

-- ---- what is known of a message, of one that is built

pub of_built : (P : MessageValue → Type 0) (m : MessageValue) (result : Result Message ProtoError)
    → IfOk result (λ x. message_value x ≡ m) → P m → IfOk result (λ x. P (message_value x))
of_built P m (Ok x) is here = subst P (sym is) here
of_built P m (Err e) is here = tt
