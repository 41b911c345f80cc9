-- What the callers say of what they send, keep and change.
use Rattle.std.proofs.Common.{Err, List, None, Ok, Option, Result, Some, [], ap, lit<, lit≤, false, refl, subst, sym}
use Rattle.std.proofs.Common.{true, ℕ, ◌∙◌, ◌∷◌, ◌≡◌, ◌⊎◌, inl, inr}
use Rattle.std.proofs.lemmas.Bool.{or_parts}
use Rattle.std.proofs.lemmas.List.Elements.{All-cons, All-nil}
use Rattle.std.specs.BTreeMap.{BTreeMap}
use Rattle.std.specs.Prelude.{All, String, map}
use Rattle.std.specs.String.{string_bytes}
use Rattle.std.specs.declared.alloc.Global.{Global}
use Rattle.base.specs.names.Labels.{NameValue}
use Rattle.base.specs.names.NameOrder.{folded, is_zone_of}
use Rattle.base.specs.names.NameOrderLaws.{same_by-equiv}
use Rattle.base.specs.declared.dns_class.DNSClass.TheVariants as classes
use Rattle.base.specs.declared.error.proto_error.ProtoError.{ProtoError}
use Rattle.base.specs.declared.error.proto_error.ProtoError.TheVariants as refusals
use Rattle.base.specs.declared.rr_key.RrKey.{RrKey}
use Rattle.base_data.specs.declared.rdata.RData.{RData}
use Rattle.op.proofs.AnswerLaws.{too_small}
use Rattle.op.proofs.reading.MessageStands.{one_message}
use Rattle.op.specs.Edns.{new_edns}
use Rattle.op.specs.Cut.{IsCut, IsUncut, IsWritten, any_lost}
use Rattle.op.specs.Fits.{Fits, FitsEdns, FitsPlain, as_list}
use Rattle.op.specs.Message.{IsMessageAt, MessageValue}
use Rattle.op.specs.MessageWritten.{message_answer, message_bytes}
use Rattle.op.specs.Parts.{payload_taken}
use Rattle.op.specs.declared.edns.Edns.{Edns}
use Rattle.op.specs.declared.response_code.ResponseCode.{ResponseCode}
use Rattle.op_use.specs.AppliedMeaning.{CreateApplies, MapsAreZones}
use Rattle.op_use.specs.Applying.{IsApplied}
use Rattle.op_use.specs.Server.{sections_of}
use Rattle.op_use.specs.SoundSet.{IsSendable}
use Rattle.rr.specs.RecordSet.{SetValue}
use Rattle.rr.specs.declared.record.Record.{Record}
use Rattle.txt.specs.Parser.{ParserValue, named_texts, text_among}
use Rattle.txt.specs.Zone.{Texts, no_texts, zone_of}
use Rattle.examples.specs.Callers.{IsQueryAnswered, IsCreated, IsNotReceived, IsReceived, IsUnanswered, IsUnsent}
use Rattle.examples.specs.Callers.{IsUnwritten, IsZoneOfText, creating, is_query, response_edns, response_to}
use Rattle.examples.specs.declared.refusal.Refusal.{Refusal}
use Rattle.examples.specs.declared.refusal.Refusal.TheVariants as refused

-- ---- an answer

edns_fits : (edns : Option Edns) → All FitsEdns (as_list (response_edns edns))
edns_fits None = All-nil FitsEdns
edns_fits (Some e) = All-cons FitsEdns new_edns [] (record { payload = lit≤ tt; version = lit< tt; z = lit< tt })
    (All-nil FitsEdns)

-- a response to a query that was read can stand on the wire, if its answers can
response_fits : (q : MessageValue) (answers : List (Record RData)) → Fits q → All (FitsPlain q.metadata.op_code) answers
    → Fits (response_to q answers)
response_fits q answers fits all = record {
  op_code = fits.op_code;
  op_code_reads = fits.op_code_reads;
  queries = fits.queries;
  answers = all;
  authorities = All-nil _;
  additionals = All-nil _;
  edns = edns_fits q.edns;
  signature = All-nil _;
}

module _ (received : List ℕ) (answers : List (Record RData)) (q : MessageValue) (e : ℕ)
    (stands : IsMessageAt received 0 q e) (m : MessageValue) (limit : ℕ)
    (is : m ≡ response_to q answers) (taken : limit ≡ payload_taken q.edns) where
  -- writing the message under the limit is writing the response under what the client takes
  as_taken : message_answer (payload_taken q.edns) (response_to q answers) ≡ message_answer limit m
  as_taken = ap (message_answer (payload_taken q.edns)) (sym is) ∙ ap (λ n. message_answer n m) (sym taken)

  -- what is sent answers the query
  pub answered : (sent : List ℕ) → is_query q ≡ true → Fits q → (Fits m → IsWritten m limit sent)
      → message_answer limit m ≡ Ok sent
      → IsQueryAnswered received answers sent
  answered sent asks fits written exact = record {
    query = q;
    end = e;
    stands = stands;
    asks = asks;
    exact = as_taken ∙ exact;
    cut = λ all. subst (λ x. IsWritten x (payload_taken q.edns) sent) is
        (subst (λ n. IsWritten m n sent) taken (written (subst Fits (sym is) (response_fits q answers fits all))));
  }

  unwritten : (refusal : ProtoError) → message_answer limit m ≡ Err refusal → IsUnwritten received answers refusal
  unwritten refusal exact = record { query = q; end = e; stands = stands; exact = as_taken ∙ exact }

  -- and a refusal says why nothing was
  pub unanswered : (refusal : ProtoError) → (refusal ≡ refusals.Memory) ⊎ (message_answer limit m ≡ Err refusal)
      → IsUnanswered received answers refusal
  unanswered refusal (inl memory) = subst (λ r. IsUnanswered received answers r) (sym memory) tt
  unanswered refusals.MaxBufferSizeExceeded (inr exact) = unwritten refusals.MaxBufferSizeExceeded exact
  unanswered (refusals.NotAllRecordsWritten count) (inr exact) = unwritten (refusals.NotAllRecordsWritten count) exact
  unanswered refusals.Memory (inr exact) = tt
  unanswered (refusals.Decode fault) (inr exact) = absurd (too_small m limit [] (refusals.Decode fault) exact)
  unanswered refusals.NotOpt (inr exact) = unwritten refusals.NotOpt exact
  unanswered (refusals.Message text) (inr exact) = unwritten (refusals.Message text) exact
  unanswered refusals.NotAResponse (inr exact) = unwritten refusals.NotAResponse exact

-- ---- an update

none_lost : {X : Type 0} (lost : List X) → any_lost lost ≡ false → lost ≡ []
none_lost [] h = refl
none_lost (x ∷ xs) h = absurd cc

-- a cut whose TC is clear is whole
uncut : {m : MessageValue} {limit : ℕ} {B : List ℕ} {c : MessageValue} (k : IsCut m limit B c)
    → c.metadata.truncation ≡ false → IsUncut k
uncut {m = m} k clear =
    let said = sym (ap (λ d. d.truncation) k.metadata) ∙ clear in
    let first = or_parts m.metadata.truncation _ said in
    let second = or_parts (any_lost k.answers.lost) _ first.1 in
    let third = or_parts (any_lost k.authorities.lost) _ second.1 in
    let fourth = or_parts (any_lost k.additionals.lost) _ third.1 in
    let fifth = or_parts (any_lost k.edns.lost) _ fourth.1 in
    (none_lost _ second.0, none_lost _ third.0, none_lost _ fourth.0, none_lost _ fifth.0, none_lost _ fifth.1)

-- a map without texts lets none be included
none_among : (includes : BTreeMap (String Global) (String Global)) → includes.entries ≡ []
    → text_among (named_texts includes) ≡ no_texts
none_among includes empty = ap (λ es. text_among
    (map (λ (e : String Global × String Global). (string_bytes e.0, string_bytes e.1)) es)) empty

-- a text that includes none is read as by a map without texts
pub read_alone : (origin under : NameValue) (text : List ℕ) (includes : BTreeMap (String Global) (String Global))
    (p : ParserValue) → under ≡ origin → includes.entries ≡ []
    → p ≡ record { text = text; includes = named_texts includes; origin = Some under }
    → zone_of no_texts (Some origin) text ≡ zone_of (text_among p.includes) p.origin p.text
read_alone origin under text includes p same empty is =
    ap (λ n. zone_of no_texts (Some n) text) (sym same)
    ∙ ap (λ (t : Texts). zone_of t (Some under) text) (sym (none_among includes empty))
    ∙ ap (λ (q : ParserValue). zone_of (text_among q.includes) q.origin q.text) (sym is)

-- what was not received whole was not sent
pub unsent : (origin : NameValue) (s : SetValue) (B : List ℕ) → B ≡ message_bytes 65535 (creating origin s)
    → (IsSendable origin s → IsWritten (creating origin s) 65535 B) → (e : Refusal) → IsNotReceived B e
    → IsUnsent origin s e
unsent origin s B exact written (refused.Decode fault) why =
    subst (λ (C : List ℕ). (IsSendable origin s → IsWritten (creating origin s) 65535 C)
    × IsNotReceived C (refused.Decode fault)) exact (written, why)
unsent origin s B exact written refused.Input why =
    subst (λ (C : List ℕ). (IsSendable origin s → IsWritten (creating origin s) 65535 C)
    × IsNotReceived C refused.Input) exact (written, why)
unsent origin s B exact written refused.Class why = absurd why
unsent origin s B exact written (refused.Parse e) why = absurd why
unsent origin s B exact written (refused.Proto e) why = absurd why

module _ (maps : MapsAreZones) (creates : CreateApplies) (origin : NameValue) (text : List ℕ) (s : SetValue)
    (bytes : List ℕ) (update : MessageValue)
    (old new : BTreeMap RrKey SetValue) (code : ResponseCode) where
  -- the update that was received makes of the zone what creating the set makes
  pub created : is_zone_of origin s.name ≡ true → (IsSendable origin s → IsWritten (creating origin s) 65535 bytes)
      → IsReceived bytes update
      → IsZoneOfText origin text old → IsApplied origin classes.IN (sections_of update) old code new
      → IsCreated origin text s code new
  created within written received before applied = record {
    old = old;
    before = before;
    update = update;
    applied = applied;
    change = λ sendable ordinary in_class alone.
        let w = written sendable in
        let same = one_message bytes 0 update w.message _ _ received.stands w.is_cut.word in
        let whole = uncut w.is_cut (sym (ap (λ m. m.metadata.truncation) same.0) ∙ received.whole) in
        creates 1 s origin false 65535 bytes w.message w.is_cut whole update received.end received.stands origin
        classes.IN old new code before.is_map (
          record {
            zone = maps origin classes.IN old before.is_map;
            sound = sendable.sound;
            ordinary = ordinary;
            place = record {
              same_origin = (same_by-equiv folded).refl origin;
              same_class = sym in_class;
              within =
                  within;
            };
          },
          alone,
        )
        applied;
  }
