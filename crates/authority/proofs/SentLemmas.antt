-- A reply always has room: its one question was read, and 512 bytes are allowed.
use Rattle.authority.specs.Reply.{answer_to, framed, header_refusal, one_question, only_code, refused_or}
use Rattle.authority.specs.Sent.{is_cut_short, malformed_by, most_sent, sent, sent_by, sent_of, some_bytes}
use Rattle.authority.specs.Sent.{whole_or_less}
use Rattle.authority.specs.declared.sending.Carrier.TheVariants as carriers
use Rattle.authority.specs.declared.sending.Carrier.{Carrier}
use Rattle.base.specs.Words.BackToBack.{more}
use Rattle.base.specs.Words.{BackToBack}
use Rattle.base.specs.declared.error.decode_error.DecodeError.{DecodeError}
use Rattle.base.specs.declared.error.proto_error.ProtoError.{ProtoError}
use Rattle.op.proofs.AnswerLaws.{not_refused}
use Rattle.op.proofs.reading.MessageStands.{reads_message}
use Rattle.op.specs.Fits.{HasRoom, plain_queries}
use Rattle.op.specs.Header.{header_at}
use Rattle.op.specs.Message.{MessageValue, empty_message, message_at}
use Rattle.op.specs.MessageType.{is_response}
use Rattle.op.specs.MessageWritten.{message_answer}
use Rattle.op.specs.Parts.{payload_taken}
use Rattle.op.specs.Query.{IsQueryAt, plain_query}
use Rattle.op.specs.declared.header.Header.{Header}
use Rattle.op.specs.declared.query.Query.{Query}
use Rattle.op.specs.declared.response_code.ResponseCode.TheVariants.{FormErr}
use Rattle.op_use.specs.Responses.{is_empty_list}
use Rattle.op_use.specs.Zone.{Zone}
use Rattle.std.proofs.Common.{Err, List, None, Ok, Result, Some, [], ap, arith, cond, false, refl, true, ◌+◌, ◌≤◌}
use Rattle.std.specs.Prelude.{Bool, ℕ, ◌&&◌, ◌∷◌, ◌≡◌}

module _ (limit : ℕ) (e : ProtoError) where
  written : (m : MessageValue) (r : Result (List ℕ) ProtoError) → HasRoom m limit → message_answer limit m ≡ r
      → some_bytes r ≡ Err e → ⊥
  written m (Ok bytes) room is h = cc
  written m (Err f) room is h = not_refused m limit 0 [] f (omega (arith, room)) is

  less_or_whole : (m : MessageValue) (bytes : List ℕ) (b : Bool) → HasRoom m limit
      → some_bytes (cond b (message_answer limit m) (Ok bytes)) ≡ Err e → ⊥
  less_or_whole m bytes true room h = written m (message_answer limit m) room refl h
  less_or_whole m bytes false room h = cc

  by_answer : (m : MessageValue) (r : Result (List ℕ) ProtoError) → HasRoom m limit → message_answer limit m ≡ r
      → some_bytes (whole_or_less limit m r) ≡ Err e → ⊥
  by_answer m (Err f) room is h = not_refused m limit 0 [] f (omega (arith, room)) is
  by_answer m (Ok bytes) room is h =
      less_or_whole (record m { additionals = [] }) bytes (is_cut_short bytes && is_empty_list m.authorities) room h

  sent_in_room : (m : MessageValue) → HasRoom m limit → sent_of limit (Some m) ≡ Err e → ⊥
  sent_in_room m room h = by_answer m (message_answer limit m) room refl h

  unless_response : (b : Bool) (m : MessageValue) → HasRoom m limit → sent_of limit (cond b None (Some m)) ≡ Err e → ⊥
  unless_response true m room h = cc
  unless_response false m room h = sent_in_room m room h

-- at least 512 bytes are allowed
enough : (carrier : Carrier) (taken : ℕ) → 512 ≤ most_sent carrier taken
enough (carriers.Datagram most) taken = omega arith
enough carriers.Stream taken = omega arith

question_short : (B : List ℕ) (i : ℕ) (q : Query) (end : ℕ) → IsQueryAt B i q end → plain_query q ≤ 259
question_short B i q end word = omega (arith, word.word.owner.1, ap plain_query word.value)

one_short : (B : List ℕ) (i : ℕ) (qs : List Query) (end : ℕ) → BackToBack (IsQueryAt B) i qs end
    → 12 + plain_queries (one_question qs) ≤ 512
one_short B i [] end words = omega arith
one_short B i (q ∷ []) end (more {j = j} word rest) = omega (arith, question_short B i q j word)
one_short B i (q ∷ (r ∷ qs)) end words = omega arith

module _ (e : ProtoError) where
  by_header : (limit : ℕ) (r : Result (Header × ℕ) DecodeError) → 512 ≤ limit → sent_of limit (malformed_by r) ≡ Err e
      → ⊥
  by_header limit (Ok h) room s = unless_response limit e (is_response h.0.metadata.message_type)
      (framed (empty_message h.0.metadata) (only_code FormErr)) (omega (arith, room)) s
  by_header limit (Err f) room s = cc

module _ (z : Zone) (carrier : Carrier) (bytes : List ℕ) (e : ProtoError) where
  by_read : (r : Result (MessageValue × ℕ) DecodeError) → message_at bytes 0 ≡ r → sent_by z carrier bytes r ≡ Err e → ⊥
  by_read (Ok m) is h =
      let limit : ℕ = most_sent carrier (payload_taken m.0.edns) in
      let word = (reads_message bytes 0 m.0 m.1).0 is in
      let short = one_short bytes 12 m.0.queries word.queries_end word.queries_stand in
      unless_response limit e (is_response m.0.metadata.message_type)
      (framed m.0 (refused_or (header_refusal m.0) (answer_to z m.0.queries)))
      (omega (arith, short, enough carrier (payload_taken m.0.edns))) h
  by_read (Err f) is h = by_header e (most_sent carrier 512) (header_at bytes 0) (enough carrier 512) h

-- there is always room for what is sent
pub never_refused : (z : Zone) (carrier : Carrier) (bytes : List ℕ) (e : ProtoError) → sent z carrier bytes ≡ Err e → ⊥
never_refused z carrier bytes e h = by_read z carrier bytes e (message_at bytes 0) refl h
