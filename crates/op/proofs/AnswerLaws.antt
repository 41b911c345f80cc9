-- What an answer to a message tells, by the definition alone.
use Rattle.std.proofs.Common.{◌≡◌, ℕ, ◌+◌, ◌-◌, ◌<◌, ◌≤◌, Bool, true, false, List, [], ◌∷◌, ◌++◌, length, refl, ap, sym}
use Rattle.std.proofs.Common.{subst, arith, length-append, Result, Ok, Err}
use Rattle.std.specs.Prelude.{if◌then◌else◌, nat_lt}
use Rattle.std.proofs.lemmas.Bool.{ltb-false, ltb-true}
use Rattle.base.specs.writing.State.{Stored}
use Rattle.base.specs.writing.Written.{FirstPassesAt, in_turn}
use Rattle.base.specs.declared.error.proto_error.ProtoError.{ProtoError}
use Rattle.base.specs.declared.error.proto_error.ProtoError.TheVariants as refusals
use Rattle.op.specs.Cut.{IsTooSmall}
use Rattle.op.specs.Fits.{HasRoom, plain_queries}
use Rattle.op.specs.Message.{MessageValue}
use Rattle.op.specs.MessageWritten.{Part, message_answer_at, message_written, part_within}
use Rattle.op.specs.Query.{query_written}
use Rattle.op.specs.QuerySays.{query_says}
use Rattle.op.specs.declared.query.Query.{Query}
use Rattle.op.proofs.writing.PartLemmas.{part_lost}

-- questions take no more bytes than uncompressed
pub queries_most : (qs : List Query) (at : ℕ) (stored : List Stored)
    → length (in_turn query_written qs at stored).bytes ≤ plain_queries qs
queries_most [] at stored = omega arith
queries_most (q ∷ qs) at stored =
    let first = query_written q at stored in
    let rest = queries_most qs (at + length first.bytes) first.suffixes in
    omega (
      arith,
      rest,
      (query_says q).at_most at stored,
      length-append first.bytes
          (in_turn query_written qs (at + length first.bytes) first.suffixes).bytes,
    )

plain-append : (xs ys : List Query) → plain_queries (xs ++ ys) ≡ plain_queries xs + plain_queries ys
plain-append [] ys = omega arith
plain-append (x ∷ xs) ys = omega (arith, plain-append xs ys)

-- the answer by the two tests
abbrev pub answer_by : List ℕ → Bool → Bool → ℕ → Result (List ℕ) ProtoError
answer_by written small cut count =
    if small then Err refusals.MaxBufferSizeExceeded
    else (if cut then Err (refusals.NotAllRecordsWritten count) else Ok written)

same_refusal : (e f : ProtoError) → ◌≡◌ {A = Result (List ℕ) ProtoError} (Err e) (Err f) → e ≡ f
same_refusal e f is = cc

pub same_bytes : (B C : List ℕ) → ◌≡◌ {A = Result (List ℕ) ProtoError} (Ok B) (Ok C) → B ≡ C
same_bytes B C is = cc

module _ (m : MessageValue) (limit at : ℕ) (stored : List Stored) where
  abbrev asked : Part Query
  asked = part_within query_written limit m.queries (at + 12) stored

  abbrev written : List ℕ
  written = (message_written limit m at stored).bytes

  -- what holds of each of the three answers holds of the answer
  pub answered : (P : Result (List ℕ) ProtoError → Type 0) → (limit < at + 12 → P (Err refusals.MaxBufferSizeExceeded))
      → (at + 12 ≤ limit → asked.is_cut ≡ true → P (Err (refusals.NotAllRecordsWritten (length asked.kept))))
      → (at + 12 ≤ limit → asked.is_cut ≡ false → P (Ok written)) → P (message_answer_at limit m at stored)
  answered P small cut whole = go (nat_lt limit (at + 12)) refl asked.is_cut refl
    where
      go : (low : Bool) → nat_lt limit (at + 12) ≡ low → (c : Bool) → asked.is_cut ≡ c
          → P (answer_by written low c (length asked.kept))
      go true low c told = small (ltb-true limit (at + 12) low)
      go false low true told = cut (ltb-false limit (at + 12) low) told
      go false low false told = whole (ltb-false limit (at + 12) low) told

  -- where questions are cut, they have no room uncompressed
  full : asked.is_cut ≡ true → limit < at + 12 + plain_queries m.queries
  full cut =
      let part = part_lost query_written limit m.queries (at + 12) stored in
      go part.lost part.whole part.passes
    where
      go : (lost : List Query) → m.queries ≡ asked.kept ++ lost
          → FirstPassesAt query_written limit asked.end asked.piece.suffixes lost
          → limit < at + 12 + plain_queries m.queries
      go [] whole passes = absurd (omega
          (arith, ltb-true (length asked.kept) (length m.queries) cut, ap length whole, length-append asked.kept []))
      go (q ∷ lost) whole passes =
          omega (
            arith,
            passes,
            (query_says q).at_most asked.end asked.piece.suffixes,
            queries_most asked.kept (at + 12)
                stored,
            ap plain_queries whole,
            plain-append asked.kept (q ∷ lost),
          )

  -- why it is refused
  abbrev pub NoRoomAt : ProtoError → Type 0
  NoRoomAt refusals.MaxBufferSizeExceeded = limit < at + 12
  NoRoomAt (refusals.NotAllRecordsWritten n) =
      (at + 12 ≤ limit) × (limit < at + 12 + plain_queries m.queries) × (n ≡ length asked.kept)
  NoRoomAt e = ⊥

  pub refused_at : (e : ProtoError) → message_answer_at limit m at stored ≡ Err e → NoRoomAt e
  refused_at =
      answered (λ r. (e : ProtoError) → r ≡ Err e → NoRoomAt e)
      (λ low e is. subst NoRoomAt (same_refusal refusals.MaxBufferSizeExceeded e is) low)
      (λ room cut e is. subst NoRoomAt (same_refusal (refusals.NotAllRecordsWritten (length asked.kept)) e is)
      (room, full cut, refl))
      (λ room cut e is. absurd (let no = is in cc))

  -- with room for header and uncompressed questions it isn't
  pub not_refused : (e : ProtoError) → HasRoom m (limit - at) → message_answer_at limit m at stored ≡ Err e → ⊥
  not_refused e room is = go e (refused_at e is)
    where
      go : (f : ProtoError) → NoRoomAt f → ⊥
      go refusals.MaxBufferSizeExceeded small = omega (arith, small, room)
      go (refusals.NotAllRecordsWritten n) small = omega (arith, small.0, small.1, room)
      go f none = none

  pub answer_bytes : (B : List ℕ) → message_answer_at limit m at stored ≡ Ok B → B ≡ written
  answer_bytes =
      answered (λ r. (B : List ℕ) → r ≡ Ok B → B ≡ written) (λ low B is. absurd (let no = is in cc))
      (λ room cut B is. absurd (let no = is in cc))
      (λ room whole B is. sym (same_bytes written B is))

-- of an encoder that held nothing, the limit itself is too small
pub too_small : (m : MessageValue) (limit : ℕ) (stored : List Stored) (e : ProtoError)
    → message_answer_at limit m 0 stored ≡ Err e → IsTooSmall m limit e
too_small m limit stored e is = go e (refused_at m limit 0 stored e is)
  where
    go : (f : ProtoError) → NoRoomAt m limit 0 stored f → IsTooSmall m limit f
    go refusals.MaxBufferSizeExceeded small = small
    go (refusals.NotAllRecordsWritten n) small = (small.0, small.1)
    go f none = absurd none
