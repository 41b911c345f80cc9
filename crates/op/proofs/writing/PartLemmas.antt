-- What is kept of each part of a message under a limit.
use Rattle.std.proofs.Common.{◌≡◌, ℕ, ◌+◌, ◌≤◌, List, ◌++◌, length, ap, sym, ◌∙◌, subst, arith, length-append, false}
use Rattle.std.specs.Prelude.{nat_lt}
use Rattle.std.specs.Option.{option_map}
use Rattle.std.proofs.lemmas.Bool.{le-ltb}
use Rattle.std.proofs.lemmas.Bool.Decides.{nat_tests}
use Rattle.std.proofs.lemmas.List.{append-nil, nil_from_length}
use Rattle.base.specs.writing.State.{Stored}
use Rattle.base.specs.writing.Written.{Writing, in_turn, that_fit}
use Rattle.base.proofs.writing.FittingLemmas.{Fits-cut_at, all_fit, no_fewer_fit}
use Rattle.base_data.specs.declared.rdata.RData.{RData}
use Rattle.rr.specs.Record.{record_written}
use Rattle.rr.specs.declared.record.Record.{Record}
use Rattle.op.specs.Cut.{raised}
use Rattle.op.specs.EdnsRecord.{edns_record}
use Rattle.op.specs.Fits.{as_list, signature_record}
use Rattle.op.specs.Message.{MessageValue}
use Rattle.op.specs.MessageWritten.{AreWhole, LostForRoom, Part, part_within, part_after, parts_of}
use Rattle.op.specs.Query.{query_written}
use Rattle.op.specs.declared.query.Query.{Query}

module _ {E : Type 0} (f : E → Writing) where
  -- what is lost of a part is the rest, of which the first passes the limit
  pub part_lost : (limit : ℕ) (xs : List E) (at : ℕ) (stored : List Stored)
      → LostForRoom f limit xs (part_within f limit xs at stored)
  part_lost limit xs at stored =
      let (lost, whole, passes) = Fits-cut_at f limit xs at stored in
      record { lost = lost; whole = whole; passes = passes }

  -- a part of these values
  abbrev part_of : List E → List E → ℕ → List Stored → Part E
  part_of xs kept at stored =
      let piece = in_turn f kept at stored in
      record { kept = kept; is_cut = nat_lt (length kept) (length xs); end = at + length piece.bytes; piece = piece }

  -- all are kept where the part isn't cut
  pub kept_all : (limit : ℕ) (xs : List E) (at : ℕ) (stored : List Stored)
      → (part_within f limit xs at stored).is_cut ≡ false → that_fit f limit xs at stored ≡ xs
  kept_all limit xs at stored uncut =
      let cut = part_lost limit xs at stored in
      let kept = that_fit f limit xs at stored in
      let sum = ap length cut.whole ∙ length-append kept cut.lost in
      let none : length cut.lost ≡ 0 = grind (arith, nat_tests, uncut, sum) in
      sym (append-nil kept) ∙ ap (λ (ys : List E). kept ++ ys) (sym (nil_from_length cut.lost none)) ∙ sym cut.whole

  pub part_whole : (larger limit : ℕ) (xs : List E) (at : ℕ) (stored : List Stored)
      → (part_within f larger xs at stored).is_cut ≡ false → (part_within f larger xs at stored).end ≤ limit
      → part_within f limit xs at stored ≡ part_within f larger xs at stored
  part_whole larger limit xs at stored uncut room =
      let all = kept_all larger xs at stored uncut in
      let fits = subst (λ (ys : List E). at + length (in_turn f ys at stored).bytes ≤ limit) all room in
      ap (λ (ys : List E). part_of xs ys at stored) (all_fit f limit xs at stored fits ∙ sym all)

  -- no fewer fit under a larger limit
  pub no_fewer : (small large : ℕ) → small ≤ large → (xs : List E) (at : ℕ) (stored : List Stored)
      → length (that_fit f small xs at stored) ≤ length (that_fit f large xs at stored)
  no_fewer small large more xs at stored =
      let (others, is) = no_fewer_fit f small large xs at stored more in
      omega (arith, ap length is, length-append (that_fit f small xs at stored) others)

  -- so what isn't cut is the same under a larger one
  part_grows : (small large : ℕ) → small ≤ large → (xs : List E) (at : ℕ) (stored : List Stored)
      → (part_within f small xs at stored).is_cut ≡ false → part_within f large xs at stored ≡ part_within f small xs at
      stored
  part_grows small large more xs at stored uncut =
      let all = kept_all small xs at stored uncut in
      let whole = le-ltb (length (that_fit f large xs at stored)) (length xs)
      (omega (arith, no_fewer small large more xs at stored, ap length all)) in
      ap (λ (ys : List E). part_of xs ys at stored) (kept_all large xs at stored whole ∙ sym all)

  -- a part ends no earlier than the one before it
  pub ends_later : {D : Type 0} (limit : ℕ) (xs : List E) (before : Part D)
      → before.end ≤ (part_after f limit xs before).end
  ends_later limit xs before = omega arith

-- ---- the whole message

abbrev opt_of : MessageValue → List (Record RData)
opt_of m = as_list (option_map edns_record (raised m))

abbrev signed_of : MessageValue → List (Record RData)
signed_of m = as_list (option_map signature_record m.signature)

-- the next part is the same where the one before it is
next_whole : {D E : Type 0} (f : E → Writing) (larger limit : ℕ) (xs : List E) (mine its : Part D) → mine ≡ its
    → (part_after f larger xs its).is_cut ≡ false → (part_after f larger xs its).end ≤ limit
    → part_after f limit xs mine ≡ part_after f larger xs its
next_whole {D} f larger limit xs mine its same uncut room =
    ap (λ (p : Part D). part_after f limit xs p) same
    ∙ part_whole f larger limit xs its.end its.piece.suffixes uncut room

pub message_whole : (larger limit : ℕ) (m : MessageValue) (at : ℕ) (stored : List Stored)
    → AreWhole (parts_of larger m at stored) → (parts_of larger m at stored).signature.end ≤ limit
    → parts_of limit m at stored ≡ parts_of larger m at stored
message_whole larger limit m at stored whole room =
    let its = parts_of larger m at stored in
    let mine = parts_of limit m at stored in
    let signature_room : its.signature.end ≤ limit = room in
    let edns_room : its.edns.end ≤ limit = omega
    (arith, signature_room, ends_later record_written larger (signed_of m) its.edns) in
    let additionals_room : its.additionals.end ≤ limit =
    omega (arith, edns_room, ends_later record_written larger (opt_of m) its.additionals) in
    let authorities_room : its.authorities.end ≤ limit =
    omega (arith, additionals_room, ends_later record_written larger m.additionals its.authorities) in
    let answers_room : its.answers.end ≤ limit =
    omega (arith, authorities_room, ends_later record_written larger m.authorities its.answers) in
    let queries_room : its.queries.end ≤ limit =
    omega (arith, answers_room, ends_later record_written larger m.answers its.queries) in
    let queries = part_whole query_written larger limit m.queries at stored whole.queries queries_room in
    let answers = next_whole record_written larger limit m.answers mine.queries its.queries queries whole.answers
    answers_room in
    let authorities = next_whole record_written larger limit m.authorities mine.answers its.answers answers
    whole.authorities authorities_room in
    let additionals = next_whole record_written larger limit m.additionals mine.authorities its.authorities authorities
    whole.additionals additionals_room in
    let edns = next_whole record_written larger limit
    (opt_of m) mine.additionals its.additionals additionals whole.edns edns_room in
    let signature = next_whole record_written larger limit
    (signed_of m) mine.edns its.edns edns whole.signature signature_room in
    λ i. record {
      queries = queries i;
      answers = answers i;
      authorities = authorities i;
      additionals =
          additionals i;
      edns = edns i;
      signature = signature i;
    }

pub answers_grow : (small large : ℕ) → small ≤ large → (m : MessageValue) (at : ℕ) (stored : List Stored)
    → (parts_of small m at stored).queries.is_cut ≡ false
    → length (parts_of small m at stored).answers.kept ≤ length (parts_of large m at stored).answers.kept
answers_grow small large more m at stored uncut =
    let its = (parts_of small m at stored).queries in
    let same = part_grows query_written small large more m.queries at stored uncut in
    let kept = ap (λ (p : Part Query). length (part_after record_written large m.answers p).kept) same in
    omega (arith, kept, no_fewer record_written small large more m.answers its.end its.piece.suffixes)
