-- What is written of a message that fits is a cut of it, which is read as it stands.
use Rattle.std.proofs.Common.{◌≡◌, ℕ, ◌+◌, ◌/◌, ◌%◌, ◌<◌, ◌≤◌, ◌^◌, List, [], ◌∷◌, ◌++◌, length, refl, ap, sym, ◌∙◌}
use Rattle.std.proofs.Common.{subst, arith, length-append, Option, Ok}
use Rattle.std.specs.Prelude.{All, map, nat_lt, ◌||◌}
use Rattle.std.specs.Option.{option_map}
use Rattle.std.proofs.Math.Path.{transport}
use Rattle.std.proofs.Math.Seq.{take-length}
use Rattle.std.proofs.lemmas.List.Elements.{All-same}
use Rattle.base.specs.writing.State.{State, Stored}
use Rattle.base.specs.WordLemmas.{first_stands}
use Rattle.base.specs.writing.Written.{FirstPassesAt, Writing, after}
use Rattle.base_data.specs.Kinds.{data_says}
use Rattle.base_data.specs.declared.rdata.RData.{RData}
use Rattle.rr.specs.Record.{FitsRecord, plain_record, record_written}
use Rattle.rr.specs.RecordSays.{KeptRecord, record_says}
use Rattle.rr.specs.declared.record.Record.{Record}
use Rattle.op.specs.Cut.{IsCut, IsFront, IsWritten, NoRoom, any_lost, code_range, raised}
use Rattle.op.specs.EdnsRecord.{edns_record}
use Rattle.op.specs.Fits.{Fits, FitsAdditional, FitsEdns, FitsPlain, as_list, signature_record, with_high_bits}
use Rattle.op.specs.Header.{HeaderWord, IsNarrow, header_bytes, header_value, metadata_value, raw_header}
use Rattle.op.specs.HeaderSays.{header_stands}
use Rattle.op.specs.Message.{IsMessageAt, MessageValue, high_code, message_of}
use Rattle.op.specs.MessageKept.{MessageKept}
use Rattle.op.specs.MessageWritten.{LostForRoom, Part, Parts, body, header_of, message_answer, message_answer_at}
use Rattle.op.specs.MessageWritten.{message_written, parts_of}
use Rattle.op.specs.OpCode.{op_number, op_value}
use Rattle.op.specs.Query.{FitsQuery, query_written}
use Rattle.op.specs.QuerySays.{QueryKept}
use Rattle.op.specs.ResponseCode.{code_number, code_value}
use Rattle.op.specs.Section.{HasNeededData, IsPlain}
use Rattle.op.specs.declared.edns.Edns.{Edns}
use Rattle.op.specs.declared.header.Header.{Header}
use Rattle.op.specs.declared.header.metadata.Metadata.{Metadata}
use Rattle.op.proofs.AnswerLaws.{answered, same_bytes}
use Rattle.op.proofs.CodeLemmas.{high_back, metadata_back}
use Rattle.op.proofs.writing.CutWords.{Composed, Lies, PartsAre, PartsKept, all_front, composed, header_len}
use Rattle.op.proofs.writing.CutWords.{stands_after}
use Rattle.op.proofs.writing.FrontLemmas.{any_map}
use Rattle.op.proofs.reading.MessageStands.{message_again}
use Rattle.op.proofs.writing.MessageWrittenLemmas.{lost_told}
use Rattle.op.proofs.writing.PartLemmas.{kept_all, part_lost}
use Rattle.op.proofs.reading.ReadFits.{listed_map}
use Rattle.op.proofs.writing.RoomLemmas.{PartEnds, are_few, part_ends}
use Rattle.op.proofs.writing.SortLemmas.{OneFront, all_end, all_given, one_front, one_opt, sorted, tail}
use Rattle.op.proofs.writing.WordsBack.{edns_fits}

-- ---- parts of one or none

no_room_of : {X : Type 0} (f : X → Record RData) (limit place : ℕ) (rest : List X)
    → NoRoom plain_record limit place (map f rest) → NoRoom (λ x. plain_record (f x)) limit place rest
no_room_of f limit place [] full = tt
no_room_of f limit place (x ∷ rest) full = full

no_room : {E : Type 0} (f : E → Writing) (plain : E → ℕ)
    → ((x : E) (at : ℕ) (stored : List Stored) → length (f x at stored).bytes ≤ plain x)
    → (limit at : ℕ) (stored : List Stored) (lost : List E) → FirstPassesAt f limit at stored lost
    → NoRoom plain limit at lost
no_room f plain most limit at stored [] passes = tt
no_room f plain most limit at stored (x ∷ lost) passes = omega (arith, passes, most x at stored)

-- What is written of a message that has room for header and questions is a cut.
module _ (m : MessageValue) (limit : ℕ) (small : limit < 2 ^ 16) (room : 12 ≤ limit) (id : m.metadata.id < 2 ^ 16)
    (kept : PartsKept (parts_of limit m 12 [])) (all : (parts_of limit m 12 []).queries.kept ≡ m.queries)
    (fits : Fits m) where
  abbrev pub p : Parts
  p = parts_of limit m 12 []

  abbrev pub h : Header
  h = header_of m p

  -- the bytes
  abbrev pub bytes : List ℕ
  bytes = (message_written limit m 0 []).bytes

  abbrev rest : List ℕ
  rest = (body p 12 []).bytes

  ends : PartEnds limit 12 p
  ends = part_ends limit m 12 [] room

  len : length bytes ≡ p.signature.end
  len =
      let bq = p.queries.piece.bytes in
      let ba = p.answers.piece.bytes in
      let bn = p.authorities.piece.bytes in
      let bd = p.additionals.piece.bytes in
      let bo = p.edns.piece.bytes in
      let bs = p.signature.piece.bytes in
      omega (
        arith,
        length-append (header_bytes (raw_header h)) rest,
        length-append bq (ba ++ (bn ++ (bd ++ (bo ++ bs)))),
        length-append ba (bn ++ (bd ++ (bo ++ bs))),
        length-append bn (bd ++ (bo ++ bs)),
        length-append bd (bo ++ bs),
        length-append bo bs,
        header_len (raw_header h),
      )

  lies : Lies rest bytes 12
  lies = record {
    stands = stands_after (header_bytes (raw_header h)) rest refl;
    small = omega (arith, len, ends.all, small, length-append (header_bytes (raw_header h)) rest);
  }

  narrow : IsNarrow h.metadata.id h.counts
  narrow =
      let few = are_few ends small in
      record {
        identifier = id;
        queries = few.queries;
        answers = few.answers;
        authorities = few.authorities;
        additionals = few.additionals;
      }

  -- what each part lost
  abbrev la : LostForRoom record_written limit m.answers p.answers
  la = part_lost record_written limit m.answers p.queries.end p.queries.piece.suffixes

  abbrev ln : LostForRoom record_written limit m.authorities p.authorities
  ln = part_lost record_written limit m.authorities p.answers.end p.answers.piece.suffixes

  abbrev ld : LostForRoom record_written limit m.additionals p.additionals
  ld = part_lost record_written limit m.additionals p.authorities.end p.authorities.piece.suffixes

  abbrev lo : LostForRoom record_written limit (as_list (option_map edns_record (raised m))) p.edns
  lo = part_lost record_written limit (as_list (option_map edns_record (raised m))) p.additionals.end
      p.additionals.piece.suffixes

  abbrev ls : LostForRoom record_written limit (as_list (option_map signature_record m.signature)) p.signature
  ls = part_lost record_written limit (as_list (option_map signature_record m.signature)) p.edns.end
      p.edns.piece.suffixes

  -- a part is cut where it lost something
  tells : {E : Type 0} {f : E → Writing} {xs : List E} (q : Part E) → q.is_cut ≡ nat_lt (length q.kept) (length xs)
      → (l : LostForRoom f limit xs q) → q.is_cut ≡ any_lost l.lost
  tells q is l = is ∙ ap (λ ys. nat_lt (length q.kept) (length ys)) l.whole ∙ lost_told q.kept l.lost

  -- ---- what was kept

  fits_answers : All (FitsPlain m.metadata.op_code) p.answers.kept
  fits_answers = all_front (FitsPlain m.metadata.op_code) m.answers p.answers.kept la.lost la.whole fits.answers

  fits_authorities : All (FitsPlain m.metadata.op_code) p.authorities.kept
  fits_authorities = all_front (FitsPlain m.metadata.op_code) m.authorities p.authorities.kept ln.lost ln.whole
      fits.authorities

  fits_additionals : All (FitsAdditional m.metadata.op_code) p.additionals.kept
  fits_additionals = all_front (FitsAdditional m.metadata.op_code) m.additionals p.additionals.kept ld.lost ld.whole
      fits.additionals

  one_edns : OneFront edns_record (raised m) p.edns.kept lo.lost
  one_edns = one_front edns_record (raised m) p.edns.kept lo.lost lo.whole

  one_signature : OneFront signature_record m.signature p.signature.kept ls.lost
  one_signature = one_front signature_record m.signature p.signature.kept ls.lost ls.whole

  abbrev IsRaised : Edns → Type 0
  IsRaised x = FitsEdns x × (x.rcode_high ≡ code_number m.metadata.response_code / 16 % 256)

  fits_edns : All IsRaised (as_list one_edns.some)
  fits_edns = all_front IsRaised (as_list (raised m)) (as_list one_edns.some) one_edns.rest one_edns.front
      (listed_map FitsEdns IsRaised (with_high_bits m.metadata.response_code)
      (λ x f. (record { payload = f.payload; version = f.version; z = f.z }, refl)) m.edns fits.edns)

  fits_signature : All (λ r. FitsRecord (signature_record r)) (as_list one_signature.some)
  fits_signature = all_front (λ r. FitsRecord (signature_record r)) (as_list m.signature)
      (as_list one_signature.some) one_signature.rest one_signature.front fits.signature

  are_fit : PartsAre FitsQuery FitsRecord p
  are_fit = record {
    queries = subst (All FitsQuery) (sym all) fits.queries;
    answers = λ k d below. (fits_answers k d below).fits;
    authorities = λ k d below. (fits_authorities k d below).fits;
    additionals = λ k d below. (fits_additionals k d below).fits;
    edns = All-same FitsRecord p.edns.kept _ one_edns.kept_is
        (listed_map IsRaised FitsRecord edns_record (λ x f. edns_fits x f.0) one_edns.some fits_edns);
    signature = All-same FitsRecord p.signature.kept _ one_signature.kept_is
        (listed_map (λ r. FitsRecord (signature_record r)) FitsRecord signature_record (λ r f. f) one_signature.some
        fits_signature);
  }

  -- ---- the words

  words : Composed bytes p.queries.kept p.answers.kept p.authorities.kept p.additionals.kept
      (as_list (option_map edns_record one_edns.some)) (as_list (option_map signature_record one_signature.some))
      12 p.queries.end p.answers.end p.authorities.end p.additionals.end p.edns.end (length bytes)
  words =
      transport (λ i. Composed bytes p.queries.kept p.answers.kept p.authorities.kept p.additionals.kept
      (one_edns.kept_is i) (one_signature.kept_is i) 12 p.queries.end
      p.answers.end p.authorities.end p.additionals.end p.edns.end (sym len i))
      (composed bytes limit m kept are_fit lies)

  -- ---- the header

  metadata_read : metadata_value (raw_header h) ≡ record m.metadata {
    truncation = m.metadata.truncation ||
        (p.answers.is_cut || (p.authorities.is_cut || (p.additionals.is_cut || (p.edns.is_cut || p.signature.is_cut))));
    response_code = code_value (code_number m.metadata.response_code % 16);
  }
  metadata_read = metadata_back h fits.op_code fits.op_code_reads

  op_kept : op_value (op_number h.metadata.op_code % 16) ≡ m.metadata.op_code
  op_kept = ap (λ (x : Metadata). x.op_code) metadata_read

  abbrev message : MessageValue
  message =
      record {
        metadata = high_code one_edns.some (metadata_value (raw_header h));
        queries = p.queries.kept;
        answers = p.answers.kept;
        authorities = p.authorities.kept;
        additionals = p.additionals.kept;
        edns = one_edns.some;
        signature = one_signature.some;
      }

  plain : (rs : List (Record RData)) → All (FitsPlain m.metadata.op_code) rs
      → All (IsPlain (header_value (raw_header h)).metadata.op_code) rs
  plain rs fit = subst (λ o. All (IsPlain o) rs) (sym op_kept)
      (λ k d below. record { given = (fit k d below).given; placed = (fit k d below).placed })

  counted : h.counts ≡ record {
    queries = length p.queries.kept;
    answers = length p.answers.kept;
    authorities = length p.authorities.kept;
    additionals = length (p.additionals.kept ++ tail one_edns.some one_signature.some);
  }
  counted =
      let edns = ap length one_edns.kept_is in
      let signature = ap length one_signature.kept_is in
      let last = length-append (as_list (option_map edns_record one_edns.some))
      (as_list (option_map signature_record one_signature.some)) in
      let all_of = length-append p.additionals.kept (tail one_edns.some one_signature.some) in
      let additionals : h.counts.additionals ≡ length (p.additionals.kept ++ tail one_edns.some one_signature.some) =
      omega (arith, edns, signature, last, all_of) in
      λ i. record {
        queries = length p.queries.kept;
        answers = length p.answers.kept;
        authorities = length p.authorities.kept;
        additionals = additionals i;
      }

  header_word : HeaderWord h bytes 0 12
  header_word = header_stands h bytes 0 narrow
      (first_stands (header_bytes (raw_header h)) rest bytes 0 (record { is = take-length bytes }))

  abbrev message_word : IsMessageAt bytes 0 message (length bytes)
  message_word = record {
    header = header_value (raw_header h);
    queries_end = p.queries.end;
    answers_end = p.answers.end;
    authorities_end = p.authorities.end;
    answers = p.answers.kept;
    authorities = p.authorities.kept;
    additionals = p.additionals.kept ++ tail one_edns.some one_signature.some;
    header_stands = record { raw = raw_header h; word = header_word.0; value = refl };
    queries_stand = words.queries;
    answers_stand = words.answers;
    authorities_stand = words.authorities;
    additionals_stand = words.all;
    counts = counted;
    answers_plain = plain p.answers.kept fits_answers;
    authorities_plain = plain p.authorities.kept fits_authorities;
    additionals_given =
        subst (λ o. All (HasNeededData o) (p.additionals.kept ++ tail one_edns.some one_signature.some))
        (sym op_kept) (all_given p.additionals.kept m.metadata.op_code fits_additionals one_edns.some
        one_signature.some);
    signature_last = all_end p.additionals.kept m.metadata.op_code fits_additionals one_edns.some one_signature.some;
    one_opt = one_opt p.additionals.kept m.metadata.op_code fits_additionals one_edns.some one_signature.some;
    message =
        ap (message_of (metadata_value (raw_header h)) p.queries.kept p.answers.kept p.authorities.kept)
        (sym (sorted p.additionals.kept m.metadata.op_code fits_additionals one_edns.some one_signature.some
        (λ k d below. (fits_edns k d below).0)));
  }

  -- ---- the metadata

  metadata_is : high_code one_edns.some (metadata_value (raw_header h)) ≡ record m.metadata {
    truncation = m.metadata.truncation ||
        (any_lost la.lost || (any_lost ln.lost ||
        (any_lost ld.lost || (any_lost one_edns.rest || any_lost one_signature.rest))));
    response_code = code_value (code_number m.metadata.response_code % code_range one_edns.some);
  }
  metadata_is =
      let code = code_value (code_number m.metadata.response_code % code_range one_edns.some) in
      let edns = tells p.edns refl lo ∙ ap any_lost one_edns.lost_is ∙ sym (any_map edns_record one_edns.rest) in
      let signature = tells p.signature refl ls ∙ ap any_lost one_signature.lost_is
      ∙ sym (any_map signature_record one_signature.rest) in
      high_back one_edns.some (metadata_value (raw_header h)) (code_number m.metadata.response_code)
      (λ k d below. (fits_edns k d below).1) (ap (λ (x : Metadata). x.response_code) metadata_read)
      ∙ ap (λ (x : Metadata). record x { response_code = code }) metadata_read
      ∙ (λ i. record m.metadata {
        truncation = m.metadata.truncation ||
            (tells p.answers refl la i || (tells p.authorities refl ln i ||
            (tells p.additionals refl ld i || (edns i || signature i))));
        response_code = code;
      })

  -- ---- the cut

  full : (at : ℕ) (stored : List Stored) (lost : List (Record RData))
      → FirstPassesAt record_written limit at stored lost → NoRoom plain_record limit at lost
  full = no_room record_written plain_record (λ r. (record_says r (data_says r.rdata)).at_most) limit

  -- of a list of one or none
  abbrev front_of_one : {X : Type 0} {f : X → Record RData} {o : Option X} {kept lost : List (Record RData)} {place : ℕ}
      (one : OneFront f o kept lost) → NoRoom plain_record limit place lost
      → IsFront (λ x. plain_record (f x)) limit place (as_list o) (as_list one.some)
  front_of_one {f = f} {place = place} one full =
      record {
        lost = one.rest;
        front = one.front;
        full = no_room_of f limit place one.rest (subst (NoRoom plain_record limit place) one.lost_is full);
      }

  cut_of : IsCut m limit bytes message
  cut_of =
      record {
        small = omega (arith, len, ends.all);
        word = message_word;
        additionals_end = p.additionals.end;
        edns_end = p.edns.end;
        additionals_stand = words.additionals;
        edns_stands = words.edns;
        signature_stands = words.signature;
        queries = all;
        answers = record {
          lost = la.lost;
          front = la.whole;
          full = full p.answers.end p.answers.piece.suffixes la.lost la.passes;
        };
        authorities = record {
          lost = ln.lost;
          front = ln.whole;
          full = full p.authorities.end p.authorities.piece.suffixes ln.lost ln.passes;
        };
        additionals = record {
          lost = ld.lost;
          front = ld.whole;
          full = full p.additionals.end p.additionals.piece.suffixes ld.lost ld.passes;
        };
        edns = front_of_one one_edns (full p.edns.end p.edns.piece.suffixes lo.lost lo.passes);
        signature = front_of_one one_signature
            (subst (λ n. NoRoom plain_record limit n ls.lost) (sym len)
            (full p.signature.end p.signature.piece.suffixes ls.lost ls.passes));
        metadata = metadata_is;
        short = words.short;
      }

  -- what is written of a message that fits is a cut, and is read as exactly that
  pub written_of : IsWritten m limit bytes
  written_of = record {
    message = message;
    is_cut = cut_of;
    read = message_again bytes 0 message (length bytes) message_word;
  }

-- what is kept of a message is kept of its parts
parts_kept : (m : MessageValue) (limit : ℕ) → MessageKept m → PartsKept (parts_of limit m 12 [])
parts_kept m limit kept =
    let p = parts_of limit m 12 [] in
    let q = part_lost query_written limit m.queries 12 [] in
    let a = part_lost record_written limit m.answers p.queries.end p.queries.piece.suffixes in
    let n = part_lost record_written limit m.authorities p.answers.end p.answers.piece.suffixes in
    let d = part_lost record_written limit m.additionals p.authorities.end p.authorities.piece.suffixes in
    let o = part_lost record_written limit (as_list (option_map edns_record (raised m))) p.additionals.end
    p.additionals.piece.suffixes in
    let s = part_lost record_written limit (as_list (option_map signature_record m.signature)) p.edns.end
    p.edns.piece.suffixes in
    record {
      queries = all_front QueryKept m.queries p.queries.kept q.lost q.whole kept.queries;
      answers = all_front KeptRecord m.answers p.answers.kept a.lost a.whole kept.answers;
      authorities = all_front KeptRecord m.authorities p.authorities.kept n.lost n.whole kept.authorities;
      additionals = all_front KeptRecord m.additionals p.additionals.kept d.lost d.whole kept.additionals;
      edns = all_front KeptRecord _ p.edns.kept o.lost o.whole kept.edns;
      signature = all_front KeptRecord _ p.signature.kept s.lost s.whole kept.signature;
    }

-- so is what is answered, whatever the message holds that is lost
pub written_is_cut_of : (m : MessageValue) (limit : ℕ) (B : List ℕ) → Fits m → m.metadata.id < 2 ^ 16
    → PartsKept (parts_of limit m 12 []) → limit < 2 ^ 16 → message_answer limit m ≡ Ok B
    → IsWritten m limit B
written_is_cut_of m limit B fits id kept small =
    answered m limit 0 [] (λ r. r ≡ Ok B → IsWritten m limit B) (λ low is. absurd (let no = is in cc))
    (λ room cut is. absurd (let no = is in cc))
    (λ room whole is. subst (IsWritten m limit) (same_bytes _ B is)
    (written_of m limit small room id kept (kept_all query_written limit m.queries 12 [] whole) fits))

pub written_is_cut : (m : MessageValue) (limit : ℕ) (B : List ℕ) → Fits m → MessageKept m → limit < 2 ^ 16
    → message_answer limit m ≡ Ok B → IsWritten m limit B
written_is_cut m limit B fits kept = written_is_cut_of m limit B fits kept.id (parts_kept m limit kept)

-- so is what an encoder holds that held nothing
pub written_at_start : (m : MessageValue) (old new : State) → Fits m → old.bytes ≡ [] → old.suffixes ≡ []
    → old.limit < 2 ^ 16 → m.metadata.id < 2 ^ 16
    → PartsKept (parts_of old.limit m (length old.bytes + 12) old.suffixes)
    → message_answer_at old.limit m (length old.bytes) old.suffixes ≡ Ok
    (message_written old.limit m (length old.bytes) old.suffixes).bytes
    → new ≡ after (message_written old.limit m) old → IsWritten m old.limit new.bytes
written_at_start m old new fits empty none small id kept answer exact =
    let same : message_answer old.limit m ≡ Ok (message_written old.limit m 0 []).bytes =
    subst (λ xs. message_answer_at old.limit m (length xs) [] ≡ Ok (message_written old.limit m (length xs) []).bytes)
    empty
    (subst (λ ts. message_answer_at old.limit m (length old.bytes) ts ≡ Ok
    (message_written old.limit m (length old.bytes) ts).bytes) none answer) in
    let start = subst (λ xs. PartsKept (parts_of old.limit m (length xs + 12) [])) empty
    (subst (λ ts. PartsKept (parts_of old.limit m (length old.bytes + 12) ts)) none kept) in
    let bytes : new.bytes ≡ (message_written old.limit m 0 []).bytes =
    ap (λ (s : State). s.bytes) exact
    ∙ (λ i. empty i ++ (message_written old.limit m (length (empty i)) (none i)).bytes) in
    subst (IsWritten m old.limit) (sym bytes) (written_is_cut_of m old.limit _ fits id start small same)
