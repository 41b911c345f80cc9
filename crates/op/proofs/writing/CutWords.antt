-- The words of a message that is written, in the bytes that are.
use Rattle.std.proofs.Common.{◌≡◌, ℕ, ◌+◌, ◌<◌, ◌^◌, List, [], ◌++◌, length, take, refl, ap, sym, ◌∙◌, subst, arith}
use Rattle.std.proofs.Common.{length-append}
use Rattle.std.specs.Prelude.{All}
use Rattle.std.proofs.Math.Seq.{drop-append_seam, take-append_seam, take-length}
use Rattle.std.proofs.lemmas.List.Elements.{All-nil, All-take}
use Rattle.base.specs.writing.Laws.{IsSpelled}
use Rattle.base.specs.writing.Says.{IsThere}
use Rattle.base.specs.writing.SaysParts.{last_stands}
use Rattle.base.specs.writing.State.{Stored}
use Rattle.base.specs.WordLemmas.{first_stands}
use Rattle.base.specs.Words.{BackToBack, Stands}
use Rattle.base.specs.writing.Written.{in_turn}
use Rattle.base_data.specs.Kinds.{data_says}
use Rattle.base_data.specs.declared.rdata.RData.{RData}
use Rattle.rr.specs.Record.{FitsRecord, IsRecordAt, RecordWord, plain_record, record_written}
use Rattle.rr.specs.RecordSays.{KeptRecord, record_says}
use Rattle.rr.specs.declared.record.Record.{Record}
use Rattle.op.specs.Cut.{AreCompressed, query_owners, record_owners}
use Rattle.op.specs.Header.{RawHeader, header_bytes}
use Rattle.op.specs.MessageWritten.{Parts, body}
use Rattle.op.specs.Query.{FitsQuery, IsQueryAt, QueryWord, plain_query, query_written}
use Rattle.op.specs.QuerySays.{QueryKept, query_says}
use Rattle.op.specs.Message.{MessageValue}
use Rattle.op.specs.MessageWritten.{parts_of}
use Rattle.op.specs.declared.query.Query.{Query}
use Rattle.op.proofs.writing.OwnerLemmas.{Section, grows_then, owned_then, section, together}
use Rattle.op.proofs.writing.WordsBack.{query_back, query_ends, record_back, record_ends}

-- ---- lists

pub all_front : {X : Type 0} (P : X → Type 0) (xs kept lost : List X) → xs ≡ kept ++ lost → All P xs → All P kept
all_front P xs kept lost whole all = subst (All P) (take-append_seam kept lost)
    (All-take P (length kept) (kept ++ lost) (subst (All P) whole all))

-- ---- the bytes at the end

pub header_len : (r : RawHeader) → length (header_bytes r) ≡ 12
header_len r = refl

-- bytes from the twelfth on, after a header
pub stands_after : (front xs : List ℕ) → length front ≡ 12 → Stands xs (front ++ xs) 12
stands_after front xs twelve = record {
  is =
      rw (sym twelve) (ap (take (length xs)) (drop-append_seam front xs) ∙ take-length xs);
}

-- ---- the words

-- The words of a message that was written, back to back, those of its additional records also all together, and how
-- its owners are spelled.
pub record Composed (B : List ℕ) (qs : List Query) (bs ns ds es ss : List (Record RData))
    (start i j k l m e : ℕ) : Type 0 where
  pub queries : BackToBack (IsQueryAt B) start qs i
  pub answers : BackToBack (IsRecordAt B) i bs j
  pub authorities : BackToBack (IsRecordAt B) j ns k
  pub additionals : BackToBack (IsRecordAt B) k ds l
  pub edns : BackToBack (IsRecordAt B) l es m
  pub signature : BackToBack (IsRecordAt B) m ss e
  pub all : BackToBack (IsRecordAt B) k (ds ++ (es ++ ss)) e
  pub short : AreCompressed (query_owners queries
      ++ (record_owners answers ++ (record_owners authorities ++ record_owners all)))

-- bytes that stand at a place of a buffer, and are few
pub record Lies (xs B : List ℕ) (at : ℕ) : Type 0 where
  pub stands : Stands xs B at
  pub small : length xs < 2 ^ 16

lies_first : (xs ys B : List ℕ) (at : ℕ) → Lies (xs ++ ys) B at → Lies xs B at
lies_first xs ys B at l = record {
  stands = first_stands xs ys B at l.stands;
  small = omega (arith, l.small, length-append xs ys);
}

lies_last : (xs ys B : List ℕ) (at : ℕ) → Lies (xs ++ ys) B at → Lies ys B (at + length xs)
lies_last xs ys B at l = record {
  stands = last_stands xs ys B at l.stands;
  small = omega (arith, l.small, length-append xs ys);
}

-- of the parts of a message each question and each record that is written is so
pub record PartsAre (Asked : Query → Type 0) (Entry : Record RData → Type 0) (p : Parts) : Type 0 where
  pub queries : All Asked p.queries.kept
  pub answers : All Entry p.answers.kept
  pub authorities : All Entry p.authorities.kept
  pub additionals : All Entry p.additionals.kept
  pub edns : All Entry p.edns.kept
  pub signature : All Entry p.signature.kept

-- it is what their types keep
abbrev pub PartsKept : Parts → Type 0
PartsKept = PartsAre QueryKept KeptRecord

module _ (B : List ℕ) where
  there : {xs : List ℕ} {us ts : List Stored} {at : ℕ} → Lies xs B at → All (IsSpelled B at) ts
      → IsThere (record { bytes = xs; suffixes = us }) B at ts
  there l table = record { table = table; bytes = l.stands; small = l.small }

  abbrev Records : List (Record RData) → ℕ → ℕ → List Stored → List Stored → Type 0
  Records = Section record_written KeptRecord RecordWord plain_record (λ r. r.name.labels)
      (λ r. record_says r (data_says r.rdata)) B (IsRecordAt B) (λ i r e w. w.word.owner_end)

  records : (xs : List (Record RData)) → All KeptRecord xs → All FitsRecord xs → (at : ℕ) (ts : List Stored)
      → Lies (in_turn record_written xs at ts).bytes B at → All (IsSpelled B at) ts
      → Records xs at (at + length (in_turn record_written xs at ts).bytes) ts
      (in_turn record_written xs at ts).suffixes
  records xs kept fits at ts l table =
      section record_written KeptRecord RecordWord plain_record (λ r. r.name.labels)
      (λ r. record_says r (data_says r.rdata)) B (IsRecordAt B) (λ i r e w. w.word.owner_end)
      FitsRecord (record_back B) (record_ends B) xs kept fits at (at + length (in_turn record_written xs at ts).bytes)
      ts refl (there l table)

  abbrev Queries : List Query → ℕ → ℕ → List Stored → List Stored → Type 0
  Queries = Section query_written QueryKept QueryWord plain_query (λ q. q.name.labels) query_says B (IsQueryAt B)
      (λ i q e w. w.word.owner_end)

  queries : (xs : List Query) → All QueryKept xs → All FitsQuery xs → (at : ℕ) (ts : List Stored)
      → Lies (in_turn query_written xs at ts).bytes B at → All (IsSpelled B at) ts
      → Queries xs at (at + length (in_turn query_written xs at ts).bytes) ts (in_turn query_written xs at ts).suffixes
  queries xs kept fits at ts l table =
      section query_written QueryKept QueryWord plain_query (λ q. q.name.labels) query_says B (IsQueryAt B)
      (λ i q e w. w.word.owner_end)
      FitsQuery (query_back B) (query_ends B) xs kept fits at (at + length (in_turn query_written xs at ts).bytes) ts
      refl (there l table)

  module _ (limit : ℕ) (m : MessageValue) where
    abbrev p : Parts
    p = parts_of limit m 12 []

    -- the words of the parts, where their bytes stand after a header
    pub composed : PartsKept p → PartsAre FitsQuery FitsRecord p → Lies (body p 12 []).bytes B 12
        → Composed B p.queries.kept p.answers.kept p.authorities.kept p.additionals.kept p.edns.kept p.signature.kept 12
        p.queries.end p.answers.end p.authorities.end p.additionals.end p.edns.end p.signature.end
    composed kept fits l =
        let bq = p.queries.piece.bytes in
        let ba = p.answers.piece.bytes in
        let bn = p.authorities.piece.bytes in
        let bd = p.additionals.piece.bytes in
        let bo = p.edns.piece.bytes in
        let bs = p.signature.piece.bytes in
        let l1 = lies_last bq (ba ++ (bn ++ (bd ++ (bo ++ bs)))) B 12 l in
        let l2 = lies_last ba (bn ++ (bd ++ (bo ++ bs))) B p.queries.end l1 in
        let l3 = lies_last bn (bd ++ (bo ++ bs)) B p.answers.end l2 in
        let l4 = lies_last bd (bo ++ bs) B p.authorities.end l3 in
        let l5 = lies_last bo bs B p.additionals.end l4 in
        let q = queries p.queries.kept kept.queries fits.queries 12 []
        (lies_first bq (ba ++ (bn ++ (bd ++ (bo ++ bs)))) B 12 l) (All-nil (IsSpelled B 12)) in
        let a = records p.answers.kept kept.answers fits.answers p.queries.end p.queries.piece.suffixes
        (lies_first ba (bn ++ (bd ++ (bo ++ bs))) B p.queries.end l1) q.table in
        let n = records p.authorities.kept kept.authorities fits.authorities p.answers.end p.answers.piece.suffixes
        (lies_first bn (bd ++ (bo ++ bs)) B p.answers.end l2) a.table in
        let d = records p.additionals.kept kept.additionals fits.additionals p.authorities.end
        p.authorities.piece.suffixes (lies_first bd (bo ++ bs) B p.authorities.end l3) n.table in
        let o = records p.edns.kept kept.edns fits.edns p.additionals.end p.additionals.piece.suffixes
        (lies_first bo bs B p.additionals.end l4) d.table in
        let s = records p.signature.kept kept.signature fits.signature p.edns.end p.edns.piece.suffixes l5 o.table in
        let g5 = grows_then o.grows s.grows in
        let g4 = grows_then d.grows g5 in
        let g3 = grows_then n.grows g4 in
        let g2 = grows_then a.grows g3 in
        let owned = owned_then q.grows g2 q.owned
        (owned_then a.grows g3 a.owned
        (owned_then n.grows g4 n.owned
        (owned_then d.grows g5 d.owned (owned_then o.grows s.grows o.owned s.owned)))) in
        let (last, last_owners) = together (λ r. r.name.labels) (λ i r e w. w.word.owner_end) o.words s.words in
        let (all, all_owners) = together (λ r. r.name.labels) (λ i r e w. w.word.owner_end) d.words last in
        let owners = all_owners ∙ ap (λ os. record_owners d.words ++ os) last_owners in
        record {
          queries = q.words;
          answers = a.words;
          authorities = n.words;
          additionals = d.words;
          edns = o.words;
          signature = s.words;
          all = all;
          short = subst (λ os. AreCompressed
              (query_owners q.words ++ (record_owners a.words ++ (record_owners n.words ++ os)))) (sym owners)
              owned.short;
        }
