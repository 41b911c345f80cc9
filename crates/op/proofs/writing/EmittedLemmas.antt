-- A message that is composed of slices is written, or refused, as its definition says.
use Rattle.std.proofs.Common.{◌≡◌, ◌⊎◌, inl, inr, ℕ, ◌+◌, ◌<◌, ◌≤◌, ◌^◌, Bool, true, false, List, length, refl, ap, sym}
use Rattle.std.proofs.Common.{◌∙◌, subst, arith, length-append, Result, Ok, Err, Bor, Iter}
use Rattle.std.specs.Prelude.{◌||◌, IsSomeAnd, MatchOption, Option, Some, None, replicate}
use Rattle.std.specs.Option.{option_copied, option_map}
use Rattle.std.proofs.Math.Bool.{or_assoc}
use Rattle.std.proofs.iter.Yields.{fronts}
use Rattle.std.proofs.lemmas.Bool.{le-ltb, lt-ltb}
use Rattle.base.specs.writing.Items.{EmitsAll}
use Rattle.base.specs.writing.State.{State, appended, overwritten}
use Rattle.base.specs.writing.Written.{Writing, after, both, in_turn, just}
use Rattle.base.specs.declared.error.proto_error.ProtoError.{ProtoError}
use Rattle.base.specs.declared.error.proto_error.ProtoError.TheVariants as refusals
use Rattle.base.proofs.writing.SliceLemmas.{Emits-front, Emits-slice}
use Rattle.base.proofs.writing.WrittenLemmas.{after-both}
use Rattle.base_data.specs.declared.rdata.RData.{RData}
use Rattle.rr.specs.Record.{record_written}
use Rattle.rr.specs.declared.record.Record.{Record}
use Rattle.rr.specs.RecordSays.{KeptRecord}
use Rattle.op.specs.Composition.{AddsCounts, Composition, CountsItems, EmitsPart, KeepsRoom, Narrows, WritesFront}
use Rattle.op.specs.Cut.{raised}
use Rattle.op.specs.EdnsRecord.{edns_record}
use Rattle.op.specs.Fits.{as_list, opt_records, signature_record, with_high_bits}
use Rattle.op.specs.Header.{header_bytes, raw_header}
use Rattle.op.specs.Message.{MessageValue}
use Rattle.op.specs.MessageWritten.{Answers, Part, Parts, body, header_of, message_answer_at, message_written, parts_of}
use Rattle.op.specs.Query.{query_written}
use Rattle.op.specs.QuerySays.{QueryKept}
use Rattle.op.specs.declared.edns.Edns.{Edns}
use Rattle.op.specs.declared.header.Header.{Header}
use Rattle.op.specs.declared.message.writing.Written.{Written}
use Rattle.op.specs.declared.query.Query.{Query}
use Rattle.op.proofs.AnswerLaws.{answer_by}
use Rattle.op.proofs.writing.CutWords.{PartsKept}
use Rattle.op.proofs.writing.FrontLemmas.{all_written, front_written}
use Rattle.op.proofs.writing.MessageWrittenLemmas.{IsPart, Wrote, filled, part_next, part_stands, part_then}
use Rattle.op.proofs.writing.RoomLemmas.{AreFew, are_few, each_some, part_ends, record_some}
use Rattle.op.proofs.writing.RunLemmas.{runs, same_err}

-- ---- parts that are slices

module _ {E : Type 0} (fits : E → Type 0) (f : E → Writing) where
  -- what writing the elements of a slice leaves
  abbrev pub slice_emits : Iter E → State → Result ℕ ProtoError → Iter E → State → Type 0
  slice_emits s a answer t b = EmitsAll (λ (x : Bor E). fits x.now) (λ x. f x.now) fronts s t a b answer

  module _ (s t : Iter E) (a b : State) where
    -- all elements
    pub all_front : (n : ℕ) → slice_emits s a (Ok n) t b → WritesFront fits f s.rest.now a b n false
    all_front n emits =
        let all = Emits-slice fits f s t a b n emits in
        all_written fits f refl all.0 all.2 all.3 all.1 refl

    -- the elements before one that had no room
    pub cut_front : (n : ℕ) → slice_emits s a (Err (refusals.NotAllRecordsWritten n)) t b
        → WritesFront fits f s.rest.now a b n true
    cut_front n emits =
        let front = Emits-front fits f s t a b n emits in
        front_written fits f front.0 front.2 front.1 front.3 front.4 front.6 front.7 front.5 refl front.8

    -- memory ran out, or a front was written, and its number is what the answer counts
    pub counted : (answer : Result ℕ ProtoError) (result : Result Written ProtoError) → slice_emits s a answer t b
        → CountsItems answer result
        → (result ≡ Err refusals.Memory)
        ⊎ ((n : ℕ) × (is_cut : Bool) × WritesFront fits f s.rest.now a b n is_cut × Narrows n is_cut result)
    counted (Ok n) result emits counts = inr (n, false, all_front n emits, counts)
    counted (Err (refusals.NotAllRecordsWritten n)) result emits counts = inr (n, true, cut_front n emits, counts)
    counted (Err refusals.Memory) result emits counts = inl counts
    counted (Err other) result emits counts = absurd emits

    -- a part that was counted is a front
    pub slice_front : (w : Written) → EmitsPart slice_emits s t a (Ok w) b
        → WritesFront fits f s.rest.now a b w.count w.is_cut
    slice_front w (answer, emits, counts) = elim (counted answer (Ok w) emits counts) [
      | inl memory ↦ absurd (let is = memory in cc)
      | inr (n, is_cut, front, narrows) ↦ subst (λ v. WritesFront fits f s.rest.now a b v.count v.is_cut)
          (sym narrows.1) front
    ]

-- ---- the whole

-- the sum of three counts
summed : (one two sum other total : Written) → AddsCounts one two (Ok sum) → AddsCounts sum other (Ok total)
    → (total.count ≡ one.count + (two.count + other.count))
    × (total.is_cut ≡ (one.is_cut || (two.is_cut || other.is_cut)))
summed one two sum other total first second = (
  omega (arith, ap (λ w. w.count) first.1, ap (λ w. w.count) second.1),
  ap (λ w. w.is_cut) second.1 ∙ ap (λ w. w.is_cut || other.is_cut) first.1
      ∙ or_assoc one.is_cut two.is_cut other.is_cut,
)

abbrev pub emits_records : Iter (Record RData) → State → Result ℕ ProtoError → Iter (Record RData) → State → Type 0
emits_records = slice_emits KeptRecord record_written

abbrev pub emits_queries : Iter Query → State → Result ℕ ProtoError → Iter Query → State → Type 0
emits_queries = slice_emits QueryKept query_written

-- of records that are a slice, those of the message, a front was written
records_front : {s t : Iter (Record RData)} {rs : List (Record RData)} {a b : State} {w : Written} → s.rest.now ≡ rs
    → EmitsPart emits_records s t a (Ok w) b
    → WritesFront KeptRecord record_written rs a b w.count w.is_cut
records_front {s} {t} {rs} {a} {b} {w} is part = subst
    (λ zs. WritesFront KeptRecord record_written zs a b w.count w.is_cut) is
    (slice_front KeptRecord record_written s t a b w part)

-- after a part no more records stand than a header can count
slice_failed : {D : Type 0} {kept : D → Type 0} {g : D → Writing} {p : Part D} {limit : ℕ} {s : State} {k : ℕ}
    {c : Bool} (e : ProtoError) {x y : Iter (Record RData)} {a b : State} → limit < 2 ^ 16
    → IsPart kept g p limit s a k c → EmitsPart emits_records x y a (Err e) b → e ≡ refusals.Memory
slice_failed e {x} {y} {a} {b} small before (answer, emits, counts) =
    elim (counted KeptRecord record_written x y a b answer (Err e) emits counts) [
      | inl memory ↦ same_err {Y = Written} e refusals.Memory memory
      | inr (n, is_cut, front, narrows) ↦
          let part = part_next before front in
          absurd (omega (
            arith,
            small,
            narrows.0,
            front.counted,
            part.within,
            each_some record_written record_some front.kept (length a.bytes) a.suffixes,
            ap (λ (u : State). length u.bytes) front.exact,
            length-append a.bytes (in_turn record_written front.kept (length a.bytes) a.suffixes).bytes,
          ))
    ]

-- the slices, and the records of EDNS and the signature, are the message's
pub record AreOf (m : MessageValue) (q : Iter Query) (a n d : Iter (Record RData))
    (edns signature : List (Record RData)) : Type 0 where
  pub queries : q.rest.now ≡ m.queries
  pub answers : a.rest.now ≡ m.answers
  pub authorities : n.rest.now ≡ m.authorities
  pub additionals : d.rest.now ≡ m.additionals
  pub edns_is : edns ≡ as_list (option_map edns_record (raised m))
  pub signature_is : signature ≡ as_list (option_map signature_record m.signature)

-- What was written of a message: what the definition says, of which its types keep what they do.
pub record IsDone (m : MessageValue) (old new : State) : Type 0 where
  pub exact : new ≡ after (message_written old.limit m) old
  pub room : length old.bytes + 12 ≤ old.limit
  pub whole : (parts_of old.limit m (length old.bytes + 12) old.suffixes).queries.is_cut ≡ false
  pub id : m.metadata.id < 2 ^ 16
  pub kept : PartsKept (parts_of old.limit m (length old.bytes + 12) old.suffixes)

queries_front : {qs : List Query} {q q' : Iter Query} {k s : State} {count : ℕ} → q.rest.now ≡ qs
    → emits_queries q k (Ok count) q' s → WritesFront QueryKept query_written qs k s count false
queries_front {q = q} {q'} {k} {s} {count} is emits = subst
    (λ zs. WritesFront QueryKept query_written zs k s count false) is
    (all_front QueryKept query_written q q' k s count emits)

module _ (m : MessageValue) (old new : State) where
  abbrev p : Parts
  p = parts_of old.limit m (length old.bytes + 12) old.suffixes

  abbrev answer : Result (List ℕ) ProtoError
  answer = message_answer_at old.limit m (length old.bytes) old.suffixes

  abbrev written : List ℕ
  written = (message_written old.limit m (length old.bytes) old.suffixes).bytes

  -- room for the header
  module _ (place : ℕ) (k : State) (room : KeepsRoom old (Ok place) k) where
    begins : length k.bytes ≡ length old.bytes + 12
    begins = ap (λ (a : State). length a.bytes) room.1 ∙ length-append old.bytes (replicate 12 0)

    fits : length old.bytes + 12 ≤ old.limit
    fits = omega (arith, room.2, begins)

    asked : {s : State} {n : ℕ} {is_cut : Bool} → WritesFront QueryKept query_written m.queries k s n is_cut
        → IsPart QueryKept query_written p.queries old.limit k s n is_cut
    asked front = part_stands front old.limit (ap (λ (u : State). u.limit) room.1) room.2 (length old.bytes + 12)
        old.suffixes (sym begins) (sym (ap (λ (u : State). u.suffixes) room.1))

  -- what was written is the answer
  pub done_answers : IsDone m old new → answer ≡ Ok written
  done_answers done = λ i. answer_by written (le-ltb old.limit (length old.bytes + 12) done.room i) (done.whole i)
      (length p.queries.kept)

  -- ---- refusals

  -- memory ran out, or it is the answer
  abbrev pub Left : ProtoError → State → Type 0
  Left e b = (e ≡ refusals.Memory) ⊎ Answers m old (Err e) b

  room_failed : (e : ProtoError) → KeepsRoom old (Err e) new → Left e new
  room_failed refusals.Memory run = inl refl
  room_failed refusals.MaxBufferSizeExceeded run = inr (
    ap (λ (small : Bool). answer_by written small p.queries.is_cut (length p.queries.kept))
        (lt-ltb old.limit (length old.bytes + 12) run.1),
    run.0,
  )
  room_failed other run = absurd run.1

  queries_failed : (q q' : Iter Query) → q.rest.now ≡ m.queries → (place : ℕ) (k : State) → KeepsRoom old (Ok place) k
      → (e : ProtoError) → emits_queries q k (Err e) q' new → Left e new
  queries_failed q q' is place k room refusals.Memory run = inl refl
  queries_failed q q' is place k room (refusals.NotAllRecordsWritten count) run =
      let part = asked place k room (subst (λ qs. WritesFront QueryKept query_written qs k new count true) is
      (cut_front QueryKept query_written q q' k new count run)) in
      inr (
        (λ i. answer_by written (le-ltb old.limit (length old.bytes + 12) (fits place k room) i) (sym part.tells i)
            (sym part.counted i)),
        part.exact ∙ ap (after (in_turn query_written p.queries.kept)) room.1
            ∙ sym (after-both (just (replicate 12 0)) (in_turn query_written p.queries.kept) old),
      )
  queries_failed q q' is place k room other run = absurd run

  -- what the answer tells: all was written, or why not
  abbrev pub Outcome : Result Header ProtoError → Type 0
  Outcome (Ok h) = IsDone m old new
  Outcome (Err e) = Left e new

  module _ {q q' : Iter Query} {a a' n n' d d' : Iter (Record RData)} {edns signature : List (Record RData)}
      (are : AreOf m q a n d edns signature) (small : old.limit < 2 ^ 16) where
    -- part by part: after the header and the questions nothing but memory is refused
    pub outcome_of : {result : Result Header ProtoError}
        → Composition emits_records emits_records emits_records a a' n n' d d' m.metadata emits_queries q q' edns
        signature old result new → Outcome result
    outcome_of run =
        runs Outcome run room_failed (λ place k room after_room.
        runs Outcome after_room (queries_failed q q' are.queries place k room) (λ count s asks after_asked.
        let pq = asked place k room (queries_front are.queries asks) in
        let few : AreFew p = are_few
        (part_ends old.limit m (length old.bytes + 12) old.suffixes (fits place k room)) small in
        runs Outcome after_asked (λ e no. inl (slice_failed e small pq no)) (λ answers t ran_answers rest.
        let pa = part_next pq (records_front are.answers ran_answers) in
        runs Outcome rest (λ e no. inl (slice_failed e small pa no)) (λ authorities u ran_authorities rest.
        let pn = part_next pa (records_front are.authorities ran_authorities) in
        runs Outcome rest (λ e no. inl (slice_failed e small pn no)) (λ additionals v ran_additionals rest.
        let pd = part_next pn (records_front are.additionals ran_additionals) in
        runs Outcome rest (λ e memory. inl memory) (λ opt w ran_opt after_opt.
        let po = part_next pd (subst (λ rs. WritesFront KeptRecord record_written rs v w opt.count opt.is_cut)
        are.edns_is ran_opt) in
        runs Outcome after_opt (λ e test. absurd (omega (arith, test.0.0, pd.counted, po.counted, few.additionals)))
        (λ sum w' ran_sum after_sum.
        runs Outcome after_sum (λ e memory. inl memory) (λ signed z ran_signed after_signed.
        let ps = part_next po (subst (λ rs. WritesFront KeptRecord record_written rs w z signed.count signed.is_cut)
        are.signature_is
        (subst (λ b. WritesFront KeptRecord record_written signature b z signed.count signed.is_cut) ran_sum.1
        ran_signed)) in
        let sum_is = ap (λ x. x.count) ran_sum.0.1 in
        runs Outcome after_signed
        (λ e test. absurd (omega (arith, test.0.0, sum_is, pd.counted, po.counted, ps.counted, few.additionals)))
        (λ total z' ran_total after_total.
        runs Outcome after_total (λ e test. absurd (omega (arith, test.0.0, pq.counted, few.queries)))
        (λ header y made put.
        let fields = made.0.1 in
        let sums = summed additionals opt sum signed total ran_sum.0 ran_total.0 in
        let last : Wrote (in_turn record_written p.signature.kept) w z = record { is = ps.exact } in
        let all : z ≡ after (body p) k =
        (part_then pq (part_then pa (part_then pn (part_then pd (part_then po last))))).is in
        let counts : header.counts ≡ (header_of m p).counts = λ i. record {
          queries = (ap (λ x. x.counts.queries) fields ∙ pq.counted) i;
          answers = (ap (λ x. x.counts.answers) fields ∙ pa.counted) i;
          authorities = (ap (λ x. x.counts.authorities) fields ∙ pn.counted) i;
          additionals = (ap (λ x. x.counts.additionals) fields ∙ sums.0
              ∙ (λ j. pd.counted j + (po.counted j + ps.counted j))) i;
        } in
        let told = sums.1 ∙ (λ i. pd.tells i || (po.tells i || ps.tells i)) in
        let metadata : header.metadata ≡ (header_of m p).metadata = ap (λ x. x.metadata) fields
        ∙ (λ i. record m.metadata { truncation = m.metadata.truncation || (pa.tells i || (pn.tells i || told i)) }) in
        let same : header ≡ header_of m p = λ i. record { metadata = metadata i; counts = counts i } in
        let xs = header_bytes (raw_header header) in
        subst Outcome (sym put.0) (record {
          exact =
              put.1 ∙ ap (overwritten place xs) (made.1 ∙ ran_total.1 ∙ all ∙ ap (after (body p)) room.1)
              ∙ ap (λ i. overwritten i xs (after (body p) (appended (replicate 12 0) old))) room.0
              ∙ filled (replicate 12 0) xs (body p) old refl
              ∙ ap (λ (g : Header). after (both (just (header_bytes (raw_header g))) (body p)) old) same;
          room = fits place k room;
          whole = sym pq.tells;
          id = subst (λ x. x < 2 ^ 16) (ap (λ x. x.metadata.id) fields) made.0.0.identifier;
          kept = record {
            queries = pq.fit;
            answers = pa.fit;
            authorities = pn.fit;
            additionals = pd.fit;
            edns = po.fit;
            signature = ps.fit;
          };
        })))))))))))

-- the OPT record of EDNS with another high code
raised_list : (f : Edns → Edns) (o : Option Edns)
    → as_list (option_map (λ e. edns_record (f e)) o) ≡ as_list (option_map edns_record (option_map f o))
raised_list f None = refl
raised_list f (Some e) = refl

pub raised_edns : (m : MessageValue) (seen : Option Edns) → seen ≡ m.edns
    → opt_records m.metadata.response_code seen ≡ as_list (option_map edns_record (raised m))
raised_edns m seen same = ap (opt_records m.metadata.response_code) same
    ∙ raised_list (with_high_bits m.metadata.response_code) m.edns

-- what a box holds, borrowed
pub unboxed : {X B : Type 0} (value : B → X) (o : Option B) (r : Option (Bor X))
    → MatchOption o (r ≡ None) (λ x. IsSomeAnd r (λ y. y.now ≡ value x)) → option_copied r ≡ option_map value o
unboxed value None r is = ap option_copied is
unboxed value (Some x) (Some y) is = ap Some is
unboxed value (Some x) None is = absurd is
