use Rattle.std.proofs.Common.{ℕ, Result, refl, ap, ◌<◌, ◌^◌, ◌∙◌, replicate, rules}
use Rattle.std.specs.Prelude.{List, ⊤}
use Rattle.base.proofs.writing.LawLemmas.{Keeps-same, Keeps-appended, Keeps-then}
use Rattle.base.specs.writing.Laws.{Keeps}
use Rattle.base.specs.writing.State.{State, overwritten}
use Rattle.base.specs.declared.error.proto_error.ProtoError.{ProtoError}
use Rattle.base.specs.writing.Wire.{state_of}
use Rattle.base_data.specs.declared.rdata.RData.{RData}
use Rattle.rr.specs.declared.record.Record.{Record}
use Rattle.op.proofs.writing.HeaderRoom.{room_filled}
use Rattle.op.proofs.writing.RunLemmas.{goes, regrouped, stops}
use Rattle.op.specs.Composition.{AddsCounts, AndThen, EmitsPart, KeepsRoom, Tests, WritesRecordItems}
use Rattle.op.specs.Header.{header_bytes, raw_header}
use Rattle.op.specs.declared.header.Header.{Header}
use Rattle.op.specs.declared.message.writing.Written.{Written}
use Rattle.op.proofs.message.writing.emit_message_parts.Goals.{In_ok-answers, In_ok-authorities, In_ok-place}
use Rattle.op.proofs.message.writing.emit_message_parts.Goals.{In_ok-query_count, Start}
use Rattle.op.proofs.message.writing.emit_message_parts.Goals as goal

-- nothing was written
same : (s : State) → Keeps s s
same s = Keeps-same s s refl

-- room for the header was kept
placed : (g : _) (c : In_ok-place g) → Keeps (state_of c.args.encoder.now) (state_of c.place.new.self)
placed g c = Keeps-appended (replicate 12 0) (state_of c.args.encoder.now)
    (state_of c.place.new.self) c.in_ok-place.ensures.ok.0 c.in_ok-place.ensures.within

-- what comes after the room for the header ends the whole
after_place : (g : _) (c : In_ok-place g) {i : Type 0} {next : ℕ → State → Result Header ProtoError → State
    → Type 0} {result : Result Header ProtoError} {y z : State}
    → Keeps (state_of c.place.new.self) y × next c.in_ok-place.place (state_of c.place.new.self) result z
    → Keeps (state_of c.args.encoder.now) y × AndThen KeepsRoom i next (state_of c.args.encoder.now) result z
after_place g c rest =
    goes c.in_ok-place.place (state_of c.place.new.self) (placed g c)
    (c.in_ok-place.ensures.ok.1, c.in_ok-place.ensures.ok.0, c.in_ok-place.ensures.within) rest

-- the same of the questions
after_queries : (g : _) (c : In_ok-query_count g) {i j : Type 0} {next : ℕ → ℕ → State → Result Header ProtoError
    → State → Type 0} {result : Result Header ProtoError} {y z : State}
    → Keeps (state_of c.emit.new.encoder) y × next c.in_ok-place.place c.in_ok-query_count.query_count
    (state_of c.emit.new.encoder) result z
    → Keeps (state_of c.args.encoder.now) y × AndThen KeepsRoom i
    (λ place. AndThen (λ s answer t. g.Q.EmitAndCount.emits c.args.queries.now s answer c.emit.new.self t) j
    (next place)) (state_of c.args.encoder.now) result z
after_queries g c rest =
    after_place g (goal.at.In_ok-query_count g c).In_ok-place
    (goes c.in_ok-query_count.query_count (state_of c.emit.new.encoder) c.emit.ensures.keeps
    c.in_ok-query_count.ensures.emits rest)

-- the same of the answers
after_answers : (g : _) (c : In_ok-answers g) {i j k : Type 0} {next : ℕ → ℕ → Written → State
    → Result Header ProtoError → State → Type 0} {result : Result Header ProtoError} {y z : State}
    → Keeps (state_of c.emit_part.new.encoder) y
    × next c.in_ok-place.place c.in_ok-query_count.query_count c.in_ok-answers.answers
    (state_of c.emit_part.new.encoder) result z
    → Keeps (state_of c.args.encoder.now) y × AndThen KeepsRoom i
    (λ place. AndThen (λ s answer t. g.Q.EmitAndCount.emits c.args.queries.now s answer c.emit.new.self t) j
    (λ queries.
    AndThen (EmitsPart g.A.EmitAndCount.emits c.args.answers.now c.emit_part.new.part) k (next place queries)))
    (state_of c.args.encoder.now) result z
after_answers g c rest =
    after_queries g (goal.at.In_ok-answers g c).In_ok-query_count
    (goes c.in_ok-answers.answers (state_of c.emit_part.new.encoder) c.emit_part.ensures.keeps
    c.in_ok-answers.ensures.run rest)

-- the same of the authorities
after_authorities : (g : _) (c : In_ok-authorities g) {i j k l : Type 0} {next : ℕ → ℕ → Written → Written → State
    → Result Header ProtoError → State → Type 0} {result : Result Header ProtoError} {y z : State}
    → Keeps (state_of c.emit_part-2.new.encoder) y
    × next c.in_ok-place.place c.in_ok-query_count.query_count c.in_ok-answers.answers c.in_ok-authorities.authorities
    (state_of c.emit_part-2.new.encoder) result z
    → Keeps (state_of c.args.encoder.now) y × AndThen KeepsRoom i
    (λ place. AndThen (λ s answer t. g.Q.EmitAndCount.emits c.args.queries.now s answer c.emit.new.self t) j
    (λ queries.
    AndThen (EmitsPart g.A.EmitAndCount.emits c.args.answers.now c.emit_part.new.part) k
    (λ answers. AndThen (EmitsPart g.N.EmitAndCount.emits c.args.authorities.now c.emit_part-2.new.part) l
    (next place queries answers)))) (state_of c.args.encoder.now) result z
after_authorities g c rest =
    after_answers g (goal.at.In_ok-authorities g c).In_ok-answers
    (goes c.in_ok-authorities.authorities (state_of c.emit_part-2.new.encoder) c.emit_part-2.ensures.keeps
    c.in_ok-authorities.ensures.run rest)

-- the additional records, EDNS and the signature as one run are the parts one after another
module _ {P : Type 0} {first : State → Result Written ProtoError → State → Type 0}
    {opt signature : List (Record RData)} {next : Written → State → Result Header ProtoError → State → Type 0}
    {a c : State} {result : Result Header ProtoError} where
  as_listed : P × AndThen (AndThen first ⊤ (λ counted. AndThen (WritesRecordItems opt) ⊤
      (λ opt. AndThen (Tests (AddsCounts counted opt)) ⊤ (λ sum.
      AndThen (WritesRecordItems signature) ⊤ (λ signed. Tests (AddsCounts sum signed)))))) ⊤ next a result c
      → P × AndThen first ⊤ (λ counted. AndThen (WritesRecordItems opt) ⊤
      (λ opt. AndThen (Tests (AddsCounts counted opt)) ⊤ (λ sum.
      AndThen (WritesRecordItems signature) ⊤ (λ signed. AndThen (Tests (AddsCounts sum signed)) ⊤ next)))) a result c
  as_listed both = (
    both.0,
    regrouped both.1 (λ counted s. λ opts. regrouped opts
        (λ opt t. λ sums. regrouped sums (λ sum u. λ signs. regrouped signs (λ signed v. λ total. total)))),
  )

-- a limit has two bytes
narrow_of : (g : _) (c : Start g) → (state_of c.args.encoder.now).limit < 2 ^ 16
narrow_of g c = search rules

-- what is owed at a return
owed : {K R N : Type 0} → K × R → N → record { keeps : K; run : R; narrow : N }
owed both narrow = record { keeps = both.0; run = both.1; narrow = narrow }

pub returns-in_err-place : goal.returns-in_err-place
returns-in_err-place g c =
    let d = goal.at.returns-in_err-place g c in
    owed (stops c.in_err-place.field-0.0 (Keeps-same _ _ c.in_err-place.ensures.err)
    (c.in_err-place.ensures.err, c.in_err-place.ensures.refuses) c.from_residual.ensures.1 (refl, refl, refl, refl))
    (narrow_of g d.Start)

pub returns-in_err-query_count : goal.returns-in_err-query_count
returns-in_err-query_count g c =
    let d = goal.at.returns-in_err-query_count g c in
    owed (after_place g d.In_ok-place
    (stops c.in_err-query_count.field-0.0 c.emit.ensures.keeps c.in_err-query_count.ensures.emits
    c.from_residual-in_err-query_count.ensures.1 (refl, refl, refl)))
    (narrow_of g d.Start)

pub returns-in_err-answers : goal.returns-in_err-answers
returns-in_err-answers g c =
    let d = goal.at.returns-in_err-answers g c in
    owed (after_queries g d.In_ok-query_count
    (stops c.in_err-answers.field-0.0 c.emit_part.ensures.keeps c.in_err-answers.ensures.run
    c.from_residual-in_err-answers.ensures.1 (refl, refl)))
    (narrow_of g d.Start)

pub returns-in_err-authorities : goal.returns-in_err-authorities
returns-in_err-authorities g c =
    let d = goal.at.returns-in_err-authorities g c in
    owed (after_answers g d.In_ok-answers
    (stops c.in_err-authorities.field-0.0 c.emit_part-2.ensures.keeps c.in_err-authorities.ensures.run
    c.from_residual-in_err-authorities.ensures.1 refl))
    (narrow_of g d.Start)

pub returns-in_err-additionals : goal.returns-in_err-additionals
returns-in_err-additionals g c =
    let d = goal.at.returns-in_err-additionals g c in
    owed (after_authorities g d.In_ok-authorities
    (as_listed (stops c.in_err-additionals.field-0.0 c.emit_additionals.ensures.keeps c.in_err-additionals.ensures.run
    c.from_residual-in_err-additionals.ensures.1 tt)))
    (narrow_of g d.Start)

pub returns-in_err-header : goal.returns-in_err-header
returns-in_err-header g c =
    let d = goal.at.returns-in_err-header g c in
    owed (after_authorities g d.In_ok-authorities
    (as_listed (goes c.in_ok-additionals.additionals
    (state_of c.emit_additionals.new.encoder) c.emit_additionals.ensures.keeps c.in_ok-additionals.ensures.run
    (stops c.in_err-header.field-0.0 (same _)
    (c.in_err-header.ensures, refl) c.from_residual-in_err-header.ensures.1 tt))))
    (narrow_of g d.Start)

pub returns : goal.returns
returns g c =
    let d = goal.at.returns g c in
    let kept = c.in_ok-place.ensures.ok in
    let header = c.in_ok-header.header in
    let filled = c.replace.ensures.state ∙ ap
    (λ at. overwritten at (header_bytes (raw_header header)) (state_of c.emit_additionals.new.encoder)) kept.1 in
    record {
      keeps = room_filled header _ _ _ _ kept.0 c.in_ok-place.ensures.within (Keeps-then c.emit.ensures.keeps
          (Keeps-then c.emit_part.ensures.keeps (Keeps-then c.emit_part-2.ensures.keeps
          c.emit_additionals.ensures.keeps))) filled;
      run = (after_authorities g d.In_ok-authorities
          (as_listed (goes c.in_ok-additionals.additionals
          (state_of c.emit_additionals.new.encoder) c.emit_additionals.ensures.keeps c.in_ok-additionals.ensures.run
          (goes c.in_ok-header.header (state_of c.emit_additionals.new.encoder) (same _) (c.in_ok-header.ensures, refl)
          (same _, (refl, c.replace.ensures.state)))))).1;
      narrow = narrow_of g d.Start;
    }
