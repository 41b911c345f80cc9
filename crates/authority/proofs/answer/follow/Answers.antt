use Rattle.authority.proofs.AnswerLemmas.{answer_on, stays, stays_again}
use Rattle.authority.proofs.answer.follow.Goals as goal
use Rattle.authority.proofs.answer.follow.Goals.{then-room-eq0-via-else-room-eq0+then-is_before}
use Rattle.authority.proofs.answer.follow.Goals.{then-room-eq0-via-then-room-eq0}
use Rattle.authority.specs.Answer.{answer, owns}
use Rattle.authority.specs.Found.{IsFound}
use Rattle.authority.specs.Lookup.{lookup}
use Rattle.authority.specs.ZoneRef.{zone_of}
use Rattle.authority.specs.declared.found.Found.{Found}
use Rattle.base.specs.names.NameOrder.{same_name}
use Rattle.base_data.specs.declared.rdata.RData.{RData}
use Rattle.rr.specs.declared.record.Record.{Record}
use Rattle.std.proofs.Common.{List, ap, arith, refl, subst, sym, ◌<◌, ◌∙◌}
use Rattle.std.specs.Prelude.{◌||◌}

pub returns-then-room-eq0-clause-found : goal.returns-then-room-eq0-clause-found
returns-then-room-eq0-clause-found c =
    let zone = c.args.zone.now in
    let n = c.names.name.now in
    subst (λ (found : Found). IsFound zone.class zone.sets.now n found (lookup (zone_of zone) c.args.record_type n))
    c.in-Alias.is (c.in_ok-found.ensures.found zone.class)

pub returns-then-room-eq0-clause-followed : goal.returns-then-room-eq0-clause-followed
returns-then-room-eq0-clause-followed c =
    let zone = c.args.zone.now in
    let t = c.args.record_type in
    let n = c.names.name.now in
    let done = c.names.answers.items in
    elim c.then-room-eq0.branch [
      | then-room-eq0-via-then-room-eq0 w ↦ ap (λ k. answer (zone_of zone) t k done n) (sym w.if-room-eq0.true)
          ∙ c.names.invariant
      | then-room-eq0-via-else-room-eq0+then-is_before w ↦ stays_again zone t c.names.room done n _
          (c.in_ok-found.ensures.found zone.class) c.in-Alias.set c.in-Alias.target c.in-Alias.is _ refl
          (ap (λ (rs : List (Record RData)). owns c.in-Alias.target.now rs || same_name c.in-Alias.target.now n)
          (sym w.deref.ensures.value) ∙ sym w.is_before.ensures ∙ w.if-is_before.true) ∙ c.names.invariant
    ]

pub names-preserved : goal.names-preserved
names-preserved c =
    let zone = c.args.zone.now in
    let n = c.names.name.now in
    let some : 0 < c.names.room = omega arith in
    sym (answer_on zone c.args.record_type c.names.room c.names.answers.items n _
    (c.in_ok-found.ensures.found zone.class) c.in-Alias.set c.in-Alias.target c.in-Alias.is _
    c.in_ok-add_alias-in-Alias.ensures some
    (ap (λ (rs : List (Record RData)). owns c.in-Alias.target.now rs || same_name c.in-Alias.target.now n)
    (sym c.deref.ensures.value) ∙ sym c.is_before.ensures ∙ c.if-is_before.false)) ∙ c.names.invariant

pub returns-in_default-clause-followed : goal.returns-in_default-clause-followed
returns-in_default-clause-followed c =
    let zone = c.args.zone.now in
    let n = c.names.name.now in
    stays (zone_of zone) c.args.record_type c.names.room c.names.answers.items n zone.class zone.sets.now
    c.in_ok-found.found (lookup (zone_of zone) c.args.record_type n) c.in_default.not-Alias
    (c.in_ok-found.ensures.found zone.class) ∙ c.names.invariant
