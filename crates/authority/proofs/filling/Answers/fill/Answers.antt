use Rattle.authority.proofs.filling.Answers.fill.Goals as goal
use Rattle.authority.specs.Filling.{FillsTo}
use Rattle.authority.specs.Transfer.{left_at}
use Rattle.authority.specs.declared.transferring.TransferPlace.{TransferPlace}
use Rattle.std.proofs.Common.{subst, sym}

pub returns-in_ok-add_last-in-LastSoa-clause-value :
    goal.returns-in_ok-add_last-in-LastSoa-clause-value
returns-in_ok-add_last-in-LastSoa-clause-value c =
    let zone = c.args.zone.now in
    subst (λ (p : TransferPlace). FillsTo (left_at zone.origin.now zone.class zone.sets.now c.args.soa.now) p
    c.args.self.now c.in_ok-add_last-in-LastSoa.field-0 c.add_last.new.self) (sym c.in-LastSoa.is)
    (c.in_ok-add_last-in-LastSoa.ensures zone.origin.now zone.class zone.sets.now)
