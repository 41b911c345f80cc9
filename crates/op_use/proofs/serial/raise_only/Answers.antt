use Rattle.op_use.proofs.RaisedLemmas.{one_raised}
use Rattle.op_use.proofs.serial.raise_only.Goals as goal

pub returns : goal.returns
returns c = one_raised c.args.records.now c.index-records-0.result c.raise.new.data c.raise.result
    c.if-records-ne1.false c.raise.ensures
