use Rattle.std.proofs.Common.{arith}
use Rattle.op.specs.HeaderSays.{header_stands}
use Rattle.op.proofs.header.Header.to_bytes.Goals as goal

pub returns-clause-narrow : goal.returns-clause-narrow
returns-clause-narrow c = record {
  identifier = omega arith;
  queries = omega arith;
  answers = omega arith;
  authorities = omega arith;
  additionals = omega arith;
}

pub returns-clause-word : goal.returns-clause-word
returns-clause-word c = λ B i stands. header_stands c.args.self.now B i (returns-clause-narrow c) stands
