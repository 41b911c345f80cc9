use Rattle.std.proofs.Common.{[], arith, refl, sym}
use Rattle.std.specs.FinSet as set
use Rattle.std.specs.Ordering.{nat_cmp}
use Rattle.base.specs.reading.Passing.{no_names}
use Rattle.base.proofs.wire.laws.a_new_decoder_is_counted.Goals as goal

pub returns-clause-counted : goal.returns-clause-counted
returns-clause-counted c = λ bytes. record {
  exact = sym (set.len-empty nat_cmp);
  few = omega (arith, set.len-empty nat_cmp);
}

pub returns-clause-passed : goal.returns-clause-passed
returns-clause-passed c = λ bytes. record {
  names = [];
  offsets = [];
  before =
      λ k d inside. absurd (omega (arith, inside));
  pass = no_names;
  exact = refl;
}
