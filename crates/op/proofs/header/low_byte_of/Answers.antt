use Rattle.op.proofs.BitLemmas.{low_of}
use Rattle.op.specs.ResponseCode.{code_number}
use Rattle.op.proofs.header.low_byte_of.Goals as goal

pub returns : goal.returns
returns c =
    let m = c.args.metadata.now in
    rw (
      c.from-recursion_available.ensures,
      c.from-authentic_data.ensures,
      c.from-checking_disabled.ensures,
      c.low.ensures,
    )
    (low_of m.recursion_available m.authentic_data m.checking_disabled (code_number m.response_code))
