use Rattle.base_data.proofs.FlagLemmas.{flags_told}
use Rattle.base_data.proofs.rdata.RData.cmp_flags.Goals as goal
use Rattle.base_data.specs.Kinds.{data_names}

pub returns : goal.returns
returns c =
    rw (
      c.then.ensures,
      c.cmp_flag.ensures,
      c.cmp_flag-2.ensures,
      c.names.ensures.first,
      c.names-2.ensures.first,
      c.names.ensures.second,
      c.names-2.ensures.second,
    )
    (flags_told (data_names c.args.self.now) (data_names c.args.other.now) c.names.ensures.count
    c.names-2.ensures.count)
