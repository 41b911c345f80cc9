-- What is known of what is written of EDNS: it is its OPT record.
use Rattle.std.specs.Prelude.{[]}
use Rattle.base.specs.writing.Says.{Says}
use Rattle.base.specs.writing.SaysParts.{Says-unowned}
use Rattle.base_data.specs.Kinds.{data_says}
use Rattle.rr.specs.RecordSays.{KeptRecord, record_says}
use Rattle.op.specs.EdnsRecord.{EdnsWord, edns_record, edns_written, opt_data, plain_edns}
use Rattle.op.specs.declared.edns.Edns.{Edns}

-- what the types keep of EDNS, as an OPT record
abbrev pub EdnsKept : Edns → Type 0
EdnsKept e = KeptRecord (edns_record e)

-- where what is written of EDNS stands, its OPT record stands
pub edns_says : (e : Edns) → Says (edns_written e) (EdnsKept e) (EdnsWord e) (plain_edns e) []
edns_says e =
    Says-unowned (edns_written e) (record_says (edns_record e) (data_says (opt_data e.options)))
