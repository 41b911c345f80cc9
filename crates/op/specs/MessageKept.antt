-- What the types keep of a message, whatever it holds: numbers have their widths, and labels are those of names.
use Rattle.std.specs.Prelude.{◌<◌, ◌^◌, All}
use Rattle.std.specs.Option.{option_map}
use Rattle.rr.specs.RecordSays.{KeptRecord}
use Rattle.op.specs.Cut.{raised}
use Rattle.op.specs.EdnsRecord.{edns_record}
use Rattle.op.specs.Fits.{as_list, signature_record}
use Rattle.op.specs.Message.{MessageValue}
use Rattle.op.specs.QuerySays.{QueryKept}

-- of its ID, and of what is written after the header
pub record MessageKept (m : MessageValue) : Type 0 where
  pub id : m.metadata.id < 2 ^ 16
  pub queries : All QueryKept m.queries
  pub answers : All KeptRecord m.answers
  pub authorities : All KeptRecord m.authorities
  pub additionals : All KeptRecord m.additionals
  pub edns : All KeptRecord (as_list (option_map edns_record (raised m)))
  pub signature : All KeptRecord (as_list (option_map signature_record m.signature))
