use Rattle.std.proofs.Common.{◌≡◌, drop}
use Rattle.op_use.specs.Responses.{first_soa}
use Rattle.op_use.proofs.dns_response.first_soa.Given as goal

-- the first of what is left is the first of all
abbrev pub invariant-loop-record : goal.invariant-loop-record
invariant-loop-record l = first_soa (drop l.record-index l.records) ≡ first_soa l.records
