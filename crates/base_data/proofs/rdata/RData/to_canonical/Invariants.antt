use Rattle.std.proofs.Common.{◌≡◌, ◌++◌}
use Rattle.base_data.specs.Kinds.{canonical_data}
use Rattle.base_data.proofs.rdata.RData.to_canonical.Given as goal

-- those so far, and those that are left
abbrev pub invariant-octets : goal.invariant-octets
invariant-octets l = l.bytes.items ++ l.left ≡ canonical_data l.fn.self
