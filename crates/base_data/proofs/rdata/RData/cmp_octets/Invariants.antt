use Rattle.std.proofs.Common.{◌≡◌}
use Rattle.base_data.specs.Kinds.{canonical_data}
use Rattle.base_data.specs.Opaque.{bytes_cmp}
use Rattle.base_data.proofs.rdata.RData.cmp_octets.Given as goal

abbrev pub invariant-octets : goal.invariant-octets
invariant-octets l = bytes_cmp l.left l.right ≡ bytes_cmp (canonical_data l.fn.self) (canonical_data l.fn.other)
