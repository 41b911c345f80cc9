-- The flags of EDNS and their number (RFC 6891, 6.1.4).
use Rattle.std.specs.Prelude.{ℕ, ◌+◌, ◌%◌, nat_le, if◌then◌else◌}
use Rattle.op.specs.declared.edns.edns_flags.EdnsFlags.{EdnsFlags}

-- the flags of a number: its top bit and the other 15
abbrev pub flags_of_number : ℕ → EdnsFlags
flags_of_number number = record { dnssec_ok = nat_le 32768 number; z = number % 32768 }

-- the number of flags
abbrev pub flags_number : EdnsFlags → ℕ
flags_number flags = if flags.dnssec_ok then 32768 + flags.z % 32768 else flags.z % 32768
