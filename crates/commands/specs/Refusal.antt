-- The numbers of the program's refusals.
use Rattle.std.specs.Prelude.{ℕ}
use Rattle.base.specs.DecodeError.{decode_number}
use Rattle.base.specs.ProtoError.{proto_number}
use Rattle.parsed_zone.specs.Faults.{zone_number}
use Rattle.commands.specs.declared.refusal.Refusal.{Refusal}
use Rattle.commands.specs.declared.refusal.Refusal.TheVariants as refusals

-- the number that is printed of a refusal
abbrev pub refusal_number : Refusal → ℕ
refusal_number refusals.Input = 24
refusal_number (refusals.Decode fault) = decode_number fault
refusal_number (refusals.Proto error) = proto_number error
refusal_number (refusals.Zone refusal) = zone_number refusal
