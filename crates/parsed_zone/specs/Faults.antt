-- The faults of zone text and of zones, their numbers, and the refusals that name them.
use Rattle.std.specs.Prelude.{◌≡◌, ℕ, None, Option, Some, option_map, Result, Ok, Err}
use Rattle.base.specs.ParseError.{parse_number}
use Rattle.base.specs.texts.TextFaults.{Fault, fault_of, unexpected, lexer, says, not_found, unknown_type}
use Rattle.base.specs.texts.TextFaults.{unsupported_type, bad_data, bad_name, bad_ttl}
use Rattle.parsed_zone.specs.declared.refusal.ZoneRefusal.{ZoneRefusal}
use Rattle.parsed_zone.specs.declared.refusal.ZoneRefusal.TheVariants as refusals

-- the number of a fault of zone text
abbrev pub fault_number : Fault → ℕ
fault_number (unexpected token) = 17
fault_number lexer = 18
fault_number (says text) = 19
fault_number (not_found name) = 20
fault_number (unknown_type text) = 21
fault_number (unsupported_type type) = 22
fault_number (bad_data type) = 23
fault_number bad_name = 23
fault_number bad_ttl = 23

-- what zone text defines, or the number of its fault
abbrev pub numbered : {A : Type 0} → Result A Fault → Result A ℕ
numbered (Ok x) = Ok x
numbered (Err fault) = Err (fault_number fault)

-- why a zone isn't read of bytes, or isn't updated
pub data ZoneFault : Type 0 where
  not_utf8 : ZoneFault
  in_text : Fault → ZoneFault
  other_class : ZoneFault

-- what zone text defines, or its fault as one of the bytes that it stands in
abbrev pub of_text : {A : Type 0} → Result A Fault → Result A ZoneFault
of_text (Ok x) = Ok x
of_text (Err fault) = Err (in_text fault)

-- the number of a fault
abbrev pub zone_fault_number : ZoneFault → ℕ
zone_fault_number not_utf8 = 24
zone_fault_number (in_text fault) = fault_number fault
zone_fault_number other_class = 25

-- what is asked for, or the number of its fault
abbrev pub by_number : {A : Type 0} → Result A ZoneFault → Result A ℕ
by_number (Ok x) = Ok x
by_number (Err fault) = Err (zone_fault_number fault)

-- the fault that a refusal names; none where memory ran out
abbrev pub fault_named : ZoneRefusal → Option ZoneFault
fault_named refusals.NotUtf8 = Some not_utf8
fault_named (refusals.Parse e) = option_map in_text (fault_of e)
fault_named refusals.Class = Some other_class
fault_named refusals.Memory = None

-- the number of a refusal
abbrev pub zone_number : ZoneRefusal → ℕ
zone_number refusals.NotUtf8 = 24
zone_number (refusals.Parse e) = parse_number e
zone_number refusals.Class = 25
zone_number refusals.Memory = 3

-- What is asked for has this fault, if one is named.
abbrev pub HasFault : {A : Type 0} → Option ZoneFault → Result A ZoneFault → Type 0
HasFault None asked = Unit {0}
HasFault (Some fault) asked = asked ≡ Err fault

-- What was made, seen by view, is what was asked for, or the refusal names its fault; or memory ran out.
abbrev pub MakesOrRefuses : {X A : Type 0} → (X → A) → Result A ZoneFault → Result X ZoneRefusal
    → Type 0
MakesOrRefuses view asked (Ok x) = asked ≡ Ok (view x)
MakesOrRefuses view asked (Err refusal) = HasFault (fault_named refusal) asked
