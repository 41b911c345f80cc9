-- What a handle owns.
use Rattle.std.specs.Prelude.{Bool, None, Option, Some, false, true}
use base.Fml.{Fml, ffalse, ftrue}
use base.Stored.{Coded}
use denote.RawPtr.{Ptr}
use mir.Syntax.{Ty}
use Rattle.std.specs.Box.Ownership.{box_owns}
use Rattle.std.specs.Coded.{coded_option}
use Rattle.std.specs.contracts.impls.GlobalAllocator.TheImpl.{ghosts}
use Rattle.capi.specs.contracts.zone_handle.holding.Holding.{the_row}
use Rattle.capi.specs.declared.zone_handle.holding.Holding.{Holding}

-- how what may be held is stored
abbrev pub zone_code : Coded (Option Holding)
zone_code = coded_option the_row.coded

-- the right to free a block of the heap
abbrev pub token : Ty → Ptr → Fml
token = ghosts.dealloc_token (record { memory = record { seal = tt } })

-- An open handle owns what it holds at its pointer and the right to free it; a closed one owns nothing.
abbrev pub held : Bool → Ptr → Option Holding → Fml
held true p (Some zone) = box_owns token the_row p zone
held true p None = ffalse
held false p (Some zone) = ffalse
held false p None = ftrue
