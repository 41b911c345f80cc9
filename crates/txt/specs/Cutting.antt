-- The entries that are cut off a text, as those of the definition.
use Rattle.std.specs.Prelude.{◌≡◌, ℕ, List, [], ◌∷◌, Option, Some, None, Result, Ok, Err, map}
use Rattle.std.specs.Borrow.{Bor}
use Rattle.std.specs.String.{string_bytes}
use Rattle.base.specs.texts.TokenList.{Placed, Symbol, broken, first_place, symbol}
use Rattle.base.specs.texts.Tokens.{lent_value}
use Rattle.txt.specs.Entries.{Body, Entry, Owner, Setting, Settings, Stop, at_origin, class_is, faulty_entry}
use Rattle.txt.specs.Entries.{include_entry, include_under, named, nothing, origin_entry, owner_line, refused, same}
use Rattle.txt.specs.Entries.{ttl_entry, ttl_is, typed, untyped, whole, with_item}
use Rattle.txt.specs.declared.zone.entry.Body.{Body as CutBody}
use Rattle.txt.specs.declared.zone.entry.Body.TheVariants as bodies
use Rattle.txt.specs.declared.zone.entry.Entry.{Entry as CutEntry}
use Rattle.txt.specs.declared.zone.entry.Entry.TheVariants as cut
use Rattle.txt.specs.declared.zone.entry.Owner.{Owner as CutOwner}
use Rattle.txt.specs.declared.zone.entry.Owner.TheVariants as owners
use Rattle.txt.specs.declared.zone.entry.Setting.{Setting as CutSetting}
use Rattle.txt.specs.declared.zone.entry.Setting.TheVariants as settings
use Rattle.txt.specs.declared.zone.entry.Settings.{Settings as CutSettings}
use Rattle.txt.specs.declared.zone.entry.Stop.{Stop as CutStop}
use Rattle.txt.specs.declared.zone.entry.Stop.TheVariants as stops
use Rattle.txt.specs.declared.zone.entry.Symbol.{Symbol as CutSymbol}
use Rattle.txt.specs.declared.zone.entry.Symbol.TheVariants as cuts

-- a symbol
abbrev pub symbol_value : CutSymbol → Symbol
symbol_value (cuts.Token t) = symbol (lent_value t)
symbol_value cuts.Broken = broken

-- an end
abbrev pub stop_value : CutStop → Stop
stop_value stops.Whole = whole
stop_value (stops.Refused other) = refused (symbol_value other)

-- an owner
abbrev pub owner_value : CutOwner → Owner
owner_value (owners.Named text) = named text.now
owner_value owners.Origin = at_origin
owner_value owners.Same = same

-- what an item states
abbrev pub setting_value : CutSetting → Setting
setting_value (settings.Ttl ttl) = ttl_is ttl
setting_value (settings.Class class) = class_is class

-- what a line states
abbrev pub settings_value : CutSettings → Settings
settings_value stated = record { ttl = stated.ttl; dns_class = stated.dns_class }

-- what stands after that
abbrev pub body_value : CutBody → Body
body_value (bodies.Untyped stop) = untyped (stop_value stop)
body_value (bodies.Typed word items stop) =
    typed (string_bytes word) (map (λ item. item.now) items.items) (stop_value stop)

-- an entry
abbrev pub entry_value : CutEntry → Entry
entry_value cut.Nothing = nothing
entry_value (cut.Origin text) = origin_entry text.now
entry_value (cut.Ttl text) = ttl_entry text.now
entry_value (cut.Include name) = include_entry name.now
entry_value cut.IncludeUnder = include_under
entry_value (cut.Line owner stated body) =
    owner_line (owner_value owner) (settings_value stated) (body_value body)
entry_value (cut.Faulty other) = faulty_entry (symbol_value other)

-- What stands next is this, before what is read on from; or nothing does.
abbrev pub ReadsSymbol : Option CutSymbol → List Placed → List Placed → Type 0
ReadsSymbol None from to = (from ≡ []) × (to ≡ [])
ReadsSymbol (Some (cuts.Token t)) from to = from ≡ (symbol (lent_value t), first_place from) ∷ to
ReadsSymbol (Some cuts.Broken) from to = from ≡ (broken, first_place from) ∷ []

-- what is read on after such an end: nothing after a token that has no place
abbrev pub rest_of_stop : Stop → List Placed → List Placed
rest_of_stop whole to = to
rest_of_stop (refused other) to = []

-- the same after a body
abbrev pub rest_of_body : Body → List Placed → List Placed
rest_of_body (untyped stop) to = rest_of_stop stop to
rest_of_body (typed word items stop) to = rest_of_stop stop to

-- the same after an entry
abbrev pub rest_of_entry : Entry → List Placed → List Placed
rest_of_entry (owner_line owner stated body) to = rest_of_body body to
rest_of_entry (faulty_entry other) to = []
rest_of_entry other to = to

-- an entry that was cut off, and what is read on after it
abbrev pub cut_off : CutEntry → List Placed → Entry × List Placed
cut_off e to = (entry_value e, rest_of_entry (entry_value e) to)

-- the same where the text may have ended
abbrev pub found_first : Option CutEntry → List Placed → Option (Entry × List Placed)
found_first None to = None
found_first (Some e) to = Some (cut_off e to)

-- What the item that an entry needs makes of it is this: the item, or the entry that ends before it.
abbrev pub FindsItem : Result (Bor (List ℕ)) CutEntry → List Placed → List Placed → Type 0
FindsItem (Ok word) from to =
    (entry : List ℕ → List Placed → Entry × List Placed)
    → with_item entry from ≡ entry word.now to
FindsItem (Err e) from to =
    (entry : List ℕ → List Placed → Entry × List Placed)
    → with_item entry from ≡ cut_off e to
