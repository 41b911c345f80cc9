-- The words of the commands with an origin, `zone` and `apply`.
use Rattle.std.specs.Option.{option_map}
use Rattle.std.specs.Prelude.{ℕ, Bool, false, true, not, ◌&&◌, List, [], ◌∷◌, codes, if◌then◌else◌, Option, Some, None}
use Rattle.std.specs.Prelude.{Result, Ok, Err}
use Rattle.std.specs.Str.{bytes_eq}
use Rattle.base.specs.names.Labels.{NameValue}
use Rattle.base.specs.texts.NameOf.{name_of}
use Rattle.base.specs.texts.TextFaults.{Fault}
use Rattle.commands.specs.ZoneCommand.{are_texts}
use Rattle.commands.specs.declared.command.Command.{Command}
use Rattle.commands.specs.declared.command.Command.TheVariants as command

-- the origin that was read of a word, if a name was
abbrev pub origin_under : Result NameValue Fault → Option (Option NameValue)
origin_under (Ok origin) = Some (Some origin)
origin_under (Err fault) = None

-- the origin that a word names, if it names one: `-` for none, else a name
abbrev pub origin_named : List ℕ → Option (Option NameValue)
origin_named word = if bytes_eq word (codes "-") then Some None
    else origin_under (name_of word None)

-- the command of an origin and of included texts, if each of these has a name
unfoldable pub zone_named : List ℕ → List (List ℕ) → Option Command
zone_named origin words = if are_texts words then option_map command.Zone (origin_named origin)
    else None

-- the command of an origin and of an update, one word
abbrev pub apply_named : List ℕ → List (List ℕ) → Option Command
apply_named origin [] = None
apply_named origin (update ∷ []) = option_map command.Apply (origin_named origin)
apply_named origin (update ∷ (word ∷ words)) = None

-- whether words have one item
abbrev pub is_one : List (List ℕ) → Bool
is_one [] = false
is_one (word ∷ []) = true
is_one (word ∷ (next ∷ words)) = false

-- whether the words after the origin are those that a command with an origin takes
abbrev pub are_taken : List ℕ → List (List ℕ) → Bool
are_taken name words = if bytes_eq name (codes "zone") then are_texts words
    else (bytes_eq name (codes "apply") && is_one words)

-- whether the words have an origin that is parsed: any but `-`, of a command that takes the words after it
abbrev pub parses_origin : List (List ℕ) → Bool
parses_origin [] = false
parses_origin (name ∷ []) = false
parses_origin (name ∷ (origin ∷ words)) = are_taken name words && not (bytes_eq origin (codes "-"))

-- the words after the command and the origin
abbrev pub words_after_origin : List (List ℕ) → List (List ℕ)
words_after_origin (word ∷ (origin ∷ words)) = words
words_after_origin words = []
