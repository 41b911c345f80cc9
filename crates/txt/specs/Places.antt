-- Where the fault of an entry stands: at the first token that makes it.
use Rattle.std.specs.Prelude.{ℕ, ◌+◌, ◌&&◌, ◌==◌, nat_lt, not, Bool, true, false, if◌then◌else◌, List, [], ◌∷◌, length}
use Rattle.std.specs.Prelude.{drop, is_some}
use Rattle.base.specs.texts.TextFaults.{Fault, bad_name, lexer, unexpected}
use Rattle.base.specs.texts.TokenList.{Placed, first_place, symbol}
use Rattle.base.specs.texts.Tokens.{at, begins_with, blank, char_data, include, is_line_end, list, origin_sign}
use Rattle.base.specs.texts.Tokens.{ttl_sign}
use Rattle.txt.specs.Entries.{setting_of}

-- the place of what comes after items
abbrev pub place_after_items : List Placed → ℕ
place_after_items ((symbol (char_data word), left) ∷ rest) = place_after_items rest
place_after_items ((symbol (list words), left) ∷ rest) = place_after_items rest
place_after_items from = first_place from

-- whether a fault is that a token has no place, or is none
abbrev pub is_misplaced : Fault → Bool
is_misplaced (unexpected value) = true
is_misplaced lexer = true
is_misplaced other = false

-- after an owner, past TTLs and classes: the token that has no place, where the fault is that there is one, else the
-- type
abbrev pub place_in_line : Bool → List Placed → ℕ
place_in_line misplaced ((symbol (char_data word), left) ∷ rest) =
    if is_some (setting_of word) then place_in_line misplaced rest
    else (if misplaced then place_after_items rest else left)
place_in_line misplaced from = first_place from

-- the place of what a name after $INCLUDE is followed by, or of what stands where the name should
abbrev pub place_after_name : List Placed → ℕ
place_after_name ((symbol (char_data name), left) ∷ rest) = first_place rest
place_after_name from = first_place from

-- where the fault of the entry that stands first stands
abbrev pub fault_place : Fault → List Placed → ℕ
fault_place fault ((symbol origin_sign, left) ∷ rest) = first_place rest
fault_place fault ((symbol ttl_sign, left) ∷ rest) = first_place rest
fault_place fault ((symbol include, left) ∷ rest) = place_after_name rest
fault_place fault ((symbol blank, left) ∷ rest) = place_in_line (is_misplaced fault) rest
fault_place fault ((symbol at, left) ∷ rest) = place_in_line (is_misplaced fault) rest
fault_place bad_name ((symbol (char_data word), left) ∷ rest) = left
fault_place fault ((symbol (char_data word), left) ∷ rest) = place_in_line (is_misplaced fault) rest
fault_place fault from = first_place from

-- line and column of a text, from 1
pub record Position : Type 0 where
  pub line : ℕ
  pub column : ℕ

-- whether a line ends with this byte before these: LF, CR, or CR LF (RFC 1035, 5.1)
abbrev pub ends_line : ℕ → List ℕ → Bool
ends_line c text = is_line_end c && not (c == 13 && begins_with 10 text)

-- from a line and column on: those of the byte from which on so many stand
abbrev pub position_from : ℕ → ℕ → List ℕ → ℕ → Position
position_from line column [] left = record { line = line; column = column }
position_from line column (c ∷ text) left =
    if nat_lt (length text) left then record { line = line; column = column }
    else (if ends_line c text then position_from (line + 1) 1 text left
    else position_from line (column + 1) text left)

-- line and column of the byte from which on so many stand in a text
unfoldable pub position : List ℕ → ℕ → Position
position text left = position_from 1 1 text left

-- the place of the name after $INCLUDE
abbrev pub include_place : List Placed → ℕ
include_place from = first_place (drop 1 from)
