-- The entries of a text (RFC 1035, 5.1).
use Rattle.std.specs.Prelude.{ℕ, Option, Some, None, List, [], ◌∷◌, ◌++◌, length, option_map}
use Rattle.std.specs.Str.{str_to_ascii_uppercase}
use Rattle.base.specs.DNSClass.{class_from_text}
use Rattle.base.specs.texts.TextFaults.{Fault, lexer, unexpected}
use Rattle.base.specs.texts.TokenList.{Placed, Symbol, broken, listing, symbol, symbols}
use Rattle.base.specs.texts.Tokens.{Unread, at, blank, char_data, eol, include, list, origin_sign, ttl_sign}
use Rattle.base.specs.texts.Ttl.{ttl_of}
use Rattle.base.specs.declared.dns_class.DNSClass.{DNSClass}

-- the fault of a token that has no place where it stands, or the lexer's
abbrev pub fault_at : Symbol → Fault
fault_at (symbol value) = unexpected value
fault_at broken = lexer

-- how an entry ends: as it may, or by a token that has no place there, after which nothing is read
pub data Stop : Type 0 where
  whole : Stop
  refused : Symbol → Stop

-- whose a line is: the name that a text names, the origin by @, or by a blank the last stated owner (RFC 1035, 5.1)
pub data Owner : Type 0 where
  named : List ℕ → Owner
  at_origin : Owner
  same : Owner

-- what an item states before the type
pub data Setting : Type 0 where
  ttl_is : ℕ → Setting
  class_is : DNSClass → Setting

-- a TTL, else a class, if it is one
abbrev pub setting_by : Option ℕ → Option DNSClass → Option Setting
setting_by (Some ttl) class = Some (ttl_is ttl)
setting_by None (Some class) = Some (class_is class)
setting_by None None = None

-- what an item before the type states, TTL and class in any order (RFC 1035, 5.1): a TTL text, else a class, its
-- letters raised; none where it is neither
unfoldable pub setting_of : List ℕ → Option Setting
setting_of word = setting_by (ttl_of word) (class_from_text (str_to_ascii_uppercase word))

-- what a line states before its type: a TTL and a class, each by the last item that states one
pub record Settings : Type 0 where
  pub ttl : Option ℕ
  pub dns_class : Option DNSClass

-- a line that states nothing
abbrev pub no_settings : Settings
no_settings = record { ttl = None; dns_class = None }

-- one more setting
abbrev pub with_setting : Settings → Setting → Settings
with_setting settings (ttl_is ttl) = record settings { ttl = Some ttl }
with_setting settings (class_is class) = record settings { dns_class = Some class }

-- what stands after the settings of a line: nothing, or a type's text, its letters raised, with the items of its data
pub data Body : Type 0 where
  untyped : Stop → Body
  typed : List ℕ → List (List ℕ) → Stop → Body

-- An entry (RFC 1035, 5.1), as far as it stands in the text: the end of a line; $ORIGIN and a name; $TTL and a TTL
-- (RFC 2308, 4); $INCLUDE and a name, or two names; a record's line; or a token that ends another entry than a line and
-- has no place in it.
pub data Entry : Type 0 where
  nothing : Entry
  origin_entry : List ℕ → Entry
  ttl_entry : List ℕ → Entry
  include_entry : List ℕ → Entry
  include_under : Entry
  owner_line : Owner → Settings → Body → Entry
  faulty_entry : Symbol → Entry

-- after so many items of the data: all of them, how they end, and where the next entry begins
abbrev pub items_after : List Placed → List (List ℕ) → (List (List ℕ) × Stop) × List Placed
items_after [] items = ((items, whole), [])
items_after ((symbol eol, left) ∷ rest) items = ((items, whole), rest)
items_after ((symbol (char_data word), left) ∷ rest) items = items_after rest (items ++ word ∷ [])
items_after ((symbol (list words), left) ∷ rest) items = items_after rest (items ++ words)
items_after (other ∷ rest) items = ((items, refused other.0), [])

-- the line of a type with these items
abbrev pub typed_line : Settings → List ℕ → (List (List ℕ) × Stop) × List Placed
    → (Settings × Body) × List Placed
typed_line settings word found = ((settings, typed word found.0.0 found.0.1), found.1)

-- an item that is a setting stands before the rest of the line; another is its type
abbrev pub line_by : Option Setting → List ℕ → List Placed
    → (Settings → (Settings × Body) × List Placed)
    → Settings
    → (Settings × Body) × List Placed
line_by (Some setting) word rest more settings = more (with_setting settings setting)
line_by None word rest more settings =
    typed_line settings (str_to_ascii_uppercase word) (items_after rest [])

-- after such settings: all of them, what stands after them, and where the next entry begins
abbrev pub line_after : List Placed → Settings → (Settings × Body) × List Placed
line_after [] settings = ((settings, untyped whole), [])
line_after ((symbol eol, left) ∷ rest) settings = ((settings, untyped whole), rest)
line_after ((symbol (char_data word), left) ∷ rest) settings =
    line_by (setting_of word) word rest (line_after rest) settings
line_after (other ∷ rest) settings = ((settings, untyped (refused other.0)), [])

-- the entry of an owner and the line after it
abbrev pub line_of : Owner → (Settings × Body) × List Placed → Entry × List Placed
line_of owner found = (owner_line owner found.0.0 found.0.1, found.1)

-- the entry that needs an item next, by that item and what stands after it; nothing where the text ends there
abbrev pub with_item : (List ℕ → List Placed → Entry × List Placed) → List Placed
    → Entry × List Placed
with_item entry [] = (nothing, [])
with_item entry ((symbol (char_data word), left) ∷ rest) = entry word rest
with_item entry (other ∷ rest) = (faulty_entry other.0, [])

-- the entry after $INCLUDE and a name: the line has to end there
abbrev pub include_end : List ℕ → List Placed → Entry × List Placed
include_end name [] = (nothing, [])
include_end name ((symbol eol, left) ∷ rest) = (include_entry name, rest)
include_end name ((symbol (char_data word), left) ∷ rest) = (include_under, rest)
include_end name (other ∷ rest) = (faulty_entry other.0, [])

-- the first entry, and what stands after it
unfoldable pub first_entry : List Placed → Option (Entry × List Placed)
first_entry [] = None
first_entry ((symbol eol, left) ∷ rest) = Some (nothing, rest)
first_entry ((symbol origin_sign, left) ∷ rest) =
    Some (with_item (λ word more. (origin_entry word, more)) rest)
first_entry ((symbol ttl_sign, left) ∷ rest) =
    Some (with_item (λ word more. (ttl_entry word, more)) rest)
first_entry ((symbol include, left) ∷ rest) = Some (with_item include_end rest)
first_entry ((symbol blank, left) ∷ rest) = Some (line_of same (line_after rest no_settings))
first_entry ((symbol at, left) ∷ rest) = Some (line_of at_origin (line_after rest no_settings))
first_entry ((symbol (char_data word), left) ∷ rest) =
    Some (line_of (named word) (line_after rest no_settings))
first_entry (other ∷ rest) = Some (faulty_entry other.0, [])

-- an entry, and the tokens from its first on
abbrev pub PlacedEntry : Type 0
PlacedEntry = Entry × List Placed

-- the first entry with its place, and what stands after it
abbrev pub first_placed : List Placed → Option (PlacedEntry × List Placed)
first_placed from = option_map (λ found. ((found.0, from), found.1)) (first_entry from)

-- all entries of a text, one after another (RFC 1035, 5.1)
unfoldable pub entries : List Placed → List PlacedEntry
entries symbols = listing first_placed (length symbols) symbols

-- the entries of what is still to be read
abbrev pub entries_of : Unread → List PlacedEntry
entries_of unread = entries (symbols unread)
