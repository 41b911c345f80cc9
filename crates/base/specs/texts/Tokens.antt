-- The tokens of zone text (RFC 1035, 5.1), as a function of its bytes.
use Rattle.std.specs.Prelude.{ℕ, zero, suc, Bool, true, false, not, ◌==◌, ◌||◌, ◌&&◌, List, [], ◌∷◌, ◌++◌, length, map}
use Rattle.std.specs.Prelude.{if◌then◌else◌, Option, Some, None, String, codes}
use Rattle.std.specs.Str.{bytes_eq}
use Rattle.std.specs.String.{string_bytes}
use Rattle.base.specs.declared.text.token.Token.{Token}
use Rattle.base.specs.declared.text.token.Token.TheVariants as tokens
use Rattle.base.specs.declared.text.token.TokenRef.{TokenRef}
use Rattle.base.specs.declared.text.token.TokenRef.TheVariants as refs

-- A token without where it lies in memory: an item or a quoted text; what stands in parentheses; blanks at the
-- beginning of a line; the end of a line; the sign @; $ORIGIN, $INCLUDE and $TTL.
pub data TokenValue : Type 0 where
  char_data : List ℕ → TokenValue
  list : List (List ℕ) → TokenValue
  blank : TokenValue
  eol : TokenValue
  at : TokenValue
  origin_sign : TokenValue
  include : TokenValue
  ttl_sign : TokenValue

-- texts as their bytes
abbrev pub texts : {Z : Type 0} → List (String Z) → List (List ℕ)
texts xs = map string_bytes xs

-- the value of a token
abbrev pub value_of : Token → TokenValue
value_of (tokens.CharData text) = char_data (string_bytes text)
value_of (tokens.List items) = list (texts items.items)
value_of tokens.Blank = blank
value_of tokens.EOL = eol
value_of tokens.At = at
value_of tokens.Origin = origin_sign
value_of tokens.Include = include
value_of tokens.Ttl = ttl_sign

-- the same of one whose items stand in the text
abbrev pub lent_value : TokenRef → TokenValue
lent_value (refs.CharData text) = char_data text.now
lent_value (refs.List items) = list (map (λ item. item.now) items.items)
lent_value refs.Blank = blank
lent_value refs.EOL = eol
lent_value refs.At = at
lent_value refs.Origin = origin_sign
lent_value refs.Include = include
lent_value refs.Ttl = ttl_sign

-- what is still to be read, and whether it stands at the beginning of a line
pub record Unread : Type 0 where
  pub text : List ℕ
  pub at_line_start : Bool

-- what comes next: the end of the text, a fault, or a token
pub data Next : Type 0 where
  ends : Next
  faulty : Next
  token : TokenValue → Unread → Next

-- a space or a tab: these delimit the items of an entry (RFC 1035, 5.1)
abbrev pub is_blank : ℕ → Bool
is_blank c = c == 32 || c == 9

-- a line feed or a carriage return
abbrev pub is_line_end : ℕ → Bool
is_line_end c = c == 10 || c == 13

-- space, tab, line end, ; ( ) "
abbrev pub ends_item : ℕ → Bool
ends_item c = is_blank c || is_line_end c || c == 59 || c == 40 || c == 41 || c == 34

-- after the blanks that a text begins with
abbrev pub past_blanks : List ℕ → List ℕ
past_blanks [] = []
past_blanks (c ∷ text) = if is_blank c then past_blanks text else c ∷ text

-- from the end of the line on
abbrev pub line_end : List ℕ → List ℕ
line_end [] = []
line_end (c ∷ text) = if is_line_end c then c ∷ text else line_end text

-- after a comment, which begins with ; and goes up to the end of the line (RFC 1035, 5.1)
abbrev pub past_comment : List ℕ → List ℕ
past_comment [] = []
past_comment (c ∷ text) = if c == 59 then line_end text else c ∷ text

-- some bytes before what was cut off
abbrev pub before : List ℕ → Option (List ℕ × List ℕ) → Option (List ℕ × List ℕ)
before front None = None
before front (Some cut) = Some (front ++ cut.0, cut.1)

-- The item that a text begins with, and what is after it; none where a backslash ends the text. The flag says
-- whether a backslash stands before the text, which keeps its first byte.
unfoldable pub item : Bool → List ℕ → Option (List ℕ × List ℕ)
item kept [] = if kept then None else Some ([], [])
item kept (c ∷ text) = if not kept && ends_item c then Some ([], c ∷ text)
    else before (c ∷ []) (item (not kept && c == 92) text)

-- What stands before the next " that no backslash keeps, and what is after that; none where there is no such ".
unfoldable pub quoted : Bool → List ℕ → Option (List ℕ × List ℕ)
quoted kept [] = None
quoted kept (c ∷ text) = if not kept && c == 34 then Some ([], text)
    else before (c ∷ []) (quoted (not kept && c == 92) text)

-- whether a text begins with this byte
abbrev pub begins_with : ℕ → List ℕ → Bool
begins_with b [] = false
begins_with b (c ∷ text) = c == b

-- what separates items within parentheses, where the end of a line is none (RFC 1035, 5.1)
abbrev pub separates : ℕ → Bool
separates c = is_blank c || is_line_end c

-- within parentheses: after blanks, line ends and comments; the flag says whether a comment is open
abbrev pub past_separators : Bool → List ℕ → List ℕ
past_separators in_comment [] = []
past_separators true (c ∷ text) = past_separators (if is_line_end c then false else true) text
past_separators false (c ∷ text) = if c == 59 then past_separators true text
    else (if separates c then past_separators false text else c ∷ text)

-- what stands next within parentheses: their end, what has no place there, or an item
pub data Element : Type 0 where
  closes : List ℕ → Element
  misplaced : Element
  one : List ℕ → List ℕ → Element

-- an item that was cut off, or nothing that has a place there
abbrev pub element_of : Option (List ℕ × List ℕ) → Element
element_of None = misplaced
element_of (Some cut) = one cut.0 cut.1

-- what stands next after blanks, line ends and comments: ) closes, ( and $ are misplaced, " begins a quoted text
unfoldable pub element : List ℕ → Element
element [] = misplaced
element (c ∷ text) =
    if c == 41 then closes text
    else (if c == 40 || c == 36 then misplaced
    else (if c == 34 then element_of (quoted false text)
    else element_of (item false (c ∷ text))))

-- an item before those after it
abbrev pub with_item : List ℕ → Option (List (List ℕ) × List ℕ) → Option (List (List ℕ) × List ℕ)
with_item word None = None
with_item word (Some cut) = Some (word ∷ cut.0, cut.1)

-- the items from what stands next on, and what is after the closing parenthesis
abbrev pub listed : (List ℕ → Option (List (List ℕ) × List ℕ)) → Element
    → Option (List (List ℕ) × List ℕ)
listed more (closes rest) = Some ([], rest)
listed more misplaced = None
listed more (one word rest) = with_item word (more rest)

-- the items up to the closing parenthesis, and what is after it; none where that is missing, or something is
-- misplaced. As many steps as there are bytes suffice.
unfoldable pub list_items : ℕ → List ℕ → Option (List (List ℕ) × List ℕ)
list_items zero text = None
list_items (suc steps) text = listed (list_items steps) (element (past_separators false text))

-- the token that an item is, a free standing @ among them (RFC 1035, 5.1); none where it begins with $ and is none of
-- the three
abbrev pub item_token : List ℕ → Option TokenValue
item_token word =
    if bytes_eq word (codes "@") then Some at
    else (if bytes_eq word (codes "$ORIGIN") then Some origin_sign
    else (if bytes_eq word (codes "$INCLUDE") then Some include
    else (if bytes_eq word (codes "$TTL") then Some ttl_sign
    else (if begins_with 36 word then None
    else Some (char_data word)))))

-- what is still to be read within a line
abbrev pub within_line : List ℕ → Unread
within_line text = record { text = text; at_line_start = false }

-- a token, or the fault where an item is none
abbrev pub token_or_fault : Option TokenValue → Unread → Next
token_or_fault None rest = faulty
token_or_fault (Some value) rest = token value rest

-- what comes next where an item was cut off, or a backslash ends the text
abbrev pub next_item : Option (List ℕ × List ℕ) → Next
next_item None = faulty
next_item (Some cut) = token_or_fault (item_token cut.0) (within_line cut.1)

-- what comes next where a quoted text was cut off, or its end is missing
abbrev pub next_quoted : Option (List ℕ × List ℕ) → Next
next_quoted None = faulty
next_quoted (Some cut) = token (char_data cut.0) (within_line cut.1)

-- what comes next where the items in parentheses were cut off, or could not be
abbrev pub next_list : Option (List (List ℕ) × List ℕ) → Next
next_list None = faulty
next_list (Some cut) = token (list cut.0) (within_line cut.1)

-- after a line end that begins with this: CR LF is one
abbrev pub past_line_end : ℕ → List ℕ → List ℕ
past_line_end c [] = []
past_line_end c (d ∷ text) = if c == 13 && d == 10 then text else d ∷ text

-- the token of a text that begins with no blank and no comment
unfoldable pub visible : List ℕ → Next
visible [] = ends
visible (c ∷ text) =
    if is_line_end c then token eol (record { text = past_line_end c text; at_line_start = true })
    else (if c == 34 then next_quoted (quoted false text)
    else (if c == 40 then next_list (list_items (length text) text)
    else (if c == 41 then faulty
    else next_item (item false (c ∷ text)))))

-- whether a text begins with a blank
abbrev pub begins_blank : List ℕ → Bool
begins_blank [] = false
begins_blank (c ∷ text) = is_blank c

-- what comes next: at the beginning of a line its blanks are a token, and elsewhere they only separate
unfoldable pub next : Unread → Next
next unread =
    if unread.at_line_start && begins_blank unread.text
    then token blank (within_line (past_blanks unread.text))
    else visible (past_comment (past_blanks unread.text))
