-- All tokens of a text, one after the other (RFC 1035, 5.1).
use Rattle.std.specs.Prelude.{ℕ, zero, suc, true, false, ◌&&◌, if◌then◌else◌, List, [], ◌∷◌, length, Option, Some, None}
use Rattle.base.specs.texts.Tokens.{Next, TokenValue, Unread, begins_blank, ends, faulty, next, past_blanks}
use Rattle.base.specs.texts.Tokens.{past_comment, token}

-- what was found, before all that comes after it
abbrev pub followed : {S A : Type 0} → (S → List A) → Option (A × S) → List A
followed more None = []
followed more (Some found) = found.0 ∷ more found.1

-- what a step gives one after the other, at most `steps` times
unfoldable pub listing : {S A : Type 0} → (S → Option (A × S)) → ℕ → S → List A
listing step zero s = []
listing step (suc steps) s = followed (listing step steps) (step s)

-- a token, or the lexer's fault, which is the last
pub data Symbol : Type 0 where
  symbol : TokenValue → Symbol
  broken : Symbol

-- a symbol, and where it stands: how many bytes of its text stand from it on
abbrev pub Placed : Type 0
Placed = Symbol × ℕ

-- the text from what comes next on: blanks at the beginning of a line, else what stands after blanks and a comment
abbrev pub text_from_next : Unread → List ℕ
text_from_next unread =
    if unread.at_line_start && begins_blank unread.text then unread.text
    else past_comment (past_blanks unread.text)

-- what comes next as a symbol where so many bytes are left, with what is after it; nothing is after a fault
abbrev pub symbol_of : ℕ → Next → Option (Placed × Unread)
symbol_of left ends = None
symbol_of left faulty = Some ((broken, left), record { text = []; at_line_start = false })
symbol_of left (token value rest) = Some ((symbol value, left), rest)

-- the first symbol of what is still to be read
abbrev pub next_symbol : Unread → Option (Placed × Unread)
next_symbol unread = symbol_of (length (text_from_next unread)) (next unread)

-- The tokens of what is still to be read, each with its place, and after them a fault where the lexer meets one. Each
-- token takes a byte at least, so as many steps as there are bytes suffice.
unfoldable pub symbols : Unread → List Placed
symbols unread = listing next_symbol (length unread.text) unread

-- the place of the first of these; where there is none, the end of the text
abbrev pub first_place : List Placed → ℕ
first_place [] = 0
first_place (first ∷ rest) = first.1

-- a text of which nothing is read yet
abbrev pub whole_text : List ℕ → Unread
whole_text text = record { text = text; at_line_start = true }
