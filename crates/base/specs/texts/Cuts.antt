-- How the lexer answers, by what its text holds.
use Rattle.std.specs.Borrow.{Bor}
use Rattle.std.specs.Prelude.{◌≡◌, ℕ, List, Option, Some, None, Result, Ok, Err}
use Rattle.base.specs.declared.error.parse_error.ParseError.{ParseError}
use Rattle.base.specs.declared.error.parse_error.ParseError.TheVariants as refusals
use Rattle.base.specs.declared.text.token.TokenRef.{TokenRef}
use Rattle.base.specs.texts.Tokens.{Element, Next, TokenValue, Unread, blank, closes, ends, eol, faulty, item_token}
use Rattle.base.specs.texts.Tokens.{lent_value, misplaced, one, token, within_line}

-- A refusal is that memory ran out, which may happen at any time, or the lexer's, and then this holds.
abbrev pub Faults : ParseError → Type 0 → Type 0
Faults refusals.Memory fact = Unit {0}
Faults refusals.Lexer fact = fact
Faults e fact = ⊥

-- What was answered is the end, the token with what is after it, or the fault. Memory may run out at any time.
abbrev pub AnswersNext : {T : Type 0} → (T → TokenValue) → Result (Option T) ParseError → Unread → Next → Type 0
AnswersNext value (Ok None) after read = read ≡ ends
AnswersNext value (Ok (Some t)) after read = read ≡ token (value t) after
AnswersNext value (Err e) after read = Faults e (read ≡ faulty)

-- No memory is taken to cut this off: the end of the text, blanks at the beginning of a line, the end of a line.
abbrev pub TakesNone : Next → Type 0
TakesNone ends = Unit {0}
TakesNone (token blank rest) = Unit {0}
TakesNone (token eol rest) = Unit {0}
TakesNone _ = ⊥

-- What was cut off is this, or nothing can be.
abbrev pub CutsOff : {A B : Type 0} → (A → B) → Result A ParseError → Option B → Type 0
CutsOff view (Ok a) cut = cut ≡ Some (view a)
CutsOff view (Err e) cut = Faults e (cut ≡ None)

-- What stood next within parentheses.
abbrev pub AnswersElement : Result (Option (Bor (List ℕ)) × Bor (List ℕ)) ParseError → Element → Type 0
AnswersElement (Ok (None, rest)) found = found ≡ closes rest.now
AnswersElement (Ok (Some word, rest)) found = found ≡ one word.now rest.now
AnswersElement (Err e) found = Faults e (found ≡ misplaced)

-- What was answered is the token that an item is, or the item is none.
abbrev pub AnswersItem : Result TokenRef ParseError → List ℕ → Type 0
AnswersItem (Ok t) word = item_token word ≡ Some (lent_value t)
AnswersItem (Err e) word = Faults e (item_token word ≡ None)

-- A token that was cut off within a line, and what is after it.
abbrev pub AnswersToken : Result (TokenRef × Bor (List ℕ)) ParseError → Next → Type 0
AnswersToken (Ok (t, rest)) read = read ≡ token (lent_value t) (within_line rest.now)
AnswersToken (Err e) read = Faults e (read ≡ faulty)

-- At the end of a text, and where it is refused, the lexer stays where it is.
abbrev pub Stays : {T : Type 0} → Result (Option T) ParseError → Unread → Unread → Type 0
Stays (Ok (Some t)) from to = Unit {0}
Stays (Ok None) from to = to ≡ from
Stays (Err e) from to = to ≡ from
