-- What the lexer reads stood first among the tokens.
use Rattle.std.proofs.Common.{◌≡◌, ℕ, List, [], ◌∷◌, length, refl, ap, sym, ◌∙◌, Option, Some, None, Result, Ok, Err}
use Rattle.std.proofs.Common.{false}
use Rattle.base.specs.texts.Cuts.{AnswersNext, Faults, Stays}
use Rattle.base.specs.texts.TokenList.{Placed, Symbol, broken, first_place, followed, listing, symbol, symbol_of}
use Rattle.base.specs.texts.TokenList.{symbols, text_from_next}
use Rattle.base.specs.texts.Tokens.{Next, Unread, next, lent_value}
use Rattle.base.specs.declared.error.parse_error.ParseError.{ParseError}
use Rattle.base.specs.declared.error.parse_error.ParseError.TheVariants as refusals
use Rattle.base.specs.declared.text.token.TokenRef.{TokenRef}
use Rattle.base.proofs.Refusing.{Faults-through}
use Rattle.base.proofs.texts.TokenLemmas.{symbols_are}

after-fault : symbols (record { text = []; at_line_start = false }) ≡ []
unfolding symbols listing
after-fault = refl

first : (u : Unread) (found : Next) → next u ≡ found
    → symbols u ≡ followed symbols (symbol_of (length (text_from_next u)) found)
first u found is = symbols_are u ∙ ap (λ (n : Next). followed symbols (symbol_of (length (text_from_next u)) n)) is

-- what stands first, at its place
at_place : {from rest : List Placed} {found : Symbol} (left : ℕ) → from ≡ (found, left) ∷ rest
    → from ≡ (found, first_place from) ∷ rest
at_place {from} {rest} {found} left is = is ∙ ap (λ (place : ℕ). (found, place) ∷ rest) (sym (ap first_place is))

-- what the lexer read stood first, and what is read on after it
abbrev pub StoodFirst : Result (Option TokenRef) ParseError → List Placed → List Placed → Type 0
StoodFirst (Ok None) from to = (from ≡ []) × (to ≡ [])
StoodFirst (Ok (Some t)) from to = from ≡ (symbol (lent_value t), first_place from) ∷ to
StoodFirst (Err e) from to = Faults e (from ≡ (broken, first_place from) ∷ [])

pub stood_first : (read : Result (Option TokenRef) ParseError) (u v : Unread) → AnswersNext lent_value read v (next u)
    → Stays read u v → StoodFirst read (symbols u) (symbols v)
stood_first (Ok None) u v is stays = let none : symbols u ≡ [] = first u _ is in (none, ap symbols stays ∙ none)
stood_first (Ok (Some t)) u v is stays = at_place (length (text_from_next u)) (first u _ is)
stood_first (Err e) u v is stays = Faults-through e
    (λ f. at_place (length (text_from_next u))
    (first u _ f ∙ ap (λ (rest : List Placed). (broken, length (text_from_next u)) ∷ rest) after-fault)) is

-- a refusal that isn't for memory is the lexer's
pub is_fault : {fact : Type 0} (e : ParseError) → (e ≡ refusals.Memory → ⊥) → Faults e fact → fact
is_fault refusals.Memory no_memory is = absurd (no_memory refl)
is_fault refusals.Lexer no_memory is = is
is_fault other no_memory is = absurd is
