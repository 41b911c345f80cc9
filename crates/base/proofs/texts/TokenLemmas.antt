-- Each token leaves less of the text, so the tokens of a text are its first and then those of what is after it.
use Rattle.std.proofs.Common.{◌≡◌, ◌≢◌, ◌∙◌, ℕ, ◌<◌, ◌≤◌, List, [], ◌∷◌, length, refl, ap, sym, arith, Option, Some}
use Rattle.std.proofs.Common.{None, Bool, true, false}
use Rattle.std.proofs.lemmas.Bool.Decides.{nat_tests}
use Rattle.base.specs.texts.Tokens.{Unread, Next, ends, faulty, token, TokenValue, begins_blank, ends_item, is_blank}
use Rattle.base.specs.texts.Tokens.{is_line_end, item_token, line_end, next, next_item, next_list, next_quoted}
use Rattle.base.specs.texts.Tokens.{past_blanks, past_comment, past_line_end, token_or_fault, visible, within_line}
use Rattle.base.specs.texts.TokenList.{first_place, followed, next_symbol, symbol_of, symbols, text_from_next}
use Rattle.base.proofs.texts.Cutting.{line_end_le}
use Rattle.base.proofs.texts.ListingLemmas.{Shrinks, listing_is}
use Rattle.base.proofs.texts.ListItems.{IsWithin, list_within, quoted_within, item_less}

-- the text begins with no blank and no comment
abbrev IsBare : List ℕ → Type 0
IsBare [] = Unit {0}
IsBare (c ∷ text) = (is_blank c ≡ false) × (c ≢ 59)

abbrev IsUnblank : List ℕ → Type 0
IsUnblank [] = Unit {0}
IsUnblank (c ∷ text) = is_blank c ≡ false

blanks_past : (text : List ℕ) → IsUnblank (past_blanks text)
blanks_past [] = tt
blanks_past (c ∷ text) = grind (arith, nat_tests, blanks_past text)

blanks_le : (text : List ℕ) → length (past_blanks text) ≤ length text
blanks_le [] = omega arith
blanks_le (c ∷ text) = grind (arith, nat_tests, blanks_le text)

line_end_bare : (text : List ℕ) → IsBare (line_end text)
line_end_bare [] = tt
line_end_bare (c ∷ text) = go (is_line_end c) refl (line_end_bare text) where
  go : (b : Bool) → is_line_end c ≡ b → IsBare (line_end text) → IsBare (line_end (c ∷ text))
  go true is again = rw is (grind (arith, nat_tests), grind (arith, nat_tests))
  go false is again = rw is again

comment_bare : (text : List ℕ) → IsUnblank text → IsBare (past_comment text)
comment_bare [] is = tt
comment_bare (c ∷ text) is = grind (arith, nat_tests, line_end_bare text)

comment_le : (text : List ℕ) → length (past_comment text) ≤ length text
comment_le [] = omega arith
comment_le (c ∷ text) = grind (arith, nat_tests, line_end_le text)

-- what comes next leaves less than n bytes; where nothing does, of m bytes none are left
abbrev IsAfter : ℕ → ℕ → Next → Type 0
IsAfter m n ends = m ≡ 0
IsAfter m n faulty = 0 < n
IsAfter m n (token value rest) = length rest.text < n

token_after : (m n : ℕ) (word : Option TokenValue) (rest : List ℕ) → length rest < n
    → IsAfter m n (token_or_fault word (within_line rest))
token_after m n None rest less = omega arith
token_after m n (Some value) rest less = less

item_after : (k m n : ℕ) (cut : Option (List ℕ × List ℕ)) → k < n → IsWithin k cut → IsAfter m n (next_item cut)
item_after k m n None less is = omega arith
item_after k m n (Some cut) less is = token_after m n (item_token cut.0) cut.1 (omega arith)

quoted_after : (k m n : ℕ) (cut : Option (List ℕ × List ℕ)) → k < n → IsWithin k cut → IsAfter m n (next_quoted cut)
quoted_after k m n None less is = omega arith
quoted_after k m n (Some cut) less is = omega arith

list_after : (k m n : ℕ) (cut : Option (List (List ℕ) × List ℕ)) → k < n → IsWithin k cut → IsAfter m n (next_list cut)
list_after k m n None less is = omega arith
list_after k m n (Some cut) less is = omega arith

line_end_past : (c : ℕ) (text : List ℕ) → length (past_line_end c text) ≤ length text
line_end_past c [] = omega arith
line_end_past c (d ∷ text) = grind (arith, nat_tests)

visible_after : (text : List ℕ) (n : ℕ) → IsBare text → length text ≤ n → IsAfter (length text) n (visible text)
unfolding visible
visible_after [] n bare le = refl
visible_after (c ∷ text) n bare le =
    let k = length text in
    let m = length (c ∷ text) in
    grind (
      arith,
      nat_tests,
      line_end_past c text,
      quoted_after k m n _ (omega arith) (quoted_within false text k (omega arith)),
      list_after k m n _ (omega arith) (list_within k text k (omega arith)),
      λ (goes : ends_item c ≡ false). item_after k m n _ (omega arith) (item_less c text goes),
    )

blank_shorter : (text : List ℕ) → begins_blank text ≡ true → length (past_blanks text) < length text
blank_shorter [] is = absurd cc
blank_shorter (c ∷ text) is = rw is (omega (arith, blanks_le text))

next_after : (u : Unread) → IsAfter (length (text_from_next u)) (length u.text) (next u)
unfolding next
next_after u = grind (
  arith,
  nat_tests,
  λ (blank : begins_blank u.text ≡ true). blank_shorter u.text blank,
  visible_after (past_comment (past_blanks u.text)) (length u.text)
      (comment_bare (past_blanks u.text) (blanks_past u.text))
      (omega (arith, comment_le (past_blanks u.text), blanks_le u.text)),
)

pub symbols_shrink : Shrinks next_symbol (λ unread. length unread.text)
symbols_shrink unread found is = go (next unread) (next_after unread) is where
  go : (read : Next) → IsAfter (length (text_from_next unread)) (length unread.text) read
      → symbol_of (length (text_from_next unread)) read ≡ Some found → length found.1.text < length unread.text
  go ends less is = absurd cc
  go faulty less is = let same : record { text = []; at_line_start = false } ≡ found.1 = cc in rw (← same) less
  go (token value rest) less is = let same : rest ≡ found.1 = cc in rw (← same) less

pub symbols_are : (unread : Unread) → symbols unread ≡ followed symbols (next_symbol unread)
unfolding symbols
symbols_are unread = listing_is next_symbol (λ u. length u.text) symbols_shrink unread

pub first_place_is : (u : Unread) → first_place (symbols u) ≡ length (text_from_next u)
first_place_is u = ap first_place (symbols_are u) ∙ go (next u) refl where
  go : (found : Next) → next u ≡ found → first_place (followed symbols (symbol_of (length (text_from_next u)) found))
      ≡ length (text_from_next u)
  go ends is = sym (rw is at (next_after u))
  go faulty is = refl
  go (token value rest) is = refl
