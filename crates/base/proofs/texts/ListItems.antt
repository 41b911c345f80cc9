-- The items within parentheses.
use Rattle.std.proofs.Common.{◌≡◌, ◌≢◌, ℕ, zero, suc, ◌-◌, ◌<◌, ◌≤◌, List, [], ◌∷◌, ◌++◌, length, refl, ap, sym, ◌∙◌}
use Rattle.std.proofs.Common.{arith, append_assoc, Option, Some, None, Bool, true, false}
use Rattle.std.specs.Prelude.{not, ◌&&◌, ◌==◌}
use Rattle.std.proofs.lemmas.Bool.Decides.{nat_tests}
use Rattle.std.proofs.lemmas.List.{append-nil}
use Rattle.base.specs.texts.Tokens.{Element, closes, misplaced, one, before, element, element_of, ends_item, item}
use Rattle.base.specs.texts.Tokens.{list_items, listed, past_separators, with_item, quoted, separates}

-- what is after a cut is no longer than this
abbrev pub IsWithin : {A : Type 0} → ℕ → Option (A × List ℕ) → Type 0
IsWithin n None = Unit {0}
IsWithin n (Some cut) = length cut.1 ≤ n

within-before : (c n : ℕ) (cut : Option (List ℕ × List ℕ)) → IsWithin n cut → IsWithin n (before (c ∷ []) cut)
within-before c n None is = tt
within-before c n (Some cut) is = is

item_within : (kept : Bool) (text : List ℕ) (n : ℕ) → length text ≤ n → IsWithin n (item kept text)
unfolding item
item_within true [] n le = tt
item_within false [] n le = le
item_within kept (c ∷ text) n le =
    grind (arith, nat_tests, within-before c n _ (item_within (not kept && c == 92) text n (omega arith)))

pub quoted_within : (kept : Bool) (text : List ℕ) (n : ℕ) → length text ≤ n → IsWithin n (quoted kept text)
unfolding quoted
quoted_within kept [] n le = tt
quoted_within kept (c ∷ text) n le =
    grind (arith, nat_tests, within-before c n _ (quoted_within (not kept && c == 92) text n (omega arith)))

pub item_less : (c : ℕ) (text : List ℕ) → ends_item c ≡ false → IsWithin (length text) (item false (c ∷ text))
unfolding item
item_less c text is = rw is (within-before c (length text) _ (item_within (c == 92) text (length text) (omega arith)))

-- the text begins with nothing that separates
abbrev pub IsVisible : List ℕ → Type 0
IsVisible [] = Unit {0}
IsVisible (c ∷ text) = (separates c ≡ false) × (c ≢ 59)

pub separated_is_visible : (in_comment : Bool) (text : List ℕ) → IsVisible (past_separators in_comment text)
separated_is_visible true [] = tt
separated_is_visible false [] = tt
separated_is_visible true (c ∷ text) =
    grind (arith, nat_tests, separated_is_visible false text, separated_is_visible true text)
separated_is_visible false (c ∷ text) =
    grind (arith, nat_tests, separated_is_visible false text, separated_is_visible true text)

separated_le : (in_comment : Bool) (text : List ℕ) → length (past_separators in_comment text) ≤ length text
separated_le true [] = omega arith
separated_le false [] = omega arith
separated_le true (c ∷ text) = grind (arith, nat_tests, separated_le false text, separated_le true text)
separated_le false (c ∷ text) = grind (arith, nat_tests, separated_le false text, separated_le true text)

-- an element leaves less
abbrev IsShorter : ℕ → Element → Type 0
IsShorter n (closes rest) = length rest < n
IsShorter n misplaced = Unit {0}
IsShorter n (one word rest) = length rest < n

shorter-cut : (m n : ℕ) (cut : Option (List ℕ × List ℕ)) → m < n → IsWithin m cut → IsShorter n (element_of cut)
shorter-cut m n None less is = tt
shorter-cut m n (Some cut) less is = omega arith

element_shorter : (text : List ℕ) (n : ℕ) → IsVisible text → length text ≤ n → IsShorter n (element text)
unfolding element
element_shorter [] n visible le = tt
element_shorter (c ∷ text) n visible le = grind (
  arith,
  nat_tests,
  shorter-cut (length text) n _ (omega arith) (quoted_within false text (length text) (omega arith)),
  λ (goes : ends_item c ≡ false). shorter-cut (length text) n _ (omega arith) (item_less c text goes),
)

first_shorter : (text : List ℕ) → IsShorter (length text) (element (past_separators false text))
first_shorter text = element_shorter _ _ (separated_is_visible false text) (separated_le false text)

pub next_shorter : (text : List ℕ) (word rest : List ℕ) → element (past_separators false text) ≡ one word rest
    → length rest < length text
next_shorter text word rest is = rw is at (first_shorter text)

abbrev puts : List (List ℕ) → Option (List (List ℕ) × List ℕ) → Option (List (List ℕ) × List ℕ)
puts front None = None
puts front (Some cut) = Some (front ++ cut.0, cut.1)

puts-put : (front : List (List ℕ)) (word : List ℕ) (cut : Option (List (List ℕ) × List ℕ))
    → puts front (with_item word cut) ≡ puts (front ++ word ∷ []) cut
puts-put front word None = refl
puts-put front word (Some cut) = ap (λ (words : List (List ℕ)). Some (words, cut.1))
    (sym (append_assoc front (word ∷ []) cut.0))

-- These items are read already; before the rest, they are all.
pub record Listing (text rest : List ℕ) (items : List (List ℕ)) : Type 0 where
  pub steps : ℕ
  pub enough : length rest ≤ steps
  pub whole : puts items (list_items steps rest) ≡ list_items (length text) text

listed_on : (steps : ℕ) (text : List ℕ) (found : Element) → length text ≤ steps
    → element (past_separators false text) ≡ found → list_items steps text ≡ listed (list_items (steps - 1)) found
unfolding list_items element
listed_on zero [] found enough is = ap (listed (list_items 0)) is
listed_on zero (c ∷ text) found enough is = absurd (omega arith)
listed_on (suc steps) text found enough is =
    let less : suc steps - 1 ≡ steps = omega arith in
    rw less (ap (listed (list_items steps)) is)

pub listing_more : {text rest : List ℕ} {items : List (List ℕ)} (word after : List ℕ) → Listing text rest items
    → element (past_separators false rest) ≡ one word after → Listing text after (items ++ word ∷ [])
listing_more {text} {rest} {items} word after l is = record {
  steps = l.steps - 1;
  enough = omega (arith, l.enough, next_shorter rest word after is);
  whole = sym (puts-put items word (list_items (l.steps - 1) after))
      ∙ ap (puts items) (sym (listed_on l.steps rest (one word after) l.enough is)) ∙ l.whole;
}

pub listing_ends : {text rest : List ℕ} {items : List (List ℕ)} (after : List ℕ) → Listing text rest items
    → element (past_separators false rest) ≡ closes after → list_items (length text) text ≡ Some (items, after)
listing_ends {text} {rest} {items} after l is =
    sym l.whole ∙ ap (puts items) (listed_on l.steps rest (closes after) l.enough is)
    ∙ ap (λ (words : List (List ℕ)). Some (words, after)) (append-nil items)

pub listing_fails : {text rest : List ℕ} {items : List (List ℕ)} → Listing text rest items
    → element (past_separators false rest) ≡ misplaced → list_items (length text) text ≡ None
listing_fails {text} {rest} {items} l is =
    sym l.whole ∙ ap (puts items) (listed_on l.steps rest misplaced l.enough is)

put-within : (n : ℕ) (word : List ℕ) (cut : Option (List (List ℕ) × List ℕ)) → IsWithin n cut
    → IsWithin n (with_item word cut)
put-within n word None is = tt
put-within n word (Some cut) is = is

pub list_within : (steps : ℕ) (text : List ℕ) (n : ℕ) → length text ≤ n → IsWithin n (list_items steps text)
unfolding list_items
list_within zero text n le = tt
list_within (suc steps) text n le =
    go (element (past_separators false text)) (first_shorter text) (list_within steps) where
      go : (found : Element) → IsShorter (length text) found
          → ((rest : List ℕ) (n : ℕ) → length rest ≤ n → IsWithin n (list_items steps rest))
          → IsWithin n (listed (list_items steps) found)
      go (closes rest) less each = omega arith
      go misplaced less each = tt
      go (one word rest) less each = put-within n word (list_items steps rest) (each rest n (omega arith))
