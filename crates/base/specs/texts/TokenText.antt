-- What the three shapes of a token look like: an item, a quoted text, and a list within parentheses (RFC 1035, 5.1).
use Rattle.std.specs.Prelude.{◌≡◌, ℕ, ◌<◌, ◌==◌, Bool, true, false, List, [], ◌∷◌, ◌++◌, length}
use Rattle.base.specs.texts.Tokens.{begins_with, ends_item, is_line_end, separates}

-- Bytes that nothing ends: a backslash keeps the byte after it, whichever it is, and no other byte is one that ends
-- them.
pub data Unended (ends : ℕ → Bool) : List ℕ → Type 0 where
  no_more : Unended ends []
  plain : (c : ℕ) (rest : List ℕ) → ends c ≡ false → (c == 92) ≡ false → Unended ends rest
      → Unended ends (c ∷ rest)
  escaped : (c : ℕ) (rest : List ℕ) → Unended ends rest → Unended ends (92 ∷ c ∷ rest)

-- an item: a blank, the end of a line, ; ( ) and " end it
abbrev pub IsItem : List ℕ → Type 0
IsItem = Unended ends_item

-- what stands between two ", which end it
abbrev pub IsQuoted : List ℕ → Type 0
IsQuoted = Unended (λ c. c == 34)

-- an item ends here: with the text, or before a byte that ends it
abbrev pub EndsItem : List ℕ → Type 0
EndsItem [] = Unit {0}
EndsItem (c ∷ text) = ends_item c ≡ true

-- the rest of a comment, with the end of its line
pub data CommentRest : List ℕ → Type 0 where
  line_ends : (c : ℕ) → is_line_end c ≡ true → CommentRest (c ∷ [])
  goes_on : (c : ℕ) (rest : List ℕ) → is_line_end c ≡ false → CommentRest rest
      → CommentRest (c ∷ rest)

-- what may stand between the items of a list: blanks, ends of lines, and comments, which begin with ;
pub data Gap : List ℕ → Type 0 where
  no_gap : Gap []
  separator : (c : ℕ) (rest : List ℕ) → separates c ≡ true → Gap rest → Gap (c ∷ rest)
  comment : (xs rest : List ℕ) → CommentRest xs → Gap rest → Gap (59 ∷ xs ++ rest)

-- The items of a list, from after its opening parenthesis to its closing one: none of them begins with $ or is empty,
-- save in quotes.
pub data IsList : List (List ℕ) → List ℕ → Type 0 where
  closed : (gap : List ℕ) → Gap gap → IsList [] (gap ++ 41 ∷ [])
  item_first : (gap word inner : List ℕ) (words : List (List ℕ)) → Gap gap → IsItem word
      → 0 < length word → begins_with 36 word ≡ false
      → EndsItem inner → IsList words inner → IsList (word ∷ words) (gap ++ word ++ inner)
  quoted_first : (gap word inner : List ℕ) (words : List (List ℕ)) → Gap gap → IsQuoted word
      → IsList words inner
      → IsList (word ∷ words) (gap ++ 34 ∷ word ++ 34 ∷ inner)
