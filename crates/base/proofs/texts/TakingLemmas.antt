-- The token that a text begins with, and which tokens take memory.
use Rattle.std.proofs.Common.{◌≡◌, ℕ, refl, sym, ◌∙◌, ap, ◌≢◌, List, [], ◌∷◌, get_or, length, Option, Some, None, false}
use Rattle.std.proofs.Common.{arith}
use Rattle.std.specs.Prelude.{◌&&◌, slice_get}
use Rattle.base.specs.texts.Cuts.{TakesNone}
use Rattle.base.specs.texts.Tokens.{Unread, begins_blank, is_line_end, item, list_items, next, next_item, next_list}
use Rattle.base.specs.texts.Tokens.{next_quoted, past_blanks, past_comment, quoted, visible}
use Rattle.std.proofs.lemmas.Bool.Decides.{nat_tests}

quoted_takes : (cut : Option (List ℕ × List ℕ)) → TakesNone (next_quoted cut) → ⊥
quoted_takes None never = never
quoted_takes (Some cut) never = never

list_takes : (cut : Option (List (List ℕ) × List ℕ)) → TakesNone (next_list cut) → ⊥
list_takes None never = never
list_takes (Some cut) never = never

item_takes : (cut : Option (List ℕ × List ℕ)) → TakesNone (next_item cut) → ⊥
item_takes None never = never
item_takes (Some cut) never = grind (arith, nat_tests)

-- what begins with a byte that is no line's end
pub visible_takes : (text : List ℕ) (first : ℕ) → slice_get text 0 ≡ Some first → is_line_end first ≡ false
    → TakesNone (visible text) → ⊥
unfolding visible
visible_takes [] first is goes never = absurd (cc is)
visible_takes (c ∷ text) first is goes never =
    let same : c ≡ first = cc is in
    grind (
      arith,
      nat_tests,
      quoted_takes (quoted false text),
      list_takes (list_items (length text) text),
      item_takes (item false (c ∷ text)),
    )

-- the token that a text begins with, by its first byte
pub visible_quoted : (text rest : List ℕ) (first : ℕ) → slice_get text 0 ≡ Some first → first ≡ 34
    → text ≡ get_or text 0 0 ∷ rest → visible text ≡ next_quoted (quoted false rest)
unfolding visible
visible_quoted [] rest first is quote at = absurd cc
visible_quoted (c ∷ text) rest first is quote at = let same : c ≡ 34 = cc quote in let tail : text ≡ rest = cc at in
    rw (same, tail) refl

pub visible_list : (text rest : List ℕ) (first : ℕ) → slice_get text 0 ≡ Some first → first ≡ 40
    → text ≡ get_or text 0 0 ∷ rest → visible text ≡ next_list (list_items (length rest) rest)
unfolding visible
visible_list [] rest first is opens at = absurd cc
visible_list (c ∷ text) rest first is opens at = let same : c ≡ 40 = cc opens in let tail : text ≡ rest = cc at in
    rw (same, tail) refl

pub visible_item : (text : List ℕ) (first : ℕ) → slice_get text 0 ≡ Some first → is_line_end first ≡ false → first ≢ 34
    → first ≢ 40 → first ≢ 41 → visible text ≡ next_item (item false text)
unfolding visible
visible_item [] first is goes quotes opens closes = absurd (cc is)
visible_item (c ∷ text) first is goes quotes opens closes =
    let same : c ≡ first = cc is in
    grind (arith, nat_tests)

-- what comes next where no blanks of a line's beginning do
pub next_visible : (unread : Unread) (rest text : List ℕ) → (unread.at_line_start && begins_blank
    unread.text) ≡ false → rest ≡ past_blanks unread.text → text ≡ past_comment rest → next unread ≡
    visible text
unfolding next
next_visible unread rest text off skipped at = rw off (ap visible (ap past_comment (sym skipped) ∙ sym at))
