-- Cutting off what a text begins with.
use Rattle.std.proofs.Common.{◌≡◌, ℕ, ◌+◌, ◌<◌, ◌≤◌, List, [], ◌∷◌, ◌++◌, length, take, drop, get_or, refl, ap, sym}
use Rattle.std.proofs.Common.{◌∙◌, arith, append_assoc, Option, Some, None, Bool, true, false}
use Rattle.std.specs.Prelude.{not, ◌&&◌, ◌==◌, ◌≢◌, slice_get}
use Rattle.std.proofs.lemmas.Bool.Decides.{nat_tests}
use Rattle.std.proofs.lemmas.List.{append-nil, drop_more, take_more}
use Rattle.base.specs.texts.Tokens.{before, ends_item, item, line_end, past_separators, quoted, separates}

before-before : (a b : List ℕ) (c : Option (List ℕ × List ℕ)) → before a (before b c) ≡ before (a ++ b) c
before-before a b None = refl
before-before a b (Some cut) = ap (λ (front : List ℕ). Some (front, cut.1)) (sym (append_assoc a b cut.0))

-- one byte more is cut off
cut_more : (cut cut' : List ℕ → Option (List ℕ × List ℕ)) (text : List ℕ) (i : ℕ) → i < length text
    → ((rest : List ℕ) → cut (get_or text i 0 ∷ rest) ≡ before (get_or text i 0 ∷ []) (cut' rest))
    → before (take (i + 1) text) (cut' (drop (i + 1) text)) ≡ before (take i text) (cut (drop i text))
cut_more cut cut' text i inside step =
    ap (λ (front : List ℕ). before front (cut' (drop (i + 1) text))) (take_more text i 0 inside)
    ∙ sym (before-before (take i text) (get_or text i 0 ∷ []) (cut' (drop (i + 1) text)))
    ∙ ap (before (take i text)) (sym (step (drop (i + 1) text)) ∙ ap cut (sym (drop_more text i 0 inside)))

item_step : (kept : Bool) (c : ℕ) (rest : List ℕ) → not kept && ends_item c ≡ false
    → item kept (c ∷ rest) ≡ before (c ∷ []) (item (not kept && c == 92) rest)
unfolding item
item_step kept c rest goes = rw goes refl

pub item_more : (text : List ℕ) (i : ℕ) (kept : Bool) → i < length text
    → not kept && ends_item (get_or text i 0) ≡ false
    → before (take i text) (item kept (drop i text)) ≡ item false text
    → before (take (i + 1) text) (item (not kept && get_or text i 0 == 92) (drop (i + 1) text)) ≡ item false text
item_more text i kept inside goes whole =
    cut_more (item kept) (item (not kept && get_or text i 0 == 92)) text i inside
    (λ rest. item_step kept (get_or text i 0) rest goes) ∙ whole

-- before a byte that ends it, the item is cut off
pub item_end : (text : List ℕ) (i : ℕ) → i < length text → ends_item (get_or text i 0) ≡ true
    → before (take i text) (item false (drop i text)) ≡ Some (take i text, drop i text)
unfolding item
item_end text i inside ends = rw (drop_more text i 0 inside, ends, append-nil) refl

quoted_step : (kept : Bool) (c : ℕ) (rest : List ℕ) → not kept && c == 34 ≡ false
    → quoted kept (c ∷ rest) ≡ before (c ∷ []) (quoted (not kept && c == 92) rest)
unfolding quoted
quoted_step kept c rest goes = rw goes refl

pub quoted_more : (text : List ℕ) (i : ℕ) (kept : Bool) → i < length text → not kept && get_or text i 0 == 34 ≡ false
    → before (take i text) (quoted kept (drop i text)) ≡ quoted false text
    → before (take (i + 1) text) (quoted (not kept && get_or text i 0 == 92) (drop (i + 1) text)) ≡ quoted false text
quoted_more text i kept inside goes whole =
    cut_more (quoted kept) (quoted (not kept && get_or text i 0 == 92)) text i inside
    (λ rest. quoted_step kept (get_or text i 0) rest goes) ∙ whole

comment_line : (text : List ℕ) → past_separators true text ≡ past_separators false (line_end text)
comment_line [] = refl
comment_line (c ∷ text) = grind (arith, nat_tests, comment_line text)

pub line_end_le : (text : List ℕ) → length (line_end text) ≤ length text
line_end_le [] = omega arith
line_end_le (c ∷ text) = grind (arith, nat_tests, line_end_le text)

-- the four ways on, by the first byte
pub separators_comment : (text : List ℕ) → slice_get text 0 ≡ Some 59
    → past_separators false (line_end text) ≡ past_separators false text
separators_comment [] h = absurd cc
separators_comment (c ∷ text) h =
    let is : c ≡ 59 = cc in
    rw is (sym (comment_line text))

pub comment_shorter : (text : List ℕ) → slice_get text 0 ≡ Some 59 → length (line_end text) < length text
comment_shorter [] h = absurd cc
comment_shorter (c ∷ text) h =
    let is : c ≡ 59 = cc in
    rw is (omega (arith, line_end_le text))

pub separators_here : (text : List ℕ) (c : ℕ) → slice_get text 0 ≡ Some c → c ≢ 59 → separates c ≡ false
    → text ≡ past_separators false text
separators_here [] c h other apart = absurd cc
separators_here (d ∷ text) c h other apart =
    let is : d ≡ c = cc in
    grind (arith, nat_tests)

pub separators_none : (text : List ℕ) → slice_get text 0 ≡ None → text ≡ past_separators false text
separators_none [] h = refl
separators_none (c ∷ text) h = absurd cc
