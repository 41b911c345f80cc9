-- The three shapes of a token are what cutting a text gives.
use Rattle.std.proofs.Common.{◌≡◌, ℕ, zero, suc, ◌<◌, List, [], ◌∷◌, ◌++◌, length, refl, ap, sym, ◌∙◌, subst, arith}
use Rattle.std.proofs.Common.{append_assoc, length-append, Option, Some, None, Bool, true, false}
use Rattle.std.specs.Prelude.{◌||◌, ◌==◌, ◌↔◌}
use Rattle.std.proofs.lemmas.Bool.{eqb-true}
use Rattle.std.proofs.lemmas.Bool.Decides.{nat_tests}
use Rattle.base.specs.texts.Tokens.{one, before, begins_with, element, element_of, ends_item, is_line_end, item}
use Rattle.base.specs.texts.Tokens.{list_items, listed, past_separators, with_item, quoted, separates}
use Rattle.base.specs.texts.TokenText.{CommentRest, EndsItem, Gap, IsItem, IsList, IsQuoted, Unended, closed, comment}
use Rattle.base.specs.texts.TokenText.{goes_on, item_first, line_ends, no_gap, no_more, plain, quoted_first, separator}
use Rattle.base.specs.texts.TokenText.{escaped}
use Rattle.base.proofs.texts.ListItems.{IsVisible, separated_is_visible}
use Rattle.base.proofs.texts.CharLemmas.{same_first}

-- an item, or a quoted text, that was cut off
abbrev Cut : Type 0
Cut = Option (List ℕ × List ℕ)

before_some : (c : ℕ) (cut : Cut) (word rest : List ℕ) → before (c ∷ []) cut ≡ Some (word, rest)
    → (w : List ℕ) × (word ≡ c ∷ w) × (cut ≡ Some (w, rest))
before_some c None word rest is = absurd (cc is)
before_some c (Some (w, after)) word rest is =
    let same = same_first is in
    (w, sym same.0, rw same.1 refl)

-- what stands before an end, where the first byte may be kept by a backslash before it
abbrev Shape : (ℕ → Bool) → Bool → List ℕ → Type 0
Shape ends false word = Unended ends word
Shape ends true [] = ⊥
Shape ends true (c ∷ word) = Unended ends word

one_before : (ends : ℕ → Bool) (c : ℕ) (word : List ℕ) → ends c ≡ false → Shape ends (c == 92) word
    → Unended ends (c ∷ word)
one_before ends c word goes shape = go (c == 92) refl word shape where
  go : (b : Bool) → (c == 92) ≡ b → (word : List ℕ) → Shape ends b word → Unended ends (c ∷ word)
  go false plainly word shape = plain c word goes plainly shape
  go true keeps [] shape = absurd shape
  go true keeps (d ∷ word) shape = rw (eqb-true c 92 keeps) (escaped d word shape)

-- ---- items
item_there : (kept : Bool) (text word rest : List ℕ) → item kept text ≡ Some (word, rest)
    → (text ≡ word ++ rest) × Shape ends_item kept word × EndsItem rest
unfolding item
item_there true [] word rest is = absurd (cc is)
item_there false [] word rest is =
    let same = same_first is in
    rw (← same.0, ← same.1) (refl, no_more, tt)
item_there true (c ∷ text) word rest is =
    let cut = before_some c (item false text) word rest is in
    let found = item_there false text cut.0 rest cut.2 in
    rw cut.1 (ap (λ (t : List ℕ). c ∷ t) found.0, found.1, found.2)
item_there false (c ∷ text) word rest is = go (ends_item c) refl (item_there (c == 92) text) where
  go : (b : Bool) → ends_item c ≡ b
      → ((w r : List ℕ) → item (c == 92) text ≡ Some (w, r)
      → (text ≡ w ++ r) × Shape ends_item (c == 92) w × EndsItem r)
      → (c ∷ text ≡ word ++ rest) × IsItem word × EndsItem rest
  go true ends again =
      let same = same_first (rw ends at is) in
      rw (← same.0, ← same.1) (refl, no_more, ends)
  go false goes again =
      let cut = before_some c (item (c == 92) text) word rest (rw goes at is) in
      let found = again cut.0 rest cut.2 in
      rw cut.1 (ap (λ (t : List ℕ). c ∷ t) found.0, one_before ends_item c cut.0 goes found.1, found.2)

item_back : {word : List ℕ} (rest : List ℕ) → IsItem word → EndsItem rest
    → item false (word ++ rest) ≡ Some (word, rest)
unfolding item
item_back [] no_more ends = refl
item_back (c ∷ rest) no_more ends = rw ends refl
item_back rest (plain c w goes plainly others) ends =
    rw (goes, plainly) (ap (before (c ∷ [])) (item_back rest others ends))
item_back rest (escaped c w others) ends =
    ap (λ (cut : Cut). before (92 ∷ []) (before (c ∷ []) cut)) (item_back rest others ends)

pub item_shape : (text word rest : List ℕ)
    → (item false text ≡ Some (word, rest)) ↔ ((text ≡ word ++ rest) × IsItem word × EndsItem rest)
item_shape text word rest = (item_there false text word rest, λ found. rw found.0 (item_back rest found.1 found.2))

-- ---- quoted texts
quoted_there : (kept : Bool) (text word rest : List ℕ) → quoted kept text ≡ Some (word, rest)
    → (text ≡ word ++ 34 ∷ rest) × Shape (λ c. c == 34) kept word
unfolding quoted
quoted_there kept [] word rest is = absurd (cc is)
quoted_there true (c ∷ text) word rest is =
    let cut = before_some c (quoted false text) word rest is in
    let found = quoted_there false text cut.0 rest cut.2 in
    rw cut.1 (ap (λ (t : List ℕ). c ∷ t) found.0, found.1)
quoted_there false (c ∷ text) word rest is = go (c == 34) refl (quoted_there (c == 92) text) where
  go : (b : Bool) → (c == 34) ≡ b
      → ((w r : List ℕ) → quoted (c == 92) text ≡ Some (w, r)
      → (text ≡ w ++ 34 ∷ r) × Shape (λ c. c == 34) (c == 92) w)
      → (c ∷ text ≡ word ++ 34 ∷ rest) × IsQuoted word
  go true quote again =
      let same = same_first (rw quote at is) in
      rw (← same.0, ← same.1) (ap (λ (b : ℕ). b ∷ text) (eqb-true c 34 quote), no_more)
  go false goes again =
      let cut = before_some c (quoted (c == 92) text) word rest (rw goes at is) in
      let found = again cut.0 rest cut.2 in
      rw cut.1 (ap (λ (t : List ℕ). c ∷ t) found.0, one_before (λ c. c == 34) c cut.0 goes found.1)

quoted_back : {word : List ℕ} (rest : List ℕ) → IsQuoted word → quoted false (word ++ 34 ∷ rest) ≡ Some (word, rest)
unfolding quoted
quoted_back rest no_more = refl
quoted_back rest (plain c w goes plainly others) = rw (goes, plainly) (ap (before (c ∷ [])) (quoted_back rest others))
quoted_back rest (escaped c w others) = ap (λ (cut : Cut). before (92 ∷ []) (before (c ∷ []) cut))
    (quoted_back rest others)

pub quoted_shape : (text word rest : List ℕ)
    → (quoted false text ≡ Some (word, rest)) ↔ ((text ≡ word ++ 34 ∷ rest) × IsQuoted word)
quoted_shape text word rest = (quoted_there false text word rest, λ found. rw found.0 (quoted_back rest found.1))

-- ---- gaps within parentheses

-- a gap, or the rest of a comment and a gap, up to what comes next
abbrev GapTo : Bool → List ℕ → List ℕ → Type 0
GapTo false text next = (gap : List ℕ) × Gap gap × (text ≡ gap ++ next)
GapTo true text next = (xs : List ℕ) × (gap : List ℕ) × CommentRest xs × Gap gap × (text ≡ xs ++ gap ++ next)

gap_there : (in_comment : Bool) (text : List ℕ) (c : ℕ) (more : List ℕ) → past_separators in_comment text ≡ c ∷ more
    → GapTo in_comment text (c ∷ more)
gap_there true [] c more is = absurd (cc is)
gap_there false [] c more is = absurd (cc is)
gap_there true (d ∷ text) c more is = go (is_line_end d) refl (gap_there false text c more)
    (gap_there true text c more) where
      go : (b : Bool) → is_line_end d ≡ b → (past_separators false text ≡ c ∷ more → GapTo false text (c ∷ more))
          → (past_separators true text ≡ c ∷ more → GapTo true text (c ∷ more)) → GapTo true (d ∷ text) (c ∷ more)
      go true ends out within =
          let g = out (rw ends at is) in
          (d ∷ [], g.0, line_ends d ends, g.1, ap (λ (t : List ℕ). d ∷ t) g.2)
      go false goes out within =
          let g = within (rw goes at is) in
          (d ∷ g.0, g.1, goes_on d g.0 goes g.2, g.3, ap (λ (t : List ℕ). d ∷ t) g.4)
gap_there false (d ∷ text) c more is = go (d == 59) refl (separates d) refl (gap_there false text c more)
    (gap_there true text c more) where
      go : (b : Bool) → (d == 59) ≡ b → (k : Bool) → separates d ≡ k
          → (past_separators false text ≡ c ∷ more → GapTo false text (c ∷ more))
          → (past_separators true text ≡ c ∷ more → GapTo true text (c ∷ more)) → GapTo false (d ∷ text) (c ∷ more)
      go true begins k apart out within =
          let g = within (rw begins at is) in
          rw (eqb-true d 59 begins) (59 ∷ g.0 ++ g.1, comment g.0 g.1 g.2 g.3, ap (λ (t : List ℕ). 59 ∷ t) g.4)
      go false none true apart out within =
          let g = out (rw (none, apart) at is) in
          (d ∷ g.0, separator d g.0 apart g.1, ap (λ (t : List ℕ). d ∷ t) g.2)
      go false none false apart out within = ([], no_gap, rw (none, apart) at is)

past_comment_rest : {xs : List ℕ} (rest : List ℕ) → CommentRest xs
    → past_separators true (xs ++ rest) ≡ past_separators false rest
past_comment_rest rest (line_ends c ends) = rw (ends, past_separators) refl
past_comment_rest rest (goes_on c xs goes others) = rw (goes, past_separators) (past_comment_rest rest others)

past_gap : {gap : List ℕ} (rest : List ℕ) → Gap gap → past_separators false (gap ++ rest) ≡ past_separators false rest
past_gap rest no_gap = refl
past_gap rest (separator c gap apart others) =
    let none : (c == 59) ≡ false = grind (arith, nat_tests, apart) in
    rw (none, apart) (past_gap rest others)
past_gap rest (comment xs gap goes others) =
    ap (past_separators true) (append_assoc xs gap rest) ∙ past_comment_rest (gap ++ rest) goes ∙ past_gap rest others

-- ---- lists

-- the items up to the closing parenthesis, and the text after it
abbrev ListOf : List ℕ → List (List ℕ) → List ℕ → Type 0
ListOf text words rest = (inner : List ℕ) × (text ≡ inner ++ rest) × IsList words inner

put_some : (word : List ℕ) (cut : Option (List (List ℕ) × List ℕ)) (words : List (List ℕ)) (rest : List ℕ)
    → with_item word cut ≡ Some (words, rest)
    → (others : List (List ℕ)) × (words ≡ word ∷ others) × (cut ≡ Some (others, rest))
put_some word None words rest is = absurd (cc is)
put_some word (Some (others, after)) words rest is =
    let same = same_first is in
    (others, sym same.0, rw same.1 refl)

list_some : {words : List (List ℕ)} {inner : List ℕ} → IsList words inner → length words < length inner
list_some (closed gap apart) = omega (arith, length-append gap (41 ∷ []))
list_some (item_first gap word inner words apart shape some dollar ends others) =
    omega (arith, some, list_some others, length-append gap word, length-append (gap ++ word) inner)
list_some (quoted_first gap word inner words apart shape others) =
    omega (arith, list_some others, length-append gap (34 ∷ word), length-append (gap ++ 34 ∷ word) (34 ∷ inner))

ends_same : (inner rest : List ℕ) → 0 < length inner → EndsItem (inner ++ rest) ↔ EndsItem inner
ends_same [] rest some = absurd (omega (arith, some))
ends_same (c ∷ inner) rest some = (λ ends. ends, λ ends. ends)

list_there : (steps : ℕ) (text : List ℕ) (words : List (List ℕ)) (rest : List ℕ)
    → list_items steps text ≡ Some (words, rest) → ListOf text words rest
unfolding list_items element item
list_there zero text words rest is = absurd (cc is)
list_there (suc steps) text words rest is = first (past_separators false text) refl is (list_there steps) where
  first : (next : List ℕ) → past_separators false text ≡ next
      → listed (list_items steps) (element next) ≡ Some (words, rest)
      → ((t : List ℕ) (ws : List (List ℕ)) (r : List ℕ) → list_items steps t ≡ Some (ws, r) → ListOf t ws r)
      → ListOf text words rest
  first [] at found again = absurd (cc found)
  first (c ∷ more) at found again = by (gap_there false text c more at)
      (rw at at (separated_is_visible false text)) where
        by : GapTo false text (c ∷ more) → IsVisible (c ∷ more) → ListOf text words rest
        by (gap, apart, whole) (visible, other) = go (c == 41) (c == 40 || c == 36) (c == 34) refl refl refl where
          after_quoted : (cut : Cut) → quoted false more ≡ cut → c ≡ 34
              → listed (list_items steps) (element_of cut) ≡ Some (words, rest) → ListOf text words rest
          after_quoted None cut quote on = absurd (cc on)
          after_quoted (Some (word, after)) cut quote on =
              let put = put_some word (list_items steps after) words rest on in
              let found = quoted_there false more word after cut in
              let others = again after put.0 rest put.2 in
              rw put.1 (
                gap ++ 34 ∷ word ++ 34 ∷ others.0,
                whole ∙ ap (λ (t : List ℕ). gap ++ c ∷ t) (found.0 ∙ ap (λ (t : List ℕ). word ++ 34 ∷ t) others.1)
                    ∙ rw quote (simp append_assoc),
                quoted_first gap word others.0 put.0 apart found.1 others.2,
              )

          after_item : (cut : Cut) → item (c == 92) more ≡ cut → ends_item c ≡ false → (c == 36) ≡ false
              → listed (list_items steps) (element_of (before (c ∷ []) cut)) ≡ Some (words, rest)
              → ListOf text words rest
          after_item None cut goes dollar on = absurd (cc on)
          after_item (Some (w, after)) cut goes dollar on =
              let put = put_some (c ∷ w) (list_items steps after) words rest on in
              let found = item_there (c == 92) more w after cut in
              let others = again after put.0 rest put.2 in
              let ends = (ends_same others.0 rest (omega (arith, list_some others.2))).0
              (subst EndsItem others.1 found.2) in
              rw put.1 (
                gap ++ (c ∷ w) ++ others.0,
                whole ∙ ap (λ (t : List ℕ). gap ++ c ∷ t) (found.0 ∙ ap (λ (t : List ℕ). w ++ t) others.1)
                    ∙ simp append_assoc,
                item_first gap (c ∷ w) others.0 put.0 apart (one_before ends_item c w goes found.1)
                    (omega arith) dollar ends others.2,
              )

          go : (closing wrong quote : Bool) → (c == 41) ≡ closing → (c == 40 || c == 36) ≡ wrong → (c == 34) ≡ quote
              → ListOf text words rest
          go true wrong quote is opens quotes =
              let same = same_first (rw is at found) in
              let all = whole ∙ rw (eqb-true c 41 is) (simp append_assoc) in
              rw (← same.0, ← same.1) (gap ++ 41 ∷ [], all, closed gap apart)
          go false true quote is opens quotes = absurd (cc (rw (is, opens) at found))
          go false false true is opens quotes =
              after_quoted (quoted false more) refl (eqb-true c 34 quotes) (rw (is, opens, quotes) at found)
          go false false false is opens quotes =
              let goes : ends_item c ≡ false = grind (arith, nat_tests, visible, other, is, opens, quotes) in
              after_item (item (c == 92) more) refl goes (grind (arith, nat_tests, opens))
              (rw (goes, is, opens, quotes) at found)

element_item : (c : ℕ) (rest : List ℕ) → ends_item c ≡ false → (c == 36) ≡ false
    → element (past_separators false (c ∷ rest)) ≡ element_of (item false (c ∷ rest))
unfolding element
element_item c rest goes dollar =
    let none : (c == 59) ≡ false = grind (arith, nat_tests, goes) in
    let apart : separates c ≡ false = grind (arith, nat_tests, goes) in
    let closing : (c == 41) ≡ false = grind (arith, nat_tests, goes) in
    let opens : (c == 40 || c == 36) ≡ false = grind (arith, nat_tests, goes, dollar) in
    let quote : (c == 34) ≡ false = grind (arith, nat_tests, goes) in
    rw (none, apart, closing, opens, quote) refl

first_item : {word : List ℕ} (rest : List ℕ) → IsItem word → 0 < length word → begins_with 36 word ≡ false
    → EndsItem rest → element (past_separators false (word ++ rest)) ≡ one word rest
first_item rest no_more some dollar ends = absurd (omega (arith, some))
first_item rest (plain c word goes plainly others) some dollar ends =
    element_item c (word ++ rest) goes dollar
    ∙ ap element_of (item_back rest (plain c word goes plainly others) ends)
first_item rest (escaped c word others) some dollar ends =
    element_item 92 (c ∷ word ++ rest) refl refl ∙ ap element_of (item_back rest (escaped c word others) ends)

-- after a gap
listed_after : (steps : ℕ) (gap next : List ℕ) → Gap gap
    → list_items (suc steps) (gap ++ next) ≡ listed (list_items steps) (element (past_separators false next))
unfolding list_items
listed_after steps gap next apart =
    ap (λ (t : List ℕ). listed (list_items steps) (element t)) (past_gap next apart)

list_back : {words : List (List ℕ)} {inner : List ℕ} (steps : ℕ) (rest : List ℕ) → length words < steps
    → IsList words inner → list_items steps (inner ++ rest) ≡ Some (words, rest)
unfolding element
list_back zero rest enough list = absurd (omega (arith, enough))
list_back (suc steps) rest enough (closed gap apart) = simp append_assoc (listed_after steps gap (41 ∷ rest) apart)
list_back (suc steps) rest enough (item_first gap word inner words apart shape some dollar ends others) =
    let tail = inner ++ rest in
    simp append_assoc (listed_after steps gap (word ++ tail) apart
    ∙ ap (listed (list_items steps))
    (first_item tail shape some dollar ((ends_same inner rest (omega (arith, list_some others))).1 ends))
    ∙ ap (with_item word) (list_back steps rest (omega (arith, enough)) others))
list_back (suc steps) rest enough (quoted_first gap word inner words apart shape others) =
    let tail = inner ++ rest in
    simp append_assoc (listed_after steps gap (34 ∷ word ++ 34 ∷ tail) apart
    ∙ ap (λ (cut : Cut). listed (list_items steps) (element_of cut)) (quoted_back tail shape)
    ∙ ap (with_item word) (list_back steps rest (omega (arith, enough)) others))

pub list_shape : (text rest : List ℕ) (words : List (List ℕ))
    → (list_items (length text) text ≡ Some (words, rest))
    ↔ ((inner : List ℕ) × (text ≡ inner ++ rest) × IsList words inner)
list_shape text rest words = (list_there (length text) text words rest, back) where
  back : ListOf text words rest → list_items (length text) text ≡ Some (words, rest)
  back (inner, is, list) =
      ap (λ (t : List ℕ). list_items (length t) t) is
      ∙ list_back (length (inner ++ rest)) rest (omega (arith, list_some list, length-append inner rest)) list
