-- The name of a text is the one that it names.
use Rattle.std.proofs.Common.{◌≡◌, ◌≢◌, ℕ, zero, suc, ◌≤◌, List, [], ◌∷◌, ◌++◌, length, refl, ap, sym, ◌∙◌, subst}
use Rattle.std.proofs.Common.{arith, length-append, Bool, true, false, Option, Some, None}
use Rattle.std.specs.Prelude.{if◌then◌else◌}
use Rattle.std.proofs.lemmas.Bool.Decides.{nat_tests}
use Rattle.std.proofs.lemmas.List.{append-nil}
use Rattle.base.specs.names.Labels.{AreLabels, plain_len}
use Rattle.base.specs.texts.NameText.{Character, dot, byte, AreCharsOf, none, more, IsCharText, is_dot, is_printable}
use Rattle.base.specs.texts.NameText.{is_escaped, is_number, IsLabelsText, dotted, first_char}
use Rattle.base.specs.texts.NameOf.{are_labels, char_on, chars, chars_on, if_name, is_name, labels_of_chars, pieces}
use Rattle.base.specs.texts.NameOf.{text_labels, without_end}
use Rattle.base.proofs.texts.CharLemmas.{first_of_piece, reads_more}
use Rattle.base.proofs.texts.ParseLemmas.{dotted-dot, dotted-last, ended, first_of, last_piece, text_pieces}

piece_some : {piece : List ℕ} {c : Character} → IsCharText piece c → 1 ≤ length piece
piece_some (is_dot e) = omega (arith, ap length e)
piece_some (is_printable e low high no_dot no_backslash) = omega (arith, ap length e)
piece_some (is_escaped e ascii digit) = omega (arith, ap length e)
piece_some (is_number e decimal) = omega (arith, ap length e)

-- the characters of a text that begins with this one
pub chars_step : (steps : ℕ) (text rest : List ℕ) (c : Character) → first_char text ≡ Some (c, rest) → 1 ≤ length text
    → chars (suc steps) text ≡ char_on c (chars steps rest)
unfolding chars
chars_step steps [] rest c first some = absurd (omega arith)
chars_step steps (b ∷ text) rest c first some = ap (chars_on (chars steps)) first

pub chars_complete : (steps : ℕ) {text : List ℕ} {cs : List Character} → AreCharsOf text cs → length text ≤ steps
    → chars steps text ≡ Some cs
unfolding chars
chars_complete steps none enough = refl
chars_complete zero (more {text = text} {piece = piece} {rest = rest} spells is reads) enough =
    absurd (omega (arith, piece_some spells, ap length is, length-append piece rest))
chars_complete (suc steps) (more {text = text} {piece = piece} {rest = rest} {c = c} spells is reads) enough =
    let size = ap length is in
    let sum = length-append piece rest in
    let some = piece_some spells in
    chars_step steps text rest c (first_of_piece spells is) (omega arith)
    ∙ ap (char_on c) (chars_complete steps reads (omega arith))

char_some : (c : Character) (found : Option (List Character)) (cs : List Character) → char_on c found ≡ Some cs
    → (ds : List Character) × (c ∷ ds ≡ cs) × (found ≡ Some ds)
char_some c None cs on = absurd (cc on)
char_some c (Some ds) cs on = (ds, cc on, refl)

pub chars_sound : (steps : ℕ) (text : List ℕ) (cs : List Character) → chars steps text ≡ Some cs → AreCharsOf text cs
unfolding chars
chars_sound steps [] cs is = let same : [] ≡ cs = cc is in rw (← same) none
chars_sound zero (b ∷ text) cs is = absurd (cc is)
chars_sound (suc steps) (b ∷ text) cs is = go (first_char (b ∷ text)) refl is (chars_sound steps) where
  go : (found : Option (Character × List ℕ)) → first_char (b ∷ text) ≡ found → chars_on (chars steps) found ≡ Some cs
      → ((rest : List ℕ) (ds : List Character) → chars steps rest ≡ Some ds → AreCharsOf rest ds)
      → AreCharsOf (b ∷ text) cs
  go None first on again = absurd (cc on)
  go (Some (c, rest)) first on again =
      let more = char_some c (chars steps rest) cs on in
      subst (AreCharsOf (b ∷ text)) more.1 (reads_more first (again rest more.0 more.2))

-- the characters of pieces are those that they were cut from
dotted-onto : (b : ℕ) (x : List ℕ) (xs : List (List ℕ)) → dotted ((b ∷ x) ∷ xs) ≡ byte b ∷ dotted (x ∷ xs)
dotted-onto b x [] = refl
dotted-onto b x (y ∷ ys) = refl

dotted-pieces : (cs : List Character) → dotted (pieces cs) ≡ cs
dotted-pieces [] = refl
dotted-pieces (dot ∷ cs) =
    let f = first_of cs in
    rw f.2 (ap (λ (ds : List Character). dot ∷ ds) (rw f.2 at (dotted-pieces cs)))
dotted-pieces (byte b ∷ cs) =
    let f = first_of cs in
    rw f.2 (dotted-onto b f.0 f.1 ∙ ap (λ (ds : List Character). byte b ∷ ds) (rw f.2 at (dotted-pieces cs)))

dotted-end : (labels : List (List ℕ)) (absolute : Bool) → labels ≢ []
    → dotted (labels ++ last_piece absolute) ≡ dotted labels ++ (if absolute then dot ∷ [] else [])
dotted-end labels true some = dotted-last labels [] ∙ append-nil (ended labels) ∙ sym (dotted-dot labels some)
dotted-end labels false some = ap dotted (append-nil labels) ∙ sym (append-nil (dotted labels))

-- the end is cut off, and only it
without_end-is : (x : List ℕ) (xs : List (List ℕ))
    → x ∷ xs ≡ (without_end (x ∷ xs)).0 ++ last_piece (without_end (x ∷ xs)).1
without_end-is [] [] = refl
without_end-is (b ∷ x) [] = refl
without_end-is [] (y ∷ ys) = ap (λ (ps : List (List ℕ)). [] ∷ ps) (without_end-is y ys)
without_end-is (b ∷ x) (y ∷ ys) = ap (λ (ps : List (List ℕ)). (b ∷ x) ∷ ps) (without_end-is y ys)

without_end-labels : (labels : List (List ℕ)) (absolute : Bool) → AreLabels labels → labels ≢ []
    → without_end (labels ++ last_piece absolute) ≡ (labels, absolute)
without_end-labels [] absolute are some = absurd (some refl)
without_end-labels ([] ∷ xs) absolute are some = absurd (omega (arith, are.0.some))
without_end-labels ((b ∷ x) ∷ []) true are some = refl
without_end-labels ((b ∷ x) ∷ []) false are some = refl
without_end-labels ((b ∷ x) ∷ y ∷ ys) absolute are some =
    let again = without_end-labels (y ∷ ys) absolute are.1 (λ e. absurd cc) in
    ap (λ (r : List (List ℕ) × Bool). ((b ∷ x) ∷ r.0, r.1)) again

are_labels-true : (xs : List (List ℕ)) → AreLabels xs → are_labels xs ≡ true
are_labels-true [] are = refl
are_labels-true (x ∷ xs) are = grind (arith, nat_tests, are.0.some, are.0.short, are_labels-true xs are.1)

are_labels-from : (xs : List (List ℕ)) → are_labels xs ≡ true → AreLabels xs
are_labels-from [] is = tt
are_labels-from (x ∷ xs) is = (
  record { some = grind (arith, nat_tests); short = grind (arith, nat_tests) },
  are_labels-from xs (grind (arith, nat_tests)),
)

is_name-true : (labels : List (List ℕ)) → AreLabels labels → labels ≢ [] → plain_len labels ≤ 255
    → is_name labels ≡ true
is_name-true [] are some short = absurd (some refl)
is_name-true (x ∷ xs) are some short = grind (arith, nat_tests, are_labels-true (x ∷ xs) are)

pub text_labels_complete : {text : List ℕ} {labels : List (List ℕ)} {absolute : Bool}
    → IsLabelsText text labels absolute → text_labels text ≡ Some (labels, absolute)
unfolding text_labels
text_labels_complete {text} {labels} {absolute} is =
    let cs = chars_complete (length text) is.reads (omega arith) in
    let cut = ap without_end (text_pieces is is.reads) ∙ without_end-labels labels absolute is.each is.some in
    ap labels_of_chars cs ∙ ap if_name cut ∙ rw (is_name-true labels is.each is.some is.short) refl

labels_text_from : {text : List ℕ} (labels : List (List ℕ)) (absolute : Bool) (cs : List Character) → AreCharsOf text cs
    → without_end (pieces cs) ≡ (labels, absolute) → is_name labels ≡ true → IsLabelsText text labels absolute
labels_text_from {text} labels absolute cs reads cut is =
    let fits : plain_len labels ≤ 255 = grind (arith, nat_tests) in
    let some : labels ≢ [] = λ (e : labels ≡ []). let none = ap length e in grind (arith, nat_tests) in
    let f = first_of cs in
    let all : pieces cs ≡ (without_end (pieces cs)).0 ++ last_piece (without_end (pieces cs)).1 =
    rw f.2 (without_end-is f.0 f.1) in
    let whole = rw cut at all in
    record {
      reads = rw (← dotted-end labels absolute some, ← whole, dotted-pieces cs) reads;
      some = some;
      each = are_labels-from labels (grind (arith, nat_tests));
      short = fits;
    }

pub text_labels_sound : (text : List ℕ) (labels : List (List ℕ)) (absolute : Bool)
    → text_labels text ≡ Some (labels, absolute) → IsLabelsText text labels absolute
unfolding text_labels
text_labels_sound text labels absolute is = go (chars (length text) text) refl is where
  cut : (cs : List Character) → AreCharsOf text cs → (fits : Bool) → is_name (without_end (pieces cs)).0 ≡ fits
      → if_name (without_end (pieces cs)) ≡ Some (labels, absolute) → IsLabelsText text labels absolute
  cut cs reads true fits on =
      let same : without_end (pieces cs) ≡ (labels, absolute) = cc (rw fits at on) in
      labels_text_from labels absolute cs reads same (sym (ap (λ (r : List (List ℕ) × Bool). is_name r.0) same) ∙ fits)
  cut cs reads false fits on = absurd (cc (rw fits at on))

  go : (found : Option (List Character)) → chars (length text) text ≡ found
      → labels_of_chars found ≡ Some (labels, absolute) → IsLabelsText text labels absolute
  go None read on = absurd (cc on)
  go (Some cs) read on = cut cs (chars_sound (length text) text cs read) (is_name (without_end (pieces cs)).0) refl on
