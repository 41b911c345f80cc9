-- The text of names.
use Rattle.std.proofs.Common.{◌≡◌, ℕ, ◌<◌, List, [], ◌∷◌, ◌++◌, length, ap, sym, ◌∙◌, arith, append_assoc, Bool, true}
use Rattle.std.proofs.Common.{false}
use Rattle.std.specs.Prelude.{◌==◌, if◌then◌else◌}
use Rattle.std.proofs.lemmas.Bool.{eq-eqb, ne_eqb}
use Rattle.std.proofs.lemmas.List.{append-nil}
use Rattle.base.specs.names.Labels.{NameValue, wire_of}
use Rattle.base.specs.texts.NameText.{label_text, labels_text, name_text}
use Rattle.base.specs.reading.PointerLemmas.{length-wire_of}

-- the dot after a label stands where more labels follow
pub labels_text-cons : (x : List ℕ) (xs : List (List ℕ)) (tail : List ℕ) (last : Bool) → wire_of xs ≡ tail
    → last ≡ (length tail == 0)
    → (label_text x ++ (if last then [] else 46 ∷ [])) ++ labels_text xs ≡ labels_text (x ∷ xs)
labels_text-cons x [] tail last whole is =
    let none : length tail ≡ 0 = omega (arith, ap length whole, length-wire_of []) in
    let yes : last ≡ true = is ∙ eq-eqb (length tail) 0 none in
    rw yes (append-nil (label_text x ++ []) ∙ append-nil (label_text x))
labels_text-cons x (y ∷ ys) tail last whole is =
    let some : 0 < length tail = omega (arith, ap length whole, length-wire_of (y ∷ ys)) in
    let no : last ≡ false = is ∙ ne_eqb (length tail) 0 (omega arith) in
    rw no (append_assoc (label_text x) (46 ∷ []) (labels_text (y ∷ ys)))

-- one more label was written
pub labels_text-step : (text : List ℕ) {labels : List (List ℕ)} {all : List ℕ} {x : List ℕ} {xs : List (List ℕ)}
    {tail : List ℕ} {last : Bool}
    → text ++ labels_text labels ≡ all → labels ≡ x ∷ xs → wire_of xs ≡ tail → last ≡ (length tail == 0)
    → (text ++ (label_text x ++ (if last then [] else 46 ∷ []))) ++ labels_text xs ≡ all
labels_text-step text {labels} {all} {x} {xs} {tail} {last} before is whole last_is =
    append_assoc text (label_text x ++ (if last then [] else 46 ∷ [])) (labels_text xs)
    ∙ ap (λ (rest : List ℕ). text ++ rest) (labels_text-cons x xs tail last whole last_is ∙ ap labels_text (sym is))
    ∙ before

-- all labels were written
pub name_text_is : (name : NameValue) (text end : List ℕ) (labels : List (List ℕ)) (dot : Bool)
    → text ++ labels_text labels ≡ labels_text name.labels
    → labels ≡ [] → dot ≡ name.absolute → end ≡ (if dot then 46 ∷ [] else [])
    → text ++ end ≡ name_text name
name_text_is name text end labels dot before none dot_is end_is =
    let whole : text ≡ labels_text name.labels =
    sym (append-nil text) ∙ ap (λ (ls : List (List ℕ)). text ++ labels_text ls) (sym none) ∙ before in
    ap (λ (front : List ℕ). front ++ end) whole
    ∙ ap (λ (back : List ℕ). labels_text name.labels ++ back)
    (end_is ∙ ap (λ (b : Bool). if b then 46 ∷ [] else []) dot_is)
