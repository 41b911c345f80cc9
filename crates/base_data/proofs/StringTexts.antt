-- The text of strings.
use Rattle.std.proofs.Common.{◌≡◌, ℕ, ◌<◌, List, [], ◌∷◌, ◌++◌, length, ap, sym, ◌∙◌, arith, append_assoc, Bool, true}
use Rattle.std.proofs.Common.{false}
use Rattle.std.specs.Prelude.{◌==◌, if◌then◌else◌}
use Rattle.std.proofs.lemmas.Bool.{eq-eqb, ne_eqb}
use Rattle.std.proofs.lemmas.List.{append-nil}
use Rattle.base.specs.names.Labels.{wire_of}
use Rattle.base.specs.reading.PointerLemmas.{length-wire_of}
use Rattle.base_data.specs.TXT.{string_text, txt_text}

-- the space after a string stands where more strings follow
txt_text-cons : (x : List ℕ) (xs : List (List ℕ)) (tail : List ℕ) (last : Bool) → wire_of xs ≡ tail
    → last ≡ (length tail == 0)
    → (string_text x ++ (if last then [] else 32 ∷ [])) ++ txt_text xs ≡ txt_text (x ∷ xs)
txt_text-cons x [] tail last whole is =
    let none : length tail ≡ 0 = omega (arith, ap length whole, length-wire_of []) in
    let yes : last ≡ true = is ∙ eq-eqb (length tail) 0 none in
    rw yes (append-nil (string_text x ++ []) ∙ append-nil (string_text x))
txt_text-cons x (y ∷ ys) tail last whole is =
    let some : 0 < length tail = omega (arith, ap length whole, length-wire_of (y ∷ ys)) in
    let no : last ≡ false = is ∙ ne_eqb (length tail) 0 (omega arith) in
    rw no (append_assoc (string_text x) (32 ∷ []) (txt_text (y ∷ ys)))

-- one more string was written
pub txt_text-step : {strings xs : List (List ℕ)} {all x tail : List ℕ} {last : Bool} (text : List ℕ)
    → text ++ txt_text strings ≡ all → strings ≡ x ∷ xs → wire_of xs ≡ tail → last ≡ (length tail == 0)
    → (text ++ (string_text x ++ (if last then [] else 32 ∷ []))) ++ txt_text xs ≡ all
txt_text-step {xs = xs} {x = x} {tail = tail} {last = last} text before is whole last_is =
    append_assoc text (string_text x ++ (if last then [] else 32 ∷ [])) (txt_text xs)
    ∙ ap (λ (rest : List ℕ). text ++ rest) (txt_text-cons x xs tail last whole last_is ∙ ap txt_text (sym is)) ∙ before

-- all strings were written
pub txt_text_is : (text : List ℕ) (strings all : List (List ℕ)) → text ++ txt_text strings ≡ txt_text all → strings ≡ []
    → text ≡ txt_text all
txt_text_is text strings all before none =
    sym (append-nil text) ∙ ap (λ (ls : List (List ℕ)). text ++ txt_text ls) (sym none) ∙ before
