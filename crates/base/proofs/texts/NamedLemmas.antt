-- What the text of a name names.
use Rattle.std.proofs.Common.{◌≡◌, ◌≢◌, ℕ, ◌+◌, ◌≤◌, List, [], ◌∷◌, ◌++◌, length, refl, ap, sym, ◌∙◌, subst, arith}
use Rattle.std.proofs.Common.{length-append, Bool, true, false, Option, Result, Err}
use Rattle.std.specs.Prelude.{◌↔◌}
use Rattle.base.specs.declared.error.parse_error.ParseError.{ParseError}
use Rattle.base.specs.declared.error.parse_error.ParseError.TheVariants as refusals
use Rattle.base.specs.names.Labels.{NameValue, AreLabels, IsWire, wire_of, labels_of}
use Rattle.base.specs.texts.NameText.{dot, byte, AreCharsOf, none, IsLabelsText, IsNameText, is_root, is_origin}
use Rattle.base.specs.texts.NameText.{is_absolute, is_relative, is_completed, first_char}
use Rattle.base.proofs.texts.CharLemmas.{reads_more}
use Rattle.base.proofs.names.LabelLemmas.{AreLabels-append, IsWire-wire_of, labels_of-wire_of, wire_of-append}
use Rattle.base.specs.reading.PointerLemmas.{length-wire_of}
use Rattle.base.proofs.texts.ParseLemmas.{not_nil, text_pieces, first_some, NoLabels}

reads_dot : AreCharsOf (46 ∷ []) (dot ∷ [])
unfolding first_char
reads_dot = reads_more refl none

pub reads_at : AreCharsOf (64 ∷ []) (byte 64 ∷ [])
unfolding first_char
reads_at = reads_more refl none

-- a dot alone is no labels
pub not_dot : {text : List ℕ} {labels : List (List ℕ)} {absolute : Bool} → text ≡ 46 ∷ []
    → IsLabelsText text labels absolute → ⊥
not_dot is text = first_some text (subst (λ (t : List ℕ). AreCharsOf t (dot ∷ [])) (sym is) reads_dot) ([] ∷ []) refl

-- a sign @ alone has no dot at the end
pub not_absolute_at : {text : List ℕ} {labels : List (List ℕ)} → text ≡ 64 ∷ [] → IsLabelsText text labels true → ⊥
not_absolute_at {labels = labels} is text =
    go labels text.some (text_pieces text (subst (λ (t : List ℕ). AreCharsOf t (byte 64 ∷ [])) (sym is) reads_at)) where
      go : (labels : List (List ℕ)) → labels ≢ [] → (64 ∷ []) ∷ [] ≡ labels ++ [] ∷ [] → ⊥
      go [] some e = some refl
      go (x ∷ xs) some e = not_nil xs [] (let tail : [] ≡ xs ++ [] ∷ [] = cc in sym tail)

-- what is named where the text is no labels
pub no_name : {text : List ℕ} {o : Option NameValue} {n : NameValue} → text ≢ 46 ∷ [] → text ≢ 64 ∷ []
    → NoLabels text → IsNameText text o n → ⊥
no_name not_root at nothing (is_root e) = not_root e
no_name not_root at nothing (is_origin e f) = at f
no_name not_root at nothing (is_absolute {labels} text) = nothing labels true text
no_name not_root at nothing (is_relative {labels} e f text) = nothing labels false text
no_name not_root at nothing (is_completed {labels = labels} e f text short) = nothing labels false text

-- labels after others, in bytes
appended : (bytes wire : List ℕ) (labels : List (List ℕ)) → IsWire bytes → wire ≡ wire_of labels
    → bytes ++ wire ≡ wire_of (labels_of bytes ++ labels)
appended bytes wire labels holds is = rw (wire_of-append (labels_of bytes) labels, is)
    (ap (λ (front : List ℕ). front ++ wire_of labels) (sym holds.whole))

pub appended_labels : (bytes wire : List ℕ) (labels : List (List ℕ)) → IsWire bytes → wire ≡ wire_of labels
    → labels_of (bytes ++ wire) ≡ labels_of bytes ++ labels
appended_labels bytes wire labels holds is =
    ap labels_of (appended bytes wire labels holds is) ∙ labels_of-wire_of (labels_of bytes ++ labels)

pub IsWire-appended : (bytes wire : List ℕ) (labels : List (List ℕ)) → IsWire bytes → wire ≡ wire_of labels
    → AreLabels labels → length bytes + length wire ≤ 254 → IsWire (bytes ++ wire)
IsWire-appended bytes wire labels holds is are short =
    let whole = appended bytes wire labels holds is in
    rw whole (IsWire-wire_of (labels_of bytes ++ labels) (AreLabels-append (labels_of bytes) labels holds.labels are)
    (omega (arith, length-wire_of (labels_of bytes ++ labels), ap length whole, length-append bytes wire)))

-- what is refused as a bad name, where a text names
pub named_answers : {text : List ℕ} {o : Option NameValue} {n : NameValue} {r : Result NameValue ParseError}
    → (r ≡ Err refusals.BadName → ⊥) → IsNameText text o n
    → (r ≡ Err refusals.BadName) ↔ ((name : NameValue) → IsNameText text o name → ⊥)
named_answers {n = n} fine named = (λ bad. absurd (fine bad), λ nothing. absurd (nothing n named))

-- and where nothing is named
pub bad_answers : {text : List ℕ} {o : Option NameValue} {r : Result NameValue ParseError} → r ≡ Err refusals.BadName
    → ((name : NameValue) → IsNameText text o name → ⊥)
    → (r ≡ Err refusals.BadName) ↔ ((name : NameValue) → IsNameText text o name → ⊥)
bad_answers is nothing = (λ bad. nothing, λ no. is)
