-- Texts of characters.
use Rattle.std.proofs.Common.{◌≡◌, ◌⊎◌, ◌∙◌, Err, Ok, ℕ, List, inl, inr, length, refl, ap, sym, Bool, true, false}
use Rattle.std.proofs.lemmas.Bool.{cond-false, cond-true}
use Rattle.std.proofs.lemmas.Str.{IsUtf8-from_is_utf8, is_utf8-from_IsUtf8}
use Rattle.std.specs.Prelude.{◌==◌}
use Rattle.std.specs.Str.{IsUtf8, is_utf8}
use Rattle.base.specs.names.Labels.{NameValue}
use Rattle.tasks.specs.Asked.{Asked, ◌>>=◌}
use Rattle.tasks.specs.ZoneText.{characters, name_of_text, zone_name_of}

-- a text that isn't UTF-8 is refused
pub not_characters : (text : List ℕ) → ¬ (IsUtf8 text) → characters text ≡ Err 24
not_characters text never = go (is_utf8 text) refl where
  go : (b : Bool) → is_utf8 text ≡ b → characters text ≡ Err 24
  go true is = absurd (never (IsUtf8-from_is_utf8 text is))
  go false is = cond-false _ _ _ is

-- and any other is its characters
pub are_characters : (text chars : List ℕ) → IsUtf8 text → chars ≡ text → characters text ≡ Ok chars
are_characters text chars is same = rw (is_utf8-from_IsUtf8 text is) (ap Ok (sym same))

-- no zone is named by no bytes, and by others the name that they are, as an absolute one
pub no_zone_named : (text : List ℕ) → true ≡ (length text == 0) → zone_name_of text ≡ Err 26
no_zone_named text is = cond-true _ _ _ (sym is)

-- a name that was asked for, as an absolute one
abbrev pub as_zone : Asked NameValue → Asked NameValue
as_zone asked = ◌>>=◌ {A = NameValue} {B = NameValue} asked (λ name. Ok (record name { absolute = true }))

pub zone_named : (text : List ℕ) (made : Asked NameValue) → false ≡ (length text == 0) → name_of_text text ≡ made
    → zone_name_of text ≡ as_zone made
zone_named text made some is = cond-false _ _ _ (sym some) ∙ ap as_zone is

pub zone_unnamed : (text : List ℕ) (number : ℕ) → false ≡ (length text == 0)
    → (number ≡ 3) ⊎ (name_of_text text ≡ Err number)
    → (number ≡ 3) ⊎ (zone_name_of text ≡ Err number)
zone_unnamed text number some (inl memory) = inl memory
zone_unnamed text number some (inr is) = inr (zone_named text (Err number) some is)
