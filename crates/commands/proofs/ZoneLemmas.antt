-- The texts that words hand in, one word after the other, and the zone that is read with them.
use Rattle.std.proofs.Common.{◌≡◌, ◌⊎◌, inl, inr, Err, Result, ℕ, List, [], ◌∷◌, ◌++◌, refl, ap, sym, ◌∙◌, Bool, true}
use Rattle.std.proofs.Common.{false, cond, Option, Some, None}
use Rattle.std.specs.BTreeMap.{BTreeMap, get_by_text}
use Rattle.std.specs.List.{after_first, before_first}
use Rattle.std.specs.Map.{update}
use Rattle.std.specs.Prelude.{String, option_map}
use Rattle.std.specs.Str.{bytes_eq}
use Rattle.std.specs.String.{string_bytes}
use Rattle.std.specs.declared.alloc.Global.{Global}
use Rattle.base.specs.names.Labels.{NameValue}
use Rattle.txt.specs.Parser.{texts_in}
use Rattle.txt.specs.Zone.{Texts}
use Rattle.txt.specs.ZoneSets.{ZoneSets}
use Rattle.parsed_zone.specs.Faults.{ZoneFault, by_number}
use Rattle.parsed_zone.specs.ZoneText.{zone_of_bytes}
use Rattle.commands.specs.Answer.{refused}
use Rattle.commands.specs.ZoneCommand.{answer_to_zone, is_equals, or_else, text_in, text_named, zone_answer}

else_none : (text : Option (List ℕ)) → text ≡ or_else text None
else_none None = refl
else_none (Some text) = refl

else_else : (a b c : Option (List ℕ)) → or_else (or_else a b) c ≡ or_else a (or_else b c)
else_else None b c = refl
else_else (Some text) b c = refl

-- the last word goes before those that stand in front of it
named_more : (words : List (List ℕ)) (word name : List ℕ)
    → text_named (words ++ word ∷ []) name ≡ or_else (text_in word name) (text_named words name)
named_more [] word name = else_none (text_in word name)
named_more (first ∷ words) word name =
    ap (λ (text : Option (List ℕ)). or_else text (text_in first name)) (named_more words word name)
    ∙ else_else (text_in word name) (text_named words name) (text_in first name)

-- A map got the text that a word hands in, under the name before the word's first equals sign.
pub record PutsText (old new : BTreeMap (String Global) (String Global)) (word : List ℕ) : Type 0 where
  pub key : String Global
  pub text : String Global
  pub puts : (name : List ℕ) → get_by_text new name ≡ update bytes_eq (get_by_text old) (string_bytes key)
      (Some text) name
  pub key_is : string_bytes key ≡ before_first is_equals word
  pub text_is : string_bytes text ≡ after_first is_equals word

-- one text more in the map is one word more
pub text_put : {after : List (List ℕ)} {word : List ℕ} (old new : BTreeMap (String Global) (String Global))
    (words : List (List ℕ))
    → ((name : List ℕ) → texts_in old name ≡ text_named words name) → PutsText old new word → after ≡ words ++ word ∷ []
    → (name : List ℕ) → texts_in new name ≡ text_named after name
text_put {word = word} old new words before put more name =
    ap (option_map string_bytes) (put.puts name)
    ∙ found (bytes_eq (string_bytes key) name) refl
    ∙ sym (named_more words word name) ∙ ap (λ ws. text_named ws name) (sym more) where
      key : String Global
      key = put.key

      text : String Global
      text = put.text

      found : (b : Bool) → bytes_eq (string_bytes key) name ≡ b
          → option_map string_bytes (cond (bytes_eq (string_bytes key) name) (Some text) (get_by_text old name))
          ≡ or_else (text_in word name) (text_named words name)
      found true same =
          let here : bytes_eq (before_first is_equals word) name ≡ true =
          ap (λ (ks : List ℕ). bytes_eq ks name) (sym put.key_is) ∙ same in
          rw (same, here) (ap Some put.text_is)
      found false other =
          let here : bytes_eq (before_first is_equals word) name ≡ false =
          ap (λ (ks : List ℕ). bytes_eq ks name) (sym put.key_is) ∙ other in
          rw (other, here) (before name)

module _ (origin : Option NameValue) (words : List (List ℕ)) (input : List ℕ)
    (includes : BTreeMap (String Global) (String Global))
    (named : (name : List ℕ) → texts_in includes name ≡ text_named words name) where
  -- the answer is that of the zone that was read with these texts
  pub zone_answers : (made : Result (NameValue × ZoneSets) ZoneFault)
      → zone_of_bytes (texts_in includes) origin input ≡ made
      → zone_answer origin words input ≡ answer_to_zone (by_number made)
  unfolding zone_answer
  zone_answers made is =
      ap (λ (found : Result (NameValue × ZoneSets) ZoneFault). answer_to_zone (by_number found))
      (ap (λ (texts : Texts). zone_of_bytes texts origin input) (λ i name. sym (named name) i) ∙ is)

  -- and has the number of its refusal
  pub zone_refused : (number : ℕ) → (number ≡ 3) ⊎
      (by_number (zone_of_bytes (texts_in includes) origin input) ≡ Err number)
      → (number ≡ 3) ⊎ (zone_answer origin words input ≡ refused number)
  zone_refused number (inl memory) = inl memory
  zone_refused number (inr is) = inr (zone_answers (zone_of_bytes (texts_in includes) origin input) refl
      ∙ ap answer_to_zone is)
