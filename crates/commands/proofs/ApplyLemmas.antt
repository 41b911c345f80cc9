-- What the command `apply` answers.
use Rattle.std.proofs.Common.{Err, List, Ok, Option, Result, ap, inl, inr, refl, ℕ, ◌≡◌, ◌⊎◌, ◌∙◌}
use Rattle.base.specs.names.Labels.{NameValue}
use Rattle.op.proofs.reading.MessageStands.{message_again}
use Rattle.op.specs.Message.{IsMessageAt, MessageValue}
use Rattle.op_use.specs.Server.{sections_of}
use Rattle.txt.specs.ZoneSets.{ZoneSets}
use Rattle.parsed_zone.specs.Applied.{lines_after}
use Rattle.parsed_zone.specs.Faults.{ZoneFault, by_number}
use Rattle.parsed_zone.specs.ZoneText.{zone_of_bytes}
use Rattle.txt.specs.Zone.{no_texts}
use Rattle.commands.specs.Answer.{answer_of, refused}
use Rattle.commands.specs.ApplyCommand.{answer_to_parsed, answer_to_text, first_word, message_read, message_spelled}
use Rattle.commands.specs.ApplyCommand.{update_of}
use Rattle.commands.specs.HexInput.{bytes_of}

-- a word spells the message that was read
pub update_read : (words : List (List ℕ)) (bytes : List ℕ) (m : MessageValue) (e : ℕ)
    → bytes_of (first_word words) ≡ Ok bytes → IsMessageAt bytes 0 m e → update_of words ≡ Ok m
update_read words bytes m e spelled stands =
    ap message_spelled spelled ∙ ap message_read (message_again bytes 0 m e stands)

module _ (m : MessageValue) (origin : Option NameValue) (input : List ℕ) where
  -- a refusal of the zone has its number
  pub text_refused : (number : ℕ) → (number ≡ 3) ⊎ (by_number (zone_of_bytes no_texts origin input) ≡ Err number)
      → (number ≡ 3) ⊎ (answer_to_text m origin input ≡ refused number)
  text_refused number (inl memory) = inl memory
  text_refused number (inr is) = inr (ap (answer_to_parsed m) is)

  -- the answer to a zone that was read is that of the lines
  pub text_answers : (zone : NameValue × ZoneSets) (made : Result (List ℕ) ZoneFault)
      → zone_of_bytes no_texts origin input ≡ Ok zone → lines_after (sections_of m) zone ≡ made
      → answer_to_text m origin input ≡ answer_of (by_number made)
  text_answers zone made read is =
      ap (λ (found : Result (NameValue × ZoneSets) ZoneFault). answer_to_parsed m (by_number found)) read
      ∙ ap (λ (lines : Result (List ℕ) ZoneFault). answer_of (by_number lines)) is

  -- and their refusal has its number
  pub lines_refused : (zone : NameValue × ZoneSets) (number : ℕ) → zone_of_bytes no_texts origin input ≡ Ok zone
      → (number ≡ 3) ⊎ (by_number (lines_after (sections_of m) zone) ≡ Err number)
      → (number ≡ 3) ⊎ (answer_to_text m origin input ≡ refused number)
  lines_refused zone number read (inl memory) = inl memory
  lines_refused zone number read (inr is) =
      inr (text_answers zone (lines_after (sections_of m) zone) read refl ∙ ap answer_of is)
