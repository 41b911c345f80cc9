-- What the command `apply` prints.
use Rattle.std.specs.Prelude.{Err, List, Ok, Option, Result, [], ℕ, ◌∷◌}
use Rattle.hex.specs.declared.error.FromHexError.{FromHexError}
use Rattle.base.specs.DecodeError.{decode_number}
use Rattle.base.specs.names.Labels.{NameValue}
use Rattle.base.specs.reading.Reading.{Read}
use Rattle.op.specs.Message.{MessageValue, message_at}
use Rattle.op_use.specs.Server.{sections_of}
use Rattle.txt.specs.ZoneSets.{ZoneSets}
use Rattle.parsed_zone.specs.Applied.{lines_after}
use Rattle.parsed_zone.specs.Faults.{by_number}
use Rattle.parsed_zone.specs.ZoneText.{zone_of_bytes}
use Rattle.txt.specs.Zone.{no_texts}
use Rattle.commands.specs.Answer.{Answer, answer_of, refused}
use Rattle.commands.specs.HexInput.{bytes_of}

-- the answer to a message that is applied to a zone that was read, or the number of the refusal
abbrev pub answer_to_parsed : MessageValue → Result (NameValue × ZoneSets) ℕ → Answer
answer_to_parsed m (Ok zone) = answer_of (by_number (lines_after (sections_of m) zone))
answer_to_parsed m (Err number) = refused number

-- the answer to zone text under an origin, without texts to include; refusal 24 where it isn't UTF-8, 25 for another
-- class than IN
abbrev pub answer_to_text : MessageValue → Option NameValue → List ℕ → Answer
answer_to_text m origin input = answer_to_parsed m (by_number (zone_of_bytes no_texts origin input))

-- the message that was read, or the number of the fault that reading met
abbrev pub message_read : Read MessageValue → Result MessageValue ℕ
message_read (Ok (message, end)) = Ok message
message_read (Err fault) = Err (decode_number fault)

-- the message whose bytes a word spells, or the number of the refusal: 24 for a word that isn't hexadecimal
abbrev pub message_spelled : Result (List ℕ) FromHexError → Result MessageValue ℕ
message_spelled (Ok bytes) = message_read (message_at bytes 0)
message_spelled (Err fault) = Err 24

-- the first of the words, the empty one where there is none
abbrev pub first_word : List (List ℕ) → List ℕ
first_word [] = []
first_word (word ∷ words) = word

-- the update whose bytes the first word spells in hexadecimal, or the number of the refusal
abbrev pub update_of : List (List ℕ) → Result MessageValue ℕ
update_of words = message_spelled (bytes_of (first_word words))

-- the answer to zone text under an origin, and to an update or the number of its refusal
abbrev pub answer_after : Option NameValue → List ℕ → Result MessageValue ℕ → Answer
answer_after origin input (Ok message) = answer_to_text message origin input
answer_after origin input (Err number) = refused number

-- the answer to zone text under an origin, and to an update whose bytes the first word spells in hexadecimal
abbrev pub apply_answer : Option NameValue → List (List ℕ) → List ℕ → Answer
apply_answer origin words input = answer_after origin input (update_of words)
