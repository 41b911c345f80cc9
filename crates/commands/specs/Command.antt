-- The commands, as the words after the program's name name them, and what each answers.
use Rattle.std.specs.Prelude.{◌≡◌, ◌⊎◌, ℕ, ⊤, true, IfSome, List, [], ◌∷◌, codes, if◌then◌else◌, Option, Some, None, Ok}
use Rattle.std.specs.Prelude.{Err, Result, String}
use Rattle.std.specs.Option.{option_map}
use Rattle.std.specs.declared.alloc.Global.{Global}
use Rattle.std.specs.String.{string_bytes}
use Rattle.std.specs.Str.{bytes_eq}
use Rattle.commands.specs.Answer.{IsShown, IsPrinted, refused, usage}
use Rattle.commands.specs.Answering.{Answers}
use Rattle.commands.specs.ApplyCommand.{apply_answer, update_of}
use Rattle.commands.specs.CutCommand.{CutAnswers, IsCutGiven}
use Rattle.commands.specs.HeaderCommand.{header_answer}
use Rattle.commands.specs.Limit.{limit_of}
use Rattle.commands.specs.ReadCommand.{read_answer}
use Rattle.commands.specs.ZoneCommand.{zone_answer}
use Rattle.commands.specs.ZoneWords.{apply_named, words_after_origin, parses_origin, zone_named}
use Rattle.commands.specs.Refusal.{refusal_number}
use Rattle.commands.specs.declared.refusal.Failure.{Failure}
use Rattle.commands.specs.declared.refusal.Failure.TheVariants as failures
use Rattle.commands.specs.declared.refusal.Refusal.{Refusal}
use Rattle.commands.specs.declared.command.Command.{Command}
use Rattle.commands.specs.declared.command.Command.TheVariants as command
use Rattle.commands.specs.declared.command.MessageCommand.{MessageCommand}
use Rattle.commands.specs.declared.command.MessageCommand.TheVariants as on_message

-- the command of one or two words on a message
abbrev pub message_command : List (List ℕ) → Option MessageCommand
message_command [] = None
message_command (word ∷ []) = if bytes_eq word (codes "header") then Some on_message.Header
    else (if bytes_eq word (codes "read") then Some on_message.Read else None)
message_command (word ∷ (number ∷ [])) = if bytes_eq word (codes "cut")
    then option_map on_message.Cut (limit_of number) else None
message_command (word ∷ (next ∷ (other ∷ others))) = None

-- the command that words name, if they name one
abbrev pub command_of : List (List ℕ) → Option Command
command_of [] = None
command_of (word ∷ []) = option_map command.OnMessage (message_command (word ∷ []))
command_of (word ∷ (next ∷ others)) =
    if bytes_eq word (codes "zone") then zone_named next others
    else (if bytes_eq word (codes "apply") then apply_named next others
    else option_map command.OnMessage (message_command (word ∷ (next ∷ others))))

-- What a command's call answers to a text, where these are all words.
abbrev pub CommandAnswers : Command → List (List ℕ) → List ℕ → Result (String Global) Refusal
    → Type 0
CommandAnswers (command.OnMessage on_message.Header) words text result =
    Answers string_bytes (header_answer text) result
CommandAnswers (command.OnMessage on_message.Read) words text result =
    Answers string_bytes (read_answer text) result
CommandAnswers (command.OnMessage (on_message.Cut limit)) words text result =
    CutAnswers limit text result
CommandAnswers (command.Zone origin) words text result =
    Answers string_bytes (zone_answer origin (words_after_origin words) text) result
CommandAnswers (command.Apply origin) words text result =
    Answers string_bytes (apply_answer origin (words_after_origin words) text) result

-- What a run of a command gives: the answer to the text, or, where memory ran out, the refusal for that.
abbrev pub IsGiven : Command → List (List ℕ) → List ℕ → ℕ → Option (List ℕ) → Option (List ℕ)
    → Type 0
IsGiven (command.OnMessage on_message.Header) words text status old new =
    IsShown (header_answer text) status old new
IsGiven (command.OnMessage on_message.Read) words text status old new =
    IsShown (read_answer text) status old new
IsGiven (command.OnMessage (on_message.Cut limit)) words text status old new =
    IsCutGiven limit text status old new
IsGiven (command.Zone origin) words text status old new =
    IsShown (zone_answer origin (words_after_origin words) text) status old new
IsGiven (command.Apply origin) words text status old new =
    IsShown (apply_answer origin (words_after_origin words) text) status old new

-- the number of a refusal, where there is one
abbrev pub number_refused : {X : Type 0} → Result X ℕ → Option ℕ
number_refused (Ok x) = None
number_refused (Err number) = Some number

-- the number that the words of a command are refused with before the input is read, if they are: that of a faulty
-- update
abbrev pub refused_word : Command → List (List ℕ) → Option ℕ
refused_word (command.Apply origin) words = number_refused (update_of (words_after_origin words))
refused_word (command.Zone origin) words = None
refused_word (command.OnMessage message) words = None

-- What a command answers, over the input as far as it is known; nothing is said where the input failed.
abbrev pub GivesAnswer : Command → List (List ℕ) → Option (List ℕ) → Result (String Global) Failure
    → Type 0
GivesAnswer command words input (Ok lines) =
    IfSome input (λ text. CommandAnswers command words text (Ok lines))
GivesAnswer command words input (Err (failures.Refused refusal)) =
    IfSome input (λ text. CommandAnswers command words text (Err refusal))
GivesAnswer command words input (Err failures.Broken) = ⊤

-- It is refused with this number, or with 3 because memory ran out.
abbrev pub IsRefused : ℕ → Result (String Global) Failure → Type 0
IsRefused number (Ok lines) = ⊥
IsRefused number (Err (failures.Refused refusal)) = (refusal_number refusal ≡ 3)
    ⊎ (refusal_number refusal ≡ number)
IsRefused number (Err failures.Broken) = ⊥

-- What a run of words that name no command gives: the usage line, or, where they have an origin that has to be parsed,
-- the refusal because memory ran out.
abbrev pub IsUsageShown : List (List ℕ) → ℕ → Option (List ℕ) → Option (List ℕ) → Type 0
IsUsageShown words status old new = IsPrinted usage status old new
    ⊎ ((parses_origin words ≡ true) × IsPrinted (refused 3) status old new)
