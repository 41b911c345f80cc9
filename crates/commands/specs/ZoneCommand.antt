-- What the command `zone` prints.
use Rattle.std.specs.List.{after_first, before_first, list_all, list_any}
use Rattle.std.specs.Prelude.{ℕ, Bool, ◌==◌, List, [], ◌∷◌, if◌then◌else◌, Option, Some, None, Result, Ok, Err}
use Rattle.std.specs.Str.{bytes_eq}
use Rattle.base.specs.names.Labels.{NameValue}
use Rattle.txt.specs.Zone.{Texts}
use Rattle.txt.specs.ZoneSets.{ZoneSets}
use Rattle.parsed_zone.specs.Faults.{by_number}
use Rattle.parsed_zone.specs.ZoneText.{zone_lines, zone_of_bytes}
use Rattle.commands.specs.Answer.{Answer, done, refused}

-- ---- included texts, NAME=TEXT each

-- the equals sign
abbrev pub is_equals : ℕ → Bool
is_equals c = c == 61

-- the text of a word, where the word is of this name: the first = ends the name
abbrev pub text_in : List ℕ → List ℕ → Option (List ℕ)
text_in word name = if bytes_eq (before_first is_equals word) name
    then Some (after_first is_equals word) else None

-- the first of two texts, if it is there, else the second
abbrev pub or_else : Option (List ℕ) → Option (List ℕ) → Option (List ℕ)
or_else None other = other
or_else (Some text) other = Some text

-- the text of a name, by the last word of that name
abbrev pub text_named : List (List ℕ) → Texts
text_named [] name = None
text_named (word ∷ words) name = or_else (text_named words name) (text_in word name)

-- whether each word has a name
abbrev pub are_texts : List (List ℕ) → Bool
are_texts words = list_all (λ word. list_any is_equals word) words

-- ---- the answer

-- the lines of a zone that was read, or the number of the refusal
abbrev pub answer_to_zone : Result (NameValue × ZoneSets) ℕ → Answer
answer_to_zone (Ok zone) = done (zone_lines zone)
answer_to_zone (Err number) = refused number

-- the answer to a text under an origin, with the texts that these words hand in; refusal 24 where it isn't UTF-8
unfoldable pub zone_answer : Option NameValue → List (List ℕ) → List ℕ → Answer
zone_answer origin words input =
    answer_to_zone (by_number (zone_of_bytes (text_named words) origin input))
