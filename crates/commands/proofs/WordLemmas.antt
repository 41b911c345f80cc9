-- Words as the command that they name.
use Rattle.std.proofs.Common.{◌≡◌, ℕ, ◌<◌, ◌≤◌, Bool, true, false, List, [], ◌∷◌, length, get_or, refl, ap, sym, ◌∙◌}
use Rattle.std.proofs.Common.{arith, Option, Some, None}
use Rattle.std.specs.Prelude.{String, codes, if◌then◌else◌}
use Rattle.std.specs.Option.{IsSomeAnd, MatchOption, option_map}
use Rattle.std.specs.Str.{bytes_eq}
use Rattle.std.specs.String.{string_bytes}
use Rattle.std.specs.declared.alloc.Global.{Global}
use Rattle.commands.specs.Command.{message_command}
use Rattle.commands.specs.Limit.{limit_of}
use Rattle.commands.specs.Words.{as_bytes}
use Rattle.commands.specs.declared.command.MessageCommand.{MessageCommand}
use Rattle.commands.specs.declared.command.MessageCommand.TheVariants as commands

-- what one word names, by whether it is `header` and whether it is `read`
abbrev one_named : Bool → Bool → Option MessageCommand
one_named header read = if header then Some commands.Header else (if read then Some commands.Read else None)

-- Whether the first word is this name.
pub record IsFirst (words : List (String Global)) (name : List ℕ) (is : Bool) : Type 0 where
  pub word : String Global
  pub first : word ≡ get_or words 0 word
  pub tells : is ≡ bytes_eq (string_bytes word) name

-- the first word was compared with a name
pub compared : {words : List (String Global)} {word : String Global} {text name : List ℕ} {test same : Bool}
    → word ≡ get_or words 0 word → text ≡ string_bytes word
    → test ≡ bytes_eq text name → test ≡ same → IsFirst words name same
compared {word = word} {name = name} first is_text is_test is = record {
  word = word;
  first = first;
  tells = sym is ∙ is_test ∙ ap (λ t. bytes_eq t name) is_text;
}

told : (first : String Global) (others : List (String Global)) (name : List ℕ) (same : Bool)
    → IsFirst (first ∷ others) name same → same ≡ bytes_eq (string_bytes first) name
told first others name same is = is.tells ∙ ap (λ (w : String Global). bytes_eq (string_bytes w) name) is.first

pub header_word : (words : List (String Global)) → 1 ≤ length words → length words < 2
    → IsFirst words (codes "header") true → Some commands.Header ≡ message_command (as_bytes words)
header_word [] some few is = absurd (omega arith)
header_word (first ∷ []) some few is = ap (λ header. one_named header (bytes_eq (string_bytes first) (codes "read")))
    (told first [] (codes "header") true is)
header_word (first ∷ (next ∷ others)) some few is = absurd (omega arith)

-- a word that isn't `header`, compared with `read`
pub one_word : (words : List (String Global)) {read : Bool} → 1 ≤ length words → length words < 2
    → IsFirst words (codes "header") false → IsFirst words (codes "read") read
    → one_named false read ≡ message_command (as_bytes words)
one_word [] some few other is = absurd (omega arith)
one_word (first ∷ []) {read} some few other is =
    ap (λ header. one_named header read) (told first [] (codes "header") false other)
    ∙ ap (one_named (bytes_eq (string_bytes first) (codes "header"))) (told first [] (codes "read") read is)
one_word (first ∷ (second ∷ others)) some few other is = absurd (omega arith)

-- two words, the first compared with `cut`
pub two_words : (words : List (String Global)) {number : String Global} {cut : Bool} → 2 ≤ length words
    → length words < 3 → IsFirst words (codes "cut") cut
    → number ≡ get_or words 1 number → (if cut then option_map commands.Cut (limit_of (string_bytes number)) else None)
    ≡ message_command (as_bytes words)
two_words [] some few is is_second = absurd (omega arith)
two_words (first ∷ []) some few is is_second = absurd (omega arith)
two_words (first ∷ (second ∷ [])) {number} {cut} some few is is_second =
    ap (λ named. if named then option_map commands.Cut (limit_of (string_bytes number)) else None)
    (told first (second ∷ []) (codes "cut") cut is)
    ∙ ap (λ (w : String Global). if bytes_eq (string_bytes first) (codes "cut")
    then option_map commands.Cut (limit_of (string_bytes w)) else None) is_second
two_words (first ∷ (second ∷ (third ∷ others))) some few is is_second = absurd (omega arith)

pub limit_named : (limit : Option ℕ) (named : Option MessageCommand)
    → MatchOption limit (named ≡ None) (λ x. IsSomeAnd named (λ command. command ≡ commands.Cut x))
    → named ≡ option_map commands.Cut limit
limit_named None named cases = cases
limit_named (Some x) None cases = absurd cases
limit_named (Some x) (Some command) cases = ap Some cases

pub no_word : (words : List (String Global)) → length words < 1 → None ≡ message_command (as_bytes words)
no_word [] few = refl
no_word (first ∷ others) few = absurd (omega arith)

pub many_words : (words : List (String Global)) → 3 ≤ length words → None ≡ message_command (as_bytes words)
many_words [] many = absurd (omega arith)
many_words (first ∷ []) many = absurd (omega arith)
many_words (first ∷ (second ∷ [])) many = absurd (omega arith)
many_words (first ∷ (second ∷ (third ∷ others))) many = refl
