-- What the check of zone text tells.
use Rattle.std.proofs.Common.{◌≡◌, ℕ, List, length, refl, Option, Some, Ok}
use Rattle.std.specs.Prelude.{neg_ℤ, pos, ℤ}
use Rattle.std.specs.String.{string_bytes}
use Rattle.tasks.specs.Asked.{Asked}
use Rattle.tasks.specs.ZoneCheck.{ToldFault, told_value}
use Rattle.tasks.specs.declared.zone_check.Told.{Told}
use Rattle.capi.specs.ZoneCheck.{IsChecked, fronted}

-- what the caller is left with, where this is told
pub is_told : (told : Told) (asked : Asked (Option ToldFault)) (old_name new_name old_words new_words : List ℕ)
    (name_len words_len : ℕ) (result : ℤ) → asked ≡ Ok (Some (told_value told))
    → new_name ≡ fronted (string_bytes told.name) old_name → new_words ≡ fronted (string_bytes told.words) old_words
    → name_len ≡ length (string_bytes told.name) → words_len ≡ length (string_bytes told.words)
    → result ≡ neg_ℤ (pos told.refusal.number)
    → IsChecked asked old_name new_name old_words new_words
    (record { line = told.line; column = told.column; name_len = name_len; words_len = words_len }) result
is_told told asked old_name new_name old_words new_words name_len words_len result is name words names lens answer =
    rw is (
      record {
        name = name;
        words = string_bytes told.words;
        words_are = words;
        place = rw (names, lens) refl;
      },
      answer,
    )
