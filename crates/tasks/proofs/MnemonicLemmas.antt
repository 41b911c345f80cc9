-- Numbers in decimal that std reads are those of the definitions.
use Rattle.std.proofs.Common.{Err, List, Ok, Result, get_or, ℕ, ◌≡◌, ◌≢◌, sym}
use Rattle.std.specs.Result.{result_ok}
use Rattle.std.specs.Str.Parse.{ParsesUnsigned}
use Rattle.base_data.proofs.FieldTexts.{number_parsed}
use Rattle.base_data.specs.Fields.{number_item}

pub number_read : (E : Type 0) (text : List ℕ) (r : Result ℕ E) → ParsesUnsigned 16 10 text r
    → get_or text 0 0 ≢ 43 → result_ok r ≡ number_item 16 text
number_read E text (Ok n) parses plain = sym (number_parsed {E = E} 16 text (Ok n) parses plain)
number_read E text (Err e) parses plain = sym (number_parsed {E = E} 16 text (Err e) parses plain)
