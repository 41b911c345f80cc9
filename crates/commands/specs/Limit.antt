-- A limit in bytes, as a word names it.
use Rattle.std.specs.Prelude.{ℕ, List, length, ◌&&◌, nat_lt, Option, Some, None, if◌then◌else◌}
use Rattle.std.specs.Char.{is_ascii_digit}
use Rattle.std.specs.List.{list_all}
use Rattle.std.specs.Str.Parse.{digits_value}

-- one decimal digit or more, of a number of up to 65,535
abbrev pub limit_of : List ℕ → Option ℕ
limit_of word = if list_all is_ascii_digit word
    && (nat_lt 0 (length word) && nat_lt (digits_value 10 word) 65536)
    then Some (digits_value 10 word) else None
