-- What the code has read of an escape, as the definitions say it.
use Rattle.base_data.specs.declared.rdata.txt.unescape.Escape.{Escape}
use Rattle.base_data.specs.declared.rdata.txt.unescape.Escape.TheVariants.{Outside, Begun, OneDigit, TwoDigits}
use Rattle.base_data.specs.StringItems.{EscapePart, no_escape, backslash, one_digit, two_digits}

-- the part of an escape that the code has read
abbrev pub escape_of : Escape → EscapePart
escape_of Outside = no_escape
escape_of Begun = backslash
escape_of (OneDigit n) = one_digit n
escape_of (TwoDigits n) = two_digits n
