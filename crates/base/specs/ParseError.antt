-- The numbers of the refusals of zone text.
use Rattle.std.specs.Prelude.{ℕ}
use Rattle.base.specs.declared.error.parse_error.ParseError.{ParseError}
use Rattle.base.specs.declared.error.parse_error.ParseError.TheVariants as refusals

-- the number of each refusal
abbrev pub parse_number : ParseError → ℕ
parse_number refusals.Memory = 3
parse_number (refusals.UnexpectedToken token) = 17
parse_number refusals.Lexer = 18
parse_number (refusals.Message text) = 19
parse_number (refusals.IncludeNotFound name) = 20
parse_number (refusals.UnknownRecordType text) = 21
parse_number (refusals.UnsupportedRecordType type) = 22
parse_number (refusals.BadData type) = 23
parse_number refusals.BadName = 23
parse_number refusals.BadTtl = 23
