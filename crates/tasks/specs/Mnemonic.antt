-- The mnemonics of types, classes and response codes, in letters of either case.
use Rattle.std.specs.List.{find, starts_with}
use Rattle.std.specs.Fmt.{decimal}
use Rattle.std.specs.Option.{ok_or, option_or}
use Rattle.std.specs.Prelude.{Bool, List, None, Ok, Option, Some, [], codes, drop, false, if◌then◌else◌, length, nat_eq}
use Rattle.std.specs.Prelude.{option_map, unwrap_or, ℕ, ◌∷◌}
use Rattle.std.specs.Str.{str_eq_ignore_ascii_case, str_to_ascii_uppercase}
use Rattle.base.specs.DNSClass.{class_from_text, class_number, class_of}
use Rattle.base.specs.RecordType.{type_number}
use Rattle.base.specs.texts.TextFaults.{unknown_type}
use Rattle.base.specs.declared.dns_class.DNSClass.{DNSClass}
use Rattle.base_data.specs.Fields.{number_item}
use Rattle.base_data.specs.Generic.{any_type}
use Rattle.op.specs.ResponseCode.{code_name, code_number, code_value}
use Rattle.op.specs.declared.response_code.ResponseCode.TheVariants as code
use Rattle.op.specs.declared.response_code.ResponseCode.{ResponseCode}
use Rattle.parsed_zone.specs.Faults.{numbered}
use Rattle.tasks.specs.Asked.{Asked, ◌>>=◌}
use Rattle.tasks.specs.Refusals.{no_mnemonic}
use Rattle.tasks.specs.ZoneText.{characters}

-- a text in upper case
abbrev pub raised : List ℕ → Asked (List ℕ)
raised text = characters text >>= λ chars. Ok (str_to_ascii_uppercase chars)

-- the number of the type of a text: its mnemonic, or TYPE and the number (RFC 1035, 3.2.2 and 3.2.3; RFC 3597, 5)
abbrev pub type_asked : List ℕ → Asked ℕ
type_asked text = raised text >>= λ chars. numbered (ok_or (any_type chars) (unknown_type chars))
    >>= λ type. Ok (type_number type)

-- what stands before the number of a class
abbrev pub class_sign : List ℕ
class_sign = codes "CLASS"

-- the class that CLASS and its decimal number name
abbrev pub numbered_class : List ℕ → Option DNSClass
numbered_class text = if starts_with nat_eq text class_sign
    then option_map class_of (number_item 16 (drop (length class_sign) text)) else None

-- the class that a text in upper case names, by its mnemonic, the sign * of ANY, or its number
abbrev pub any_class : List ℕ → Option DNSClass
any_class text = option_or (class_from_text text) (numbered_class text)

-- the number of the class of a text (RFC 1035, 3.2.4 and 3.2.5; RFC 3597, 5)
abbrev pub class_asked : List ℕ → Asked ℕ
class_asked text = raised text >>= λ chars. ok_or (option_map class_number (any_class chars)) no_mnemonic

-- the response codes that have a name (RFC 6895, 2.3)
abbrev pub named_codes : List ResponseCode
named_codes =
    code.NoError ∷ code.FormErr ∷ code.ServFail ∷ code.NXDomain ∷ code.NotImp ∷ code.Refused ∷
    code.YXDomain ∷ code.YXRRSet ∷ code.NXRRSet ∷ code.NotAuth ∷ code.NotZone ∷ code.BADVERS ∷
    code.BADSIG ∷ code.BADKEY ∷ code.BADTIME ∷ code.BADMODE ∷ code.BADNAME ∷ code.BADALG ∷
    code.BADTRUNC ∷ code.BADCOOKIE ∷ []

-- whether a text is this name
abbrev pub is_name : List ℕ → Option (List ℕ) → Bool
is_name text (Some name) = str_eq_ignore_ascii_case name text
is_name text None = false

-- the response code of a name
abbrev pub named_code : List ℕ → Option ResponseCode
named_code text = find (λ c. is_name text (code_name c)) named_codes

-- the number of the response code of a text: its name, or the number in decimal
abbrev pub code_asked : List ℕ → Asked ℕ
code_asked text = characters text >>= λ chars.
    ok_or (option_or (option_map code_number (named_code chars)) (number_item 16 chars)) no_mnemonic

-- the text of the response code of a number: its name, else the number in decimal
abbrev pub code_mnemonic : ℕ → List ℕ
code_mnemonic number = unwrap_or (code_name (code_value number)) (decimal number)
