-- The fields of data from the items of its text (RFC 1035, 3.3 and 5.1; RFC 4291, 2.2).
use Rattle.std.specs.Prelude.{ℕ, ◌^◌, ◌&&◌, List, length, nat_lt, if◌then◌else◌, Option, Some, None, option_and_then}
use Rattle.std.specs.Prelude.{option_map}
use Rattle.std.specs.Net.Addr.{octets_of}
use Rattle.std.specs.Net.Reader.{read_ipv4, read_ipv6, whole_value}
use Rattle.std.specs.Result.{result_ok}
use Rattle.std.specs.Str.{all_ascii_digits}
use Rattle.std.specs.Str.Parse.{digits_value}
use Rattle.base.specs.names.Labels.{NameValue}
use Rattle.base.specs.texts.NameOf.{name_of}

-- a field, and what is made with it of the others; none where one of them is none
infixl 10 ◌>>?◌
abbrev pub ◌>>?◌ : {A B : Type 0} → Option A → (A → Option B) → Option B
field >>? made = option_and_then made field

-- the number that an item of decimal digits alone says, one at least, where it is below `2 ^ bits`
unfoldable pub number_item : ℕ → List ℕ → Option ℕ
number_item bits text =
    if all_ascii_digits text && nat_lt 0 (length text) && nat_lt (digits_value 10 text) (2 ^ bits)
    then Some (digits_value 10 text) else None

-- the four bytes of an item that is dotted decimal
unfoldable pub ipv4_item : List ℕ → Option (List ℕ)
ipv4_item text = whole_value (read_ipv4 text)

-- the sixteen bytes of an item that is groups with colons between them
unfoldable pub ipv6_item : List ℕ → Option (List ℕ)
ipv6_item text = option_map octets_of (whole_value (read_ipv6 text))

-- the name that an item names under an origin
abbrev pub name_item : List ℕ → Option NameValue → Option NameValue
name_item text origin = result_ok (name_of text origin)
