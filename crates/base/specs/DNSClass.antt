-- Classes: their numbers, texts and order (RFC 1035, 3.2.4 and 3.2.5; RFC 2136, 2.4; RFC 6891, 6.1.2; RFC 6895, 3.2).
use Rattle.base.specs.declared.limits.TheConstants.{MIN_PAYLOAD}
use Rattle.std.specs.Prelude.{ℕ, ◌+◌, ◌%◌, nat_le, Bool, true, false, Option, Some, List, [], ◌∷◌, ◌++◌, ◌==◌, codes}
use Rattle.std.specs.Prelude.{if◌then◌else◌, nat_lt}
use Rattle.std.specs.declared.cmp.Ordering.{Ordering}
use Rattle.std.specs.Fmt.{decimal}
use Rattle.std.specs.List.{find}
use Rattle.std.specs.Ordering.{nat_cmp, on, then_cmp}
use Rattle.std.specs.Str.{bytes_eq}
use Rattle.base.specs.declared.dns_class.DNSClass.{DNSClass}
use Rattle.base.specs.declared.dns_class.DNSClass.TheVariants as classes

-- the classes that have a name (RFC 1035, 3.2.4 and 3.2.5; RFC 6895, 3.2)
abbrev pub named_classes : List DNSClass
named_classes = classes.IN ∷ classes.CH ∷ classes.HS ∷ classes.NONE ∷ classes.ANY ∷ []

-- the number on the wire (RFC 1035, 3.2.4 and 3.2.5; RFC 2136, 2.4); an OPT record has a payload size there (RFC 6891,
-- 6.1.2)
abbrev pub class_number : DNSClass → ℕ
class_number classes.IN = 1
class_number classes.CH = 3
class_number classes.HS = 4
class_number classes.NONE = 254
class_number classes.ANY = 255
class_number (classes.OPT payload) = payload
class_number (classes.Unknown number) = number

-- the class of a number: the named one, where there is one (RFC 3597, 2)
abbrev pub class_of : ℕ → DNSClass
class_of number =
    if number == 1 then classes.IN else
    (if number == 3 then classes.CH else
    (if number == 4 then classes.HS else
    (if number == 254 then classes.NONE else
    (if number == 255 then classes.ANY else
    classes.Unknown number))))

-- The class field of a question or record: the class number, its top bit set where a unicast response is
-- asked for or the cache is to be flushed (RFC 6762, 5.4 and 10.2).
abbrev pub class_field : Bool → ℕ → ℕ
class_field true number = 32768 + number % 32768
class_field false number = number

-- the class of a field, and its top bit
abbrev pub field_class : ℕ → DNSClass
field_class field = class_of (field % 32768)

-- the top bit of a class field
abbrev pub field_top : ℕ → Bool
field_top field = nat_le 32768 field

-- the class field of an OPT record: the sender's payload size, of 512 bytes at least (RFC 6891, 6.1.2 and 6.2.3)
abbrev pub opt_class : ℕ → DNSClass
opt_class payload = if nat_lt payload MIN_PAYLOAD then classes.OPT MIN_PAYLOAD
    else classes.OPT payload

-- whether the class has a name
abbrev pub is_named_class : DNSClass → Bool
is_named_class (classes.OPT payload) = false
is_named_class (classes.Unknown number) = false
is_named_class _ = true

-- whether the class is a payload size
abbrev pub is_opt_class : DNSClass → Bool
is_opt_class (classes.OPT payload) = true
is_opt_class _ = false

-- the text in zone files: the mnemonic (RFC 1035, 3.2.4), or CLASS and the number (RFC 3597, 5); OPT for a payload size
abbrev pub class_text : DNSClass → List ℕ
class_text classes.IN = codes "IN"
class_text classes.CH = codes "CH"
class_text classes.HS = codes "HS"
class_text classes.NONE = codes "NONE"
class_text classes.ANY = codes "ANY"
class_text (classes.OPT payload) = codes "OPT"
class_text (classes.Unknown number) = codes "CLASS" ++ decimal number

-- the named class of this text, or ANY for its sign * (RFC 1035, 3.2.5); CLASSn is not read
abbrev pub class_from_text : List ℕ → Option DNSClass
class_from_text text =
    if bytes_eq (codes "*") text then Some classes.ANY
    else find (λ c. bytes_eq (class_text c) text) named_classes

-- where a class stands among those of its number: a named one, then a payload size, then an unknown class
abbrev pub class_rank : DNSClass → ℕ
class_rank (classes.OPT payload) = 1
class_rank (classes.Unknown number) = 2
class_rank _ = 0

-- the order: by number, then a named class, a payload size and an unknown class
abbrev pub class_cmp : DNSClass → DNSClass → Ordering
class_cmp = then_cmp (on class_number nat_cmp) (on class_rank nat_cmp)
