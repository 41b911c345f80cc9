-- Record types: their numbers, texts and order (RFC 1035, 3.2.2 and 3.2.3; RFC 6895, 3.1).
use Rattle.std.specs.Prelude.{ℕ, Bool, true, false, Option, Some, None, unwrap_or, List, [], ◌∷◌, ◌++◌, ◌==◌, codes}
use Rattle.std.specs.Prelude.{if◌then◌else◌, nat_eq}
use Rattle.std.specs.declared.cmp.Ordering.{Ordering}
use Rattle.std.specs.Fmt.{decimal}
use Rattle.std.specs.List.{find}
use Rattle.std.specs.Ordering.{nat_cmp, on, then_cmp, eq_of_both}
use Rattle.std.specs.Str.{bytes_eq}
use Rattle.base.specs.declared.record_type.RecordType.{RecordType}
use Rattle.base.specs.declared.record_type.RecordType.TheVariants as types

-- the types that have a name (RFC 1035, 3.2.2 and 3.2.3; RFC 6895, 3.1)
abbrev pub named_types : List RecordType
named_types =
    types.ZERO ∷ types.A ∷ types.NS ∷ types.CNAME ∷ types.SOA ∷ types.NULL ∷ types.PTR ∷
    types.MX ∷ types.TXT ∷ types.SIG ∷ types.KEY ∷ types.AAAA ∷ types.SRV ∷ types.OPT ∷
    types.DS ∷ types.RRSIG ∷ types.NSEC ∷ types.DNSKEY ∷ types.NSEC3 ∷ types.NSEC3PARAM ∷
    types.CDS ∷ types.CDNSKEY ∷ types.TSIG ∷ types.IXFR ∷ types.AXFR ∷ types.ANY ∷ types.ANAME ∷ []

-- the number on the wire (RFC 1035, 3.2.2 and 3.2.3; RFC 6895, 3.1)
abbrev pub type_number : RecordType → ℕ
type_number types.ZERO = 0
type_number types.A = 1
type_number types.NS = 2
type_number types.CNAME = 5
type_number types.SOA = 6
type_number types.NULL = 10
type_number types.PTR = 12
type_number types.MX = 15
type_number types.TXT = 16
type_number types.SIG = 24
type_number types.KEY = 25
type_number types.AAAA = 28
type_number types.SRV = 33
type_number types.OPT = 41
type_number types.DS = 43
type_number types.RRSIG = 46
type_number types.NSEC = 47
type_number types.DNSKEY = 48
type_number types.NSEC3 = 50
type_number types.NSEC3PARAM = 51
type_number types.CDS = 59
type_number types.CDNSKEY = 60
type_number types.TSIG = 250
type_number types.IXFR = 251
type_number types.AXFR = 252
type_number types.ANY = 255
type_number types.ANAME = 65305
type_number (types.Unknown number) = number

-- the type of a number: the named one, where there is one (RFC 3597, 2)
abbrev pub type_of : ℕ → RecordType
type_of number =
    if number == 0 then types.ZERO else
    (if number == 1 then types.A else
    (if number == 2 then types.NS else
    (if number == 5 then types.CNAME else
    (if number == 6 then types.SOA else
    (if number == 10 then types.NULL else
    (if number == 12 then types.PTR else
    (if number == 15 then types.MX else
    (if number == 16 then types.TXT else
    (if number == 24 then types.SIG else
    (if number == 25 then types.KEY else
    (if number == 28 then types.AAAA else
    (if number == 33 then types.SRV else
    (if number == 41 then types.OPT else
    (if number == 43 then types.DS else
    (if number == 46 then types.RRSIG else
    (if number == 47 then types.NSEC else
    (if number == 48 then types.DNSKEY else
    (if number == 50 then types.NSEC3 else
    (if number == 51 then types.NSEC3PARAM else
    (if number == 59 then types.CDS else
    (if number == 60 then types.CDNSKEY else
    (if number == 250 then types.TSIG else
    (if number == 251 then types.IXFR else
    (if number == 252 then types.AXFR else
    (if number == 255 then types.ANY else
    (if number == 65305 then types.ANAME else
    types.Unknown number))))))))))))))))))))))))))

-- whether the type has a name
abbrev pub is_named_type : RecordType → Bool
is_named_type (types.Unknown number) = false
is_named_type _ = true

-- the mnemonic of a type that has one (RFC 1035, 3.2.2 and 3.2.3)
abbrev pub type_name : RecordType → Option (List ℕ)
type_name types.ZERO = Some (codes "ZERO")
type_name types.A = Some (codes "A")
type_name types.NS = Some (codes "NS")
type_name types.CNAME = Some (codes "CNAME")
type_name types.SOA = Some (codes "SOA")
type_name types.NULL = Some (codes "NULL")
type_name types.PTR = Some (codes "PTR")
type_name types.MX = Some (codes "MX")
type_name types.TXT = Some (codes "TXT")
type_name types.SIG = Some (codes "SIG")
type_name types.KEY = Some (codes "KEY")
type_name types.AAAA = Some (codes "AAAA")
type_name types.SRV = Some (codes "SRV")
type_name types.OPT = Some (codes "OPT")
type_name types.DS = Some (codes "DS")
type_name types.RRSIG = Some (codes "RRSIG")
type_name types.NSEC = Some (codes "NSEC")
type_name types.DNSKEY = Some (codes "DNSKEY")
type_name types.NSEC3 = Some (codes "NSEC3")
type_name types.NSEC3PARAM = Some (codes "NSEC3PARAM")
type_name types.CDS = Some (codes "CDS")
type_name types.CDNSKEY = Some (codes "CDNSKEY")
type_name types.TSIG = Some (codes "TSIG")
type_name types.IXFR = Some (codes "IXFR")
type_name types.AXFR = Some (codes "AXFR")
type_name types.ANY = Some (codes "ANY")
type_name types.ANAME = Some (codes "ANAME")
type_name (types.Unknown number) = None

-- the text in zone files: the mnemonic, or TYPE and the number (RFC 3597, 5)
abbrev pub type_text : RecordType → List ℕ
type_text t = unwrap_or (type_name t) (codes "TYPE" ++ decimal (type_number t))

-- the named type of this text, if there is one; TYPEn is not read
abbrev pub type_from_text : List ℕ → Option RecordType
type_from_text text = find (λ t. bytes_eq (type_text t) text) named_types

-- the types of DNSSEC (RFC 2535, 3 and 4; RFC 4034; RFC 5155, 3 and 4; RFC 7344, 3)
abbrev pub is_dnssec_type : RecordType → Bool
is_dnssec_type types.SIG = true
is_dnssec_type types.KEY = true
is_dnssec_type types.DS = true
is_dnssec_type types.RRSIG = true
is_dnssec_type types.NSEC = true
is_dnssec_type types.DNSKEY = true
is_dnssec_type types.NSEC3 = true
is_dnssec_type types.NSEC3PARAM = true
is_dnssec_type types.CDS = true
is_dnssec_type types.CDNSKEY = true
is_dnssec_type _ = false

-- where a type stands among those of its number: a named one first
abbrev pub type_rank : RecordType → ℕ
type_rank (types.Unknown number) = 1
type_rank _ = 0

-- the order: by number, then a named type before an unknown one
abbrev pub type_cmp : RecordType → RecordType → Ordering
type_cmp = then_cmp (on type_number nat_cmp) (on type_rank nat_cmp)

-- the same type
abbrev pub same_type : RecordType → RecordType → Bool
same_type = eq_of_both (on type_number nat_eq) (on type_rank nat_eq)
