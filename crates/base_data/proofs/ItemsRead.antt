-- The items that a text shows name the data again: each line of the last lemma takes what stands above it for its kind.
use Rattle.std.proofs.Common.{◌≡◌, ℕ, ◌^◌, ◌<◌, List, [], ◌∷◌, map, refl, ap, subst, arith, Option, Some, None, Ok}
use Rattle.std.specs.Prelude.{option_map}
use Rattle.std.specs.Fmt.{decimal}
use Rattle.std.specs.List.{flat_map, join_with_byte}
use Rattle.std.specs.Net.Text.{ipv4_text}
use Rattle.base.specs.names.Labels.{NameValue}
use Rattle.base.specs.texts.NameText.{name_text}
use Rattle.base.specs.declared.record_type.RecordType.{RecordType}
use Rattle.base.specs.declared.record_type.RecordType.TheVariants as types
use Rattle.base_data.proofs.FieldsRead.{ipv4_read, ipv6_read, name_read, number_decimal, ttl_decimal}
use Rattle.base_data.proofs.StringsRead.{strings_read}
use Rattle.base_data.specs.A.{a_of}
use Rattle.base_data.specs.AAAA.{aaaa_of, aaaa_text}
use Rattle.base_data.specs.ANAME.{aname_of}
use Rattle.base_data.specs.CNAME.{cname_of}
use Rattle.base_data.specs.Kind.{AreOctets, HasText}
use Rattle.base_data.specs.Kinds.{HasTextForm, any_of, data_of, data_text, items_of, shown_item, type_of_data}
use Rattle.base_data.specs.MX.{mx_of}
use Rattle.base_data.specs.NS.{ns_of}
use Rattle.base_data.specs.OneName.{one_name_of}
use Rattle.base_data.specs.PTR.{ptr_of}
use Rattle.base_data.specs.SOA.{SOAFits, soa_of}
use Rattle.base_data.specs.SRV.{SRVFits, srv_of}
use Rattle.base_data.specs.TXT.{AreStrings, in_quotes, string_byte, string_text, txt_of}
use Rattle.base_data.specs.declared.rdata.RData.{RData}
use Rattle.base_data.specs.declared.rdata.RData.TheVariants as kinds
use Rattle.base_data.specs.declared.rdata.a.A.{A}
use Rattle.base_data.specs.declared.rdata.aaaa.AAAA.{AAAA}
use Rattle.base_data.specs.declared.rdata.aname.ANAME.{ANAME}
use Rattle.base_data.specs.declared.rdata.cname.CNAME.{CNAME}
use Rattle.base_data.specs.declared.rdata.mx.MX.{MX}
use Rattle.base_data.specs.declared.rdata.ns.NS.{NS}
use Rattle.base_data.specs.declared.rdata.ptr.PTR.{PTR}
use Rattle.base_data.specs.declared.rdata.soa.SOA.{SOA}
use Rattle.base_data.specs.declared.rdata.srv.SRV.{SRV}

-- ---- the data of each kind from its own items

a_read : (x : A) → AreOctets 4 x.octets → a_of (ipv4_text x.octets ∷ []) ≡ Some x
unfolding a_of
a_read x are = ap (option_map {U = A} (λ (o : List ℕ). record { octets = o })) (ipv4_read x.octets are)

aaaa_read : (x : AAAA) → AreOctets 16 x.octets → aaaa_of (aaaa_text x.octets ∷ []) ≡ Some x
unfolding aaaa_of
aaaa_read x are = ap (option_map {U = AAAA} (λ (o : List ℕ). record { octets = o })) (ipv6_read x.octets are)

one_read : {X : Type 0} (of : NameValue → X) (n : NameValue) → HasText n
    → one_name_of of (name_text n ∷ []) None ≡ Some (of n)
one_read of n has = ap (option_map of) (name_read n has)

ns_read : (x : NS) → HasText x.name → ns_of (name_text x.name ∷ []) None ≡ Some x
unfolding ns_of
ns_read x has = one_read {X = NS} (λ name. record { name = name }) x.name has

cname_read : (x : CNAME) → HasText x.name → cname_of (name_text x.name ∷ []) None ≡ Some x
unfolding cname_of
cname_read x has = one_read {X = CNAME} (λ name. record { name = name }) x.name has

ptr_read : (x : PTR) → HasText x.name → ptr_of (name_text x.name ∷ []) None ≡ Some x
unfolding ptr_of
ptr_read x has = one_read {X = PTR} (λ name. record { name = name }) x.name has

aname_read : (x : ANAME) → HasText x.name → aname_of (name_text x.name ∷ []) None ≡ Some x
unfolding aname_of
aname_read x has = one_read {X = ANAME} (λ name. record { name = name }) x.name has

mx_read : (x : MX) → x.preference < 2 ^ 16 → HasText x.exchange
    → mx_of (decimal x.preference ∷ name_text x.exchange ∷ []) None ≡ Some x
unfolding mx_of
mx_read x fits has = rw (number_decimal 16 x.preference fits (omega arith), name_read x.exchange has) refl

srv_read : (x : SRV) → SRVFits x → HasText x.target
    → srv_of (decimal x.priority ∷ decimal x.weight ∷ decimal x.port ∷ name_text x.target ∷ []) None ≡ Some x
unfolding srv_of
srv_read x fits has =
    let number = λ (n : ℕ) (small : n < 2 ^ 16). number_decimal 16 n small (omega arith) in
    rw (number x.priority fits.priority, number x.weight fits.weight, number x.port fits.port, name_read x.target has)
    refl

soa_read : (x : SOA) → HasText x.mname → HasText x.rname → SOAFits x
    → soa_of (name_text x.mname ∷ name_text x.rname ∷ decimal x.serial ∷ decimal x.refresh ∷ decimal x.retry ∷ decimal
    x.expire ∷ decimal x.minimum ∷ []) None ≡ Some x
unfolding soa_of
soa_read x m r fits =
    rw (
      name_read x.mname m,
      name_read x.rname r,
      number_decimal 32 x.serial fits.serial (omega (arith, fits.serial)),
      ttl_decimal x.refresh fits.refresh,
      ttl_decimal x.retry fits.retry,
      ttl_decimal x.expire fits.expire,
      ttl_decimal x.minimum fits.minimum,
    ) refl

txt_read : (xs : List (List ℕ)) → AreStrings xs → txt_of (map (flat_map string_byte) xs) ≡ Some xs
unfolding txt_of
txt_read [] are = absurd (are.some refl)
txt_read (x ∷ xs) are = strings_read (x ∷ xs) are.bytes are.short

-- ---- the data of any kind

-- the items that are meant
these : (P : List (List ℕ) → Type 0) (own items : List (List ℕ)) → Some own ≡ Some items → P own → P items
these P own items is = subst P (same is) where
  same : Some own ≡ Some items → own ≡ items
  same e = cc

none_of : {items : List (List ℕ)} → None ≡ Some items → ⊥
none_of e = cc

-- data of one kind is data of any
any_read : {X : Type 0} (kind : X → RData) (type : RecordType) (of : List (List ℕ) → Option X)
    (own items : List (List ℕ)) (x : X) → of own ≡ Some x
    → Some own ≡ Some items → any_of kind type (of items) ≡ Ok (kind x)
any_read kind type of own items x read is =
    these (λ (these_items : List (List ℕ)). any_of kind type (of these_items) ≡ Ok (kind x)) own items is
    (ap (any_of kind type) read)

pub data_read : (d : RData) (items : List (List ℕ)) → items_of d ≡ Some items → HasTextForm d
    → data_of (type_of_data d) items None ≡ Ok d
unfolding data_of
data_read (kinds.A x) items is so = any_read (λ y. kinds.A y) types.A a_of _ items x (a_read x so) is
data_read (kinds.AAAA x) items is so = any_read (λ y. kinds.AAAA y) types.AAAA aaaa_of _ items x (aaaa_read x so) is
data_read (kinds.NS x) items is so = any_read (λ y. kinds.NS y) types.NS (λ own. ns_of own None) _ items x
    (ns_read x so) is
data_read (kinds.CNAME x) items is so = any_read (λ y. kinds.CNAME y) types.CNAME (λ own. cname_of own None) _ items x
    (cname_read x so) is
data_read (kinds.PTR x) items is so = any_read (λ y. kinds.PTR y) types.PTR (λ own. ptr_of own None) _ items x
    (ptr_read x so) is
data_read (kinds.ANAME x) items is so = any_read (λ y. kinds.ANAME y) types.ANAME (λ own. aname_of own None) _ items x
    (aname_read x so) is
data_read (kinds.MX x) items is so = any_read (λ y. kinds.MX y) types.MX (λ own. mx_of own None) _ items x
    (mx_read x so.0 so.1) is
data_read (kinds.SOA x) items is so = any_read (λ y. kinds.SOA y) types.SOA (λ own. soa_of own None) _ items x
    (soa_read x so.0 so.1 so.2) is
data_read (kinds.SRV x) items is so = any_read (λ y. kinds.SRV y) types.SRV (λ own. srv_of own None) _ items x
    (srv_read x so.0 so.1) is
data_read (kinds.TXT x) items is so = any_read (λ y. kinds.TXT y) types.TXT txt_of _ items x (txt_read x so) is
data_read other items is so = absurd so

-- ---- the text of data is its items

strings_shown : (xs : List (List ℕ)) → map string_text xs ≡ map in_quotes (map (flat_map string_byte) xs)
strings_shown [] = refl
strings_shown (x ∷ xs) = ap (λ (rest : List (List ℕ)). string_text x ∷ rest) (strings_shown xs)

-- the items of data joined, as they stand in its text
abbrev joined : RData → List (List ℕ) → List ℕ
joined d items = join_with_byte 32 (map (shown_item d) items)

any_shown : (d : RData) (own items : List (List ℕ)) → data_text d ≡ joined d own → Some own ≡ Some items
    → data_text d ≡ joined d items
any_shown d own items text is = these (λ (these_items : List (List ℕ)). data_text d ≡ joined d these_items) own items is
    text

pub text_shown : (d : RData) (items : List (List ℕ)) → items_of d ≡ Some items
    → data_text d ≡ join_with_byte 32 (map (shown_item d) items)
text_shown (kinds.A x) items is = any_shown (kinds.A x) _ items refl is
text_shown (kinds.AAAA x) items is = any_shown (kinds.AAAA x) _ items refl is
text_shown (kinds.NS x) items is = any_shown (kinds.NS x) _ items refl is
text_shown (kinds.CNAME x) items is = any_shown (kinds.CNAME x) _ items refl is
text_shown (kinds.PTR x) items is = any_shown (kinds.PTR x) _ items refl is
text_shown (kinds.ANAME x) items is = any_shown (kinds.ANAME x) _ items refl is
text_shown (kinds.MX x) items is = any_shown (kinds.MX x) _ items refl is
text_shown (kinds.SOA x) items is = any_shown (kinds.SOA x) _ items refl is
text_shown (kinds.SRV x) items is = any_shown (kinds.SRV x) _ items refl is
text_shown (kinds.TXT x) items is = any_shown (kinds.TXT x) _ items (ap (join_with_byte 32) (strings_shown x)) is
text_shown other items is = absurd (none_of is)
