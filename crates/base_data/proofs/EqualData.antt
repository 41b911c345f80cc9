-- Equal data has one type and one kind.
use Rattle.std.proofs.Common.{◌≡◌, ℕ, Bool, List, ap, true, refl, rules}
use Rattle.std.specs.Prelude.{IsTrue, ◌&&◌, ◌↔◌}
use Rattle.std.specs.Bool.{Decides}
use Rattle.std.specs.Cmp.{first_so, second_so}
use Rattle.base.specs.RecordType.{same_type}
use Rattle.base.specs.declared.record_type.RecordType.{RecordType}
use Rattle.base_data.proofs.ByteWords.{bytes_same}
use Rattle.base_data.specs.Kinds.{kind_rank, type_of_data}
use Rattle.base_data.specs.SameData.{same_data}
use Rattle.base_data.specs.contracts.rdata.a.APartialEq.TheImpl as a_equality
use Rattle.base_data.specs.contracts.rdata.aaaa.AAAAPartialEq.TheImpl as aaaa_equality
use Rattle.base_data.specs.declared.rdata.RData.{RData}
use Rattle.base_data.specs.declared.rdata.a.A.{A}
use Rattle.base_data.specs.declared.rdata.aaaa.AAAA.{AAAA}
use Rattle.base_data.specs.declared.rdata.RData.TheVariants as kinds

abbrev a_eq : A → A → Bool
a_eq = (a_equality.ghosts).eq

abbrev aaaa_eq : AAAA → AAAA → Bool
aaaa_eq = (aaaa_equality.ghosts).eq

types_decide : (a b : RecordType) → Decides (same_type a b) (a ≡ b)
types_decide = search rules

pub one_type : (a b : RData) → same_data a b ≡ true → type_of_data a ≡ type_of_data b
one_type (kinds.A a) (kinds.A b) h = refl
one_type (kinds.AAAA a) (kinds.AAAA b) h = refl
one_type (kinds.NS a) (kinds.NS b) h = refl
one_type (kinds.CNAME a) (kinds.CNAME b) h = refl
one_type (kinds.PTR a) (kinds.PTR b) h = refl
one_type (kinds.ANAME a) (kinds.ANAME b) h = refl
one_type (kinds.MX a) (kinds.MX b) h = refl
one_type (kinds.SOA a) (kinds.SOA b) h = refl
one_type (kinds.SRV a) (kinds.SRV b) h = refl
one_type (kinds.TXT a) (kinds.TXT b) h = refl
one_type (kinds.NULL a) (kinds.NULL b) h = refl
one_type (kinds.OPT a) (kinds.OPT b) h = refl
one_type (kinds.TSIG a) (kinds.TSIG b) h = refl
one_type (kinds.Update0 a) (kinds.Update0 b) h = (types_decide a b).0 h
one_type (kinds.Unknown a x) (kinds.Unknown b y) h = (types_decide a b).0 (first_so (same_type a b) _ h)
one_type _ _ h = cc

pub one_kind : (a b : RData) → same_data a b ≡ true → kind_rank a ≡ kind_rank b
one_kind (kinds.A a) (kinds.A b) h = refl
one_kind (kinds.AAAA a) (kinds.AAAA b) h = refl
one_kind (kinds.NS a) (kinds.NS b) h = refl
one_kind (kinds.CNAME a) (kinds.CNAME b) h = refl
one_kind (kinds.PTR a) (kinds.PTR b) h = refl
one_kind (kinds.ANAME a) (kinds.ANAME b) h = refl
one_kind (kinds.MX a) (kinds.MX b) h = refl
one_kind (kinds.SOA a) (kinds.SOA b) h = refl
one_kind (kinds.SRV a) (kinds.SRV b) h = refl
one_kind (kinds.TXT a) (kinds.TXT b) h = refl
one_kind (kinds.NULL a) (kinds.NULL b) h = refl
one_kind (kinds.OPT a) (kinds.OPT b) h = refl
one_kind (kinds.TSIG a) (kinds.TSIG b) h = refl
one_kind (kinds.Update0 a) (kinds.Update0 b) h = refl
one_kind (kinds.Unknown a x) (kinds.Unknown b y) h = refl
one_kind _ _ h = cc

pub unknown_same : (s t : RecordType) (a b : List ℕ)
    → IsTrue (same_data (kinds.Unknown s a) (kinds.Unknown t b)) ↔ (IsTrue (same_type s t) × (a ≡ b))
unknown_same s t a b =
    let bytes = bytes_same a b in (
      λ yes. (first_so (same_type s t) _ yes, bytes.0 (second_so (same_type s t) _ yes)),
      λ same. λ i. same.0 i && bytes.1 same.1 i,
    )

pub a_same : (a b : A) → IsTrue (a_eq a b) ↔ (a ≡ b)
a_same a b =
    let bytes = bytes_same a.octets b.octets in
    (λ yes. ap (λ (xs : List ℕ). record { octets = xs }) (bytes.0 yes), λ same. bytes.1 (ap (λ (x : A). x.octets) same))

pub aaaa_same : (a b : AAAA) → IsTrue (aaaa_eq a b) ↔ (a ≡ b)
aaaa_same a b =
    let bytes = bytes_same a.octets b.octets in (
      λ yes. ap (λ (xs : List ℕ). record { octets = xs }) (bytes.0 yes),
      λ same. bytes.1 (ap (λ (x : AAAA). x.octets) same),
    )
