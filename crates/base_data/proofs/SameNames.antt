-- Equal data whose names are the same, two at most, is the same.
use Rattle.base.specs.names.Labels.{NameValue}
use Rattle.base_data.proofs.ByteWords.{bytes_same}
use Rattle.base_data.proofs.Comparing.{options_decide}
use Rattle.base_data.proofs.EqualData.{a_same, aaaa_same, unknown_same}
use Rattle.base_data.proofs.MXLemmas.{mx_same}
use Rattle.base_data.proofs.SOALemmas.{soa_same}
use Rattle.base_data.proofs.SRVLemmas.{srv_same}
use Rattle.base_data.proofs.SameData.{types_Decide}
use Rattle.base_data.proofs.StringLemmas.{same_txt-is}
use Rattle.base_data.specs.Kinds.{data_names}
use Rattle.base_data.specs.SameData.{same_data}
use Rattle.base_data.specs.declared.rdata.RData.TheVariants as kinds
use Rattle.base_data.specs.declared.rdata.RData.{RData}
use Rattle.base_data.specs.declared.rdata.mx.MX.{MX}
use Rattle.base_data.specs.declared.rdata.soa.SOA.{SOA}
use Rattle.base_data.specs.declared.rdata.srv.SRV.{SRV}
use Rattle.base_data.specs.contracts.rdata.RDataEq.TheImpl.Laws.{laws-law as data_laws}
use Rattle.std.proofs.Common.{List, [], ◌∷◌, ◌≤◌, ap, arith, length, refl, subst, true, ◌≡◌}
use Rattle.std.specs.Prelude.{slice_get}

-- lists of two at most are the same by their first and second items
two_same : {A : Type 0} (xs ys : List A) → length xs ≤ 2 → length ys ≤ 2 → slice_get xs 0 ≡ slice_get ys 0
    → slice_get xs 1 ≡ slice_get ys 1 → xs ≡ ys
two_same [] [] p q e f = refl
two_same (x ∷ []) (y ∷ []) p q e f = cc
two_same (x ∷ x' ∷ []) (y ∷ y' ∷ y'' ∷ ys) p q e f = absurd (omega arith)
two_same (x ∷ x' ∷ x'' ∷ xs) (y ∷ y' ∷ ys) p q e f = absurd (omega arith)
two_same xs ys p q e f = cc

name_is : (a b : NameValue) (xs ys : List NameValue) → a ∷ xs ≡ b ∷ ys → a ≡ b
name_is a b xs ys e = cc

second_is : (a b c d : NameValue) (xs ys : List NameValue) → a ∷ b ∷ xs ≡ c ∷ d ∷ ys → b ≡ d
second_is a b c d xs ys e = cc

mx_is : (a b : MX) → a.preference ≡ b.preference → a.exchange ≡ b.exchange → a ≡ b
mx_is a b p n = λ i. record { preference = p i; exchange = n i }

soa_is : (a b : SOA) → a.mname ≡ b.mname → a.rname ≡ b.rname → a.serial ≡ b.serial → a.refresh ≡ b.refresh
    → a.retry ≡ b.retry → a.expire ≡ b.expire → a.minimum ≡ b.minimum → a ≡ b
soa_is a b m r s f t e n = λ i. record {
  mname = m i;
  rname = r i;
  serial = s i;
  refresh = f i;
  retry = t i;
  expire =
      e i;
  minimum = n i;
}

srv_is : (a b : SRV) → a.priority ≡ b.priority → a.weight ≡ b.weight → a.port ≡ b.port → a.target ≡ b.target → a ≡ b
srv_is a b p w q n = λ i. record { priority = p i; weight = w i; port = q i; target = n i }

-- equal data with the same names is the same
one_data : (a b : RData) → same_data a b ≡ true → data_names a ≡ data_names b → a ≡ b
one_data (kinds.A a) (kinds.A b) h n = ap kinds.A ((a_same a b).0 h)
one_data (kinds.AAAA a) (kinds.AAAA b) h n = ap kinds.AAAA ((aaaa_same a b).0 h)
one_data (kinds.NS a) (kinds.NS b) h n = ap (λ (x : NameValue). kinds.NS (record { name = x }))
    (name_is a.name b.name _ _ n)
one_data (kinds.CNAME a) (kinds.CNAME b) h n =
    ap (λ (x : NameValue). kinds.CNAME (record { name = x })) (name_is a.name b.name _ _ n)
one_data (kinds.PTR a) (kinds.PTR b) h n =
    ap (λ (x : NameValue). kinds.PTR (record { name = x })) (name_is a.name b.name _ _ n)
one_data (kinds.ANAME a) (kinds.ANAME b) h n =
    ap (λ (x : NameValue). kinds.ANAME (record { name = x })) (name_is a.name b.name _ _ n)
one_data (kinds.MX a) (kinds.MX b) h n = ap kinds.MX
    (mx_is a b ((mx_same a b).0 h).0 (name_is a.exchange b.exchange _ _ n))
one_data (kinds.SOA a) (kinds.SOA b) h n =
    let f = (soa_same a b).0 h in
    ap kinds.SOA (soa_is a b (name_is a.mname b.mname _ _ n) (second_is _ a.rname _ b.rname _ _ n) f.2 f.3 f.4 f.5 f.6)
one_data (kinds.SRV a) (kinds.SRV b) h n =
    let f = (srv_same a b).0 h in
    ap kinds.SRV (srv_is a b f.0 f.1 f.2 (name_is a.target b.target _ _ n))
one_data (kinds.TXT a) (kinds.TXT b) h n = ap kinds.TXT ((same_txt-is a b).0 h)
one_data (kinds.NULL a) (kinds.NULL b) h n = ap kinds.NULL ((bytes_same a b).0 h)
one_data (kinds.OPT a) (kinds.OPT b) h n = ap kinds.OPT ((options_decide a b).0 h)
one_data (kinds.TSIG a) (kinds.TSIG b) h n = ap kinds.TSIG ((bytes_same a b).0 h)
one_data (kinds.Update0 a) (kinds.Update0 b) h n = ap kinds.Update0 ((types_Decide a b).0 h)
one_data (kinds.Unknown a x) (kinds.Unknown b y) h n =
    let f = (unknown_same a b x y).0 h in
    λ i. kinds.Unknown ((types_Decide a b).0 f.0 i) (f.1 i)
one_data _ _ h n = cc

-- equal data whose first and second names are the same is the same
pub identical : (a b : RData) → length (data_names a) ≤ 2 → length (data_names b) ≤ 2 → same_data a b ≡ true
    → slice_get (data_names a) 0 ≡ slice_get (data_names b) 0 → slice_get (data_names a) 1 ≡ slice_get (data_names b) 1
    → a ≡ b
identical a b p q h first second = one_data a b h (two_same (data_names a) (data_names b) p q first second)

pub equal_to_itself : (a b : RData) → a ≡ b → same_data a b ≡ true
equal_to_itself a b e = subst (λ (d : RData). same_data a d ≡ true) e (data_laws.refl a)
