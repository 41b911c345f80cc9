use Rattle.std.proofs.Common.{◌≡◌, List, ℕ, Bool, true, false, refl, sym}
use Rattle.std.proofs.lemmas.Slice.Eq.{bytes_eq-Decides}
use Rattle.std.specs.Str.{bytes_eq}
use Rattle.base.proofs.record_type.RecordType.from_text.Goals as goal

differs : (xs ys : List ℕ) → (ys ≡ xs → ⊥) → bytes_eq xs ys ≡ false
differs xs ys apart = go (bytes_eq xs ys) refl where
  go : (b : Bool) → bytes_eq xs ys ≡ b → b ≡ false
  go true is = absurd (apart (sym ((bytes_eq-Decides xs ys).0 is)))
  go false is = refl

pub returns-in_default : goal.returns-in_default
returns-in_default c =
    let not = c.in_default in
    rw (differs _ _ not.not-ZERO) (rw (differs _ _ not.not-A)
    (rw (differs _ _ not.not-NS) (rw (differs _ _ not.not-CNAME)
    (rw (differs _ _ not.not-SOA) (rw (differs _ _ not.not-NULL)
    (rw (differs _ _ not.not-PTR) (rw (differs _ _ not.not-MX)
    (rw (differs _ _ not.not-TXT) (rw (differs _ _ not.not-SIG)
    (rw (differs _ _ not.not-KEY) (rw (differs _ _ not.not-AAAA)
    (rw (differs _ _ not.not-SRV) (rw (differs _ _ not.not-OPT)
    (rw (differs _ _ not.not-DS) (rw (differs _ _ not.not-RRSIG)
    (rw (differs _ _ not.not-NSEC) (rw (differs _ _ not.not-DNSKEY)
    (rw (differs _ _ not.not-NSEC3) (rw (differs _ _ not.not-NSEC3PARAM)
    (rw (differs _ _ not.not-CDS) (rw (differs _ _ not.not-CDNSKEY)
    (rw (differs _ _ not.not-TSIG) (rw (differs _ _ not.not-IXFR)
    (rw (differs _ _ not.not-AXFR) (rw (differs _ _ not.not-ANY)
    (rw (differs _ _ not.not-ANAME) refl))))))))))))))))))))))))))
