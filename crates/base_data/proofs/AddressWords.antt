-- Addresses, read where their bytes stand.
use Rattle.std.proofs.Common.{List, arith, length, refl, subst, ℕ, ◌≡◌}
use Rattle.base.specs.Words.{Bytes}
use Rattle.base_data.proofs.Tells.{Fills, fills_from, fills_same, room_for, tells_bytes, tells_ok, tells_then}
use Rattle.base_data.specs.A.{a_at}
use Rattle.base_data.specs.AAAA.{aaaa_at}
use Rattle.base_data.specs.declared.rdata.a.A.{A}
use Rattle.base_data.specs.declared.rdata.aaaa.AAAA.{AAAA}

pub fills_a : (B : List ℕ) (i end : ℕ) → Fills (a_at B i) end (λ x. Bytes x.octets B i end × (length x.octets ≡ 4))
fills_a B i end = fills_same (fills_from end
    (tells_then (tells_bytes 4 B i) (λ r. tells_ok (record { octets = r.0 }, r.1))))
    (λ x (r, at, is). subst (λ (y : A × ℕ). Bytes y.0.octets B i y.1 × (length y.0.octets ≡ 4)) is
    (at.word, at.counted))
    (λ x is. (
      (x.octets, end),
      record {
        word = is.0;
        counted = is.1;
        inside =
            omega (arith, room_for x.octets B i is.0.0 (omega (arith, is.1)), is.1);
      },
      refl,
    ))

pub fills_aaaa : (B : List ℕ) (i end : ℕ)
    → Fills (aaaa_at B i) end (λ x. Bytes x.octets B i end × (length x.octets ≡ 16))
fills_aaaa B i end = fills_same (fills_from end
    (tells_then (tells_bytes 16 B i) (λ r. tells_ok (record { octets = r.0 }, r.1))))
    (λ x (r, at, is). subst (λ (y : AAAA × ℕ). Bytes y.0.octets B i y.1 × (length y.0.octets ≡ 16)) is
    (at.word, at.counted))
    (λ x is. (
      (x.octets, end),
      record {
        word = is.0;
        counted = is.1;
        inside =
            omega (arith, room_for x.octets B i is.0.0 (omega (arith, is.1)), is.1);
      },
      refl,
    ))
