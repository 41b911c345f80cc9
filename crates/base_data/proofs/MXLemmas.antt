-- Mail exchangers: read where their word stands, written, equal and tied.
use Rattle.std.proofs.Common.{IsTrue, List, [], ap, arith, drop, length, refl, subst, take, true, ℕ, ◌++◌, ◌<◌, ◌∷◌}
use Rattle.std.proofs.Common.{◌≡◌, ◌≤◌}
use Rattle.std.specs.Cmp.{first_so, second_so}
use Rattle.std.specs.Int.{to_be_bytes, w16}
use Rattle.std.specs.Prelude.{◌==◌, ◌↔◌}
use Rattle.base.specs.names.NameOrder.{same_name}
use Rattle.base_data.proofs.FieldLemmas.{both, is_number, number_is, word_same}
use Rattle.base_data.proofs.NameWords.{here_name, name_here, name_inside, name_longer, name_same, octets_same}
use Rattle.base_data.proofs.NameWords.{same_name-from}
use Rattle.base_data.proofs.SameData.{IsSame, flag_of}
use Rattle.base_data.proofs.Tells.{Tells, tells_name, tells_number, tells_ok, tells_same, tells_then}
use Rattle.base_data.specs.Kinds.{KeptData}
use Rattle.base_data.specs.MX.{MXWord, mx_at}
use Rattle.base_data.specs.contracts.rdata.RDataPartialEq.TheImpl.{ghosts as equality}
use Rattle.base_data.specs.contracts.rdata.mx.MXPartialEq.TheImpl.{ghosts as mx_equality}
use Rattle.base_data.specs.declared.rdata.RData.TheVariants as kinds
use Rattle.base_data.specs.declared.rdata.mx.MX.{MX}

pub tells_mx : (B : List ℕ) (i : ℕ) → Tells (mx_at B i) (λ r. MXWord r.0 B i r.1 × (r.0.exchange.absolute ≡ true))
unfolding mx_at
tells_mx B i = tells_same
    (tells_then (tells_number w16 B i) (λ preference. tells_then (tells_name B preference.1)
    (λ exchange. tells_ok (record { preference = preference.0; exchange = exchange.0 }, exchange.1))))
    (λ r (preference, number, (exchange, at, is)).
    let name = name_here B preference.1 exchange at in
    subst (λ (x : MX × ℕ). MXWord x.0 B i x.1 × (x.0.exchange.absolute ≡ true)) is
    ((preference.1, number, name.0), name.1))
    (λ r is.
    let w = is.0 in
    ((r.0.preference, w.0), w.1, ((r.0.exchange, r.1), here_name B w.0 r.0.exchange r.1 w.2 is.1, refl)))

-- it has a byte at least, and ends inside the buffer
pub mx_longer : (x : MX) (B : List ℕ) (i e : ℕ) → MXWord x B i e → i < e
mx_longer x B i e word = omega (arith, word.1.1, name_longer word.2.0)

pub mx_inside : (x : MX) (B : List ℕ) (i e : ℕ) → MXWord x B i e → e ≤ length B
mx_inside x B i e word = name_inside x.exchange.labels B word.0 e word.2

-- equal exactly where each field is
pub mx_same : (a b : MX) → IsTrue (mx_equality.eq a b)
    ↔ ((a.preference ≡ b.preference) × IsTrue (same_name a.exchange b.exchange))
mx_same a b = (
  λ h. (number_is _ _ (first_so (a.preference == b.preference) _ h), second_so (a.preference == b.preference) _ h),
  λ f. both _ _ (is_number _ _ f.0) f.1,
)

-- the order ties exactly what is equal
pub mx_is : (x y : MX) → KeptData (kinds.MX x) → KeptData (kinds.MX y)
    → IsSame (kinds.MX x) (kinds.MX y) ↔ IsTrue (equality.eq (kinds.MX x) (kinds.MX y))
mx_is x y p q = (there, back) where
  there : IsSame (kinds.MX x) (kinds.MX y) → IsTrue (equality.eq (kinds.MX x) (kinds.MX y))
  there s =
      (mx_same x y).1 (
        word_same x.preference y.preference p.0 q.0 (ap (take 2) s.bytes),
        same_name-from x.exchange y.exchange (octets_same x.exchange y.exchange (ap (drop 2) s.bytes))
            (flag_of 0 _ _ s.flags),
      )

  back : IsTrue (equality.eq (kinds.MX x) (kinds.MX y)) → IsSame (kinds.MX x) (kinds.MX y)
  back h =
      let f = (mx_same x y).0 h in
      let n = name_same x.exchange y.exchange f.1 in
      record { bytes = λ i. to_be_bytes w16 (f.0 i) ++ n.0 i; type = refl; rank = refl; flags = λ i. n.1 i ∷ [] }
