-- Hosts that have a service: read where their word stands, written, equal and tied.
use Rattle.std.proofs.Common.{IsTrue, List, [], ap, arith, drop, length, refl, subst, take, true, ℕ, ◌++◌, ◌<◌, ◌∷◌}
use Rattle.std.proofs.Common.{◌≡◌, ◌≤◌}
use Rattle.std.specs.Cmp.{first_so, second_so}
use Rattle.std.specs.Int.{to_be_bytes, w16}
use Rattle.std.specs.Prelude.{◌==◌, ◌↔◌}
use Rattle.base.specs.names.NameOrder.{same_name}
use Rattle.base_data.proofs.FieldLemmas.{both, is_number, number_is, word_same}
use Rattle.base_data.proofs.NameWords.{here_name, name_here, name_inside, name_longer, name_same, octets_same}
use Rattle.base_data.proofs.NameWords.{same_name-from}
use Rattle.base_data.proofs.SameData.{IsSame, flag_of}
use Rattle.base_data.proofs.Tells.{Tells, tells_name, tells_number, tells_ok, tells_same, tells_then}
use Rattle.base_data.specs.Kinds.{KeptData}
use Rattle.base_data.specs.SRV.{SRVWord, srv_at}
use Rattle.base_data.specs.contracts.rdata.RDataPartialEq.TheImpl.{ghosts as equality}
use Rattle.base_data.specs.contracts.rdata.srv.SRVPartialEq.TheImpl.{ghosts as srv_equality}
use Rattle.base_data.specs.declared.rdata.RData.TheVariants as kinds
use Rattle.base_data.specs.declared.rdata.srv.SRV.{SRV}

pub tells_srv : (B : List ℕ) (i : ℕ) → Tells (srv_at B i) (λ r. SRVWord r.0 B i r.1 × (r.0.target.absolute ≡ true))
unfolding srv_at
tells_srv B i = tells_same
    (tells_then (tells_number w16 B i) (λ priority. tells_then (tells_number w16 B priority.1)
    (λ weight. tells_then (tells_number w16 B weight.1) (λ port. tells_then (tells_name B port.1) (λ target.
    tells_ok (record { priority = priority.0; weight = weight.0; port = port.0; target = target.0 }, target.1))))))
    (λ r (priority, a, (weight, b, (port, c, (target, at, is)))).
    let name = name_here B port.1 target at in
    subst (λ (x : SRV × ℕ). SRVWord x.0 B i x.1 × (x.0.target.absolute ≡ true)) is
    ((priority.1, a, (weight.1, b, (port.1, c, name.0))), name.1))
    (λ r is.
    let w = is.0 in
    let x = w.2 in
    let y = x.2 in (
      (r.0.priority, w.0),
      w.1,
      (
        (r.0.weight, x.0),
        x.1,
        ((r.0.port, y.0), y.1, ((r.0.target, r.1), here_name B y.0 r.0.target r.1 y.2 is.1, refl)),
      ),
    ))

-- it has a byte at least, and ends inside the buffer
pub srv_longer : (x : SRV) (B : List ℕ) (i e : ℕ) → SRVWord x B i e → i < e
srv_longer x B i e word =
    let n = word.2 in
    let a = n.2 in
    omega (arith, word.1.1, n.1.1, a.1.1, name_longer a.2.0)

pub srv_inside : (x : SRV) (B : List ℕ) (i e : ℕ) → SRVWord x B i e → e ≤ length B
srv_inside x B i e word = name_inside x.target.labels B word.2.2.0 e word.2.2.2

-- equal exactly where each field is
pub srv_same : (a b : SRV) → IsTrue (srv_equality.eq a b)
    ↔ ((a.priority ≡ b.priority) × (a.weight ≡ b.weight) × (a.port ≡ b.port) × IsTrue (same_name a.target b.target))
srv_same a b = (
  λ h.
      let p = second_so (a.priority == b.priority) _ h in
      let q = second_so (a.weight == b.weight) _ p in (
        number_is _ _ (first_so (a.priority == b.priority) _ h),
        number_is _ _ (first_so (a.weight == b.weight) _ p),
        number_is _ _ (first_so (a.port == b.port) _ q),
        second_so (a.port == b.port) _ q,
      ),
  λ f. both _ _ (is_number _ _ f.0) (both _ _ (is_number _ _ f.1) (both _ _ (is_number _ _ f.2) f.3)),
)

-- the order ties exactly what is equal
pub srv_is : (x y : SRV) → KeptData (kinds.SRV x) → KeptData (kinds.SRV y)
    → IsSame (kinds.SRV x) (kinds.SRV y) ↔ IsTrue (equality.eq (kinds.SRV x) (kinds.SRV y))
srv_is x y p q = (there, back) where
  there : IsSame (kinds.SRV x) (kinds.SRV y) → IsTrue (equality.eq (kinds.SRV x) (kinds.SRV y))
  there s =
      (srv_same x y).1 (
        word_same x.priority y.priority p.0.priority q.0.priority (ap (take 2) s.bytes),
        word_same x.weight y.weight p.0.weight q.0.weight (ap (λ (l : List ℕ). take 2 (drop 2 l)) s.bytes),
        word_same x.port y.port p.0.port q.0.port (ap (λ (l : List ℕ). take 2 (drop 4 l)) s.bytes),
        same_name-from x.target y.target (octets_same x.target y.target (ap (drop 6) s.bytes)) (flag_of 0 _ _ s.flags),
      )

  back : IsTrue (equality.eq (kinds.SRV x) (kinds.SRV y)) → IsSame (kinds.SRV x) (kinds.SRV y)
  back h =
      let f = (srv_same x y).0 h in
      let n = name_same x.target y.target f.3 in
      record {
        bytes = λ i. to_be_bytes w16 (f.0 i) ++ to_be_bytes w16 (f.1 i) ++ to_be_bytes w16 (f.2 i) ++ n.0 i;
        type = refl;
        rank = refl;
        flags = λ i. n.1 i ∷ [];
      }
