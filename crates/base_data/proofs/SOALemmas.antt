-- The start of a zone of authority: read where their word stands, written, equal and tied.
use Rattle.std.proofs.Common.{IsTrue, List, [], ap, arith, drop, get_or, length, refl, subst, sym, take, true, ℕ, ◌++◌}
use Rattle.std.proofs.Common.{◌<◌, ◌∙◌, ◌∷◌, ◌≡◌, ◌≤◌}
use Rattle.std.proofs.lemmas.List.{append_assoc, length-map}
use Rattle.std.specs.Char.{to_ascii_lowercase}
use Rattle.std.specs.Cmp.{first_so, second_so}
use Rattle.std.specs.Int.{to_be_bytes, w32}
use Rattle.std.specs.Prelude.{◌==◌, ◌↔◌}
use Rattle.base.specs.names.Labels.{AreLabels, NameValue, wire_of}
use Rattle.base.specs.names.NameOrder.{canonical_name, folded, folded_labels, same_name}
use Rattle.base_data.proofs.FieldLemmas.{both, is_number, long_same, number_is, split}
use Rattle.base_data.proofs.NameWords.{here_name, name_here, name_longer, name_same, same_name-from}
use Rattle.base_data.proofs.SameData.{IsSame, flag_of}
use Rattle.base_data.proofs.Tells.{Tells, tells_name, tells_number, tells_ok, tells_same, tells_then}
use Rattle.base_data.specs.Kinds.{KeptData}
use Rattle.base_data.specs.NameData.{name_octets}
use Rattle.base_data.specs.SOA.{SOAWord, soa_at}
use Rattle.base_data.specs.contracts.rdata.RDataPartialEq.TheImpl.{ghosts as equality}
use Rattle.base_data.specs.contracts.rdata.soa.SOAPartialEq.TheImpl.{ghosts as soa_equality}
use Rattle.base_data.specs.declared.rdata.RData.TheVariants as kinds
use Rattle.base_data.specs.declared.rdata.soa.SOA.{SOA}

pub tells_soa : (B : List ℕ) (i : ℕ) → Tells (soa_at B i)
    (λ r. SOAWord r.0 B i r.1 × (r.0.mname.absolute ≡ true) × (r.0.rname.absolute ≡ true))
unfolding soa_at
tells_soa B i = tells_same
    (tells_then (tells_name B i) (λ mname. tells_then (tells_name B mname.1)
    (λ rname. tells_then (tells_number w32 B rname.1) (λ serial. tells_then (tells_number w32 B serial.1) (λ refresh.
    tells_then (tells_number w32 B refresh.1)
    (λ retry. tells_then (tells_number w32 B retry.1) (λ expire. tells_then (tells_number w32 B expire.1) (λ minimum.
    tells_ok (
      record {
        mname = mname.0;
        rname = rname.0;
        serial = serial.0;
        refresh = refresh.0;
        retry =
            retry.0;
        expire = expire.0;
        minimum = minimum.0;
      },
      minimum.1,
    )))))))))
    (λ r (mname, m, (rname, n, (serial, a, (refresh, b, (retry, c, (expire, d, (minimum, f, is))))))).
    let main = name_here B i mname m in
    let responsible = name_here B mname.1 rname n in
    subst (λ (x : SOA × ℕ). SOAWord x.0 B i x.1 × (x.0.mname.absolute ≡ true) × (x.0.rname.absolute ≡ true)) is (
      (mname.1, main.0, (rname.1, responsible.0, (serial.1, a, (refresh.1, b, (retry.1, c, (expire.1, d, f)))))),
      main.1,
      responsible.1,
    ))
    (λ r is.
    let x = r.0 in
    let m = is.0 in
    let n = m.2 in
    let a = n.2 in
    let b = a.2 in
    let c = b.2 in
    let d = c.2 in (
      (x.mname, m.0),
      here_name B i x.mname m.0 m.1 is.1,
      (
        (x.rname, n.0),
        here_name B m.0 x.rname n.0 n.1 is.2,
        (
          (x.serial, a.0),
          a.1,
          (
            (x.refresh, b.0),
            b.1,
            ((x.retry, c.0), c.1, ((x.expire, d.0), d.1, ((x.minimum, r.1), d.2, refl))),
          ),
        ),
      ),
    ))

-- it has a byte at least, and ends inside the buffer
pub soa_longer : (x : SOA) (B : List ℕ) (i e : ℕ) → SOAWord x B i e → i < e
soa_longer x B i e word =
    let n = word.2 in
    let a = n.2 in
    let b = a.2 in
    let c = b.2 in
    let d = c.2 in
    omega (arith, name_longer word.1.0, name_longer n.1.0, a.1.1, b.1.1, c.1.1, d.1.1, d.2.1)

pub soa_inside : (x : SOA) (B : List ℕ) (i e : ℕ) → SOAWord x B i e → e ≤ length B
soa_inside x B i e word = let minimum = word.2.2.2.2.2.2 in omega (arith, minimum.0.inside, minimum.1)

-- equal exactly where each field is
pub soa_same : (a b : SOA)
    → IsTrue (soa_equality.eq a b) ↔
    (IsTrue (same_name a.mname b.mname) × IsTrue (same_name a.rname b.rname) × (a.serial ≡ b.serial)
    × (a.refresh ≡ b.refresh) × (a.retry ≡ b.retry) × (a.expire ≡ b.expire) × (a.minimum ≡ b.minimum))
soa_same a b = (
  λ h.
      let n = second_so (same_name a.mname b.mname) _ h in
      let p = second_so (same_name a.rname b.rname) _ n in
      let q = second_so (a.serial == b.serial) _ p in
      let r = second_so (a.refresh == b.refresh) _ q in
      let s = second_so (a.retry == b.retry) _ r in (
        first_so (same_name a.mname b.mname) _ h,
        first_so (same_name a.rname b.rname) _ n,
        number_is _ _ (first_so (a.serial == b.serial) _ p),
        number_is _ _ (first_so (a.refresh == b.refresh) _ q),
        number_is _ _ (first_so (a.retry == b.retry) _ r),
        number_is _ _ (first_so (a.expire == b.expire) _ s),
        number_is _ _ (second_so (a.expire == b.expire) _ s),
      ),
  λ f. both _ _ f.0 (both _ _ f.1 (both _ _ (is_number _ _ f.2)
      (both _ _ (is_number _ _ f.3) (both _ _ (is_number _ _ f.4)
      (both _ _ (is_number _ _ f.5) (is_number _ _ f.6)))))),
)

-- labels after which a zero byte stands
labels_first : (xs ys : List (List ℕ)) (s t : List ℕ) → AreLabels xs → AreLabels ys
    → wire_of xs ++ 0 ∷ s ≡ wire_of ys ++ 0 ∷ t → (wire_of xs ≡ wire_of ys) × (s ≡ t)
unfolding wire_of
labels_first [] [] s t a b e = (refl, ap (drop 1) e)
labels_first [] (y ∷ ys) s t a b e =
    let zero : 0 ≡ length y = ap (λ (l : List ℕ). get_or l 0 0) e in
    let some : 1 ≤ length y = b.0.some in
    absurd (omega (arith, zero, some))
labels_first (x ∷ xs) [] s t a b e =
    let zero : length x ≡ 0 = ap (λ (l : List ℕ). get_or l 0 0) e in
    let some : 1 ≤ length x = a.0.some in
    absurd (omega (arith, zero, some))
labels_first (x ∷ xs) (y ∷ ys) s t a b e =
    let long : length x ≡ length y = ap (λ (l : List ℕ). get_or l 0 0) e in
    let after : x ++ (wire_of xs ++ 0 ∷ s) ≡ y ++ (wire_of ys ++ 0 ∷ t) =
    sym (append_assoc x (wire_of xs) (0 ∷ s)) ∙ ap (drop 1) e ∙ append_assoc y (wire_of ys) (0 ∷ t) in
    let parts = split x y (wire_of xs ++ 0 ∷ s) (wire_of ys ++ 0 ∷ t) long after in
    let others = labels_first xs ys s t a.1 b.1 parts.1 in
    (λ i. (long i ∷ parts.0 i) ++ others.0 i, others.1)

-- labels in lower case are labels
AreLabels-folded : (labels : List (List ℕ)) → AreLabels labels → AreLabels (folded_labels labels)
AreLabels-folded [] a = tt
AreLabels-folded (label ∷ labels) a = (
  record {
    some = omega (arith, length-map label to_ascii_lowercase, a.0.some);
    short = omega (arith, length-map label to_ascii_lowercase, a.0.short);
  },
  AreLabels-folded labels a.1,
)

-- a name in canonical form tells where it ends
name_first : (a b : NameValue) (s t : List ℕ) → AreLabels a.labels → AreLabels b.labels
    → name_octets a ++ s ≡ name_octets b ++ t → (canonical_name a ≡ canonical_name b) × (s ≡ t)
name_first a b s t p q e =
    labels_first (folded a) (folded b) s t (AreLabels-folded a.labels p) (AreLabels-folded b.labels q)
    (sym (append_assoc (canonical_name a) (0 ∷ []) s) ∙ e ∙ append_assoc (canonical_name b) (0 ∷ []) t)

-- two names, and numbers after them
joined : (m r a b c d e : List ℕ) → m ++ r ++ a ++ b ++ c ++ d ++ e ≡ m ++ (r ++ (a ++ b ++ c ++ d ++ e))
joined m r a b c d e =
    ap (λ (xs : List ℕ). xs ++ e) (ap (λ (xs : List ℕ). xs ++ d)
    (ap (λ (xs : List ℕ). xs ++ c) (append_assoc (m ++ r) a b) ∙ append_assoc (m ++ r) (a ++ b) c)
    ∙ append_assoc (m ++ r) (a ++ b ++ c) d)
    ∙ append_assoc (m ++ r) (a ++ b ++ c ++ d) e ∙ append_assoc m r (a ++ b ++ c ++ d ++ e)

-- the order ties exactly what is equal
pub soa_is : (x y : SOA) → KeptData (kinds.SOA x) → KeptData (kinds.SOA y)
    → IsSame (kinds.SOA x) (kinds.SOA y) ↔ IsTrue (equality.eq (kinds.SOA x) (kinds.SOA y))
soa_is x y p q = (there, back) where
  there : IsSame (kinds.SOA x) (kinds.SOA y) → IsTrue (equality.eq (kinds.SOA x) (kinds.SOA y))
  there s =
      let apart = sym (joined (name_octets x.mname) (name_octets x.rname) _ _ _ _ _) ∙ s.bytes
      ∙ joined (name_octets y.mname) (name_octets y.rname) _ _ _ _ _ in
      let first = name_first x.mname y.mname _ _ p.0.0 q.0.0 apart in
      let second = name_first x.rname y.rname _ _ p.1.0.0 q.1.0.0 first.1 in
      let digits = second.1 in
      (soa_same x y).1 (
        same_name-from x.mname y.mname first.0 (flag_of 0 _ _ s.flags),
        same_name-from x.rname y.rname second.0 (flag_of 1 _ _ s.flags),
        long_same x.serial y.serial p.1.1.serial q.1.1.serial (ap (take 4) digits),
        long_same x.refresh y.refresh p.1.1.refresh q.1.1.refresh (ap (λ (l : List ℕ). take 4 (drop 4 l)) digits),
        long_same x.retry y.retry p.1.1.retry q.1.1.retry (ap (λ (l : List ℕ). take 4 (drop 8 l)) digits),
        long_same x.expire y.expire p.1.1.expire q.1.1.expire (ap (λ (l : List ℕ). take 4 (drop 12 l)) digits),
        long_same x.minimum y.minimum p.1.1.minimum q.1.1.minimum (ap (λ (l : List ℕ). take 4 (drop 16 l)) digits),
      )

  back : IsTrue (equality.eq (kinds.SOA x) (kinds.SOA y)) → IsSame (kinds.SOA x) (kinds.SOA y)
  back h =
      let f = (soa_same x y).0 h in
      let m = name_same x.mname y.mname f.0 in
      let r = name_same x.rname y.rname f.1 in
      record {
        bytes = λ i. m.0 i ++ r.0 i ++ to_be_bytes w32 (f.2 i) ++ to_be_bytes w32 (f.3 i) ++ to_be_bytes w32
            (f.4 i) ++ to_be_bytes w32 (f.5 i) ++ to_be_bytes w32 (f.6 i);
        type = refl;
        rank = refl;
        flags = λ i. m.1 i ∷ r.1 i ∷ [];
      }
