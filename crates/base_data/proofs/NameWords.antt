-- Names in data: what stands, and what is equal.
use Rattle.std.proofs.Common.{IsTrue, List, [], ap, arith, length, true, ℕ, ◌++◌, ◌<◌, ◌∷◌, ◌≡◌, ◌≤◌}
use Rattle.std.proofs.lemmas.List.{append_cancel_right}
use Rattle.base.specs.names.Labels.{NameValue, wire_of}
use Rattle.base.specs.names.NameOrder.{canonical_name, folded, same_name}
use Rattle.base.specs.names.NameOrderLaws.{same_by-is}
use Rattle.base.specs.reading.Spelling.SpelledIn.{ends, label, pointer}
use Rattle.base.specs.reading.Spelling.{IsNameAt, Spelled, SpelledIn, anywhere}
use Rattle.base.specs.Words.{NameAt}
use Rattle.base_data.proofs.StringLemmas.{wire_of-exact}
use Rattle.base_data.specs.NameData.{name_octets}

-- a name stands here, and it is absolute
pub name_here : (B : List ℕ) (i : ℕ) (r : NameValue × ℕ) → IsNameAt B i r.0 r.1
    → NameAt r.0.labels B i r.1 × (r.0.absolute ≡ true)
name_here B i r s = ((s.spelled, s.short), s.absolute)

pub here_name : (B : List ℕ) (i : ℕ) (name : NameValue) (e : ℕ) → NameAt name.labels B i e → name.absolute ≡ true
    → IsNameAt B i name e
here_name B i name e word absolute = record { spelled = word.0; short = word.1; absolute = absolute }

-- a name has a byte at least
pub name_longer : {B : List ℕ} {labels : List (List ℕ)} {s i e : ℕ} → Spelled B labels s i e → i < e
name_longer (ends _) = omega arith
name_longer (label _ _ _ _ rest) = let after = name_longer rest in omega arith
name_longer (pointer _ _ _ _ _) = omega arith

-- a name ends inside the buffer
spelling_inside : {B : List ℕ} {s i e : ℕ} {xs : List (List ℕ)} → SpelledIn anywhere B s i xs e → e ≤ length B
spelling_inside (ends h) = omega (arith, h.inside)
spelling_inside (label h some small at rest) = spelling_inside rest
spelling_inside (pointer h next high below rest) = omega (arith, next.inside)

pub name_inside : (labels : List (List ℕ)) (B : List ℕ) (i e : ℕ) → NameAt labels B i e → e ≤ length B
name_inside labels B i e h = spelling_inside h.0

-- equal names have the same canonical form and the same flag
pub name_same : (a b : NameValue) → IsTrue (same_name a b) → (name_octets a ≡ name_octets b) × (a.absolute ≡ b.absolute)
name_same a b h = let parts = (same_by-is folded a b).0 h in
    (ap (λ (labels : List (List ℕ)). wire_of labels ++ 0 ∷ []) parts.1, parts.0)

-- and names that have both are equal
pub same_name-from : (a b : NameValue) → canonical_name a ≡ canonical_name b → a.absolute ≡ b.absolute
    → IsTrue (same_name a b)
same_name-from a b bytes flag = (same_by-is folded a b).1 (flag, wire_of-exact (folded a) (folded b) bytes)

pub octets_same : (a b : NameValue) → name_octets a ≡ name_octets b → canonical_name a ≡ canonical_name b
octets_same a b e = append_cancel_right (canonical_name a) (canonical_name b) (0 ∷ []) e
