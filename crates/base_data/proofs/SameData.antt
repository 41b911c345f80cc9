-- What the order of data looks at, and what ties.
use Rattle.std.proofs.Common.{Bool, IsTrue, List, ap, false, get_or, refl, rules, subst, sym, true, ℕ, ◌∙◌, ◌≡◌}
use Rattle.std.proofs.lemmas.Bool.{true≢false}
use Rattle.std.specs.Bool.{Decides, beq}
use Rattle.std.specs.Cmp.Lexicographic.{bytes_decides, lists_ties, pointwise_decides}
use Rattle.std.specs.Cmp.{IsTotalOrder, booleans_Decides, nat_cmp_total, tied_itself, unsigned_Decides, unsigned_ties}
use Rattle.std.specs.Ordering.{bool_cmp, is_eq, nat_cmp, ordering_then}
use Rattle.std.specs.Prelude.{◌↔◌}
use Rattle.std.specs.declared.cmp.Ordering.TheVariants.{Equal, Greater, Less}
use Rattle.std.specs.declared.cmp.Ordering.{Ordering}
use Rattle.base.specs.Keys.{keys_match}
use Rattle.base.specs.names.Labels.{NameValue}
use Rattle.base.specs.names.NameOrder.{same_name}
use Rattle.base.specs.RecordType.{same_type, type_cmp, type_number, type_rank}
use Rattle.base.specs.declared.record_type.RecordType.{RecordType}
use Rattle.base_data.proofs.NameWords.{name_same, octets_same, same_name-from}
use Rattle.base_data.specs.DataOrder.{data_cmp, flags_cmp}
use Rattle.base_data.specs.Kinds.{canonical_data, kind_rank, name_flags, type_of_data}
use Rattle.base_data.specs.NameData.{name_octets}
use Rattle.base_data.specs.Opaque.{bytes_cmp}
use Rattle.base_data.specs.contracts.rdata.RDataPartialEq.TheImpl.{ghosts as equality}
use Rattle.base_data.proofs.Comparing.{bytes_cmp-total, flags_cmp-total, type_cmp-total}
use Rattle.base_data.specs.declared.rdata.RData.{RData}

-- data of which all that the order looks at is the same
pub record IsSame (a b : RData) : Type 0 where
  pub bytes : canonical_data a ≡ canonical_data b
  pub type : type_of_data a ≡ type_of_data b
  pub rank : kind_rank a ≡ kind_rank b
  pub flags : name_flags a ≡ name_flags b

-- the first ties, and so does the second
pub then_tied : (p q : Ordering) → (ordering_then p q ≡ Equal) ↔ ((p ≡ Equal) × (q ≡ Equal))
then_tied Less q = (λ h. cc, λ h. h.0)
then_tied Equal q = (λ h. (refl, h), λ h. h.1)
then_tied Greater q = (λ h. cc, λ h. h.0)

-- an order ties what is the same, where it ties nothing else
pub tied_same : {K : Type 0} {R : K → K → Ordering} → IsTotalOrder R → ((x y : K) → R x y ≡ Equal → x ≡ y) → (x y : K)
    → (R x y ≡ Equal) ↔ (x ≡ y)
tied_same {R = R} total exact x y = (exact x y, λ same. subst (λ z. R x z ≡ Equal) same (tied_itself total x))

pub types_Decide : (a b : RecordType) → Decides (same_type a b) (a ≡ b)
types_Decide = search rules

pub types_tied : (a b : RecordType) → type_cmp a b ≡ Equal → a ≡ b
types_tied a b h = (types_Decide a b).0 (keys_match type_number type_rank a b ∙ ap is_eq h)

numbers_tied : (a b : ℕ) → nat_cmp a b ≡ Equal → a ≡ b
numbers_tied a b h = (unsigned_Decides a b).0 (unsigned_ties a b ∙ ap is_eq h)

bytes_tied : (a b : List ℕ) → bytes_cmp a b ≡ Equal → a ≡ b
bytes_tied a b h = (bytes_decides a b).0 (lists_ties nat_cmp unsigned_ties a b ∙ ap is_eq h)

flag_ties : (x y : Bool) → beq x y ≡ is_eq (bool_cmp x y)
flag_ties true true = refl
flag_ties true false = refl
flag_ties false true = refl
flag_ties false false = refl

flags_tied : (a b : List Bool) → flags_cmp a b ≡ Equal → a ≡ b
flags_tied a b h = (pointwise_decides booleans_Decides a b).0 (lists_ties bool_cmp flag_ties a b ∙ ap is_eq h)

-- the order ties exactly the data of which all that it looks at is the same
pub tied : (a b : RData) → (data_cmp a b ≡ Equal) ↔ IsSame a b
tied a b =
    let bytes = tied_same bytes_cmp-total bytes_tied (canonical_data a) (canonical_data b) in
    let types = tied_same type_cmp-total types_tied (type_of_data a) (type_of_data b) in
    let ranks = tied_same nat_cmp_total numbers_tied (kind_rank a) (kind_rank b) in
    let flags = tied_same flags_cmp-total flags_tied (name_flags a) (name_flags b) in
    let first = then_tied (bytes_cmp (canonical_data a) (canonical_data b)) _ in
    let second = then_tied (type_cmp (type_of_data a) (type_of_data b)) _ in
    let third = then_tied (nat_cmp (kind_rank a) (kind_rank b)) (flags_cmp (name_flags a) (name_flags b)) in (
      λ h.
          let p = first.0 h in
          let q = second.0 p.1 in
          let r = third.0 q.1 in
          record { bytes = bytes.0 p.0; type = types.0 q.0; rank = ranks.0 r.0; flags = flags.0 r.1 },
      λ s. first.1 (bytes.1 s.bytes, second.1 (types.1 s.type, third.1 (ranks.1 s.rank, flags.1 s.flags))),
    )

-- data of different kinds
pub apart : (a b : RData) → false ≡ is_eq (nat_cmp (kind_rank a) (kind_rank b)) → equality.eq a b ≡ false
    → IsSame a b ↔ IsTrue (equality.eq a b)
apart a b ranks other = (
  λ s. absurd (true≢false (sym (ranks ∙ ap is_eq
      ((tied_same nat_cmp_total numbers_tied (kind_rank a) (kind_rank b)).1 s.rank)))),
  λ h. absurd (true≢false (sym h ∙ other)),
)

-- data that is its bytes
pub as_bytes : (a b : RData) → type_of_data a ≡ type_of_data b → kind_rank a ≡ kind_rank b → name_flags a ≡ name_flags b
    → Decides (equality.eq a b) (canonical_data a ≡ canonical_data b)
    → IsSame a b ↔ IsTrue (equality.eq a b)
as_bytes a b type rank flags d = (
  λ s. d.1 s.bytes,
  λ h. record { bytes = d.0 h; type = type; rank = rank; flags = flags },
)

-- a flag after others
pub flag_of : (n : ℕ) (x y : List Bool) → x ≡ y → get_or x n false ≡ get_or y n false
flag_of n x y e = ap (λ (l : List Bool). get_or l n false) e

-- data that is a name
pub as_name : (a b : RData) (x y : NameValue) → type_of_data a ≡ type_of_data b → kind_rank a ≡ kind_rank b
    → (canonical_data a ≡ canonical_data b → name_octets x ≡ name_octets y)
    → (name_octets x ≡ name_octets y → canonical_data a ≡ canonical_data b)
    → (name_flags a ≡ name_flags b → x.absolute ≡ y.absolute) → (x.absolute ≡ y.absolute → name_flags a ≡ name_flags b)
    → IsSame a b ↔ IsTrue (same_name x y)
as_name a b x y type rank bytes back flag flags = (
  λ s. same_name-from x y (octets_same x y (bytes s.bytes)) (flag s.flags),
  λ h. let n = name_same x y h in record { bytes = back n.0; type = type; rank = rank; flags = flags n.1 },
)
