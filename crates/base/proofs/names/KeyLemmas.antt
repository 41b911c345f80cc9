-- Keys of records tie only where they are the same.
use Rattle.std.proofs.Common.{◌≡◌, ℕ, refl, ap, sym, ◌∙◌}
use Rattle.std.specs.Prelude.{◌==◌, if◌then◌else◌}
use Rattle.std.specs.declared.cmp.Ordering.{Ordering}
use Rattle.std.specs.declared.cmp.Ordering.TheVariants.{Less, Equal, Greater}
use Rattle.std.specs.Cmp.{IsTotalOrder, on_total, then_total, unsigned_Decides, unsigned_ties}
use Rattle.std.specs.Ordering.{is_eq, nat_cmp, ordering_then}
use Rattle.base.specs.declared.record_type.RecordType.{RecordType}
use Rattle.base.specs.declared.record_type.RecordType.TheVariants as types
use Rattle.base.specs.declared.rr_key.RrKey.{RrKey}
use Rattle.base.specs.names.NameOrder.{exact, lower_cmp}
use Rattle.base.specs.names.NameOrderLaws.{cmp_by-total, lower_cmp-exact}
use Rattle.base.specs.RrKey.{key_cmp}
use Rattle.base.specs.contracts.record_type.RecordTypeOrd.TheImpl.Laws.{total-law}
use Rattle.base.specs.RecordType.{type_cmp, type_number, type_of, type_rank}

both_Equal : (a b : Ordering) → ordering_then a b ≡ Equal → (a ≡ Equal) × (b ≡ Equal)
both_Equal Less b h = (h, cc)
both_Equal Equal b h = (refl, h)
both_Equal Greater b h = (h, cc)

-- the type of a number and a rank
abbrev type_from : ℕ → ℕ → RecordType
type_from number rank = if rank == 0 then type_of number else types.Unknown number

type_from-own : (t : RecordType) → type_from (type_number t) (type_rank t) ≡ t
type_from-own (types.Unknown number) = refl
type_from-own _ = refl

nat_cmp-Equal : (m n : ℕ) → nat_cmp m n ≡ Equal → m ≡ n
nat_cmp-Equal m n h = (unsigned_Decides m n).0 (unsigned_ties m n ∙ ap is_eq h)

type_cmp-exact : (s t : RecordType) → type_cmp s t ≡ Equal → s ≡ t
type_cmp-exact s t h =
    let both = both_Equal (nat_cmp (type_number s) (type_number t)) (nat_cmp (type_rank s) (type_rank t)) h in
    let number = nat_cmp-Equal (type_number s) (type_number t) both.0 in
    let rank = nat_cmp-Equal (type_rank s) (type_rank t) both.1 in
    sym (type_from-own s) ∙ ap (λ (n : ℕ). type_from n (type_rank s)) number ∙ ap (type_from (type_number t)) rank
    ∙ type_from-own t

pub key_cmp-exact : (a b : RrKey) → key_cmp a b ≡ Equal → a ≡ b
key_cmp-exact a b h =
    let both = both_Equal (lower_cmp a.name b.name) (type_cmp a.record_type b.record_type) h in
    let name = lower_cmp-exact a.name b.name both.0 in
    let record_type = type_cmp-exact a.record_type b.record_type both.1 in
    ap (λ (n : _). record a { name = n }) name ∙ ap (λ (t : RecordType). record b { record_type = t }) record_type

pub key_cmp-total : IsTotalOrder key_cmp
key_cmp-total = then_total (on_total (λ (k : RrKey). k.name) (cmp_by-total exact))
    (on_total (λ (k : RrKey). k.record_type) total-law)
