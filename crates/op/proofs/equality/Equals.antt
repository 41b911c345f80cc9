-- What the derived `==` answers.
use Rattle.std.proofs.Common.{◌≡◌, ℕ, Bool, true, false, ◌&&◌, refl, ap, rules}
use Rattle.std.proofs.lemmas.Bool.{and_from}
use Rattle.std.specs.Prelude.{◌==◌}
use Rattle.std.specs.Bool.{Decides}
use Rattle.std.specs.Cmp.{booleans_Decides, unsigned_Decides, first_so, second_so}
use Rattle.op.specs.contracts.header.HeaderPartialEq.TheImpl as header_eq
use Rattle.op.specs.contracts.header.flags.FlagsPartialEq.TheImpl as flags_eq
use Rattle.op.specs.contracts.header.header_counts.HeaderCountsPartialEq.TheImpl as counts_eq
use Rattle.op.specs.contracts.header.message_type.MessageTypePartialEq.TheImpl as message_type_eq
use Rattle.op.specs.contracts.header.metadata.MetadataPartialEq.TheImpl as metadata_eq
use Rattle.op.specs.contracts.op_code.OpCodePartialEq.TheImpl as op_eq
use Rattle.op.specs.contracts.response_code.ResponseCodePartialEq.TheImpl as code_eq
use Rattle.op.proofs.equality.VariantLemmas.{five, variants_Decide}
use Rattle.op.specs.contracts.op_code.OpCode as op_codes
use Rattle.op.specs.contracts.response_code.ResponseCode as response_codes
use Rattle.op.specs.declared.header.Header.{Header}
use Rattle.op.specs.declared.header.flags.Flags.{Flags}
use Rattle.op.specs.declared.header.header_counts.HeaderCounts.{HeaderCounts}
use Rattle.op.specs.declared.header.message_type.MessageType.{MessageType}
use Rattle.op.specs.declared.header.metadata.Metadata.{Metadata}
use Rattle.op.specs.declared.op_code.OpCode.{OpCode}
use Rattle.op.specs.declared.response_code.ResponseCode.{ResponseCode}

-- where two tests decide two facts, their conjunction decides both
pub both_Decides : {P Q : Type 0} → (s t : Bool) → Decides s P → Decides t Q → Decides (s && t) (P × Q)
both_Decides s t p q = (λ h. (p.0 (first_so s t h), q.0 (second_so s t h)), λ f. and_from s t (p.1 f.0) (q.1 f.1))

-- two values of a variant without fields, and two of one with a number
abbrev same : Unit {0} → Unit {0} → Bool
same x y = true

abbrev by_number : ℕ × Unit {0} → ℕ × Unit {0} → Bool
by_number x y = x.0 == y.0

same_Decides : (x y : Unit {0}) → Decides (same x y) (x ≡ y)
same_Decides x y = (λ h. refl, λ e. refl)

numbers_Decide : (x y : ℕ × Unit {0}) → Decides (by_number x y) (x ≡ y)
numbers_Decide x y = (
  λ h. ap (λ (n : ℕ). (n, tt)) ((unsigned_Decides x.0 y.0).0 h),
  λ e. (unsigned_Decides x.0 y.0).1 (ap (λ (z : ℕ × Unit {0}). z.0) e),
)

pub op_codes_Decide : (a b : OpCode) → Decides ((op_eq.ghosts).eq a b) (a ≡ b)
op_codes_Decide = variants_Decide op_codes.enum (same, (same, (same, (same, (by_number, tt)))))
    (same_Decides, (same_Decides, (same_Decides, (same_Decides, (numbers_Decide, tt)))))

pub response_codes_Decide : (a b : ResponseCode) → Decides ((code_eq.ghosts).eq a b) (a ≡ b)
response_codes_Decide =
    variants_Decide response_codes.enum (five same (five same (five same (five same (by_number, tt)))))
    (five same_Decides (five same_Decides (five same_Decides (five same_Decides (numbers_Decide, tt)))))

pub message_types_Decide : (a b : MessageType) → Decides ((message_type_eq.ghosts).eq a b) (a ≡ b)
message_types_Decide = search rules

pub counts_Decide : (a b : HeaderCounts) → Decides ((counts_eq.ghosts).eq a b) (a ≡ b)
counts_Decide = search rules

pub flags_Decide : (a b : Flags) → Decides ((flags_eq.ghosts).eq a b) (a ≡ b)
flags_Decide a b =
    let parts : Decides ((flags_eq.ghosts).eq a b)
    ((a.authoritative ≡ b.authoritative) × ((a.truncation ≡ b.truncation) × ((a.recursion_desired ≡ b.recursion_desired)
    × ((a.recursion_available ≡ b.recursion_available)
    × ((a.authentic_data ≡ b.authentic_data) × (a.checking_disabled ≡ b.checking_disabled))))))
    = both_Decides _ _ (booleans_Decides _ _)
    (both_Decides _ _ (booleans_Decides _ _) (both_Decides _ _ (booleans_Decides _ _)
    (both_Decides _ _ (booleans_Decides _ _) (both_Decides _ _ (booleans_Decides _ _) (booleans_Decides _ _))))) in (
      λ h. let p = parts.0 h in λ i. record {
        authoritative = p.0 i;
        truncation = p.1.0 i;
        recursion_desired = p.1.1.0 i;
        recursion_available = p.1.1.1.0 i;
        authentic_data = p.1.1.1.1.0 i;
        checking_disabled = p.1.1.1.1.1 i;
      },
      λ e. parts.1 (
        ap (λ f. f.authoritative) e,
        (
          ap (λ f. f.truncation) e,
          (
            ap (λ f. f.recursion_desired) e,
            (ap (λ f. f.recursion_available) e, (ap (λ f. f.authentic_data) e, ap (λ f. f.checking_disabled) e)),
          ),
        ),
      ),
    )

pub metadata_Decide : (a b : Metadata) → Decides ((metadata_eq.ghosts).eq a b) (a ≡ b)
metadata_Decide a b =
    let parts : Decides ((metadata_eq.ghosts).eq a b)
    ((a.id ≡ b.id) × ((a.message_type ≡ b.message_type) × ((a.op_code ≡ b.op_code) × (
    (a.authoritative ≡ b.authoritative) × ((a.truncation ≡ b.truncation)
    × ((a.recursion_desired ≡ b.recursion_desired) × (
    (a.recursion_available ≡ b.recursion_available)
    × ((a.authentic_data ≡ b.authentic_data) × ((a.checking_disabled ≡ b.checking_disabled) × (
    (a.response_code ≡ b.response_code)))))))))))
    = both_Decides _ _ (unsigned_Decides _ _)
    (both_Decides _ _ (message_types_Decide _ _) (both_Decides _ _ (op_codes_Decide _ _) (
    both_Decides _ _ (booleans_Decides _ _) (both_Decides _ _ (booleans_Decides _ _)
    (both_Decides _ _ (booleans_Decides _ _) (
    both_Decides _ _ (booleans_Decides _ _) (both_Decides _ _ (booleans_Decides _ _)
    (both_Decides _ _ (booleans_Decides _ _) (
    response_codes_Decide _ _))))))))) in (
      λ h. let p = parts.0 h in λ i. record {
        id = p.0 i;
        message_type = p.1.0 i;
        op_code = p.1.1.0 i;
        authoritative = p.1.1.1.0 i;
        truncation = p.1.1.1.1.0 i;
        recursion_desired = p.1.1.1.1.1.0 i;
        recursion_available = p.1.1.1.1.1.1.0 i;
        authentic_data = p.1.1.1.1.1.1.1.0 i;
        checking_disabled = p.1.1.1.1.1.1.1.1.0 i;
        response_code = p.1.1.1.1.1.1.1.1.1 i;
      },
      λ e. parts.1 (
        ap (λ m. m.id) e,
        (
          ap (λ m. m.message_type) e,
          (
            ap (λ m. m.op_code) e,
            (
              ap (λ m. m.authoritative) e,
              (
                ap (λ m. m.truncation) e,
                (
                  ap (λ m. m.recursion_desired) e,
                  (
                    ap (λ m. m.recursion_available) e,
                    (
                      ap (λ m. m.authentic_data) e,
                      (
                        ap (λ m. m.checking_disabled) e,
                        ap (λ m. m.response_code) e,
                      ),
                    ),
                  ),
                ),
              ),
            ),
          ),
        ),
      ),
    )

pub headers_Decide : (a b : Header) → Decides ((header_eq.ghosts).eq a b) (a ≡ b)
headers_Decide a b =
    let parts : Decides ((header_eq.ghosts).eq a b)
    ((a.metadata ≡ b.metadata) × (a.counts ≡ b.counts))
    = both_Decides _ _ (metadata_Decide _ _) (counts_Decide _ _) in (
      λ h. let p = parts.0 h in λ i. record {
        metadata = p.0 i;
        counts = p.1 i;
      },
      λ e. parts.1 (ap (λ h. h.metadata) e, ap (λ h. h.counts) e),
    )
