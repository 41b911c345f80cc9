-- What the derived `==` of EDNS answers.
use Rattle.std.proofs.Common.{◌≡◌, ap}
use Rattle.std.specs.Bool.{Decides}
use Rattle.std.specs.Cmp.{booleans_Decides, unsigned_Decides}
use Rattle.base_data.proofs.Comparing.{options_decide}
use Rattle.op.specs.contracts.edns.EdnsPartialEq.TheImpl as edns_eq
use Rattle.op.specs.contracts.edns.edns_flags.EdnsFlagsPartialEq.TheImpl as edns_flags_eq
use Rattle.op.specs.declared.edns.Edns.{Edns}
use Rattle.op.specs.declared.edns.edns_flags.EdnsFlags.{EdnsFlags}
use Rattle.op.proofs.equality.Equals.{both_Decides}

pub edns_flags_Decide : (a b : EdnsFlags) → Decides ((edns_flags_eq.ghosts).eq a b) (a ≡ b)
edns_flags_Decide a b =
    let parts : Decides ((edns_flags_eq.ghosts).eq a b) ((a.dnssec_ok ≡ b.dnssec_ok) × (a.z ≡ b.z)) =
    both_Decides _ _ (booleans_Decides _ _) (unsigned_Decides _ _) in (
      λ h. let p = parts.0 h in λ i. record { dnssec_ok = p.0 i; z = p.1 i },
      λ e. parts.1 (ap (λ f. f.dnssec_ok) e, ap (λ f. f.z) e),
    )

pub edns_Decide : (a b : Edns) → Decides ((edns_eq.ghosts).eq a b) (a ≡ b)
edns_Decide a b =
    let parts : Decides ((edns_eq.ghosts).eq a b)
    ((a.rcode_high ≡ b.rcode_high) × ((a.version ≡ b.version)
    × ((a.flags ≡ b.flags) × ((a.max_payload ≡ b.max_payload) × (a.options ≡ b.options)))))
    = both_Decides _ _ (unsigned_Decides _ _)
    (both_Decides _ _ (unsigned_Decides _ _) (both_Decides _ _ (edns_flags_Decide _ _)
    (both_Decides _ _ (unsigned_Decides _ _) (options_decide _ _)))) in (
      λ h. let p = parts.0 h in λ i. record {
        rcode_high = p.0 i;
        version = p.1.0 i;
        flags = p.1.1.0 i;
        max_payload = p.1.1.1.0 i;
        options = p.1.1.1.1 i;
      },
      λ e. parts.1 (
        ap (λ x. x.rcode_high) e,
        (
          ap (λ x. x.version) e,
          (ap (λ x. x.flags) e, (ap (λ x. x.max_payload) e, ap (λ x. x.options) e)),
        ),
      ),
    )
