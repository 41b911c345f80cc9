-- The order of data is total, and what is the same of options.
use Rattle.std.proofs.Common.{◌≡◌, List, rules, subst, true}
use Rattle.std.specs.Bool.{Decides}
use Rattle.std.specs.Cmp.{IsTotalOrder, first_so, nat_cmp_total, on_total, second_so, then_total, unsigned_Decides}
use Rattle.std.specs.Cmp.Lexicographic.{bytes_decides, pointwise_decides}
use Rattle.std.specs.Cmp.Rules.{comparing}
use Rattle.std.specs.Prelude.{◌==◌}
use Rattle.base.specs.RecordType.{type_cmp}
use Rattle.base_data.specs.DataOrder.{data_cmp, flags_cmp}
use Rattle.base_data.specs.Kinds.{canonical_data, kind_rank, name_flags, type_of_data}
use Rattle.base_data.specs.Equality.{same_option-equiv}
use Rattle.base_data.specs.OPT.{OptionValue, same_option, same_options}
use Rattle.base_data.specs.Opaque.{bytes_cmp, same_bytes}

pub bytes_cmp-total : IsTotalOrder bytes_cmp
bytes_cmp-total = search (comparing, rules)

-- options are the same exactly where their codes and bytes are
pub option_decides : (a b : OptionValue) → Decides (same_option a b) (a ≡ b)
option_decides a b = (same_is, is_same) where
  same_is : same_option a b ≡ true → a ≡ b
  same_is h =
      let code = (unsigned_Decides a.code b.code).0 (first_so (a.code == b.code) (same_bytes a.bytes b.bytes) h) in
      let bytes = (bytes_decides a.bytes b.bytes).0 (second_so (a.code == b.code) (same_bytes a.bytes b.bytes) h) in
      λ i. record { code = code i; bytes = bytes i }

  is_same : a ≡ b → same_option a b ≡ true
  is_same h = subst (λ (o : OptionValue). same_option a o ≡ true) h (same_option-equiv.refl a)

pub options_decide : (a b : List OptionValue) → Decides (same_options a b) (a ≡ b)
options_decide = pointwise_decides option_decides

pub flags_cmp-total : IsTotalOrder flags_cmp
flags_cmp-total = search (comparing, rules)

pub type_cmp-total : IsTotalOrder type_cmp
type_cmp-total = search (comparing, rules)

pub data_cmp-total : IsTotalOrder data_cmp
data_cmp-total =
    then_total (on_total canonical_data bytes_cmp-total) (then_total (on_total type_of_data type_cmp-total)
    (then_total (on_total kind_rank nat_cmp_total) (on_total name_flags flags_cmp-total)))
