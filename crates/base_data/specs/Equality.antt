-- Equality of bytes, strings and options is an equivalence: each `impl` of equality cites its own.
use Rattle.std.proofs.lemmas.Cmp.{and_equiv, lists_equiv, nat_eq_equiv, on_equiv}
use Rattle.std.specs.Cmp.{IsEquivalence}
use Rattle.base.specs.names.Labels.{wire_of}
use Rattle.base_data.specs.OPT.{same_option, same_options}
use Rattle.base_data.specs.Opaque.{same_bytes}
use Rattle.base_data.specs.TXT.{same_txt}

-- being the same bytes is an equivalence
pub same_bytes-equiv : IsEquivalence same_bytes
same_bytes-equiv = lists_equiv nat_eq_equiv

-- being the same strings is an equivalence
pub same_txt-equiv : IsEquivalence same_txt
same_txt-equiv = on_equiv wire_of same_bytes-equiv

-- being the same option is an equivalence
pub same_option-equiv : IsEquivalence same_option
same_option-equiv =
    and_equiv (on_equiv (λ o. o.code) nat_eq_equiv) (on_equiv (λ o. o.bytes) same_bytes-equiv)

-- being the same options is an equivalence
pub same_options-equiv : IsEquivalence same_options
same_options-equiv = lists_equiv same_option-equiv
