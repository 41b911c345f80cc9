use Rattle.std.proofs.Common.{ap, ◌∙◌}
use Rattle.std.specs.Prelude.{not, ◌==◌}
use Rattle.capi.proofs.KeptLemmas.{bit_again, place_again}
use Rattle.capi.specs.KeptPlace.{type_by}
use Rattle.capi.proofs.zone_handle.place.KeptPlace.of_record.Goals as goal

pub returns : goal.returns
returns c = place_again c.args.key.now c.args.index c.from.result c.unknown_flag.result c.from-2.result
    c.put_name-name_len.result c.put_name-name_len.new.room c.as_name-owner.ensures.lower
    (ap (type_by c.unknown_flag.result) c.from.ensures ∙ c.unknown_flag.ensures) _ _ c.as_name-owner.result.now
    c.as_name-owner.ensures.value c.as_wire.ensures.labels c.as_wire.ensures.plain c.put_name-name_len.ensures.len
    c.put_name-name_len.ensures.put
    (ap (λ n. not (n == 0)) c.from-2.ensures ∙ bit_again c.is_fqdn.result ∙ c.is_fqdn.ensures)
