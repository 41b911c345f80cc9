use Rattle.authority.proofs.replies.has_soa.Goals as goal
use Rattle.base.specs.RrKey.{key_cmp, key_of}
use Rattle.base.specs.declared.record_type.RecordType.TheVariants as types
use Rattle.base.specs.declared.rr_key.RrKey.{RrKey}
use Rattle.op_use.proofs.MapZones.{set_at}
use Rattle.std.proofs.Common.{ap, is_some, sym, ◌∙◌}
use Rattle.std.specs.BTreeMap.{get}

pub returns : goal.returns
returns c =
    let zone = c.args.zone.now in
    c.contains_key.ensures ∙ ap (λ (k : RrKey). is_some (get key_cmp zone.sets.now k)) c.in_ok-key.ensures
    ∙ sym (set_at zone.origin.now zone.class zone.sets.now (key_of zone.origin.now types.SOA))
