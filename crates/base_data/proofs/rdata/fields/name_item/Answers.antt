use Rattle.std.proofs.Common.{Err, ap, sym}
use Rattle.base.proofs.texts.Giving.{ok_name, no_name}
use Rattle.base_data.proofs.rdata.fields.name_item.Goals as goal

pub returns-in-Ok : goal.returns-in-Ok
returns-in-Ok c = sym (ok_name _ _ _ c.in-Ok.ensures.named)

pub returns-in-Err-BadName : goal.returns-in-Err-BadName
returns-in-Err-BadName c = sym (no_name _ _ (c.in-Err-BadName.ensures.refused.0 (ap Err c.in-Err-BadName.field-0-is)))
