use Rattle.std.proofs.Common.{refl, inl, inr}
use Rattle.commands.proofs.run.print_usage.Goals as goal

pub returns-in-Ok : goal.returns-in-Ok
returns-in-Ok g c = inr (record { is_status = refl; printed = c.in-Ok.ensures.bytes })

pub returns-in-Err : goal.returns-in-Err
returns-in-Err g c = inl refl
