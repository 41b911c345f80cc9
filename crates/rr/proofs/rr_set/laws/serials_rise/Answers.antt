use Rattle.rr.proofs.SetLaws.{serial_rises, serial_stays}
use Rattle.rr.proofs.rr_set.laws.serials_rise.Goals as goal

pub returns : goal.returns
returns c = record { rises = serial_rises; stays = serial_stays }
