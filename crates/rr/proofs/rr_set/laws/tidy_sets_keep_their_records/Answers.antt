use Rattle.rr.proofs.SetLaws.{last_server_stays, soa_stays}
use Rattle.rr.proofs.rr_set.laws.tidy_sets_keep_their_records.Goals as goal

pub returns : goal.returns
returns c = record { last_server = last_server_stays; soa = soa_stays }
