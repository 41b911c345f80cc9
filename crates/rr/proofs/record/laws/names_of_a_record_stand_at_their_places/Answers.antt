use Rattle.rr.proofs.AddsRecord.{record_names_stand}
use Rattle.rr.proofs.record.laws.names_of_a_record_stand_at_their_places.Goals as goal

pub returns : goal.returns
returns c = record_names_stand
