use Rattle.base_data.proofs.DataRows.{read_names_stand}
use Rattle.base_data.proofs.rdata.words.names_of_data_stand_at_their_places.Goals as goal

pub returns : goal.returns
returns c = read_names_stand
