use Rattle.std.specs.Option.{option_map}
use Rattle.op.specs.Cut.{raised}
use Rattle.op.specs.EdnsRecord.{edns_record}
use Rattle.op.specs.Fits.{as_list, signature_record}
use Rattle.op.specs.Query.{query_written}
use Rattle.rr.specs.Record.{record_written}
use Rattle.op.proofs.writing.PartLemmas.{part_lost}
use Rattle.op.proofs.message.laws.what_a_message_loses_did_not_fit.Goals as goal

pub returns-clause-queries : goal.returns-clause-queries
returns-clause-queries c = λ limit m at stored. part_lost query_written limit m.queries at stored

pub returns-clause-answers : goal.returns-clause-answers
returns-clause-answers c = λ limit m at stored. part_lost record_written limit m.answers _ _

pub returns-clause-authorities : goal.returns-clause-authorities
returns-clause-authorities c = λ limit m at stored. part_lost record_written limit m.authorities _ _

pub returns-clause-additionals : goal.returns-clause-additionals
returns-clause-additionals c = λ limit m at stored. part_lost record_written limit m.additionals _ _

pub returns-clause-edns : goal.returns-clause-edns
returns-clause-edns c = λ limit m at stored. part_lost record_written limit
    (as_list (option_map edns_record (raised m))) _ _

pub returns-clause-signature : goal.returns-clause-signature
returns-clause-signature c = λ limit m at stored. part_lost record_written limit
    (as_list (option_map signature_record m.signature)) _ _
