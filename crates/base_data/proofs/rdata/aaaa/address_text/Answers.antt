use Rattle.base_data.proofs.AddressLemmas.{aaaa_text-shortened, aaaa_text-whole}
use Rattle.base_data.proofs.rdata.aaaa.address_text.Goals as goal

pub returns-clause-shortened : goal.returns-clause-shortened
returns-clause-shortened c = aaaa_text-shortened

pub returns-clause-whole : goal.returns-clause-whole
returns-clause-whole c = aaaa_text-whole
