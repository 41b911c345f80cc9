use Rattle.base_data.proofs.AddressTexts.{ipv4_text, ipv6_text}
use Rattle.base_data.proofs.rdata.laws.addresses_are_their_texts.Goals as goal

pub returns-clause-ipv4 : goal.returns-clause-ipv4
returns-clause-ipv4 c = ipv4_text

pub returns-clause-ipv6 : goal.returns-clause-ipv6
returns-clause-ipv6 c = ipv6_text
