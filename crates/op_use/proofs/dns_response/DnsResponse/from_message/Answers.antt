use Rattle.op_use.proofs.dns_response.DnsResponse.from_message.Goals as goal

pub returns-in_ok-buffer-in-Response-clause-answer : goal.returns-in_ok-buffer-in-Response-clause-answer
returns-in_ok-buffer-in-Response-clause-answer c = c.in_ok-buffer-in-Response.ensures.answer
