use Rattle.std.proofs.Common.{List, ap, sym, ◌∙◌}
use Rattle.std.specs.Prelude.{slice_get}
use Rattle.op.specs.Message.{message_value}
use Rattle.op.specs.declared.query.Query.{Query}
use Rattle.op.proofs.StripLemmas.{strips}
use Rattle.op.proofs.message.Message.maybe_strip_dnssec_records.Goals as goal

pub returns : goal.returns
returns c =
    let first = ap (λ (qs : List Query). slice_get qs 0) (sym c.deref.ensures.value) ∙ sym c.in-Some.ensures.value in
    strips (message_value c.args.self) c.if-query_has_dnssec_ok.false first c.query_type-asked.ensures
    c.keep_for_all.ensures c.keep_for_all-2.ensures c.keep_for_all-3.ensures
