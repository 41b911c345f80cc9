use Rattle.std.proofs.Common.{rules, tests, not}
use Rattle.std.proofs.lemmas.Iterator.{YieldsList-from_slice}
use Rattle.std.proofs.lemmas.Iterator.Adapters.{items_from_extend}
use Rattle.std.proofs.lemmas.Iterator.Consumers.{YieldsList-at, YieldsList-from_copied, YieldsList-from_filter}
use Rattle.commands.specs.HexInput.{is_hex_blank}
use Rattle.commands.proofs.hex_input.without_blanks.Goals as goal

pub returns : goal.returns
returns c =
    let added = items_from_extend c.extend.result c.extend.ensures.ran
    (YieldsList-from_filter _ (λ byte. not (is_hex_blank byte))
    (YieldsList-at c.filter.ensures.source (YieldsList-from_copied
    (YieldsList-at c.copied.ensures.source (YieldsList-from_slice c.args.text.now c.iter.ensures.rest))))
    c.filter.ensures.closure (λ x r q k. search (rules, tests))) in
    search rules
