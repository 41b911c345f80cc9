use Rattle.std.proofs.Common.{rules, arith, ◌≡◌, ◌<◌, ◌∙◌, length}
use Rattle.rr.proofs.Around.{joined_after}
use Rattle.rr.proofs.IndexLemmas.{joined_at}
use Rattle.rr.proofs.rr_set.indexed_records.join_at.Goals as goal

pub returns-then-place-len : goal.returns-then-place-len
returns-then-place-len c =
    let len : c.len.result ≡ length c.args.records.now.items = search rules in
    c.push_reserved.ensures.items ∙ joined_after c.args.entry c.args.records.now.items
    (c.requires.place.none (c.if-place-len.true ∙ len))

pub returns-else-place-len : goal.returns-else-place-len
returns-else-place-len c =
    let len : c.len.result ≡ length c.args.records.now.items = search rules in
    let inside : c.args.place < length c.args.records.now.items = omega arith in
    c.set_at.ensures ∙ joined_at c.args.entry c.args.records.now.items c.args.place (c.requires.place.known inside)
