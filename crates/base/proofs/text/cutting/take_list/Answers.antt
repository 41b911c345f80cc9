use Rattle.std.proofs.Common.{rules}
use Rattle.std.proofs.lemmas.List.{map-append}
use Rattle.std.proofs.lemmas.Result.{err_from_is_err_and}
use Rattle.base.proofs.texts.ListItems.{listing_more, listing_ends, listing_fails, next_shorter}
use Rattle.base.proofs.Refusing.{Faults-through}
use Rattle.base.proofs.text.cutting.take_list.Goals as goal

pub returns-in_err-word : goal.returns-in_err-word
returns-in_err-word c =
    let p = err_from_is_err_and c.from_residual.result c.from_residual.ensures.1 in
    rw (p.1, p.2) (Faults-through c.in_err-word.field-0.0
    (listing_fails c.items.invariant.listing) c.in_err-word.ensures)

pub returns-in_default : goal.returns-in_default
returns-in_default c = listing_ends c.in_ok-word.tail.now c.items.invariant.listing
    (rw c.in_default.is at c.in_ok-word.ensures)

pub items-smaller : goal.items-smaller
items-smaller c = next_shorter c.items.rest.now c.in-Some.word.now c.in_ok-word.tail.now
    (rw c.in-Some.is at c.in_ok-word.ensures)

pub items-preserved : goal.items-preserved
items-preserved c = record {
  utf8 = search rules;
  listing = rw (c.in_ok-push.ensures.items, map-append)
      (listing_more c.in-Some.word.now c.in_ok-word.tail.now c.items.invariant.listing
      (rw c.in-Some.is at c.in_ok-word.ensures));
}
