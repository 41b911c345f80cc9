use Rattle.std.proofs.Common.{length, map}
use Rattle.std.specs.Str.{IsUtf8}
use Rattle.base.proofs.texts.ListItems.{Listing}
use Rattle.base.proofs.text.cutting.take_list.Given as goal

abbrev pub invariant-items : goal.invariant-items
invariant-items l = record {
  utf8 : IsUtf8 l.rest;
  listing : Listing l.text l.rest (map (λ word. word.now) l.items.items);
}

abbrev pub decreases-items : goal.decreases-items
decreases-items l = length l.rest
