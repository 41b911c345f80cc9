use Rattle.std.proofs.Common.{◌∙◌, ap}
use Rattle.std.specs.FinMap as map
use Rattle.base.specs.reading.Pointers.{Cache}
use Rattle.base.proofs.wire.pointer_cache.PointerCache.find.Goals as goal

pub returns-in_err-labels : goal.returns-in_err-labels
returns-in_err-labels c =
    let old = c.self.inside in
    rw c.from_residual.ensures ((rw c.deref.ensures.value at c.in_err-labels.ensures.found old.copies.bytes)
    ∙ ap (λ (m : Cache). map.get m c.args.offset) c.self.view_is)
