use Rattle.std.proofs.Common.{◌≡◌, ◌∙◌, ℕ, ◌<◌, List, None, Some, refl, true, ap, sym, subst}
use Rattle.std.specs.FinSet as set
use Rattle.std.specs.Borrow.{Bor}
use Rattle.std.specs.Prelude.{Option, is_some}
use Rattle.base.specs.reading.Passing.{IsClosed}
use Rattle.base.specs.reading.Pointers.{labels_now}
use Rattle.base.specs.reading.Reader.{Reader}
use Rattle.base.proofs.reading.CountLemmas.{contains_kept, kept_near}
use Rattle.base.proofs.wire.decoder.BinDecoder.labels_at.Goals as goal

is_found : (found : Option (Bor (List ℕ))) → is_some (labels_now found) ≡ is_some found
is_found None = refl
is_found (Some labels) = refl

pub returns-clause-is : goal.returns-clause-is
returns-clause-is c =
    let t = c.args.target in
    sym (is_found c.find.result) ∙ ap is_some c.find.ensures ∙ sym (contains_kept c.self.inside.cache t)
    ∙ ap (λ (r : Reader). set.contains r.kept t) c.self.view_is

pub returns-clause-near : goal.returns-clause-near
returns-clause-near c =
    subst (λ (r : Reader). (q : ℕ) → set.contains r.kept q ≡ true → q < 16384) c.self.view_is
    (kept_near _ c.self.inside.cache c.self.invariant.1.0)

pub returns-clause-closed : goal.returns-clause-closed
returns-clause-closed c = subst (λ (r : Reader). IsClosed r.bytes r.kept) c.self.view_is c.self.invariant.1.1
