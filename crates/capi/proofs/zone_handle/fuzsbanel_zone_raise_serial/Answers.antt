use Rattle.std.proofs.Common.{Some, of_z, subst, sym, to_z, w64, ℤ, ◌≡◌}
use Rattle.std.proofs.lemmas.Int.{to_z-of_z}
use Rattle.capi.proofs.HoldingLemmas.{never_refused}
use Rattle.capi.specs.Holding.{EndsAlone}
use Rattle.capi.specs.ZoneHandle.{IsRaisingHeld}
use Rattle.capi.proofs.zone_handle.fuzsbanel_zone_raise_serial.Goals as goal

pub returns-in-Some-clause-raising : goal.returns-in-Some-clause-raising
returns-in-Some-clause-raising c =
    let new = Some c.raise_held-serial.new.holding in
    let answered : ℤ = to_z w64 (of_z w64 c.raise_held-serial.result) in
    let same : answered ≡ c.raise_held-serial.result =
    to_z-of_z w64 c.raise_held-serial.result (record { sfits = c.raise_held-serial.type_inv }) in
    let raised : IsRaisingHeld (Some c.in-Some.holding.value) new answered =
    subst (λ h. IsRaisingHeld (Some h) new answered) c.deref_mut.ensures.value
    (subst (IsRaisingHeld (Some c.deref_mut.result.now) new) (sym same) c.raise_held-serial.ensures.raising) in
    subst (λ h. IsRaisingHeld c.args.handle.now.zone h answered) (sym c.put.ensures)
    (subst (λ h. IsRaisingHeld h new answered) c.in-Some.ensures.zone raised)

pub returns-in-Some-clause-memory : goal.returns-in-Some-clause-memory
returns-in-Some-clause-memory c = never_refused c.args.handle.now.zone c.put.new.handle.zone
    (to_z w64 (of_z w64 c.raise_held-serial.result)) (returns-in-Some-clause-raising c)

pub returns-in-Some-clause-alone : goal.returns-in-Some-clause-alone
returns-in-Some-clause-alone c =
    let new = Some c.raise_held-serial.new.holding in
    let answered : ℤ = to_z w64 (of_z w64 c.raise_held-serial.result) in
    let same : answered ≡ c.raise_held-serial.result =
    to_z-of_z w64 c.raise_held-serial.result (record { sfits = c.raise_held-serial.type_inv }) in
    let ends : EndsAlone (Some c.in-Some.holding.value) new answered =
    subst (λ h. EndsAlone (Some h) new answered) c.deref_mut.ensures.value
    (subst (EndsAlone (Some c.deref_mut.result.now) new) (sym same) c.raise_held-serial.ensures.alone) in
    subst (λ h. EndsAlone c.args.handle.now.zone h answered) (sym c.put.ensures)
    (subst (λ h. EndsAlone h new answered) c.in-Some.ensures.zone ends)
