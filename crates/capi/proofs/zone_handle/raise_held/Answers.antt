use Rattle.std.proofs.Common.{Some, ap, inl, of_z, subst, sym, to_z, w64, ℤ, ◌∙◌, ◌≡◌}
use Rattle.std.proofs.lemmas.Int.{to_z-of_z}
use Rattle.std.specs.Prelude.{neg_ℤ, pos}
use Rattle.capi.proofs.HoldingLemmas.{ends_own, ends_shared, raising_own}
use Rattle.capi.specs.Holding.{EndsAlone, zone_in}
use Rattle.capi.specs.ZoneHandle.{IsRaisedIn, parts_in}
use Rattle.capi.proofs.zone_handle.raise_held.Goals as goal

pub returns-in-Err-clause-alone : goal.returns-in-Err-clause-alone
returns-in-Err-clause-alone c =
    let old = c.args.holding.now in
    let new = c.make_own.new.self in
    let same : to_z w64 (of_z w64 c.refusal_code.result) ≡ neg_ℤ (pos 3) =
    to_z-of_z w64 c.refusal_code.result (record { sfits = c.refusal_code.type_inv })
    ∙ c.refusal_code.ensures ∙ ap (λ n. neg_ℤ (pos n)) c.into.ensures in
    subst (EndsAlone (Some old) (Some new)) (sym same) (ends_shared old new c.in-Err.ensures.refused.0)

pub returns-in-Own-clause-raising : goal.returns-in-Own-clause-raising
returns-in-Own-clause-raising c =
    let answered : ℤ = to_z w64 (of_z w64 c.raise_serial_of.result) in
    let same : answered ≡ c.raise_serial_of.result =
    to_z-of_z w64 c.raise_serial_of.result (record { sfits = c.raise_serial_of.type_inv }) in
    inl (raising_own (zone_in c.args.holding.now) c.in-Own.zone c.raise_serial_of.new.zone answered
    (subst (λ h. parts_in h ≡ parts_in c.args.holding.now) c.in-Own.is c.in_default.ensures.own.1)
    (subst (IsRaisedIn c.in-Own.zone c.raise_serial_of.new.zone) (sym same) c.raise_serial_of.ensures))

pub returns-in-Own-clause-alone : goal.returns-in-Own-clause-alone
returns-in-Own-clause-alone c = ends_own (Some c.args.holding.now) c.raise_serial_of.new.zone _
