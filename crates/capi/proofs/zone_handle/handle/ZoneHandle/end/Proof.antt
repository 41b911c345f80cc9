-- `end` lets a closed handle go: it owns nothing.
use Rattle.std.proofs.Common.{◌≡◌, List, [], ◌∷◌, ◌++◌, refl, sym, subst}
use Rattle.std.specs.Prelude.{None}
use mathlib.Core.Bool.{Bool, false}
use mir.Val.{Val, vunit, vbool}
use base.Logic.{SProp, ent, emp, id⊢}
use base.Fml.{ftrue}
use prog.Wp.{WpFn}
use types.Kit.{‵, raw, ◌⊛◌, ◌$◌, ◌∵◌, !, qed, by, move, keep, split, fsplit, fjoin, suffices, use0, rewrite, feq_i}
use types.Run.{of_opd, unit_lit, returns, enter}
use types.ByLocal.{alloc_all, pass_all, free_all, look_at, sets}
use contract.Monad.{fact, fact_i}
use contract.Running.{tables}
use denote.Exit.{yes}
use denote.RattleType.{owns}
use denote.Signature.{types_at, plain}
use denote.RawPtr.{ptr_val}
use denote.Steps.{nothing, heard}
use denote.Triple.Walked.{Stays, stay_dropped, walk_of}
use Rattle.core.proofs.alloc.Calls.{Goes-blank}
use Rattle.std.proofs.raw_atomic.Walks.{proved_at, leaves}
use Rattle.capi.specs.Held.{held}
use Rattle.capi.proofs.BoxValues.{both}
use Rattle.capi.proofs.HandleValues.{Handle, handle_out, held_shut, handle_good}
use Rattle.capi.specs.contracts.zone_handle.handle.ZoneHandle.end.{ended, clauses}
use Rattle.capi.specs.contracts.zone_handle.handle.ZoneHandle.end.Key.{name as #self}
use Rattle.capi.proofs.zone_handle.handle.ZoneHandle.end.Statement.{statement}
use Rattle.capi.proofs.zone_handle.handle.ZoneHandle.end.Code as code

pub end_spec : {M : Type 1} → statement M
end_spec 𝓤 𝓛 𝓜 𝓡 wired =
    let H = 𝓛.H in let 𝓣 = tables 𝓤 H 𝓜 𝓡 𝓡.env in let c = clauses 𝓛 𝓜.mem 𝓡.returns in let fn = code.function in
    let hs : Stays ended.signature.params ended.kept = (stay_dropped (plain (λ _. Handle)) yes, tt) in
    proved_at 𝓛 ended hs c 𝓜 𝓡 (Goes-blank 𝓛 0 (plain (λ _. Handle)) yes (λ κs x f. tt), tt) #self fn
    (code.unfolded 𝓤 H 𝓜 𝓡 wired) (λ z are.
    let κs = z.0.0 in let v = z.0.3.0 in let Post : Val → SProp 𝓤 = (walk_of 𝓛 ended hs c).post z in let Run : List Val
    → SProp 𝓤 = λ ws. WpFn 𝓤 H 𝓣.C 𝓣.Λ fn ws Post in
    qed 𝓛 ((‵ ftrue ⊛ ‵ (owns (types_at ended.signature.params κs) z.0.3 z.0.4)) ∷ raw
    (fact 𝓤 (v.is_open ≡ false)) ∷ []) ∵ move ! (1 ∷ []) $ heard ! (v.is_open ≡ false)
    (λ eo. split ! $ move ! (1 ∷ []) $ fsplit ! $
    handle_out ! v.at v.is_open v.zone z.0.4.0
    (λ ews. rewrite ! 0 (λ (t : Bool). ‵ (held t v.at v.zone)) eo refl $ held_shut ! v.at v.zone (λ ez.
    let w : Val = both (ptr_val v.at) (vbool v.is_open) in
    suffices ! (Run (w ∷ [])) (subst (λ (us : List Val). ent 𝓤 (Run (w ∷ [])) (Run us)) (sym (λ i. ews i ++ []))
    (id⊢ 𝓤 (Run (w ∷ [])))) $
    enter ! 𝓣.C 𝓣.Λ fn (w ∷ []) Post $ alloc_all !
    (λ l. pass_all ! refl (handle_good v.at v.is_open, tt) $ sets ! (of_opd ! (unit_lit !)) refl (tt, tt) $
    use0 𝓛 (raw (fact 𝓤 (v.zone ≡ None))) (fact_i 𝓤 _ (emp 𝓤) ez) $ feq_i ! (List Val) (vunit ∷ [])
    (vunit ∷ []) refl $ nothing ! $ nothing ! $ fjoin ! $
    returns ! (look_at ! 0 refl) $ free_all ! refl $ keep ! (3 ∷ 0 ∷ 1 ∷ 2 ∷ []) $ by !
    (leaves 𝓛 ended hs c z vunit tt (tt, tt) (tt, tt)))))))
