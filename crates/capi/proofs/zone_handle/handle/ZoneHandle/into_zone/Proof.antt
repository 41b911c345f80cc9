-- `into_zone` gives a handle's zone back as a loose box.
use Rattle.std.proofs.Common.{◌≡◌, List, [], ◌∷◌, ◌++◌, refl, sym, ◌∙◌, subst}
use Rattle.std.specs.Prelude.{Some}
use mathlib.Core.Bool.{Bool, true}
use mir.Syntax.{impl, tnil, dnil}
use mir.Val.{Val, vptr, vbool}
use base.Logic.{SProp, ent, emp, id⊢}
use base.Fml.{ftrue}
use prog.Wp.{WpFn}
use types.Kit.{‵, raw, ◌⊛◌, ◌$◌, ◌∵◌, !, qed, by, move, keep, split, fsplit, fjoin, suffices, use0, rewrite}
use types.Run.{stop, fld, of_opd, no_more, and_then, returns, enter}
use types.ByLocal.{alloc_all, pass_all, free_all, look_at, get, get_in, sets}
use types.Part.{agg, sub, whole}
use contract.Monad.{fact, fact_i}
use contract.Running.{tables}
use denote.Exit.{yes}
use denote.RattleType.{RattleType, owns}
use denote.Signature.{types_at, plain}
use denote.RawPtr.{block_ptr, ptr_val}
use denote.Steps.{nothing, heard}
use denote.Triple.Walked.{Stays, stay_dropped, walk_of}
use Rattle.core.proofs.alloc.Calls.{Al, Goes-blank, handle_tells}
use Rattle.std.proofs.raw_atomic.Walks.{proved_at, leaves}
use Rattle.std.specs.contracts.alloc.Global as global
use Rattle.std.proofs.alloc.Global.TheLaws as global_laws
use Rattle.std.specs.contracts.impls.GlobalAllocator.TheImpl.{ghosts}
use Rattle.capi.specs.Held.{held}
use Rattle.capi.specs.contracts.zone_handle.holding.Holding as zone
use Rattle.capi.proofs.BoxValues.{both, loose_good, loose_in}
use Rattle.capi.proofs.HandleValues.{Handle, handle_out, held_out}
use Rattle.capi.specs.contracts.zone_handle.handle.ZoneHandle.into_zone.{ended, clauses}
use Rattle.capi.specs.contracts.zone_handle.handle.ZoneHandle.into_zone.Key.{name as #self}
use Rattle.capi.proofs.zone_handle.handle.ZoneHandle.into_zone.Statement.{statement}
use Rattle.capi.proofs.zone_handle.handle.ZoneHandle.into_zone.Code as code

abbrev al : Al
al = record {
  row = global.the_row;
  laws = global_laws.the_row_laws;
  g = ghosts;
  d = impl [] tnil dnil;
  drops =
      impl [] tnil dnil;
}

pub into_zone_spec : {M : Type 1} → statement M
into_zone_spec 𝓤 𝓛 𝓜 𝓡 wired =
    let H = 𝓛.H in let 𝓣 = tables 𝓤 H 𝓜 𝓡 𝓡.env in let c = clauses 𝓛 𝓜.mem 𝓡.returns in let fn = code.function in
    let R : RattleType = zone.the_row in let Z : RattleType = global.the_row in
    let hs : Stays ended.signature.params ended.kept =
    (stay_dropped (plain (λ _. Handle)) yes, (stay_dropped (plain (λ _. Z)) yes, tt)) in
    proved_at 𝓛 ended hs c 𝓜 𝓡 (
      Goes-blank 𝓛 0 (plain (λ _. Handle)) yes (λ κs x f. tt),
      (Goes-blank 𝓛 0 (plain (λ _. Z)) yes (λ κs x f. tt), tt),
    ) #self fn (code.unfolded 𝓤 H 𝓜 𝓡 wired) (λ z are.
    let κs = z.0.0 in let v = z.0.3.0 in let a = z.0.3.1.0 in let Post : Val → SProp 𝓤 =
    (walk_of 𝓛 ended hs c).post z in let Run : List Val → SProp 𝓤 = λ ws. WpFn 𝓤 H 𝓣.C 𝓣.Λ fn ws Post in
    qed 𝓛 ((‵ ftrue ⊛ ‵ (owns (types_at ended.signature.params κs) z.0.3 z.0.4)) ∷ raw (fact 𝓤 (v.is_open ≡ true)) ∷ [])
    ∵ move ! (1 ∷ []) $ heard ! (v.is_open ≡ true) (λ eo. split ! $ move ! (1 ∷ []) $ fsplit ! $
    handle_out ! v.at v.is_open v.zone z.0.4.0
    (λ ews. rewrite ! 0 (λ (t : Bool). ‵ (held t v.at v.zone)) eo refl $ held_out ! v.at v.zone (λ b o x ep ez.
    move ! (1 ∷ []) $ fsplit ! $ handle_tells al ! a z.0.4.1.0 (λ h eh fits.
    let w : Val = both (vptr b o) (vbool true) in
    let same : z.0.4.0 ++ (z.0.4.1.0 ++ []) ≡ w ∷ h ∷ [] =
    (λ i. (ews ∙ (λ j. both (ptr_val (ep j)) (vbool (eo j)) ∷ [])) i ++ (eh i ++ [])) in
    suffices ! (Run (w ∷ h ∷ [])) (subst (λ (us : List Val). ent 𝓤 (Run (w ∷ h ∷ [])) (Run us)) (sym same)
    (id⊢ 𝓤 (Run (w ∷ h ∷ [])))) $
    enter ! 𝓣.C 𝓣.Λ fn (w ∷ h ∷ []) Post $ alloc_all ! (λ l. pass_all ! refl ((tt, (tt, (tt, tt))), (fits, tt)) $
    sets ! (of_opd ! (get_in ! (fld ! refl (stop !)) (sub ! 0 refl (whole !)))) refl (tt, tt) $
    sets ! (of_opd ! (get ! refl)) refl (tt, tt) $
    sets ! (agg ! (and_then ! (get ! refl) (and_then ! (get ! refl) (no_more !)))) refl
    (loose_good R Z global_laws.the_row_laws ghosts b o h fits) $
    move ! (2 ∷ 0 ∷ []) $ loose_in R Z global_laws.the_row_laws ghosts ! b o h a x $
    use0 𝓛 (raw (fact 𝓤 (Some x ≡ v.zone))) (fact_i 𝓤 _ (emp 𝓤) (sym ez)) $ nothing ! $ nothing ! $ fjoin ! $ nothing !
    $ fjoin ! $
    returns ! (look_at ! 0 refl) $ free_all ! refl $ keep ! (4 ∷ 0 ∷ 2 ∷ 1 ∷ []) $ by !
    (leaves 𝓛 ended hs c z (both (vptr b o) h) (record { at = block_ptr b o; alloc = a; value = x }) (tt, (tt, tt))
    (tt, (tt, tt)))))))))
