-- What is owned of a handle, beside the machine's value of it. Assumes `Logic`.
use Rattle.std.proofs.Common.{◌≡◌, ℕ, List, [], ◌∷◌, ◌++◌, refl, ap, ◌∙◌}
use Rattle.std.specs.Prelude.{Option, Some, None}
use mathlib.Core.Bool.{Bool, true, false, ◌&&◌}
use seplogic.Ra.Ura.{Ura}
use lib.Dec.{T, lit<}
use mir.Syntax.{ty_ptr}
use mir.Raw.{raw as bare}
use denote.Param.{layout}
use Rattle.core.proofs.cell.Inside.{Good}
use denote.Memory.{lone}
use mir.Val.{Val, vbool, vstruct, of_list, has_ty, WT}
use base.Logic.{never, never_e, fst∗}
use base.Fml.{ftrue, ffalse}
use types.Logic.{Logic, sem}
use types.Kit.{Item, Goal, Seq, Step, step, ‵, given, learn, ◌$◌, use1, drop, fsplit, fjoin, fpick, fpack, feq_i, feq_l}
use denote.RattleType.{RattleType, Valss}
use denote.Builtin.{RawPtr, bool}
use denote.RawPtr.{Ptr, block_ptr, null_ptr, ptr_val, in_a_block}
use denote.Steps.{nothing}
use denote.Struct.Struct.{within}
use denote.Struct.Owning.{shape}
use Rattle.std_alloc.specs.Box.Ownership.{box_owns}
use Rattle.capi.specs.Held.{held, token}
use Rattle.capi.specs.declared.zone_handle.holding.Holding.{Holding}
use Rattle.capi.specs.contracts.zone_handle.holding.Holding as zone
use Rattle.capi.specs.contracts.zone_handle.handle.ZoneHandle as handle
use Rattle.capi.proofs.BoxValues.{both}

abbrev pub Handle : RattleType
Handle = handle.the_row

module _ {M : Type 1} {𝓤 : Ura M} {𝓛 : Logic 𝓤} {K : Type 0} {Γ : List (Item 𝓤)} {G : Goal 𝓤 𝓛.H} where
  pub never_comes : K → Seq K 𝓛 (‵ ffalse ∷ Γ) G
  never_comes κ = use1 𝓛 (given ⊥ (‵ ftrue)) (never_e 𝓤 _) $ learn κ (λ z. absurd z)

  pub handle_in : K → (p : Ptr) (t : Bool) (z : Option Holding)
      → Step K 𝓛 (‵ (Handle.own_val (record { at = p; is_open = t; zone = z }) (both (ptr_val p) (vbool t) ∷ [])) ∷ Γ) G
      (‵ (held t p z) ∷ Γ) G
  handle_in κ p t z = step (λ s. let v : Val = both (ptr_val p) (vbool t) in
      nothing κ $ feq_i κ (List Val) (vbool t ∷ []) (vbool t ∷ []) refl $ fjoin κ $ feq_i κ (List Val) (ptr_val p ∷ [])
      (ptr_val p ∷ []) refl $ fjoin κ $
      feq_i κ (List Val) (v ∷ []) (v ∷ []) refl $ fjoin κ $ fpack κ (Valss (RawPtr ∷ bool ∷ []))
      (within (shape handle.the_type) (p, (t, tt)) (v ∷ [])) (ptr_val p ∷ [], (vbool t ∷ [], tt)) $ fjoin κ $ s)

  pub held_out : K → (p : Ptr) (z : Option Holding)
      → ((b o : ℕ) (x : Holding) → p ≡ block_ptr b o → z ≡ Some x
      → Seq K 𝓛 (‵ (box_owns token zone.the_row (block_ptr b o) x) ∷ Γ) G)
      → Seq K 𝓛 (‵ (held true p z) ∷ Γ) G
  held_out κ p (Some x) k = in_a_block κ p (λ q. box_owns token zone.the_row q x)
      (fst∗ 𝓤 (never 𝓤) (sem 𝓛 (token (bare (lone zone.the_row.mir)) null_ptr))) (λ b o e. k b o x e refl)
  held_out κ p None k = never_comes κ

  pub handle_out : K → (p : Ptr) (t : Bool) (z : Option Holding) (vs : List Val)
      → (vs ≡ both (ptr_val p) (vbool t) ∷ [] → Seq K 𝓛 (‵ (held t p z) ∷ Γ) G)
      → Seq K 𝓛 (‵ (Handle.own_val (record { at = p; is_open = t; zone = z }) vs) ∷ Γ) G
  handle_out κ p t z vs k =
      fsplit κ $ fpick κ (λ vss. fsplit κ $ feq_l κ
      (λ ev. fsplit κ $ feq_l κ (λ ep. fsplit κ $ feq_l κ (λ et. drop κ $ k
      (ev ∙ ap (λ (us : List Val × List Val). vstruct (of_list (us.0 ++ (us.1 ++ []))) ∷ []) (λ i. (ep i, et i)))))))

  pub held_shut : K → (p : Ptr) (z : Option Holding) → (z ≡ None → Seq K 𝓛 (‵ ftrue ∷ Γ) G)
      → Seq K 𝓛 (‵ (held false p z) ∷ Γ) G
  held_shut κ p (Some x) k = never_comes κ
  held_shut κ p None k = k refl

pub ptr_good : (p : Ptr) → Good ty_ptr (ptr_val p)
ptr_good (block_ptr b o) = (tt, tt)
ptr_good null_ptr = (tt, record { fits = lit< tt })

pub handle_good : (p : Ptr) (t : Bool) → Good (layout Handle) (both (ptr_val p) (vbool t))
handle_good (block_ptr b o) t = (tt, (tt, (tt, tt)))
handle_good null_ptr t = (tt, (record { fits = lit< tt }, (tt, tt)))

pub looked_good : (p : Ptr) (t : Bool) → T ((has_ty ty_ptr (ptr_val p) && true) && true)
    × WT (both (vbool t) (both (ptr_val p) (vbool t)))
looked_good (block_ptr b o) t = (tt, (tt, ((tt, (tt, tt)), tt)))
looked_good null_ptr t = (tt, (tt, ((record { fits = lit< tt }, (tt, tt)), tt)))
