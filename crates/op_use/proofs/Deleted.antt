-- What a deletion of sets makes of a zone.
use Rattle.base.proofs.names.KeyLemmas.{key_cmp-total}
use Rattle.base.specs.RrKey.{key_cmp}
use Rattle.base.specs.declared.rr_key.RrKey.{RrKey}
use Rattle.base_data.specs.declared.rdata.RData.{RData}
use Rattle.op_use.proofs.ZoneSteps.{get_with_set, retained, same_sets}
use Rattle.op_use.specs.NamedChanges.{less_key, less_name}
use Rattle.op_use.specs.Server.{goes_with, is_any, is_under}
use Rattle.rr.specs.Record.{record_key, type_of_record}
use Rattle.op_use.specs.Zone.{Datum, Zone, is_guarded, is_owned}
use Rattle.rr.specs.declared.record.Record.{Record}
use Rattle.std.proofs.Common.{ap, refl, sym, ◌∙◌}
use Rattle.std.specs.Cmp.{eq_by_cmp_equiv}
use Rattle.std.specs.FinMap as fin
use Rattle.std.specs.FinMap.{FinMap}
use Rattle.std.specs.Prelude.{Bool, List, None, [], cond, false, not, true, ◌&&◌, ◌||◌, ◌≡◌}

spared : (o g : Bool) → not (o && not g) ≡ (not o || g)
spared true true = refl
spared true false = refl
spared false g = refl

pub turned : {A : Type 0} (b : Bool) (x y : A) → cond (not b) x y ≡ cond b y x
turned true x y = refl
turned false x y = refl

module _ (z : Zone) (r : Record RData) where
  deleted_at : (y g : Bool)
      → record z {
        sets = fin.retain_keys z.sets
            (λ k. not (cond y (is_owned r.name k && not (is_guarded z r.name k.record_type)) (not g && is_under r k)));
      }
      ≡ cond y (less_name z r.name) (cond g z (less_key z (record_key r)))
  deleted_at true g = ap (λ (p : RrKey → Bool). record z { sets = fin.retain_keys z.sets p })
      (λ i k. spared (is_owned r.name k) (is_guarded z r.name k.record_type) i)
  deleted_at false true = ap (λ (m : FinMap key_cmp (List Datum)). record z { sets = m })
      (same_sets _ _ (retained z.sets (λ k. true)))
  deleted_at false false = ap (λ (m : FinMap key_cmp (List Datum)). record z { sets = m }) (same_sets _ _ (λ q.
      retained z.sets (λ k. not (is_under r k)) q
      ∙ turned (is_under r q) (fin.get z.sets q) None
      ∙ ap (λ b. cond b None (fin.get z.sets q)) ((eq_by_cmp_equiv key_cmp-total).symm (record_key r) q)
      ∙ sym (get_with_set z.sets (record_key r) [] q)))

  -- the set, or all of the owner; at the origin SOA and NS stay
  pub deleted_is : record z { sets = fin.retain_keys z.sets (λ k. not (goes_with z r k)) }
      ≡ cond (is_any (type_of_record r)) (less_name z r.name)
      (cond (is_guarded z r.name (type_of_record r)) z (less_key z (record_key r)))
  deleted_is = deleted_at (is_any (type_of_record r)) (is_guarded z r.name (type_of_record r))
