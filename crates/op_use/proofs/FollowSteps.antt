-- The records under a key follow the data of the zone.
use Rattle.base.specs.RrKey.{key_cmp}
use Rattle.base.specs.declared.rr_key.RrKey.{RrKey}
use Rattle.base_data.specs.declared.rdata.RData.{RData}
use Rattle.op.specs.declared.response_code.ResponseCode.TheVariants.{NotImp}
use Rattle.op_use.proofs.AppliedData.{joined_data, without_data_of}
use Rattle.op_use.proofs.ZoneSteps.{at_after_put, retained, same_key}
use Rattle.op_use.specs.AppliedMeaning.{RecordsHoldTheData}
use Rattle.op_use.specs.AppliedRecords.{after_by, after_update, records_after, records_answered}
use Rattle.op_use.specs.Applying.{is_all_supported}
use Rattle.op_use.specs.NamedChanges.{datum_of}
use Rattle.op_use.specs.Server.{StepCode, OfAny, OfNone, OfNothing, OfZone, Sections, Use as UseValue, added, answer}
use Rattle.op_use.specs.Server.{fault, goes_with, is_cname, is_needed, removed, is_under, update, update_by, use_of}
use Rattle.rr.specs.Record.{record_key, type_of_record}
use Rattle.op_use.specs.Zone.{Datum, Zone, at, put}
use Rattle.rr.specs.SetChanges.{joined, without}
use Rattle.rr.specs.declared.record.Record.{Record}
use Rattle.std.proofs.Common.{ap, refl, sym, ◌∙◌}
use Rattle.std.specs.FinMap as fin
use Rattle.std.specs.List.{fold}
use Rattle.std.specs.Ordering.{eq_by_cmp}
use Rattle.std.specs.Prelude.{Bool, List, None, Some, [], cond, false, map, not, true, unwrap_or, ◌&&◌, ◌∷◌, ◌≡◌}

module _ (z : Zone) (r : Record RData) (k : RrKey) (xs : List (Record RData)) (same : at z k ≡ map datum_of xs) where
  -- a change of the record's set
  module _ (F : List (Record RData) → List (Record RData)) (G : List Datum → List Datum)
      (each : (ys : List (Record RData)) → map datum_of (F ys) ≡ G (map datum_of ys)) where
    set_follows : (b : Bool) → eq_by_cmp key_cmp (record_key r) k ≡ b
        → cond b (G (at z (record_key r))) (at z k) ≡ map datum_of (cond b (F xs) xs)
    set_follows true t = ap (λ q. G (at z q)) (same_key (record_key r) k t) ∙ ap G same ∙ sym (each xs)
    set_follows false t = same

    put_follows : at (put z (record_key r) (G (at z (record_key r)))) k ≡ map datum_of (cond (is_under r k) (F xs) xs)
    put_follows = at_after_put z (record_key r) k (G (at z (record_key r))) ∙ set_follows _ refl

  added_follows : (c a b : Bool)
      → at (cond (cond c a b) z (put z (record_key r) (cond c (datum_of r ∷ []) (added (at z (record_key r)) r)))) k
      ≡ map datum_of (cond (not (cond c a b) && is_under r k) (cond c (r ∷ []) (joined r xs)) xs)
  added_follows true true b = same
  added_follows true false b = put_follows (λ ys. r ∷ []) (λ ds. datum_of r ∷ []) (λ ys. refl)
  added_follows false a true = same
  added_follows false a false = put_follows (joined r) (λ ds. added ds r) (joined_data r)

  removed_follows : (n : Bool) → at (cond n z (put z (record_key r) (removed (at z (record_key r)) r))) k
      ≡ map datum_of (cond (not n && is_under r k) (without r xs) xs)
  removed_follows true = same
  removed_follows false = put_follows (without r) (λ ds. removed ds r) (without_data_of r)

  gone : (b : Bool) → unwrap_or (cond (not b) (fin.get z.sets k) None) [] ≡ map datum_of (cond b [] xs)
  gone true = refl
  gone false = same

  follows_by : (how : UseValue) → at (update_by how z r) k ≡ map datum_of (after_by how z r k xs)
  follows_by OfZone = added_follows (is_cname (type_of_record r)) _ _
  follows_by OfAny = ap (λ o. unwrap_or o [])
      (retained z.sets (λ q. not (goes_with z r q)) k) ∙ gone (goes_with z r k)
  follows_by OfNone = removed_follows (is_needed z r)
  follows_by OfNothing = same

pub all_follow : (rs : List (Record RData)) (z : Zone) (k : RrKey) (xs : List (Record RData)) → at z k ≡ map datum_of xs
    → at (fold update z rs) k ≡ map datum_of (records_after z rs k xs)
all_follow [] z k xs same = same
all_follow (r ∷ rs) z k xs same = all_follow rs (update z r) k (after_update z r k xs)
    (follows_by z r k xs same (use_of z.class r.dns_class))

module _ (z : Zone) (m : Sections) (k : RrKey) (xs : List (Record RData)) (same : at z k ≡ map datum_of xs) where
  outcome_follows : (served : Bool) (found : StepCode)
      → at (cond served (answer z m.updates found) (NotImp, z)).1 k ≡ map datum_of
      (cond served (records_answered z m.updates found k xs) xs)
  outcome_follows true (Some code) = same
  outcome_follows true None = all_follow m.updates z k xs same
  outcome_follows false found = same

pub records_follow : RecordsHoldTheData
records_follow z m k xs same = outcome_follows z m k xs same (is_all_supported m) (fault z m)
