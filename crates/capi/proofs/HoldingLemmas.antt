-- A zone that a handle holds alone, where it was copied.
use Rattle.std.proofs.Common.{Err, List, None, Ok, Option, Some, ap, cond, inl, inr, refl, subst, sym, ℕ, ℤ, ◌∙◌, ◌≡◌}
use Rattle.std.proofs.Common.{◌⊎◌}
use Rattle.std.specs.Arc.{arc_value}
use Rattle.std.specs.declared.sync.Arc.{Arc}
use Rattle.std.specs.BTreeMap.{BTreeMap, IsUnchanged, get, is_at}
use Rattle.std.specs.Map.{KeepsOthers, lookup}
use Rattle.std.specs.Ordering.{eq_by_cmp}
use Rattle.std.specs.Prelude.{Bool, neg_ℤ, option_map, pos, true, false, ◌≢◌}
use Rattle.base.specs.RrKey.{key_cmp, key_of}
use Rattle.base.specs.declared.dns_class.DNSClass.TheVariants as classes
use Rattle.base.specs.declared.record_type.RecordType.TheVariants as types
use Rattle.base.specs.declared.rr_key.RrKey.{RrKey}
use Rattle.op_use.specs.Applying.{HasSameSets, IsApplied, IsChangeTold}
use Rattle.op_use.proofs.WholeSteps.{applied_copy}
use Rattle.op_use.specs.RaisedSerial.{IsRaised, IsRaisedTo, raised_set}
use Rattle.op_use.specs.Server.{sections_of}
use Rattle.rr.specs.RecordSet.{SetValue}
use Rattle.std.specs.Option.{option_and_then}
use Rattle.std.specs.declared.alloc.Global.{Global}
use Rattle.tasks.specs.Asked.{Asked}
use Rattle.tasks.specs.declared.refusal.Refusal.{Refusal}
use Rattle.capi.specs.Holding.{EndsAlone, IsAlone, Shares, is_shared, zone_held, zone_in}
use Rattle.capi.specs.ZoneHandle.{IsHeld, IsOpen, IsOpenAt, IsRaisedIn, IsRaising, IsServed, IsSharing, IsSpared}
use Rattle.capi.specs.ZoneHandle.{IsUpdated, IsUpdating}
use Rattle.capi.specs.ZoneHandle.{IsRaisingHeld, ZoneParts, parts_of}
use Rattle.capi.specs.declared.zone_handle.held.HeldZone.{HeldZone}
use Rattle.capi.specs.declared.zone_handle.holding.Holding.{Holding}
use Rattle.capi.specs.declared.zone_handle.holding.Holding.TheVariants as holdings

-- ---- maps of the same entries

module _ (m n : BTreeMap RrKey SetValue) (same : IsUnchanged m n) where
  found : (q : RrKey) → get key_cmp n q ≡ get key_cmp m q
  found q = ap (λ es. lookup (is_at (key_cmp q)) es) same

  pub spared_copy : (p : BTreeMap RrKey SetValue) → HasSameSets n p → HasSameSets m p
  spared_copy p is = λ q. is q ∙ found q

  raised_to : (k : RrKey) (p : BTreeMap RrKey SetValue) (serial : Option ℕ) (o : Option (SetValue × ℕ))
      → IsRaisedTo o k n p serial → IsRaisedTo o k m p serial
  raised_to k p serial (Some r) (u, is) = (
    (
      λ q. u.0 q ∙ ap (λ x. cond (is_at (key_cmp k) q) (Some r.0) x) (found q),
      u.1,
      λ q out. u.2 q out ∙ found q,
      subst (λ es. KeepsOthers (eq_by_cmp key_cmp) (is_at (key_cmp k)) es p.entries) same u.3,
    ),
    is,
  )
  raised_to k p serial None (sets, is) = (spared_copy p sets, is)

  pub raised_copy : (k : RrKey) (p : BTreeMap RrKey SetValue) (serial : Option ℕ)
      → IsRaised k n p serial → IsRaised k m p serial
  raised_copy k p serial is = raised_to k p serial (option_and_then raised_set (get key_cmp m k))
      (subst (λ o. IsRaisedTo (option_and_then raised_set o) k n p serial) (found k) is)

-- ---- zones of the same parts

module _ (a z new : HeldZone) (result : ℤ) (same : parts_of z ≡ parts_of a) where
  origins : z.origin ≡ a.origin
  origins = ap (λ (x : ZoneParts). x.0) same

  sets : z.sets.entries ≡ a.sets.entries
  sets = ap (λ (x : ZoneParts). x.1) same

  told_copy : (is_changed : Bool) → IsChangeTold is_changed z.sets new.sets → IsChangeTold is_changed a.sets new.sets
  told_copy true (k, other) = (k, λ same. other (same ∙ sym (found a.sets z.sets sets k)))
  told_copy false same = spared_copy a.sets z.sets sets new.sets same

  updated_copy : (update : List ℕ) (is_changed : Bool) → IsUpdated update z new is_changed result
      → IsUpdated update a new is_changed result
  updated_copy update is_changed (origin, is) = (origin ∙ origins, go is) where
    go : IsServed update z new is_changed result ⊎ IsSpared update z new is_changed result
        → IsServed update a new is_changed result ⊎ IsSpared update a new is_changed result
    go (inl served) = inl (record {
      message = served.message;
      read = served.read;
      code = served.code;
      applied = applied_copy a.origin classes.IN a.sets z.sets new.sets sets (sections_of served.message) served.code
          (subst (λ o. IsApplied o classes.IN (sections_of served.message) z.sets served.code new.sets) origins
          served.applied);
      told = told_copy is_changed served.told;
      is = served.is;
    })
    go (inr spared) = inr (record {
      sets = spared_copy a.sets z.sets sets new.sets spared.sets;
      told = spared.told;
      number = spared.number;
      why = spared.why;
      is = spared.is;
    })

  raised_in_copy : IsRaisedIn z new result → IsRaisedIn a new result
  raised_in_copy (origin, (serial, raised, is)) = (
    origin ∙ origins,
    (
      serial,
      raised_copy a.sets z.sets sets (key_of a.origin types.SOA) new.sets serial
          (subst (λ o. IsRaised (key_of o types.SOA) z.sets new.sets serial) origins raised),
      is,
    ),
  )

-- ---- what a handle holds

-- the parts, of those that are there
abbrev some_parts : ZoneParts → Option ZoneParts → ZoneParts
some_parts other (Some parts) = parts
some_parts other None = other

-- a zone that was made the handle's own is updated as what the handle held
pub updating_own : (update : List ℕ) (old : Option HeldZone) (z new : HeldZone) (is_changed : Bool) (result : ℤ)
    → Some (parts_of z) ≡ option_map parts_of old → IsUpdated update z new is_changed result
    → IsUpdating update old (Some new) is_changed result
updating_own update None z new is_changed result same is = absurd cc
updating_own update (Some a) z new is_changed result same is =
    (new, refl, updated_copy a z new result (ap (some_parts (parts_of a)) same) update is_changed is)

-- and so is its serial raised
pub raising_own : (old : Option HeldZone) (z new : HeldZone) (result : ℤ)
    → Some (parts_of z) ≡ option_map parts_of old → IsRaisedIn z new result → IsRaising old (Some new) result
raising_own None z new result same is = absurd cc
raising_own (Some a) z new result same is =
    (new, refl, raised_in_copy a z new result (ap (some_parts (parts_of a)) same) is)

-- a zone that is shared, and wasn't copied since memory ran out, stays
pub updating_stays : (update : List ℕ) (old new : Holding) → is_shared old ≡ true → zone_in new ≡ zone_in old
    → IsUpdating update (zone_in old) (zone_in new) false (neg_ℤ (pos 3))
updating_stays update (holdings.Own z) new is same = absurd cc
updating_stays update (holdings.Shared z) new is same =
    (arc_value z, same, (refl, inr (record { sets = λ k. refl; told = refl; number = 3; why = inl refl; is = refl })))
updating_stays update holdings.Empty new is same = absurd cc

-- a handle that was opened at what is shared shares it
pub sharing_made : (zone : Option HeldZone) (shared : Arc HeldZone Global) (old new : Option Holding) (result : ℤ)
    → Shares zone (Ok shared) → IsOpenAt (holdings.Shared shared) old new result
    → IsSharing zone (zone_held old) (zone_held new) result
sharing_made None shared old new result is opens = absurd is
sharing_made (Some z) shared old new result is (inl (opened, zero)) = inl (ap zone_held opened ∙ ap Some is, zero)
sharing_made (Some z) shared old new result is (inr (stays, three)) = inr (ap zone_held stays, three)

-- and one that wasn't holds what it held
pub sharing_refused : (zone : Option HeldZone) (refusal : Refusal) (old : Option HeldZone) (result : ℤ)
    → Shares zone (Err refusal) → result ≡ neg_ℤ (pos refusal.number) → IsSharing zone old old result
sharing_refused None refusal old result is told = (refl, told ∙ ap (λ n. neg_ℤ (pos n)) is)
sharing_refused (Some z) refusal old result is told = inr (refl, told ∙ ap (λ n. neg_ℤ (pos n)) is)

-- ---- opening

-- the number of a refusal
abbrev refused_by : Asked ZoneParts → ℕ
refused_by (Ok parts) = 0
refused_by (Err number) = number

module _ (asked : Asked ZoneParts) (old new : Option Holding) (result : ℤ) where
  -- what comes of a zone that is asked for is opened, or memory ran out
  abbrev pub IsOpenedAs : Type 0
  IsOpenedAs = ((made : Asked ZoneParts) × IsHeld asked made × IsOpen made old new result)
      ⊎ IsOpen (Err 3) old new result

  pub opening_made : (zone : HeldZone)
      → IsHeld asked (Ok (parts_of zone)) ⊎ (◌≡◌ {A = Asked ZoneParts} (Ok (parts_of zone)) (Err 3))
      → IsOpenAt (holdings.Own zone) old new result → IsOpenedAs
  opening_made zone (inl held) (inl (opened, zero)) = inl (
    Ok (parts_of zone),
    held,
    (ap (λ h. option_map parts_of (zone_held h)) opened, subst IsAlone (sym opened) refl, zero),
  )
  opening_made zone (inr memory) (inl opened) = absurd cc
  opening_made zone made (inr stays) = inr stays

  pub opening_refused : (number : ℕ)
      → IsHeld asked (Err number) ⊎ (◌≡◌ {A = Asked ZoneParts} (Err number) (Err 3)) → new ≡ old
      → result ≡ neg_ℤ (pos number) → IsOpenedAs
  opening_refused number (inl held) stays is = inl (Err number, held, (stays, is))
  opening_refused number (inr memory) stays is = inr (stays, is ∙ ap (λ e. neg_ℤ (pos (refused_by e))) memory)

-- ---- who holds the zone

-- a handle that is left with a zone of its own
pub ends_own : (old : Option Holding) (zone : HeldZone) (result : ℤ) → EndsAlone old (Some (holdings.Own zone)) result
ends_own old zone result = record { stays = λ alone. refl; answered = λ n is. refl }

-- one that was refused for memory, as its zone is shared
pub ends_shared : (old new : Holding) → is_shared old ≡ true → EndsAlone (Some old) (Some new) (neg_ℤ (pos 3))
ends_shared (holdings.Own zone) new shared = absurd cc
ends_shared (holdings.Shared zone) new shared = record { stays = λ alone. absurd cc; answered = λ n is. absurd cc }
ends_shared holdings.Empty new shared = record { stays = λ alone. absurd cc; answered = λ n is. absurd cc }

-- raising the serial is refused for memory where the zone is shared alone
pub never_refused : (old new : Option Holding) (result : ℤ) → IsRaisingHeld old new result → IsAlone old
    → result ≢ neg_ℤ (pos 3)
never_refused None new result is alone refused = absurd alone
never_refused (Some (holdings.Own zone)) new result (inl (z, is, (origin, (Some serial, raised, told)))) alone refused =
    absurd cc
never_refused (Some (holdings.Own zone)) new result (inl (z, is, (origin, (None, raised, told)))) alone refused =
    absurd cc
never_refused (Some (holdings.Own zone)) new result (inr (shared, same, is)) alone refused = absurd cc
never_refused (Some (holdings.Shared zone)) new result is alone refused = absurd cc
never_refused (Some holdings.Empty) new result is alone refused = absurd cc
