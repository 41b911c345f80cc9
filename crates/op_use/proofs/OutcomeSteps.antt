-- What updates make of a zone, by what those of each owner make of its sets.
use Rattle.base.specs.names.Labels.{NameValue}
use Rattle.base.specs.names.NameOrder.{exact, folded, lowered, name_cmp}
use Rattle.base.specs.names.NameOrderLaws.{same_by-equiv}
use Rattle.base.specs.RrKey.{key_cmp}
use Rattle.base.specs.declared.record_type.RecordType.TheVariants as types
use Rattle.base.specs.declared.dns_class.DNSClass.{DNSClass}
use Rattle.base.specs.declared.rr_key.RrKey.{RrKey}
use Rattle.base_data.specs.declared.rdata.RData.{RData}
use Rattle.op_use.proofs.ChangingSteps.{map_part}
use Rattle.op_use.proofs.KeySets.{owned_key}
use Rattle.op_use.proofs.MapZones.{get_zone}
use Rattle.op_use.proofs.ZoneSteps.{same_key}
use Rattle.op_use.proofs.OwnerParts.{Agrees, of_owner, own_beside, own_named, own_updates, owns_named, records_same}
use Rattle.op_use.proofs.OwnerParts.{records_stay}
use Rattle.op_use.proofs.OwnerRuns.{Ascends, IsBefore, IsRun, Starts, beside, irreflexive, own_is, run}
use Rattle.op_use.proofs.OwnerRuns.{of_owner as of_run}
use Rattle.op_use.specs.AppliedRecords.{records_after}
use Rattle.op_use.specs.Applying.{IsZoneMap, KeepsSame, data_in_set, names_owner, records_at, records_in}
use Rattle.op_use.specs.Applying.{zone_of_map}
use Rattle.op_use.specs.HeldZone.{HeldZone, zone_held}
use Rattle.op_use.specs.MapUpdates.{IsAfter, IsLeft, IsUpdated, Opens, has_key, names_set}
use Rattle.op_use.specs.Outcome.{Change, FitsThere, HasNothing, Installs, IsOutcome, IsSettled, Leaves, Settles}
use Rattle.op_use.specs.Outcome.{SettlesAt, UpdatesOwner, UpdatesTo, change_at, changed, each, found, no_change}
use Rattle.op_use.proofs.WalkSteps.{IsAhead, ahead_of}
use Rattle.op_use.specs.OwnerWalk.{HasFrom, least}
use Rattle.op_use.specs.Zone.{is_owned}
use Rattle.op_use.specs.declared.apply.outcome.Outcome.{Outcome}
use Rattle.rr.specs.RecordSet.{SetValue}
use Rattle.rr.specs.SetChanges.{last_ttl}
use Rattle.rr.specs.declared.record.Record.{Record}
use Rattle.std.proofs.Common.{ap, arith, drop, get_or, inl, length, length-drop, inr, refl, subst, sym, take, ◌∙◌, ◌⊎◌}
use Rattle.std.proofs.Math.Bool.{and-false, and_comm, or-false}
use Rattle.std.proofs.lemmas.Bool.{cond-true, false_from_ne_true, true_from_ne_false, true≢false}
use Rattle.std.proofs.lemmas.List.Folds.{list_any-append}
use Rattle.std.proofs.lemmas.List.Sums.{prefix_len-le-length}
use Rattle.std.proofs.lemmas.List.{drop-drop, drop_more, take_all}
use Rattle.std.proofs.lemmas.Map.Views.{any-filter_same}
use Rattle.std.specs.BTreeMap as tree
use Rattle.std.specs.BTreeMap.{BTreeMap}
use Rattle.std.specs.Borrow.{Bor}
use Rattle.std.specs.List.{filter, prefix_len}
use Rattle.std.specs.Ordering.{eq_by_cmp}
use Rattle.std.specs.Prelude.{Bool, List, None, Option, Some, [], cond, false, is_some, not, option_map, true}
use Rattle.std.specs.Prelude.{ℕ, ◌&&◌, ◌++◌, ◌+◌, ◌-◌, ◌<◌, ◌≤◌, ◌||◌, ◌∷◌, ◌≡◌, ◌≢◌}
use Rattle.std.specs.declared.cmp.Ordering.TheVariants.{Less}

-- ---- a set that is settled

-- what is noted under a key at first: that the set goes, where the zone has one and none stands now
abbrev pub noted : Option SetValue → Option SetValue → Change
noted old now = record { added = None; replaced = None; is_gone = is_some old && not (is_some now) }

-- by whether updates name the set
settled_by : (named : Bool) (old now new : Option SetValue)
    → (named ≡ false → (s : SetValue) → now ≡ Some s → old ≡ Some s)
    → ((s : SetValue) → old ≡ Some s → s.records ≢ []) → ((named && is_some now) ≡ true → IsSettled old now new)
    → ((named && is_some now) ≡ false → new ≡ changed (noted old now) old) → IsSettled old now new
settled_by true old (Some s) new same filled some none = some refl
settled_by named None None new same filled some none = inl (none (and-false named), refl)
settled_by named (Some w) None new same filled some none = inr (none (and-false named), λ e. filled w refl (sym e))
settled_by false None (Some s) new same filled some none = inl (none refl, ap records_in (sym (same refl s refl)))
settled_by false (Some w) (Some s) new same filled some none = inl (none refl, ap records_in (sym (same refl s refl)))

-- a set that goes was there
noted_alters : (old now : Option SetValue) → changed (noted old now) old ≡ old → noted old now ≡ no_change
noted_alters None now e = refl
noted_alters (Some w) (Some s) e = refl
noted_alters (Some w) None e = absurd (some e) where
  some : None ≡ Some w → ⊥
  some e = absurd cc

module _ (old now : Option SetValue) (c : Change) where
  some_settled : (b : Bool) (first : Change) → SettlesAt b old now first c → b ≡ true
      → IsSettled old now (changed c old)
  some_settled true first h e = h.0
  some_settled false first h e = absurd cc

  none_settled : (b : Bool) (first : Change) → SettlesAt b old now first c → b ≡ false
      → changed c old ≡ changed first old
  none_settled true first h e = absurd cc
  none_settled false first h e = ap (λ (x : Change). changed x old) h

  fits_by : (b : Bool) → SettlesAt b old now (noted old now) c → FitsThere c old
  fits_by true h = h.1
  fits_by false h = subst (λ (x : Change). FitsThere x old) (sym h)
      (record {
        absent = λ e. absurd (true≢false (sym e));
        there = λ e. absurd (true≢false (sym e));
        alters = noted_alters old now;
      })

kept_by : (old now new : Option SetValue) → IsSettled old now new → records_in new ≡ records_in old → new ≡ old
kept_by old now new (inl h) same = h.0
kept_by old now new (inr h) same = absurd (h.1 (sym (ap records_in h.0) ∙ same))

-- ---- the sets of one owner

module _ (origin owner : NameValue) (class : DNSClass) (rs : List (Record RData)) (m part now : BTreeMap RrKey SetValue)
    (names : (q : RrKey) → names_owner rs q ≡ true → is_owned owner q ≡ true)
    (opened : (q : RrKey) → tree.get key_cmp part q ≡ cond (is_owned owner q) (tree.get key_cmp m q) None)
    (after : IsAfter origin class rs part now) where
  part_here : (q : RrKey) → is_owned owner q ≡ true → tree.get key_cmp part q ≡ tree.get key_cmp m q
  part_here q e = opened q ∙ ap (λ b. cond b (tree.get key_cmp m q) None) e

  agree : Agrees (is_owned owner) (zone_of_map origin class m) (zone_of_map origin class part)
  agree = record {
    origin = refl;
    class = refl;
    sets = λ q e. get_zone origin class m q ∙ ap (option_map data_in_set) (sym (part_here q e))
        ∙ sym (get_zone origin class part q);
  }

  -- a set that no update names stands as it stood
  stood : (q : RrKey) → names_set rs q ≡ false → is_owned owner q ≡ true → (s : SetValue)
      → tree.get key_cmp now q ≡ Some s → tree.get key_cmp m q ≡ Some s
  stood q free own s e = from ((after q).source s e) where
    from : (tree.get key_cmp part q ≡ Some s) ⊎ ((names_set rs q ≡ true) × (s.ttl ≡ last_ttl s.records))
        → tree.get key_cmp m q ≡ Some s
    from (inl h) = sym (part_here q own) ∙ h
    from (inr h) = absurd (true≢false (sym h.0 ∙ free))

  left_now : (q : RrKey) → is_owned owner q ≡ true
      → IsLeft (zone_of_map origin class m) rs q (tree.get key_cmp m q) (tree.get key_cmp now q)
  left_now q own =
      let h : IsLeft (zone_of_map origin class part) rs q (tree.get key_cmp m q) (tree.get key_cmp now q) =
      subst (λ o. IsLeft (zone_of_map origin class part) rs q o (tree.get key_cmp now q)) (part_here q own) (after q) in
      record {
        fits = h.fits;
        exact = h.exact ∙ sym (records_same (is_owned owner) rs (zone_of_map origin class m)
            (zone_of_map origin class part) q (records_at m q) names agree);
        source = h.source;
      }

  left_by : (before : IsZoneMap class m) (q : RrKey) (new : Option SetValue) → is_owned owner q ≡ true
      → IsSettled (tree.get key_cmp m q) (tree.get key_cmp now q) new
      → IsLeft (zone_of_map origin class m) rs q (tree.get key_cmp m q) new
  left_by before q new own (inl h) =
      subst (λ o. IsLeft (zone_of_map origin class m) rs q (tree.get key_cmp m q) o) (sym h.0)
      (record { fits = before q; exact = sym h.1 ∙ (left_now q own).exact; source = λ s e. inl e })
  left_by before q new own (inr h) =
      subst (λ o. IsLeft (zone_of_map origin class m) rs q (tree.get key_cmp m q) o) (sym h.0) (left_now q own)

  -- nothing stands now under keys of others
  owned_now : (q : RrKey) → is_some (tree.get key_cmp now q) ≡ true → is_owned owner q ≡ true
  owned_now q h = true_from_ne_false _ (λ free. some (tree.get key_cmp now q) refl h (none_there free)) where
    none_there : is_owned owner q ≡ false → records_at now q ≡ []
    none_there free = (after q).exact
        ∙ records_stay rs (zone_of_map origin class part) q (records_at part q)
        (false_from_ne_true _ (λ e. true≢false (sym (names q e) ∙ free)))
        ∙ ap records_in (opened q ∙ ap (λ b. cond b (tree.get key_cmp m q) None) free)

    some : (o : Option SetValue) → tree.get key_cmp now q ≡ o → is_some o ≡ true → records_at now q ≡ [] → ⊥
    some (Some s) e t none = ((after q).fits s e).filled (ap records_in (sym e) ∙ none)
    some None e t none = absurd cc

-- ---- what an outcome has of one owner

module _ (owner : NameValue) (z part now : HeldZone) (rs : List (Record RData)) (ks : List RrKey)
    (stood_now : BTreeMap RrKey SetValue) (first mid : Outcome) (before : IsZoneMap z.class z.sets)
    (names : (q : RrKey) → names_owner rs q ≡ true → is_owned owner q ≡ true)
    (new : (q : RrKey) → is_owned owner q ≡ true → HasNothing first q)
    (are : ks ≡ filter (λ k. is_owned owner k) (tree.keys z.sets)) (opens : Opens ks z part)
    (updated : IsUpdated rs part now) (now_is : stood_now ≡ now.sets)
    (added : mid.added ≡ first.added) (replaced : mid.replaced ≡ first.replaced)
    (gone : mid.gone.items ≡ first.gone.items ++ filter (λ k. not (is_some (tree.get key_cmp stood_now k))) ks) where
  keys : (q : RrKey) → has_key q ks ≡ (is_owned owner q && is_some (tree.get key_cmp z.sets q))
  keys q = ap (has_key q) are ∙ owned_key owner q z.sets

  opened : (q : RrKey) → tree.get key_cmp part.sets q ≡ cond (is_owned owner q) (tree.get key_cmp z.sets q) None
  opened q = opens.holds q ∙ ap (λ b. cond b (tree.get key_cmp z.sets q) None) (keys q)
      ∙ by (is_owned owner q) (tree.get key_cmp z.sets q) where
        by : (b : Bool) (o : Option SetValue) → cond (b && is_some o) o None ≡ cond b o None
        by true (Some s) = refl
        by true None = refl
        by false o = refl

  part_map : IsZoneMap z.class part.sets
  part_map = map_part z.class (is_owned owner) z.sets part.sets opened before

  after : IsAfter z.origin z.class rs part.sets now.sets
  after = subst (λ (y : HeldZone). IsZoneMap y.class y.sets → IsAfter y.origin y.class rs y.sets now.sets)
      opens.rest updated.holds part_map

  -- what is noted to go: sets of the owner that were there, of which none stands now
  gone_at : (q : RrKey) → has_key q mid.gone.items ≡ (has_key q first.gone.items
      || (not (is_some (tree.get key_cmp stood_now q)) && (is_owned owner q && is_some (tree.get key_cmp z.sets q))))
  gone_at q = ap (has_key q) gone ∙ list_any-append (eq_by_cmp key_cmp q) first.gone.items _
      ∙ ap (λ b. has_key q first.gone.items || b)
      (any-filter_same (eq_by_cmp key_cmp q) (λ k. not (is_some (tree.get key_cmp stood_now k)))
      (not (is_some (tree.get key_cmp stood_now q)))
      (λ k e. ap (λ x. not (is_some (tree.get key_cmp stood_now x))) (sym (same_key q k e))) ks
      ∙ ap (λ b. not (is_some (tree.get key_cmp stood_now q)) && b) (keys q))

  mid_at : (q : RrKey) → is_owned owner q ≡ true
      → change_at mid q ≡ noted (tree.get key_cmp z.sets q) (tree.get key_cmp now.sets q)
  mid_at q own i = record {
    added = (ap (λ v. found v.items q) added ∙ ap (λ (c : Change). c.added) (new q own)) i;
    replaced = (ap (λ v. found v.items q) replaced ∙ ap (λ (c : Change). c.replaced) (new q own)) i;
    is_gone = (gone_at q ∙ (λ i. (new q own i).is_gone
        || (not (is_some (tree.get key_cmp (now_is i) q)) && (own i && is_some (tree.get key_cmp z.sets q))))
        ∙ and_comm (not (is_some (tree.get key_cmp now.sets q))) (is_some (tree.get key_cmp z.sets q))) i;
  }

  mid_beside : (q : RrKey) → is_owned owner q ≡ false → change_at mid q ≡ change_at first q
  mid_beside q free i = record {
    added = found (added i).items q;
    replaced = found (replaced i).items q;
    is_gone = (gone_at q
        ∙ ap (λ b. has_key q first.gone.items || (not (is_some (tree.get key_cmp stood_now q)) && (b
        && is_some (tree.get key_cmp z.sets q)))) free
        ∙ ap (λ b. has_key q first.gone.items || b) (and-false (not (is_some (tree.get key_cmp stood_now q))))
        ∙ or-false (has_key q first.gone.items)) i;
  }

  -- what stands now has nothing in the outcome yet
  pub new_now : (q : RrKey) → is_some (tree.get key_cmp stood_now q) ≡ true → HasNothing mid q
  new_now q stands =
      let h = ap (λ (m : BTreeMap RrKey SetValue). is_some (tree.get key_cmp m q)) (sym now_is) ∙ stands in
      let own = owned_now z.origin owner z.class rs z.sets part.sets now.sets names opened after q h in
      mid_at q own ∙ (λ i. record {
        added = None;
        replaced = None;
        is_gone = (ap (λ b. is_some (tree.get key_cmp z.sets q) && not b) h
            ∙ and-false (is_some (tree.get key_cmp z.sets q))) i;
      })

  module _ (last : Outcome) (settled_now : Settles rs z.sets stood_now mid last) where
    settles : Settles rs z.sets now.sets mid last
    settles = subst (λ (m : BTreeMap RrKey SetValue). Settles rs z.sets m mid last) now_is settled_now

    settles_at : (q : RrKey) → is_owned owner q ≡ true
        → SettlesAt (names_set rs q && is_some (tree.get key_cmp now.sets q))
        (tree.get key_cmp z.sets q) (tree.get key_cmp now.sets q)
        (noted (tree.get key_cmp z.sets q) (tree.get key_cmp now.sets q)) (change_at last q)
    settles_at q own = subst (λ (c : Change). SettlesAt (names_set rs q && is_some (tree.get key_cmp now.sets q))
        (tree.get key_cmp z.sets q) (tree.get key_cmp now.sets q) c (change_at last q)) (mid_at q own) (settles q)

    settled : (q : RrKey) → is_owned owner q ≡ true → IsSettled (tree.get key_cmp z.sets q)
        (tree.get key_cmp now.sets q) (changed (change_at last q) (tree.get key_cmp z.sets q))
    settled q own = settled_by (names_set rs q) _ _ _
        (λ free. stood z.origin owner z.class rs z.sets part.sets now.sets names opened after q free own)
        (λ s e. (before q s e).filled) (λ e. some_settled _ _ _ _ _ (settles_at q own) e)
        (λ e. none_settled _ _ _ _ _ (settles_at q own) e)

    pub updates_owner : UpdatesOwner owner rs z first last
    updates_owner = record {
      own = λ q own. record {
        fits = fits_by _ _ _ _ (settles_at q own);
        left = left_by z.origin owner z.class rs z.sets part.sets now.sets names opened after before q _ own
            (settled q own);
        kept = kept_by _ _ _ (settled q own);
      };
      others = λ q free. subst (λ b. SettlesAt (b && is_some (tree.get key_cmp now.sets q)) (tree.get key_cmp z.sets q)
          (tree.get key_cmp now.sets q) (change_at mid q) (change_at last q))
          (false_from_ne_true _ (λ e. true≢false (sym (names q (owns_named rs q e)) ∙ free))) (settles q)
          ∙ mid_beside q free;
    }

-- ---- all owners, one after the other

-- what is left under a key of an owner whose updates are these
leaves_own : (z : HeldZone) (rs us : List (Record RData)) (q : RrKey) (c : Change) → us ≡ own_updates q rs
    → Leaves us z q c → Leaves rs z q c
leaves_own z rs us q c e h = record {
  fits = h.fits;
  left = record {
    fits = h.left.fits;
    exact = h.left.exact ∙ (λ i. records_after (zone_held z) (e i) q (records_at z.sets q))
        ∙ of_owner q rs (zone_held z) (records_at z.sets q);
    source = λ s f. from (h.left.source s f);
  };
  kept = h.kept;
} where
  from : {A B : Type 0} → A ⊎ ((names_set us q ≡ true) × B) → A ⊎ ((names_set rs q ≡ true) × B)
  from (inl a) = inl a
  from (inr h) = inr (own_named q rs (ap (λ vs. names_set vs q) (sym e) ∙ h.0), h.1)

-- where no update names the owner
leaves_none : (z : HeldZone) (q : RrKey) (c : Change) → IsZoneMap z.class z.sets → c ≡ no_change → Leaves [] z q c
leaves_none z q c before e = subst (λ (x : Change). Leaves [] z q x) (sym e) (record {
  fits = record {
    absent = λ e. absurd (true≢false (sym e));
    there = λ e. absurd (true≢false (sym e));
    alters = λ e. refl;
  };
  left = record { fits = before q; exact = refl; source = λ s e. inl e };
  kept = λ e. refl;
})

-- Under a key, by what is left of the updates of its owner: they are still to be carried out, or the outcome has what
-- they leave.
abbrev pub IsGatheredAt : List (Record RData) → HeldZone → RrKey → List (Record RData) → Change → Type 0
IsGatheredAt rs z q left c = ((left ≡ own_updates q rs) × (c ≡ no_change)) ⊎ ((left ≡ []) × Leaves rs z q c)

module _ (rs : List (Record RData)) (z : HeldZone) where
  -- the same under each key
  abbrev pub IsGathered : List (Bor (Record RData)) → Outcome → Type 0
  IsGathered rest o = (q : RrKey) → IsGatheredAt rs z q (own_updates q (each rest)) (change_at o q)

  pub gathered_first : (rest : List (Bor (Record RData))) (o : Outcome)
      → ((q : RrKey) → own_updates q (each rest) ≡ own_updates q rs) → ((q : RrKey) → HasNothing o q)
      → IsGathered rest o
  gathered_first rest o all nothing q = inl (all q, nothing q)

  -- one owner more
  module _ (first : Bor (Record RData)) (more rest : List (Bor (Record RData))) (is : rest ≡ first ∷ more)
      (o : Outcome) (up : Ascends rest) (h : IsGathered rest o) where
    abbrev n : NameValue
    n = first.now.name

    abbrev k : ℕ
    k = prefix_len (of_run n) rest

    abbrev own : List (Record RData)
    own = each (take k rest)

    front : IsRun n rest k
    front = run n rest up (subst (Starts n) (sym is) (irreflexive n))

    here : (q : RrKey) → is_owned n q ≡ true → own_updates q (each rest) ≡ own
    here q e = own_is n q e rest ∙ front.0

    itself : (q : RrKey) → is_owned n q ≡ true → own ≡ [] → ⊥
    itself q e none =
        let some : first.now ∷ own_updates q (each more) ≡ [] =
        sym (ap (λ us. own_updates q (each us)) is ∙ cond-true _ _ _ e) ∙ here q e ∙ none in absurd cc

    gathered_own : (q : RrKey) → is_owned n q ≡ true → (own ≡ own_updates q rs) × HasNothing o q
    gathered_own q e = by (h q) where
      by : IsGatheredAt rs z q (own_updates q (each rest)) (change_at o q) → (own ≡ own_updates q rs) × HasNothing o q
      by (inl h) = (sym (here q e) ∙ h.0, h.1)
      by (inr h) = absurd (itself q e (sym (here q e) ∙ h.0))

    pub gathered_new : (q : RrKey) → is_owned n q ≡ true → HasNothing o q
    gathered_new q e = (gathered_own q e).1

    pub gathered_names : (q : RrKey) → names_owner own q ≡ true → is_owned n q ≡ true
    gathered_names q named =
        let least : RrKey = record { name = lowered n; record_type = types.ZERO } in
        own_beside least (each rest) q (ap (λ us. names_owner us q)
        (here least ((same_by-equiv exact).refl (lowered n)))
        ∙ named)

    pub gathered_next : (next : Outcome) → UpdatesOwner n own z o next → IsGathered (drop k rest) next
    gathered_next next done q = by (is_owned n q) refl where
      by : (b : Bool) → is_owned n q ≡ b
          → IsGatheredAt rs z q (own_updates q (each (drop k rest))) (change_at next q)
      by true e = inr (
        own_is n q e (drop k rest) ∙ front.1,
        leaves_own z rs own q _ (gathered_own q e).0 (done.own q e),
      )
      by false e = subst (λ (p : List (Record RData) × Change). IsGatheredAt rs z q p.0 p.1)
          (λ i. (sym (beside n q e rest) i, sym (done.others q e) i)) (h q)

    pub ascends_next : Ascends (drop k rest)
    ascends_next = front.2

    pub before_next : IsBefore n (drop k rest)
    before_next = front.3

    pub some_here : 0 < k
    some_here = subst (λ us. 0 < prefix_len (of_run n) us) (sym is)
        (subst (λ b. 0 < cond b (1 + prefix_len (of_run n) more) 0) (sym ((same_by-equiv folded).refl n)) (omega arith))

  -- the updates of one owner, from a place on
  module _ (xs all : List (Bor (Record RData))) (done count : ℕ) (d : Bor (Record RData)) (o : Outcome)
      (same : all ≡ xs) (here : done < length xs) (up : Ascends (drop done xs)) (h : IsGathered (drop done xs) o) where
    abbrev part : List (Bor (Record RData))
    part = take (length all - done) (drop done all)

    abbrev at : Bor (Record RData)
    at = get_or part 0 d

    part_is : part ≡ drop done xs
    part_is = take_all (length all - done) (drop done all) (omega (arith, length-drop done all)) ∙ ap (drop done) same

    part_len : length part ≡ length xs - done
    part_len = ap length part_is ∙ length-drop done xs

    head : part ≡ at ∷ drop (0 + 1) part
    head = drop_more part 0 d (omega (arith, part_len, here))

    up_here : Ascends part
    up_here = subst Ascends (sym part_is) up

    h_here : IsGathered part o
    h_here = subst (λ us. IsGathered us o) (sym part_is) h

    pub step_ahead : (left : List (RrKey × SetValue)) → IsAhead z.sets (drop done xs) left
        → HasFrom (least at.now.name) z.sets left
    step_ahead left ahead = subst (λ us. IsAhead z.sets us left) (sym part_is ∙ head) ahead

    module _ (counted : count ≡ prefix_len (of_run at.now.name) part) where
      pub step_names : (q : RrKey) → names_owner (each (take count part)) q ≡ true → is_owned at.now.name q ≡ true
      step_names q e = gathered_names at (drop (0 + 1) part) part head o up_here h_here q
          (ap (λ k. names_owner (each (take k part)) q) (sym counted) ∙ e)

      pub step_new : (q : RrKey) → is_owned at.now.name q ≡ true → HasNothing o q
      step_new q e = gathered_new at (drop (0 + 1) part) part head o up_here h_here q e

      pub step_next : (next : Outcome) (left : List (RrKey × SetValue))
          → UpdatesOwner at.now.name (each (take count part)) z o next
          → ((later : NameValue) → name_cmp at.now.name later ≡ Less → HasFrom (least later) z.sets left)
          → (done + count ≤ length xs) × Ascends (drop (done + count) xs) × IsGathered (drop (done + count) xs) next
          × IsAhead z.sets (drop (done + count) xs) left
      step_next next left did walked =
          let drops : drop (prefix_len (of_run at.now.name) part) part ≡ drop (done + count) xs =
          ap (drop (prefix_len (of_run at.now.name) part)) part_is
          ∙ drop-drop (prefix_len (of_run at.now.name) part) done xs ∙ ap (λ k. drop (done + k) xs) (sym counted) in (
            omega (arith, counted, prefix_len-le-length (of_run at.now.name) part, part_len, here),
            subst Ascends drops (ascends_next at (drop (0 + 1) part) part head o up_here h_here),
            subst (λ us. IsGathered us next) drops
                (gathered_next at (drop (0 + 1) part) part head o up_here h_here next
                (subst (λ k. UpdatesOwner at.now.name (each (take k part)) z o next) counted did)),
            ahead_of z.sets at.now.name (drop (done + count) xs) left
                (subst (IsBefore at.now.name) drops (before_next at (drop (0 + 1) part) part head o up_here h_here))
                walked,
          )

      pub step_smaller : length xs - (done + count) < length xs - done
      step_smaller = omega (arith, counted, some_here at (drop (0 + 1) part) part head o up_here h_here, here)

  pub gathered_last : (rest : List (Bor (Record RData))) (o : Outcome) → IsZoneMap z.class z.sets → rest ≡ []
      → IsGathered rest o → UpdatesTo rs z o
  gathered_last rest o before none h q = by (h q) where
    by : IsGatheredAt rs z q (own_updates q (each rest)) (change_at o q) → Leaves rs z q (change_at o q)
    by (inl h) = leaves_own z rs [] q _ (sym (ap (λ us. own_updates q (each us)) none) ∙ h.0)
        (leaves_none z q _ before h.1)
    by (inr h) = h.1

-- ---- an outcome that is put into the map

module _ (rs : List (Record RData)) (z : HeldZone) (o : Outcome) (h : UpdatesTo rs z o) where
  pub outcome_fits : IsOutcome o z.sets
  outcome_fits q = (h q).fits

  pub outcome_is : (n : BTreeMap RrKey SetValue) → Installs o z.sets n
      → IsAfter z.origin z.class rs z.sets n × KeepsSame z.sets n
  outcome_is n installs = (
    λ q. subst (λ x. IsLeft (zone_held z) rs q (tree.get key_cmp z.sets q) x) (sym (installs q)) (h q).left,
    λ q same. installs q ∙ (h q).kept (ap records_in (sym (installs q)) ∙ same),
  )
