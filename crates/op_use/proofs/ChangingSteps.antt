-- Steps of changing the sets of a zone.
use Rattle.base.specs.RrKey.{key_cmp}
use Rattle.base.specs.declared.dns_class.DNSClass.{DNSClass}
use Rattle.base.specs.declared.rr_key.RrKey.{RrKey}
use Rattle.base_data.specs.SameData.{same_data}
use Rattle.base_data.specs.declared.rdata.RData.{RData}
use Rattle.op_use.proofs.AfterSteps.{map_after, more_after}
use Rattle.op_use.proofs.KeySets.{Sets, each_key, put_beside, put_here}
use Rattle.op_use.proofs.UpdateSteps.{Changes, moves, stays}
use Rattle.op_use.proofs.ZoneSteps.{same_key}
use Rattle.op_use.specs.Applying.{IsZoneMap, IsZoneSet, records_at, records_in}
use Rattle.op_use.specs.CurrentSets.{renewed_set}
use Rattle.op_use.specs.HeldZone.{HeldZone}
use Rattle.op_use.specs.NamedChanges.{set_key}
use Rattle.op_use.specs.MapUpdates.{HasSets, HoldsAt, IsSetTo, IsUpdated}
use Rattle.rr.proofs.SetSteps.{without_none}
use Rattle.rr.proofs.SetTidy.{distinct_joined, distinct_left, distinct_none}
use Rattle.rr.specs.Record.{record_key}
use Rattle.rr.specs.RecordSet.{SetValue}
use Rattle.rr.specs.SetChanges.{has_data_of, joined, last_ttl, with_records, without, without_data}
use Rattle.rr.specs.declared.record.Record.{Record}
use Rattle.std.proofs.Common.{ap, inl, inr, refl, subst, sym, ◌∙◌, ◌⊎◌}
use Rattle.std.proofs.lemmas.Map.Entries.{lookup-filter-keys}
use Rattle.std.proofs.lemmas.Map.Made.{filter_same_pairs}
use Rattle.std.proofs.lemmas.Option.{none-some, same_Some}
use Rattle.std.specs.BTreeMap as tree
use Rattle.std.specs.BTreeMap.{BTreeMap, is_at}
use Rattle.std.specs.List.{IsDistinct, list_any}
use Rattle.std.specs.Map.Calls.{RetainsPairs}
use Rattle.std.specs.Map.{lookup}
use Rattle.std.specs.Ordering.{on}
use Rattle.std.specs.Prelude.{Bool, IfSome, List, None, Option, Some, [], cond, false, not, true, ◌++◌}
use Rattle.std.specs.Prelude.{◌∷◌, ◌≡◌, ◌≢◌}

abbrev Map : Type 0
Map = BTreeMap RrKey SetValue

-- no two records of a set that may be there have equal data
pub distinct_there : (class : DNSClass) (k : RrKey) (m : Map) (o : Option SetValue) → IsZoneMap class m
    → o ≡ tree.get key_cmp m k
    → IfSome o (λ (s : SetValue). IsDistinct (on (λ (r : Record RData). r.rdata) same_data) s.records)
distinct_there class k m (Some s) h e = (h k s (sym e)).distinct
distinct_there class k m None h e = tt

-- the sets whose keys pass a test
pub map_part : (class : DNSClass) (p : RrKey → Bool) (m n : Map)
    → ((q : RrKey) → tree.get key_cmp n q ≡ cond (p q) (tree.get key_cmp m q) None)
    → IsZoneMap class m → IsZoneMap class n
map_part class p m n part old q s e = by (p q) (sym (part q) ∙ e) where
  by : (b : Bool) → cond b (tree.get key_cmp m q) None ≡ Some s → IsZoneSet class q s
  by true f = old q s f
  by false f = absurd cc

pub sets_retained : {F : Type 0} (T : F → RrKey → SetValue → Bool → SetValue → F → Type 0) (p : RrKey → Bool) (f : F)
    (m n : Map) → ((k : RrKey) (v : SetValue) (b : Bool) (w : SetValue) (f' : F) → T f k v b w f'
    → (b ≡ p k) × (w ≡ v) × (f' ≡ f)) → RetainsPairs T f m.entries n.entries
    → (q : RrKey) → tree.get key_cmp n q ≡ cond (p q) (tree.get key_cmp m q) None
sets_retained T p f m n calls h q =
    ap (lookup (is_at (key_cmp q))) (filter_same_pairs T (λ e. p e.0) f calls m.entries n.entries h)
    ∙ lookup-filter-keys (is_at (key_cmp q)) p (p q) (λ k e. ap p (sym (same_key q k e))) m.entries

-- ---- one set of a map is another then

pub kept_map : (class : DNSClass) (k : RrKey) (xs : List (Record RData)) (m n : Map) → IsSetTo class k xs m n
    → IsZoneMap class m → IsZoneMap class n
kept_map class k xs m n h old = each_key (λ q. (s : SetValue) → tree.get key_cmp n q ≡ Some s → IsZoneSet class q s) k
    h.fits (λ q e s f. old q s (sym (h.others q e) ∙ f))

module _ (class : DNSClass) (k : RrKey) (m n : Map) where
  -- none
  pub set_out : Sets k None m n → IsSetTo class k [] m n
  set_out puts = record {
    records = ap records_in (put_here k None m n puts);
    fits = λ s e. absurd (none-some s (sym (put_here k None m n puts) ∙ e));
    ttl = λ s e. absurd (none-some s (sym (put_here k None m n puts) ∙ e));
    others = put_beside k None m n puts;
  }

  pub map_out : Sets k None m n → IsZoneMap class m → IsZoneMap class n
  map_out puts = kept_map class k [] m n (set_out puts)

  -- none, where no records are left
  pub none_left : (r : Record RData) (s t : SetValue) → tree.get key_cmp m k ≡ Some s → t ≡ without_data r s
      → t.records ≡ [] → Sets k None m n → IsSetTo class k (without r (records_at m k)) m n
  none_left r s t e is none puts = subst (λ xs. IsSetTo class k xs m n) (sym none
      ∙ ap (λ (x : SetValue). x.records) is ∙ left (list_any (has_data_of r) s.records) refl
      ∙ ap (λ o. without r (records_in o)) (sym e)) (set_out puts) where
        left : (b : Bool) → list_any (has_data_of r) s.records ≡ b
            → (cond b (with_records s (without r s.records)) s).records ≡ without r s.records
        left true some = refl
        left false none = sym (without_none r s.records none)

  -- t, which is put where a set was taken out
  module _ (mid : Map) (t : SetValue) (out : Sets k None m mid) (puts : Sets k (Some t) mid n) where
    pub set_put : (xs : List (Record RData)) → t.records ≡ xs → IsZoneSet class k t
        → (tree.get key_cmp m k ≡ Some t) ⊎ (t.ttl ≡ last_ttl t.records) → IsSetTo class k xs m n
    set_put xs is fits ttl = record {
      records = ap records_in (put_here k (Some t) mid n puts) ∙ is;
      fits = λ s e. subst (λ x. IsZoneSet class k x) (same s e) fits;
      ttl = λ s e. subst (λ (x : SetValue). (tree.get key_cmp m k ≡ Some x) ⊎ (x.ttl ≡ last_ttl x.records))
          (same s e) ttl;
      others = λ q e. put_beside k (Some t) mid n puts q e ∙ put_beside k None m mid out q e;
    } where
      same : (s : SetValue) → tree.get key_cmp n k ≡ Some s → t ≡ s
      same s e = same_Some t s (sym (put_here k (Some t) mid n puts) ∙ e)

    -- the set with a record
    pub set_renewed : (r : Record RData) → k ≡ record_key r → IsZoneMap class m
        → t ≡ renewed_set class r (tree.get key_cmp m k) → IsSetTo class k (joined r (records_at m k)) m n
    set_renewed r own old is = set_put _ (ap (λ (x : SetValue). x.records) is ∙ records (tree.get key_cmp m k))
        (subst (λ x. IsZoneSet class k x) (sym is) (fits (tree.get key_cmp m k) (old k)))
        (inr (subst (λ (x : SetValue). x.ttl ≡ last_ttl x.records) (sym is) (ttl (tree.get key_cmp m k)))) where
          records : (o : Option SetValue) → (renewed_set class r o).records ≡ joined r (records_in o)
          records (Some s) = refl
          records None = refl

          ttl : (o : Option SetValue) → (renewed_set class r o).ttl ≡ last_ttl (renewed_set class r o).records
          ttl (Some s) = refl
          ttl None = refl

          some : (xs : List (Record RData)) → joined r xs ≢ []
          some [] e = absurd cc
          some (x ∷ xs) e = absurd cc

          fits : (o : Option SetValue) → ((s : SetValue) → o ≡ Some s → IsZoneSet class k s)
              → IsZoneSet class k (renewed_set class r o)
          fits (Some s) h = record {
            own_key = (h s refl).own_key;
            own_class = (h s refl).own_class;
            filled = some s.records;
            distinct = distinct_joined r s.records (h s refl).distinct;
          }
          fits None h = record {
            own_key = sym own;
            own_class = refl;
            filled = some [];
            distinct = distinct_joined r [] distinct_none;
          }

    -- the set without the data of a record, where some are left
    pub set_left : (r : Record RData) (s : SetValue) → IsZoneSet class k s → tree.get key_cmp m k ≡ Some s
        → t ≡ without_data r s → t.records ≢ [] → IsSetTo class k (without r (records_at m k)) m n
    set_left r s old e is full = subst (λ xs. IsSetTo class k (without r xs) m n) (sym (ap records_in e))
        (by (list_any (has_data_of r) s.records) refl is) where
          by : (b : Bool) → list_any (has_data_of r) s.records ≡ b
              → t ≡ cond b (with_records s (without r s.records)) s
              → IsSetTo class k (without r s.records) m n
          by true some f = set_put _ (ap (λ (x : SetValue). x.records) f) (record {
            own_key = ap set_key f ∙ old.own_key;
            own_class = ap (λ (x : SetValue). x.dns_class) f ∙ old.own_class;
            filled = full;
            distinct = subst (λ (x : SetValue). IsDistinct (on (λ (q : Record RData). q.rdata) same_data) x.records)
                (sym f)
                (distinct_left (λ x. not (has_data_of r x)) s.records old.distinct);
          }) (inr (subst (λ (x : SetValue). x.ttl ≡ last_ttl x.records) (sym f) refl))
          by false none f = set_put _ (ap (λ (x : SetValue). x.records) f ∙ sym (without_none r s.records none))
              (subst (λ x. IsZoneSet class k x) (sym f) old) (inl (e ∙ ap Some (sym f)))

-- one after the other
pub set_again : (class : DNSClass) (k : RrKey) (xs : List (Record RData)) (m n p : Map) → IsSetTo class k [] m n
    → IsSetTo class k xs n p → IsSetTo class k xs m p
set_again class k xs m n p first next = record {
  records = next.records;
  fits = next.fits;
  ttl = λ s e. from s (next.ttl s e);
  others = λ q e. next.others q e ∙ first.others q e;
} where
  from : (s : SetValue) → (tree.get key_cmp n k ≡ Some s) ⊎ (s.ttl ≡ last_ttl s.records)
      → (tree.get key_cmp m k ≡ Some s) ⊎ (s.ttl ≡ last_ttl s.records)
  from s (inl e) = absurd ((first.fits s e).filled (sym (ap records_in e) ∙ first.records))
  from s (inr t) = inr t

-- ---- so of a zone

-- one change after the other
pub sets_then : (R S T : HeldZone → Map → Type 0) (old mid new : HeldZone) → HasSets R old mid → HasSets S mid new
    → (R old mid.sets → S (record old { sets = mid.sets }) new.sets → T old new.sets) → HasSets T old new
sets_then R S T old mid new first next both = record {
  rest = next.rest ∙ ap (λ (z : HeldZone). record z { sets = new.sets }) first.rest;
  holds = both first.holds (subst (λ (z : HeldZone). S z new.sets) first.rest next.holds);
}

-- more updates
pub updated_more : (rs ss : List (Record RData)) (old mid new : HeldZone) → IsUpdated rs old mid → IsUpdated ss mid new
    → IsUpdated (rs ++ ss) old new
updated_more rs ss old mid new first next = sets_then _ _ _ old mid new first next (λ f g is_map.
    more_after old.origin old.class rs ss old.sets mid.sets new.sets is_map (f is_map)
    (g (map_after old.origin old.class rs old.sets mid.sets is_map (f is_map))))

pub none_updated : (z : HeldZone) → IsUpdated [] z z
none_updated z = record {
  rest = refl;
  holds = λ h q. record { fits = h q; exact = refl; source = λ s e. inl e };
}

-- one that changes nothing, or a set
pub stays_so : (z : HeldZone) (r : Record RData) (F : List (Record RData) → List (Record RData)) (may : Bool)
    → Changes z.origin z.class z.sets r F may → may ≡ false → IsUpdated (r ∷ []) z z
stays_so z r F may change kept = record {
  rest = refl;
  holds = λ h. stays z.origin z.class z.sets r h F may change kept;
}

pub moves_so : (old new : HeldZone) (r : Record RData) (F : List (Record RData) → List (Record RData)) (may : Bool)
    → Changes old.origin old.class old.sets r F may → may ≡ true
    → HoldsAt (record_key r) (F (records_at old.sets (record_key r))) old new → IsUpdated (r ∷ []) old new
moves_so old new r F may change free held = record {
  rest = held.rest;
  holds = λ h. moves old.origin old.class old.sets r h F may new.sets change free held.holds;
}

-- a record stands alone where a set was taken out
pub alone : (k : RrKey) (r : Record RData) (old mid new : HeldZone) → HoldsAt k [] old mid
    → HoldsAt k (joined r (records_at mid.sets k)) mid new → HoldsAt k (r ∷ []) old new
alone k r old mid new first next = sets_then _ _ _ old mid new first next (λ f g.
    set_again old.class k (r ∷ []) old.sets mid.sets new.sets f
    (subst (λ xs. IsSetTo old.class k (joined r xs) mid.sets new.sets) f.records g))

-- the zone has the records of a set
pub held_as : (k q : RrKey) (f : List (Record RData) → List (Record RData)) (z old : HeldZone) (n : Map) → k ≡ q
    → z ≡ old → IsSetTo z.class k (f (records_at z.sets k)) z.sets n
    → HoldsAt q (f (records_at old.sets q)) old (record z { sets = n })
held_as k q f z old n own is h = subst (λ (j : RrKey). HoldsAt j (f (records_at old.sets j)) old
    (record z { sets = n })) own
    (subst (λ (y : HeldZone). HoldsAt k (f (records_at y.sets k)) y (record z { sets = n })) is
    (record { rest = refl; holds = h }))
