-- Steps of finding what updates make of a zone, and of putting it into the zone.
use Rattle.base.proofs.names.KeyLemmas.{key_cmp-total}
use Rattle.base.specs.RrKey.{key_cmp}
use Rattle.base.specs.declared.dns_class.DNSClass.{DNSClass}
use Rattle.base.specs.declared.rr_key.RrKey.{RrKey}
use Rattle.base_data.specs.declared.rdata.RData.{RData}
use Rattle.op_use.proofs.KeySets.{Sets, each_key, key_in, put_beside, put_here}
use Rattle.op_use.proofs.ZoneSteps.{tied}
use Rattle.op_use.specs.Applying.{HasSameSets, IsZoneMap, records_in}
use Rattle.op_use.specs.MapUpdates.{LacksKeys, has_key, names_set}
use Rattle.op_use.specs.Outcome.{Change, FitsThere, HasNothing, IsSettled, Settles, SettlesAt, added_at, change_at}
use Rattle.op_use.specs.Outcome.{changed}
use Rattle.op_use.specs.Outcome.{found}
use Rattle.op_use.specs.Outcome.{no_change}
use Rattle.op_use.specs.Server.{is_under}
use Rattle.op_use.specs.declared.apply.outcome.Outcome.{Outcome}
use Rattle.rr.specs.Record.{record_key}
use Rattle.rr.specs.RecordSet.{SetValue}
use Rattle.rr.specs.declared.record.Record.{Record}
use Rattle.std.proofs.Common.{ap, inl, inr, refl, subst, sym, ◌∙◌}
use Rattle.std.proofs.Math.Bool.{or-false, or-true}
use Rattle.std.proofs.lemmas.Bool.{true≢false}
use Rattle.std.proofs.lemmas.List.Folds.{list_any-append}
use Rattle.std.specs.BTreeMap as tree
use Rattle.std.specs.BTreeMap.{BTreeMap, is_at}
use Rattle.std.specs.Cmp.{eq_by_cmp_equiv}
use Rattle.std.specs.Map.{keys_of, lookup}
use Rattle.std.specs.Ordering.{eq_by_cmp}
use Rattle.std.specs.Prelude.{Bool, List, None, Option, Some, [], cond, false, is_some, true, ◌&&◌, ◌++◌}
use Rattle.std.specs.Prelude.{◌||◌, ◌∷◌, ◌≡◌, ◌≢◌}

abbrev Map : Type 0
Map = BTreeMap RrKey SetValue

abbrev Entries : Type 0
Entries = List (RrKey × SetValue)

-- whether updates name a set, with one update more
set_last : (rs : List (Record RData)) (r : Record RData) (all : List (Record RData)) → rs ++ r ∷ [] ≡ all → (q : RrKey)
    → names_set all q ≡ (names_set rs q || is_under r q)
set_last rs r all grown q = ap (λ us. names_set us q) (sym grown)
    ∙ list_any-append (λ (x : Record RData). is_under x q) rs (r ∷ [])
    ∙ ap (λ b. names_set rs q || b) (or-false (is_under r q))

-- ---- one set more in a list

found-append : (es fs : Entries) (q : RrKey) → found (es ++ fs) q ≡ added_at (found es q) (found fs q)
found-append [] fs q = refl
found-append (e ∷ es) fs q = by (is_at (key_cmp q) e.0) (found-append es fs q) where
  by : (b : Bool) → found (es ++ fs) q ≡ added_at (found es q) (found fs q)
      → cond b (Some e.1) (found (es ++ fs) q) ≡ added_at (cond b (Some e.1) (found es q)) (found fs q)
  by true more = refl
  by false more = more

-- the set is found under its key, if no other is, and others as before
found_last : (es : Entries) (k q : RrKey) (s : SetValue)
    → found (es ++ (k, s) ∷ []) q ≡ added_at (found es q) (cond (eq_by_cmp key_cmp k q) (Some s) None)
found_last es k q s = found-append es ((k, s) ∷ []) q ∙ ap (λ b. added_at (found es q) (cond b (Some s) None))
    ((eq_by_cmp_equiv key_cmp-total).symm q k)

found_here : (es : Entries) (k : RrKey) (s : SetValue) → found es k ≡ None → found (es ++ (k, s) ∷ []) k ≡ Some s
found_here es k s none = found_last es k k s ∙ (λ i. added_at (none i) (cond (tied k i) (Some s) None))

found_beside : (es : Entries) (k q : RrKey) (s : SetValue) → eq_by_cmp key_cmp k q ≡ false
    → found (es ++ (k, s) ∷ []) q ≡ found es q
found_beside es k q s e = found_last es k q s ∙ ap (λ b. added_at (found es q) (cond b (Some s) None)) e
    ∙ none (found es q) where
      none : (o : Option SetValue) → added_at o None ≡ o
      none (Some t) = refl
      none None = refl

-- ---- the sets that updates name, one after the other

-- under a key: whether updates name a set there, what was there, stands now and is left; what an outcome has there,
-- before and then
abbrev pub SettlingAt : Bool → Option SetValue → Option SetValue → Option SetValue → Change → Change → Type 0
SettlingAt named was now left old new = (left ≡ cond named None now) × SettlesAt (named && is_some now) was now old new

-- the sets that the updates rs name are settled, and no others are touched
abbrev pub IsSettling : List (Record RData) → Map → Map → Map → Outcome → Outcome → Type 0
IsSettling rs was now left old mid = (q : RrKey) → SettlingAt (names_set rs q)
    (tree.get key_cmp was q) (tree.get key_cmp now q) (tree.get key_cmp left q) (change_at old q) (change_at mid q)

module _ (was left after : Option SetValue) (old new : Change) where
  -- no set is left
  none_at : (named : Bool) (now : Option SetValue) → left ≡ None → after ≡ None
      → SettlingAt named was now left old new → SettlingAt true was now after old new
  none_at true now none out h = (out, h.1)
  none_at false None none out h = (out, h.1)
  none_at false (Some s) none out h = absurd (some (sym none ∙ h.0)) where
    some : None ≡ Some s → ⊥
    some e = absurd cc

  -- one is
  some_at : (named : Bool) (now : Option SetValue) (s : SetValue) → left ≡ Some s
      → SettlingAt named was now left old new → (now ≡ Some s) × (new ≡ old)
  some_at true now s is h = absurd (some (sym h.0 ∙ is)) where
    some : None ≡ Some s → ⊥
    some e = absurd cc
  some_at false now s is h = (sym h.0 ∙ is, h.1)

  settled_at : (now : Option SetValue) (s : SetValue) (c : Change) → now ≡ Some s → after ≡ None → new ≡ c
      → IsSettled was (Some s) (changed c was) → FitsThere c was → SettlingAt true was now after old new
  settled_at now s c is out e settled fits = (
    out,
    subst (λ (p : Option SetValue × Change). SettlesAt (is_some p.0) was p.0 old p.1) (λ i. (sym is i, sym e i))
        (settled, fits),
  )

module _ (rs : List (Record RData)) (r : Record RData) (all : List (Record RData)) (grown : rs ++ r ∷ [] ≡ all)
    (was now left after : Map) (old mid : Outcome) (k : RrKey)
    (own : k ≡ record_key r) (h : IsSettling rs was now left old mid) (out : Sets k None left after)
    (new : (q : RrKey) → is_some (tree.get key_cmp now q) ≡ true → HasNothing old q) where
  last_is : (q : RrKey) (b : Bool) → eq_by_cmp key_cmp k q ≡ b → names_set all q ≡ (names_set rs q || b)
  last_is q b e = set_last rs r all grown q
      ∙ ap (λ c. names_set rs q || c) (ap (λ x. eq_by_cmp key_cmp x q) (sym own) ∙ e)

  next_is : (next : Outcome) → SettlingAt true (tree.get key_cmp was k) (tree.get key_cmp now k)
      (tree.get key_cmp after k) (change_at old k) (change_at next k)
      → ((q : RrKey) → eq_by_cmp key_cmp k q ≡ false → change_at next q ≡ change_at mid q)
      → IsSettling all was now after old next
  next_is next here others = each_key (λ q. SettlingAt (names_set all q) (tree.get key_cmp was q)
      (tree.get key_cmp now q) (tree.get key_cmp after q) (change_at old q) (change_at next q)) k
      (subst (λ b. SettlingAt b (tree.get key_cmp was k) (tree.get key_cmp now k)
      (tree.get key_cmp after k) (change_at old k) (change_at next k))
      (sym (last_is k true (tied k) ∙ or-true (names_set rs k))) here)
      (λ q e. subst (λ (p : Bool × Option SetValue × Change). SettlingAt p.0 (tree.get key_cmp was q)
      (tree.get key_cmp now q) p.1 (change_at old q) p.2) (λ i. (
        sym (last_is q false e ∙ or-false (names_set rs q)) i,
        sym (put_beside k None left after out q e) i,
        sym (others q e) i,
      )) (h q))

  pub settling_none : tree.get key_cmp left k ≡ None → IsSettling all was now after old mid
  settling_none none = next_is mid (none_at _ _ _ _ _ (names_set rs k) (tree.get key_cmp now k) none
      (put_here k None left after out) (h k)) (λ q e. refl)

  module _ (s : SetValue) (here : tree.get key_cmp left k ≡ Some s) where
    stands : (tree.get key_cmp now k ≡ Some s) × (change_at mid k ≡ change_at old k)
    stands = some_at (tree.get key_cmp was k) _ (tree.get key_cmp after k) _ _ (names_set rs k) _ s here (h k)

    nothing : HasNothing mid k
    nothing = stands.1 ∙ new k (ap is_some stands.0)

    settled : (c next : Change) → next ≡ c → IsSettled (tree.get key_cmp was k) (Some s)
        (changed c (tree.get key_cmp was k)) → FitsThere c (tree.get key_cmp was k)
        → SettlingAt true (tree.get key_cmp was k) (tree.get key_cmp now k) (tree.get key_cmp after k)
        (change_at old k) next
    settled c next e = settled_at _ (tree.get key_cmp left k) _ _ _ _ s c stands.0 (put_here k None left after out) e

    -- its records are the same
    pub settling_same : (w : SetValue) → tree.get key_cmp was k ≡ Some w → w.records ≡ s.records
        → IsSettling all was now after old mid
    settling_same w there same = next_is mid (settled no_change _ nothing
        (inl (refl, sym same ∙ sym (ap records_in there)))
        (record { absent = λ e. absurd cc; there = λ e. absurd cc; alters = λ e. refl })) (λ q e. refl)

    -- it is another than was there
    pub settling_replaced : (w : SetValue) (next : Outcome) → tree.get key_cmp was k ≡ Some w → w.records ≢ s.records
        → next.added ≡ mid.added → next.replaced.items ≡ mid.replaced.items ++ (k, s) ∷ [] → next.gone ≡ mid.gone
        → IsSettling all was now after old next
    settling_replaced w next there other a r g = next_is next
        (settled (record { added = None; replaced = Some s; is_gone = false }) _ (λ i. record {
          added = (ap (λ (v : _). found v.items k) a ∙ ap (λ (c : Change). c.added) nothing) i;
          replaced = (ap (λ es. found es k) r
              ∙ found_here mid.replaced.items k s (ap (λ (c : Change). c.replaced) nothing)) i;
          is_gone = (ap (λ (v : _). has_key k v.items) g ∙ ap (λ (c : Change). c.is_gone) nothing) i;
        })
        (inr (refl, λ same. other (sym (same ∙ ap records_in there))))
        (record {
          absent = λ e. absurd cc;
          there = λ e. ap is_some there;
          alters = λ e. absurd (other (sym (ap records_in (e ∙ there))));
        }))
        (λ q e i. record {
          added = found (a i).items q;
          replaced = (ap (λ es. found es q) r ∙ found_beside mid.replaced.items k q s e) i;
          is_gone = has_key q (g i).items;
        })

    -- none was there
    pub settling_added : (class : DNSClass) (next : Outcome) → IsZoneMap class now → tree.get key_cmp was k ≡ None
        → next.added.items ≡ mid.added.items ++ (k, s) ∷ [] → next.replaced ≡ mid.replaced → next.gone ≡ mid.gone
        → IsSettling all was now after old next
    settling_added class next fits none a r g = next_is next
        (settled (record { added = Some s; replaced = None; is_gone = false }) _ (λ i. record {
          added = (ap (λ es. found es k) a
              ∙ found_here mid.added.items k s (ap (λ (c : Change). c.added) nothing)) i;
          replaced = (ap (λ (v : _). found v.items k) r ∙ ap (λ (c : Change). c.replaced) nothing) i;
          is_gone = (ap (λ (v : _). has_key k v.items) g ∙ ap (λ (c : Change). c.is_gone) nothing) i;
        })
        (inr (refl, λ same. (fits k s stands.0).filled (same ∙ ap records_in none)))
        (record {
          absent = λ e. none;
          there = λ e. absurd cc;
          alters = λ e. absurd ((fits k s stands.0).filled (ap records_in (e ∙ none)));
        }))
        (λ q e i. record {
          added = (ap (λ es. found es q) a ∙ found_beside mid.added.items k q s e) i;
          replaced = found (r i).items q;
          is_gone = has_key q (g i).items;
        })

-- where none is left, a set that no update has named isn't there
all_at : (was left : Option SetValue) (old new : Change) (a b : Bool) (now : Option SetValue) → left ≡ None
    → SettlingAt a was now left old new → SettlesAt ((a || b) && is_some now) was now old new
all_at was left old new true b now none at = at.1
all_at was left old new false true None none at = at.1
all_at was left old new false false None none at = at.1
all_at was left old new false b (Some s) none at = absurd (some (sym none ∙ at.0)) where
  some : None ≡ Some s → ⊥
  some e = absurd cc

-- and so all are settled
pub settled_all : (rs us : List (Record RData)) (was now left : Map) (old mid : Outcome) → left.entries ≡ []
    → IsSettling rs was now left old mid → Settles (rs ++ us) was now old mid
settled_all rs us was now left old mid none h q =
    subst (λ b. SettlesAt (b && is_some (tree.get key_cmp now q)) (tree.get key_cmp was q) (tree.get key_cmp now q)
    (change_at old q) (change_at mid q))
    (sym (list_any-append (λ (x : Record RData). is_under x q) rs us))
    (all_at (tree.get key_cmp was q) (tree.get key_cmp left q) (change_at old q) (change_at mid q)
    (names_set rs q) (names_set us q) (tree.get key_cmp now q) (ap (lookup (is_at (key_cmp q))) none) (h q))

-- ---- sets put into the map

-- the sets that are left make of the map what all of them do; under other keys than theirs it is as it was, and no set
-- went
pub record IsPutting (all left : Entries) (old new : Map) : Type 0 where
  pub same : (q : RrKey) → added_at (found left q) (tree.get key_cmp new q)
      ≡ added_at (found all q) (tree.get key_cmp old q)
  pub some : (q : RrKey) → is_some (found left q) ≡ true → is_some (found all q) ≡ true
  pub others : (q : RrKey) → is_some (found all q) ≡ false
      → tree.get key_cmp new q ≡ tree.get key_cmp old q
  pub stay : (q : RrKey) → is_some (tree.get key_cmp old q) ≡ true → is_some (tree.get key_cmp new q) ≡ true

module _ (k : RrKey) (s : SetValue) (all left less : Entries) (old mid : Map) (h : IsPutting all left old mid)
    (last : left ≡ less ++ (k, s) ∷ []) where
  last_at : (q : RrKey) → found left q ≡ added_at (found less q) (cond (eq_by_cmp key_cmp k q) (Some s) None)
  last_at q = ap (λ es. found es q) last ∙ found_last less k q s

  -- the last is one of all
  pub last_some : is_some (found all k) ≡ true
  last_some = h.some k (ap is_some (last_at k) ∙ by (found less k)
      ∙ ap (λ b. is_some (cond b (Some s) None)) (tied k)) where
        by : (o : Option SetValue) → is_some (added_at o (cond (eq_by_cmp key_cmp k k) (Some s) None))
            ≡ is_some (cond (eq_by_cmp key_cmp k k) (Some s) None)
        by (Some t) = sym (ap (λ b. is_some (cond b (Some s) None)) (tied k))
        by None = refl

  pub putting_next : (new : Map) → Sets k (Some s) mid new → IsPutting all less old new
  putting_next new puts = record {
    same = λ q. ap (added_at (found less q)) (puts q)
        ∙ both (found less q) (eq_by_cmp key_cmp k q) (tree.get key_cmp mid q)
        ∙ ap (λ o. added_at o (tree.get key_cmp mid q)) (sym (last_at q)) ∙ h.same q;
    some = λ q e. h.some q (ap is_some (last_at q) ∙ more (found less q) _ e);
    others = each_key (λ q. is_some (found all q) ≡ false → tree.get key_cmp new q ≡ tree.get key_cmp old q) k
        (λ none. absurd (true≢false (sym last_some ∙ none)))
        (λ q other none. put_beside k (Some s) mid new puts q other ∙ h.others q none);
    stay = λ q e. ap is_some (puts q) ∙ stays (eq_by_cmp key_cmp k q) (tree.get key_cmp mid q) (h.stay q e);
  } where
    both : (a : Option SetValue) (b : Bool) (o : Option SetValue)
        → added_at a (cond b (Some s) o) ≡ added_at (added_at a (cond b (Some s) None)) o
    both (Some t) b o = refl
    both None true o = refl
    both None false o = refl

    more : (a o : Option SetValue) → is_some a ≡ true → is_some (added_at a o) ≡ true
    more (Some t) o e = refl
    more None o e = absurd cc

    stays : (b : Bool) (o : Option SetValue) → is_some o ≡ true → is_some (cond b (Some s) o) ≡ true
    stays true o e = refl
    stays false o e = e

-- the sets that were added are taken out again
pub all_out : (added : Entries) (ks : List RrKey) (m mid n : Map) → ks ≡ keys_of added
    → ((q : RrKey) → is_some (found added q) ≡ true → tree.get key_cmp m q ≡ None)
    → ((q : RrKey) → is_some (found added q) ≡ false → tree.get key_cmp mid q ≡ tree.get key_cmp m q)
    → LacksKeys ks mid n → HasSameSets m n
all_out added ks m mid n keys absent others out q = out q
    ∙ ap (λ b. cond b None (tree.get key_cmp mid q)) (ap (has_key q) keys ∙ key_in q added)
    ∙ by (is_some (found added q)) refl where
      by : (b : Bool) → is_some (found added q) ≡ b → cond b None (tree.get key_cmp mid q) ≡ tree.get key_cmp m q
      by true e = sym (absent q e)
      by false e = others q e
