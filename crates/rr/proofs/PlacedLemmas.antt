-- What changes of records at places do to the records, and to the index of their places.
use Rattle.base.proofs.writing.LawLemmas.{none_is_not}
use Rattle.base_data.specs.Kinds.{canonical_data}
use Rattle.base_data.specs.SameData.{same_data}
use Rattle.base_data.specs.declared.rdata.RData.{RData}
use Rattle.rr.proofs.Around.{alone, any_around, cut, joined_after, joined_around, without_around}
use Rattle.rr.proofs.IndexLemmas.{Stands, equal_at, index_here, index_last, not_found, not_there, push_at, set_at}
use Rattle.rr.proofs.SetLaws.{Distinct, laws}
use Rattle.rr.proofs.SetTidy.{distinct_joined, distinct_left}
use Rattle.base.specs.Keys.{indexed_at}
use Rattle.rr.specs.DataIndex.{IsPlaceIndex}
use Rattle.rr.specs.PlacedRecords.{IsIn, IsIndexed, IsPlaced, present}
use Rattle.rr.specs.SetChanges.{has_data_of, joined, without}
use Rattle.rr.specs.declared.record.Record.{Record}
use Rattle.std.proofs.Common.{ap, append_assoc, arith, drop, get_or, inl, inr, length-append, refl, subst, sym, take}
use Rattle.std.proofs.Common.{◌∙◌}
use Rattle.std.proofs.lemmas.List.{take-append-drop, take_more}
use Rattle.std.proofs.lemmas.List.Elements.{filter_map-append}
use Rattle.std.proofs.lemmas.List.Folds.{list_any-append}
use Rattle.std.proofs.lemmas.Option.{same_Some}
use Rattle.std.specs.BTreeMap.{BTreeMap}
use Rattle.std.specs.List.{list_any, slice_get}
use Rattle.std.specs.Prelude.{Bool, List, None, Option, Some, Vec, [], false, length, not, set}
use Rattle.std.specs.Prelude.{suc, true, ℕ, ◌++◌, ◌+◌, ◌<◌, ◌||◌, ◌∷◌, ◌≡◌, ◌≢◌, ◌≤◌}
use Rattle.std.specs.declared.alloc.Global.{Global}

abbrev pub Places : Type 0
Places = List (Option (Record RData))

abbrev pub Index : Type 0
Index = Option (BTreeMap (Vec ℕ Global) ℕ)

-- ---- the records that are there, after a change

module _ (ps : Places) (p : ℕ) where
  abbrev before : List (Record RData)
  before = present (take p ps)

  abbrev after : List (Record RData)
  after = present (drop (suc p) ps)

  there : (k : Record RData) → slice_get ps p ≡ Some (Some k) → present ps ≡ before ++ k ∷ after
  there k h = ap present (cut ps p (Some k) None h).0
      ∙ filter_map-append (λ o. o) (take p ps) (Some k ∷ drop (suc p) ps)

  put : (o w : Option (Record RData)) → slice_get ps p ≡ Some o
      → present (set ps p w) ≡ before ++ present (w ∷ drop (suc p) ps)
  put o w h = ap present (cut ps p o w h).1 ∙ filter_map-append (λ q. q) (take p ps) (w ∷ drop (suc p) ps)

  module _ (r : Record RData) (h : IsIn r.rdata ps p) where
    pub joined_here : Distinct (present ps) → present (set ps p (Some r)) ≡ joined r (present ps)
    joined_here d =
        let is = there h.known h.here in
        put (Some h.known) (Some r) h.here
        ∙ sym (joined_around r h.known before after (alone r h.known before after (subst Distinct is d) h.same) h.same)
        ∙ ap (joined r) (sym is)

    pub without_here : Distinct (present ps) → present (set ps p None) ≡ without r (present ps)
    without_here d =
        let is = there h.known h.here in
        put (Some h.known) None h.here
        ∙ sym (without_around r h.known before after (alone r h.known before after (subst Distinct is d) h.same) h.same)
        ∙ ap (without r) (sym is)

    pub only_one : list_any (has_data_of r) (present ps) ≡ true
    only_one = ap (list_any (has_data_of r)) (there h.known h.here) ∙ any_around r h.known before after h.same

    pub count_here : length (present (set ps p (Some r))) ≡ length (present ps)
    count_here = ap length (put (Some h.known) (Some r) h.here) ∙ length-append before (r ∷ after)
        ∙ sym (length-append before (h.known ∷ after)) ∙ sym (ap length (there h.known h.here))

    pub count_taken : length (present ps) ≡ length (present (set ps p None)) + 1
    count_taken = omega (
      arith,
      ap length (put (Some h.known) None h.here) ∙ length-append before after,
      ap length (there h.known h.here) ∙ length-append before (h.known ∷ after),
    )

present_push : (ps : Places) (r : Record RData) → present (ps ++ Some r ∷ []) ≡ present ps ++ r ∷ []
present_push ps r = filter_map-append (λ o. o) ps (Some r ∷ [])

pub joined_last : (r : Record RData) (ps : Places) → list_any (has_data_of r) (present ps) ≡ false
    → present (ps ++ Some r ∷ []) ≡ joined r (present ps)
joined_last r ps none = present_push ps r ∙ joined_after r (present ps) none

pub count_push : (ps : Places) (r : Record RData) → length (present (ps ++ Some r ∷ [])) ≡ length (present ps) + 1
count_push ps r = ap length (present_push ps r) ∙ length-append (present ps) (r ∷ [])

pub present_fits : (ps : Places) → length (present ps) ≤ length ps
present_fits [] = omega arith
present_fits (None ∷ ps) = omega (arith, present_fits ps)
present_fits (Some x ∷ ps) = omega (arith, present_fits ps)

-- one more place is looked at
pub scan_more : (r : Record RData) (ps : Places) (i : ℕ) (o : Option (Record RData)) → i < length ps
    → o ≡ get_or ps i o → list_any (has_data_of r) (present (take i ps)) ≡ false
    → list_any (has_data_of r) (present (o ∷ [])) ≡ false → list_any (has_data_of r) (present (take (i + 1) ps)) ≡ false
scan_more r ps i o below is none next =
    ap (λ (qs : Places). list_any (has_data_of r) (present qs)) (take_more ps i o below
    ∙ ap (λ (x : Option (Record RData)). take i ps ++ x ∷ []) (sym is))
    ∙ ap (list_any (has_data_of r)) (filter_map-append (λ q. q) (take i ps) (o ∷ []))
    ∙ list_any-append (has_data_of r) (present (take i ps)) (present (o ∷ [])) ∙ (λ j. none j || next j)

-- ---- what is found by the index

-- no record that is there passes a test
none_present : (test : Record RData → Bool) (ps : Places)
    → ((i : ℕ) (r : Record RData) → slice_get ps i ≡ Some (Some r) → test r ≡ false)
    → list_any test (present ps) ≡ false
none_present test [] h = refl
none_present test (None ∷ ps) h = none_present test ps (λ i r e. h (suc i) r e)
none_present test (Some x ∷ ps) h = λ k. h 0 x refl k || none_present test ps (λ i r e. h (suc i) r e) k

-- where records stand among places
abbrev StandsIn : Places → Stands
StandsIn ps i r = slice_get ps i ≡ Some (Some r)

module _ (find : List ℕ → Option ℕ) (ps : Places) (r : Record RData) (h : IsPlaceIndex find (StandsIn ps)) where
  -- the index has no place of such data
  pub nowhere : None ≡ find (canonical_data r.rdata) → list_any (has_data_of r) (present ps) ≡ false
  nowhere none = none_present (has_data_of r) ps (not_found find (StandsIn ps) r h none)

  -- the place is not that of such data
  pub not_in : (p : ℕ) → Some p ≡ find (canonical_data r.rdata)
      → ((x : Record RData) → slice_get ps p ≡ Some (Some x) → same_data x.rdata r.rdata ≡ false)
      → list_any (has_data_of r) (present ps) ≡ false
  not_in p found other = none_present (has_data_of r) ps (not_there find (StandsIn ps) r h p found other)

  module _ (after : List ℕ → Option ℕ) (others : (cs : List ℕ) → cs ≢ canonical_data r.rdata → after cs ≡ find cs) where
    -- the record and its key are taken out
    pub index_taken : (p : ℕ) → IsIn r.rdata ps p → IsPlaceIndex after (StandsIn (set ps p None))
    index_taken p here = record {
      at = λ i x e. elim (set_at ps p i (Some here.known) None (Some x) here.here e) [
        | inl a ↦ absurd (none_is_not x a.1)
        | inr b ↦ others (canonical_data x.rdata) (λ same. b.0 (same_Some i p (sym (h.at i x b.1) ∙ ap find same
            ∙ equal_at find (StandsIn ps) r h p here.known here.here here.same))) ∙ h.at i x b.1
      ];
    }

    -- the record and its key are put in, after the others
    pub index_pushed : find (canonical_data r.rdata) ≡ None → after (canonical_data r.rdata) ≡ Some (length ps)
        → IsPlaceIndex after (StandsIn (ps ++ Some r ∷ []))
    index_pushed free last = index_last find (StandsIn ps) r h _ after (length ps) others free last
        (λ i x e. elim (push_at ps (Some r) (Some x) i e) [
          | inl a ↦ inl a
          | inr b ↦ inr (b.0, same_Some r x b.1)
        ])

pub if_index : (index : Index) (ps qs : Places)
    → ((find : List ℕ → Option ℕ) → IsPlaceIndex find (StandsIn ps) → IsPlaceIndex find (StandsIn qs))
    → IsIndexed index ps → IsIndexed index qs
if_index None ps qs more h = tt
if_index (Some m) ps qs more h = more (indexed_at m) h

-- a record in the place of one of its data, or after all where there is none
pub placed_here : (index : Index) (ps : Places) (p : ℕ) (r : Record RData) → IsPlaced index ps → IsIn r.rdata ps p
    → IsPlaced index (set ps p (Some r))
placed_here index ps p r h here = record {
  distinct = subst Distinct (sym (joined_here ps p r here h.distinct)) (distinct_joined r (present ps) h.distinct);
  indexed = if_index index ps (set ps p (Some r))
      (λ find k. index_here find (StandsIn ps) r k _ p here.known here.here here.same
      (λ i x e. elim (set_at ps p i (Some here.known) (Some r) (Some x) here.here e) [
        | inl a ↦ inl (a.0, same_Some r x a.1)
        | inr b ↦ inr b.1
      ])) h.indexed;
}

pub placed_last : (index : Index) (ps : Places) (r : Record RData) → Distinct (present ps)
    → list_any (has_data_of r) (present ps) ≡ false
    → IsIndexed index (ps ++ Some r ∷ []) → IsPlaced index (ps ++ Some r ∷ [])
placed_last index ps r d none h = record {
  distinct = subst Distinct (sym (joined_last r ps none)) (distinct_joined r (present ps) d);
  indexed = h;
}

-- a record that is taken out
pub placed_taken : (index : Index) (ps : Places) (p : ℕ) (r : Record RData) → Distinct (present ps) → IsIn r.rdata ps p
    → IsIndexed index (set ps p None) → IsPlaced index (set ps p None)
placed_taken index ps p r d here h = record {
  distinct = subst Distinct (sym (without_here ps p r here d))
      (distinct_left (λ x. not (has_data_of r x)) (present ps) d);
  indexed = h;
}

-- ---- records of which no two have equal data, one after the other

pub joined_next : (i : ℕ) (e : Record RData) (xs zs new : List (Record RData)) → Distinct zs
    → i < length zs → e ≡ get_or zs i e → xs ≡ take i zs → new ≡ joined e xs → new ≡ take (i + 1) zs
joined_next i e xs zs new apart_all below is so_far joins =
    let more : take i zs ++ e ∷ [] ≡ take (i + 1) zs =
    ap (λ x. take i zs ++ x ∷ []) is ∙ sym (take_more zs i e below) in
    let all : take i zs ++ e ∷ drop (i + 1) zs ≡ zs =
    sym (append_assoc (take i zs) (e ∷ []) (drop (i + 1) zs)) ∙ ap (λ us. us ++ drop (i + 1) zs) more
    ∙ take-append-drop (i + 1) zs in
    joins ∙ ap (joined e) so_far ∙ sym (joined_after e (take i zs)
    (alone e e (take i zs) (drop (i + 1) zs) (subst Distinct (sym all) apart_all) (laws.refl e.rdata)).0) ∙ more
