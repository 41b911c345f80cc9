-- What an index of data says of the records, and what putting one in does to it.
use Rattle.std.proofs.Common.{ℕ, zero, suc, Bool, true, false, List, [], ◌∷◌, ◌++◌, ◌≡◌, ◌≢◌, ◌&&◌, nat_eq, map, ◌||◌}
use Rattle.std.proofs.Common.{◌⊎◌, inl, inr, refl, sym, ap, subst, ◌∙◌, length, set, arith, take, drop}
use Rattle.std.proofs.Common.{get_or, if◌then◌else◌}
use Rattle.std.specs.Prelude.{Option, Some, None, Vec, is_some}
use Rattle.std.specs.BTreeMap.{BTreeMap}
use Rattle.std.specs.Cmp.{second_so}
use Rattle.std.specs.Cmp.Lexicographic.{bytes_decides}
use Rattle.std.specs.Int.{to_be_bytes, w16, w32}
use Rattle.std.specs.List.{list_any, slice_get}
use Rattle.std.specs.declared.alloc.Global.{Global}
use Rattle.std.proofs.lemmas.Bool.{cond_both, false_from_ne_true, or_parts, true≢false}
use Rattle.std.proofs.lemmas.Option.{same_Some, slice_get-get_or, slice_get_within}
use Rattle.std.proofs.lemmas.List.Folds.{list_any-append, list_any_none}
use Rattle.std.proofs.Math.Bool.{or-false}
use Rattle.base.specs.names.Labels.{wire_of}
use Rattle.base.specs.RecordType.{same_type}
use Rattle.base.proofs.writing.LawLemmas.{none_is_not}
use Rattle.base_data.specs.Kinds.{canonical_data}
use Rattle.base_data.specs.OPT.{options_wire}
use Rattle.base_data.specs.SameData.{same_data}
use Rattle.base_data.specs.contracts.rdata.RDataEq.TheImpl.Laws.{laws-law as data_laws}
use Rattle.base_data.specs.declared.rdata.RData.{RData}
use Rattle.base_data.specs.declared.rdata.RData.TheVariants as kinds
use Rattle.base_data.proofs.Comparing.{options_decide}
use Rattle.base_data.proofs.MXLemmas.{mx_same}
use Rattle.base_data.proofs.NameWords.{name_same}
use Rattle.base_data.proofs.SOALemmas.{soa_same}
use Rattle.base_data.proofs.SRVLemmas.{srv_same}
use Rattle.base.specs.Keys.{indexed_at}
use Rattle.rr.specs.DataIndex.{IsCurrent, IsFirstAt, IsIndexOf, IsOnlyAt, IsPlaceFor, IsPlaceIndex}
use Rattle.rr.specs.SetChanges.{entered, first_of, has_data_of, has_entry, joined}
use Rattle.rr.specs.declared.record.Record.{Record}
use Rattle.rr.specs.declared.rr_set.indexed_records.Index.{Index}
use Rattle.rr.specs.declared.rr_set.indexed_records.Index.TheVariants.{Missing, Made}
use Rattle.rr.specs.RecordSet.{same_entry}
use Rattle.rr.proofs.Around.{cut, first_around, joined_after, joined_around}
use Rattle.rr.proofs.SetSteps.{other_data}

-- equal data has one key
pub one_key : (a b : RData) → same_data a b ≡ true → canonical_data a ≡ canonical_data b
one_key (kinds.A x) (kinds.A y) h = (bytes_decides x.octets y.octets).0 h
one_key (kinds.AAAA x) (kinds.AAAA y) h = (bytes_decides x.octets y.octets).0 h
one_key (kinds.NS x) (kinds.NS y) h = (name_same x.name y.name h).0
one_key (kinds.CNAME x) (kinds.CNAME y) h = (name_same x.name y.name h).0
one_key (kinds.PTR x) (kinds.PTR y) h = (name_same x.name y.name h).0
one_key (kinds.ANAME x) (kinds.ANAME y) h = (name_same x.name y.name h).0
one_key (kinds.MX x) (kinds.MX y) h =
    let f = (mx_same x y).0 h in
    let n = name_same x.exchange y.exchange f.1 in
    λ i. to_be_bytes w16 (f.0 i) ++ n.0 i
one_key (kinds.SOA x) (kinds.SOA y) h =
    let f = (soa_same x y).0 h in
    let m = name_same x.mname y.mname f.0 in
    let r = name_same x.rname y.rname f.1 in
    λ i. m.0 i ++ r.0 i ++ to_be_bytes w32 (f.2 i) ++ to_be_bytes w32 (f.3 i) ++ to_be_bytes w32
    (f.4 i) ++ to_be_bytes w32 (f.5 i) ++ to_be_bytes w32 (f.6 i)
one_key (kinds.SRV x) (kinds.SRV y) h =
    let f = (srv_same x y).0 h in
    let n = name_same x.target y.target f.3 in
    λ i. to_be_bytes w16 (f.0 i) ++ to_be_bytes w16 (f.1 i) ++ to_be_bytes w16 (f.2 i) ++ n.0 i
one_key (kinds.TXT x) (kinds.TXT y) h = (bytes_decides (wire_of x) (wire_of y)).0 h
one_key (kinds.NULL x) (kinds.NULL y) h = (bytes_decides x y).0 h
one_key (kinds.OPT x) (kinds.OPT y) h = ap options_wire ((options_decide x y).0 h)
one_key (kinds.TSIG x) (kinds.TSIG y) h = (bytes_decides x y).0 h
one_key (kinds.Update0 x) (kinds.Update0 y) h = refl
one_key (kinds.Unknown code x) (kinds.Unknown other y) h = (bytes_decides x y).0 (second_so (same_type code other) _ h)
one_key _ _ h = cc

-- ---- what stands at a place after a change

pub set_at : {X : Type 0} (xs : List X) (p i : ℕ) (x w y : X) → slice_get xs p ≡ Some x
    → slice_get (set xs p w) i ≡ Some y → ((i ≡ p) × (w ≡ y)) ⊎ ((i ≢ p) × (slice_get xs i ≡ Some y))
set_at [] p i x w y h e = absurd cc
set_at (z ∷ zs) zero zero x w y h e = inl (refl, same_Some w y e)
set_at (z ∷ zs) zero (suc i) x w y h e = inr ((λ q. absurd (omega (arith, q))), e)
set_at (z ∷ zs) (suc p) zero x w y h e = inr ((λ q. absurd (omega (arith, q))), e)
set_at (z ∷ zs) (suc p) (suc i) x w y h e = elim (set_at zs p i x w y h e) [
  | inl here ↦ inl (ap suc here.0, here.1)
  | inr other ↦ inr ((λ q. other.0 (omega (arith, q))), other.1)
]

-- a place of those before a new last one, or that one
pub push_at : {X : Type 0} (xs : List X) (w y : X) (i : ℕ) → slice_get (xs ++ w ∷ []) i ≡ Some y
    → (slice_get xs i ≡ Some y) ⊎ ((i ≡ length xs) × (w ≡ y))
push_at [] w y zero h = inr (refl, same_Some w y h)
push_at [] w y (suc i) h = absurd cc
push_at (x ∷ xs) w y zero h = inl h
push_at (x ∷ xs) w y (suc i) h = elim (push_at xs w y i h) [
  | inl before ↦ inl before
  | inr last ↦ inr (ap suc last.0, last.1)
]

set_here : {X : Type 0} (xs : List X) (p : ℕ) (x w : X) → slice_get xs p ≡ Some x → slice_get (set xs p w) p ≡ Some w
set_here [] p x w h = absurd cc
set_here (z ∷ zs) zero x w h = refl
set_here (z ∷ zs) (suc p) x w h = set_here zs p x w h

mapped_at : {X : Type 0} (f : X → X) (xs : List X) (i : ℕ) (y : X) → slice_get (map f xs) i ≡ Some y
    → (x : X) × (slice_get xs i ≡ Some x) × (f x ≡ y)
mapped_at f [] i y h = absurd cc
mapped_at f (x ∷ xs) zero y h = (x, refl, same_Some (f x) y h)
mapped_at f (x ∷ xs) (suc i) y h = mapped_at f xs i y h

-- no record passes a test
pub none_any : (test : Record RData → Bool) (rs : List (Record RData))
    → ((i : ℕ) (r : Record RData) → slice_get rs i ≡ Some r → test r ≡ false) → list_any test rs ≡ false
none_any test rs h = list_any_none test rs (λ i r below. h i (get_or rs i r) (slice_get-get_or rs i r below))

-- where no record has the data none is equal
pub no_entry : (r : Record RData) (rs : List (Record RData)) → list_any (has_data_of r) rs ≡ false
    → has_entry r rs ≡ false
no_entry r [] h = refl
no_entry r (x ∷ xs) h =
    let parts : (has_data_of r x ≡ false) × (list_any (has_data_of r) xs ≡ false) = or_parts (has_data_of r x) _ h in
    let first : (same_entry x r && nat_eq x.ttl r.ttl) ≡ false = sym (other_data x r parts.0) in
    λ i. first i || no_entry r xs parts.1 i

-- those before the one of this data and those after it have other data
sides : (r : Record RData) (rs : List (Record RData)) (p : ℕ)
    → ((i : ℕ) (x : Record RData) → i ≢ p → slice_get rs i ≡ Some x → same_data x.rdata r.rdata ≡ false)
    → (list_any (has_data_of r) (take p rs) ≡ false) × (list_any (has_data_of r) (drop (suc p) rs) ≡ false)
sides r [] zero others = (refl, refl)
sides r [] (suc p) others = (refl, refl)
sides r (x ∷ xs) zero others = (
  refl,
  none_any (has_data_of r) xs (λ j y e. others (suc j) y (λ q. absurd (omega (arith, q))) e),
)
sides r (x ∷ xs) (suc p) others =
    let rest = sides r xs p (λ j y other e. others (suc j) y (λ q. other (omega (arith, q))) e) in
    (λ i. others 0 x (λ q. absurd (omega (arith, q))) refl i || rest.0 i, rest.1)

module _ (r : Record RData) (rs : List (Record RData)) (p : ℕ) (h : IsOnlyAt r.rdata rs p) where
  around : (rs ≡ take p rs ++ h.known ∷ drop (suc p) rs) × (set rs p r ≡ take p rs ++ r ∷ drop (suc p) rs)
  around = cut rs p h.known r h.here

  none : (list_any (has_data_of r) (take p rs) ≡ false) × (list_any (has_data_of r) (drop (suc p) rs) ≡ false)
  none = sides r rs p h.others

  -- r joined to the records stands in the place of the one that has its data
  pub joined_at : set rs p r ≡ joined r rs
  joined_at = around.1 ∙ sym (joined_around r h.known (take p rs) (drop (suc p) rs) none h.same)
      ∙ ap (joined r) (sym around.0)

  -- that one is the first of its data, and r is then
  pub first_only : IsFirstAt r.rdata rs p
  first_only = h.here
      ∙ sym (ap (first_of r.rdata) around.0 ∙ first_around r h.known (take p rs) (drop (suc p) rs) none.0 h.same)

  pub first_set : IsFirstAt r.rdata (set rs p r) p
  first_set = set_here rs p h.known r h.here ∙ sym (ap (first_of r.rdata) around.1
      ∙ first_around r r (take p rs) (drop (suc p) rs) none.0 (data_laws.refl r.rdata))

  -- whether an equal record of the same TTL is there, by that one
  pub entry_at : (x : Record RData) → slice_get rs p ≡ Some x
      → has_entry r rs ≡ (same_entry x r && nat_eq x.ttl r.ttl)
  entry_at x is = ap (has_entry r) around.0
      ∙ list_any-append (λ (y : Record RData). same_entry y r && nat_eq y.ttl r.ttl) (take p rs)
      (h.known ∷ drop (suc p) rs)
      ∙ (λ i. no_entry r (take p rs) none.0 i || ((same_entry h.known r && nat_eq h.known.ttl r.ttl)
      || no_entry r (drop (suc p) rs) none.1 i)) ∙ or-false (same_entry h.known r && nat_eq h.known.ttl r.ttl)
      ∙ ap (λ (y : Record RData). same_entry y r && nat_eq y.ttl r.ttl) (same_Some h.known x (sym h.here ∙ is))

slice_get_end : (rs : List (Record RData)) (r : Record RData) → slice_get (rs ++ r ∷ []) (length rs) ≡ Some r
slice_get_end [] r = refl
slice_get_end (x ∷ xs) r = slice_get_end xs r

-- where records stand
abbrev pub Stands : Type 1
Stands = ℕ → Record RData → Type 0

-- a key more in the index
pub index_wider : (find after : List ℕ → Option ℕ) (stands : Stands) (key : List ℕ) → IsPlaceIndex find stands
    → find key ≡ None → ((cs : List ℕ) → cs ≢ key → after cs ≡ find cs) → IsPlaceIndex after stands
index_wider find after stands key h free others = record {
  at = λ i r s. others (canonical_data r.rdata) (λ e. none_is_not i (sym free ∙ ap find (sym e) ∙ h.at i r s))
      ∙ h.at i r s;
}

module _ (find : List ℕ → Option ℕ) (stands : Stands) (r : Record RData) (h : IsPlaceIndex find stands) where
  pub equal_at : (i : ℕ) (x : Record RData) → stands i x → same_data x.rdata r.rdata ≡ true
      → find (canonical_data r.rdata) ≡ Some i
  equal_at i x s same = ap find (sym (one_key x.rdata r.rdata same)) ∙ h.at i x s

  -- a record in the place of one of its data
  pub index_here : (more : Stands) (p : ℕ) (known : Record RData) → stands p known
      → same_data known.rdata r.rdata ≡ true
      → ((i : ℕ) (x : Record RData) → more i x → ((i ≡ p) × (r ≡ x)) ⊎ stands i x) → IsPlaceIndex find more
  index_here more p known s same parts = record {
    at = λ i x m. elim (parts i x m) [
      | inl a ↦ ap (λ (y : Record RData). find (canonical_data y.rdata)) (sym a.1) ∙ equal_at p known s same
          ∙ ap Some (sym a.0)
      | inr b ↦ h.at i x b
    ];
  }

  -- a record and its key more
  pub index_last : (more : Stands) (after : List ℕ → Option ℕ) (n : ℕ)
      → ((cs : List ℕ) → cs ≢ canonical_data r.rdata → after cs ≡ find cs)
      → find (canonical_data r.rdata) ≡ None → after (canonical_data r.rdata) ≡ Some n
      → ((i : ℕ) (x : Record RData) → more i x → stands i x ⊎ ((i ≡ n) × (r ≡ x))) → IsPlaceIndex after more
  index_last more after n others free last parts = record {
    at = λ i x m. elim (parts i x m) [
      | inl a ↦ (index_wider find after stands (canonical_data r.rdata) h free others).at i x a
      | inr b ↦ ap (λ (y : Record RData). after (canonical_data y.rdata)) (sym b.1) ∙ last ∙ ap Some (sym b.0)
    ];
  }

  -- the index has no place of such data
  pub not_found : None ≡ find (canonical_data r.rdata) → (i : ℕ) (x : Record RData) → stands i x
      → same_data x.rdata r.rdata ≡ false
  not_found none i x s = false_from_ne_true _ (λ same. none_is_not i (none ∙ equal_at i x s same))

  -- the place is not that of such data
  pub not_there : (p : ℕ) → Some p ≡ find (canonical_data r.rdata)
      → ((x : Record RData) → stands p x → same_data x.rdata r.rdata ≡ false) → (i : ℕ) (x : Record RData) → stands i x
      → same_data x.rdata r.rdata ≡ false
  not_there p found other i x s = false_from_ne_true _ (λ same. true≢false
      (sym same ∙ other x (subst (λ j. stands j x) (sym (same_Some p i (found ∙ equal_at i x s same))) s)))

-- a record more, after the others
pub pushed : (m n : BTreeMap (Vec ℕ Global) ℕ) (xs zs : List (Record RData)) (r : Record RData) (ks : List ℕ) (p : ℕ)
    → IsIndexOf (indexed_at m) xs → ks ≡ canonical_data r.rdata
    → indexed_at m ks ≡ None → indexed_at n ks ≡ Some p → ((cs : List ℕ) → cs ≢ ks → indexed_at n cs ≡ indexed_at m cs)
    → p ≡ length xs → zs ≡ xs ++ r ∷ [] → IsIndexOf (indexed_at n) zs
pushed m n xs zs r ks p h key free here others len is = index_last (indexed_at m) _ r h _ (indexed_at n) p
    (λ cs other. others cs (λ e. other (e ∙ key))) (ap (indexed_at m) (sym key) ∙ free)
    (ap (indexed_at n) (sym key) ∙ here)
    (λ i x e. elim (push_at xs r x i (ap (λ us. slice_get us i) (sym is) ∙ e)) [
      | inl a ↦ inl a
      | inr b ↦ inr (b.0 ∙ sym len, b.1)
    ])

-- records among which one alone has the data of r, and those with r among them
entries : (r : Record RData) (rs : List (Record RData)) (b : Bool) → has_entry r rs ≡ b
    → entered r rs ≡ (if b then (false, rs) else (true, joined r rs))
entries r rs b h = ap (λ (c : Bool). if c then (false, rs) else (true, joined r rs)) h

pub entered_not : (r : Record RData) (rs : List (Record RData)) (p : ℕ) (x : Record RData) → IsOnlyAt r.rdata rs p
    → slice_get rs p ≡ Some x
    → (same_entry x r && nat_eq x.ttl r.ttl) ≡ true → ◌≡◌ {A = Bool × List (Record RData)} (false, rs) (entered r rs)
entered_not r rs p x h is same = sym (entries r rs true (entry_at r rs p h x is ∙ same))

pub entered_at : (r : Record RData) (rs : List (Record RData)) (p : ℕ) (x : Record RData) → IsOnlyAt r.rdata rs p
    → slice_get rs p ≡ Some x
    → (same_entry x r && nat_eq x.ttl r.ttl) ≡ false
    → ◌≡◌ {A = Bool × List (Record RData)} (true, set rs p r) (entered r rs)
entered_at r rs p x h is other = (λ i. (true, joined_at r rs p h i))
    ∙ sym (entries r rs false (entry_at r rs p h x is ∙ other))

pub entered_after : (r : Record RData) (rs : List (Record RData)) → list_any (has_data_of r) rs ≡ false
    → ◌≡◌ {A = Bool × List (Record RData)} (true, rs ++ r ∷ []) (entered r rs)
entered_after r rs none = (λ i. (true, joined_after r rs none i)) ∙ sym (entries r rs false (no_entry r rs none))

-- the first record of its data, after records of other data
pub first_after : (r : Record RData) (rs : List (Record RData)) → list_any (has_data_of r) rs ≡ false
    → IsFirstAt r.rdata (rs ++ r ∷ []) (length rs)
first_after r rs none = slice_get_end rs r ∙ sym (first_around r r rs [] none (data_laws.refl r.rdata))

-- a record in the place of the one of its data
pub index_set : (find : List ℕ → Option ℕ) (rs : List (Record RData)) (p : ℕ) (r : Record RData) → IsIndexOf find rs
    → IsOnlyAt r.rdata rs p → IsIndexOf find (set rs p r)
index_set find rs p r h only = index_here find _ r h _ p only.known only.here only.same
    (λ i x e. elim (set_at rs p i only.known r x only.here e) [
      | inl a ↦ inl a
      | inr b ↦ inr b.1
    ])

pub none_of : (o : Option ℕ) → is_some o ≡ false → o ≡ None
none_of None h = refl
none_of (Some x) h = cc

-- what is true of the index of some records is true of others, if each index of the ones is one of the others
pub if_current : (index : Index) (rs ss : List (Record RData))
    → ((find : List ℕ → Option ℕ) → IsIndexOf find rs → IsIndexOf find ss)
    → IsCurrent index rs → IsCurrent index ss
if_current (Missing scans) rs ss more h = tt
if_current (Made places) rs ss more h = more (indexed_at places.value) h

-- other fields change, and the data stays
pub index_mapped : (find : List ℕ → Option ℕ) (f : Record RData → Record RData)
    → ((x : Record RData) → (f x).rdata ≡ x.rdata) → (rs : List (Record RData))
    → IsIndexOf find rs → IsIndexOf find (map f rs)
index_mapped find f same rs h = record {
  at = λ i y e.
      let was = mapped_at f rs i y e in
      ap (λ (x : RData). find (canonical_data x)) (ap (λ (x : Record RData). x.rdata) (sym was.2) ∙ same was.0)
      ∙ h.at i was.0 was.1;
}

-- the place for a record is that of the one that has its data, or after all
pub place_known : (r : Record RData) (rs : List (Record RData)) (p : ℕ) → IsOnlyAt r.rdata rs p → IsPlaceFor r rs p
place_known r rs p h =
    let inside = slice_get_within rs p h.known h.here in
    record {
      within = omega (arith, inside);
      known = λ _. h;
      none = λ last. absurd (omega (arith, last, inside));
    }

pub place_last : (r : Record RData) (rs : List (Record RData)) (p : ℕ) → p ≡ length rs
    → list_any (has_data_of r) rs ≡ false → IsPlaceFor r rs p
place_last r rs p last none = record {
  within = omega (arith, last);
  known =
      λ inside. absurd (omega (arith, last, inside));
  none = λ _. none;
}

-- an index of records, with r too, is one of what is left where r was put in
pub current_entered : (index : Index) (r : Record RData) (xs ys : List (Record RData)) (b : Bool)
    → (b, ys) ≡ entered r xs → IsCurrent index xs → IsCurrent index (joined r xs) → IsCurrent index ys
current_entered index r xs ys b is old more =
    subst (λ (p : Bool × List (Record RData)). IsCurrent index p.1) (sym is)
    (cond_both (has_entry r xs) (false, xs) (true, joined r xs)
    (λ (p : Bool × List (Record RData)). IsCurrent index p.1)
    (λ _. old) (λ _. more))
