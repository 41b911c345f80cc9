-- What is answered stands in the zone.
use Rattle.authority.proofs.CutLemmas.{found_by}
use Rattle.authority.specs.Chain.IsChain.{ends, leads}
use Rattle.authority.specs.Chain.{AreLed, IsChain}
use Rattle.authority.specs.Lookup.{Alias, Cut, Data, Finding, NoName, Outside, alias_at, alias_in, alias_or, asked}
use Rattle.authority.specs.Lookup.{least_ttl, lookup, record_of, records, records_of, records_of_sets, sets_of, shown}
use Rattle.authority.specs.Lookup.{source, target_of}
use Rattle.authority.specs.Standing.{StandsInZone}
use Rattle.base.proofs.names.KeyLemmas.{key_cmp-exact}
use Rattle.base.specs.names.Labels.{NameValue}
use Rattle.base.specs.names.NameOrder.{exact, lowered}
use Rattle.base.specs.names.NameOrderLaws.{same_by-equiv}
use Rattle.base.specs.RrKey.{key_cmp, key_of}
use Rattle.base.specs.declared.dns_class.DNSClass.{DNSClass}
use Rattle.base.specs.declared.record_type.RecordType.TheVariants as types
use Rattle.base.specs.declared.record_type.RecordType.{RecordType}
use Rattle.base.specs.declared.rr_key.RrKey.{RrKey}
use Rattle.base_data.specs.RData.{is_empty_data}
use Rattle.base_data.specs.declared.rdata.RData.{RData}
use Rattle.op_use.specs.Server.{is_any, is_cname}
use Rattle.op_use.specs.Zone.{Datum, Zone, at, is_owned}
use Rattle.rr.specs.declared.record.Record.{Record}
use Rattle.std.proofs.Common.{ap, arith, inl, inr, refl, subst, sym, ◌++◌, ◌∙◌}
use Rattle.std.proofs.lemmas.Bool.{cond_both}
use Rattle.std.proofs.lemmas.List.Elements.{All-contains_itself, All-filter, All-map, Contains-append_right}
use Rattle.std.proofs.lemmas.List.Elements.{filter_passes, recursion_from_All}
use Rattle.std.proofs.lemmas.Option.{same_Some}
use Rattle.std.specs.FinMap as fin
use Rattle.std.specs.List.{All, AllByRecursion, Contains}
use Rattle.std.specs.Ordering.{is_eq}
use Rattle.std.specs.Prelude.{Bool, List, None, Option, Some, [], cond, false, map, not, true, unwrap_or, ℕ, ◌||◌, ◌∷◌}
use Rattle.std.specs.Prelude.{◌≡◌, ◌⊎◌}
use Rattle.std.specs.declared.cmp.Ordering.TheVariants.{Equal, Greater, Less}
use Rattle.std.specs.declared.cmp.Ordering.{Ordering}

pub all-append : {X : Type 0} (P : X → Type 0) (xs ys : List X) → AllByRecursion P xs → AllByRecursion P ys
    → AllByRecursion P (xs ++ ys)
all-append P [] ys h k = k
all-append P (x ∷ xs) ys h k = (h.0, all-append P xs ys h.1 k)

-- what holds of the records of all data holds of those that are answered
module _ (P : Record RData → Type 0) (class : DNSClass) (n : NameValue) where
  module _ (ttl : ℕ) (ds : List Datum) where
    pub shown_all : All (λ (d : Datum). P (record_of class n ttl d)) ds
        → AllByRecursion P (map (record_of class n ttl) (shown ds))
    shown_all h = recursion_from_All P (map (record_of class n ttl) (shown ds))
        (All-map P (record_of class n ttl) (shown ds) (All-filter (λ (d : Datum). not (is_empty_data d.rdata))
        (λ (d : Datum). P (record_of class n ttl d)) ds h))

    pub each_shown : ((d : Datum) → Contains ds d → P (record_of class n ttl d))
        → AllByRecursion P (map (record_of class n ttl) (shown ds))
    each_shown f = shown_all (λ k d below. f _ (All-contains_itself ds k d below))

  each_set : (es : List (RrKey × List Datum))
      → AllByRecursion (λ (e : RrKey × List Datum). AllByRecursion P (records_of class n e.1)) es
      → AllByRecursion P (records_of_sets class n es)
  each_set [] h = tt
  each_set (e ∷ es) (h, hs) =
      all-append P (records_of class n e.1) (records_of_sets class n es) h (each_set es hs)

-- a set that is found stands among the entries
pub found_set : (q : RrKey) (es : List (RrKey × List Datum)) (ds : List Datum) → fin.find key_cmp q es ≡ Some ds
    → Contains es (q, ds)
found_set q [] ds h = cc
found_set q (e ∷ es) ds h = go (key_cmp q e.0) refl h (found_set q es ds) where
  go : (o : Ordering) → key_cmp q e.0 ≡ o → cond (is_eq o) (Some e.1) (fin.find key_cmp q es) ≡ Some ds
      → (fin.find key_cmp q es ≡ Some ds → Contains es (q, ds)) → Contains (e ∷ es) (q, ds)
  go Equal t found more =
      (0, omega arith, λ i. (sym (key_cmp-exact q e.0 t) i, same_Some e.1 ds found i))
  go Less t found more = Contains-append_right (e ∷ []) es (q, ds) (more found)
  go Greater t found more = Contains-append_right (e ∷ []) es (q, ds) (more found)

-- the alias that is first among records is one of them
module _ (P : Record RData → Type 0) (r : Record RData) (target : NameValue) where
  alias_by : (x : Record RData) (o : Option NameValue) (more : Option (Record RData × NameValue)) → P x
      → (more ≡ Some (r, target) → P r) → alias_or x o more ≡ Some (r, target) → P r
  alias_by x (Some m) more p q h = subst P (ap (λ (a : Record RData × NameValue). a.0) (same_Some _ _ h)) p
  alias_by x None more p q h = q h

  alias_holds : (rs : List (Record RData)) → AllByRecursion P rs → alias_in rs ≡ Some (r, target) → P r
  alias_holds [] all h = cc
  alias_holds (x ∷ rs) all h = alias_by x (target_of x.rdata) (alias_in rs) all.0 (alias_holds rs all.1) h

-- ---- what was found

-- what holds of the alias that was found, or of the records
abbrev pub OfFound : (Record RData → Type 0) → (List (Record RData) → Type 0) → Finding → Type 0
OfFound P Q Outside = Unit {0}
OfFound P Q NoName = Unit {0}
OfFound P Q (Cut m) = Unit {0}
OfFound P Q (Alias r target) = P r
OfFound P Q (Data rs) = Q rs

module _ (P : Record RData → Type 0) (Q : List (Record RData) → Type 0) (z : Zone) (t : RecordType) (n : NameValue)
    (alias : (s : NameValue) → source z n ≡ Some s → (r : Record RData) (target : NameValue)
    → alias_at z t n s ≡ Some (r, target) → P r)
    (others : (s : NameValue) → source z n ≡ Some s → Q (asked z t n s)) where
  pub of_lookup : OfFound P Q (lookup z t n)
  of_lookup = found_by z t n (OfFound P Q) tt (λ m within e. tt) (λ no_cut e. tt) alias others

-- ---- owners

module _ (z : Zone) (t : RecordType) (n : NameValue) where
  abbrev HasOwner : Record RData → Type 0
  HasOwner r = r.name ≡ n

  owned_records : (ds : List Datum) → AllByRecursion HasOwner (records_of z.class n ds)
  owned_records ds = each_shown HasOwner z.class n (least_ttl (shown ds)) ds (λ d h. refl)

  pub alias_of : (b : Bool) (rs : List (Record RData)) (r : Record RData) (target : NameValue)
      (P : Record RData → Type 0)
      → AllByRecursion P rs → cond b None (alias_in rs) ≡ Some (r, target) → P r
  alias_of true rs r target P all h = cc
  alias_of false rs r target P all h = alias_holds P r target rs all h

  owned_at : (s : NameValue) (r : Record RData) (target : NameValue) → alias_at z t n s ≡ Some (r, target)
      → HasOwner r
  owned_at s r target h = alias_of (is_cname t || is_any t) (records z n (key_of s types.CNAME)) r target HasOwner
      (owned_records (at z (key_of s types.CNAME))) h

  owned_sets : (es : List (RrKey × List Datum))
      → AllByRecursion (λ (e : RrKey × List Datum). AllByRecursion HasOwner (records_of z.class n e.1)) es
  owned_sets [] = tt
  owned_sets (e ∷ es) = (owned_records e.1, owned_sets es)

  pub owners_found : OfFound HasOwner (AllByRecursion HasOwner) (lookup z t n)
  owners_found = of_lookup HasOwner (AllByRecursion HasOwner) z t n (λ s e r target h. owned_at s r target h)
      (λ s e. cond_both (is_any t) _ _ (AllByRecursion HasOwner)
      (λ any. each_set HasOwner z.class n (sets_of z s) (owned_sets (sets_of z s)))
      (λ one. owned_records (at z (key_of s t))))

  pub alias_owner : (r : Record RData) (target : NameValue) → lookup z t n ≡ Alias r target → r.name ≡ n
  alias_owner r target h = subst (OfFound HasOwner (AllByRecursion HasOwner)) h owners_found

-- ---- where it stands

module _ (z : Zone) (t : RecordType) (n s : NameValue) (is_source : source z n ≡ Some s) where
  abbrev Stands : Record RData → Type 0
  Stands r = StandsInZone z r

  -- the records of a set that stands in the zone
  of_set : (set : RrKey × List Datum) → Contains (fin.entries z.sets) set → is_owned s set.0 ≡ true
      → AllByRecursion Stands (records_of z.class n set.1)
  of_set set stands owned = each_shown Stands z.class n (least_ttl (shown set.1)) set.1 (λ d there. record {
    from = s;
    is_source = is_source;
    set = set;
    stands = stands;
    is_of_source = owned;
    datum = d;
    is_there = there;
    same = refl;
  })

  of_sets : AllByRecursion Stands (records_of_sets z.class n (sets_of z s))
  of_sets =
      let owned : RrKey × List Datum → Bool = λ e. is_owned s e.0 in
      let es = fin.entries z.sets in
      each_set Stands z.class n (sets_of z s) (recursion_from_All (λ (e : RrKey × List Datum). AllByRecursion Stands
      (records_of z.class n e.1)) (sets_of z s) (λ k d below. of_set _
      (All-filter owned (Contains es) es (All-contains_itself es) k d below) (filter_passes owned es k d below)))

  -- the records under a key of the source
  of_found : (q : RrKey) (o : Option (List Datum)) → fin.get z.sets q ≡ o → is_owned s q ≡ true
      → AllByRecursion Stands (records_of z.class n (unwrap_or o []))
  of_found q None e owned = tt
  of_found q (Some ds) e owned = of_set (q, ds)
      (found_set q (fin.entries z.sets) ds (sym (fin.get-entries z.sets q) ∙ e))
      owned

  of_type : (k : RecordType) → AllByRecursion Stands (records z n (key_of s k))
  of_type k = of_found (key_of s k) (fin.get z.sets (key_of s k)) refl ((same_by-equiv exact).refl (lowered s))

  stands_alias : (r : Record RData) (target : NameValue) → alias_at z t n s ≡ Some (r, target) → Stands r
  stands_alias r target h = alias_of z t n (is_cname t || is_any t) (records z n (key_of s types.CNAME)) r target Stands
      (of_type types.CNAME) h

  stands_asked : AllByRecursion Stands (asked z t n s)
  stands_asked = cond_both (is_any t) _ _ (AllByRecursion Stands) (λ any. of_sets) (λ one. of_type t)

module _ (z : Zone) (t : RecordType) where
  abbrev IsThere : Record RData → Type 0
  IsThere r = StandsInZone z r

  abbrev OfThere : Finding → Type 0
  OfThere f = OfFound IsThere (AllByRecursion IsThere) f

  found_stands : (n : NameValue) → OfThere (lookup z t n)
  found_stands n = of_lookup IsThere (AllByRecursion IsThere) z t n
      (λ s e r target h. stands_alias z t n s e r target h) (λ s e. stands_asked z t n s e)

  chain_stands : (n last : NameValue) (rs : List (Record RData)) → IsChain z t n rs last → AllByRecursion IsThere rs
  chain_stands n last [] (ends m) = tt
  chain_stands n last (r ∷ rs) (leads m target end x xs found more) =
      (subst OfThere found (found_stands m), chain_stands target end xs more)

  last_stands : (n : NameValue) (rs : List (Record RData)) → (rs ≡ []) ⊎ (lookup z t n ≡ Data rs)
      → AllByRecursion IsThere rs
  last_stands n rs (inl none) = subst (AllByRecursion IsThere) (sym none) tt
  last_stands n rs (inr found) = subst OfThere found (found_stands n)

  pub led_stand : (n : NameValue) (most : ℕ) (answers : List (Record RData)) → AreLed z t n most [] answers
      → AllByRecursion IsThere answers
  led_stand n most answers led = subst (AllByRecursion IsThere) (sym led.answers_are)
      (all-append IsThere led.chain led.records (chain_stands n led.last led.chain led.is_chain)
      (last_stands led.last led.records led.found))
