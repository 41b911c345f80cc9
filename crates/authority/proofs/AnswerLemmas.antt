-- The first alias of a set, and where it leads; what is answered of what was found.
use Rattle.authority.proofs.CutLemmas.{cut_is_end}
use Rattle.authority.proofs.SetLemmas.{records_there}
use Rattle.authority.specs.Found.{IsAlias, IsFound, alias_of, alias_value, answered}
use Rattle.authority.specs.Lookup.{Alias, Cut, Data, Finding, NoName, Outside, alias_at, alias_else, alias_in, alias_or}
use Rattle.authority.specs.Lookup.{first_target, least_ttl, lookup, record_of, records, records_of, shown, target_of}
use Rattle.authority.specs.Answer.{AnswerValue, addresses_found, answer, answer_found, answer_value, end_like, extras}
use Rattle.authority.specs.Answer.{host_in, negative, of_data, owns, referring, with_authority, with_host}
use Rattle.authority.specs.ZoneRef.{AreUnderKeys, zone_of}
use Rattle.authority.specs.declared.answer.Answer.{Answer}
use Rattle.authority.specs.declared.zone_ref.ZoneRef.{ZoneRef}
use Rattle.authority.specs.declared.found.Found.TheVariants as codes
use Rattle.authority.specs.declared.found.Found.{Found}
use Rattle.base.specs.names.Labels.{NameValue}
use Rattle.base.specs.names.NameOrder.{same_name}
use Rattle.base.specs.RecordType.{same_type}
use Rattle.base.specs.RrKey.{key_of}
use Rattle.base.specs.declared.dns_class.DNSClass.{DNSClass}
use Rattle.base.specs.declared.record_type.RecordType.TheVariants as types
use Rattle.base.specs.declared.record_type.RecordType.{RecordType}
use Rattle.base.specs.declared.error.proto_error.ProtoError.{ProtoError}
use Rattle.base.specs.declared.rr_key.RrKey.{RrKey}
use Rattle.base_data.specs.RData.{is_empty_data}
use Rattle.base_data.specs.declared.rdata.RData.TheVariants as kinds
use Rattle.base_data.specs.declared.rdata.RData.{RData}
use Rattle.op.specs.declared.response_code.ResponseCode.TheVariants.{NXDomain, NoError, ServFail}
use Rattle.op_use.proofs.TypeSteps.{any_is, cname_is}
use Rattle.op_use.specs.NamedChanges.{datum_of}
use Rattle.op_use.specs.Zone.{Datum, Zone}
use Rattle.op_use.specs.Applying.{data_in_set}
use Rattle.op_use.specs.Server.{is_any}
use Rattle.rr.specs.RecordSet.{SetValue}
use Rattle.rr.specs.declared.record.Record.{Record}
use Rattle.std.proofs.Common.{ap, arith, drop, length, refl, subst, sym, take, ◌++◌, ◌-◌, ◌<◌, ◌∙◌}
use Rattle.std.proofs.lemmas.Bool.{cond-false, cond-true}
use Rattle.std.proofs.Math.Seq.{drop-append_seam, take-append_seam, take-length}
use Rattle.std.proofs.lemmas.List.{length-drop}
use Rattle.std.proofs.lemmas.List.Folds.{list_any-append}
use Rattle.std.proofs.Math.Bool.{or-false}
use Rattle.std.proofs.lemmas.Option.{same_Some}
use Rattle.std.proofs.lemmas.Result.{IfOk-weaker}
use Rattle.std.specs.Borrow.{Bor}
use Rattle.std.specs.Option.{option_or}
use Rattle.std.specs.Prelude.{Bool, IfOk, List, None, Option, Result, Some, Vec, [], cond, false, map, not, suc, true}
use Rattle.std.specs.Prelude.{zero, ℕ, ◌||◌, ◌∷◌, ◌≡◌}
use Rattle.std.specs.BTreeMap.{BTreeMap}
use Rattle.std.specs.List.{filter_map, flat_map, fold}
use Rattle.std.specs.declared.alloc.Global.{Global}

-- data that leads somewhere isn't empty
leads_on : (d : RData) (target : NameValue) → target_of d ≡ Some target → is_empty_data d ≡ false
leads_on (kinds.Update0 type) target h = cc
leads_on _ target h = refl

module _ (class : DNSClass) (owner : NameValue) (ttl : ℕ) where
  abbrev made : List Datum → List (Record RData)
  made ds = map (record_of class owner ttl) (shown ds)

  passed : (b : Bool) (d : Datum) (ds : List Datum) → target_of d.rdata ≡ None
      → alias_in (map (record_of class owner ttl) (cond b (d ∷ shown ds) (shown ds))) ≡ alias_in (made ds)
  passed true d ds h = ap (λ o. alias_or (record_of class owner ttl d) o (alias_in (made ds))) h
  passed false d ds h = refl

  abbrev FirstAlias : List (Record RData) → Option NameValue → Type 0
  FirstAlias rs None = alias_in (made (map datum_of rs)) ≡ None
  FirstAlias rs (Some target) = (r : Record RData) × (alias_in (made (map datum_of rs)) ≡ Some (r, target))

  none_before : (r : Record RData) (rs : List (Record RData)) (o : Option NameValue) → target_of r.rdata ≡ None
      → FirstAlias rs o → FirstAlias (r ∷ rs) o
  none_before r rs None h more = passed (not (is_empty_data r.rdata)) (datum_of r) (map datum_of rs) h ∙ more
  none_before r rs (Some target) h more = (
    more.0,
    passed (not (is_empty_data r.rdata)) (datum_of r)
        (map datum_of rs) h ∙ more.1,
  )

  here : (r : Record RData) (rs : List (Record RData)) (o : Option NameValue) → target_of r.rdata ≡ o
      → FirstAlias rs (first_target rs)
      → FirstAlias (r ∷ rs) (option_or o (first_target rs))
  here r rs None h more = none_before r rs (first_target rs) h more
  here r rs (Some target) h more = (
    record_of class owner ttl (datum_of r),
    ap (λ b. alias_in (map (record_of class owner ttl) (cond (not b) (datum_of r ∷ shown (map datum_of rs)) (shown
        (map datum_of rs))))) (leads_on r.rdata target h)
        ∙ ap (λ o. alias_or (record_of class owner ttl (datum_of r)) o (alias_in (made (map datum_of rs)))) h,
  )

  first_alias : (rs : List (Record RData)) → FirstAlias rs (first_target rs)
  first_alias [] = refl
  first_alias (r ∷ rs) = here r rs (target_of r.rdata) refl (first_alias rs)

-- a set leads where its first alias does
pub leads : (class : DNSClass) (owner target : NameValue) (rs : List (Record RData)) → first_target rs ≡ Some target
    → (r : Record RData) × (alias_in (records_of class owner (map datum_of rs)) ≡ Some (r, target))
leads class owner target rs h =
    subst (λ o. FirstAlias class owner (least_ttl (shown (map datum_of rs))) rs o) h (first_alias class owner
    (least_ttl (shown (map datum_of rs))) rs)

pub leads_nowhere : (class : DNSClass) (owner : NameValue) (rs : List (Record RData)) → first_target rs ≡ None
    → alias_in (records_of class owner (map datum_of rs)) ≡ None
leads_nowhere class owner rs h =
    subst (λ o. FirstAlias class owner (least_ttl (shown (map datum_of rs))) rs o) h (first_alias class owner
    (least_ttl (shown (map datum_of rs))) rs)

-- the alias at s is looked for, where neither it nor everything is asked for
pub alias_from : (z : Zone) (t : RecordType) (n s : NameValue) → same_type t types.CNAME ≡ false
    → same_type t types.ANY ≡ false → alias_at z t n s ≡ alias_in (records z n (key_of s types.CNAME))
alias_from z t n s c a =
    λ i. cond ((cname_is t ∙ c) i || (any_is t ∙ a) i) None (alias_in (records z n (key_of s types.CNAME)))

-- where no alias was found, the data of the type is what is there
pub no_alias : (class : DNSClass) (n : NameValue) (found : Option (Bor SetValue × Bor NameValue))
    (a : Option (Record RData × NameValue)) (rs : List (Record RData)) → found ≡ None → IsAlias class n found a
    → alias_else a rs ≡ Data rs
no_alias class n found a rs none is = ap (λ x. alias_else x rs) (subst (λ f. IsAlias class n f a) none is)

-- ---- what is answered

-- an answer of a value has each value that is the same
pub of_value : (r : Result Answer ProtoError) (v w : AnswerValue) → v ≡ w → IfOk r (λ a. answer_value a ≡ v)
    → IfOk r (λ a. answer_value a ≡ w)
of_value r v w e h = IfOk-weaker r (λ a. answer_value a ≡ v) (λ a. answer_value a ≡ w) (λ a is. is ∙ e) h

-- the first alias among data is the record of one
module _ (class : DNSClass) (owner : NameValue) (ttl : ℕ) (r : Record RData) (target : NameValue) where
  abbrev with_rdata : RData → Record RData
  with_rdata d = record { name = owner; dns_class = class; ttl = ttl; rdata = d; mdns_cache_flush = false }

  by_data : (d : RData) (more : Option (Record RData × NameValue))
      → alias_or (with_rdata d) (target_of d) more ≡ Some (r, target)
      → (more ≡ Some (r, target) → r ≡ alias_value class owner ttl target) → r ≡ alias_value class owner ttl target
  by_data (kinds.CNAME x) more h f =
      let both : (with_rdata (kinds.CNAME x), x.name) ≡ (r, target) = same_Some _ _ h in
      let same : with_rdata (kinds.CNAME x) ≡ r = ap (λ (p : Record RData × NameValue). p.0) both in
      let leads : x.name ≡ target = ap (λ (p : Record RData × NameValue). p.1) both in
      sym same ∙ ap (λ (n : NameValue). with_rdata (kinds.CNAME (record { name = n }))) leads
  by_data _ more h f = f h

  alias_among : (ds : List Datum) → alias_in (map (record_of class owner ttl) ds) ≡ Some (r, target)
      → r ≡ alias_value class owner ttl target
  alias_among [] h = cc
  alias_among (d ∷ ds) h = by_data d.rdata (alias_in (map (record_of class owner ttl) ds)) h (alias_among ds)

alias_is : (class : DNSClass) (owner : NameValue) (s : SetValue) (r : Record RData) (target : NameValue)
    → alias_in (answered class owner s) ≡ Some (r, target)
    → r ≡ alias_of class owner s target
alias_is class owner s r target h =
    alias_among class owner (least_ttl (shown (data_in_set s))) r target (shown (data_in_set s)) h

-- what is answered of an alias
given_last : (z : Zone) (t : RecordType) (room : ℕ) (done : List (Record RData)) (n : NameValue) (r : Record RData)
    (target : NameValue) → room ≡ 0
    → answer_found z t room done n (Alias r target) ≡ with_authority ServFail (done ++ r ∷ []) [] []
unfolding answer_found
given_last z t zero done n r target h = refl
given_last z t (suc room) done n r target h = absurd (omega arith)

given_again : (z : Zone) (t : RecordType) (room : ℕ) (done : List (Record RData)) (n : NameValue) (r : Record RData)
    (target : NameValue) → owns target (done ++ r ∷ []) ≡ true
    → answer_found z t room done n (Alias r target) ≡ with_authority ServFail (done ++ r ∷ []) [] []
unfolding answer_found
given_again z t zero done n r target h = refl
given_again z t (suc room) done n r target h = cond-true _ _ _ h

given_on : (z : Zone) (t : RecordType) (room : ℕ) (done : List (Record RData)) (n : NameValue) (r : Record RData)
    (target : NameValue) → owns target (done ++ r ∷ []) ≡ false
    → answer_found z t (suc room) done n (Alias r target) ≡ answer z t room (done ++ r ∷ []) target
unfolding answer_found
given_on z t room done n r target h = cond-false _ _ _ h

-- what was found for a name decides
module _ (zone : ZoneRef) (t : RecordType) (room : ℕ) (done : List (Record RData)) (n : NameValue) (found : Found)
    (is : IsFound zone.class zone.sets.now n found (lookup (zone_of zone) t n)) where
  abbrev z : Zone
  z = zone_of zone

  found_as : (x : Found) → found ≡ x → IsFound zone.class zone.sets.now n x (lookup z t n)
  found_as x e = subst (λ (y : Found). IsFound zone.class zone.sets.now n y (lookup z t n)) e is

  pub answer_outside : found ≡ codes.Outside → answer z t room done n ≡ with_authority NoError done [] []
  unfolding answer_found
  answer_outside e = ap (answer_found z t room done n) (found_as codes.Outside e)

  pub answer_no_name : found ≡ codes.NoName
      → answer z t room done n ≡ with_authority NXDomain done (negative z n) []
  unfolding answer_found
  answer_no_name e = ap (answer_found z t room done n) (found_as codes.NoName e)

  pub answer_cut : (s : Bor SetValue) → AreUnderKeys zone.sets.now → found ≡ codes.Cut s
      → answer z t room done n ≡ referring z done (answered zone.class (end_like s.now.name n) s.now)
  unfolding answer_found
  answer_cut s own e =
      let h = found_as (codes.Cut s) e in
      ap (answer_found z t room done n) h.1
      ∙ ap (referring z done) (records_there zone.origin.now zone.class zone.sets.now h.0
      (key_of h.0 types.NS) s.now h.2
      ∙ ap (λ (x : NameValue). answered zone.class x s.now)
      (sym (cut_is_end z t n h.0 zone.sets.now s.now own h.1 h.2)))

  with_data : (rs : List (Record RData)) → lookup z t n ≡ Data rs → answer z t room done n ≡ of_data z t done n rs
  unfolding answer_found
  with_data rs h = ap (answer_found z t room done n) h

  pub answer_no_data : found ≡ codes.NoData → answer z t room done n ≡ of_data z t done n []
  answer_no_data e = with_data [] (found_as codes.NoData e)

  pub answer_data : (s : Bor SetValue) → found ≡ codes.Data s
      → answer z t room done n ≡ of_data z t done n (answered zone.class n s.now)
  answer_data s e = with_data (answered zone.class n s.now) (found_as (codes.Data s) e)

  pub answer_all : (sets : Vec (Bor SetValue) Global) → found ≡ codes.All sets → answer z t room done n
      ≡ of_data z t done n (flat_map (λ (s : Bor SetValue). answered zone.class n s.now) sets.items)
  answer_all sets e = with_data (flat_map (λ (s : Bor SetValue). answered zone.class n s.now) sets.items)
      (found_as (codes.All sets) e)

  -- an alias, and the answers with its record
  module _ (s : Bor SetValue) (target : Bor NameValue) (leads : found ≡ codes.Alias s target)
      (more : List (Record RData))
      (added : more ≡ done ++ alias_of zone.class n s.now target.now ∷ []) where
    h : IsFound zone.class zone.sets.now n (codes.Alias s target) (lookup z t n)
    h = found_as (codes.Alias s target) leads

    with_alias : done ++ h.0 ∷ [] ≡ more
    with_alias = ap (λ (r : Record RData). done ++ r ∷ []) (alias_is zone.class n s.now h.0 target.now h.2) ∙ sym added

    pub answer_last : room ≡ 0 → answer z t room done n ≡ with_authority ServFail more [] []
    answer_last none = ap (answer_found z t room done n) h.1
        ∙ given_last z t room done n h.0 target.now none ∙ ap (λ xs. with_authority ServFail xs [] []) with_alias

    owns_is : owns target.now (done ++ h.0 ∷ []) ≡ (owns target.now done || same_name target.now n)
    owns_is = ap (owns target.now) with_alias ∙ ap (owns target.now) added
        ∙ list_any-append (λ (r : Record RData). same_name target.now r.name) done
        (alias_of zone.class n s.now target.now ∷ [])
        ∙ ap (λ b. owns target.now done || b) (or-false (same_name target.now n))

    pub stays_again : (owns target.now done || same_name target.now n) ≡ true
        → answer z t 0 done n ≡ answer z t room done n
    stays_again own = ap (answer_found z t 0 done n) h.1 ∙ given_last z t 0 done n h.0 target.now refl
        ∙ sym (ap (answer_found z t room done n) h.1 ∙ given_again z t room done n h.0 target.now (owns_is ∙ own))

    pub answer_on : 0 < room → (owns target.now done || same_name target.now n) ≡ false
        → answer z t room done n ≡ answer z t (room - 1) more target.now
    answer_on some own =
        let one_less : room ≡ suc (room - 1) = omega arith in
        ap (answer_found z t room done n) h.1
        ∙ ap (λ k. answer_found z t k done n (Alias h.0 target.now)) one_less
        ∙ given_on z t (room - 1) done n h.0 target.now (owns_is ∙ own)
        ∙ ap (λ xs. answer z t (room - 1) xs target.now) with_alias

-- where no alias was found, it doesn't matter how many more may be followed
module _ (z : Zone) (t : RecordType) (room : ℕ) (done : List (Record RData)) (n : NameValue) where
  alike : (f g : Finding) → f ≡ g → answer_found z t 0 done n g ≡ answer_found z t room done n g
      → answer_found z t 0 done n f ≡ answer_found z t room done n f
  alike f g e h = ap (answer_found z t 0 done n) e ∙ h ∙ sym (ap (answer_found z t room done n) e)

  pub stays : (class : DNSClass) (sets : BTreeMap RrKey SetValue) (found : Found) (f : Finding)
      → ((s : Bor SetValue) (target : Bor NameValue) → found ≡ codes.Alias s target → ⊥)
      → IsFound class sets n found f → answer_found z t 0 done n f ≡ answer_found z t room done n f
  unfolding answer_found
  stays class sets codes.Outside f other is = alike f Outside is refl
  stays class sets codes.NoName f other is = alike f NoName is refl
  stays class sets codes.NoData f other is = alike f (Data []) is refl
  stays class sets (codes.Cut s) f other is = alike f (Cut is.0) is.1 refl
  stays class sets (codes.Alias s target) f other is = absurd (other s target refl)
  stays class sets (codes.Data s) f other is = alike f (Data (answered class n s.now)) is refl
  stays class sets (codes.All found) f other is =
      alike f (Data (flat_map (λ (s : Bor SetValue). answered class n s.now) found.items)) is refl

-- the answer of records that are there
data_some : (z : Zone) (t : RecordType) (done : List (Record RData)) (n : NameValue) (rs : List (Record RData))
    → 0 < length rs → of_data z t done n rs ≡ with_authority NoError (done ++ rs) [] (cond (is_any t) [] (extras z false
    (done ++ rs) rs))
data_some z t done n [] h = absurd (omega arith)
data_some z t done n (r ∷ rs) h = refl

-- the answer of records that stand behind others
module _ (z : Zone) (t : RecordType) (done : List (Record RData)) (n : NameValue) (rs items : List (Record RData))
    (before : ℕ) (added : items ≡ done ++ rs) (place : before ≡ length done) where
  front_is : (xs : List (Record RData)) → xs ≡ items → take before xs ≡ done
  front_is xs e = ap (take before) e ∙ ap (λ k. take k items) place ∙ ap (take (length done)) added
      ∙ take-append_seam done rs

  rest_is : (xs : List (Record RData)) → xs ≡ items → take (length xs - before) (drop before xs) ≡ rs
  rest_is xs e = ap (λ k. take k (drop before xs)) (sym (length-drop before xs)) ∙ take-length (drop before xs)
      ∙ ap (drop before) e ∙ ap (λ k. drop k items) place ∙ ap (drop (length done)) added ∙ drop-append_seam done rs

  -- the additional records are those of the slices before and from a place on
  pub data_with : (xs ys authorities additionals : List (Record RData)) → xs ≡ items → ys ≡ items → authorities ≡ []
      → 0 < length rs → is_any t ≡ false
      → additionals ≡ extras z false (take before xs ++ take (length ys - before) (drop before ys))
      (take (length ys - before) (drop before ys))
      → record {
        code = NoError;
        authoritative = true;
        answers = items;
        authorities = authorities;
        additionals = additionals;
      } ≡ of_data z t done n rs
  data_with xs ys authorities additionals front rest none some other extra =
      (λ i. record {
        code = NoError;
        authoritative = true;
        answers = added i;
        authorities = none i;
        additionals = (extra ∙ (λ j. extras z false (front_is xs front j ++ rest_is ys rest j) (rest_is ys rest j))) i;
      })
      ∙ sym (data_some z t done n rs some
      ∙ ap (λ b. with_authority NoError (done ++ rs) [] (cond b [] (extras z false (done ++ rs) rs))) other)

-- ---- additional records

-- a walk over records
module _ (z : Zone) (glued : Bool) (given : List (Record RData)) where
  abbrev pub extras_after : List (Record RData) → List (Record RData) → List (Record RData)
  extras_after xs rs = fold (with_host z glued given) xs (filter_map (λ (r : Record RData). host_in r.rdata) rs)
