-- No record of what is found, or of an answer, stands twice.
use Rattle.authority.proofs.StandingLemmas.{OfFound, alias_of, alias_owner, all-append, each_shown, of_lookup}
use Rattle.authority.proofs.StandingLemmas.{owners_found, shown_all}
use Rattle.authority.specs.Answer.{AnswerValue, addresses_found, addresses_of, answer, answer_found, as_negative}
use Rattle.authority.specs.Answer.{end_like, extras, host_in, is_given, negative, of_data, owns, referring}
use Rattle.authority.specs.Answer.{with_addresses, with_authority, with_host}
use Rattle.authority.specs.Lookup.{Alias, Cut, Data, Finding, NoName, Outside, least_ttl, lookup, record_of, records}
use Rattle.authority.specs.Lookup.{records_of, records_of_sets, shown}
use Rattle.authority.specs.Once.{HasProperSets, IsProper, same_record}
use Rattle.authority.specs.Reply.{answer_to, framed, header_refusal, question_refusal, refused_or, reply}
use Rattle.base.proofs.names.KeyLemmas.{key_cmp-exact, key_cmp-total}
use Rattle.base.specs.names.Labels.{NameValue}
use Rattle.base.specs.names.NameOrder.{folded, lowered, same_name}
use Rattle.base.specs.names.NameOrderLaws.{same_by-equiv, same_lower-exact}
use Rattle.base.specs.RecordType.{same_type}
use Rattle.base.specs.RrKey.{key_cmp, key_of}
use Rattle.base.specs.declared.dns_class.DNSClass.{DNSClass}
use Rattle.base.specs.declared.record_type.RecordType.TheVariants as types
use Rattle.base.specs.declared.record_type.RecordType.{RecordType}
use Rattle.base.specs.declared.rr_key.RrKey.{RrKey}
use Rattle.base_data.proofs.EqualData.{one_type}
use Rattle.base_data.specs.Kinds.{type_of_data}
use Rattle.base_data.specs.RData.{is_empty_data}
use Rattle.base_data.specs.SameData.{same_data}
use Rattle.base_data.specs.declared.rdata.RData.{RData}
use Rattle.op.specs.Message.{MessageValue}
use Rattle.op.specs.MessageType.{is_response}
use Rattle.op.specs.declared.query.Query.{Query}
use Rattle.op.specs.declared.response_code.ResponseCode.TheVariants.{ServFail}
use Rattle.op_use.specs.Server.{StepCode, is_any, is_cname}
use Rattle.op_use.specs.Zone.{Datum, Zone, at, is_owned}
use Rattle.rr.specs.Record.{type_of_record}
use Rattle.rr.specs.declared.record.Record.{Record}
use Rattle.std.proofs.Common.{ap, append_assoc, refl, rules, subst, sym, ◌++◌, ◌∙◌}
use Rattle.std.proofs.Math.Bool.{and-false}
use Rattle.std.proofs.lemmas.Bool.{cond_both, false_from_ne_true, false≢true, or_parts}
use Rattle.std.proofs.lemmas.List.Elements.{All-from_recursion}
use Rattle.std.proofs.lemmas.Map.Keys.{IsDistinct-cons, IsDistinct-head, IsDistinct-tail}
use Rattle.std.proofs.lemmas.List.{append-nil}
use Rattle.std.specs.Bool.{Decides}
use Rattle.std.specs.Cmp.Derive.{both_true}
use Rattle.std.specs.Cmp.{Equal-is, first_so, second_so, tied_itself}
use Rattle.std.specs.FinMap as fin
use Rattle.std.specs.FinMap.Entries.{below_all, is_sorted}
use Rattle.std.specs.List.{AllByRecursion, IsDistinct, filter, filter_map, fold, list_any}
use Rattle.std.specs.Ordering.{eq_by_cmp, is_eq, is_lt, on}
use Rattle.std.specs.Prelude.{Bool, List, None, Option, Some, T, [], cond, false, map, not, suc, true, unwrap_or, zero}
use Rattle.std.specs.Prelude.{ℕ, ◌&&◌, ◌||◌, ◌∷◌, ◌≡◌, ◌≢◌}
use Rattle.std.specs.declared.cmp.Ordering.TheVariants.{Equal, Greater, Less}
use Rattle.std.specs.declared.cmp.Ordering.{Ordering}

types_decide : (s t : RecordType) → Decides (same_type s t) (s ≡ t)
types_decide = search rules

is_true : (b : Bool) → T b → b ≡ true
is_true true h = refl
is_true false h = absurd h

all_false : {X : Type 0} (p : X → Bool) (xs : List X) → list_any p xs ≡ false → AllByRecursion (λ x. p x ≡ false) xs
all_false p [] h = tt
all_false p (x ∷ xs) h = let parts = or_parts (p x) (list_any p xs) h in (parts.0, all_false p xs parts.1)

-- none of some records is the same as one of others
abbrev pub Apart : List (Record RData) → List (Record RData) → Type 0
Apart rs qs = AllByRecursion (λ (r : Record RData). AllByRecursion (λ (q : Record RData). same_record r q ≡ false) qs)
    rs

pub joined : (rs qs : List (Record RData)) → IsDistinct same_record rs → IsDistinct same_record qs → Apart rs qs
    → IsDistinct same_record (rs ++ qs)
joined [] qs d e a = e
joined (r ∷ rs) qs d e a = IsDistinct-cons same_record r (rs ++ qs)
    (all-append (λ (q : Record RData). same_record r q ≡ false) rs qs (IsDistinct-head same_record r rs d) a.0)
    (joined rs qs (IsDistinct-tail same_record r rs d) e a.1)

module _ (P Q : Record RData → Type 0)
    (never : (r q : Record RData) → P r → Q q → same_record r q ≡ true → ⊥) where
  apart_from : (r : Record RData) (qs : List (Record RData)) → P r → AllByRecursion Q qs
      → AllByRecursion (λ (q : Record RData). same_record r q ≡ false) qs
  apart_from r [] p h = tt
  apart_from r (q ∷ qs) p h = (false_from_ne_true (same_record r q) (never r q p h.0), apart_from r qs p h.1)

  apart_by : (rs qs : List (Record RData)) → AllByRecursion P rs → AllByRecursion Q qs → Apart rs qs
  apart_by [] qs h k = tt
  apart_by (r ∷ rs) qs h k = (apart_from r qs h.0 k, apart_by rs qs h.1 k)

one_name : (r q : Record RData) → same_record r q ≡ true → same_name r.name q.name ≡ true
one_name r q t = first_so (same_name r.name q.name) (same_data r.rdata q.rdata) t

one_kind : (r q : Record RData) → same_record r q ≡ true → type_of_record r ≡ type_of_record q
one_kind r q t = one_type r.rdata q.rdata (second_so (same_name r.name q.name) (same_data r.rdata q.rdata) t)

-- what is said of the owner and the type of records
abbrev pub AreOf : NameValue → List (Record RData) → Type 0
AreOf n rs = AllByRecursion (λ (r : Record RData). r.name ≡ n) rs

abbrev pub AreOfType : RecordType → List (Record RData) → Type 0
AreOfType t rs = AllByRecursion (λ (r : Record RData). type_of_record r ≡ t) rs

pub apart_owners : (n : NameValue) (rs qs : List (Record RData)) → owns n rs ≡ false → AreOf n qs → Apart rs qs
apart_owners n rs qs h k = apart_by (λ (r : Record RData). same_name n r.name ≡ false)
    (λ (q : Record RData). q.name ≡ n) (λ r q p own t. false≢true (sym p ∙ (same_by-equiv folded).symm n r.name
    ∙ ap (same_name r.name) (sym own) ∙ one_name r q t)) rs qs
    (all_false (λ (r : Record RData). same_name n r.name) rs h) k

pub apart_types : (s t : RecordType) (rs qs : List (Record RData)) → s ≢ t → AreOfType s rs → AreOfType t qs
    → Apart rs qs
apart_types s t rs qs ne h k = apart_by (λ (r : Record RData). type_of_record r ≡ s)
    (λ (q : Record RData). type_of_record q ≡ t) (λ r q p own e. ne (sym p ∙ one_kind r q e ∙ own)) rs qs h k

pub apart_given : (n : NameValue) (t : RecordType) (rs qs : List (Record RData)) → is_given rs n t ≡ false → AreOf n qs
    → AreOfType t qs → Apart rs qs
apart_given n t rs qs h k m = apart_by
    (λ (r : Record RData). (same_name r.name n && same_type (type_of_record r) t) ≡ false)
    (λ (q : Record RData). (q.name ≡ n) × (type_of_record q ≡ t)) (λ r q p own e. false≢true (sym p
    ∙ both_true (ap (same_name r.name) (sym own.0) ∙ one_name r q e)
    ((types_decide (type_of_record r) t).1 (one_kind r q e ∙ own.1)))) rs qs
    (all_false (λ (r : Record RData). same_name r.name n && same_type (type_of_record r) t) rs h) (paired qs k m) where
      paired : (xs : List (Record RData)) → AreOf n xs → AreOfType t xs
          → AllByRecursion (λ (q : Record RData). (q.name ≡ n) × (type_of_record q ≡ t)) xs
      paired [] a b = tt
      paired (x ∷ xs) a b = ((a.0, b.0), paired xs a.1 b.1)

-- ---- entries in the order of their keys

not_equal : (o : Ordering) → is_lt o ≡ true → is_eq o ≡ false
not_equal Less h = refl
not_equal Equal h = cc
not_equal Greater h = refl

none_before : (k : RrKey) (es : List (RrKey × List Datum)) → below_all key_cmp k es ≡ true
    → fin.find key_cmp k es ≡ None
none_before k [] h = refl
none_before k (e ∷ es) h =
    ap (λ b. cond b (Some e.1) (fin.find key_cmp k es)) (not_equal (key_cmp k e.0) (first_so _ _ h))
    ∙ none_before k es (second_so (is_lt (key_cmp k e.0)) _ h)

pub same_key : (q k : RrKey) → eq_by_cmp key_cmp q k ≡ true → q ≡ k
same_key q k t = key_cmp-exact q k ((Equal-is (key_cmp q k)).0 t)

-- what holds of what is found under each key holds of each entry
entries_hold : (P : RrKey × List Datum → Type 0) (es : List (RrKey × List Datum)) → is_sorted key_cmp es ≡ true
    → ((q : RrKey) (ds : List Datum) → fin.find key_cmp q es ≡ Some ds → P (q, ds)) → AllByRecursion P es
entries_hold P [] s h = tt
entries_hold P (e ∷ es) s h = (
  h e.0 e.1 (ap (λ o. cond (is_eq o) (Some e.1) (fin.find key_cmp e.0 es)) (tied_itself key_cmp-total e.0)),
  entries_hold P es (second_so (below_all key_cmp e.0 es) _ s) (λ q ds f. h q ds (later q ds f (eq_by_cmp key_cmp q e.0)
      refl)),
) where
  later : (q : RrKey) (ds : List Datum) → fin.find key_cmp q es ≡ Some ds → (b : Bool) → eq_by_cmp key_cmp q e.0 ≡ b
      → cond b (Some e.1) (fin.find key_cmp q es) ≡ Some ds
  later q ds f false t = f
  later q ds f true t =
      let none : fin.find key_cmp q es ≡ None = ap (λ k. fin.find key_cmp k es) (same_key q e.0 t)
      ∙ none_before e.0 es (first_so _ _ s) in
      cc

-- ---- the records of a set

pub none_once : IsDistinct same_record []
unfolding IsDistinct
none_once = tt

module _ (class : DNSClass) (n : NameValue) (ttl : ℕ) where
  abbrev shown_records : List Datum → List (Record RData)
  shown_records ds = map (record_of class n ttl) (shown ds)

  apart_shown : (d : Datum) (ds : List Datum) → AllByRecursion (λ (e : Datum). same_data d.rdata e.rdata ≡ false) ds
      → AllByRecursion (λ (q : Record RData). same_record (record_of class n ttl d) q ≡ false) (shown_records ds)
  apart_shown d ds h = shown_all (λ (q : Record RData). same_record (record_of class n ttl d) q ≡ false) class n ttl ds
      (λ k e below. ap (λ b. same_name n n && b)
      (All-from_recursion (λ (x : Datum). same_data d.rdata x.rdata ≡ false) ds h k e below)
      ∙ and-false (same_name n n))

  once_by : (d : Datum) (ds : List Datum) (b : Bool) → IsDistinct same_record (shown_records ds)
      → AllByRecursion (λ (q : Record RData). same_record (record_of class n ttl d) q ≡ false) (shown_records ds)
      → IsDistinct same_record (map (record_of class n ttl) (cond b (d ∷ shown ds) (shown ds)))
  once_by d ds true more apart = IsDistinct-cons same_record (record_of class n ttl d) (shown_records ds) apart more
  once_by d ds false more apart = more

  shown_once : (ds : List Datum) → IsDistinct (on (λ (d : Datum). d.rdata) same_data) ds
      → IsDistinct same_record (shown_records ds)
  shown_once [] h = none_once
  shown_once (d ∷ ds) h =
      once_by d ds (not (is_empty_data d.rdata))
      (shown_once ds (IsDistinct-tail (on (λ (d : Datum). d.rdata) same_data) d ds h))
      (apart_shown d ds (IsDistinct-head (on (λ (d : Datum). d.rdata) same_data) d ds h))

  shown_types : (t : RecordType) (ds : List Datum) → AllByRecursion (λ (d : Datum). type_of_data d.rdata ≡ t) ds
      → AreOfType t (shown_records ds)
  shown_types t ds h = shown_all (λ (r : Record RData). type_of_record r ≡ t) class n ttl ds
      (All-from_recursion (λ (d : Datum). type_of_data d.rdata ≡ t) ds h)

-- records of one owner and one type, none twice
pub record IsBlock (n : NameValue) (t : RecordType) (rs : List (Record RData)) : Type 0 where
  pub once : IsDistinct same_record rs
  pub owners : AreOf n rs
  pub kinds : AreOfType t rs

pub no_block : (n : NameValue) (t : RecordType) → IsBlock n t []
no_block n t = record { once = none_once; owners = tt; kinds = tt }

set_block : (class : DNSClass) (n : NameValue) (e : RrKey × List Datum) → IsProper e
    → IsBlock n e.0.record_type (records_of class n e.1)
set_block class n e h = record {
  once = shown_once class n (least_ttl (shown e.1)) e.1 h.0;
  owners = each_shown (λ (r : Record RData). r.name ≡ n) class n (least_ttl (shown e.1)) e.1 (λ d h. refl);
  kinds = shown_types class n (least_ttl (shown e.1)) e.0.record_type e.1 h.1;
}

module _ (z : Zone) (proper : HasProperSets z) where
  pub records_block : (n : NameValue) (k : RrKey) → IsBlock n k.record_type (records z n k)
  records_block n k = set_block z.class n (k, at z k) (proper k)

  -- ---- all sets of an owner

  abbrev kept : NameValue → List (RrKey × List Datum) → List (RrKey × List Datum)
  kept s es = filter (λ (e : RrKey × List Datum). is_owned s e.0) es

  abbrev given : NameValue → List (RrKey × List Datum) → List (Record RData)
  given n es = records_of_sets z.class n es

  -- records of other types than one
  abbrev Lack : RecordType → List (Record RData) → Type 0
  Lack t rs = AllByRecursion (λ (r : Record RData). type_of_record r ≢ t) rs

  others : (s t : RecordType) (rs : List (Record RData)) → s ≢ t → AreOfType s rs → Lack t rs
  others s t [] ne h = tt
  others s t (r ∷ rs) ne h = ((λ e. ne (sym h.0 ∙ e)), others s t rs ne h.1)

  key_apart : (s : NameValue) (a b : RrKey) → is_owned s a ≡ true → is_owned s b ≡ true → is_lt (key_cmp a b) ≡ true
      → b.record_type ≢ a.record_type
  key_apart s a b p q less e =
      let name : b.name ≡ a.name = sym (same_lower-exact (lowered s) b.name q)
      ∙ same_lower-exact (lowered s) a.name p in
      let same : b ≡ a = λ i. record { name = name i; record_type = e i } in
      absurd (false≢true (sym (ap is_lt (tied_itself key_cmp-total a))
      ∙ ap (λ (k : RrKey). is_lt (key_cmp a k)) (sym same) ∙ less))

  lack_later : (s n : NameValue) (a : RrKey) (es : List (RrKey × List Datum)) → is_owned s a ≡ true
      → below_all key_cmp a es ≡ true → AllByRecursion IsProper es → Lack a.record_type (given n (kept s es))
  lack_later s n a [] own below all = tt
  lack_later s n a (e ∷ es) own below all =
      go (is_owned s e.0) refl (lack_later s n a es own (second_so (is_lt (key_cmp a e.0)) _ below) all.1) where
        go : (b : Bool) → is_owned s e.0 ≡ b → Lack a.record_type (given n (kept s es))
            → Lack a.record_type (given n (cond b (e ∷ kept s es) (kept s es)))
        go true p more = all-append (λ (r : Record RData). type_of_record r ≢ a.record_type) (records_of z.class n e.1)
            (given n (kept s es)) (others e.0.record_type a.record_type (records_of z.class n e.1)
            (key_apart s a e.0 own p (first_so (is_lt (key_cmp a e.0)) _ below)) ((set_block z.class n e all.0).kinds))
            more
        go false p more = more

  all_once : (s n : NameValue) (es : List (RrKey × List Datum)) → is_sorted key_cmp es ≡ true
      → AllByRecursion IsProper es → IsDistinct same_record (given n (kept s es))
  all_once s n [] sorted all = (no_block n types.A).once
  all_once s n (e ∷ es) sorted all =
      go (is_owned s e.0) refl (all_once s n es (second_so (below_all key_cmp e.0 es) _ sorted) all.1) where
        go : (b : Bool) → is_owned s e.0 ≡ b → IsDistinct same_record (given n (kept s es))
            → IsDistinct same_record (given n (cond b (e ∷ kept s es) (kept s es)))
        go true p more =
            let block = set_block z.class n e all.0 in
            joined (records_of z.class n e.1) (given n (kept s es)) block.once more
            (apart_by (λ (r : Record RData). type_of_record r ≡ e.0.record_type)
            (λ (q : Record RData). type_of_record q ≢ e.0.record_type)
            (λ r q own ne t. ne (sym (one_kind r q t) ∙ own)) (records_of z.class n e.1) (given n (kept s es))
            block.kinds (lack_later s n e.0 es p (first_so (below_all key_cmp e.0 es) _ sorted) all.1))
        go false p more = more

  -- ---- what was found

  -- an alias is one, and records stand once, of the type that is asked for
  abbrev pub AreOnce : RecordType → List (Record RData) → Type 0
  AreOnce t rs = IsDistinct same_record rs × (is_any t ≡ false → AreOfType t rs)

  abbrev pub IsGood : RecordType → Finding → Type 0
  IsGood t f = OfFound (λ (r : Record RData). type_of_record r ≡ types.CNAME) (AreOnce t) f

  all_proper : AllByRecursion IsProper (fin.entries z.sets)
  all_proper = entries_hold IsProper (fin.entries z.sets) sorted (λ q ds e. subst (λ o. IsProper (q, unwrap_or o []))
      (fin.get-entries z.sets q ∙ e) (proper q)) where
        sorted : is_sorted key_cmp (fin.entries z.sets) ≡ true
        sorted = is_true _ (fin.entries_sorted z.sets)

  module _ (t : RecordType) (n : NameValue) where
    good_asked : (s : NameValue) (b : Bool) → is_any t ≡ b
        → AreOnce t (cond b (given n (kept s (fin.entries z.sets))) (records z n (key_of s t)))
    good_asked s true e = (
      all_once s n (fin.entries z.sets) (is_true (is_sorted key_cmp (fin.entries z.sets))
          (fin.entries_sorted z.sets)) all_proper,
      λ no. absurd (false≢true (sym no ∙ e)),
    )
    good_asked s false e = let block = records_block n (key_of s t) in (block.once, λ no. block.kinds)

    pub good_lookup : IsGood t (lookup z t n)
    good_lookup = of_lookup (λ (r : Record RData). type_of_record r ≡ types.CNAME) (AreOnce t) z t n
        (λ s e r target h. alias_of z t n (is_cname t || is_any t) (records z n (key_of s types.CNAME)) r target
        (λ (x : Record RData). type_of_record x ≡ types.CNAME) ((records_block n (key_of s types.CNAME)).kinds) h)
        (λ s e. good_asked s (is_any t) refl)

-- ---- answers and replies

-- another TTL changes no comparison
negative_apart : (r : Record RData) (rs : List (Record RData))
    → AllByRecursion (λ (q : Record RData). same_record r q ≡ false) rs
    → AllByRecursion (λ (q : Record RData). same_record (as_negative r) q ≡ false) (map as_negative rs)
negative_apart r [] h = tt
negative_apart r (q ∷ rs) h = (h.0, negative_apart r rs h.1)

negative_once : (rs : List (Record RData)) → IsDistinct same_record rs → IsDistinct same_record (map as_negative rs)
negative_once [] h = h
negative_once (r ∷ rs) h = IsDistinct-cons same_record (as_negative r) (map as_negative rs)
    (negative_apart r rs (IsDistinct-head same_record r rs h)) (negative_once rs (IsDistinct-tail same_record r rs h))

negative_types : (t : RecordType) (rs : List (Record RData)) → AreOfType t rs → AreOfType t (map as_negative rs)
negative_types t [] h = tt
negative_types t (r ∷ rs) h = (h.0, negative_types t rs h.1)

module _ (z : Zone) (proper : HasProperSets z) where
  -- ---- additional records

  addresses_by : (glued : Bool) (t : RecordType) (n : NameValue) (f : Finding) → is_any t ≡ false → lookup z t n ≡ f
      → IsBlock n t (addresses_found z glued t n f)
  addresses_by glued t n (Data rs) a e =
      let good = subst (IsGood z proper t) e (good_lookup z proper t n) in
      record {
        once = good.0;
        owners = subst (OfFound (λ (r : Record RData). r.name ≡ n) (AreOf n)) e (owners_found z t n);
        kinds = good.1 a;
      }
  addresses_by true t n (Cut m) a e = records_block z proper n (key_of n t)
  addresses_by false t n (Cut m) a e = no_block n t
  addresses_by glued t n Outside a e = no_block n t
  addresses_by glued t n NoName a e = no_block n t
  addresses_by glued t n (Alias r target) a e = no_block n t

  module _ (glued : Bool) (given : List (Record RData)) where
    abbrev IsOnce : List (Record RData) → Type 0
    IsOnce xs = IsDistinct same_record (given ++ xs)

    addresses_once : (t : RecordType) (xs : List (Record RData)) (n : NameValue) → is_any t ≡ false → IsOnce xs
        → IsOnce (with_addresses z glued given t xs n)
    addresses_once t xs n a h = go (is_given (given ++ xs) n t) refl where
      go : (b : Bool) → is_given (given ++ xs) n t ≡ b → IsOnce (cond b xs (xs ++ addresses_of z glued t n))
      go true e = h
      go false e =
          let block = addresses_by glued t n (lookup z t n) a refl in
          subst (IsDistinct same_record) (append_assoc given xs (addresses_of z glued t n))
          (joined (given ++ xs) (addresses_of z glued t n) h block.once
          (apart_given n t (given ++ xs) (addresses_of z glued t n) e block.owners block.kinds))

    hosts_once : (hosts : List NameValue) (xs : List (Record RData)) → IsOnce xs
        → IsOnce (fold (with_host z glued given) xs hosts)
    hosts_once [] xs h = h
    hosts_once (n ∷ hosts) xs h = hosts_once hosts (with_host z glued given xs n)
        (addresses_once types.AAAA (with_addresses z glued given types.A xs n) n refl
        (addresses_once types.A xs n refl h))

    extras_once : (rs : List (Record RData)) → IsDistinct same_record given → IsOnce (extras z glued given rs)
    extras_once rs h = hosts_once (filter_map (λ (r : Record RData). host_in r.rdata) rs) []
        (subst (IsDistinct same_record) (sym (append-nil given)) h)

  -- ---- answers

  -- aliases of which none stands twice
  record AreAliases (done : List (Record RData)) : Type 0 where
    once : IsDistinct same_record done
    kinds : AreOfType types.CNAME done

  abbrev IsWhole : AnswerValue → Type 0
  IsWhole a = IsDistinct same_record (a.answers ++ (a.authorities ++ a.additionals))

  alone : (rs : List (Record RData)) → IsDistinct same_record rs → IsDistinct same_record (rs ++ [])
  alone rs h = subst (IsDistinct same_record) (sym (append-nil rs)) h

  with_negative : (done : List (Record RData)) (n : NameValue) → AreAliases done
      → IsDistinct same_record (done ++ (negative z n ++ []))
  with_negative done n h =
      let block = records_block z proper (end_like z.origin n) (key_of z.origin types.SOA) in
      subst (λ (xs : List (Record RData)). IsDistinct same_record (done ++ xs)) (sym (append-nil (negative z n)))
      (joined done (negative z n) h.once
      (negative_once (records z (end_like z.origin n) (key_of z.origin types.SOA)) block.once)
      (apart_types types.CNAME types.SOA done (negative z n) (λ e. cc) h.kinds
      (negative_types types.SOA (records z (end_like z.origin n) (key_of z.origin types.SOA)) block.kinds)))

  with_data : (t : RecordType) (done : List (Record RData)) (n : NameValue) (rs : List (Record RData))
      → lookup z t n ≡ Data rs → AreAliases done → owns n done ≡ false → IsWhole (of_data z t done n rs)
  with_data t done n [] e h new = with_negative done n h
  with_data t done n (r ∷ rs) e h new = unless_any (is_any t) where
    all : IsDistinct same_record (done ++ r ∷ rs)
    all = joined done (r ∷ rs) h.once ((subst (IsGood z proper t) e (good_lookup z proper t n)).0)
        (apart_owners n done (r ∷ rs) new (subst (OfFound (λ (q : Record RData). q.name ≡ n) (AreOf n)) e
        (owners_found z t n)))

    unless_any : (b : Bool) → IsDistinct same_record ((done ++ r ∷ rs) ++ ([] ++ cond b []
        (extras z false (done ++ r ∷ rs) (r ∷ rs))))
    unless_any true = alone (done ++ r ∷ rs) all
    unless_any false = extras_once false (done ++ r ∷ rs) (r ∷ rs) all

  with_servers : (done : List (Record RData)) (m : NameValue) → AreAliases done
      → IsWhole (referring z done (records z m (key_of m types.NS)))
  with_servers done m h =
      let rs : List (Record RData) = records z m (key_of m types.NS) in
      let block = records_block z proper m (key_of m types.NS) in
      subst (IsDistinct same_record) (append_assoc done rs (extras z true (done ++ rs) rs))
      (extras_once true (done ++ rs) rs (joined done rs h.once block.once
      (apart_types types.CNAME types.NS done rs (λ e. cc) h.kinds block.kinds)))

  one_more : (t : RecordType) (done : List (Record RData)) (n target : NameValue) (r : Record RData)
      → lookup z t n ≡ Alias r target → AreAliases done → owns n done ≡ false → AreAliases (done ++ r ∷ [])
  one_more t done n target r e h new =
      let kind : type_of_record r ≡ types.CNAME = subst (IsGood z proper t) e (good_lookup z proper t n) in
      record {
        once = joined done (r ∷ []) h.once (IsDistinct-cons same_record r [] tt none_once)
            (apart_owners n done (r ∷ []) new (alias_owner z t n r target e, tt));
        kinds = all-append (λ (q : Record RData). type_of_record q ≡ types.CNAME) done (r ∷ []) h.kinds (kind, tt);
      }

  whole_by : (t : RecordType) (room : ℕ) (done : List (Record RData)) (n : NameValue) (f : Finding) → lookup z t n ≡ f
      → AreAliases done → owns n done ≡ false → IsWhole (answer_found z t room done n f)
  unfolding answer_found
  whole_by t room done n Outside e h new = alone done h.once
  whole_by t room done n NoName e h new = with_negative done n h
  whole_by t room done n (Data rs) e h new = with_data t done n rs e h new
  whole_by t room done n (Cut m) e h new = with_servers done m h
  whole_by t zero done n (Alias r target) e h new = alone (done ++ r ∷ []) ((one_more t done n target r e h new).once)
  whole_by t (suc room) done n (Alias r target) e h new =
      let more = one_more t done n target r e h new in
      cond_both (owns target (done ++ r ∷ [])) (with_authority ServFail (done ++ r ∷ []) [] [])
      (answer_found z t room (done ++ r ∷ []) target (lookup z t target)) IsWhole
      (λ again. alone (done ++ r ∷ []) more.once)
      (λ fresh. whole_by t room (done ++ r ∷ []) target (lookup z t target) refl more fresh)

  pub answers_once : (t : RecordType) (room : ℕ) (n : NameValue) → IsWhole (answer z t room [] n)
  answers_once t room n =
      whole_by t room [] n (lookup z t n) refl (record { once = none_once; kinds = tt }) refl

  -- ---- replies

  refused_once : (o : StepCode) (a : AnswerValue) → IsWhole a → IsWhole (refused_or o a)
  refused_once (Some code) a h = none_once
  refused_once None a h = h

  to_questions : (qs : List Query) → IsWhole (answer_to z qs)
  to_questions [] = none_once
  to_questions (q ∷ []) = refused_once (question_refusal z q) (answer z q.query_type 11 [] q.name)
      (answers_once q.query_type 11 q.name)
  to_questions (q ∷ r ∷ qs) = none_once

  abbrev IsWholeReply : Option MessageValue → Type 0
  IsWholeReply None = Unit {0}
  IsWholeReply (Some r) = IsDistinct same_record (r.answers ++ (r.authorities ++ r.additionals))

  unless_response : (m : MessageValue) (b : Bool) (a : AnswerValue) → IsWhole a
      → IsWholeReply (cond b None (Some (framed m a)))
  unless_response m true a h = tt
  unless_response m false a h = h

  pub replies_once : (m r : MessageValue) → reply z m ≡ Some r
      → IsDistinct same_record (r.answers ++ (r.authorities ++ r.additionals))
  replies_once m r h = subst IsWholeReply h (unless_response m (is_response m.metadata.message_type)
      (refused_or (header_refusal m) (answer_to z m.queries))
      (refused_once (header_refusal m) (answer_to z m.queries) (to_questions m.queries)))
