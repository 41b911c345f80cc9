-- The letter case of a name changes nothing of what a zone has for it, nor of what is answered but owners.
use Rattle.authority.proofs.AgreeingAnswers.{refused_alike, unless_response}
use Rattle.authority.proofs.AgreementLemmas.{pick_alike}
use Rattle.authority.specs.LetterCase.{answer_lowered, finding_lowered, message_lowered}
use Rattle.authority.specs.Lookup.{Alias, Cut, Data, Finding, NoName, Outside, alias_at, alias_else, alias_in, alias_or}
use Rattle.authority.specs.Lookup.{asked, at_source, cut_else, cut_on, cut_over, encloser, encloses, end_that_exists}
use Rattle.authority.specs.Lookup.{exists, has_servers, if_cut, if_exists, is_ds, least_ttl, lookup, name_with}
use Rattle.authority.specs.Lookup.{owner_lowered, record_of, records, records_of, records_of_sets, sets_of, shown}
use Rattle.authority.specs.Lookup.{side_asked, source, target_of, wildcard_below}
use Rattle.authority.specs.Answer.{AnswerValue, addresses_of, answer, answer_found, as_negative, end_like, extras}
use Rattle.authority.specs.Answer.{host_in, is_given, negative, of_data, owns, referring, with_addresses}
use Rattle.authority.specs.Answer.{with_authority, with_host}
use Rattle.authority.specs.Reply.{answer_to, framed, header_refusal, question_refusal, refused_or, reply}
use Rattle.base.specs.names.Labels.{NameValue}
use Rattle.base.specs.names.NameOrder.{folded, folded_labels, lowered, same_lower, same_name}
use Rattle.base.specs.names.NameOrderLaws.{same_by-is}
use Rattle.base.specs.names.Parents.{asterisk, is_at_or_below, is_below, is_within, parent}
use Rattle.base.specs.RrKey.{key_of}
use Rattle.base.specs.declared.dns_class.DNSClass.{DNSClass}
use Rattle.base.specs.declared.record_type.RecordType.TheVariants as types
use Rattle.base.specs.declared.record_type.RecordType.{RecordType}
use Rattle.base.specs.declared.rr_key.RrKey.{RrKey}
use Rattle.base.specs.RecordType.{same_type}
use Rattle.base_data.specs.declared.rdata.RData.{RData}
use Rattle.op.specs.Message.{MessageValue}
use Rattle.op.specs.MessageType.{is_response}
use Rattle.op.specs.declared.query.Query.{Query}
use Rattle.op.specs.declared.response_code.ResponseCode.TheVariants.{NXDomain, NoError, NotImp, Refused, ServFail}
use Rattle.op.specs.declared.response_code.ResponseCode.{ResponseCode}
use Rattle.op_use.specs.Responses.{is_empty_list}
use Rattle.op_use.specs.Server.{and_then, is_any, is_cname, is_meta, unless}
use Rattle.op_use.specs.Zone.{Datum, Zone, at, has_set}
use Rattle.rr.specs.declared.record.Record.{Record}
use Rattle.rr.specs.Record.{type_of_record}
use Rattle.rr.specs.RecordOrder.{same_class}
use Rattle.std.proofs.Common.{ap, drop, length, refl, sym, ◌++◌, ◌-◌, ◌∙◌}
use Rattle.std.proofs.lemmas.List.{drop-map, length-map, map-append}
use Rattle.std.proofs.lemmas.Simd.{map-map}
use Rattle.std.specs.Bool.{beq}
use Rattle.std.specs.Char.{to_ascii_lowercase}
use Rattle.std.specs.Cmp.Lexicographic.{pointwise}
use Rattle.std.specs.FinMap as fin
use Rattle.std.specs.List.{cons_option, ends_with, filter, filter_map, fold, list_any}
use Rattle.std.specs.Option.{option_or}
use Rattle.std.specs.Prelude.{Bool, List, None, Option, Some, [], cond, false, is_some, map, nat_eq, not, option_map}
use Rattle.std.specs.Prelude.{suc, true, zero, ℕ, ◌&&◌, ◌||◌, ◌∷◌, ◌≡◌}

-- the records of a name, with their owners in lower case
pub lowered_records : (class : DNSClass) (n : NameValue) (ds : List Datum)
    → map owner_lowered (records_of class n ds) ≡ records_of class (lowered n) ds
lowered_records class n ds = map-map owner_lowered (record_of class n (least_ttl (shown ds))) (shown ds)

-- names that are the same are so in lower case
pub alike : (a b : NameValue) → same_name a b ≡ true → lowered a ≡ lowered b
alike a b h =
    let same = (same_by-is folded a b).0 h in
    λ i. record { labels = same.1 i; absolute = same.0 i }

dropped : (labels : List (List ℕ)) → folded_labels (drop 1 labels) ≡ drop 1 (folded_labels labels)
dropped [] = refl
dropped (x ∷ labels) = refl

parents_alike : (a b : NameValue) → lowered a ≡ lowered b → lowered (parent a) ≡ lowered (parent b)
parents_alike a b h =
    (λ i. record { labels = dropped a.labels i; absolute = a.absolute }) ∙ ap parent h
    ∙ (λ i. record { labels = sym (dropped b.labels) i; absolute = b.absolute })

wildcards_alike : (a b : NameValue) → lowered a ≡ lowered b → lowered (wildcard_below a) ≡ lowered (wildcard_below b)
wildcards_alike a b h =
    ap (λ (x : NameValue). record x { labels = map to_ascii_lowercase asterisk ∷ x.labels }) h

or_option : (a b : Option NameValue)
    → option_map lowered (option_or a b) ≡ option_or (option_map lowered a) (option_map lowered b)
or_option None b = refl
or_option (Some x) b = refl

module _ (z : Zone) where
  exists_alike : (a b : NameValue) → lowered a ≡ lowered b → exists z a ≡ exists z b
  exists_alike a b h = ap (λ (x : NameValue). list_any (λ (k : RrKey). beq x.absolute k.name.absolute
      && ends_with (pointwise nat_eq) k.name.labels x.labels) (fin.keys z.sets)) h

  encloses_alike : (a b : NameValue) → lowered a ≡ lowered b → encloses z a ≡ encloses z b
  encloses_alike a b h =
      let there = exists_alike a b h in
      let same : same_name a z.origin ≡ same_name b z.origin = ap (λ (x : NameValue). same_lower x
      (lowered z.origin)) h in
      λ i. there i || same i

  pub within_alike : (a b : NameValue) → lowered a ≡ lowered b → is_within z.origin a ≡ is_within z.origin b
  within_alike a b h = ap (is_at_or_below z.origin) h

  below_alike : (a b : NameValue) → lowered a ≡ lowered b → is_below z.origin a ≡ is_below z.origin b
  below_alike a b h = ap (λ (x : NameValue). is_at_or_below z.origin x && not (same_lower x (lowered z.origin))) h

  pub servers_alike : (a b : NameValue) → lowered a ≡ lowered b → has_servers z a ≡ has_servers z b
  servers_alike a b h =
      ap (λ (x : NameValue). is_some (fin.get z.sets (record { name = x; record_type = types.NS }))) h

  -- the cuts on the way
  own_alike : (a b : NameValue) → lowered a ≡ lowered b
      → option_map lowered (if_cut z a) ≡ option_map lowered (if_cut z b)
  own_alike a b h =
      let below = below_alike a b h in
      let servers = servers_alike a b h in
      pick_alike (option_map lowered) (is_below z.origin a && has_servers z a) (is_below z.origin b && has_servers z b)
      (Some a) (Some b) None None (λ i. below i && servers i) (ap (λ x. Some x) h) (λ e. refl)

  ways_alike : (f g : Bool) (xs ys : List (List ℕ)) → lowered (name_with f xs) ≡ lowered (name_with g ys)
      → option_map lowered (cut_on z f xs) ≡ option_map lowered (cut_on z g ys)
  ways_alike f g [] [] h = refl
  ways_alike f g [] (y ∷ ys) h = let e = ap (λ (x : NameValue). x.labels) h in cc
  ways_alike f g (x ∷ xs) [] h = let e = ap (λ (x : NameValue). x.labels) h in cc
  ways_alike f g (x ∷ xs) (y ∷ ys) h =
      let rest = ways_alike f g xs ys (ap parent h) in
      let own = own_alike (name_with f (x ∷ xs)) (name_with g (y ∷ ys)) h in
      or_option (cut_on z f xs) (if_cut z (name_with f (x ∷ xs))) ∙ (λ i. option_or (rest i) (own i))
      ∙ sym (or_option (cut_on z g ys) (if_cut z (name_with g (y ∷ ys))))

  side_alike : (b : Bool) (m n : NameValue) → lowered m ≡ lowered n
      → lowered (cond b (parent m) m) ≡ lowered (cond b (parent n) n)
  side_alike true m n h = parents_alike m n h
  side_alike false m n h = h

  pub cuts_alike : (t : RecordType) (a b : NameValue) → lowered a ≡ lowered b
      → option_map lowered (cut_over z t a) ≡ option_map lowered (cut_over z t b)
  cuts_alike t a b h =
      let m : NameValue = side_asked t a in
      let n : NameValue = side_asked t b in
      ways_alike m.absolute n.absolute m.labels n.labels (side_alike (is_ds t) a b h)

  -- the closest encloser, and the source of the data
  ends_alike : (f g : Bool) (xs ys : List (List ℕ)) → lowered (name_with f xs) ≡ lowered (name_with g ys)
      → lowered (end_that_exists z f xs) ≡ lowered (end_that_exists z g ys)
  ends_alike f g [] [] h = h
  ends_alike f g [] (y ∷ ys) h = let e = ap (λ (x : NameValue). x.labels) h in cc
  ends_alike f g (x ∷ xs) [] h = let e = ap (λ (x : NameValue). x.labels) h in cc
  ends_alike f g (x ∷ xs) (y ∷ ys) h =
      let m : NameValue = name_with f (x ∷ xs) in
      let n : NameValue = name_with g (y ∷ ys) in
      pick_alike lowered (encloses z m) (encloses z n) m n (end_that_exists z f xs) (end_that_exists z g ys)
      (encloses_alike m n h) h (λ e. ends_alike f g xs ys (ap parent h))

  sources_alike : (a b : NameValue) → lowered a ≡ lowered b
      → option_map lowered (source z a) ≡ option_map lowered (source z b)
  sources_alike a b h =
      let v : NameValue = wildcard_below (encloser z a) in
      let w : NameValue = wildcard_below (encloser z b) in
      let lower : lowered v ≡ lowered w = wildcards_alike (encloser z a) (encloser z b)
      (ends_alike a.absolute b.absolute a.labels b.labels h) in
      pick_alike (option_map lowered) (exists z a) (exists z b) (Some a) (Some b) (if_exists z v) (if_exists z w)
      (exists_alike a b h) (ap (λ x. Some x) h)
      (λ e. pick_alike (option_map lowered) (exists z v) (exists z w) (Some v) (Some w) None None
      (exists_alike v w lower) (ap (λ x. Some x) lower) (λ none. refl))

  -- ---- what stands at the source

  -- the records under a key of the source, and those that are asked for, by names in lower case
  abbrev records_at : NameValue → NameValue → RecordType → List (Record RData)
  records_at n s k = records_of z.class n (at z (record { name = s; record_type = k }))

  abbrev asked_at : RecordType → NameValue → NameValue → List (Record RData)
  asked_at t n s = cond (is_any t) (records_of_sets z.class n
      (filter (λ (e : RrKey × List Datum). same_lower s e.0.name) (fin.entries z.sets))) (records_at n s t)

  abbrev at_lowered : RecordType → NameValue → Option NameValue → Finding
  at_lowered t n None = NoName
  at_lowered t n (Some s) =
      alias_else (cond (is_cname t || is_any t) None (alias_in (records_at n s types.CNAME))) (asked_at t n s)

  lowered_sets : (n : NameValue) (es : List (RrKey × List Datum))
      → map owner_lowered (records_of_sets z.class n es) ≡ records_of_sets z.class (lowered n) es
  lowered_sets n [] = refl
  lowered_sets n (e ∷ es) =
      let one = lowered_records z.class n e.1 in
      let rest = lowered_sets n es in
      map-append owner_lowered (records_of z.class n e.1) (records_of_sets z.class n es) ∙ (λ i. one i ++ rest i)

  lowered_either : (b : Bool) (n : NameValue) (es : List (RrKey × List Datum)) (k : RrKey)
      → map owner_lowered (cond b (records_of_sets z.class n es) (records z n k))
      ≡ cond b (records_of_sets z.class (lowered n) es) (records z (lowered n) k)
  lowered_either true n es k = lowered_sets n es
  lowered_either false n es k = lowered_records z.class n (at z k)

  abbrev alias_lowered : Option (Record RData × NameValue) → Option (Record RData × NameValue)
  alias_lowered o = option_map (λ (a : Record RData × NameValue). (owner_lowered a.0, a.1)) o

  alias_step : (r : Record RData) (o : Option NameValue) (more : Option (Record RData × NameValue))
      → alias_lowered (alias_or r o more) ≡ alias_or (owner_lowered r) o (alias_lowered more)
  alias_step r None more = refl
  alias_step r (Some target) more = refl

  lowered_alias : (rs : List (Record RData)) → alias_lowered (alias_in rs) ≡ alias_in (map owner_lowered rs)
  lowered_alias [] = refl
  lowered_alias (r ∷ rs) = alias_step r (target_of r.rdata) (alias_in rs)
      ∙ ap (alias_or (owner_lowered r) (target_of r.rdata)) (lowered_alias rs)

  alias_unless : (b : Bool) (o : Option (Record RData × NameValue))
      → alias_lowered (cond b None o) ≡ cond b None (alias_lowered o)
  alias_unless true o = refl
  alias_unless false o = refl

  lowered_else : (o : Option (Record RData × NameValue)) (rs : List (Record RData))
      → finding_lowered (alias_else o rs) ≡ alias_else (alias_lowered o) (map owner_lowered rs)
  lowered_else None rs = refl
  lowered_else (Some a) rs = refl

  lowered_source : (t : RecordType) (n : NameValue) (o : Option NameValue)
      → finding_lowered (at_source z t n o) ≡ at_lowered t (lowered n) (option_map lowered o)
  lowered_source t n None = refl
  lowered_source t n (Some s) =
      let rs : List (Record RData) = records z n (key_of s types.CNAME) in
      let alias = alias_unless (is_cname t || is_any t) (alias_in rs)
      ∙ ap (cond (is_cname t || is_any t) None) (lowered_alias rs
      ∙ ap alias_in (lowered_records z.class n (at z (key_of s types.CNAME)))) in
      let others = lowered_either (is_any t) n (sets_of z s) (key_of s t) in
      lowered_else (alias_at z t n s) (asked z t n s)
      ∙ (λ i. alias_else (alias i) (others i))

  lowered_cut : (c : Option NameValue) (f : Finding)
      → finding_lowered (cut_else c f) ≡ cut_else (option_map lowered c) (finding_lowered f)
  lowered_cut None f = refl
  lowered_cut (Some m) f = refl

  -- what the zone has for names that are the same
  pub lookups_alike : (t : RecordType) (a b : NameValue) → lowered a ≡ lowered b
      → finding_lowered (lookup z t a) ≡ finding_lowered (lookup z t b)
  lookups_alike t a b h =
      let cuts = cuts_alike t a b h in
      let sources = sources_alike a b h in
      let there = lowered_source t a (source z a) ∙ (λ i. at_lowered t (h i) (sources i))
      ∙ sym (lowered_source t b (source z b)) in
      pick_alike finding_lowered (is_within z.origin a) (is_within z.origin b)
      (cut_else (cut_over z t a) (at_source z t a (source z a)))
      (cut_else (cut_over z t b) (at_source z t b (source z b))) Outside Outside (within_alike a b h)
      (lowered_cut (cut_over z t a) (at_source z t a (source z a)) ∙ (λ i. cut_else (cuts i) (there i))
      ∙ sym (lowered_cut (cut_over z t b) (at_source z t b (source z b)))) (λ e. refl)

-- ---- what is answered

-- what is asked of records by their owners, is asked of owners in lower case
given_is : (rs : List (Record RData)) (n : NameValue) (t : RecordType) → is_given rs n t
    ≡ list_any (λ (r : Record RData). same_lower r.name (lowered n) && same_type (type_of_record r) t)
    (map owner_lowered rs)
given_is [] n t = refl
given_is (r ∷ rs) n t = ap (λ b. (same_name r.name n && same_type (type_of_record r) t) || b) (given_is rs n t)

owns_is : (rs : List (Record RData)) (n : NameValue)
    → owns n rs ≡ list_any (λ (r : Record RData). same_lower (lowered n) r.name) (map owner_lowered rs)
owns_is [] n = refl
owns_is (r ∷ rs) n = ap (λ b. same_name n r.name || b) (owns_is rs n)

hosts_are : (rs : List (Record RData)) → filter_map (λ (r : Record RData). host_in r.rdata) rs
    ≡ filter_map (λ (r : Record RData). host_in r.rdata) (map owner_lowered rs)
hosts_are [] = refl
hosts_are (r ∷ rs) = ap (cons_option (host_in r.rdata)) (hosts_are rs)

none_is : (rs : List (Record RData)) → is_empty_list rs ≡ is_empty_list (map owner_lowered rs)
none_is [] = refl
none_is (r ∷ rs) = refl

-- records that are the same but for the letter case of owners
abbrev Same : List (Record RData) → List (Record RData) → Type 0
Same rs qs = map owner_lowered rs ≡ map owner_lowered qs

same_more : (rs qs xs ys : List (Record RData)) → Same rs qs → Same xs ys → Same (rs ++ xs) (qs ++ ys)
same_more rs qs xs ys h k = map-append owner_lowered rs xs ∙ (λ i. h i ++ k i) ∙ sym (map-append owner_lowered qs ys)

lowered_negative : (rs : List (Record RData))
    → map owner_lowered (map as_negative rs) ≡ map as_negative (map owner_lowered rs)
lowered_negative rs = map-map owner_lowered as_negative rs ∙ sym (map-map as_negative owner_lowered rs)

lowered_end : (a n : NameValue) → lowered (end_like a n) ≡ end_like a (lowered n)
lowered_end a n =
    let labels = sym (drop-map (map to_ascii_lowercase) (length n.labels - length a.labels) n.labels)
    ∙ ap (λ k. drop (k - length a.labels) (folded n)) (sym (length-map n.labels (map to_ascii_lowercase))) in
    λ i. record { labels = labels i; absolute = n.absolute }

authority_alike : (code : ResponseCode) (gs hs xs ys es fs : List (Record RData)) → Same gs hs → Same xs ys
    → Same es fs → answer_lowered (with_authority code gs xs es) ≡ answer_lowered (with_authority code hs ys fs)
authority_alike code gs hs xs ys es fs p q r = λ i. with_authority code (p i) (q i) (r i)

module _ (z : Zone) where
  given_alike : (gs hs xs : List (Record RData)) (n : NameValue) (t : RecordType) → Same gs hs
      → is_given (gs ++ xs) n t ≡ is_given (hs ++ xs) n t
  given_alike gs hs xs n t same =
      given_is (gs ++ xs) n t
      ∙ ap (list_any (λ (r : Record RData). same_lower r.name (lowered n) && same_type (type_of_record r) t))
      (same_more gs hs xs xs same refl)
      ∙ sym (given_is (hs ++ xs) n t)

  extras_alike : (glued : Bool) (gs hs rs qs : List (Record RData)) → Same gs hs → Same rs qs
      → extras z glued gs rs ≡ extras z glued hs qs
  extras_alike glued gs hs rs qs same more =
      let each : (t : RecordType) (xs : List (Record RData)) (n : NameValue)
      → with_addresses z glued gs t xs n ≡ with_addresses z glued hs t xs n
      = λ t xs n. ap (λ b. cond b xs (xs ++ addresses_of z glued t n)) (given_alike gs hs xs n t same) in
      let hosts : with_host z glued gs ≡ with_host z glued hs
      = λ i xs n. (each types.AAAA (with_addresses z glued gs types.A xs n) n
      ∙ ap (λ ys. with_addresses z glued hs types.AAAA ys n) (each types.A xs n)) i in
      ap (λ (f : List (Record RData) → NameValue → List (Record RData)). fold f []
      (filter_map (λ (r : Record RData). host_in r.rdata) rs)) hosts
      ∙ ap (fold (with_host z glued hs) []) (hosts_are rs
      ∙ ap (filter_map (λ (r : Record RData). host_in r.rdata)) more ∙ sym (hosts_are qs))

  -- records under a key, and those of a negative answer
  records_alike : (m n : NameValue) (k : RecordType) → lowered m ≡ lowered n
      → Same (records z m (key_of m k)) (records z n (key_of n k))
  records_alike m n k h =
      lowered_records z.class m (at z (key_of m k))
      ∙ ap (λ (x : NameValue). records_of z.class x (at z (record { name = x; record_type = k }))) h
      ∙ sym (lowered_records z.class n (at z (key_of n k)))

  negative_alike : (a b : NameValue) → lowered a ≡ lowered b → Same (negative z a) (negative z b)
  negative_alike a b h =
      let soa = at z (key_of z.origin types.SOA) in
      let m : NameValue = end_like z.origin a in
      let n : NameValue = end_like z.origin b in
      let ends : lowered m ≡ lowered n = lowered_end z.origin a ∙ ap (end_like z.origin) h
      ∙ sym (lowered_end z.origin b) in
      lowered_negative (records_of z.class m soa)
      ∙ ap (map as_negative) (lowered_records z.class m soa ∙ ap (λ (x : NameValue). records_of z.class x soa) ends
      ∙ sym (lowered_records z.class n soa))
      ∙ sym (lowered_negative (records_of z.class n soa))

  data_alike : (t : RecordType) (gs hs : List (Record RData)) (a b : NameValue) (rs qs : List (Record RData))
      → Same gs hs → lowered a ≡ lowered b → Same rs qs
      → answer_lowered (of_data z t gs a rs) ≡ answer_lowered (of_data z t hs b qs)
  data_alike t gs hs a b [] [] s h e =
      authority_alike NoError gs hs (negative z a) (negative z b) [] [] s (negative_alike a b h) refl
  data_alike t gs hs a b (r ∷ rs) (q ∷ qs) s h e =
      let all : Same (gs ++ r ∷ rs) (hs ++ q ∷ qs) = same_more gs hs (r ∷ rs) (q ∷ qs) s e in
      authority_alike NoError (gs ++ r ∷ rs) (hs ++ q ∷ qs) [] []
      (cond (is_any t) [] (extras z false (gs ++ r ∷ rs) (r ∷ rs)))
      (cond (is_any t) [] (extras z false (hs ++ q ∷ qs) (q ∷ qs))) all refl
      (ap (λ xs. map owner_lowered (cond (is_any t) [] xs))
      (extras_alike false (gs ++ r ∷ rs) (hs ++ q ∷ qs) (r ∷ rs) (q ∷ qs) all e))
  data_alike t gs hs a b [] (q ∷ qs) s h e = cc
  data_alike t gs hs a b (r ∷ rs) [] s h e = cc

  referrals_alike : (gs hs : List (Record RData)) (m n : NameValue) → Same gs hs → lowered m ≡ lowered n
      → answer_lowered (referring z gs (records z m (key_of m types.NS)))
      ≡ answer_lowered (referring z hs (records z n (key_of n types.NS)))
  referrals_alike gs hs m n s h =
      let rs : List (Record RData) = records z m (key_of m types.NS) in
      let qs : List (Record RData) = records z n (key_of n types.NS) in
      let servers : Same rs qs = records_alike m n types.NS h in
      let more = extras_alike true (gs ++ rs) (hs ++ qs) rs qs (same_more gs hs rs qs s servers) servers in
      let none = none_is gs ∙ ap is_empty_list s ∙ sym (none_is hs) in
      λ i. record {
        code = NoError;
        authoritative = not (none i);
        answers = s i;
        authorities = servers i;
        additionals = map owner_lowered (more i);
      }

  found_alike : (t : RecordType) (room : ℕ) (gs hs : List (Record RData)) (a b : NameValue) (f g : Finding)
      → Same gs hs → lowered a ≡ lowered b → finding_lowered f ≡ finding_lowered g
      → answer_lowered (answer_found z t room gs a f) ≡ answer_lowered (answer_found z t room hs b g)
  unfolding answer_found
  found_alike t room gs hs a b Outside Outside s h e = authority_alike NoError gs hs [] [] [] [] s refl refl
  found_alike t room gs hs a b NoName NoName s h e =
      authority_alike NXDomain gs hs (negative z a) (negative z b) [] [] s (negative_alike a b h) refl
  found_alike t room gs hs a b (Data rs) (Data qs) s h e =
      let same : Same rs qs = cc in
      data_alike t gs hs a b rs qs s h same
  found_alike t room gs hs a b (Cut m) (Cut n) s h e =
      let same : lowered m ≡ lowered n = cc in
      referrals_alike gs hs m n s same
  found_alike t zero gs hs a b (Alias r m) (Alias q n) s h e =
      let one : owner_lowered r ≡ owner_lowered q = cc in
      authority_alike ServFail (gs ++ r ∷ []) (hs ++ q ∷ []) [] [] [] []
      (same_more gs hs (r ∷ []) (q ∷ []) s (λ i. one i ∷ [])) refl refl
  found_alike t (suc room) gs hs a b (Alias r m) (Alias q n) s h e =
      let one : owner_lowered r ≡ owner_lowered q = cc in
      let target : m ≡ n = cc in
      let more : Same (gs ++ r ∷ []) (hs ++ q ∷ []) = same_more gs hs (r ∷ []) (q ∷ []) s (λ i. one i ∷ []) in
      let owned : owns m (gs ++ r ∷ []) ≡ owns n (hs ++ q ∷ []) = owns_is (gs ++ r ∷ []) m
      ∙ (λ i. list_any (λ (x : Record RData). same_lower (lowered (target i)) x.name) (more i))
      ∙ sym (owns_is (hs ++ q ∷ []) n) in
      pick_alike answer_lowered (owns m (gs ++ r ∷ [])) (owns n (hs ++ q ∷ []))
      (with_authority ServFail (gs ++ r ∷ []) [] [])
      (with_authority ServFail (hs ++ q ∷ []) [] [])
      (answer_found z t room (gs ++ r ∷ []) m (lookup z t m))
      (answer_found z t room (hs ++ q ∷ []) n (lookup z t n)) owned
      (authority_alike ServFail (gs ++ r ∷ []) (hs ++ q ∷ []) [] [] [] [] more refl refl)
      (λ e. found_alike t room (gs ++ r ∷ []) (hs ++ q ∷ []) m n (lookup z t m) (lookup z t n) more (ap lowered target)
      (ap (λ (x : NameValue). finding_lowered (lookup z t x)) target))
  found_alike t room gs hs a b f g s h e = cc

  pub answers_alike : (t : RecordType) (room : ℕ) (a b : NameValue) → lowered a ≡ lowered b
      → answer_lowered (answer z t room [] a) ≡ answer_lowered (answer z t room [] b)
  answers_alike t room a b h =
      found_alike t room [] [] a b (lookup z t a) (lookup z t b) refl h (lookups_alike z t a b h)

  -- ---- messages

  refusals_alike : (q : Query) (n : NameValue) → lowered q.name ≡ lowered n
      → question_refusal z q ≡ question_refusal z (record q { name = n })
  refusals_alike q n h = ap (λ b. and_then (unless (same_class q.query_class z.class
      && not q.mdns_unicast_response) Refused)
      (and_then (unless (is_any q.query_type || not (is_meta q.query_type)) NotImp)
      (and_then (unless b Refused) (unless (has_set z (key_of z.origin types.SOA)) ServFail))))
      (within_alike z q.name n h)

  pub replies_alike : (m : MessageValue) (q : Query) (n : NameValue) → lowered q.name ≡ lowered n
      → option_map message_lowered (reply z (record m { queries = q ∷ [] }))
      ≡ option_map message_lowered (reply z (record m { queries = record q { name = n } ∷ [] }))
  replies_alike m q n h =
      let one : MessageValue = record m { queries = q ∷ [] } in
      let other : MessageValue = record m { queries = record q { name = n } ∷ [] } in
      let same = refused_alike answer_lowered (question_refusal z q) (answer z q.query_type 11 [] q.name)
      (answer z q.query_type 11 [] n) (answers_alike q.query_type 11 q.name n h)
      ∙ ap (λ o. answer_lowered (refused_or o (answer z q.query_type 11 [] n))) (refusals_alike q n h) in
      unless_response message_lowered (is_response m.metadata.message_type)
      (framed one (refused_or (header_refusal m) (answer_to z one.queries)))
      (framed other (refused_or (header_refusal m) (answer_to z other.queries)))
      (ap (λ (a : AnswerValue). record (framed m a) { queries = [] })
      (refused_alike answer_lowered (header_refusal m) (answer_to z one.queries) (answer_to z other.queries) same))
