-- Sets strictly below a cut decide on no name, and so on no answer, but for glue.
use Rattle.authority.proofs.AgreeingAnswers.{others_agree, replied_alike, unless_response, whole_agrees}
use Rattle.authority.proofs.AgreementLemmas.{any_from, found_at_source, own_agrees, some_passes, source_agrees}
use Rattle.authority.proofs.CaseLemmas.{cuts_alike}
use Rattle.authority.proofs.CutLemmas.{cut_stands, last_cut, none_at_end, none_dropped, not_some}
use Rattle.authority.proofs.SourceLemmas.{source_holds}
use Rattle.authority.proofs.WayLemmas.{no_cut_at}
use Rattle.authority.specs.Agreement.{above_cuts, is_hidden, less_additionals, message_less_additionals}
use Rattle.authority.specs.Answer.{answer}
use Rattle.authority.specs.Lookup.{Cut, Outside, at_source, cut_else, cut_on, cut_over, encloser, encloses}
use Rattle.authority.specs.Lookup.{end_that_exists, exists, has_servers, highest_cut, if_cut, is_ds, lookup, name_with}
use Rattle.authority.specs.Lookup.{source, wildcard_below}
use Rattle.authority.specs.Reply.{answer_to, framed, header_refusal, refused_or, reply}
use Rattle.base.proofs.names.BelowLemmas.{lies_in, lies_so}
use Rattle.base.proofs.names.CompareLemmas.{folded_twice}
use Rattle.base.proofs.names.KeyLemmas.{key_cmp-exact}
use Rattle.base.specs.names.Labels.{NameValue}
use Rattle.base.specs.names.NameOrder.{folded, folded_labels, lowered, same_name}
use Rattle.base.specs.names.NameOrderLaws.{same_by-equiv, same_lower-exact}
use Rattle.base.specs.names.Parents.{is_at_or_below, is_below, is_within, parent}
use Rattle.base.specs.RrKey.{key_of}
use Rattle.base.specs.declared.record_type.RecordType.TheVariants as types
use Rattle.base.specs.declared.record_type.RecordType.{RecordType}
use Rattle.base.specs.declared.rr_key.RrKey.{RrKey}
use Rattle.op.specs.Message.{MessageValue}
use Rattle.op.specs.MessageType.{is_response}
use Rattle.op_use.specs.Zone.{Zone, is_owned}
use Rattle.std.proofs.Common.{ap, drop, refl, sym, ◌++◌, ◌∙◌}
use Rattle.std.proofs.Math.Bool.{and-false}
use Rattle.std.proofs.lemmas.Bool.{cond_both}
use Rattle.std.proofs.lemmas.List.{map-append}
use Rattle.std.specs.Char.{to_ascii_lowercase}
use Rattle.std.specs.Cmp.{both_ways}
use Rattle.std.specs.FinMap as fin
use Rattle.std.specs.Option.{option_or}
use Rattle.std.specs.Prelude.{Bool, List, None, Option, Some, [], cond, false, is_some, map, not, option_map, true, ℕ}
use Rattle.std.specs.Prelude.{◌&&◌, ◌||◌, ◌∷◌, ◌≡◌}

-- names in lower case stay as they are in lower case
lowered_again : (n : NameValue) → lowered (lowered n) ≡ lowered n
lowered_again n = λ i. record { labels = folded_twice n.labels i; absolute = n.absolute }

mapped_some : (o : Option NameValue) → is_some o ≡ is_some (option_map lowered o)
mapped_some None = refl
mapped_some (Some m) = refl

none_by : (o : Option NameValue) → o ≡ None → is_some o ≡ false
none_by o h = ap (λ x. is_some x) h

is_none_by : (o : Option NameValue) → is_some o ≡ false → o ≡ None
is_none_by None h = refl
is_none_by (Some m) h = cc

module _ (z : Zone) where
  -- no end of a name that isn't hidden is hidden
  ends_stand : (absolute : Bool) (all front labels : List (List ℕ)) → all ≡ front ++ labels
      → cut_on z absolute (drop 1 all) ≡ None → cut_on z absolute (drop 1 labels) ≡ None
  ends_stand absolute all [] labels e h = ap (λ (xs : List (List ℕ)). cut_on z absolute (drop 1 xs)) (sym e) ∙ h
  ends_stand absolute all (x ∷ front) labels e h = none_dropped z absolute labels (none_at_end z absolute front labels
      (ap (λ (xs : List (List ℕ)). cut_on z absolute (drop 1 xs)) (sym e) ∙ h))

  -- between a name that isn't hidden and one below it that is, there is a cut that isn't
  record CutBetween (absolute : Bool) (labels : List (List ℕ)) : Type 0 where
    front : List (List ℕ)
    servers : has_servers z (name_with absolute (front ++ labels)) ≡ true
    stands : cut_on z absolute (drop 1 (front ++ labels)) ≡ None

  cut_between : (absolute : Bool) (labels : List (List ℕ)) → cut_on z absolute (drop 1 labels) ≡ None
      → (front : List (List ℕ)) (m : NameValue) → cut_on z absolute (drop 1 (front ++ labels)) ≡ Some m
      → CutBetween absolute labels
  cut_between absolute labels none [] m h = absurd (not_some m (sym none ∙ h))
  cut_between absolute labels none (x ∷ front) m h =
      go (cut_on z absolute (drop 1 (front ++ labels))) refl (λ k e. cut_between absolute labels none front k e) where
        go : (o : Option NameValue) → cut_on z absolute (drop 1 (front ++ labels)) ≡ o
            → ((k : NameValue) → cut_on z absolute (drop 1 (front ++ labels)) ≡ Some k → CutBetween absolute labels)
            → CutBetween absolute labels
        go None e more = record {
          front = front;
          servers = (last_cut z absolute (front ++ labels) m h e).2;
          stands = e;
        }
        go (Some k) e more = more k e

  -- ---- without the hidden sets

  abbrev y : Zone
  y = above_cuts z

  hidden_lowered : (n : NameValue) → is_hidden z (lowered n) ≡ is_hidden z n
  hidden_lowered n =
      mapped_some (cut_over z types.DS (lowered n))
      ∙ ap (λ o. is_some o) (cuts_alike z types.DS (lowered n) n (lowered_again n))
      ∙ sym (mapped_some (cut_over z types.DS n))

  kept : (k : RrKey) → fin.get y.sets k ≡ cond (not (is_hidden z k.name)) (fin.get z.sets k) None
  kept k = fin.get-retain_keys z.sets (λ (q : RrKey). not (is_hidden z q.name)) k
      (λ x t. ap (λ (q : RrKey). not (is_hidden z q.name)) (sym (key_cmp-exact k x t)))

  pub stays : (k : RrKey) → is_hidden z k.name ≡ false → fin.get z.sets k ≡ fin.get y.sets k
  stays k h = sym (kept k ∙ ap (λ b. cond (not b) (fin.get z.sets k) None) h)

  pub stays_at : (n : NameValue) (t : RecordType) → is_hidden z n ≡ false
      → fin.get z.sets (key_of n t) ≡ fin.get y.sets (key_of n t)
  stays_at n t h = stays (key_of n t) (hidden_lowered n ∙ h)

  in_both : (k : RrKey) (b : Bool) → is_some (cond b (fin.get z.sets k) None) ≡ true → is_some (fin.get z.sets k) ≡ true
  in_both k true h = h
  in_both k false h = cc

  -- what exists
  abbrev covers : NameValue → RrKey → Bool
  covers e k = is_at_or_below e k.name

  exists_under : (e : NameValue) → highest_cut z (parent e) ≡ None → exists z e ≡ true
      → exists y e ≡ true
  exists_under e stands h =
      let found = some_passes (covers e) z.sets h in
      go found.0 found.1 found.2 (highest_cut z (parent found.0.name)) refl where
        at_cut : (k : RrKey) → covers e k ≡ true → CutBetween e.absolute (folded e) → exists y e ≡ true
        at_cut k c cut =
            let m : NameValue = name_with e.absolute (cut.front ++ folded e) in
            let own : is_hidden z m ≡ false = none_by _ cut.stands in
            let below : is_at_or_below e (lowered m) ≡ true = lies_so e (lowered m) (record {
              flag = refl;
              front = folded_labels cut.front;
              labels = map-append (map to_ascii_lowercase) cut.front (folded e)
                  ∙ ap (λ (xs : List (List ℕ)). folded_labels cut.front ++ xs) (folded_twice e.labels);
            }) in
            any_from (covers e) y.sets (key_of m types.NS) below
            (ap (λ o. is_some o) (sym (stays_at m types.NS own)) ∙ cut.servers)

        stands_lowered : highest_cut z (parent (lowered e)) ≡ None
        stands_lowered = is_none_by _ (hidden_lowered e ∙ none_by _ stands)

        go : (k : RrKey) → covers e k ≡ true → is_some (fin.get z.sets k) ≡ true → (o : Option NameValue)
            → highest_cut z (parent k.name) ≡ o → exists y e ≡ true
        go k c there None hidden =
            any_from (covers e) y.sets k c (ap (λ o. is_some o) (sym (stays k (none_by _ hidden))) ∙ there)
        go k c there (Some m) hidden =
            let lies = lies_in e k.name c in
            at_cut k c (cut_between e.absolute (folded e) stands_lowered lies.front m
            ((λ i. cut_on z (lies.flag i) (drop 1 (sym lies.labels i))) ∙ hidden))

  exists_too : (e : NameValue) → exists y e ≡ true → exists z e ≡ true
  exists_too e h =
      let found = some_passes (covers e) y.sets h in
      any_from (covers e) z.sets found.0 found.1 (in_both found.0 (not (is_hidden z found.0.name))
      (ap (λ o. is_some o) (sym (kept found.0)) ∙ found.2))

  exists_same : (e : NameValue) → highest_cut z (parent e) ≡ None → exists z e ≡ exists y e
  exists_same e stands = both_ways (exists z e) (exists y e) (exists_under e stands) (exists_too e)

  -- the cuts are the same
  ends_same : (absolute : Bool) (labels : List (List ℕ))
      → cut_on z absolute labels ≡ cut_on y absolute labels
  ends_same absolute [] = refl
  ends_same absolute (x ∷ labels) =
      go (cut_on z absolute labels) refl ∙ ap (λ o. option_or o (if_cut y n)) (ends_same absolute labels) where
        n : NameValue
        n = name_with absolute (x ∷ labels)

        go : (o : Option NameValue) → cut_on z absolute labels ≡ o
            → option_or (cut_on z absolute labels) (if_cut z n) ≡ option_or (cut_on z absolute labels) (if_cut y n)
        go None e = ap (option_or (cut_on z absolute labels)) (own_agrees z y.sets n (is_below z.origin n) refl
            (λ below. ap (λ o. is_some o) (stays_at n types.NS (none_by _ e))))
        go (Some m) e = ap (λ o. option_or o (if_cut z n)) e ∙ sym (ap (λ o. option_or o (if_cut y n)) e)

  pub cuts_same : (t : RecordType) (n : NameValue) → cut_over z t n ≡ cut_over y t n
  cuts_same t n = go (is_ds t) where
    go : (b : Bool) → highest_cut z (cond b (parent n) n)
        ≡ highest_cut y (cond b (parent n) n)
    go true = ends_same n.absolute (drop 1 n.labels)
    go false = ends_same n.absolute n.labels

  none_above : (n : NameValue) (b : Bool) → highest_cut z (cond b (parent n) n) ≡ None
      → highest_cut z (parent n) ≡ None
  none_above n true h = h
  none_above n false h = none_dropped z n.absolute n.labels h

  -- nothing is hidden at the origin, nor at the asterisk below the closest encloser of a name that isn't
  not_below : (n : NameValue) → same_name n z.origin ≡ true → is_below z.origin n ≡ false
  not_below n h = ap (λ b. is_within z.origin n && not b) h ∙ and-false (is_within z.origin n)

  ends_none : (absolute : Bool) (labels : List (List ℕ)) → cut_on z absolute labels ≡ None
      → highest_cut z (end_that_exists z absolute labels) ≡ None
  ends_none absolute [] h = refl
  ends_none absolute (x ∷ labels) h =
      let n : NameValue = name_with absolute (x ∷ labels) in
      cond_both (encloses z n) n (end_that_exists z absolute labels) (λ m. highest_cut z m ≡ None) (λ e. h)
      (λ e. ends_none absolute labels (none_dropped z absolute (x ∷ labels) h))

  encloser_none : (absolute : Bool) (labels : List (List ℕ)) → exists z (name_with absolute labels) ≡ false
      → cut_on z absolute (drop 1 labels) ≡ None
      → highest_cut z (end_that_exists z absolute labels) ≡ None
  encloser_none absolute [] none h = refl
  encloser_none absolute (x ∷ labels) none h =
      let n : NameValue = name_with absolute (x ∷ labels) in
      cond_both (encloses z n) n (end_that_exists z absolute labels) (λ m. highest_cut z m ≡ None)
      (λ e. no_cut_at z n (not_below n (sym (ap (λ b. b || same_name n z.origin) none) ∙ e)))
      (λ e. ends_none absolute labels h)

  pub soa_stands : is_hidden z z.origin ≡ false
  soa_stands = none_by _ (none_dropped z z.origin.absolute z.origin.labels
      (no_cut_at z z.origin (not_below z.origin ((same_by-equiv folded).refl z.origin))))

  -- the source of the data isn't hidden
  module _ (t : RecordType) (n : NameValue) (stands : highest_cut z (parent n) ≡ None) where
    abbrev w : NameValue
    w = wildcard_below (encloser z n)

    wildcard_stands : exists z n ≡ false → highest_cut z (parent w) ≡ None
    wildcard_stands none = encloser_none n.absolute n.labels none stands

    source_stands : (s : NameValue) → source z n ≡ Some s → is_hidden z s ≡ false
    source_stands s h = source_holds (λ (x : NameValue). is_hidden z x ≡ false) n w s (exists z n) (exists z w)
        (none_by _ stands) (λ e. none_by _ (wildcard_stands e)) h

    owned_stays : (s : NameValue) (k : RrKey) → source z n ≡ Some s → is_owned s k ≡ true
        → fin.get z.sets k ≡ fin.get y.sets k
    owned_stays s k h own = stays k (ap (is_hidden z) (sym (same_lower-exact (lowered s) k.name own))
        ∙ hidden_lowered s ∙ source_stands s h)

    data_same : is_within z.origin n ≡ true → at_source z t n (source z n) ≡ at_source y t n (source y n)
    data_same within =
        found_at_source z y.sets t n owned_stays (source z n) refl
        ∙ ap (at_source y t n) (source_agrees z y.sets n within
        (λ front labels e there. exists_same (name_with n.absolute labels)
        (ends_stand n.absolute n.labels front labels e stands))
        (λ none. exists_same w (wildcard_stands none)))

  pub lookup_same : (t : RecordType) (n : NameValue) → lookup z t n ≡ lookup y t n
  lookup_same t n = go (is_within z.origin n) refl where
    by_cut : (o : Option NameValue) → cut_over z t n ≡ o → is_within z.origin n ≡ true
        → cut_else o (at_source z t n (source z n)) ≡ cut_else o (at_source y t n (source y n))
    by_cut (Some m) e within = refl
    by_cut None e within = data_same t n (none_above n (is_ds t) e) within

    go : (b : Bool) → is_within z.origin n ≡ b
        → cond b (cut_else (cut_over z t n) (at_source z t n (source z n))) Outside
        ≡ cond b (cut_else (cut_over y t n) (at_source y t n (source y n))) Outside
    go false within = refl
    go true within = by_cut (cut_over z t n) refl within
        ∙ ap (λ o. cut_else o (at_source y t n (source y n))) (cuts_same t n)

  -- ---- what is answered

  soa_same : fin.get z.sets (key_of z.origin types.SOA) ≡ fin.get y.sets (key_of z.origin types.SOA)
  soa_same = stays_at z.origin types.SOA soa_stands

  servers_same : (t : RecordType) (n m : NameValue) → lookup z t n ≡ Cut m
      → fin.get z.sets (key_of m types.NS) ≡ fin.get y.sets (key_of m types.NS)
  servers_same t n m h = stays_at m types.NS (cut_stands z t n m h)

  pub others_same : (t : RecordType) (room : ℕ) (n : NameValue)
      → less_additionals (answer z t room [] n) ≡ less_additionals (answer (above_cuts z) t room [] n)
  others_same t room n = others_agree z y.sets lookup_same soa_same servers_same t room n

  pub whole_same : (t : RecordType) (room : ℕ) (n : NameValue) → (answer z t room [] n).authorities ≡ []
      → answer z t room [] n ≡ answer (above_cuts z) t room [] n
  whole_same t room n none = whole_agrees z y.sets lookup_same soa_same servers_same t room n none

  pub replies_same : (m : MessageValue)
      → option_map message_less_additionals (reply z m) ≡ option_map message_less_additionals (reply (above_cuts z) m)
  replies_same m = unless_response message_less_additionals (is_response m.metadata.message_type)
      (framed m (refused_or (header_refusal m) (answer_to z m.queries)))
      (framed m (refused_or (header_refusal m) (answer_to y m.queries)))
      (ap (framed m) (replied_alike z y.sets soa_same less_additionals (λ t n. others_same t 11 n) m))
