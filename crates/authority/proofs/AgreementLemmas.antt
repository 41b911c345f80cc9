-- Zones that agree on what decides on a name have the same for it.
use Rattle.authority.proofs.WayLemmas.{starts}
use Rattle.authority.specs.Agreement.{Agree, with_sets}
use Rattle.authority.specs.Lookup.{Outside, alias_at, alias_else, alias_in, asked, at_source, cut_else, cut_on}
use Rattle.authority.specs.Lookup.{cut_over, encloser, encloses, end_that_exists, exists, has_servers, highest_cut}
use Rattle.authority.specs.Lookup.{if_exists, is_ds, lookup, name_with, records, records_of, records_of_sets, source}
use Rattle.authority.specs.Lookup.{wildcard_below}
use Rattle.base.proofs.names.KeyLemmas.{key_cmp-exact, key_cmp-total}
use Rattle.base.specs.names.Labels.{NameValue}
use Rattle.base.specs.names.NameOrder.{exact, lowered, same_name}
use Rattle.base.specs.names.NameOrderLaws.{same_by-equiv}
use Rattle.base.specs.names.Parents.{is_below, is_within, parent}
use Rattle.base.specs.RrKey.{key_cmp, key_of}
use Rattle.base.specs.declared.record_type.RecordType.TheVariants as types
use Rattle.base.specs.declared.record_type.RecordType.{RecordType}
use Rattle.base.specs.declared.rr_key.RrKey.{RrKey}
use Rattle.op_use.specs.Server.{is_any, is_cname}
use Rattle.op_use.specs.Zone.{Datum, Zone, is_owned}
use Rattle.std.proofs.Common.{ap, append_assoc, drop, refl, sym, take, ◌++◌, ◌∙◌}
use Rattle.std.proofs.lemmas.Bool.{or_parts}
use Rattle.std.proofs.lemmas.Cmp.{eq_by_cmp_equiv}
use Rattle.std.proofs.lemmas.List.Folds.{Any-from_list_any, list_any-from_Any}
use Rattle.std.proofs.lemmas.Map.Views.{Contains-from_any, list_any-from_Contains}
use Rattle.std.proofs.lemmas.List.{take-append-drop}
use Rattle.std.specs.Cmp.{Equal-is}
use Rattle.std.specs.FinMap as fin
use Rattle.std.specs.FinMap.Entries.{find-where_key, is_sorted-where_key, same_entries, where_key}
use Rattle.std.specs.FinMap.{FinMap}
use Rattle.std.specs.List.{filter, list_any}
use Rattle.std.specs.Option.{option_or}
use Rattle.std.specs.Ordering.{eq_by_cmp}
use Rattle.std.specs.Prelude.{Bool, List, None, Option, Some, [], cond, false, is_some, not, true, unwrap_or, ℕ, ◌&&◌}
use Rattle.std.specs.Prelude.{◌||◌, ◌∷◌, ◌≡◌}
use Rattle.std.specs.declared.cmp.Ordering.TheVariants.{Equal}

-- what is said of one of two, by tests that agree
pub pick_alike : {X Y : Type 0} (f : X → Y) (b c : Bool) (m n p q : X) → b ≡ c → f m ≡ f n → (b ≡ false → f p ≡ f q)
    → f (cond b m p) ≡ f (cond c n q)
pick_alike f b true m n p q e h k = ap (λ d. f (cond d m p)) e ∙ h
pick_alike f b false m n p q e h k = ap (λ d. f (cond d m p)) e ∙ k e

-- maps that agree on the keys that pass a test have the same entries there
module _ (p : RrKey → Bool) (m n : FinMap key_cmp (List Datum))
    (same : (k : RrKey) → p k ≡ true → fin.get m k ≡ fin.get n k) where
  alike : (q x : RrKey) → key_cmp q x ≡ Equal → p x ≡ p q
  alike q x t = ap p (sym (key_cmp-exact q x t))

  found_alike : (q : RrKey) (b : Bool) → p q ≡ b
      → cond b (fin.find key_cmp q (fin.entries m)) None ≡ cond b (fin.find key_cmp q (fin.entries n)) None
  found_alike q false e = refl
  found_alike q true e = sym (fin.get-entries m q) ∙ same q e ∙ fin.get-entries n q

  pub kept_agree : filter (λ (e : RrKey × List Datum). p e.0) (fin.entries m)
      ≡ filter (λ (e : RrKey × List Datum). p e.0) (fin.entries n)
  kept_agree = same_entries key_cmp key_cmp-total key_cmp-exact (where_key key_cmp p (fin.entries m))
      (where_key key_cmp p (fin.entries n))
      (is_sorted-where_key key_cmp p (fin.entries m) (fin.entries_sorted m))
      (is_sorted-where_key key_cmp p (fin.entries n) (fin.entries_sorted n))
      (λ q. find-where_key key_cmp p q (alike q) (fin.entries m) ∙ found_alike q (p q) refl
      ∙ sym (find-where_key key_cmp p q (alike q) (fin.entries n)))

-- a key of a map passes a test exactly where the test finds it among all keys
module _ (p : RrKey → Bool) (m : FinMap key_cmp (List Datum)) where
  pub some_passes : list_any p (fin.keys m) ≡ true
      → (k : RrKey) × (p k ≡ true) × (is_some (fin.get m k) ≡ true)
  some_passes h =
      let a = Any-from_list_any p (fin.keys m) h in (
        a.1,
        a.4,
        fin.contains_key-keys m a.1
            ∙ list_any-from_Contains (eq_by_cmp_equiv key_cmp-total) a.1 (fin.keys m) (a.0, a.2, a.3),
      )

  pub any_from : (k : RrKey) → p k ≡ true → is_some (fin.get m k) ≡ true → list_any p (fin.keys m) ≡ true
  any_from k own there =
      let c = Contains-from_any {eq = eq_by_cmp key_cmp} (λ a b t. key_cmp-exact a b ((Equal-is (key_cmp a b)).0 t)) k
      (fin.keys m) (sym (fin.contains_key-keys m k) ∙ there) in
      list_any-from_Any p (fin.keys m) (c.0, k, c.1, c.2, own)

module _ (z : Zone) (sets : FinMap key_cmp (List Datum)) where
  abbrev y : Zone
  y = with_sets z sets

  -- the cuts on the way
  abbrev pub SameServers : Bool → List (List ℕ) → Type 0
  SameServers absolute labels = (front end : List (List ℕ)) → labels ≡ front ++ end
      → is_below z.origin (name_with absolute end) ≡ true
      → has_servers z (name_with absolute end) ≡ has_servers y (name_with absolute end)

  pub own_agrees : (n : NameValue) (b : Bool) → is_below z.origin n ≡ b
      → (is_below z.origin n ≡ true → has_servers z n ≡ has_servers y n)
      → cond (b && has_servers z n) (Some n) None ≡ cond (b && has_servers y n) (Some n) None
  own_agrees n false e h = refl
  own_agrees n true e h = ap (λ c. cond c (Some n) None) (h e)

  ways_agree : (absolute : Bool) (labels : List (List ℕ)) → SameServers absolute labels
      → cut_on z absolute labels ≡ cut_on y absolute labels
  ways_agree absolute [] h = refl
  ways_agree absolute (x ∷ labels) h =
      let n : NameValue = name_with absolute (x ∷ labels) in
      let rest = ways_agree absolute labels (λ front end e. h (x ∷ front) end (ap (λ
      (xs : List (List ℕ)). x ∷ xs) e)) in
      let own = own_agrees n (is_below z.origin n) refl (h [] (x ∷ labels) refl) in
      λ i. option_or (rest i) (own i)

  side_agrees : (n : NameValue) (b : Bool) → SameServers n.absolute n.labels
      → highest_cut z (cond b (parent n) n) ≡ highest_cut y (cond b (parent n) n)
  side_agrees n false h = ways_agree n.absolute n.labels h
  side_agrees n true h = ways_agree n.absolute (drop 1 n.labels) (λ front end e. h (take 1 n.labels ++ front) end
      (sym (take-append-drop 1 n.labels) ∙ ap (λ (xs : List (List ℕ)). take 1 n.labels ++ xs) e
      ∙ sym (append_assoc (take 1 n.labels) front end)))

  pub cuts_agree : (t : RecordType) (n : NameValue) → SameServers n.absolute n.labels → cut_over z t n ≡ cut_over y t n
  cuts_agree t n h = side_agrees n (is_ds t) h

  -- the closest encloser
  abbrev pub SameEnds : Bool → List (List ℕ) → Type 0
  SameEnds absolute labels = (front end : List (List ℕ)) → labels ≡ front ++ end
      → is_within z.origin (name_with absolute end) ≡ true
      → exists z (name_with absolute end) ≡ exists y (name_with absolute end)

  pub below_by : (n : NameValue) → is_within z.origin n ≡ true → encloses z n ≡ false → is_below z.origin n ≡ true
  below_by n w none = ap (λ b. b && not (same_name n z.origin)) w
      ∙ ap not ((or_parts (exists z n) (same_name n z.origin) none).1)

  pub encloser_agrees : (absolute : Bool) (labels : List (List ℕ))
      → is_within z.origin (name_with absolute labels) ≡ true → SameEnds absolute labels
      → end_that_exists z absolute labels ≡ end_that_exists y absolute labels
  encloser_agrees absolute [] w h = refl
  encloser_agrees absolute (x ∷ labels) w h =
      let n : NameValue = name_with absolute (x ∷ labels) in
      pick_alike (λ (m : NameValue). m) (encloses z n) (encloses y n) n n (end_that_exists z absolute labels)
      (end_that_exists y absolute labels) (ap (λ b. b || same_name n z.origin) (h [] (x ∷ labels) refl w)) refl
      (λ none. encloser_agrees absolute labels
      ((starts z.origin absolute (x ∷ labels) (below_by n w none)).within)
      (λ front end e. h (x ∷ front) end (ap (λ (xs : List (List ℕ)). x ∷ xs) e)))

  -- the source of the data
  pub source_agrees : (n : NameValue) → is_within z.origin n ≡ true → SameEnds n.absolute n.labels
      → (exists z n ≡ false
      → exists z (wildcard_below (encloser z n)) ≡ exists y (wildcard_below (encloser z n)))
      → source z n ≡ source y n
  source_agrees n w h asterisk = go (exists z n) refl where
    there : exists z n ≡ exists y n
    there = h [] n.labels refl w

    go : (b : Bool) → exists z n ≡ b → source z n ≡ source y n
    go true e = ap (λ c. cond c (Some n) (if_exists z (wildcard_below (encloser z n)))) e
        ∙ sym (ap (λ c. cond c (Some n) (if_exists y (wildcard_below (encloser y n)))) (sym there ∙ e))
    go false e = ap (λ c. cond c (Some n) (if_exists z (wildcard_below (encloser z n)))) e
        ∙ ap (λ c. cond c (Some (wildcard_below (encloser z n))) None) (asterisk e)
        ∙ ap (λ (m : NameValue). if_exists y (wildcard_below m)) (encloser_agrees n.absolute n.labels w h)
        ∙ sym (ap (λ c. cond c (Some n) (if_exists y (wildcard_below (encloser y n)))) (sym there ∙ e))

  pub records_agree : (n : NameValue) (k : RrKey) → fin.get z.sets k ≡ fin.get sets k
      → records z n k ≡ records y n k
  records_agree n k h = ap (λ o. records_of z.class n (unwrap_or o [])) h

  pub owns_itself : (s : NameValue) (t : RecordType) → is_owned s (key_of s t) ≡ true
  owns_itself s t = (same_by-equiv exact).refl (lowered s)

  module _ (t : RecordType) (n s : NameValue)
      (same : (k : RrKey) → is_owned s k ≡ true → fin.get z.sets k ≡ fin.get sets k) where
    alias_agrees : alias_at z t n s ≡ alias_at y t n s
    alias_agrees = ap (λ rs. cond (is_cname t || is_any t) None (alias_in rs))
        (records_agree n (key_of s types.CNAME) (same (key_of s types.CNAME) (owns_itself s types.CNAME)))

    asked_agrees : asked z t n s ≡ asked y t n s
    asked_agrees =
        let all = kept_agree (is_owned s) z.sets sets same in
        let one = records_agree n (key_of s t) (same (key_of s t) (owns_itself s t)) in
        λ i. cond (is_any t) (records_of_sets z.class n (all i)) (one i)

    data_agrees : at_source z t n (Some s) ≡ at_source y t n (Some s)
    data_agrees = λ i. alias_else (alias_agrees i) (asked_agrees i)

  pub found_at_source : (t : RecordType) (n : NameValue)
      → ((s : NameValue) (k : RrKey) → source z n ≡ Some s → is_owned s k ≡ true → fin.get z.sets k ≡ fin.get sets k)
      → (o : Option NameValue) → source z n ≡ o → at_source z t n o ≡ at_source y t n o
  found_at_source t n same None e = refl
  found_at_source t n same (Some s) e = data_agrees t n s (λ k own. same s k e own)

  pub lookup_agrees : (t : RecordType) (n : NameValue) → Agree z sets n → lookup z t n ≡ lookup y t n
  lookup_agrees t n a = go (is_within z.origin n) refl where
    go : (b : Bool) → is_within z.origin n ≡ b
        → cond b (cut_else (cut_over z t n) (at_source z t n (source z n))) Outside
        ≡ cond b (cut_else (cut_over y t n) (at_source y t n (source y n))) Outside
    go false w = refl
    go true w =
        let cuts = cuts_agree t n a.servers in
        let sources = source_agrees n w a.ends (λ none. a.asterisk) in
        let data_there = found_at_source t n a.at_source (source z n) refl ∙ ap (at_source y t n) sources in
        λ i. cut_else (cuts i) (data_there i)
