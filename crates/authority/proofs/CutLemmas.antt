-- The highest cut above a name or at it; what nothing and a cut tell of the name that they are found for.
use Rattle.authority.proofs.WayLemmas.{Starts, starts}
use Rattle.authority.specs.Agreement.{is_hidden}
use Rattle.authority.specs.Answer.{end_like}
use Rattle.authority.specs.Lookup.{Alias, Cut, Data, Finding, NoName, Outside, alias_at, alias_else, asked, at_source}
use Rattle.authority.specs.Lookup.{cut_else, cut_on, cut_over, encloser, exists, has_servers, highest_cut, if_cut}
use Rattle.authority.specs.Lookup.{if_exists, is_ds, lookup, name_with, side_asked, source, wildcard_below}
use Rattle.authority.specs.ZoneRef.{AreUnderKeys}
use Rattle.base.specs.names.Labels.{NameValue}
use Rattle.base.specs.names.NameOrder.{folded_labels}
use Rattle.base.specs.names.Parents.{is_below, is_within, parent}
use Rattle.base.specs.RrKey.{key_cmp, key_of}
use Rattle.base.specs.declared.record_type.RecordType.TheVariants as types
use Rattle.base.specs.declared.record_type.RecordType.{RecordType}
use Rattle.base.specs.declared.rr_key.RrKey.{RrKey}
use Rattle.base_data.specs.declared.rdata.RData.{RData}
use Rattle.op_use.specs.Zone.{Zone}
use Rattle.rr.specs.RecordSet.{SetValue}
use Rattle.rr.specs.declared.record.Record.{Record}
use Rattle.std.proofs.Common.{ap, append_assoc, arith, drop, length, refl, subst, sym, take, ◌++◌, ◌-◌, ◌<◌, ◌∙◌}
use Rattle.std.proofs.Math.Seq.{drop-append_seam}
use Rattle.std.proofs.lemmas.Bool.{cond-true, cond_both}
use Rattle.std.proofs.lemmas.List.{length-append, length-map, take-append-drop}
use Rattle.std.proofs.lemmas.Option.{same_Some}
use Rattle.std.specs.BTreeMap as tree
use Rattle.std.specs.BTreeMap.{BTreeMap}
use Rattle.std.specs.Char.{to_ascii_lowercase}
use Rattle.std.specs.Option.{option_or}
use Rattle.std.specs.Prelude.{Bool, List, None, Option, Some, [], cond, false, is_some, map, suc, true, ℕ, ◌&&◌, ◌∷◌}
use Rattle.std.specs.Prelude.{◌≡◌}

pub not_some : (m : NameValue) → None ≡ Some m → ⊥
not_some m e = cc

none_of : (a b : Option NameValue) → option_or a b ≡ None → (a ≡ None) × (b ≡ None)
none_of None b h = (refl, h)
none_of (Some m) b h = cc

-- a name is an end of these labels
pub record IsEnd (absolute : Bool) (labels : List (List ℕ)) (m : NameValue) : Type 0 where
  pub front : List (List ℕ)
  pub labels_are : labels ≡ front ++ m.labels
  pub flag : m.absolute ≡ absolute

module _ (z : Zone) where
  -- an end of a name without cuts has none
  pub none_dropped : (absolute : Bool) (labels : List (List ℕ)) → cut_on z absolute labels ≡ None
      → cut_on z absolute (drop 1 labels) ≡ None
  none_dropped absolute [] h = h
  none_dropped absolute (x ∷ labels) h = (none_of (cut_on z absolute labels) _ h).0

  pub none_at_end : (absolute : Bool) (front labels : List (List ℕ)) → cut_on z absolute (front ++ labels) ≡ None
      → cut_on z absolute labels ≡ None
  none_at_end absolute [] labels h = h
  none_at_end absolute (x ∷ front) labels h =
      none_at_end absolute front labels ((none_of (cut_on z absolute (front ++ labels)) _ h).0)

  -- where no cut is above a name, the highest is the name
  is_own : (n m : NameValue) (b c : Bool) → is_below z.origin n ≡ b → has_servers z n ≡ c
      → cond (b && c) (Some n) None ≡ Some m → (m ≡ n) × (is_below z.origin n ≡ true) × (has_servers z n ≡ true)
  is_own n m true true below servers h = (sym (same_Some n m h), below, servers)
  is_own n m true false below servers h = cc
  is_own n m false c below servers h = cc

  pub last_cut : (absolute : Bool) (labels : List (List ℕ)) (m : NameValue) → cut_on z absolute labels ≡ Some m
      → cut_on z absolute (drop 1 labels) ≡ None
      → (m ≡ name_with absolute labels) × (is_below z.origin (name_with absolute labels) ≡ true)
      × (has_servers z (name_with absolute labels) ≡ true)
  last_cut absolute [] m h none = absurd (not_some m h)
  last_cut absolute (x ∷ labels) m h none =
      let n : NameValue = name_with absolute (x ∷ labels) in
      is_own n m (is_below z.origin n) (has_servers z n) refl refl (sym (ap (λ o. option_or o (if_cut z n)) none) ∙ h)

  -- it is an end of the name that lies below the origin and has servers, and no cut is above it
  pub record IsHighest (absolute : Bool) (labels : List (List ℕ)) (m : NameValue) : Type 0 where
    pub end : IsEnd absolute labels m
    pub below : is_below z.origin m ≡ true
    pub servers : has_servers z m ≡ true
    pub first : highest_cut z (parent m) ≡ None

  pub highest : (absolute : Bool) (labels : List (List ℕ)) (m : NameValue) → cut_on z absolute labels ≡ Some m
      → IsHighest absolute labels m
  highest absolute [] m h = absurd (not_some m h)
  highest absolute (x ∷ labels) m h = go (cut_on z absolute labels) refl (λ k e. highest absolute labels k e) where
    go : (o : Option NameValue) → cut_on z absolute labels ≡ o
        → ((k : NameValue) → cut_on z absolute labels ≡ Some k → IsHighest absolute labels k)
        → IsHighest absolute (x ∷ labels) m
    go None e more =
        let own = last_cut absolute (x ∷ labels) m h e in
        subst (λ (k : NameValue). IsHighest absolute (x ∷ labels) k) (sym own.0) (record {
          end = record { front = []; labels_are = refl; flag = refl };
          below = own.1;
          servers = own.2;
          first = e;
        })
    go (Some k) e more =
        let f = more m (e ∙ sym (ap (λ o. option_or o (if_cut z (name_with absolute (x ∷ labels)))) e) ∙ h) in
        record {
          end = record {
            front = x ∷ f.end.front;
            labels_are = ap (λ (xs : List (List ℕ)). x ∷ xs) f.end.labels_are;
            flag = f.end.flag;
          };
          below = f.below;
          servers = f.servers;
          first = f.first;
        }

  -- where an end has servers, there is a cut
  own_end : (absolute : Bool) (labels : List (List ℕ)) → is_below z.origin (name_with absolute labels) ≡ true
      → has_servers z (name_with absolute labels) ≡ true → cut_on z absolute labels ≡ None → ⊥
  own_end absolute [] below servers h = let s : Starts z.origin absolute [] = starts z.origin absolute [] below in cc
  own_end absolute (x ∷ labels) below servers h =
      let n : NameValue = name_with absolute (x ∷ labels) in
      not_some n (sym ((none_of (cut_on z absolute labels) (if_cut z n) h).1)
      ∙ (λ i. cond (below i && servers i) (Some n) None))

  pub on_the_way : (absolute : Bool) (front labels : List (List ℕ))
      → is_below z.origin (name_with absolute labels) ≡ true → has_servers z (name_with absolute labels) ≡ true
      → (m : NameValue) × (cut_on z absolute (front ++ labels) ≡ Some m)
  on_the_way absolute front labels below servers = go (cut_on z absolute (front ++ labels)) refl where
    go : (o : Option NameValue) → cut_on z absolute (front ++ labels) ≡ o
        → (m : NameValue) × (cut_on z absolute (front ++ labels) ≡ Some m)
    go (Some m) e = (m, e)
    go None e = absurd (own_end absolute labels below servers (none_at_end absolute front labels e))

-- ---- what was found

-- what holds of a finding, by what it is found of
module _ (z : Zone) (t : RecordType) (n : NameValue) (P : Finding → Type 0) (outside : P Outside)
    (cut : (m : NameValue) → is_within z.origin n ≡ true → cut_over z t n ≡ Some m → P (Cut m))
    (none : cut_over z t n ≡ None → source z n ≡ None → P NoName)
    (alias : (s : NameValue) → source z n ≡ Some s → (r : Record RData) (target : NameValue)
    → alias_at z t n s ≡ Some (r, target) → P (Alias r target))
    (others : (s : NameValue) → source z n ≡ Some s → P (Data (asked z t n s))) where
  of_else : (s : NameValue) → source z n ≡ Some s → (a : Option (Record RData × NameValue)) → alias_at z t n s ≡ a
      → P (alias_else a (asked z t n s))
  of_else s e (Some (r, target)) h = alias s e r target h
  of_else s e None h = others s e

  of_source : (o : Option NameValue) → source z n ≡ o → cut_over z t n ≡ None → P (at_source z t n o)
  of_source None e no_cut = none no_cut e
  of_source (Some s) e no_cut = of_else s e (alias_at z t n s) refl

  of_cut : (c : Option NameValue) → cut_over z t n ≡ c → is_within z.origin n ≡ true
      → P (cut_else c (at_source z t n (source z n)))
  of_cut None e within = of_source (source z n) refl e
  of_cut (Some m) e within = cut m within e

  pub found_by : P (lookup z t n)
  found_by = cond_both (is_within z.origin n) (cut_else (cut_over z t n) (at_source z t n (source z n))) Outside P
      (of_cut (cut_over z t n) refl) (λ e. outside)

-- what nothing and a cut tell of the name that they are found for
module _ (z : Zone) (t : RecordType) (n : NameValue) where
  abbrev Tells : Finding → Type 0
  Tells NoName = (cut_over z t n ≡ None) × (source z n ≡ None)
  Tells (Cut m) = (is_within z.origin n ≡ true) × (cut_over z t n ≡ Some m)
  Tells _ = Unit {0}

  tells : (f : Finding) → lookup z t n ≡ f → Tells f
  tells f h = subst Tells h (found_by z t n Tells tt (λ m within e. (within, e)) (λ no_cut e. (no_cut, e))
      (λ s e r target at. tt) (λ s e. tt))

pub no_cut_above : (z : Zone) (t : RecordType) (n : NameValue) → lookup z t n ≡ NoName → cut_over z t n ≡ None
no_cut_above z t n h = (tells z t n NoName h).0

either_none : (b : Bool) (n : NameValue) (o : Option NameValue) → cond b (Some n) o ≡ None → (b ≡ false) × (o ≡ None)
either_none true n o h = cc
either_none false n o h = (refl, h)

pub not_there : (z : Zone) (t : RecordType) (n : NameValue) → lookup z t n ≡ NoName → exists z n ≡ false
not_there z t n h = (either_none (exists z n) n (if_exists z (wildcard_below (encloser z n)))
    (tells z t n NoName h).1).0

pub no_wildcard : (z : Zone) (t : RecordType) (n : NameValue) → lookup z t n ≡ NoName
    → exists z (wildcard_below (encloser z n)) ≡ false
no_wildcard z t n h =
    let w : NameValue = wildcard_below (encloser z n) in
    (either_none (exists z w) w None (either_none (exists z n) n (if_exists z w) (tells z t n NoName h).1).1).0

-- a referral
pub cut_within : (z : Zone) (t : RecordType) (n m : NameValue) → lookup z t n ≡ Cut m → is_within z.origin n ≡ true
cut_within z t n m h = (tells z t n (Cut m) h).0

pub cut_is : (z : Zone) (t : RecordType) (n m : NameValue) → lookup z t n ≡ Cut m → cut_over z t n ≡ Some m
cut_is z t n m h = (tells z t n (Cut m) h).1

pub is_highest : (z : Zone) (t : RecordType) (n m : NameValue) → lookup z t n ≡ Cut m
    → IsHighest z (side_asked t n).absolute (side_asked t n).labels m
is_highest z t n m h =
    let side : NameValue = side_asked t n in
    highest z side.absolute side.labels m (cut_is z t n m h)

pub cut_below : (z : Zone) (t : RecordType) (n m : NameValue) → lookup z t n ≡ Cut m → is_below z.origin m ≡ true
cut_below z t n m h = (is_highest z t n m h).below

pub cut_servers : (z : Zone) (t : RecordType) (n m : NameValue) → lookup z t n ≡ Cut m → has_servers z m ≡ true
cut_servers z t n m h = (is_highest z t n m h).servers

pub cut_stands : (z : Zone) (t : RecordType) (n m : NameValue) → lookup z t n ≡ Cut m → is_hidden z m ≡ false
cut_stands z t n m h = ap (λ o. is_some o) ((is_highest z t n m h).first)

pub referred : (z : Zone) (t : RecordType) (absolute : Bool) (front labels : List (List ℕ)) → is_ds t ≡ false
    → is_within z.origin (name_with absolute (front ++ labels)) ≡ true
    → is_below z.origin (name_with absolute labels) ≡ true → has_servers z (name_with absolute labels) ≡ true
    → (m : NameValue) × (lookup z t (name_with absolute (front ++ labels)) ≡ Cut m)
referred z t absolute front labels d w b s =
    let n : NameValue = name_with absolute (front ++ labels) in
    let found = on_the_way z absolute front labels b s in
    let cut : cut_over z t n ≡ Some found.0 = ap (λ c. highest_cut z (cond c (parent n) n)) d ∙ found.1 in
    (found.0, cond-true _ _ _ w ∙ ap (λ c. cut_else c (at_source z t n (source z n))) cut)

-- ---- a cut is an end of the name that is asked for, of as many labels as the owner of its servers has

end_of_side : (n m : NameValue) (b : Bool) → IsEnd (cond b (parent n) n).absolute (cond b (parent n) n).labels m
    → IsEnd n.absolute n.labels m
end_of_side n m false e = e
end_of_side n m true e = record {
  front = take 1 n.labels ++ e.front;
  labels_are = sym (take-append-drop 1 n.labels) ∙ ap (λ (xs : List (List ℕ)). take 1 n.labels ++ xs) e.labels_are
      ∙ sym (append_assoc (take 1 n.labels) e.front m.labels);
  flag = e.flag;
}

-- labels are as many in lower case
folded_length : (a b : List (List ℕ)) → folded_labels a ≡ folded_labels b → length a ≡ length b
folded_length a b e =
    sym (length-map a (map to_ascii_lowercase)) ∙ ap length e ∙ length-map b (map to_ascii_lowercase)

seam : (front labels : List (List ℕ)) (k : ℕ) → k ≡ length labels
    → drop (length (front ++ labels) - k) (front ++ labels) ≡ labels
seam front labels k e =
    let n : length (front ++ labels) - k ≡ length front = omega (arith, length-append front labels) in
    ap (λ i. drop i (front ++ labels)) n ∙ drop-append_seam front labels

end_is : (n m a : NameValue) → IsEnd n.absolute n.labels m → length a.labels ≡ length m.labels → end_like a n ≡ m
end_is n m a e k =
    let labels : (end_like a n).labels ≡ m.labels
    = ap (λ (xs : List (List ℕ)). drop (length xs - length a.labels) xs) e.labels_are
    ∙ seam e.front m.labels (length a.labels) k in
    λ i. record { labels = labels i; absolute = sym e.flag i }

-- the cut is the end of the name that has as many labels as the owner of its servers
pub cut_is_end : (z : Zone) (t : RecordType) (n m : NameValue) (sets : BTreeMap RrKey SetValue) (s : SetValue)
    → AreUnderKeys sets → lookup z t n ≡ Cut m → tree.get key_cmp sets (key_of m types.NS) ≡ Some s
    → end_like s.name n ≡ m
cut_is_end z t n m sets s own h there =
    end_is n m s.name (end_of_side n m (is_ds t) ((is_highest z t n m h).end))
    (folded_length s.name.labels m.labels (ap (λ (k : RrKey). k.name.labels) (own (key_of m types.NS) s there)))

-- one label less, where there are more than another has
pub end_goes_on : (a n : NameValue) → length a.labels < length n.labels → end_like a (parent n) ≡ end_like a n
end_goes_on a n h = ap (λ (labels : List (List ℕ)). record n { labels = labels }) (by n.labels h) where
  by : (labels : List (List ℕ)) → length a.labels < length labels
      → drop (length (drop 1 labels) - length a.labels) (drop 1 labels)
      ≡ drop (length labels - length a.labels) labels
  by [] h = absurd (omega arith)
  by (label ∷ labels) h =
      let more : suc (length labels) - length a.labels ≡ suc (length labels - length a.labels) = omega arith in
      sym (ap (λ i. drop i (label ∷ labels)) more)
