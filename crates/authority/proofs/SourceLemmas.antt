-- Where the data of a name stands: there, or at the asterisk below its closest encloser.
use Rattle.authority.proofs.SetLemmas.{exists_is}
use Rattle.authority.proofs.WayLemmas.{starts}
use Rattle.authority.specs.Lookup.{encloser, encloses, end_that_exists, exists, exists_among, if_exists, name_with}
use Rattle.authority.specs.Lookup.{source, wildcard_below}
use Rattle.base.proofs.names.BelowLemmas.{lies_in, lies_so}
use Rattle.base.specs.names.Labels.{NameValue}
use Rattle.base.specs.names.NameOrder.{folded, same_name}
use Rattle.base.specs.names.Parents.{asterisk, is_at_or_below, is_below, parent, wildcard_of, with_first}
use Rattle.base.specs.declared.dns_class.DNSClass.TheVariants as classes
use Rattle.base.specs.declared.dns_class.DNSClass.{DNSClass}
use Rattle.base.specs.declared.rr_key.RrKey.{RrKey}
use Rattle.op_use.specs.Applying.{zone_of_map}
use Rattle.op_use.specs.Zone.{Zone}
use Rattle.rr.specs.RecordSet.{SetValue}
use Rattle.std.proofs.Common.{ap, append_assoc, drop, refl, subst, sym, ◌++◌, ◌∙◌}
use Rattle.std.proofs.lemmas.Bool.{cond-false, cond-true, false_from_ne_true, false≢true, or_parts}
use Rattle.std.proofs.lemmas.List.Folds.{Any-from_list_any, list_any-from_Any}
use Rattle.std.proofs.lemmas.Option.{same_Some}
use Rattle.std.specs.BTreeMap as tree
use Rattle.std.specs.BTreeMap.{BTreeMap}
use Rattle.std.specs.Char.{to_ascii_lowercase}
use Rattle.std.specs.Prelude.{Bool, List, None, Some, [], cond, false, map, not, true, ℕ, ◌&&◌, ◌||◌, ◌∷◌, ◌≡◌}

-- what holds of a name, and of its asterisk where nothing stands at the name, holds of the source of its data
module _ (P : NameValue → Type 0) (n wildcard s : NameValue) where
  pub source_holds : (b c : Bool) → P n → (b ≡ false → P wildcard)
      → cond b (Some n) (cond c (Some wildcard) None) ≡ Some s → P s
  source_holds true c p q h = subst P (same_Some n s h) p
  source_holds false true p q h = subst P (same_Some wildcard s h) (q refl)
  source_holds false false p q h = cc

stops : (z : Zone) (absolute : Bool) (labels : List (List ℕ)) → encloses z (name_with absolute labels) ≡ true
    → end_that_exists z absolute labels ≡ name_with absolute labels
stops z absolute [] h = refl
stops z absolute (label ∷ labels) h = cond-true _ _ _ h

goes_on : (z : Zone) (absolute : Bool) (labels : List (List ℕ)) → encloses z (name_with absolute labels) ≡ false
    → end_that_exists z absolute labels ≡ end_that_exists z absolute (drop 1 labels)
goes_on z absolute [] h = refl
goes_on z absolute (label ∷ labels) h = cond-false _ _ _ h

-- the closest encloser of a name that encloses itself, and of one that doesn't
pub encloser_here : (z : Zone) (n : NameValue) → encloses z n ≡ true → encloser z n ≡ n
encloser_here z n h = stops z n.absolute n.labels h

pub encloser_above : (z : Zone) (n : NameValue) → encloses z n ≡ false → encloser z n ≡ encloser z (parent n)
encloser_above z n h = goes_on z n.absolute n.labels h

-- an asterisk in the place of the first label is the one below the parent
pub wildcard_is : (origin n : NameValue) → is_below origin n ≡ true → wildcard_of n ≡ wildcard_below (parent n)
wildcard_is origin n h =
    let s = starts origin n.absolute n.labels h in
    ap (λ (labels : List (List ℕ)). record n { labels = labels })
    (ap (with_first asterisk) s.is ∙ ap (λ (xs : List (List ℕ)). asterisk ∷ drop 1 xs) (sym s.is))

under_wildcard : (n b : NameValue) → is_at_or_below (wildcard_below n) b ≡ true → is_at_or_below n b ≡ true
under_wildcard n b h =
    let lies = lies_in (wildcard_below n) b h in
    lies_so n b (record {
      flag = lies.flag;
      front = lies.front ++ map to_ascii_lowercase asterisk ∷ [];
      labels = lies.labels ∙ sym (append_assoc lies.front (map to_ascii_lowercase asterisk ∷ []) (folded n));
    })

-- where nothing stands at a name or below it, nothing stands at its asterisk
none_under : (n : NameValue) (ks : List RrKey) → exists_among n ks ≡ false → exists_among (wildcard_below n) ks ≡ false
none_under n ks h = false_from_ne_true _ (λ t.
    let a = Any-from_list_any (λ (k : RrKey). is_at_or_below (wildcard_below n) k.name) ks t in
    false≢true (sym h ∙ list_any-from_Any (λ (k : RrKey). is_at_or_below n k.name) ks
    (a.0, a.1, a.2, a.3, under_wildcard n a.1.name a.4)))

module _ (origin : NameValue) (m : BTreeMap RrKey SetValue) where
  abbrev z_of : DNSClass → Zone
  z_of class = zone_of_map origin class m

  pub encloses_by : (class : DNSClass) (n : NameValue) (there same : Bool) → there ≡ exists_among n (tree.keys m)
      → same ≡ same_name n origin → encloses (z_of class) n ≡ (there || same)
  encloses_by class n there same t s = λ i. (exists_is origin class m n ∙ sym t) i || (sym s) i

  -- what is kept while ends of a name are tried: one at which nothing stands, so that the encloser lies above it
  abbrev pub IsOver : NameValue → NameValue → Type 0
  IsOver n closer = (is_below origin closer ≡ true) × ((class : DNSClass)
      → encloser (z_of class) (parent closer) ≡ encloser (z_of class) (parent n))

  -- the next end lies below the origin where it isn't the origin
  pub above_lies : (closer : NameValue) → is_below origin closer ≡ true → same_name (parent closer) origin ≡ false
      → is_below origin (parent closer) ≡ true
  above_lies closer h other =
      ap (λ b. b && not (same_name (parent closer) origin))
      ((starts origin closer.absolute closer.labels h).within) ∙ ap not other

  pub over_goes_on : (n closer : NameValue) → IsOver n closer → ((class : DNSClass)
      → encloses (z_of class) (parent closer) ≡ false) → IsOver n (parent closer)
  over_goes_on n closer over none = (
    above_lies closer over.0 ((or_parts (exists (z_of classes.IN) (parent closer)) (same_name
        (parent closer) origin) (none classes.IN)).1),
    λ class. sym (encloser_above (z_of class) (parent closer) (none class)) ∙ over.1 class,
  )

  pub over_ends : (n closer : NameValue) → IsOver n closer → ((class : DNSClass)
      → encloses (z_of class) (parent closer) ≡ true)
      → (class : DNSClass) → wildcard_of closer ≡ wildcard_below (encloser (z_of class) (parent n))
  over_ends n closer over here class =
      wildcard_is origin closer over.0
      ∙ ap wildcard_below (sym (encloser_here (z_of class) (parent closer) (here class)) ∙ over.1 class)

  -- the source of a name at which something stands, of the origin, and of others
  pub source_here : (class : DNSClass) (n : NameValue) → exists_among n (tree.keys m) ≡ true
      → source (z_of class) n ≡ Some n
  source_here class n h = cond-true _ _ _ (exists_is origin class m n ∙ h)

  source_else : (class : DNSClass) (n : NameValue) → exists_among n (tree.keys m) ≡ false
      → source (z_of class) n ≡ if_exists (z_of class) (wildcard_below (encloser (z_of class) n))
  source_else class n h = cond-false _ _ _ (exists_is origin class m n ∙ h)

  pub source_of_origin : (class : DNSClass) (n : NameValue) → exists_among n (tree.keys m) ≡ false
      → same_name n origin ≡ true → source (z_of class) n ≡ None
  source_of_origin class n none same =
      source_else class n none
      ∙ ap (λ (x : NameValue). if_exists (z_of class) (wildcard_below x)) (encloser_here (z_of class) n
      (encloses_by class n false true (sym none) (sym same)))
      ∙ cond-false _ _ _ (exists_is origin class m (wildcard_below n) ∙ none_under n (tree.keys m) none)

  pub source_of : (class : DNSClass) (n wildcard : NameValue) → exists_among n (tree.keys m) ≡ false
      → same_name n origin ≡ false
      → wildcard ≡ wildcard_below (encloser (z_of class) (parent n))
      → (there : Bool) → there ≡ exists_among wildcard (tree.keys m)
      → source (z_of class) n ≡ cond there (Some wildcard) None
  source_of class n wildcard none other w there t =
      source_else class n none
      ∙ ap (λ (x : NameValue). if_exists (z_of class) (wildcard_below x)) (encloser_above (z_of class) n
      (encloses_by class n false false (sym none) (sym other)))
      ∙ ap (if_exists (z_of class)) (sym w)
      ∙ ap (λ b. cond b (Some wildcard) None) (exists_is origin class m wildcard ∙ sym t)
