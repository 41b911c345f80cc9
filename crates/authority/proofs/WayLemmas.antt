-- What lies in a name, the ends of a name that lie below the origin, and the cuts there.
use Rattle.authority.specs.Found.{IsCutSet}
use Rattle.authority.specs.Lookup.{Cut, Finding, cut_else, cut_on, cut_over, has_servers, highest_cut, if_cut, is_ds}
use Rattle.authority.specs.Lookup.{name_with, wildcard_below}
use Rattle.base.proofs.names.BelowLemmas.{lies_in, lies_so}
use Rattle.base.specs.names.Labels.{NameValue}
use Rattle.base.specs.names.NameOrder.{folded, folded_labels, lowered, same_name}
use Rattle.base.specs.names.NameOrderLaws.{same_by-is}
use Rattle.base.specs.names.Parents.{asterisk, is_at_or_below, is_below, is_within, parent}
use Rattle.base.specs.RecordType.{same_type}
use Rattle.base.specs.RrKey.{key_cmp, key_of}
use Rattle.base.specs.declared.dns_class.DNSClass.{DNSClass}
use Rattle.base.specs.declared.record_type.RecordType.TheVariants as types
use Rattle.base.specs.declared.record_type.RecordType.{RecordType}
use Rattle.base.specs.declared.rr_key.RrKey.{RrKey}
use Rattle.op_use.proofs.MapZones.{set_at}
use Rattle.op_use.specs.Applying.{zone_of_map}
use Rattle.op_use.specs.Zone.{Zone}
use Rattle.rr.specs.RecordSet.{SetValue}
use Rattle.std.proofs.Common.{ap, append_assoc, arith, drop, length-append, refl, rules, subst, sym, ◌++◌, ◌+◌, ◌∙◌}
use Rattle.std.proofs.lemmas.Bool.{false_from_ne_true, false≢true}
use Rattle.std.specs.BTreeMap as tree
use Rattle.std.specs.BTreeMap.{BTreeMap}
use Rattle.std.specs.Char.{to_ascii_lowercase}
use Rattle.std.specs.Cmp.{first_so, second_so}
use Rattle.std.specs.Borrow.{Bor}
use Rattle.std.specs.Option.{option_copied, option_or}
use Rattle.std.specs.Prelude.{Bool, List, None, Option, Some, [], cond, false, is_some, length, map, not, suc, true, ℕ}
use Rattle.std.specs.Prelude.{◌&&◌, ◌<◌, ◌∷◌, ◌≡◌}

-- the last of lists that are none together
last_nil : (front labels : List (List ℕ)) → [] ≡ front ++ labels → labels ≡ []
last_nil [] labels e = sym e
last_nil (x ∷ front) labels e = cc

-- what lies in a name that lies in another lies in that
pub within_too : (a n b : NameValue) → is_within a n ≡ true → is_at_or_below n b ≡ true → is_at_or_below a b ≡ true
within_too a n b w h =
    let outer = lies_in a (lowered n) w in
    let inner = lies_in n b h in
    lies_so a b (record {
      flag = outer.flag ∙ inner.flag;
      front = inner.front ++ outer.front;
      labels = inner.labels ∙ ap (λ (xs : List (List ℕ)). inner.front ++ xs) outer.labels
          ∙ sym (append_assoc inner.front outer.front (folded a));
    })

pub within_itself : (a : NameValue) → is_within a a ≡ true
within_itself a = lies_so a (lowered a) (record { flag = refl; front = []; labels = refl })

pub wildcard_within : (a n : NameValue) → is_within a n ≡ true → is_within a (wildcard_below n) ≡ true
wildcard_within a n w =
    let lies = lies_in a (lowered n) w in
    lies_so a (lowered (wildcard_below n)) (record {
      flag = lies.flag;
      front = map to_ascii_lowercase asterisk ∷ lies.front;
      labels = ap (λ (xs : List (List ℕ)). map to_ascii_lowercase asterisk ∷ xs) lies.labels;
    })

-- a name that lies in another and isn't the same
module _ (a : NameValue) (absolute : Bool) where
  same_labels : (labels : List (List ℕ)) → is_below a (name_with absolute labels) ≡ true → a.absolute ≡ absolute
      → folded_labels labels ≡ folded a → ⊥
  same_labels labels h flag e =
      false≢true (sym (ap not ((same_by-is folded (name_with absolute labels) a).1 (sym flag, e)))
      ∙ second_so (is_within a (name_with absolute labels)) _ h)

  -- what it is to have a first label, and to lie in a without it
  pub record Starts (labels : List (List ℕ)) : Type 0 where
    pub first : List ℕ
    pub others : List (List ℕ)
    pub is : labels ≡ first ∷ others
    pub within : is_within a (name_with absolute (drop 1 labels)) ≡ true

  starts_by : (label : List ℕ) (labels front : List (List ℕ))
      → is_below a (name_with absolute (label ∷ labels)) ≡ true → a.absolute ≡ absolute
      → folded_labels (label ∷ labels) ≡ front ++ folded a → Starts (label ∷ labels)
  starts_by label labels [] h flag e = absurd (same_labels (label ∷ labels) h flag e)
  starts_by label labels (x ∷ front) h flag e = record {
    first = label;
    others = labels;
    is = refl;
    within = lies_so a (lowered (name_with absolute labels)) (record {
      flag = flag;
      front = front;
      labels = ap (λ
          (xs : List (List ℕ)). drop 1 xs) e;
    });
  }

  -- a name that lies below another has a first label, and without it lies in the other
  pub starts : (labels : List (List ℕ)) → is_below a (name_with absolute labels) ≡ true → Starts labels
  starts [] h =
      let lies = lies_in a (lowered (name_with absolute [])) (first_so _ _ h) in
      absurd (same_labels [] h lies.flag (sym (last_nil lies.front (folded a) lies.labels)))
  starts (label ∷ labels) h =
      let lies = lies_in a (lowered (name_with absolute (label ∷ labels))) (first_so _ _ h) in
      starts_by label labels lies.front h lies.flag lies.labels

  longer : (label : List ℕ) (labels front : List (List ℕ)) → folded_labels labels ≡ front ++ folded a
      → folded_labels (label ∷ labels) ≡ folded a → ⊥
  longer label labels front e f =
      let one : suc (length (folded_labels labels)) ≡ length (folded a) = ap length f in
      let two : length (folded_labels labels) ≡ length front + length (folded a) = ap length e
      ∙ length-append front (folded a) in
      omega arith

  -- one label more lies below it too
  pub below_more : (label : List ℕ) (labels : List (List ℕ)) → is_below a (name_with absolute labels) ≡ true
      → is_below a (name_with absolute (label ∷ labels)) ≡ true
  below_more label labels h =
      let lies = lies_in a (lowered (name_with absolute labels)) (first_so _ _ h) in
      let more : is_within a (name_with absolute (label ∷ labels)) ≡ true
      = lies_so a (lowered (name_with absolute (label ∷ labels))) (record {
        flag = lies.flag;
        front = map to_ascii_lowercase label ∷ lies.front;
        labels = ap (λ (xs : List (List ℕ)). map to_ascii_lowercase label ∷ xs) lies.labels;
      }) in
      ap (λ b. b && not (same_name (name_with absolute (label ∷ labels)) a)) more
      ∙ ap not (false_from_ne_true _ (λ t. longer label labels lies.front lies.labels
      ((same_by-is folded (name_with absolute
      (label ∷ labels)) a).0 t).1))

-- the cuts above a name or at it: none where it doesn't lie below the origin, and else those above it, or its own
module _ (z : Zone) where
  none_on : (absolute : Bool) (labels : List (List ℕ)) → is_below z.origin (name_with absolute labels) ≡ false
      → cut_on z absolute labels ≡ None
  none_on absolute [] h = refl
  none_on absolute (x ∷ labels) h =
      let n : NameValue = name_with absolute (x ∷ labels) in
      ap (λ o. option_or o (if_cut z n)) (none_on absolute labels (false_from_ne_true _ (λ t. false≢true (sym h
      ∙ below_more z.origin absolute x labels t))))
      ∙ ap (λ b. cond (b && has_servers z n) (Some n) None) h

  pub no_cut_at : (n : NameValue) → is_below z.origin n ≡ false → highest_cut z n ≡ None
  no_cut_at n h = none_on n.absolute n.labels h

  pub above_or_own : (absolute : Bool) (labels : List (List ℕ)) → is_below z.origin (name_with absolute labels) ≡ true
      → cut_on z absolute labels ≡ option_or (cut_on z absolute (drop 1 labels))
      (cond (has_servers z (name_with absolute labels)) (Some (name_with absolute labels)) None)
  above_or_own absolute [] h = let s : Starts z.origin absolute [] = starts z.origin absolute [] h in cc
  above_or_own absolute (x ∷ labels) h =
      let n : NameValue = name_with absolute (x ∷ labels) in
      ap (λ b. option_or (cut_on z absolute labels) (cond (b && has_servers z n) (Some n) None)) h

pub or_none : {X : Type 0} (o : Option X) → option_or o None ≡ o
or_none None = refl
or_none (Some x) = refl

or_or : (a b c : Option NameValue) → option_or (option_or a b) c ≡ option_or a (option_or b c)
or_or None b c = refl
or_or (Some x) b c = refl

cuts_or : (m : BTreeMap RrKey SetValue) (c d : Option NameValue) (o g : Option SetValue) → IsCutSet m c o
    → IsCutSet m d g → IsCutSet m (option_or c d) (option_or o g)
cuts_or m None d o g e f = subst (λ x. IsCutSet m d (option_or x g)) (sym e) f
cuts_or m (Some x) d o g e f = (e.0, ap (λ y. option_or y g) e.1, e.2)

-- The highest cut on the way is the highest on the rest of it, or what was found so far.
module _ (origin : NameValue) (m : BTreeMap RrKey SetValue) where
  abbrev pub IsOnWay : NameValue → NameValue → Option SetValue → Type 0
  IsOnWay n end o = (class : DNSClass) → (c : Option NameValue) × IsCutSet m c o
      × (highest_cut (zone_of_map origin class m) n ≡ option_or (highest_cut (zone_of_map origin class m) end) c)

  module _ (class : DNSClass) where
    abbrev z : Zone
    z = zone_of_map origin class m

    own_set : (end : NameValue) (o : Option SetValue) → tree.get key_cmp m (key_of end types.NS) ≡ o
        → IsCutSet m (cond (has_servers z end) (Some end) None) o
    own_set end None g = subst (λ b. IsCutSet m (cond b (Some end) None) None)
        (sym (set_at origin class m (key_of end types.NS) ∙ ap is_some g)) refl
    own_set end (Some s) g =
        subst (λ b. IsCutSet m (cond b (Some end) None) (Some s))
        (sym (set_at origin class m (key_of end types.NS) ∙ ap is_some g)) (s, refl, g)

    next : (n end : NameValue) (o : Option SetValue) → is_below origin end ≡ true → (c : Option NameValue)
        → IsCutSet m c o → highest_cut z n ≡ option_or (highest_cut z end) c
        → (g : Option SetValue) → tree.get key_cmp m (key_of end types.NS) ≡ g → (d : Option NameValue)
        × IsCutSet m d (option_or g o) × (highest_cut z n ≡ option_or (highest_cut z (parent end)) d)
    next n end o h c held e g there =
        let own = cond (has_servers z end) (Some end) None in (
          option_or own c,
          cuts_or m own c g o (own_set end g there) held,
          e ∙ ap (λ x. option_or x c) (above_or_own z end.absolute end.labels h)
              ∙ or_or (highest_cut z (parent end)) own c,
        )

    -- the highest cut above a name, or else its own
    pub own_after : (n : NameValue) (o g : Option SetValue) → is_below origin n ≡ true
        → IsCutSet m (highest_cut z (parent n)) o → tree.get key_cmp m (key_of n types.NS) ≡ g
        → IsCutSet m (highest_cut z n) (option_or o g)
    own_after n o g h above there =
        subst (λ c. IsCutSet m c (option_or o g)) (sym (above_or_own z n.absolute n.labels h))
        (cuts_or m (highest_cut z (parent n)) (cond (has_servers z n) (Some n) None) o g above (own_set n g there))

  pub way_goes_on : (n end : NameValue) (o g : Option SetValue) → is_below origin end ≡ true
      → tree.get key_cmp m (key_of end types.NS) ≡ g → IsOnWay n end o
      → IsOnWay n (parent end) (option_or g o)
  way_goes_on n end o g h there on class =
      let so_far = on class in
      next class n end o h so_far.0 so_far.1 so_far.2 g there

  pub way_ends : (n end : NameValue) (o : Option SetValue) → is_below origin end ≡ false → IsOnWay n end o
      → (class : DNSClass) → IsCutSet m (highest_cut (zone_of_map origin class m) n) o
  way_ends n end o h on class =
      let so_far = on class in
      subst (λ c. IsCutSet m c o)
      (sym (so_far.2 ∙ ap (λ c. option_or c so_far.0) (no_cut_at (zone_of_map origin class m) end h))) so_far.1

pub copied_or : {X : Type 0} (a b : Option (Bor X))
    → option_copied (option_or a b) ≡ option_or (option_copied a) (option_copied b)
copied_or None b = refl
copied_or (Some x) b = refl

suc_less : (labels others : List (List ℕ)) (first : List ℕ) → labels ≡ first ∷ others
    → length (drop 1 labels) < length labels
suc_less labels others first e = subst (λ (xs : List (List ℕ)). length (drop 1 xs) < length xs) (sym e) (omega arith)

-- each end is shorter than the one before
pub shorter : (a n : NameValue) → is_below a n ≡ true → length (parent n).labels < length n.labels
shorter a n h =
    let s = starts a n.absolute n.labels h in
    suc_less n.labels s.others s.first s.is

pub ds_is : (t : RecordType) → is_ds t ≡ same_type t types.DS
ds_is = search rules

-- the name that is asked for cuts
pub cut_beside : (z : Zone) (t : RecordType) (n side : NameValue) (b : Bool) → is_ds t ≡ b
    → side ≡ cond b (parent n) n → cut_over z t n ≡ highest_cut z side
cut_beside z t n side b d e = ap (highest_cut z) (ap (λ c. cond c (parent n) n) d ∙ sym e)

-- what it is that a cut was found, or none
pub cut_found : (m : BTreeMap RrKey SetValue) (c : Option NameValue) (s : SetValue) (f : Finding)
    → IsCutSet m c (Some s)
    → (x : NameValue) × (cut_else c f ≡ Cut x) × (tree.get key_cmp m (key_of x types.NS) ≡ Some s)
cut_found m None s f h = cc
cut_found m (Some x) s f h = (x, refl, h.2 ∙ sym h.1)

pub no_cut : (m : BTreeMap RrKey SetValue) (c : Option NameValue) (f : Finding) → IsCutSet m c None → cut_else c f ≡ f
no_cut m None f h = refl
no_cut m (Some x) f h = cc
