-- Reading the text of names: what was gathered, and what no name can be.
use Rattle.std.proofs.Common.{◌≡◌, ◌≢◌, ℕ, zero, suc, ◌+◌, ◌<◌, ◌≤◌, ◌⊎◌, inl, inr, List, [], ◌∷◌, ◌++◌, length, map}
use Rattle.std.proofs.Common.{take, drop, set, refl, ap, sym, ◌∙◌, subst, arith, append_assoc, length-append}
use Rattle.std.proofs.Common.{length-drop, length-set, length-take-le, Bool, true, false, Some, None}
use Rattle.std.specs.Prelude.{if◌then◌else◌}
use Rattle.std.proofs.lemmas.List.{append-nil, map-append, drop-set-add, nil_from_length, set_split, take-set-le}
use Rattle.std.proofs.lemmas.List.{take_more_set}
use Rattle.std.proofs.Math.Seq.{take-append-add}
use Rattle.base.specs.names.Labels.{AreLabels, IsWire, labels_of, size_of}
use Rattle.base.specs.texts.NameText.{Character, dot, byte, AreCharsOf, none, more, IsLabelsText, dotted, first_char}
use Rattle.base.specs.texts.NameOf.{onto_first, pieces}
use Rattle.base.proofs.texts.CharLemmas.{first_of_piece, reads_more, same_first}
use Rattle.base.proofs.names.LabelLemmas.{AreLabels-append, IsWire-nil, IsWire-push, labels_of-nil, labels_of-push}
use Rattle.base.proofs.names.LabelLemmas.{size_of-labels_of}

nothing_first : {r : Character × List ℕ} → first_char [] ≡ Some r → ⊥
unfolding first_char
nothing_first h = cc

-- a text has one list of characters
pub reads_once : {text : List ℕ} {cs ds : List Character} → AreCharsOf text cs → AreCharsOf text ds → cs ≡ ds
reads_once none none = refl
reads_once none (more spells is rest) = absurd (nothing_first (first_of_piece spells is))
reads_once (more spells is rest) none = absurd (nothing_first (first_of_piece spells is))
reads_once (more {rest = r} {c = c} spells is rest) (more {rest = r'} {c = d} {cs = ds} spells' is' rest') =
    let same = same_first (sym (first_of_piece spells is) ∙ first_of_piece spells' is') in
    cc (same.0, reads_once rest (subst (λ (t : List ℕ). AreCharsOf t ds) (sym same.1) rest'))

-- labels with a dot after each
abbrev pub ended : List (List ℕ) → List Character
ended [] = []
ended (x ∷ xs) = map byte x ++ (dot ∷ ended xs)

ended-append : (xs ys : List (List ℕ)) → ended (xs ++ ys) ≡ ended xs ++ ended ys
ended-append [] ys = refl
ended-append (x ∷ xs) ys = simp (ended-append xs ys, append_assoc)

pub dotted-last : (xs : List (List ℕ)) (x : List ℕ) → dotted (xs ++ x ∷ []) ≡ ended xs ++ map byte x
dotted-last [] x = refl
dotted-last (y ∷ []) x = simp append_assoc
dotted-last (y ∷ z ∷ zs) x = simp (dotted-last (z ∷ zs) x, append_assoc)

pub dotted-dot : (xs : List (List ℕ)) → xs ≢ [] → dotted xs ++ dot ∷ [] ≡ ended xs
dotted-dot [] some = absurd (some refl)
dotted-dot (x ∷ []) some = refl
dotted-dot (x ∷ y ∷ ys) some = simp (append_assoc, dotted-dot (y ∷ ys) (λ e. absurd cc))

pieces-label : (x : List ℕ) (cs : List Character) → pieces (map byte x ++ (dot ∷ cs)) ≡ x ∷ pieces cs
pieces-label [] cs = refl
pieces-label (b ∷ x) cs = ap (onto_first b) (pieces-label x cs)

pieces-map : (x : List ℕ) → pieces (map byte x) ≡ x ∷ []
pieces-map [] = refl
pieces-map (b ∷ x) = ap (onto_first b) (pieces-map x)

pieces-ended : (xs : List (List ℕ)) (cs : List Character) → pieces (ended xs ++ cs) ≡ xs ++ pieces cs
pieces-ended [] cs = refl
pieces-ended (x ∷ xs) cs =
    ap pieces (append_assoc (map byte x) (dot ∷ ended xs) cs) ∙ pieces-label x (ended xs ++ cs)
    ∙ ap (λ (ys : List (List ℕ)). x ∷ ys) (pieces-ended xs cs)

-- some bytes before others
pieces-front : (x : List ℕ) (cs : List Character) (h : List ℕ) (t : List (List ℕ)) → pieces cs ≡ h ∷ t
    → pieces (map byte x ++ cs) ≡ (x ++ h) ∷ t
pieces-front [] cs h t is = is
pieces-front (b ∷ x) cs h t is = ap (onto_first b) (pieces-front x cs h t is)

-- there is always one
pub first_of : (cs : List Character) → (head : List ℕ) × (tail : List (List ℕ)) × (pieces cs ≡ head ∷ tail)
first_of [] = ([], [], refl)
first_of (dot ∷ cs) = ([], pieces cs, refl)
first_of (byte b ∷ cs) = let r = first_of cs in (b ∷ r.0, r.1, ap (onto_first b) r.2)

pieces-dotted : (xs : List (List ℕ)) → xs ≢ [] → pieces (dotted xs) ≡ xs
pieces-dotted [] some = absurd (some refl)
pieces-dotted (x ∷ []) some = pieces-map x
pieces-dotted (x ∷ y ∷ ys) some = pieces-label x (dotted (y ∷ ys))
    ∙ ap (λ (zs : List (List ℕ)). x ∷ zs) (pieces-dotted (y ∷ ys) (λ e. absurd cc))

-- the piece after the last dot
abbrev pub last_piece : Bool → List (List ℕ)
last_piece absolute = if absolute then [] ∷ [] else []

pieces-text : (labels : List (List ℕ)) (absolute : Bool) → labels ≢ []
    → pieces (dotted labels ++ (if absolute then dot ∷ [] else [])) ≡ labels ++ last_piece absolute
pieces-text labels true some = ap pieces (dotted-dot labels some ∙ sym (append-nil (ended labels)))
    ∙ pieces-ended labels []
pieces-text labels false some = ap pieces (append-nil (dotted labels)) ∙ pieces-dotted labels some
    ∙ sym (append-nil labels)

-- the bytes of those that are not empty, each with its length before it
abbrev weight : List (List ℕ) → ℕ
weight [] = 0
weight ([] ∷ xs) = weight xs
weight ((c ∷ cs) ∷ xs) = 1 + length (c ∷ cs) + weight xs

-- none is too long, and all but the last are not empty
abbrev AreInner : List (List ℕ) → Type 0
AreInner [] = Unit {0}
AreInner (x ∷ []) = length x ≤ 63
AreInner (x ∷ y ∷ ys) = (1 ≤ length x) × (length x ≤ 63) × AreInner (y ∷ ys)

-- the pieces of a name's text
record Fits (xs : List (List ℕ)) : Type 0 where
  light : weight xs ≤ 254
  inner : AreInner xs

weight-some : (x : List ℕ) (xs : List (List ℕ)) → 1 ≤ length x → weight (x ∷ xs) ≡ 1 + length x + weight xs
weight-some [] xs some = absurd (omega arith)
weight-some (c ∷ cs) xs some = refl

weight-labels : (xs ys : List (List ℕ)) → AreLabels xs → weight (xs ++ ys) ≡ size_of xs + weight ys
weight-labels [] ys are = omega arith
weight-labels (x ∷ xs) ys are = omega (arith, weight-some x (xs ++ ys) are.0.some, weight-labels xs ys are.1)

inner-cons : (x : List ℕ) (xs : List (List ℕ)) → 1 ≤ length x → length x ≤ 63 → AreInner xs → AreInner (x ∷ xs)
inner-cons x [] some short inner = short
inner-cons x (y ∷ ys) some short inner = (some, short, inner)

inner-labels : (xs ys : List (List ℕ)) → AreLabels xs → AreInner ys → AreInner (xs ++ ys)
inner-labels [] ys are inner = inner
inner-labels (x ∷ xs) ys are inner = inner-cons x (xs ++ ys) are.0.some are.0.short (inner-labels xs ys are.1 inner)

fits-last : (absolute : Bool) → (weight (last_piece absolute) ≡ 0) × AreInner (last_piece absolute)
fits-last true = (refl, omega arith)
fits-last false = (refl, tt)

-- the pieces of the characters of a name's text
pub text_pieces : {text : List ℕ} {labels : List (List ℕ)} {absolute : Bool} {cs : List Character}
    → IsLabelsText text labels absolute → AreCharsOf text cs → pieces cs ≡ labels ++ last_piece absolute
text_pieces {labels = labels} {absolute = absolute} is reads =
    ap pieces (reads_once reads is.reads) ∙ pieces-text labels absolute is.some

text_fits : {text : List ℕ} {labels : List (List ℕ)} {absolute : Bool} {cs : List Character}
    → IsLabelsText text labels absolute → AreCharsOf text cs → Fits (pieces cs)
text_fits {labels = labels} {absolute = absolute} is reads = rw (text_pieces is reads) (record {
  light = omega (arith, weight-labels labels (last_piece absolute) is.each, (fits-last absolute).0, is.short);
  inner = inner-labels labels (last_piece absolute) is.each (fits-last absolute).1;
})

inner_from : (xs : List (List ℕ)) (y : List ℕ) (ys : List (List ℕ)) → AreInner (xs ++ y ∷ ys) → AreInner (y ∷ ys)
inner_from [] y ys inner = inner
inner_from (x ∷ []) y ys inner = inner.2
inner_from (x ∷ z ∷ zs) y ys inner = inner_from (z ∷ zs) y ys inner.2

short_first : (y : List ℕ) (ys : List (List ℕ)) → AreInner (y ∷ ys) → length y ≤ 63
short_first y [] inner = inner
short_first y (z ∷ zs) inner = inner.1

-- the first piece is not empty where others follow
pub first_some : {text : List ℕ} {labels : List (List ℕ)} {absolute : Bool} {cs : List Character}
    → IsLabelsText text labels absolute → AreCharsOf text cs → (ps : List (List ℕ)) → pieces cs ≡ [] ∷ ps → ⊥
first_some {labels = labels} {absolute = absolute} is reads ps first =
    go labels is.each is.some (sym first ∙ text_pieces is reads) where
      go : (labels : List (List ℕ)) → AreLabels labels → labels ≢ [] → [] ∷ ps ≡ labels ++ last_piece absolute → ⊥
      go [] are some e = some refl
      go (x ∷ xs) are some e = let first : [] ≡ x = cc in omega (arith, are.0.some, ap length first)

-- the text is of no labels
abbrev pub NoLabels : List ℕ → Type 0
NoLabels text = (labels : List (List ℕ)) (absolute : Bool) → IsLabelsText text labels absolute → ⊥

-- What was gathered of a text before the rest: labels that have ended, and the bytes of one that goes on.
pub record Gathered (text rest : List ℕ) (done : List (List ℕ)) (current : List ℕ) : Type 0 where
  pub goes_on : (cs : List Character) → AreCharsOf rest cs → AreCharsOf text (ended done ++ (map byte current ++ cs))
  pub comes_from : (cs : List Character) → AreCharsOf text cs
      → (ds : List Character) × AreCharsOf rest ds × (cs ≡ ended done ++ (map byte current ++ ds))

pub gathered_none : (text : List ℕ) → Gathered text text [] []
gathered_none text = record { goes_on = λ cs reads. reads; comes_from = λ cs reads. (cs, reads, refl) }

-- the characters from a place on
reads_on : {text rest : List ℕ} {c : Character} {cs : List Character} → AreCharsOf text cs
    → first_char text ≡ Some (c, rest) → (ds : List Character) × AreCharsOf rest ds × (cs ≡ c ∷ ds)
reads_on none is = absurd (nothing_first is)
reads_on {rest = rest} {c = c} (more {rest = r} {c = d} {cs = ds} spells whole reads) is =
    let same = same_first (sym (first_of_piece spells whole) ∙ is) in
    (ds, subst (λ (t : List ℕ). AreCharsOf t ds) same.1 reads, ap (λ (e : Character). e ∷ ds) same.0)

stuck : {rest : List ℕ} {ds : List Character} → AreCharsOf rest ds → first_char rest ≡ None → rest ≢ [] → ⊥
stuck none nothing some = some refl
stuck (more spells is reads) nothing some = absurd (none_some (sym nothing ∙ first_of_piece spells is)) where
  none_some : {r : Character × List ℕ} → None ≡ Some r → ⊥
  none_some e = cc

module _ {text rest : List ℕ} {done : List (List ℕ)} {current : List ℕ}
    (gathered : Gathered text rest done current) where
  -- a character more
  gathered_more : (c : Character) (tail : List ℕ) (ended_now : List (List ℕ)) (bytes : List ℕ)
      → first_char rest ≡ Some (c, tail)
      → ((cs : List Character) → ended done ++ (map byte current ++ (c ∷ cs))
      ≡ ended ended_now ++ (map byte bytes ++ cs))
      → Gathered text tail ended_now bytes
  gathered_more c tail ended_now bytes is same = record {
    goes_on = λ cs reads. subst (AreCharsOf text) (same cs) (gathered.goes_on (c ∷ cs) (reads_more is reads));
    comes_from = λ cs reads.
        let earlier = gathered.comes_from cs reads in
        let on = reads_on earlier.1 is in (
          on.0,
          on.1,
          earlier.2 ∙ ap (λ (ds : List Character). ended done ++ (map byte current ++ ds)) on.2 ∙ same on.0,
        );
  }

  pub gathered_byte : {b : ℕ} {tail : List ℕ} → first_char rest ≡ Some (byte b, tail)
      → Gathered text tail done (current ++ b ∷ [])
  gathered_byte {b} {tail} is =
      gathered_more (byte b) tail done (current ++ b ∷ []) is (λ cs. simp (map-append, append_assoc))

  pub gathered_dot : {tail : List ℕ} → first_char rest ≡ Some (dot, tail) → Gathered text tail (done ++ current ∷ []) []
  gathered_dot {tail} is =
      gathered_more dot tail (done ++ current ∷ []) [] is (λ cs. simp (ended-append, append_assoc))

  -- the pieces, where the rest reads as these characters
  rest_pieces : {labels : List (List ℕ)} {absolute : Bool} → IsLabelsText text labels absolute
      → (ds : List Character) × AreCharsOf rest ds × Fits (done ++ pieces (map byte current ++ ds))
  rest_pieces is =
      let earlier = gathered.comes_from _ is.reads in (
        earlier.0,
        earlier.1,
        subst Fits (ap pieces earlier.2 ∙ pieces-ended done (map byte current ++ earlier.0))
            (text_fits is is.reads),
      )

  -- a byte more
  with_byte : {labels : List (List ℕ)} {absolute : Bool} {b : ℕ} {tail : List ℕ} → first_char rest ≡ Some (byte b, tail)
      → IsLabelsText text labels absolute
      → (h : List ℕ) × (t : List (List ℕ)) × Fits (done ++ (current ++ b ∷ h) ∷ t)
  with_byte {b = b} first is =
      let r = rest_pieces is in
      let on = reads_on r.1 first in
      let f = first_of on.0 in (
        f.0,
        f.1,
        subst (λ (ps : List (List ℕ)). Fits (done ++ ps))
            (pieces-front current (byte b ∷ on.0) (b ∷ f.0) f.1 (ap (onto_first b) f.2)) (rw on.2 at r.2),
      )

  pub byte_too_many : {b : ℕ} {tail : List ℕ} → first_char rest ≡ Some (byte b, tail) → AreLabels done
      → (63 ≤ length current) ⊎ (254 ≤ size_of done + 1 + length current) → NoLabels text
  byte_too_many {b = b} first are (inl long) labels absolute is =
      let r = with_byte first is in
      let short = short_first _ _ (inner_from done (current ++ b ∷ r.0) r.1 r.2.inner) in
      omega (arith, length-append current (b ∷ r.0))
  byte_too_many {b = b} first are (inr long) labels absolute is =
      let r = with_byte first is in
      let len = length-append current (b ∷ r.0) in
      omega (
        arith,
        r.2.light,
        weight-labels done ((current ++ b ∷ r.0) ∷ r.1) are,
        weight-some (current ++ b ∷ r.0) r.1 (omega arith),
      )

  -- the text goes on, but not by a character
  pub no_char : first_char rest ≡ None → rest ≢ [] → NoLabels text
  no_char nothing some labels absolute is = stuck (rest_pieces is).1 nothing some

label_empty : {text rest tail : List ℕ} {done : List (List ℕ)} → Gathered text rest done []
    → first_char rest ≡ Some (dot, tail) → NoLabels text
label_empty {done = done} gathered first labels absolute is =
    let r = rest_pieces gathered is in
    let on = reads_on r.1 first in
    let f = first_of on.0 in
    let empty = inner_from done [] (f.0 ∷ f.1) (rw (on.2, f.2) at r.2.inner) in
    omega (arith, empty.0)

pub not_nil : (xs : List (List ℕ)) (x : List ℕ) → xs ++ x ∷ [] ≢ []
not_nil [] x e = absurd cc
not_nil (y ∷ ys) x e = absurd cc

pub size_of-append : (xs ys : List (List ℕ)) → size_of (xs ++ ys) ≡ size_of xs + size_of ys
size_of-append [] ys = omega arith
size_of-append (x ∷ xs) ys = omega (arith, size_of-append xs ys)

-- the text has ended, and a label with it
pub ends_relative : {text : List ℕ} {done : List (List ℕ)} {current : List ℕ} → Gathered text [] done current
    → 1 ≤ length current → length current ≤ 63
    → AreLabels done → size_of done + 1 + length current ≤ 254
    → IsLabelsText text (done ++ current ∷ []) false
ends_relative {text} {done} {current} gathered some small are short = record {
  reads = subst (AreCharsOf text) (sym (append_assoc (ended done) (map byte current) [])
      ∙ ap (λ (cs : List Character). cs ++ []) (sym (dotted-last done current))) (gathered.goes_on [] none);
  some = not_nil done current;
  each = AreLabels-append done (current ∷ []) are (record { some = some; short = small }, tt);
  short = omega (arith, size_of-append done (current ∷ []));
}

-- the text has ended after a dot
pub ends_absolute : {text : List ℕ} {done : List (List ℕ)} → Gathered text [] done [] → done ≢ [] → AreLabels done
    → size_of done ≤ 254 → IsLabelsText text done true
ends_absolute {text} {done} gathered some are short = record {
  reads = subst (AreCharsOf text) (append-nil (ended done) ∙ sym (dotted-dot done some)) (gathered.goes_on [] none);
  some = some;
  each = are;
  short = omega arith;
}

-- the empty text is no name
ends_nothing : {text : List ℕ} → Gathered text [] [] [] → NoLabels text
ends_nothing gathered labels absolute is = first_some is (gathered.goes_on [] none) [] refl

-- What the room holds of a text before the rest: the bytes of labels, and then of one that goes on.
pub record Holds (text rest room : List ℕ) (used len : ℕ) : Type 0 where
  pub gathered : Gathered text rest (labels_of (take used room)) (take len (drop (used + 1) room))
  pub wire : IsWire (take used room)
  pub size : length room ≡ 254
  pub inside : used ≤ 254
  pub short : len ≤ 63
  pub fits : 1 ≤ len → used + 1 + len ≤ 254

pub holds_none : (text room : List ℕ) → length room ≡ 254 → Holds text text room 0 0
holds_none text room size = record {
  gathered = subst (λ (done : List (List ℕ)). Gathered text text done []) (sym labels_of-nil) (gathered_none text);
  wire = IsWire-nil;
  size = size;
  inside = omega arith;
  short = omega arith;
  fits = λ some. absurd (omega arith);
}

module _ {text rest room : List ℕ} {used len : ℕ} (holds : Holds text rest room used len) where
  current_len : length (take len (drop (used + 1) room)) ≡ len
  current_len = length-take-le len (drop (used + 1) room) (below len refl) where
    below : (n : ℕ) → n ≡ len → len ≤ length (drop (used + 1) room)
    below zero is = omega arith
    below (suc n) is = omega (arith, length-drop (used + 1) room, holds.fits (omega arith))

  front_len : length (take used room) ≡ used
  front_len = length-take-le used room (omega arith)

  done_size : size_of (labels_of (take used room)) ≡ used
  done_size = omega (arith, size_of-labels_of (take used room) holds.wire, front_len)

  pub holds_byte : {b : ℕ} {tail : List ℕ} → first_char rest ≡ Some (byte b, tail) → len < 63 → used + 1 + len < 254
      → Holds text tail (set room (used + 1 + len) b) used (len + 1)
  holds_byte {b} {tail} first small room_left = record {
    gathered = subst (λ (done : List (List ℕ)). Gathered text tail done (take (len + 1) (drop (used + 1) next)))
        (ap labels_of (sym front))
        (subst (Gathered text tail (labels_of (take used room))) (sym after) (gathered_byte holds.gathered first));
    wire = subst IsWire (sym front) holds.wire;
    size = length-set room (used + 1 + len) b ∙ holds.size;
    inside = holds.inside;
    short = omega arith;
    fits = λ some. omega arith;
  } where
    next : List ℕ
    next = set room (used + 1 + len) b

    front : take used next ≡ take used room
    front = take-set-le used room (used + 1 + len) b (omega arith)

    after : take (len + 1) (drop (used + 1) next) ≡ take len (drop (used + 1) room) ++ b ∷ []
    after = ap (take (len + 1)) (drop-set-add (used + 1) room len b)
        ∙ take_more_set (drop (used + 1) room) len b (omega (arith, length-drop (used + 1) room, holds.size))

  -- the length before the label that goes on
  label_put : (n : ℕ) → n ≡ len → 1 ≤ len → take (used + 1 + len) (set room used n)
      ≡ take used room ++ (length (take len (drop (used + 1) room)) ∷ take len (drop (used + 1) room))
  label_put n is some =
      let at : used + 1 + len ≡ length (take used room) + suc len = omega (arith, front_len) in
      let next : suc used ≡ used + 1 = omega arith in
      rw (set_split room used n (omega (arith, holds.fits some)), at, current_len, is, ← next)
      (take-append-add (take used room) (len ∷ drop (suc used) room) (suc len))

  -- the bytes of one label more
  pub wire_put : {n : ℕ} → n ≡ len → 1 ≤ len → IsWire (take (used + 1 + len) (set room used n))
  wire_put {n} is some =
      rw (label_put n is some) (IsWire-push (take used room) (take len (drop (used + 1) room)) holds.wire
      (omega (arith, current_len)) (omega (arith, current_len))
      (omega (arith, current_len, holds.fits some, front_len)))

  labels_put : (n : ℕ) → n ≡ len → 1 ≤ len → labels_of (take (used + 1 + len) (set room used n))
      ≡ labels_of (take used room) ++ take len (drop (used + 1) room) ∷ []
  labels_put n is some = ap labels_of (label_put n is some)
      ∙ labels_of-push (take used room) (take len (drop (used + 1) room)) holds.wire

  pub holds_dot : {n : ℕ} {tail : List ℕ} → first_char rest ≡ Some (dot, tail) → n ≡ len → 1 ≤ len
      → Holds text tail (set room used n) (used + 1 + len) 0
  holds_dot {n} {tail} first is some = record {
    gathered = rw (labels_put n is some) (gathered_dot holds.gathered first);
    wire = wire_put is some;
    size = length-set room used n ∙ holds.size;
    inside = holds.fits some;
    short = omega arith;
    fits = λ more. absurd (omega arith);
  }

  -- where no name can be read
  pub stops_at_char : first_char rest ≡ None → rest ≢ [] → NoLabels text
  stops_at_char nothing some = no_char holds.gathered nothing some

  pub stops_at_byte : {b : ℕ} {tail : List ℕ} → first_char rest ≡ Some (byte b, tail) → 63 ≤ len ⊎ 254 ≤ used + 1 + len
      → NoLabels text
  stops_at_byte first long =
      byte_too_many holds.gathered first holds.wire.labels (rw (current_len, done_size) long)

  pub stops_at_dot : {tail : List ℕ} → first_char rest ≡ Some (dot, tail) → len ≡ 0 → NoLabels text
  stops_at_dot first nothing =
      label_empty (rw (nil_from_length _ (current_len ∙ nothing)) at holds.gathered) first

  no_labels : (labels : List (List ℕ)) → AreLabels labels → size_of labels ≡ 0 → labels ≡ []
  no_labels [] are size = refl
  no_labels (x ∷ xs) are size = absurd (omega (arith, are.0.some))

  pub stops_at_start : rest ≡ [] → used ≡ 0 → len ≡ 0 → NoLabels text
  stops_at_start nil nothing no_byte =
      ends_nothing (rw (
        nil,
        no_labels (labels_of (take used room)) holds.wire.labels (done_size ∙ nothing),
        nil_from_length _ (current_len ∙ no_byte),
      ) at holds.gathered)

  -- where one has been read
  pub reads_absolute : rest ≡ [] → len ≡ 0 → 1 ≤ used → IsLabelsText text (labels_of (take used room)) true
  reads_absolute nil nothing some =
      ends_absolute (rw (nil, nil_from_length _ (current_len ∙ nothing)) at holds.gathered)
      (λ (e : labels_of (take used room) ≡ []). omega (arith, done_size, ap size_of e)) holds.wire.labels
      (omega (arith, done_size))

  pub reads_relative : {n : ℕ} → rest ≡ [] → n ≡ len → 1 ≤ len
      → IsLabelsText text (labels_of (take (used + 1 + len) (set room used n))) false
  reads_relative {n} nil is some =
      rw (labels_put n is some) (ends_relative (rw nil at holds.gathered) (omega (arith, current_len))
      (omega (arith, current_len)) holds.wire.labels (omega (arith, done_size, current_len, holds.fits some)))
