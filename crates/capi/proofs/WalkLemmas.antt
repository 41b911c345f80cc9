-- Items and names of a walk, as a caller is told them.
use Rattle.std.proofs.Common.{◌≡◌, ℕ, ◌+◌, ◌-◌, ◌<◌, ◌≤◌, List, [], ◌∷◌, ◌++◌, length, take, drop, suc, refl, ap}
use Rattle.std.proofs.Common.{sym, ◌∙◌, arith, append_assoc, add-zero, add-one, get_or, set}
use Rattle.std.proofs.Common.{length-append, length-drop}
use borrow.Rule.Slice.PartMut.{post_of, put_mid}
use Rattle.std.proofs.Math.Seq.{drop-cons, take-length, take-suc}
use Rattle.std.proofs.lemmas.List.{append-nil, drop_at, drop-drop, drop_all, length-take-le, set_at, take_at}
use Rattle.std.proofs.lemmas.List.{take-append-drop}
use Rattle.tasks.specs.declared.walk.whole.Stop.{Stop}
use Rattle.capi.specs.WalkWhole.{item_at, items_of, names_of, octets_of}
use Rattle.capi.specs.declared.walk.whole.Item.{Item}

names_of-append : (xs ys : List Stop) → names_of (xs ++ ys) ≡ names_of xs ++ names_of ys
unfolding names_of
names_of-append [] ys = refl
names_of-append (x ∷ xs) ys =
    ap (λ (rest : List ℕ). octets_of x.name ++ rest) (names_of-append xs ys)
    ∙ sym (append_assoc (octets_of x.name) (names_of xs) (names_of ys))

names_of-one : (x : Stop) → names_of (x ∷ []) ≡ octets_of x.name
unfolding names_of
names_of-one x = append-nil (octets_of x.name)

-- before any stop
pub no_names : names_of [] ≡ []
unfolding names_of
no_names = refl

pub no_items : (place : ℕ) → items_of place [] ≡ []
unfolding items_of
no_items place = refl

length-items_of : (place : ℕ) (xs : List Stop) → length (items_of place xs) ≡ length xs
unfolding items_of
length-items_of place [] = refl
length-items_of place (x ∷ xs) = ap suc (length-items_of (place + length (octets_of x.name)) xs)

items_of-push : (place : ℕ) (xs : List Stop) (x : Stop)
    → items_of place (xs ++ x ∷ []) ≡ items_of place xs ++ item_at (place + length (names_of xs)) x ∷ []
unfolding items_of names_of
items_of-push place [] x = ap (λ (p : ℕ). item_at p x ∷ []) (sym (add-zero place))
items_of-push place (y ∷ ys) x =
    let there : place + length (octets_of y.name) + length (names_of ys) ≡ place + length
    (octets_of y.name ++ names_of ys) = omega (arith, length-append (octets_of y.name) (names_of ys)) in
    ap (λ (rest : List Item). item_at place y ∷ rest) (items_of-push (place + length (octets_of y.name)) ys x
    ∙ ap (λ (p : ℕ). items_of (place + length (octets_of y.name)) ys ++ item_at p x ∷ []) there)

module _ (stops : List Stop) (i : ℕ) (x : Stop) (is : x ≡ get_or stops i x) (below : i < length stops) where
  one_more_stop : take (i + 1) stops ≡ take i stops ++ x ∷ []
  one_more_stop = ap (λ (n : ℕ). take n stops) (add-one i) ∙ take-suc stops i x below
      ∙ ap (λ (y : Stop). take i stops ++ y ∷ []) (sym is)

  -- the next stop's name comes after the others
  pub more_names : names_of (take (i + 1) stops) ≡ names_of (take i stops) ++ octets_of x.name
  more_names = ap names_of one_more_stop ∙ names_of-append (take i stops) (x ∷ [])
      ∙ ap (λ (rest : List ℕ). names_of (take i stops) ++ rest) (names_of-one x)

  pub names_length : length (names_of (take (i + 1) stops)) ≡ length (names_of (take i stops)) + length
      (octets_of x.name)
  names_length = ap length more_names ∙ length-append (names_of (take i stops)) (octets_of x.name)

  -- and all names have room for it
  pub name_has_room : length (names_of (take i stops)) + length (octets_of x.name) ≤ length (names_of stops)
  name_has_room =
      let whole = ap names_of (take-append-drop (i + 1) stops) in
      let parts = names_of-append (take (i + 1) stops) (drop (i + 1) stops) in
      omega (
        arith,
        names_length,
        ap length (sym parts
            ∙ whole),
        length-append (names_of (take (i + 1) stops)) (names_of (drop (i + 1) stops)),
      )

  -- its item is put in the place of one of the caller's
  pub item_put : (room : List Item) (place : ℕ) → i < length room → place ≡ length (names_of (take i stops))
      → set (items_of 0 (take i stops) ++ drop i room) i (item_at place x) ≡ items_of 0 (take (i + 1) stops) ++ drop
      (i + 1) room
  item_put room place fits there =
      let front : length (items_of 0 (take i stops)) ≡ i =
      length-items_of 0 (take i stops) ∙ length-take-le i stops (omega arith) in
      let placed : place ≡ 0 + length (names_of (take i stops)) = omega arith in
      let old = get_or room i (item_at place x) in
      ap (λ (rest : List Item). set (items_of 0 (take i stops) ++ rest) i (item_at place x))
      (drop-cons room i (item_at place x) fits)
      ∙ set_at (items_of 0 (take i stops)) old (drop (suc i) room) (item_at place x) i front
      ∙ ap (λ (p : ℕ). items_of 0 (take i stops) ++ item_at p x ∷ drop (suc i) room) placed
      ∙ sym (append_assoc (items_of 0 (take i stops)) (item_at (0 + length (names_of (take i stops))) x ∷ [])
      (drop (suc i) room))
      ∙ ap (λ (front : List Item). front ++ drop (suc i) room) (sym (items_of-push 0 (take i stops) x))
      ∙ ap (λ (xs : List Stop). items_of 0 xs ++ drop (suc i) room) (sym one_more_stop)
      ∙ ap (λ (n : ℕ). items_of 0 (take (i + 1) stops) ++ drop n room) (sym (add-one i))

-- what is put after the bytes before leaves the rest
pub bytes_put : (done x room old : List ℕ) (place n : ℕ) → place ≡ length done → old ≡ done ++ drop place room
    → place ≤ length old
    → put_mid place (length old - place) old (x ++ drop n (take (length old - place) (drop place old))) ≡ (done ++ x) ++
    drop (place + n) room
bytes_put done x room old place n there before inside =
    let front : take place old ≡ done = ap (take place) before ∙ take_at done (drop place room) place (sym there) in
    let tail : drop place old ≡ drop place room =
    ap (drop place) before ∙ drop_at done (drop place room) place (sym there) in
    let all : take (length old - place) (drop place old) ≡ drop place room =
    ap (λ (k : ℕ). take k (drop place old)) (sym (length-drop place old)) ∙ take-length (drop place old) ∙ tail in
    let past : post_of place (length old - place) old ≡ [] =
    drop_all (length old - place) (drop place old) (omega (arith, length-drop place old)) in
    rw (front, all, past, append-nil, drop-drop) (sym (append_assoc done x (drop (place + n) room)))

-- so many bytes are left from a place on
pub length-left : (old : List ℕ) (place : ℕ) → length (take (length old - place) (drop place old)) ≡ length old - place
length-left old place = length-take-le (length old - place) (drop place old) (omega (arith, length-drop place old))
