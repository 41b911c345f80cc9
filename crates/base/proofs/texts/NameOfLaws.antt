-- What is named, and that nothing else is.
use Rattle.std.proofs.Common.{◌≡◌, ◌≢◌, ◌⊎◌, inl, inr, ℕ, List, [], ◌∷◌, ◌++◌, refl, ap, sym, ◌∙◌, subst, arith, Bool}
use Rattle.std.proofs.Common.{true, false, Option, Some, None, Ok, Err, length, ◌+◌, ◌≤◌, ◌<◌}
use Rattle.std.specs.Prelude.{nat_le}
use Rattle.std.specs.Cmp.Lexicographic.{bytes_decides}
use Rattle.std.specs.Str.{bytes_eq}
use Rattle.std.proofs.lemmas.Bool.Decides.{nat_tests}
use Rattle.base.specs.names.Labels.{NameValue, plain_len, IsWire, wire_of, labels_of, size_of}
use Rattle.base.specs.texts.NameText.{IsNameText, IsLabelsText, is_root, is_origin, is_absolute, is_relative}
use Rattle.base.specs.texts.NameText.{is_completed}
use Rattle.base.specs.texts.NameOf.{completed, completed_if, name_of, origin_name, text_labels}
use Rattle.base.specs.texts.TextFaults.{bad_name}
use Rattle.base.proofs.texts.NamedLemmas.{not_dot, not_absolute_at, appended_labels}
use Rattle.base.proofs.texts.NameOfLemmas.{text_labels_complete, text_labels_sound}
use Rattle.base.proofs.texts.ParseLemmas.{size_of-append}
use Rattle.base.proofs.names.LabelLemmas.{size_of-labels_of}
use Rattle.base.specs.reading.PointerLemmas.{length-wire_of}

other_bytes : (xs ys : List ℕ) → xs ≢ ys → bytes_eq xs ys ≡ false
other_bytes xs ys other = grind (arith, nat_tests, bytes_decides xs ys)

root_case : (text : List ℕ) (origin : Option NameValue) → text ≡ 46 ∷ []
    → name_of text origin ≡ Ok (record { labels = []; absolute = true })
unfolding name_of
root_case text origin is = rw ((bytes_decides text (46 ∷ [])).1 is) refl

origin_case : (text : List ℕ) (origin : Option NameValue) → text ≡ 64 ∷ [] → name_of text origin ≡ origin_name origin
unfolding name_of
origin_case text origin is =
    let dot : bytes_eq text (46 ∷ []) ≡ false = ap (λ (t : List ℕ). bytes_eq t (46 ∷ [])) is in
    rw (dot, (bytes_decides text (64 ∷ [])).1 is) refl

labels_case : (text : List ℕ) (origin : Option NameValue) → text ≢ 46 ∷ [] → text ≢ 64 ∷ []
    → name_of text origin ≡ completed_if origin (text_labels text)
unfolding name_of
labels_case text origin dot at = rw (other_bytes text (46 ∷ []) dot, other_bytes text (64 ∷ []) at) refl

pub named_by : {text : List ℕ} {origin : Option NameValue} {n : NameValue} → IsNameText text origin n
    → name_of text origin ≡ Ok n
named_by {text} {origin} (is_root e) = root_case text origin e
named_by {text} {origin} (is_origin given e) = origin_case text origin e ∙ ap origin_name given
named_by {text} {origin} (is_absolute {labels} is) =
    labels_case text origin (λ (e : text ≡ 46 ∷ []). not_dot e is) (λ (e : text ≡ 64 ∷ []). not_absolute_at e is)
    ∙ ap (completed_if origin) (text_labels_complete is)
named_by {text} {origin} (is_relative {labels} given at is) =
    labels_case text origin (λ (e : text ≡ 46 ∷ []). not_dot e is) at
    ∙ ap (completed_if origin) (text_labels_complete is)
    ∙ ap (λ (o : Option NameValue). completed o (labels, false)) given
named_by {text} {origin} (is_completed {o} {labels} given at is short) =
    let fits : nat_le (plain_len (labels ++ o.labels)) 255 ≡ true = grind (arith, nat_tests) in
    labels_case text origin (λ (e : text ≡ 46 ∷ []). not_dot e is) at
    ∙ ap (completed_if origin) (text_labels_complete is)
    ∙ ap (λ (o : Option NameValue). completed o (labels, false)) given ∙ rw fits refl

-- it names, or is refused
abbrev Answer : List ℕ → Option NameValue → Type 0
Answer text origin = ((n : NameValue) × IsNameText text origin n) ⊎ (name_of text origin ≡ Err bad_name)

name_or_fault : (text : List ℕ) (origin : Option NameValue) → Answer text origin
name_or_fault text origin = start (bytes_eq text (46 ∷ [])) (bytes_eq text (64 ∷ [])) refl refl where
  at_origin : (o : Option NameValue) → origin ≡ o → text ≡ 64 ∷ [] → Answer text origin
  at_origin None given at = inr (origin_case text origin at ∙ ap origin_name given)
  at_origin (Some o) given at = inl (o, is_origin given at)

  relative : (o : Option NameValue) (labels : List (List ℕ)) → origin ≡ o → text ≢ 64 ∷ []
      → name_of text origin ≡ completed o (labels, false) → IsLabelsText text labels false → Answer text origin
  relative None labels given at made is = inl (_, is_relative given at is)
  relative (Some o) labels given at made is = go (nat_le (plain_len (labels ++ o.labels)) 255) refl where
    go : (fits : Bool) → nat_le (plain_len (labels ++ o.labels)) 255 ≡ fits → Answer text origin
    go true fits = inl (_, is_completed given at is (grind (arith, nat_tests)))
    go false fits = inr (made ∙ rw fits refl)

  after : (found : Option (List (List ℕ) × Bool)) → text_labels text ≡ found → text ≢ 64 ∷ []
      → name_of text origin ≡ completed_if origin found → Answer text origin
  after None read at made = inr made
  after (Some (labels, true)) read at made = inl (_, is_absolute (text_labels_sound text labels true read))
  after (Some (labels, false)) read at made =
      relative origin labels refl at made (text_labels_sound text labels false read)

  apart : {xs ys : List ℕ} → bytes_eq xs ys ≡ false → xs ≢ ys
  apart {xs} {ys} is e = cc (is, (bytes_decides xs ys).1 e)

  start : (dot at : Bool) → bytes_eq text (46 ∷ []) ≡ dot → bytes_eq text (64 ∷ []) ≡ at → Answer text origin
  start true at is is_at = inl (_, is_root ((bytes_decides text (46 ∷ [])).0 is))
  start false true is is_at = at_origin origin refl ((bytes_decides text (64 ∷ [])).0 is_at)
  start false false is is_at = after (text_labels text) refl (apart is_at)
      (labels_case text origin (apart is) (apart is_at))

-- a text names one name
pub name_once : {text : List ℕ} {origin : Option NameValue} {a b : NameValue} → IsNameText text origin a
    → IsNameText text origin b → a ≡ b
name_once {text} {origin} named other = cc (named_by named, named_by other)

pub refused_names : (text : List ℕ) (origin : Option NameValue) → name_of text origin ≡ Err bad_name → (n : NameValue)
    → IsNameText text origin n → ⊥
refused_names text origin refused n named = cc (named_by named, refused)

pub names : (text : List ℕ) (origin : Option NameValue) (n : NameValue) → name_of text origin ≡ Ok n
    → IsNameText text origin n
names text origin n is = go (name_or_fault text origin) where
  go : Answer text origin → IsNameText text origin n
  go (inl (m, named)) = let same : m ≡ n = cc (named_by named, is) in rw (← same) named
  go (inr refused) = absurd (cc (is, refused))

pub refuses : (text : List ℕ) (origin : Option NameValue) → ((n : NameValue) → IsNameText text origin n → ⊥)
    → name_of text origin ≡ Err bad_name
refuses text origin nothing = go (name_or_fault text origin) where
  go : Answer text origin → name_of text origin ≡ Err bad_name
  go (inl (n, named)) = absurd (nothing n named)
  go (inr refused) = refused

-- a sign @ alone names nothing where no origin is given
pub no_origin : {text : List ℕ} {o : Option NameValue} {n : NameValue} → text ≡ 64 ∷ [] → o ≡ None → IsNameText text o n
    → ⊥
no_origin {text} {o} at missing named = cc (named_by named, origin_case text o at, ap origin_name missing)

-- labels that the origin makes too long name nothing
pub too_long : {text : List ℕ} {o : Option NameValue} {n origin : NameValue} {labels : List (List ℕ)} → o ≡ Some origin
    → text ≢ 64 ∷ [] → IsLabelsText text labels false → 255 < plain_len (labels ++ origin.labels) → IsNameText text o n
    → ⊥
too_long {text} {o} {origin = origin} {labels = labels} given at is long named =
    let big : nat_le (plain_len (labels ++ origin.labels)) 255 ≡ false = grind (arith, nat_tests) in
    cc (
      named_by named,
      labels_case text o (λ (e : text ≡ 46 ∷ []). not_dot e is) at,
      ap (completed_if o) (text_labels_complete is),
      ap (λ (o : Option NameValue). completed o (labels, false)) given,
      big,
    )

module _ {text : List ℕ} {o : Option NameValue} {bytes wire : List ℕ} {origin : NameValue}
    (read : IsLabelsText text (labels_of bytes) false)
    (holds : IsWire bytes) (at : text ≢ 64 ∷ []) (given : o ≡ Some origin) (is : wire ≡ wire_of origin.labels) where
  both_size : size_of (labels_of bytes ++ origin.labels) ≡ length bytes + length wire
  both_size = omega (
    arith,
    size_of-append (labels_of bytes) origin.labels,
    size_of-labels_of bytes holds,
    ap length is,
    length-wire_of origin.labels,
  )

  pub completes : length bytes + length wire ≤ 254
      → IsNameText text o (record { labels = labels_of (bytes ++ wire); absolute = true })
  completes short =
      subst (λ (labels : List (List ℕ)). IsNameText text o (record { labels = labels; absolute = true }))
      (sym (appended_labels bytes wire origin.labels holds is))
      (is_completed given at read (omega (arith, both_size)))

  pub completes_not : {n : NameValue} → 254 < length bytes + length wire → IsNameText text o n → ⊥
  completes_not long named = too_long given at read (omega (arith, both_size)) named
