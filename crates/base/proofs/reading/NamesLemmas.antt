-- Names that stand at places, value by value.
use Rattle.std.proofs.Common.{◌≡◌, ℕ, List, ◌++◌, length, Ok, ap, sym, subst}
use Rattle.std.specs.List.{flat_map}
use Rattle.base.specs.names.Labels.{NameValue}
use Rattle.base.specs.reading.Many.{many_names}
use Rattle.base.specs.reading.Reading.{Read, place_after}
use Rattle.base.specs.reading.Spelling.{NamesStand, no_more, one_more}
use Rattle.base.specs.Words.{BackToBack}
use Rattle.base.specs.Words.BackToBack.{none, more}

pub names_both : {bytes places others : List ℕ} {names after_them : List NameValue} → NamesStand bytes places names
    → NamesStand bytes others after_them
    → NamesStand bytes (places ++ others) (names ++ after_them)
names_both no_more rest = rest
names_both (one_more at first) rest = one_more at (names_both first rest)

-- Where each word is read as its value, and the names of each value stand at their places, so do those of words back to
-- back.
pub names_of_many : {A : Type 0} {Word : ℕ → A → ℕ → Type 0} {i e : ℕ} {xs : List A} (read : List ℕ → ℕ → Read A)
    (places : List ℕ → ℕ → List ℕ) (names : A → List NameValue) (bytes : List ℕ)
    → ((i : ℕ) (x : A) (e : ℕ) → Word i x e → read bytes i ≡ Ok (x, e))
    → ((i : ℕ) (x : A) (e : ℕ) → read bytes i ≡ Ok (x, e) → NamesStand bytes (places bytes i) (names x))
    → BackToBack Word i xs e → NamesStand bytes (many_names read places (length xs) bytes i) (flat_map names xs)
unfolding many_names
names_of_many read places names bytes again stand none = no_more
names_of_many read places names bytes again stand (more {i = i} {j = j} {e = e} {x = x} {xs = xs} word rest) =
    let is = again i x j word in
    let others = names_of_many read places names bytes again stand rest in
    let next : j ≡ place_after (read bytes i) = sym (ap place_after is) in
    names_both (stand i x j is) (subst (λ (k : ℕ). NamesStand bytes (many_names read places (length xs) bytes k)
    (flat_map names xs)) next others)

-- words after words
pub back_to_back : {A : Type 0} {Word : ℕ → A → ℕ → Type 0} {i j e : ℕ} {xs ys : List A} → BackToBack Word i xs j
    → BackToBack Word j ys e → BackToBack Word i (xs ++ ys) e
back_to_back none rest = rest
back_to_back (more word first) rest = more word (back_to_back first rest)
