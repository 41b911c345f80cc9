-- Records that stand are records that are read.
use Rattle.std.proofs.Common.{◌≡◌, ℕ, ◌==◌, Bool, true, false, List, [], ◌∷◌, length, ap, arith, Ok}
use Rattle.std.specs.Prelude.{◌↔◌, IsTrue}
use Rattle.std.proofs.lemmas.Bool.{ne_eqb}
use Rattle.base.specs.names.Labels.{NameValue}
use Rattle.base.specs.reading.Names.{name_at}
use Rattle.base.proofs.reading.ReadingLemmas.{name_is}

-- a name that was read, and isn't the root, has a label
pub not_root : (B : List ℕ) (i : ℕ) (name : NameValue) (e : ℕ) (is_root : Bool) → name_at B i ≡ Ok (name, e)
    → (IsTrue is_root ↔ (name ≡ record { labels = []; absolute = true })) → is_root ≡ false
    → (length name.labels == 0) ≡ false
not_root B i name e is_root read tells not_it =
    let absolute = (name_is B i name e read).absolute in
    labelled name.labels name.absolute absolute (λ same. let says = tells.1 same in cc)
  where
    labelled : (labels : List (List ℕ)) (absolute : Bool) → absolute ≡ true
        → (◌≡◌ {A = NameValue} (record { labels = labels; absolute = absolute })
        (record { labels = []; absolute = true }) → ⊥) → (length labels == 0) ≡ false
    labelled [] absolute is not_same = absurd (not_same (ap (λ (b : Bool). record { labels = []; absolute = b }) is))
    labelled (label ∷ labels) absolute is not_same = ne_eqb (length (label ∷ labels)) 0 (omega arith)
