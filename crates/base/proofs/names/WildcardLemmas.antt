-- A name with an asterisk in the place of its first label.
use Rattle.base.proofs.names.LabelLemmas.{IsWire-wire_of, labels_of_is}
use Rattle.base.specs.names.Labels.{AreLabels, IsWire, labels_of, size_of, wire_of}
use Rattle.base.specs.names.Parents.{asterisk, with_first}
use Rattle.std.proofs.Common.{ap, arith, subst, sym, ◌+◌, ◌∙◌, ◌≤◌}
use Rattle.std.specs.Prelude.{List, ℕ, ◌∷◌, ◌≡◌}

module _ (labels : List (List ℕ)) (first rest items : List ℕ) (are : AreLabels labels)
    (short : size_of labels + 1 ≤ 255) (cut : labels ≡ first ∷ labels_of rest)
    (run : wire_of (labels_of rest) ≡ rest) (made : items ≡ 1 ∷ 42 ∷ rest) where
  as_labels : items ≡ wire_of (asterisk ∷ labels_of rest)
  unfolding wire_of
  as_labels = made ∙ ap (λ bytes. 1 ∷ 42 ∷ bytes) (sym run)

  others : AreLabels (first ∷ labels_of rest)
  others = subst AreLabels cut are

  fits : size_of (asterisk ∷ labels_of rest) ≤ 254
  fits = omega (arith, ap size_of cut, others.0.some)

  pub wildcard_wire : IsWire items
  wildcard_wire = subst IsWire (sym as_labels) (IsWire-wire_of (asterisk ∷ labels_of rest)
      (record { some = omega arith; short = omega arith }, others.1) fits)

  pub wildcard_labels : labels_of items ≡ with_first asterisk labels
  wildcard_labels = labels_of_is items (asterisk ∷ labels_of rest) as_labels ∙ sym (ap (with_first asterisk) cut)
