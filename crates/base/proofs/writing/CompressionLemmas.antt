-- A name is compressed as far as it can be.
use Rattle.std.proofs.Common.{ℕ, inl, inr, List, ◌∷◌, ◌⊎◌, [], length, refl, ap, sym, ◌∙◌, append_assoc}
use Rattle.std.proofs.lemmas.List.{append-nil}
use Rattle.base.specs.writing.Compression.{EndsInPointer, IsWrittenOut, IsCompressed}
use Rattle.base.specs.names.Labels.{wire_of}
use Rattle.base.specs.writing.SaysName.{Put, Wrote, root, points, begins, name_wrote}
use Rattle.base.specs.writing.State.{Stored}
use Rattle.base.specs.writing.Written.{found_in}

compressed_as : {stored : List Stored} {labels : List (List ℕ)} {at : ℕ} {w : Put} → Wrote stored labels at w
    → EndsInPointer labels stored w.bytes ⊎ IsWrittenOut labels stored w.bytes
unfolding wire_of
compressed_as root = inr (record { none = tt; are = refl })
compressed_as (points {x} {xs} {o = o} is) = inl (record {
  front = [];
  label = x;
  labels_after = xs;
  offset = o;
  parts = refl;
  found = is;
  longest = tt;
  are = refl;
})
compressed_as {stored} (begins {x} {xs} none rest) = elim (compressed_as rest) [
  | inl p ↦ inl (record {
    front = x ∷ p.front;
    label = p.label;
    labels_after = p.labels_after;
    offset = p.offset;
    parts = ap (λ (ys : List (List ℕ)). x ∷ ys) p.parts;
    found = p.found;
    longest = (sym (ap (λ (ys : List (List ℕ)). found_in stored (x ∷ ys)) p.parts) ∙ none, p.longest);
    are = rw p.are (sym (append_assoc (length x ∷ x) (wire_of p.front) _));
  })
  | inr w ↦ inr (record {
    none = (rw append-nil none, w.none);
    are = rw w.are (sym (append_assoc (length x ∷ x) (wire_of xs) _));
  })
]

pub compressed : (labels : List (List ℕ)) (at : ℕ) (stored : List Stored) → IsCompressed labels at stored
compressed labels at stored = compressed_as (name_wrote labels at stored).wrote
