-- What follows of the states of an encoder from what is known of what is written: what stood stays, it was written as
-- its word, and it was refused only where it has too many bytes.
use Rattle.std.proofs.Common.{◌≡◌, ℕ, ◌+◌, ◌^◌, ◌<◌, ◌≤◌, List, length, drop, refl, ◌∙◌, ap, arith, length-append}
use Rattle.std.specs.Prelude.{Result, Ok, Err, OnOk, max}
use Rattle.std.proofs.Math.Seq.{drop-append_seam}
use Rattle.base.specs.declared.error.proto_error.ProtoError.{ProtoError}
use Rattle.base.specs.declared.error.proto_error.ProtoError.TheVariants as refusals
use Rattle.base.specs.names.Labels.{size_of}
use Rattle.base.specs.writing.Laws.{Holds, Keeps, Writes, StoresSuffixes}
use Rattle.base.specs.writing.Says.{IsThere, Says}
use Rattle.base.specs.writing.SaysName.{name_wrote, ends_at, stores_each}
use Rattle.base.specs.writing.SaysParts.{any_after}
use Rattle.base.specs.writing.State.{State}
use Rattle.base.specs.writing.Wire.{Refuses}
use Rattle.base.proofs.writing.LawLemmas.{Keeps-after}
use Rattle.base.specs.writing.Written.{Writing, Exactly, piece_at, after, name}

module _ {F : Type 0} {word : List ℕ → ℕ → ℕ → Type 0} {plain : ℕ} {owner : List (List ℕ)} (f : Writing) (a b : State)
    (s : Says f F word plain owner) where
  -- what was written within the limit was written as its word
  pub Says-writes : F → b ≡ after f a → length b.bytes ≤ max (length a.bytes) a.limit → a.limit < 2 ^ 16
      → Writes word plain owner a b
  Says-writes ok is within narrow =
      let p = piece_at f a in
      let w = s.each (length a.bytes) a.suffixes in
      let suffixes = ap (λ (u : State). u.suffixes) is in
      let longer : length b.bytes ≡ length a.bytes + length p.bytes =
      ap (λ (u : State). length u.bytes) is ∙ length-append a.bytes p.bytes in
      let own : drop (length a.bytes) b.bytes ≡ p.bytes =
      ap (λ (u : State). drop (length a.bytes) u.bytes) is ∙ drop-append_seam a.bytes p.bytes in
      let there : (B : List ℕ) → Holds a b B → IsThere p B (length a.bytes) a.suffixes = λ B h. record {
        table = h.table.each;
        bytes = rw (← own) h.bytes;
        small = omega (arith, within, narrow, longer);
      } in
      record {
        word_stands = λ B h. (w.stands ok B _ longer (there B h)).0;
        valid = λ B h. record { each = rw suffixes (w.stands ok B _ longer (there B h)).1 };
        at_most = omega (arith, longer, s.at_most (length a.bytes) a.suffixes);
        compresses = record {
          end = w.owned.end;
          spelled = λ some B h. w.owned.spelled ok some B (there B h);
          short = w.owned.short;
          stored = λ some early. rw suffixes (w.owned.stores some early);
        };
      }

  -- and what stood before stayed
  pub Says-keeps : b ≡ after f a → length b.bytes ≤ max (length a.bytes) a.limit → Keeps a b
  Says-keeps is within =
      let w = s.each (length a.bytes) a.suffixes in
      Keeps-after f a b w.added is w.is w.offsets within

  -- what was written exactly was written as its word, or refused for more bytes than it has
  pub Exactly-writes : {X : Type 0} (r : Result X ProtoError) → Exactly f a b r → OnOk r F
      → length b.bytes ≤ max (length a.bytes) a.limit → a.limit < 2 ^ 16 → OnOk r (Writes word plain owner a b)
  Exactly-writes (Ok x) is ok within narrow = Says-writes ok is within narrow
  Exactly-writes (Err e) is ok within narrow = tt

  pub Says-refuses : {X : Type 0} (r : Result X ProtoError) → Exactly f a b r → Refuses plain a r
  Says-refuses (Ok x) is = tt
  Says-refuses (Err refusals.MaxBufferSizeExceeded) is = omega (arith, is, s.at_most (length a.bytes) a.suffixes)
  Says-refuses (Err e) is = is

-- each suffix of a name that was written by labels is stored where it begins
pub name-stores : (labels : List (List ℕ)) (a b : State) → b ≡ after (name labels) a
    → StoresSuffixes labels a b
name-stores labels a b is =
    let n = name_wrote labels (length a.bytes) a.suffixes in
    let longer = ap (λ (u : State). length u.bytes) is ∙ length-append a.bytes (piece_at (name labels) a).bytes in
    let end : length b.bytes ≡ n.end = omega (arith, longer, ends_at n.wrote) in
    record {
      each = λ front back parts more early. rw (ap (λ (u : State). u.suffixes) is, n.is)
          (any_after (λ t. (t.labels ≡ back) × (t.offset ≡ length a.bytes + size_of front))
          a.suffixes n.added (stores_each n.wrote front back _ parts refl (omega (arith, more, end))
          early));
    }
