-- The laws of everything that is written.
use Rattle.base.specs.declared.limits.TheConstants.{POINTER_LIMIT}
use Rattle.std.specs.Prelude.{◌≡◌, ◌≢◌, ℕ, ◌+◌, ◌<◌, ◌≤◌, max, List, [], ◌++◌, length, drop, All, Any}
use Rattle.base.specs.names.Labels.{size_of}
use Rattle.base.specs.reading.Spelling.{Spelled}
use Rattle.base.specs.Words.{Stands}
use Rattle.base.specs.writing.State.{State, Stored}

-- a stored suffix is spelled at its offset, where a pointer of a name written from n on can point
pub record IsSpelled (B : List ℕ) (n : ℕ) (t : Stored) : Type 0 where
  pub below : t.offset < n
  pub fits : t.offset < POINTER_LIMIT
  pub end : ℕ
  pub spelled : Spelled B t.labels t.offset t.offset end

-- every stored suffix is spelled in B
pub record IsValid (s : State) (B : List ℕ) : Type 0 where
  pub each : All (IsSpelled B (length s.bytes)) s.suffixes

-- B holds what was written between the two states, and the suffixes stored before it are spelled in B
pub record Holds (old new : State) (B : List ℕ) : Type 0 where
  pub table : IsValid old B
  pub bytes : Stands (drop (length old.bytes) new.bytes) B (length old.bytes)

-- Whatever the answer: what stood before stays, and nothing passes the limit.
pub record Keeps (old new : State) : Type 0 where
  pub appended : List ℕ
  pub added : List Stored
  pub bytes : new.bytes ≡ old.bytes ++ appended
  pub suffixes : new.suffixes ≡ old.suffixes ++ added
  pub offsets : All (λ t. length old.bytes ≤ t.offset) added
  pub limit : new.limit ≡ old.limit
  pub buffer : new.buffer ≡ old.buffer
  pub within : length new.bytes ≤ max (length old.bytes) old.limit

-- An owner that ends in a stored suffix points to it, and an owner that begins early is stored.
pub record Compresses (owner : List (List ℕ)) (old new : State) : Type 0 where
  pub end : ℕ
  pub spelled : owner ≢ [] → (B : List ℕ) → Holds old new B
      → Spelled B owner (length old.bytes) (length old.bytes) end
  pub short : owner ≢ [] → (front : List (List ℕ))
      → Any (λ t. owner ≡ front ++ t.labels) old.suffixes
      → end ≤ length old.bytes + (size_of front + 2)
  pub stored : owner ≢ [] → length old.bytes < POINTER_LIMIT
      → Any (λ t. t.labels ≡ owner) new.suffixes

-- A value was written: its word stands in every buffer that holds what was written, all suffixes
-- stored until then are spelled there, and no more bytes were taken than without compression.
pub record Writes (word : List ℕ → ℕ → ℕ → Type 0) (plain : ℕ) (owner : List (List ℕ))
    (old new : State) : Type 0 where
  pub word_stands : (B : List ℕ) → Holds old new B → word B (length old.bytes) (length new.bytes)
  pub valid : (B : List ℕ) → Holds old new B → IsValid new B
  pub at_most : length new.bytes ≤ length old.bytes + plain
  pub compresses : Compresses owner old new

-- Each suffix of a name that was written by labels, and begins early, is stored where it begins: from
-- there on stands more than a pointer or a zero byte.
pub record StoresSuffixes (labels : List (List ℕ)) (old new : State) : Type 0 where
  pub each : (front back : List (List ℕ)) → labels ≡ front ++ back
      → length old.bytes + size_of front + 2 < length new.bytes
      → length old.bytes + size_of front < POINTER_LIMIT
      → Any (λ t. (t.labels ≡ back) × (t.offset ≡ length old.bytes + size_of front)) new.suffixes
