-- What is known of what is written, of the definition alone: where it stands, its word stands.
use Rattle.base.specs.declared.limits.TheConstants.{POINTER_LIMIT}
use Rattle.std.specs.Prelude.{◌≡◌, ◌≢◌, ℕ, ◌+◌, ◌^◌, ◌<◌, ◌≤◌, List, [], ◌++◌, length, All, Any}
use Rattle.base.specs.names.Labels.{size_of}
use Rattle.base.specs.writing.Laws.{IsSpelled}
use Rattle.base.specs.reading.Spelling.{Spelled}
use Rattle.base.specs.writing.State.{Stored}
use Rattle.base.specs.Words.{Stands}
use Rattle.base.specs.writing.Written.{Piece, Writing}

-- what is written stands in B at a place, and the suffixes stored until then are spelled there
pub record IsThere (p : Piece) (B : List ℕ) (at : ℕ) (stored : List Stored) : Type 0 where
  pub table : All (IsSpelled B at) stored
  pub bytes : Stands p.bytes B at
  pub small : length p.bytes < 2 ^ 16

-- an owner that ends in a stored suffix points to it, and an owner that begins early is stored
pub record IsOwned (p : Piece) (at : ℕ) (stored : List Stored) (fits : Type 0)
    (owner : List (List ℕ)) : Type 0 where
  pub end : ℕ
  pub spelled : fits → owner ≢ [] → (B : List ℕ) → IsThere p B at stored
      → Spelled B owner at at end
  pub short : owner ≢ [] → (front : List (List ℕ)) → Any (λ t. owner ≡ front ++ t.labels) stored
      → end ≤ at + (size_of front + 2)
  pub stores : owner ≢ [] → at < POINTER_LIMIT → Any (λ t. t.labels ≡ owner) p.suffixes

-- What is written at a place, of a value whose parts fit, is a word, and all suffixes stored until then are
-- spelled. It stores its suffixes after those that are there, at places from here on.
pub record SaysAt (p : Piece) (at : ℕ) (stored : List Stored) (fits : Type 0)
    (word : List ℕ → ℕ → ℕ → Type 0) (owner : List (List ℕ)) : Type 0 where
  pub stands : fits → (B : List ℕ) (e : ℕ) → e ≡ at + length p.bytes → IsThere p B at stored
      → word B at e × All (IsSpelled B e) p.suffixes
  pub added : List Stored
  pub is : p.suffixes ≡ stored ++ added
  pub offsets : All (λ t. at ≤ t.offset) added
  pub owned : IsOwned p at stored fits owner

-- So it is wherever it is written, and it has no more bytes than uncompressed.
pub record Says (f : Writing) (fits : Type 0) (word : List ℕ → ℕ → ℕ → Type 0) (plain : ℕ)
    (owner : List (List ℕ)) : Type 0 where
  pub each : (at : ℕ) (stored : List Stored) → SaysAt (f at stored) at stored fits word owner
  pub at_most : (at : ℕ) (stored : List Stored) → length (f at stored).bytes ≤ plain
