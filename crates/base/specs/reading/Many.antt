-- Values that are read one after another.
use Rattle.std.specs.Prelude.{ℕ, List, [], ◌∷◌, ◌++◌, zero, suc, Ok}
use Rattle.base.specs.reading.Reading.{Read, ◌>>=◌, place_after}

-- n values, each at the place after the one before it, or the first fault
unfoldable pub many_at : {A : Type 0} → (List ℕ → ℕ → Read A) → ℕ → List ℕ → ℕ → Read (List A)
many_at read zero bytes i = Ok ([], i)
many_at read (suc n) bytes i = do
  first ← read bytes i
  others ← many_at read n bytes first.1
  Ok (first.0 ∷ others.0, others.1)

-- The places of the names of n values, each at the place after the one before it, where `names` says those of one.
unfoldable pub many_names : {A : Type 0} → (List ℕ → ℕ → Read A) → (List ℕ → ℕ → List ℕ) → ℕ
    → List ℕ → ℕ → List ℕ
many_names read names zero bytes i = []
many_names read names (suc n) bytes i = names bytes i
    ++ many_names read names n bytes (place_after (read bytes i))
