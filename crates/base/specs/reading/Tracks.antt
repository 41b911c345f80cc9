-- What a read leaves of a decoder beside its place: which targets of pointers are kept, and how many were followed.
use Rattle.base.specs.declared.limits.TheConstants.{POINTER_LIMIT}
use Rattle.std.specs.Prelude.{◌≡◌, ℕ, ◌<◌, ◌≤◌, List, Result, Ok, Err, All}
use Rattle.std.specs.FinSet as set
use Rattle.base.specs.reading.Passing.{NamesPass, inserted}
use Rattle.base.specs.reading.Reader.{Reader}

-- As many pointers were followed as targets are kept, which are no more than a pointer can name offsets
-- (RFC 1035, 4.1.4).
pub record IsCounted (r : Reader) : Type 0 where
  pub exact : r.jumps ≡ set.len r.kept
  pub few : set.len r.kept ≤ POINTER_LIMIT

-- The offsets that are kept are exactly those that names pass which stand before the place that is read next.
pub record IsPassed (r : Reader) : Type 0 where
  pub names : List ℕ
  pub offsets : List ℕ
  pub before : All (λ i. i < r.index) names
  pub pass : NamesPass r.bytes names offsets
  pub exact : r.kept ≡ set.from_list offsets

-- A read went on, over names at these places, and kept exactly the offsets that they pass, beside those from before.
-- Where as many pointers were followed as targets are kept, that stays so.
pub record Tracked (names : List ℕ) (old new : Reader) : Type 0 where
  pub bytes : new.bytes ≡ old.bytes
  pub on : old.index ≤ new.index
  pub before : All (λ i. i < new.index) names
  pub offsets : List ℕ
  pub pass : NamesPass old.bytes names offsets
  pub exact : new.kept ≡ inserted offsets old.kept
  pub counts : IsCounted old → IsCounted new

-- Where as many pointers were followed as targets were kept, no more are followed now than a pointer can name offsets.
abbrev pub IsBounded : Reader → Reader → Type 0
IsBounded old new = IsCounted old → new.jumps ≤ POINTER_LIMIT

-- A read tracks the names at these places, told from its answer; after a refusal only the bound is said.
abbrev pub Tracks : {X E : Type 0} → (X → List ℕ) → Reader → Reader → Result X E → Type 0
Tracks names old new (Ok x) = Tracked (names x) old new
Tracks names old new (Err e) = IsBounded old new
