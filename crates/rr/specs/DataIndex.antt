-- The index of the data of records: the place of each at a key, the bytes of the canonical form of its data.
use Rattle.std.specs.Prelude.{true, false, ℕ, ◌<◌, ◌≤◌, ◌≡◌, ◌≢◌, List, Option, Some, length}
use Rattle.std.specs.List.{list_any, slice_get}
use Rattle.base.specs.Keys.{indexed_at}
use Rattle.base_data.specs.Kinds.{canonical_data}
use Rattle.base_data.specs.SameData.{same_data}
use Rattle.base_data.specs.declared.rdata.RData.{RData}
use Rattle.rr.specs.SetChanges.{first_of, has_data_of}
use Rattle.rr.specs.declared.record.Record.{Record}
use Rattle.rr.specs.declared.rr_set.indexed_records.Index.{Index}
use Rattle.rr.specs.declared.rr_set.indexed_records.Index.TheVariants.{Missing, Made}

-- The index has the place of each record, where these stand, at the key of its data. So no two of them have equal
-- data. What it has at other keys is open.
pub record IsPlaceIndex (find : List ℕ → Option ℕ) (stands : ℕ → Record RData → Type 0) : Type 0 where
  pub at : (i : ℕ) (r : Record RData) → stands i r → find (canonical_data r.rdata) ≡ Some i

-- the same of records in a row
abbrev pub IsIndexOf : (List ℕ → Option ℕ) → List (Record RData) → Type 0
IsIndexOf find rs = IsPlaceIndex find (λ i r. slice_get rs i ≡ Some r)

-- An index that there is, is that of these records.
abbrev pub IsCurrent : Index → List (Record RData) → Type 0
IsCurrent (Missing scans) rs = Unit {0}
IsCurrent (Made places) rs = IsIndexOf (indexed_at places.value) rs

-- At this place, and at no other, there is a record of this data.
pub record IsOnlyAt (rdata : RData) (rs : List (Record RData)) (p : ℕ) : Type 0 where
  pub known : Record RData
  pub here : slice_get rs p ≡ Some known
  pub same : same_data known.rdata rdata ≡ true
  pub others : (i : ℕ) (r : Record RData) → i ≢ p → slice_get rs i ≡ Some r
      → same_data r.rdata rdata ≡ false

-- At this place stands the first record of this data.
abbrev pub IsFirstAt : RData → List (Record RData) → ℕ → Type 0
IsFirstAt rdata rs p = slice_get rs p ≡ first_of rdata rs

-- The place for r: that of the one record of its data, or after all where there is none.
pub record IsPlaceFor (r : Record RData) (rs : List (Record RData)) (p : ℕ) : Type 0 where
  pub within : p ≤ length rs
  pub known : p < length rs → IsOnlyAt r.rdata rs p
  pub none : p ≡ length rs → list_any (has_data_of r) rs ≡ false
