-- Records that keep their places: the place of a record that was taken out is empty.
use Rattle.base_data.specs.SameData.{same_data}
use Rattle.base_data.specs.declared.rdata.RData.{RData}
use Rattle.base.specs.Keys.{indexed_at}
use Rattle.rr.specs.DataIndex.{IsPlaceIndex}
use Rattle.rr.specs.declared.record.Record.{Record}
use Rattle.std.specs.BTreeMap.{BTreeMap}
use Rattle.std.specs.List.{IsDistinct, filter_map, slice_get}
use Rattle.std.specs.Ordering.{on}
use Rattle.std.specs.Prelude.{IfSome, List, Option, Some, Vec, true, ℕ, ◌≡◌}
use Rattle.std.specs.declared.alloc.Global.{Global}

-- the records that are there, in order
abbrev pub present : List (Option (Record RData)) → List (Record RData)
present ps = filter_map (λ (o : Option (Record RData)). o) ps

-- an index that there is, is that of the places
abbrev pub IsIndexed : Option (BTreeMap (Vec ℕ Global) ℕ) → List (Option (Record RData)) → Type 0
IsIndexed index ps = IfSome index (λ m. IsPlaceIndex (indexed_at m) (λ i r. slice_get ps i ≡ Some (Some r)))

-- no two records have equal data, and an index that there is, is that of their places
pub record IsPlaced (index : Option (BTreeMap (Vec ℕ Global) ℕ)) (ps : List (Option (Record RData)))
    : Type 0 where
  pub distinct : IsDistinct (on (λ (r : Record RData). r.rdata) same_data) (present ps)
  pub indexed : IsIndexed index ps

-- at this place there is a record of this data
pub record IsIn (rdata : RData) (ps : List (Option (Record RData))) (p : ℕ) : Type 0 where
  pub known : Record RData
  pub here : slice_get ps p ≡ Some (Some known)
  pub same : same_data known.rdata rdata ≡ true
