-- A walk over a zone's record sets, from owner to owner.
use Rattle.base.specs.names.Labels.{NameValue}
use Rattle.base.specs.RrKey.{key_cmp, key_of}
use Rattle.base.specs.declared.record_type.RecordType.TheVariants as types
use Rattle.base.specs.declared.rr_key.RrKey.{RrKey}
use Rattle.rr.specs.RecordSet.{SetValue}
use Rattle.std.specs.BTreeMap.{BTreeMap, keys}
use Rattle.std.specs.BTreeMap.Range.{entries_between}
use Rattle.std.specs.List.Sorted.{IsStrictlySortedBy}
use Rattle.std.specs.Map.{keys_of}
use Rattle.std.specs.Prelude.{List, ◌≡◌}
use Rattle.std.specs.declared.ops.Bound.TheVariants.{Included, Unbounded}

-- the least key of an owner
abbrev pub least : NameValue → RrKey
least owner = key_of owner types.ZERO

-- the entries from a key on
abbrev pub entries_from : {X : Type 0} → RrKey → List (RrKey × X) → List (RrKey × X)
entries_from k es = entries_between key_cmp (Included k) Unbounded es

-- what is left of a walk over a map has all of its sets from a key on, in order
pub record HasFrom (k : RrKey) (m : BTreeMap RrKey SetValue) (left : List (RrKey × SetValue)) : Type 0 where
  pub all : entries_from k left ≡ entries_from k m.entries
  pub rises : IsStrictlySortedBy key_cmp (keys_of left)
  pub ordered : IsStrictlySortedBy key_cmp (keys m)
