-- The labels that are kept at the offsets that compression pointers led to.
use Rattle.base.specs.declared.limits.TheConstants.{MAX_LABELS, POINTER_LIMIT}
use Rattle.std.specs.Prelude.{◌≡◌, ◌≢◌, ℕ, zero, suc, true, false, ◌+◌, ◌-◌, ◌<◌, ◌≤◌, ◌==◌, List}
use Rattle.std.specs.Prelude.{[], ◌∷◌, ◌++◌, Option, Some, None, if◌then◌else◌, get_or, length, map}
use Rattle.std.specs.Prelude.{option_map, take, unwrap_or}
use Rattle.std.specs.Prelude.{IfSome, drop}
use Rattle.std.specs.Borrow.{Bor}
use Rattle.std.specs.FinMap as labels_by
use Rattle.std.specs.FinSet as set
use Rattle.std.specs.List.{AllByRecursion, slice_range}
use Rattle.std.specs.Ordering.{nat_cmp}
use Rattle.base.specs.declared.name.reading.NamePiece.{NamePiece}
use Rattle.base.specs.declared.wire.pointer_cache.TargetLabels.{TargetLabels}
use Rattle.base.specs.declared.wire.pointer_cache.TargetLabels.TheVariants.{Lent, Copied}
use Rattle.base.specs.declared.wire.pointer_cache.Target.{Target}
use Rattle.base.specs.declared.wire.pointer_cache.FirstTargets.{FirstTargets}
use Rattle.base.specs.names.Labels.{IsWire, labels_of}
use Rattle.base.specs.reading.Passing.{inserted, passed}
use Rattle.base.specs.reading.Pieces.{IsPiece}
use Rattle.base.specs.reading.Reader.{Reader}
use Rattle.base.specs.reading.Spelling.{Spelled}
use Rattle.base.specs.reading.Tracks.{IsCounted}

-- these bytes are the labels that are spelled at t
pub record IsKept (bytes : List ℕ) (t : ℕ) (items : List ℕ) : Type 0 where
  pub end : ℕ
  pub near : t < POINTER_LIMIT
  pub wire : IsWire items
  pub spelled : Spelled bytes (labels_of items) t t end

-- after this many bytes of labels, those that are spelled at t are too long for a name
pub record AreTooLong (bytes : List ℕ) (t used : ℕ) : Type 0 where
  pub items : List ℕ
  pub kept : IsKept bytes t items
  pub long : MAX_LABELS < used + length items

-- after this many bytes of labels, a name has room for those that are spelled at t
pub record Fit (bytes : List ℕ) (t used : ℕ) : Type 0 where
  pub items : List ℕ
  pub kept : IsKept bytes t items
  pub short : used + length items ≤ MAX_LABELS

-- the labels by the offset that a pointer led to
abbrev pub Cache : Type 0
Cache = labels_by.FinMap nat_cmp (List ℕ)

-- the labels that are kept are those that are spelled at their offsets
abbrev pub AreKept : List ℕ → Cache → Type 0
AreKept bytes cache = (t : ℕ) (items : List ℕ) → labels_by.get cache t ≡ Some items
    → IsKept bytes t items

-- the offsets whose labels are kept
abbrev pub targets_of : Cache → set.FinSet nat_cmp
targets_of cache = set.from_list (labels_by.keys cache)

-- the labels that a look-up found
abbrev pub labels_now : Option (Bor (List ℕ)) → Option (List ℕ)
labels_now found = option_map (λ labels. labels.now) found

-- the labels that are kept at an offset, if any
abbrev pub kept_after : Cache → Option ℕ → List ℕ
kept_after cache None = []
kept_after cache (Some t) = unwrap_or (labels_by.get cache t) []

-- ---- how a cache has them: lent, or at a place among those that were copied

-- how many bytes the labels at a place are: the byte before it
abbrev pub len_at : List ℕ → ℕ → ℕ
len_at copied place = get_or copied (place - 1) 0

-- the labels from a place on
abbrev pub labels_from : List ℕ → ℕ → List ℕ
labels_from copied place = slice_range copied place (place + len_at copied place)

-- the labels at a place, and none at 0
abbrev pub labels_in : List ℕ → ℕ → Option (List ℕ)
labels_in copied place = if place == 0 then None else Some (labels_from copied place)

-- the bytes that were copied: those inside the value, unless there were more
abbrev pub copied_bytes : ℕ → List ℕ → List ℕ → List ℕ
copied_bytes used first [] = take used first
copied_bytes used first (b ∷ bs) = b ∷ bs

-- labels after those that were copied before, with their number before them
abbrev pub with_copied : List ℕ → List ℕ → List ℕ
with_copied copied labels = copied ++ (length labels ∷ labels)

-- the labels at a place are there
abbrev pub IsInside : List ℕ → ℕ → Type 0
IsInside copied place = place ≢ 0 → place + len_at copied place ≤ length copied

-- the labels at a target
abbrev pub target_labels : List ℕ → TargetLabels → List ℕ
target_labels copied (Lent labels) = labels.now
target_labels copied (Copied place) = labels_from copied place

-- the same, and none of no target
abbrev pub rest_labels : List ℕ → Option TargetLabels → List ℕ
rest_labels copied None = []
rest_labels copied (Some labels) = target_labels copied labels

-- those that are lent are a name's, and those that are copied have a place, and are there
abbrev pub AreThere : List ℕ → TargetLabels → Type 0
AreThere copied (Lent labels) = length labels.now ≤ MAX_LABELS
AreThere copied (Copied place) = (place ≢ 0) × IsInside copied place

-- the same of the labels at a target
abbrev pub IsTargetThere : List ℕ → Target → Type 0
IsTargetThere copied target = AreThere copied target.labels

-- more labels are copied, after those from before
pub record IsLonger (old new : List ℕ) : Type 0 where
  pub more : List ℕ
  pub is : new ≡ old ++ more

-- those of the first targets that are in use
abbrev pub first_of : FirstTargets → List Target
first_of first = take first.count first.all

-- no target stands after the last
abbrev pub AreUpTo : ℕ → List Target → Type 0
AreUpTo last targets = AllByRecursion (λ (t : Target). t.offset ≤ last) targets

-- targets with their labels
abbrev pub target_entries : List ℕ → List Target → List (ℕ × List ℕ)
target_entries copied targets = map (λ t. (t.offset, target_labels copied t.labels)) targets

-- the targets that have a place, counted from offset t on
abbrev pub entries_from : ℕ → List ℕ → List ℕ → List (ℕ × List ℕ)
entries_from t copied [] = []
entries_from t copied (zero ∷ places) = entries_from (suc t) copied places
entries_from t copied (suc n ∷ places) =
    (t, labels_from copied (suc n)) ∷ entries_from (suc t) copied places

-- the targets that have a place by their offset, and the first ones
abbrev pub cache_of : List ℕ → List ℕ → List Target → Cache
cache_of copied places first =
    labels_by.from_entries (entries_from 0 copied places ++ target_entries copied first)

-- ---- the targets of a name that is read

-- A pointer can lead to t, which isn't kept, and to all that is.
pub record IsNewTarget (reader : Reader) (t : ℕ) : Type 0 where
  pub inside : t ≤ length reader.bytes
  pub near : t < POINTER_LIMIT
  pub absent : set.contains reader.kept t ≡ false
  pub all_near : (q : ℕ) → set.contains reader.kept q ≡ true → q < POINTER_LIMIT

-- The labels at t can be kept, which aren't yet: this piece stands there, and its pointer leads to an offset before it
-- whose labels are kept and fit.
pub record CanKeep (reader : Reader) (t : ℕ) (piece : NamePiece) : Type 0 where
  pub near : t < POINTER_LIMIT
  pub inside : t ≤ length reader.bytes
  pub absent : set.contains reader.kept t ≡ false
  pub stands : IsPiece (drop t reader.bytes) 0 piece
  pub after : IfSome piece.pointer
      (λ q. (q < t) × ((set.contains reader.kept q ≡ true) × Fit reader.bytes q piece.len))

-- The offset t and what is passed from there are kept in addition, and as many pointers were followed.
pub record IsAdded (t : ℕ) (old new : Reader) : Type 0 where
  pub now : new ≡ record old { kept = new.kept; jumps = new.jumps }
  pub kept : (xs : List (List ℕ)) (e : ℕ) (h : Spelled old.bytes xs t t e)
      → new.kept ≡ inserted (t ∷ passed h) old.kept
  pub counts : IsCounted old → IsCounted new
