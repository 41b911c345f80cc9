-- The table of suffixes: a list in order of offset, and what finds its suffixes.
use Rattle.base.specs.declared.limits.TheConstants.{POINTER_LIMIT}
use Rattle.std.specs.Prelude.{◌≡◌, ◌≢◌, ℕ, zero, suc, ◌+◌, ◌-◌, ◌*◌, ◌/◌, ◌%◌, ◌^◌, ◌<◌, ◌≤◌, List, [], ◌∷◌, ◌++◌}
use Rattle.std.specs.Prelude.{Option, None}
use Rattle.std.specs.Prelude.{Some, Vec, All, length, take, drop, get_or}
use Rattle.std.specs.BTreeMap.{BTreeMap}
use Rattle.std.specs.Int.{w32, to_be_bytes}
use Rattle.std.specs.List.{AllPairs, slice_range}
use Rattle.std.specs.Option.{option_or}
use Rattle.std.specs.declared.alloc.Global.{Global}
use Rattle.base.specs.Keys.{indexed_at}
use Rattle.base.specs.declared.wire.suffix_table.TheConstants.{CELLS, CELL_SHIFT, OF_THE_NEXT, SPREAD, WAYS}
use Rattle.base.specs.declared.wire.suffix_table.first.TheConstants.{HINT_SHIFT}
use Rattle.base.specs.declared.wire.suffix_table.first.Entry.{Entry}
use Rattle.base.specs.names.Labels.{wire_of, labels_of, IsLabelRun, IsWire}
use Rattle.base.specs.writing.State.{Stored, front_number}
use Rattle.base.specs.writing.Written.{found_in}

-- suffixes in order of offset, each once
abbrev pub InOrder : List Stored → Type 0
InOrder ts = AllPairs (λ s t. (s.offset < t.offset) × (s.labels ≢ t.labels)) ts

-- the labels of one of the first suffixes, each with its length before it
abbrev pub bytes_of : List ℕ → Entry → List ℕ
bytes_of text e = slice_range text e.start e.end

-- the suffix itself
abbrev pub stored_at : List ℕ → Entry → Stored
stored_at text e = record { labels = labels_of (bytes_of text e); offset = e.offset }

-- its labels stand among the bytes in use, and a pointer can name its offset
pub record IsEntry (text : List ℕ) (e : Entry) : Type 0 where
  pub ordered : e.start ≤ e.end
  pub inside : e.end ≤ length text
  pub wire : IsWire (bytes_of text e)
  pub front : e.front ≡ front_number (bytes_of text e)
  pub near : e.offset < POINTER_LIMIT

-- the place among the hints of those of a number: the highest bits of a product, for which all its bits count
abbrev pub slot_of : ℕ → ℕ
slot_of front = ((front * SPREAD) % 2 ^ 32) / 2 ^ HINT_SHIFT

-- each of the first suffixes has a hint at the place for its number, that suffix or another
abbrev pub AreHinted : List ℕ → List Entry → Type 0
AreHinted hints es = All (λ (e : Entry). 0 < get_or hints (slot_of e.front) 0) es

-- a number and those of each eight bytes, all counted
abbrev pub numbered : ℕ → List ℕ → ℕ
numbered n (a ∷ b ∷ c ∷ d ∷ e ∷ f ∷ g ∷ h ∷ rest) =
    numbered (((n * OF_THE_NEXT) % 2 ^ 32 + front_number (a ∷ b ∷ c ∷ d ∷ e ∷ f ∷ g ∷ h ∷ [])) % 2 ^ 32) rest
numbered n bytes = n

-- a number of how many bytes there are, of each eight of them, and of the last eight
abbrev pub key_number : List ℕ → ℕ
key_number bytes =
    ((numbered (length bytes) bytes * OF_THE_NEXT) % 2 ^ 32 + front_number (drop (length bytes - 8) bytes)) % 2 ^ 32

-- the key of a suffix of these bytes: their number, the highest byte first, and all of them
abbrev pub index_key : List ℕ → List ℕ
index_key bytes = to_be_bytes w32 (key_number bytes) ++ bytes

-- the first of the cells for suffixes of these bytes: the highest bits of a product of their number say which
abbrev pub cell_of : List ℕ → ℕ
cell_of bytes = (((key_number bytes * SPREAD) % 2 ^ 32) / 2 ^ CELL_SHIFT) * WAYS

-- those cells
abbrev pub cells_of : List ℕ → List ℕ → List ℕ
cells_of cells bytes = take WAYS (drop (cell_of bytes) cells)

-- how many cells stand before the first free one
abbrev pub taken : List ℕ → ℕ
taken [] = 0
taken (zero ∷ cells) = 0
taken (suc place ∷ cells) = suc (taken cells)

-- where a suffix of these labels is spelled: one at the places that cells have, one less than each says, up to the
-- first
-- free cell; where no cell is free, else as is said
abbrev pub found_at : List Stored → Option ℕ → List (List ℕ) → List ℕ → Option ℕ
found_at ts otherwise labels [] = otherwise
found_at ts otherwise labels (zero ∷ cells) = None
found_at ts otherwise labels (suc place ∷ cells) =
    option_or (found_in (take 1 (drop place ts)) labels) (found_at ts otherwise labels cells)

-- the offset that the index has for a suffix of these bytes
abbrev pub offset_in : BTreeMap (Vec ℕ Global) ℕ → List ℕ → Option ℕ
offset_in index bytes = indexed_at index (index_key bytes)

-- The first suffixes stand in a list alone, the others in a second one; all stand in order of offset, each once. Each
-- of
-- the others is found by its cells, or by the index where none of them was free, and nothing else is.
pub record IsTable (find : List ℕ → Option ℕ) (cells : List ℕ) (first others : List Stored) : Type 0 where
  pub order : InOrder (first ++ others)
  pub near : All (λ t. t.offset < POINTER_LIMIT) others
  pub finds : (labels : List (List ℕ))
      → found_at others (find (wire_of labels)) labels (cells_of cells (wire_of labels)) ≡ found_in others labels
  pub indexed : (labels : List (List ℕ)) (o : ℕ) → find (wire_of labels) ≡ Some o → found_in others labels ≡ Some o
  pub only : (bytes : List ℕ) (o : ℕ) → find bytes ≡ Some o → IsLabelRun bytes
  pub made : 0 < length others → CELLS ≤ length cells
