-- A domain name as a list of labels (RFC 1035, 3.1), and its labels in one run of bytes.
use Rattle.base.specs.declared.limits.TheConstants.{MAX_LABEL, MAX_LABELS, MAX_NAME}
use Rattle.std.specs.Prelude.{◌≡◌, ℕ, ◌+◌, ◌≤◌, Bool, List, [], ◌∷◌, ◌++◌, length, take, drop, zero, suc}

-- the labels from the left, and whether the name is absolute
pub record NameValue : Type 0 where
  pub labels : List (List ℕ)
  pub absolute : Bool

-- how many bytes the labels are, each with its length before it
abbrev pub size_of : List (List ℕ) → ℕ
size_of [] = 0
size_of (label ∷ labels) = 1 + length label + size_of labels

-- how many bytes a name is without compression, its final zero byte counted
abbrev pub plain_len : List (List ℕ) → ℕ
plain_len labels = size_of labels + 1

-- a label has 1 to 63 bytes
pub record IsLabel (label : List ℕ) : Type 0 where
  pub some : 1 ≤ length label
  pub short : length label ≤ MAX_LABEL

-- each is a label
abbrev pub AreLabels : List (List ℕ) → Type 0
AreLabels [] = Unit {0}
AreLabels (label ∷ labels) = IsLabel label × AreLabels labels

-- labels of a name: it has at most 255 bytes (RFC 1035, 2.3.4)
abbrev pub AreNameLabels : List (List ℕ) → Type 0
AreNameLabels labels = AreLabels labels × (plain_len labels ≤ MAX_NAME)

-- the labels as bytes, each with its length before it
unfoldable pub wire_of : List (List ℕ) → List ℕ
wire_of [] = []
wire_of (label ∷ labels) = (length label ∷ label) ++ wire_of labels

-- the labels of such bytes, the first n of them
unfoldable pub cut_labels : ℕ → List ℕ → List (List ℕ)
cut_labels zero bytes = []
cut_labels (suc n) [] = []
cut_labels (suc n) (len ∷ bytes) = take len bytes ∷ cut_labels n (drop len bytes)

-- the labels of bytes that have each with its length before it
unfoldable pub labels_of : List ℕ → List (List ℕ)
labels_of bytes = cut_labels (length bytes) bytes

-- bytes that are labels, each with its length before it, and nothing else
abbrev pub IsLabelRun : List ℕ → Type 0
IsLabelRun bytes = wire_of (labels_of bytes) ≡ bytes

-- bytes that are labels with their lengths before them, of a name of at most 255 bytes
pub record IsWire (bytes : List ℕ) : Type 0 where
  pub whole : IsLabelRun bytes
  pub labels : AreLabels (labels_of bytes)
  pub short : length bytes ≤ MAX_LABELS
