-- What is known of data of one kind: one value for each kind, in the kind's own file.
use Rattle.base.specs.declared.limits.TheConstants.{MAX_NAME}
use Rattle.std.specs.Prelude.{◌≡◌, ◌≢◌, ℕ, ◌<◌, ◌≤◌, false, All, List, [], length, Option}
use Rattle.base.specs.names.Labels.{AreLabels, NameValue, plain_len}
use Rattle.base.specs.writing.Says.{Says}
use Rattle.base.specs.writing.Written.{Writing}

-- What is known of data, as a value of its kind.
pub record Kind : Type 1 where
  -- the word that it is written as (RFC 1035, 3.3)
  pub word : List ℕ → ℕ → ℕ → Type 0
  -- how many bytes it is with its names uncompressed
  pub plain : ℕ
  -- what is written of it, its names with compression (RFC 1035, 4.1.4) or without it (RFC 3597, 4)
  pub written : Writing
  -- what its type keeps of it: numbers have their widths, names have labels of 1 to 63 bytes and at most 255 bytes,
  -- and options at most 65,535
  pub kept : Type 0
  -- where that stands, the word stands
  pub says : Says written kept word plain []
  -- whether it is read where its word stands
  pub readable : Type 0
  -- its text, as in zone files (RFC 1035, 5.1; RFC 3597, 5)
  pub text : List ℕ
  -- the bytes of its canonical form (RFC 4034, 6.2)
  pub canonical : List ℕ
  -- its names, from the left
  pub held : List NameValue
  -- the places of these, where it begins at a place of a buffer
  pub places : List ℕ → ℕ → List ℕ
  -- the items of its text, a string without its quotes (RFC 1035, 5.1); none of a kind without a text form
  pub items : Option (List (List ℕ))
  -- how each item stands in the text: as it is, or in quotes
  pub shown : List ℕ → List ℕ
  -- Whether its items name it: fields have their widths, and names have texts. Never of a kind without a text form.
  pub spelled : Type 0

-- data without names has no place of one
abbrev pub no_places : List ℕ → ℕ → List ℕ
no_places bytes i = []

-- an item that stands as it is
abbrev pub bare : List ℕ → List ℕ
bare item = item

-- A name as names are held, that its text names without an origin: not the relative one without labels, whose text is
-- empty.
pub record HasText (name : NameValue) : Type 0 where
  pub some : name.absolute ≡ false → name.labels ≢ []
  pub bytes : All (All (λ b. b < 256)) name.labels
  pub labels : AreLabels name.labels
  pub short : plain_len name.labels ≤ MAX_NAME

-- n bytes
pub record AreOctets (n : ℕ) (octets : List ℕ) : Type 0 where
  pub count : length octets ≡ n
  pub bytes : All (λ b. b < 256) octets
