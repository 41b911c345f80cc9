-- What stands where in a message: bytes, numbers, names, and words made of them.
use Rattle.base.specs.declared.limits.TheConstants.{MAX_NAME}
use Rattle.std.specs.Prelude.{◌≡◌, ℕ, ◌+◌, ◌≤◌, List, [], ◌∷◌, length, take, drop}
use Rattle.std.specs.Int.{Width, w16, byte_len, from_be_bytes}
use Rattle.base.specs.names.Labels.{plain_len}
use Rattle.base.specs.reading.Spelling.{Spelled}

-- these bytes stand from i on
pub record Stands (xs bytes : List ℕ) (i : ℕ) : Type 0 where
  pub is : take (length xs) (drop i bytes) ≡ xs

-- a number of width w stands at i, the high byte first (RFC 1035, 2.3.2)
pub record IsNumberAt (w : Width) (bytes : List ℕ) (i n : ℕ) : Type 0 where
  pub inside : i + byte_len w ≤ length bytes
  pub is : n ≡ from_be_bytes w (take (byte_len w) (drop i bytes))

-- words that stand back to back from i up to e
pub data BackToBack {A : Type 0} (Word : ℕ → A → ℕ → Type 0) : ℕ → List A → ℕ → Type 0 where
  none : {i : ℕ} → BackToBack Word i [] i
  more : {i j e : ℕ} {x : A} {xs : List A} → Word i x j → BackToBack Word j xs e
      → BackToBack Word i (x ∷ xs) e

-- A word is a relation between a buffer, the place where it begins and the place where it ends.

-- two words, one after another
abbrev pub Then : (List ℕ → ℕ → ℕ → Type 0) → (List ℕ → ℕ → ℕ → Type 0) → List ℕ → ℕ → ℕ → Type 0
Then first second B i e = (m : ℕ) × first B i m × second B m e

-- exactly these bytes
abbrev pub Bytes : List ℕ → List ℕ → ℕ → ℕ → Type 0
Bytes xs B i e = Stands xs B i × (e ≡ i + length xs)

-- a number of width w
abbrev pub Number : Width → ℕ → List ℕ → ℕ → ℕ → Type 0
Number w n B i e = IsNumberAt w B i n × (e ≡ i + byte_len w)

-- two bytes that count the bytes of a word, and the word
abbrev pub Sized : (List ℕ → ℕ → ℕ → Type 0) → List ℕ → ℕ → ℕ → Type 0
Sized word B i e = (n : ℕ) × (e ≡ i + 2 + n) × IsNumberAt w16 B i n × word B (i + 2) e

-- a name of these labels
abbrev pub NameAt : List (List ℕ) → List ℕ → ℕ → ℕ → Type 0
NameAt labels B i e = Spelled B labels i i e × (plain_len labels ≤ MAX_NAME)
