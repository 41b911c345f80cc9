-- The name that a text names, as a function (RFC 1035, 5.1).
use Rattle.base.specs.declared.limits.TheConstants.{MAX_LABEL, MAX_NAME}
use Rattle.std.specs.Prelude.{ℕ, zero, suc, Bool, true, false, ◌&&◌, List, [], ◌∷◌, ◌++◌, length, nat_le, if◌then◌else◌}
use Rattle.std.specs.Prelude.{Option, Some, None, Result, Ok, Err}
use Rattle.std.specs.Str.{bytes_eq}
use Rattle.base.specs.names.Labels.{NameValue, plain_len}
use Rattle.base.specs.texts.NameText.{Character, dot, byte, first_char}
use Rattle.base.specs.texts.TextFaults.{Fault, bad_name}

-- this character before those of the rest
abbrev pub char_on : Character → Option (List Character) → Option (List Character)
char_on c None = None
char_on c (Some cs) = Some (c ∷ cs)

-- the first character, and then those of the text after it
abbrev pub chars_on : (List ℕ → Option (List Character)) → Option (Character × List ℕ)
    → Option (List Character)
chars_on more None = None
chars_on more (Some found) = char_on found.0 (more found.1)

-- the characters of a text, `steps` of them at most
unfoldable pub chars : ℕ → List ℕ → Option (List Character)
chars steps [] = Some []
chars zero (c ∷ text) = None
chars (suc steps) (c ∷ text) = chars_on (chars steps) (first_char (c ∷ text))

-- a byte at the beginning of the first piece
abbrev pub onto_first : ℕ → List (List ℕ) → List (List ℕ)
onto_first b [] = (b ∷ []) ∷ []
onto_first b (x ∷ xs) = (b ∷ x) ∷ xs

-- what stands between the dots
abbrev pub pieces : List Character → List (List ℕ)
pieces [] = [] ∷ []
pieces (dot ∷ cs) = [] ∷ pieces cs
pieces (byte b ∷ cs) = onto_first b (pieces cs)

-- the labels, and whether an empty piece after the last dot ends the name
abbrev pub without_end : List (List ℕ) → List (List ℕ) × Bool
without_end [] = ([], false)
without_end ([] ∷ []) = ([], true)
without_end ((b ∷ x) ∷ []) = ((b ∷ x) ∷ [], false)
without_end (x ∷ y ∷ ys) = (x ∷ (without_end (y ∷ ys)).0, (without_end (y ∷ ys)).1)

-- each has 1 to 63 bytes (RFC 1035, 2.3.4)
abbrev pub are_labels : List (List ℕ) → Bool
are_labels [] = true
are_labels (x ∷ xs) = nat_le 1 (length x) && nat_le (length x) MAX_LABEL && are_labels xs

-- one label or more, each of 1 to 63 bytes, of a name of at most 255 bytes (RFC 1035, 2.3.4)
abbrev pub is_name : List (List ℕ) → Bool
is_name labels = nat_le 1 (length labels) && are_labels labels && nat_le (plain_len labels) MAX_NAME

-- labels, if they are those of a name
abbrev pub if_name : List (List ℕ) × Bool → Option (List (List ℕ) × Bool)
if_name found = if is_name found.0 then Some found else None

-- the labels of characters, and whether the last of these is a dot
abbrev pub labels_of_chars : Option (List Character) → Option (List (List ℕ) × Bool)
labels_of_chars None = None
labels_of_chars (Some cs) = if_name (without_end (pieces cs))

-- the labels of a text, and whether it ends with a dot
unfoldable pub text_labels : List ℕ → Option (List (List ℕ) × Bool)
text_labels text = labels_of_chars (chars (length text) text)

-- The name of these labels. With a dot at the end it is absolute and complete; else it is relative, and the origin,
-- where one is given, stands after it (RFC 1035, 5.1).
abbrev pub completed : Option NameValue → List (List ℕ) × Bool → Result NameValue Fault
completed origin (labels, true) = Ok (record { labels = labels; absolute = true })
completed None (labels, false) = Ok (record { labels = labels; absolute = false })
completed (Some o) (labels, false) =
    if nat_le (plain_len (labels ++ o.labels)) MAX_NAME
    then Ok (record { labels = labels ++ o.labels; absolute = true }) else Err bad_name

-- the same of labels, where the text has them
abbrev pub completed_if : Option NameValue → Option (List (List ℕ) × Bool) → Result NameValue Fault
completed_if origin None = Err bad_name
completed_if origin (Some found) = completed origin found

-- what @ names: the origin as it is
abbrev pub origin_name : Option NameValue → Result NameValue Fault
origin_name None = Err bad_name
origin_name (Some o) = Ok o

-- the name that a text names, where an origin may be given: . is the root, and a free standing @ the origin
unfoldable pub name_of : List ℕ → Option NameValue → Result NameValue Fault
name_of text origin =
    if bytes_eq text (46 ∷ []) then Ok (record { labels = []; absolute = true })
    else (if bytes_eq text (64 ∷ []) then origin_name origin
    else completed_if origin (text_labels text))
