-- The flags of the header (RFC 1035, 4.1.1; AD and CD of RFC 4035, 3.1.6).
use Rattle.std.specs.Prelude.{ℕ, Bool, List, [], ◌++◌, ◌∷◌, codes, if◌then◌else◌}
use Rattle.std.specs.List.{join_with_byte}
use Rattle.op.specs.declared.header.flags.Flags.{Flags}

-- the one name, if its flag is set
abbrev pub name_if : Bool → List ℕ → List (List ℕ)
name_if flag name = if flag then name ∷ [] else []

-- the short names of those that are set
abbrev pub flag_names : Flags → List (List ℕ)
flag_names flags =
    name_if flags.recursion_desired (codes "RD") ++ name_if flags.checking_disabled (codes "CD")
    ++ name_if flags.truncation (codes "TC") ++ name_if flags.authoritative (codes "AA")
    ++ name_if flags.recursion_available (codes "RA") ++ name_if flags.authentic_data (codes "AD")

-- with a comma between each two
abbrev pub flags_text : Flags → List ℕ
flags_text flags = join_with_byte 44 (flag_names flags)

-- a name as it stands in such a text: there if its flag is set, and with a comma in front if another stands before it
abbrev pub item_text : Bool → Bool → List ℕ → List ℕ
item_text is_set is_after name = if is_set then (if is_after then 44 ∷ name else name) else []
