-- What the check of zone text tells its caller.
use Rattle.std.specs.Prelude.{◌≡◌, ◌⊎◌, ◌++◌, ℕ, ℤ, List, [], ◌∷◌, drop, length, neg_ℤ, pos, take}
use Rattle.std.specs.Prelude.{Option, Some, None, Ok, Err}
use Rattle.tasks.specs.Asked.{Asked}
use Rattle.tasks.specs.Refusals.{no_origin}
use Rattle.tasks.specs.ZoneCheck.{ToldFault, zone_checked}
use Rattle.tasks.specs.declared.included.Included.{Included}
use Rattle.capi.specs.declared.zone_check.FaultFound.{FaultFound}

-- The fault of a text that a zone is to be opened at; of no origin it is asked for none.
abbrev pub zone_fault : List ℕ → List ℕ → List Included → List ℕ → Asked (Option ToldFault)
zone_fault [] text included bytes = Err no_origin
zone_fault (c ∷ cs) text included bytes = zone_checked (c ∷ cs) text included bytes

-- a buffer at whose front bytes stand, as many as have room
abbrev pub fronted : List ℕ → List ℕ → List ℕ
fronted bytes old = take (length old) bytes ++ drop (length bytes) old

-- Nothing is told: both buffers stay, and the place is none.
pub record IsNotTold (old_name new_name old_words new_words : List ℕ) (found : FaultFound)
    : Type 0 where
  pub name : new_name ≡ old_name
  pub words : new_words ≡ old_words
  pub nowhere : found ≡ record { line = 0; column = 0; name_len = 0; words_len = 0 }

-- A fault is told: the name of its text and words stand in the buffers, and its place and how long they are is found.
-- Which words, is left open.
pub record IsToldAt (fault : ToldFault) (old_name new_name old_words new_words : List ℕ) (found : FaultFound)
    : Type 0 where
  pub name : new_name ≡ fronted fault.name old_name
  pub words : List ℕ
  pub words_are : new_words ≡ fronted words old_words
  pub place : found ≡ record {
    line = fault.position.line;
    column = fault.position.column;
    name_len = length fault.name;
    words_len = length words;
  }

-- the fault that was found is told, if there is one
abbrev pub IsTold : Asked (Option ToldFault) → List ℕ → List ℕ → List ℕ → List ℕ → FaultFound → Type 0
IsTold (Ok (Some fault)) old_name new_name old_words new_words found =
    IsToldAt fault old_name new_name old_words new_words found
IsTold other old_name new_name old_words new_words found =
    IsNotTold old_name new_name old_words new_words found

-- what is answered: 0 of a text without a fault, else minus the number of the refusal
abbrev pub check_answer : Asked (Option ToldFault) → ℤ
check_answer (Ok None) = pos 0
check_answer (Ok (Some fault)) = neg_ℤ (pos fault.number)
check_answer (Err number) = neg_ℤ (pos number)

-- both of a check
abbrev pub IsChecked : Asked (Option ToldFault) → List ℕ → List ℕ → List ℕ → List ℕ → FaultFound → ℤ
    → Type 0
IsChecked asked old_name new_name old_words new_words found result =
    IsTold asked old_name new_name old_words new_words found × (result ≡ check_answer asked)

-- Where 0 is answered, nothing is told, and nothing where memory ran out. Of any other answer the fault is told, if
-- there is one.
abbrev pub IsToldOf : Asked (Option ToldFault) → List ℕ → List ℕ → List ℕ → List ℕ → FaultFound → ℤ
    → Type 0
IsToldOf asked old_name new_name old_words new_words found result =
    ((result ≡ pos 0) ⊎ (result ≡ neg_ℤ (pos 3)))
    × IsNotTold old_name new_name old_words new_words found
    ⊎ IsTold asked old_name new_name old_words new_words found
