-- Laws of record sets.
use Rattle.std.specs.Prelude.{ℕ, Bool, true, false, List, [], ◌∷◌, ◌≡◌, ◌≢◌}
use Rattle.base.specs.names.Labels.{NameValue}
use Rattle.base.specs.declared.record_type.RecordType.{RecordType}
use Rattle.base.specs.declared.record_type.RecordType.TheVariants as types
use Rattle.base_data.specs.declared.rdata.RData.{RData}
use Rattle.base_data.specs.declared.rdata.RData.TheVariants as kinds
use Rattle.base_data.specs.declared.rdata.soa.SOA.{SOA}
use Rattle.rr.specs.RecordSet.{IsTidy, SetValue, empty_set, is_ns, set_of}
use Rattle.rr.specs.SerialOrder.{is_greater}
use Rattle.rr.specs.SetChanges.{MayAdd, MayEnter, add_data, has_entry, insert, is_later, remove}
use Rattle.rr.specs.declared.record.Record.{Record}

-- no equal data comes into a tidy set, and nothing else that isn't tidy
abbrev pub InsertKeepsTidy : Type 0
InsertKeepsTidy = (set : SetValue) (r : Record RData) (serial : ℕ) → MayEnter set r → IsTidy set
    → IsTidy (insert set r serial).1

-- the same of data that a set makes a record of
abbrev pub AddKeepsTidy : Type 0
AddKeepsTidy = (set : SetValue) (rdata : RData) → MayAdd set rdata → IsTidy set
    → IsTidy (add_data set rdata).1

-- what is left of a tidy set is tidy
abbrev pub RemoveKeepsTidy : Type 0
RemoveKeepsTidy = (set : SetValue) (r : Record RData) (serial : ℕ) → IsTidy set
    → IsTidy (remove set r serial).1

-- a set without records is tidy
abbrev pub EmptyIsTidy : Type 0
EmptyIsTidy = (name : NameValue) (type : RecordType) (ttl serial : ℕ)
    → IsTidy (empty_set name type ttl serial)

-- the set of one record is tidy
abbrev pub OneIsTidy : Type 0
OneIsTidy = (r : Record RData) → IsTidy (set_of r)

-- an `insert` that answers false changes nothing
abbrev pub FalseKeeps : Type 0
FalseKeeps = (set : SetValue) (r : Record RData) (serial : ℕ) → (insert set r serial).0 ≡ false
    → (insert set r serial).1 ≡ set

-- after an `insert` that answers true the set holds an equal record of the new TTL
abbrev pub TrueHolds : Type 0
TrueHolds = (set : SetValue) (r : Record RData) (serial : ℕ) → (insert set r serial).0 ≡ true
    → has_entry r (insert set r serial).1.records ≡ true

-- A set does not become empty, whatever is removed from it, put in, or made a record of.
pub record StaysFilled (set : SetValue) : Type 0 where
  pub removed : (r : Record RData) (serial : ℕ) → (remove set r serial).1.records ≢ []
  pub inserted : (r : Record RData) (serial : ℕ) → (insert set r serial).1.records ≢ []
  pub added : (rdata : RData) → (add_data set rdata).1.records ≢ []

-- a tidy set of name servers with a record does not become empty
abbrev pub LastServerStays : Type 0
LastServerStays = (set : SetValue) → IsTidy set → is_ns set.record_type ≡ true → set.records ≢ []
    → StaysFilled set

-- nothing is removed from a tidy set of an SOA
abbrev pub SOAStays : Type 0
SOAStays = (set : SetValue) (r : Record RData) (serial : ℕ) → IsTidy set
    → set.record_type ≡ types.SOA → ◌≡◌ {A = Bool × SetValue} (remove set r serial) (false, set)

-- Both are SOA data, the new one of a greater serial.
pub record IsRaised (old_data new_data : RData) : Type 0 where
  pub old : SOA
  pub new : SOA
  pub is_old : old_data ≡ kinds.SOA old
  pub is_new : new_data ≡ kinds.SOA new
  pub raised : is_greater old.serial new.serial ≡ true

-- an `insert` into an SOA set with records that answers true leaves the new one alone, of a greater serial
abbrev pub SerialRises : Type 0
SerialRises = (set : SetValue) (x r : Record RData) (xs : List (Record RData)) (serial : ℕ)
    → set.record_type ≡ types.SOA → set.records ≡ x ∷ xs
    → (insert set r serial).0 ≡ true
    → IsRaised x.rdata r.rdata × ((insert set r serial).1.records ≡ r ∷ [])

-- one of no greater serial leaves the set as it is
abbrev pub SerialStays : Type 0
SerialStays = (set : SetValue) (x r : Record RData) (xs : List (Record RData)) (serial : ℕ)
    → set.record_type ≡ types.SOA → set.records ≡ x ∷ xs
    → is_later x.rdata r.rdata ≡ false
    → ◌≡◌ {A = Bool × SetValue} (insert set r serial) (false, set)
