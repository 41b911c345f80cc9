-- A chain of aliases (RFC 1034, 3.6.2).
use Rattle.authority.specs.Answer.{AnswerValue, negative, owns}
use Rattle.authority.specs.Lookup.{Alias, Cut, Data, Finding, NoName, lookup, records}
use Rattle.base.specs.names.Labels.{NameValue}
use Rattle.base.specs.RrKey.{key_of}
use Rattle.base.specs.declared.record_type.RecordType.TheVariants as types
use Rattle.base.specs.declared.record_type.RecordType.{RecordType}
use Rattle.base_data.specs.declared.rdata.RData.{RData}
use Rattle.op.specs.declared.response_code.ResponseCode.TheVariants.{NXDomain, NoError, ServFail}
use Rattle.op.specs.declared.response_code.ResponseCode.{ResponseCode}
use Rattle.op_use.specs.Zone.{Zone}
use Rattle.rr.specs.declared.record.Record.{Record}
use Rattle.std.specs.Prelude.{List, [], false, length, ℕ, ◌++◌, ◌∷◌, ◌≡◌, ◌≤◌, ◌⊎◌}

-- Each alias is what the zone has for the name to which the one before it leads; they lead from the first name to the
-- last.
pub data IsChain (z : Zone) (t : RecordType) : NameValue → List (Record RData) → NameValue → Type 0 where
  ends : (n : NameValue) → IsChain z t n [] n
  leads : (n target last : NameValue) (r : Record RData) (rs : List (Record RData)) → lookup z t n ≡ Alias r target
      → IsChain z t target rs last → IsChain z t n (r ∷ rs) last

-- no owner of these records comes twice, nor is one an owner of those before
abbrev pub AreNew : List (Record RData) → List (Record RData) → Type 0
AreNew before [] = Unit {0}
AreNew before (r ∷ rs) = (owns r.name before ≡ false) × AreNew (before ++ r ∷ []) rs

-- Answers after others are a chain of aliases, so many at most, of which no owner comes twice or before, and then the
-- records that the zone has for the last name, or none.
pub record AreLed (z : Zone) (t : RecordType) (n : NameValue) (most : ℕ) (before answers : List (Record RData))
    : Type 0 where
  pub chain : List (Record RData)
  pub last : NameValue
  pub records : List (Record RData)
  pub answers_are : answers ≡ chain ++ records
  pub is_chain : IsChain z t n chain last
  pub short : length chain ≤ most
  pub distinct : AreNew before chain
  pub found : (records ≡ []) ⊎ (lookup z t last ≡ Data records)

-- the authorities for what was found for a name: the SOA for no name and no data (RFC 2308, 2), the name servers of a
-- cut, and else none
abbrev pub authorities_for : Zone → NameValue → Finding → List (Record RData)
authorities_for z n NoName = negative z n
authorities_for z n (Data []) = negative z n
authorities_for z n (Cut m) = records z m (key_of m types.NS)
authorities_for z n _ = []

-- the code for what was found
abbrev pub code_for : Finding → ResponseCode
code_for NoName = NXDomain
code_for _ = NoError

-- The code and the authorities of an answer are those for what the zone has for this name, or it failed, with none.
abbrev pub EndsFor : Zone → RecordType → NameValue → AnswerValue → Type 0
EndsFor z t n a =
    ((a.code ≡ code_for (lookup z t n)) × (a.authorities ≡ authorities_for z n (lookup z t n)))
    ⊎ ((a.code ≡ ServFail) × (a.authorities ≡ []))
