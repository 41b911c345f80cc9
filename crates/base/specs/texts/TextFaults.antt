-- The faults of zone text as values, and what a refusal says.
use Rattle.std.specs.Prelude.{◌≡◌, ℕ, List, Option, Some, None, Result, Ok, Err}
use Rattle.std.specs.String.{string_bytes}
use Rattle.base.specs.declared.error.parse_error.ParseError.{ParseError}
use Rattle.base.specs.declared.error.parse_error.ParseError.TheVariants as refusals
use Rattle.base.specs.declared.record_type.RecordType.{RecordType}
use Rattle.base.specs.texts.Tokens.{TokenValue, value_of}

-- what zone text is refused for
pub data Fault : Type 0 where
  unexpected : TokenValue → Fault
  lexer : Fault
  says : List ℕ → Fault
  not_found : List ℕ → Fault
  unknown_type : List ℕ → Fault
  unsupported_type : RecordType → Fault
  bad_data : RecordType → Fault
  bad_name : Fault
  bad_ttl : Fault

-- the fault that a refusal says; none where memory ran out
abbrev pub fault_of : ParseError → Option Fault
fault_of refusals.Memory = None
fault_of (refusals.UnexpectedToken t) = Some (unexpected (value_of t))
fault_of refusals.Lexer = Some lexer
fault_of (refusals.Message text) = Some (says text.now)
fault_of (refusals.IncludeNotFound name) = Some (not_found (string_bytes name))
fault_of (refusals.UnknownRecordType text) = Some (unknown_type (string_bytes text))
fault_of (refusals.UnsupportedRecordType type) = Some (unsupported_type type)
fault_of (refusals.BadData type) = Some (bad_data type)
fault_of refusals.BadName = Some bad_name
fault_of refusals.BadTtl = Some bad_ttl

-- where a fault was said, it is what the definition makes
abbrev pub FailsBy : {A : Type 0} → Option Fault → Result A Fault → Type 0
FailsBy None made = Unit {0}
FailsBy (Some fault) made = made ≡ Err fault

-- A refusal is what the definition makes: its fault. Memory may run out at any time.
abbrev pub FailsWith : {A : Type 0} → ParseError → Result A Fault → Type 0
FailsWith e made = FailsBy (fault_of e) made

-- What was answered is what the definition makes, or its fault. Memory may run out at any time.
abbrev pub Gives : {X A : Type 0} → (X → A) → Result X ParseError → Result A Fault → Type 0
Gives view (Ok x) made = made ≡ Ok (view x)
Gives view (Err e) made = FailsWith e made
