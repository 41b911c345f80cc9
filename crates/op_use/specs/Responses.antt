-- What a response says (RFC 2308, 5; RFC 1035, 4.1).
use Rattle.std.specs.Prelude.{ℕ, Bool, true, false, not, List, [], ◌∷◌, ◌&&◌, ◌||◌, Option, Some, None, min}
use Rattle.std.specs.List.{list_any}
use Rattle.std.specs.Option.{option_map}
use Rattle.base.specs.names.NameOrder.{is_zone_of, same_name}
use Rattle.base.specs.RecordType.{same_type}
use Rattle.base.specs.declared.record_type.RecordType.{RecordType}
use Rattle.base.specs.declared.record_type.RecordType.TheVariants as types
use Rattle.base_data.specs.Kinds.{soa_in, type_of_data}
use Rattle.base_data.specs.declared.rdata.RData.{RData}
use Rattle.base_data.specs.declared.rdata.soa.SOA.{SOA}
use Rattle.rr.specs.Record.{holding}
use Rattle.rr.specs.declared.record.Record.{Record}
use Rattle.op.specs.Message.{MessageValue}
use Rattle.op.specs.declared.query.Query.{Query}
use Rattle.op.specs.Parts.{all_records}

-- the first of the records that is an SOA
abbrev pub first_soa : List (Record RData) → Option (Record SOA)
first_soa [] = None
first_soa (r ∷ rs) =
    or_found (option_map (λ rdata. holding rdata r) (soa_in r.rdata)) (first_soa rs) where
      or_found : Option (Record SOA) → Option (Record SOA) → Option (Record SOA)
      or_found (Some x) next = Some x
      or_found None next = next

-- the first authority that is an SOA
abbrev pub soa_authority : MessageValue → Option (Record SOA)
soa_authority m = first_soa m.authorities

-- for how long the absence of an answer may be kept (RFC 2308, 5)
abbrev pub negative_ttl : MessageValue → Option ℕ
negative_ttl m = option_map (λ (r : Record SOA). min r.ttl r.rdata.minimum) (soa_authority m)

-- whether a list is empty
abbrev pub is_empty_list : {X : Type 0} → List X → Bool
is_empty_list [] = true
is_empty_list (x ∷ xs) = false

-- whether a record is of a type
abbrev pub is_of : RecordType → Record RData → Bool
is_of type r = same_type (type_of_data r.rdata) type

-- whether the records answer a question
abbrev pub answers_by : RecordType → MessageValue → Query → Bool
answers_by types.ANY m q = list_any (λ r. same_name r.name q.name) (all_records m)
answers_by types.SOA m q =
    list_any (λ r. is_of types.SOA r && is_zone_of r.name q.name) (all_records m)
answers_by type m q = not (is_empty_list m.answers)
    || list_any (λ r. is_of type r && same_name r.name q.name) (all_records m)

-- whether some question is answered
abbrev pub contains_answer : MessageValue → Bool
contains_answer m = list_any (λ q. answers_by q.query_type m q) m.queries
