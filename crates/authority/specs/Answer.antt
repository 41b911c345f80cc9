-- What a server answers to a question from a zone (RFC 1034, 4.3.2; RFC 2308; RFC 6604).
use Rattle.authority.specs.Lookup.{Alias, Cut, Data, Finding, NoName, Outside, lookup, records}
use Rattle.authority.specs.declared.answer.Answer.{Answer}
use Rattle.base.specs.names.Labels.{NameValue}
use Rattle.base.specs.names.NameOrder.{same_name}
use Rattle.base.specs.RecordType.{same_type}
use Rattle.base.specs.RrKey.{key_of}
use Rattle.base.specs.declared.record_type.RecordType.TheVariants as types
use Rattle.base.specs.declared.record_type.RecordType.{RecordType}
use Rattle.base_data.specs.declared.rdata.RData.TheVariants as kinds
use Rattle.base_data.specs.declared.rdata.RData.{RData}
use Rattle.op.specs.declared.response_code.ResponseCode.TheVariants.{NXDomain, NoError, ServFail}
use Rattle.op.specs.declared.response_code.ResponseCode.{ResponseCode}
use Rattle.op_use.specs.Responses.{is_empty_list}
use Rattle.op_use.specs.Server.{is_any}
use Rattle.op_use.specs.Zone.{Zone}
use Rattle.rr.specs.Record.{type_of_record}
use Rattle.rr.specs.declared.record.Record.{Record}
use Rattle.std.specs.List.{filter_map, fold, list_any}
use Rattle.std.specs.Prelude.{Bool, List, None, Option, Some, [], drop, false, if◌then◌else◌, length, map, min, not}
use Rattle.std.specs.Prelude.{suc, true, zero, ℕ, ◌&&◌, ◌++◌, ◌-◌, ◌∷◌}

-- what is answered: the code, AA and the three sections
pub record AnswerValue : Type 0 where
  pub code : ResponseCode
  pub authoritative : Bool
  pub answers : List (Record RData)
  pub authorities : List (Record RData)
  pub additionals : List (Record RData)

-- an answer as its fields, with lists for vectors
abbrev pub answer_value : Answer → AnswerValue
answer_value a = record {
  code = a.response_code;
  authoritative = a.authoritative;
  answers = a.answers.items;
  authorities = a.authorities.items;
  additionals = a.additionals.items;
}

-- an answer with AA
abbrev pub with_authority : ResponseCode → List (Record RData) → List (Record RData) → List (Record RData) → AnswerValue
with_authority code answers authorities additionals = record {
  code = code;
  authoritative = true;
  answers = answers;
  authorities = authorities;
  additionals = additionals;
}

-- the end of a name that has as many labels as another
abbrev pub end_like : NameValue → NameValue → NameValue
end_like a n = record n { labels = drop (length n.labels - length a.labels) n.labels }

-- the TTL of data in a negative answer: that of an SOA is no more than its MINIMUM (RFC 2308, 3 and 5)
abbrev pub capped_ttl : RData → ℕ → ℕ
capped_ttl (kinds.SOA x) ttl = min ttl x.minimum
capped_ttl _ ttl = ttl

-- a record in a negative answer
abbrev pub as_negative : Record RData → Record RData
as_negative r = record r { ttl = capped_ttl r.rdata r.ttl }

-- the SOA of a negative answer (RFC 2308, 2)
abbrev pub negative : Zone → NameValue → List (Record RData)
negative z n = map as_negative (records z (end_like z.origin n) (key_of z.origin types.SOA))

-- the host that data of a name server, a mail host or a service names (RFC 1035, 3.3.9 and 3.3.11; RFC 2782)
abbrev pub host_in : RData → Option NameValue
host_in (kinds.NS x) = Some x.name
host_in (kinds.MX x) = Some x.exchange
host_in (kinds.SRV x) = Some x.target
host_in _ = None

-- the addresses that were found of a host: those below a cut are glue, and given for a referral alone (4.3.2, 3b; RFC
-- 9471)
abbrev pub addresses_found : Zone → Bool → RecordType → NameValue → Finding → List (Record RData)
addresses_found z glued t n (Data rs) = rs
addresses_found z glued t n (Cut m) = if glued then records z n (key_of n t) else []
addresses_found z glued t n _ = []

-- the addresses of a type that a host has
abbrev pub addresses_of : Zone → Bool → RecordType → NameValue → List (Record RData)
addresses_of z glued t n = addresses_found z glued t n (lookup z t n)

-- whether a record of a name and a type stands among others
abbrev pub is_given : List (Record RData) → NameValue → RecordType → Bool
is_given rs n t = list_any (λ (r : Record RData). same_name r.name n && same_type (type_of_record r) t) rs

-- additional records with the addresses of a host of one type, unless they stand there or among the records given
abbrev pub with_addresses : Zone → Bool → List (Record RData) → RecordType → List (Record RData) → NameValue
    → List (Record RData)
with_addresses z glued given t xs n =
    if is_given (given ++ xs) n t then xs
    else xs ++ addresses_of z glued t n

-- additional records with the addresses of a host
abbrev pub with_host : Zone → Bool → List (Record RData) → List (Record RData) → NameValue → List (Record RData)
with_host z glued given xs n =
    with_addresses z glued given types.AAAA (with_addresses z glued given types.A xs n) n

-- the addresses of the hosts that records name, each set once (4.3.2, 6)
abbrev pub extras : Zone → Bool → List (Record RData) → List (Record RData) → List (Record RData)
extras z glued given rs =
    fold (with_host z glued given) [] (filter_map (λ (r : Record RData). host_in r.rdata) rs)

-- a referral; AA is that of the first owner (RFC 1035, 4.1.1)
abbrev pub referring : Zone → List (Record RData) → List (Record RData) → AnswerValue
referring z done servers = record {
  code = NoError;
  authoritative = not (is_empty_list done);
  answers = done;
  authorities = servers;
  additionals = extras z true (done ++ servers) servers;
}

-- whether a name owns one of these records
abbrev pub owns : NameValue → List (Record RData) → Bool
owns n rs = list_any (λ (r : Record RData). same_name n r.name) rs

-- the answer of records of the type, or of no data (RFC 2308, 2.2)
abbrev pub of_data : Zone → RecordType → List (Record RData) → NameValue → List (Record RData) → AnswerValue
of_data z t done n [] = with_authority NoError done (negative z n) []
of_data z t done n (r ∷ rs) = with_authority NoError (done ++ r ∷ rs) []
    (if is_any t then [] else extras z false (done ++ r ∷ rs) (r ∷ rs))

-- What is answered of what was found: records or a code with AA, a referral, or where an alias leads. As many more
-- aliases are followed as there is room for, none to an owner before it (3a; RFC 1034, 3.6.2; RFC 6604, 2.1).
unfoldable pub answer_found : Zone → RecordType → ℕ → List (Record RData) → NameValue → Finding → AnswerValue
answer_found z t room done n Outside = with_authority NoError done [] []
answer_found z t room done n NoName = with_authority NXDomain done (negative z n) []
answer_found z t room done n (Data rs) = of_data z t done n rs
answer_found z t room done n (Cut m) = referring z done (records z m (key_of m types.NS))
answer_found z t zero done n (Alias r target) = with_authority ServFail (done ++ r ∷ []) [] []
answer_found z t (suc room) done n (Alias r target) =
    if owns target (done ++ r ∷ []) then with_authority ServFail (done ++ r ∷ []) [] []
    else answer_found z t room (done ++ r ∷ []) target (lookup z t target)

-- the answer after records, where there is room for so many more aliases
abbrev pub answer : Zone → RecordType → ℕ → List (Record RData) → NameValue → AnswerValue
answer z t room done n = answer_found z t room done n (lookup z t n)
