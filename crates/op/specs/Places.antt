-- The places of the names of questions, records and messages (RFC 1035, 4.1).
use Rattle.std.specs.Prelude.{ℕ, ◌+◌, List, [], ◌∷◌, ◌++◌, Ok, Err}
use Rattle.std.specs.List.{flat_map}
use Rattle.base.specs.names.Labels.{NameValue}
use Rattle.base.specs.reading.Many.{many_at, many_names}
use Rattle.base.specs.reading.Reading.{Read, place_after}
use Rattle.op.specs.Header.{header_at}
use Rattle.op.specs.Message.{IsMessageAt, MessageValue}
use Rattle.op.specs.Query.{query_at}
use Rattle.op.specs.declared.header.Header.{Header}
use Rattle.op.specs.declared.query.Query.{Query}
use Rattle.rr.specs.Record.{record_at, record_names, record_places}

-- the name of a question stands at its place (RFC 1035, 4.1.2)
abbrev pub query_places : List ℕ → ℕ → List ℕ
query_places bytes i = i ∷ []

-- those of `count` questions, one after another
abbrev pub queries_places : ℕ → List ℕ → ℕ → List ℕ
queries_places count bytes i = many_names query_at query_places count bytes i

-- and of `count` records
abbrev pub records_places : ℕ → List ℕ → ℕ → List ℕ
records_places count bytes i = many_names record_at record_places count bytes i

-- those of what a header that was read counts: questions, and after them the records of the three sections
abbrev pub counted_places : Read Header → List ℕ → List ℕ
counted_places (Ok (header, i)) bytes = queries_places header.counts.queries bytes i
    ++ records_places
    (header.counts.answers + header.counts.authorities + header.counts.additionals) bytes
    (place_after (many_at query_at header.counts.queries bytes i))
counted_places (Err e) bytes = []

-- the places of the names of the message that stands at i, of questions and records
abbrev pub message_places : List ℕ → ℕ → List ℕ
message_places bytes i = counted_places (header_at bytes i) bytes

-- the names of the message whose word stands there: of its questions, and then those of each of its records
abbrev pub message_names : {B : List ℕ} {i : ℕ} {m : MessageValue} {e : ℕ} → IsMessageAt B i m e
    → List NameValue
message_names {m = m} w = flat_map (λ (q : Query). q.name ∷ []) m.queries
    ++ flat_map record_names (w.answers ++ (w.authorities ++ w.additionals))
