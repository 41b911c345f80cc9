-- The text of a message.
use Rattle.std.specs.Prelude.{ℕ, Bool, ◌||◌, List, [], ◌∷◌, ◌++◌, codes, length, if◌then◌else◌, Option, Some, None}
use Rattle.std.specs.Fmt.{decimal}
use Rattle.std.specs.List.{flat_map}
use Rattle.base_data.specs.declared.rdata.RData.{RData}
use Rattle.rr.specs.Record.{record_text}
use Rattle.rr.specs.declared.record.Record.{Record}
use Rattle.op.specs.Edns.{edns_text}
use Rattle.op.specs.Message.{MessageValue}
use Rattle.op.specs.MessageType.{is_response}
use Rattle.op.specs.Metadata.{metadata_text}
use Rattle.op.specs.Query.{query_text}
use Rattle.op.specs.Section.{is_update}
use Rattle.op.specs.declared.edns.Edns.{Edns}
use Rattle.op.specs.declared.header.metadata.Metadata.{Metadata}
use Rattle.op.specs.declared.query.Query.{Query}

-- a text with the end of its line
abbrev pub line : List ℕ → List ℕ
line text = text ++ 10 ∷ []

-- the line of the metadata
abbrev pub header_line : Metadata → List ℕ
header_line metadata = codes "; header " ++ line (metadata_text metadata)

-- the line of EDNS, none where there is no EDNS
abbrev pub edns_line : Option Edns → List ℕ
edns_line None = []
edns_line (Some edns) = codes "; edns " ++ line (edns_text edns)

-- a question, after two semicolons
abbrev pub query_line : Query → List ℕ
query_line q = codes ";; " ++ line (query_text q)

-- a line for each question
abbrev pub query_lines : List Query → List ℕ
query_lines = flat_map query_line

-- a line for each record
abbrev pub record_lines : List (Record RData) → List ℕ
record_lines = flat_map (λ r. line (record_text r))

-- the name of a section and how many records it has, and after that line its records
abbrev pub section_lines : List ℕ → List (Record RData) → List ℕ
section_lines name rs = codes "; "
    ++ (name ++ (codes " " ++ (line (decimal (length rs)) ++ record_lines rs)))

-- answers, authorities and additionals
abbrev pub sections_text : MessageValue → List ℕ
sections_text m = section_lines (codes "answers") m.answers
    ++ (section_lines (codes "authorities") m.authorities
    ++ section_lines (codes "additionals") m.additionals)

-- whether the sections of records are printed: of a response, and of an Update (RFC 2136, 2.2)
abbrev pub shows_sections : Metadata → Bool
shows_sections metadata = is_response metadata.message_type || is_update metadata.op_code

-- the header, EDNS if there is any, the questions, and the sections of records of a response or an Update
abbrev pub message_text : MessageValue → List ℕ
message_text m =
    header_line m.metadata ++ (edns_line m.edns ++ (line (codes "; query") ++ (query_lines m.queries
    ++ (if shows_sections m.metadata then sections_text m else []))))
