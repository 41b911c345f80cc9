-- What the command `header` prints.
use Rattle.std.specs.Prelude.{ℕ, ◌==◌, List, [], ◌∷◌, ◌++◌, codes, length, if◌then◌else◌, Result, Ok, Err}
use Rattle.std.specs.Fmt.{decimal}
use Rattle.std.specs.List.{join_with_byte}
use Rattle.hex.specs.Hex.{encode_lower}
use Rattle.hex.specs.declared.error.FromHexError.{FromHexError}
use Rattle.base.specs.reading.Reading.{Read}
use Rattle.base.specs.DecodeError.{decode_number}
use Rattle.op.specs.Header.{header_at, header_bytes, raw_header}
use Rattle.op.specs.Metadata.{metadata_text}
use Rattle.op.specs.declared.header.Header.{Header}
use Rattle.op.specs.declared.header.header_counts.HeaderCounts.{HeaderCounts}
use Rattle.commands.specs.Answer.{Answer, done, refused}
use Rattle.commands.specs.HexInput.{bytes_of}

-- the word `counts` and the four counts, with a space between each two
abbrev pub counts_text : HeaderCounts → List ℕ
counts_text counts =
    join_with_byte 32
    (codes "counts" ∷ decimal counts.queries ∷ decimal counts.answers ∷ decimal counts.authorities
    ∷ decimal counts.additionals ∷ [])

-- three texts, each with the end of its line
abbrev pub three_lines : List ℕ → List ℕ → List ℕ → List ℕ
three_lines first second third = first ++ (10 ∷ second ++ (10 ∷ third ++ (10 ∷ [])))

-- the metadata, the counts, and the header written again in hexadecimal, a line each
abbrev pub header_lines : Header → List ℕ
header_lines h =
    three_lines (metadata_text h.metadata) (counts_text h.counts)
    (encode_lower (header_bytes (raw_header h)))

-- the lines of a header that was read, or the number of the fault
abbrev pub answer_to_read : Read Header → Answer
answer_to_read (Ok (header, end)) = done (header_lines header)
answer_to_read (Err fault) = refused (decode_number fault)

-- the answer to the bytes of the input: refusal 24 unless they are twelve
abbrev pub answer_to_bytes : Result (List ℕ) FromHexError → Answer
answer_to_bytes (Ok bytes) = if length bytes == 12 then answer_to_read (header_at bytes 0)
    else refused 24
answer_to_bytes (Err fault) = refused 24

-- the answer to a text of exactly twelve bytes in hexadecimal, and to any other
abbrev pub header_answer : List ℕ → Answer
header_answer input = answer_to_bytes (bytes_of input)
