-- What walking a whole message is asked for: the questions and the records that its header counts, each at the place
-- after the one before it.
use Rattle.std.specs.Prelude.{◌++◌, ℕ, List, [], Ok}
use Rattle.base.specs.reading.Many.{many_at}
use Rattle.base.specs.reading.Reading.{Read, ◌>>=◌}
use Rattle.op.specs.Header.{header_at}
use Rattle.tasks.specs.Walk.{name_found, query_found, record_found}
use Rattle.tasks.specs.declared.walk.whole.Section.{Section}
use Rattle.tasks.specs.declared.walk.whole.Section.TheVariants as sections
use Rattle.tasks.specs.declared.walk.whole.Stop.{Stop}

-- the question at a place, as its call and that of its name find it; it has no TTL and no data
abbrev pub question_stop : List ℕ → ℕ → Read Stop
question_stop bytes place =
    query_found bytes place >>= λ q. name_found bytes place >>= λ name.
    Ok (
      record {
        section = sections.Question;
        name = name;
        found = record {
          name = q.0.name;
          data_place = q.1;
          ttl = 0;
          record_type = q.0.query_type;
          class = q.0.class;
          data_len = 0;
        };
      },
      q.1,
    )

-- the record of a section at a place, as its call and that of its owner find it
abbrev pub record_stop : Section → List ℕ → ℕ → Read Stop
record_stop section bytes place =
    record_found bytes place >>= λ r. name_found bytes place >>= λ name.
    Ok (record { section = section; name = name; found = r.0 }, r.1)

-- what stands at a place of a section (RFC 1035, 4.1)
abbrev pub stop_at : Section → List ℕ → ℕ → Read Stop
stop_at sections.Question bytes place = question_stop bytes place
stop_at section bytes place = record_stop section bytes place

-- After stops that end at a place, those of a section: so many, each at the place after the one before it.
abbrev pub go_on : Section → ℕ → List ℕ → List Stop × ℕ → Read (List Stop)
go_on section count bytes before =
    many_at (stop_at section) count bytes before.1 >>= λ more. Ok (before.0 ++ more.0, more.1)

-- The stops of the message that the bytes begin with, and the place after it: after the header the questions, the
-- answers, the authorities and the additional records, as many as the header counts (RFC 1035, 4.1.1).
abbrev pub walk_of : List ℕ → Read (List Stop)
walk_of bytes =
    header_at bytes 0 >>= λ header.
    go_on sections.Question header.0.counts.queries bytes ([], header.1)
    >>= λ questions. go_on sections.Answer header.0.counts.answers bytes questions
    >>= λ answers. go_on sections.Authority header.0.counts.authorities bytes answers
    >>= λ authorities. go_on sections.Additional header.0.counts.additionals bytes authorities
