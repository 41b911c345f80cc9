use Rattle.std.proofs.Common.{refl, true, length}
use Rattle.base.proofs.writing.LawLemmas.{Holds-own}
use Rattle.base.proofs.reading.ReadingLemmas.{name_again}
use Rattle.base.proofs.name.round_trip.written_names_are_read.Goals as goal

pub returns : goal.returns
returns c = λ labels plain owner a b valid w.
    let name = w.word_stands b.bytes (Holds-own a b valid) in
    name_again b.bytes (length a.bytes) (record { labels = labels; absolute = true }) (length b.bytes)
    (record { spelled = name.0; short = name.1; absolute = refl })
