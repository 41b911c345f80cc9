-- The places of the names of a record.
use Rattle.std.proofs.Common.{◌≡◌, ◌∙◌, ℕ, ◌+◌, List, [], ◌∷◌, Ok, Err, Result, ap, sym, subst, arith, refl}
use Rattle.std.specs.Int.{w16}
use Rattle.base.specs.names.Labels.{NameValue}
use Rattle.base.specs.reading.Names.{name_at}
use Rattle.base.specs.reading.Reader.{Reader}
use Rattle.base.specs.reading.Reading.{Read, Reads, place_after, number_at}
use Rattle.base.specs.reading.Tracks.{Tracked, Tracks}
use Rattle.base.specs.RecordType.{type_of}
use Rattle.base.specs.reading.Spelling.{IsNameAt, NamesStand, one_more}
use Rattle.base.specs.declared.error.decode_error.DecodeError.{DecodeError}
use Rattle.base.specs.declared.record_type.RecordType.{RecordType}
use Rattle.base.proofs.reading.ReadLemmas.{bind_ok, number_is}
use Rattle.base.proofs.reading.ReadingLemmas.{name_again}
use Rattle.base.proofs.reading.TrackLemmas.{bounded_after, tracked_both}
use Rattle.base_data.proofs.EachKind.{names_stand}
use Rattle.base_data.proofs.Tells.{same_ok}
use Rattle.base_data.specs.Kinds.{DataWord, data_names, data_places}
use Rattle.base_data.specs.declared.rdata.RData.{RData}
use Rattle.rr.proofs.ReadRecords.{reads_record}
use Rattle.rr.proofs.ReadSteps.{type_at, typed}
use Rattle.rr.specs.Record.{places_in, record_at, record_names, record_places}
use Rattle.rr.specs.declared.record.Record.{Record}

-- what comes after a type is two bytes on
type_after : (B : List ℕ) (i : ℕ) (type : RecordType) (e : ℕ) → type_at B i ≡ Ok (type, e) → e ≡ i + 2
type_after B i type e is =
    let read = bind_ok (number_at w16 B i) typed (type, e) is in
    sym (ap (λ (x : RecordType × ℕ). x.1) (same_ok (type_of read.value.0, read.value.1) (type, e) read.second))
    ∙ (number_is w16 B i read.value read.first).after

-- a record's owner, and then the names of its data
pub record_tracks : {old third : Reader} {owner : NameValue} {type : RecordType} (second new : Reader)
    (result : Result (Record RData) DecodeError)
    → name_at old.bytes old.index ≡ Ok (owner, second.index)
    → type_at second.bytes second.index ≡ Ok (type, third.index)
    → Tracked (old.index ∷ []) old third → Reads (λ x. x) old new result (record_at old.bytes old.index)
    → Tracks (λ r. data_places r.rdata third.bytes (third.index + 8)) third new result
    → Tracks (λ _. record_places old.bytes old.index) old new result
record_tracks {old} {third} {owner} {type} second new (Ok r) owner_is type_is first reads names =
    let begins : third.index + 8 ≡ place_after (name_at old.bytes old.index) + 10 =
    omega (arith, type_after second.bytes second.index type third.index type_is, ap place_after owner_is) in
    let there : data_places r.rdata third.bytes (third.index + 8) ≡ places_in (record_at old.bytes old.index) old.bytes
    (place_after (name_at old.bytes old.index) + 10) =
    ap (λ (bs : List ℕ). data_places r.rdata bs (third.index + 8)) first.bytes
    ∙ ap (data_places r.rdata old.bytes) begins
    ∙ sym (ap (λ (read : Read (Record RData)). places_in read old.bytes
    (place_after (name_at old.bytes old.index) + 10)) reads.0) in
    subst (λ (places : List ℕ). Tracked (old.index ∷ places) old new) there (tracked_both first names)
record_tracks second new (Err e) owner_is type_is first reads names = bounded_after new first names

-- a record's names stand at their places
pub record_names_stand : (B : List ℕ) (i : ℕ) (r : Record RData) (e : ℕ) → record_at B i ≡ Ok (r, e)
    → NamesStand B (record_places B i) (record_names r)
record_names_stand B i r e is =
    let at = (reads_record B i r e).0 is in
    let data_begins = at.word.owner_end + 10 in
    let owner : IsNameAt B i r.name at.word.owner_end =
    subst (λ (name : NameValue). IsNameAt B i name at.word.owner_end) (sym at.value.owner)
    (record { spelled = at.word.owner.0; short = at.word.owner.1; absolute = refl }) in
    let word : DataWord r.rdata B data_begins e =
    subst (λ (d : RData). DataWord d B data_begins e) (sym at.value.rdata) at.word.rdata_stands in
    let begins : data_begins ≡ place_after (name_at B i) + 10 =
    ap (λ (k : ℕ). k + 10) (sym (ap place_after (name_again B i r.name at.word.owner_end owner))) in
    let there : data_places r.rdata B data_begins ≡ places_in (record_at B i) B (place_after (name_at B i) + 10) =
    ap (data_places r.rdata B) begins ∙ sym (ap
    (λ (read : Read (Record RData)). places_in read B (place_after (name_at B i) + 10)) is) in
    one_more owner (subst (λ (places : List ℕ). NamesStand B places (data_names r.rdata)) there
    (names_stand r.rdata B data_begins e word at.value.readable))
