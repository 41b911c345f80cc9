use Rattle.base_data.specs.declared.rdata.RData.{RData}
use Rattle.rr.proofs.PlacedLemmas.{scan_more}
use Rattle.rr.proofs.rr_set.placed_records.scanned.Goals as goal
use Rattle.rr.specs.PlacedRecords.{present}
use Rattle.rr.specs.SetChanges.{has_data_of}
use Rattle.rr.specs.declared.record.Record.{Record}
use Rattle.std.proofs.Common.{[], ap, arith, length, refl, sym, ◌<◌, ◌∙◌, ◌∷◌}
use Rattle.std.proofs.lemmas.Option.{slice_get_read}
use Rattle.std.proofs.Math.Bool.{or-false}
use Rattle.std.specs.List.{list_any}
use Rattle.std.specs.Prelude.{Option, Some}

pub loop-place-preserved-in_default : goal.loop-place-preserved-in_default
loop-place-preserved-in_default c = scan_more c.args.entry.now c.args.places.now.items c.loop-place.place
    c.index.result.now (omega arith) c.index.ensures c.loop-place.invariant
    (ap (λ (o : Option (Record RData)). list_any (has_data_of c.args.entry.now) (present (o ∷ []))) c.in_default.is)

pub returns-then-eq : goal.returns-then-eq
returns-then-eq c =
    let below : c.loop-place.place < length c.args.places.now.items = omega arith in record {
      known = c.in-Some.known;
      here = slice_get_read c.args.places.now.items _ c.loop-place.place c.index.result.now refl below c.index.ensures
          ∙ ap (λ (o : Option (Record RData)). Some o) c.in-Some.is;
      same = sym c.eq.ensures ∙ c.if-eq.true;
    }

pub loop-place-preserved : goal.loop-place-preserved
loop-place-preserved c = scan_more c.args.entry.now c.args.places.now.items c.loop-place.place
    c.index.result.now (omega arith) c.index.ensures c.loop-place.invariant
    (ap (λ (o : Option (Record RData)). list_any (has_data_of c.args.entry.now) (present (o ∷ []))) c.in-Some.is
    ∙ or-false (has_data_of c.args.entry.now c.in-Some.known) ∙ sym c.eq.ensures ∙ c.if-eq.false)
