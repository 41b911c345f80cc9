use Rattle.std.proofs.Common.{◌+◌, ◌∙◌, List, ℕ, subst}
use Rattle.std.specs.Int.{w16}
use Rattle.std.proofs.lemmas.Result.{err_from_is_err_and}
use Rattle.base.specs.Words.{IsNumberAt}
use Rattle.base.proofs.reading.TrackLemmas.{bounded_after, tracked_both}
use Rattle.op.proofs.reading.QueryLemmas.{query_read, same_query}
use Rattle.op.proofs.query.QueryBinDecodable.read.Goals as goal

pub returns-clause-read : goal.returns-clause-read
returns-clause-read c =
    let at = c.args.decoder.now in
    let name = c.in_ok-name.ensures.read in
    let next = c.read.new.decoder in
    let fields = c.in_ok-fields.fields in
    let found = c.in_ok-fields.ensures.found in
    let after = c.in_ok-fields.ensures.after in
    let type_stands = subst (λ (B : List ℕ). IsNumberAt w16 B next.index fields.query_type) name.1 found.0 in
    let class_stands = subst (λ (B : List ℕ). IsNumberAt w16 B (next.index + 2) fields.class) name.1 found.1 in
    let class = c.from_field-query_class.ensures in (
      query_read at.bytes at.index name.0 type_stands class_stands
          (same_query c.in_ok-name.name c.from.ensures class.class class.top) after.0,
      after.1 ∙ name.1,
    )

pub returns-clause-tracks : goal.returns-clause-tracks
returns-clause-tracks c = tracked_both c.in_ok-name.ensures.tracks c.in_ok-fields.ensures.tracks

pub returns-in_err-fields-clause-tracks : goal.returns-in_err-fields-clause-tracks
returns-in_err-fields-clause-tracks c =
    rw (err_from_is_err_and c.from_residual-in_err-fields.result c.from_residual-in_err-fields.ensures.1).1
    (bounded_after c.read_fields.new.decoder c.in_ok-name.ensures.tracks c.in_err-fields.ensures.tracks)
