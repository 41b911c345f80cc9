use Rattle.std.proofs.Common.{arith, length, refl, sym, ◌≤◌, ◌≡◌, ◌∙◌, Ok}
use Rattle.std.proofs.lemmas.Result.{err_from_is_err_and}
use Rattle.base.proofs.reading.ReadingLemmas.{name_is}
use Rattle.base_data.proofs.NameWords.{name_inside}
use Rattle.tasks.proofs.WalkLemmas.{fields_there, record_passed, record_unread}
use Rattle.tasks.specs.Walk.{fields_found}
use Rattle.tasks.proofs.walk.whole.record.Goals as goal

pub returns-in_err-type_place : goal.returns-in_err-type_place
returns-in_err-type_place c =
    let p = err_from_is_err_and c.from_residual.result c.from_residual.ensures.1 in
    let at = c.args.decoder.now in
    let inside : at.index ≤ length at.bytes =
    omega (arith, c.index-place.ensures.value, c.index-place.ensures.inside) in
    rw (p.1, p.2) (record_unread at.bytes at.index inside c.args.section c.in_err-type_place.field-0.0
    c.in_err-type_place.ensures.read)

pub returns : goal.returns
returns c =
    let at = c.args.decoder.now in
    let now = c.read_in_place.new in
    let type_place = c.in_ok-type_place.type_place in
    let read = c.in_ok-type_place.ensures in
    let inside : at.index ≤ length at.bytes =
    omega (arith, c.index-place.ensures.value, c.index-place.ensures.inside) in
    let owner = name_is at.bytes at.index now.self.name type_place read.owner in
    let near = name_inside now.self.name.labels at.bytes at.index type_place (owner.spelled, owner.short) in
    let fields : fields_found at.bytes at.index type_place ≡ Ok c.in_ok-found.found =
    sym (fields_there at.bytes c.args.bytes.now at.index type_place c.index-place.result type_place c.new-fields.result
    c.read_slice.new.self c.in_ok-_before._before.now c.new-fields.ensures c.requires c.index-place.ensures.value refl
    near
    c.in_ok-_before.ensures.read) ∙ c.in_ok-found.ensures in (
      record_passed at.bytes at.index inside c.args.section (now.self, now.decoder.index) type_place c.in_ok-found.found
          read.read.0 read.owner fields,
      read.read.1,
    )
