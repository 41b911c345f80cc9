use Rattle.std.proofs.Common.{Bool, Err, List, Ok, ap, inl, refl, rules, sym, ℕ, ◌∙◌, ◌≡◌}
use Rattle.std.specs.Prelude.{Vec, if◌then◌else◌}
use Rattle.std.specs.declared.alloc.Global.{Global}
use Rattle.parsed_zone.specs.ZoneText.{zone_lines}
use Rattle.tasks.proofs.RefusalLemmas.{not_fitting}
use Rattle.tasks.specs.Asked.{Asked}
use Rattle.tasks.specs.Refusals.{two_anames}
use Rattle.tasks.specs.ZoneText.{FitsWire}
use Rattle.tasks.specs.ZoneText.IsZoneText.{unfit, written}
use Rattle.capi.proofs.HandleLemmas.{copied}
use Rattle.capi.specs.ZoneHandle.{ZoneParts, lines_of, parts_of}
use Rattle.capi.proofs.zone_handle.text_of.Goals as goal

-- the lines of a zone, by whether it has two ANAME records of one owner
abbrev by_anames : ZoneParts → Bool → Asked (List ℕ)
by_anames x two = if two then Err two_anames else Ok (zone_lines x)

pub returns-then-not-fits_wire : goal.returns-then-not-fits_wire
returns-then-not-fits_wire c =
    inl (unfit refl (not_fitting
    (FitsWire c.args.zone.now.sets.entries) c.fits_wire.result c.fits_wire.ensures.1 c.if-not-fits_wire.true))

pub returns-then-has_two_anames : goal.returns-then-has_two_anames
returns-then-has_two_anames c =
    let fits : FitsWire c.args.zone.now.sets.entries = c.fits_wire.ensures.0 (search rules) in
    let lines : lines_of (parts_of c.args.zone.now) ≡ Err two_anames =
    ap (by_anames (parts_of c.args.zone.now)) (sym c.has_two_anames.ensures.found ∙ c.if-has_two_anames.true) in
    inl (written refl fits lines)

pub returns : goal.returns
returns c =
    let fits : FitsWire c.args.zone.now.sets.entries = c.fits_wire.ensures.0 (search rules) in
    let lines : lines_of (parts_of c.args.zone.now) ≡ Ok (zone_lines (parts_of c.args.zone.now)) =
    ap (by_anames (parts_of c.args.zone.now)) (sym c.has_two_anames.ensures.found ∙ c.if-has_two_anames.false) in
    inl (written refl fits (lines
    ∙ ap (λ es. Ok (zone_lines (c.args.zone.now.origin, es)))
    (sym (copied c.args.zone.now.sets c.in_ok-clone.field-0 c.in_ok-clone.ensures.cases))
    ∙ ap Ok (sym c.in_ok-zone_lines.ensures.lines)
    ∙ ap (λ (bytes : Vec ℕ Global). Ok bytes.items) (sym c.into_bytes.ensures.value)))
