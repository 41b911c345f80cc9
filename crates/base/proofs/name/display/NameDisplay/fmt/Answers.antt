use Rattle.std.proofs.Common.{refl, true}
use Rattle.std.proofs.Output.{has_written_append, has_written_of_eq}
use Rattle.base.proofs.texts.TextLemmas.{labels_text-step, name_text_is}
use Rattle.base.proofs.name.display.NameDisplay.fmt.Goals as goal

pub loop-label-preserved : goal.loop-label-preserved
loop-label-preserved g c =
    record {
      whole = c.in-Some.ensures.others;
      written = λ plain.
          let before = c.loop-label.invariant.written plain in (
            _,
            has_written_append _ _ _ _ _ _ before.1
                (c.in_ok-fmt.ensures.writes before.1.plain
                (refl {a = true})),
            labels_text-step before.0 before.2 c.in-Some.ensures.labels c.in-Some.ensures.others
                c.is_empty-is_last.ensures,
          );
    }

pub returns-clause-writes : goal.returns-clause-writes
returns-clause-writes g c = λ plain ok.
    let before = c.loop-label.invariant.written plain in
    has_written_of_eq _ _ _ _ _ (name_text_is c.args.self.now before.0 _ _ _ before.2 c.in_default.ensures.labels
    c.is_fqdn.ensures c.dot_if.ensures)
    (has_written_append _ _ _ _ _ _ before.1 (c.write_str.ensures.writes before.1.plain ok))
