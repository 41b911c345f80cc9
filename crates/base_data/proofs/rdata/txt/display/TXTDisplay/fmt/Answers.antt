use Rattle.std.proofs.Common.{refl, true}
use Rattle.std.proofs.Output.{has_written_append, has_written_of_eq}
use Rattle.base_data.proofs.StringTexts.{txt_text-step, txt_text_is}
use Rattle.base_data.proofs.rdata.txt.display.TXTDisplay.fmt.Goals as goal

pub loop-string-preserved : goal.loop-string-preserved
loop-string-preserved g c =
    record {
      whole = c.in-Some.ensures.others;
      written = λ plain.
          let before = c.loop-string.invariant.written plain in (
            _,
            has_written_append _ _ _ _ _ _ before.1
                (c.in_ok-fmt.ensures.writes before.1.plain (refl {a = true})),
            txt_text-step before.0 before.2 c.in-Some.ensures.labels c.in-Some.ensures.others
                c.is_empty-is_last.ensures,
          );
    }

pub returns-clause-writes : goal.returns-clause-writes
returns-clause-writes g c = λ plain ok.
    let before = c.loop-string.invariant.written plain in
    has_written_of_eq _ _ _ _ _ (txt_text_is before.0 _ c.args.self.now before.2 c.in_default.ensures.labels) before.1
