use Rattle.std.proofs.Common.{sym, ◌∙◌}
use Rattle.op.specs.contracts.message.MessageEq.TheImpl.Laws.{laws-law}
use Rattle.op.proofs.equality.Equals.{both_Decides, metadata_Decide}
use Rattle.op.proofs.equality.MessageEquals.{itself, mapped}
use Rattle.op.proofs.message.laws.equal_messages.Goals as goal

pub returns-clause-equal : goal.returns-clause-equal
returns-clause-equal c = λ a b.
    let parts = both_Decides _ _ (metadata_Decide a.metadata b.metadata)
    (both_Decides _ _ (itself _) (both_Decides _ _ (itself _)
    (both_Decides _ _ (itself _) (both_Decides _ _ (itself _) (both_Decides _ _ (itself _) (itself _)))))) in (
      λ h. let p = parts.0 h in (
        p.0,
        p.1.0,
        p.1.1.0,
        p.1.1.1.0,
        p.1.1.1.1.0,
        mapped _ _ a.signature b.signature
            ∙ p.1.1.1.1.1.0,
        p.1.1.1.1.1.1,
      ),
      λ f. parts.1 (f.0, (f.1, (f.2, (f.3, (f.4, (sym (mapped _ _ a.signature b.signature) ∙ f.5, f.6)))))),
    )

pub returns-clause-equivalence : goal.returns-clause-equivalence
returns-clause-equivalence c = laws-law
