use Rattle.std.proofs.Common.{ap, map, sym, ◌∙◌}
use Rattle.std.specs.Char.{to_ascii_lowercase}
use Rattle.std.specs.Cmp.Lexicographic.{bytes_decides}
use Rattle.base.proofs.names.CompareLemmas.{same_in_any_case}
use Rattle.base.proofs.name.compare.same_in_any_case.Goals as goal

pub returns-then-eq : goal.returns-then-eq
returns-then-eq c =
    let same = (bytes_decides c.args.left.now c.args.right.now).0 (sym c.eq.ensures ∙ c.if-eq.true) in
    same_in_any_case _ _ _ c.requires.left c.requires.left_labels c.requires.right c.requires.right_labels
    (λ h. ap (map to_ascii_lowercase) same, λ h. c.if-eq.true)

pub returns-else-eq : goal.returns-else-eq
returns-else-eq c = same_in_any_case _ _ _ c.requires.left c.requires.left_labels c.requires.right
    c.requires.right_labels c.eq_ignore_ascii_case.ensures.test
