use Rattle.std.proofs.Common.{rules, ap, drop, length, take, ℕ, ◌≡◌, ◌∙◌}
use Rattle.std.proofs.lemmas.List.{drop_min, take_min}
use Rattle.std.specs.Prelude.{min}
use Rattle.tasks.proofs.included.front_and_rest.Goals as goal

pub returns-clause-front : goal.returns-clause-front
returns-clause-front c =
    let is : c.min.result ≡ min c.args.len (length c.args.bytes.now) = search rules in
    c.split_at.ensures.front ∙ ap (λ (n : ℕ). take n c.args.bytes.now) is ∙ take_min c.args.len c.args.bytes.now

pub returns-clause-rest : goal.returns-clause-rest
returns-clause-rest c =
    let is : c.min.result ≡ min c.args.len (length c.args.bytes.now) = search rules in
    c.split_at.ensures.back ∙ ap (λ (n : ℕ). drop n c.args.bytes.now) is ∙ drop_min c.args.len c.args.bytes.now
