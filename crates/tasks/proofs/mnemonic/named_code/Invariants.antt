-- The codes not yet seen are searched as all of them are.
use Rattle.std.proofs.Common.{find, ◌≡◌}
use Rattle.std.specs.Array.Iter.{array_into_iter_items}
use Rattle.op.specs.ResponseCode.{code_name}
use Rattle.tasks.specs.Mnemonic.{is_name, named_code}
use Rattle.tasks.proofs.mnemonic.named_code.Given as goal

abbrev pub invariant-loop-code : goal.invariant-loop-code
invariant-loop-code l =
    find (λ c. is_name l.text (code_name c)) (array_into_iter_items l.code-iterator) ≡ named_code l.text
