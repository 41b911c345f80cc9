use Rattle.std.proofs.Common.{◌<◌, ◌++◌, ◌∷◌, ap, sym, ◌∙◌, arith, length, ℕ, List}
use Rattle.std.proofs.lemmas.Result.{err_from_is_err_and}
use Rattle.std.proofs.lemmas.Bool.Decides.{nat_tests}
use Rattle.base_data.proofs.TextItems.{read_all, read_more, read_none, read_not, read_whole, txt_of-some}
use Rattle.base_data.proofs.rdata.txt.TXTTextData.from_items.Goals as goal

pub loop-item-init : goal.loop-item-init
loop-item-init c = read_none _ _ c.new-bytes.ensures.items

pub returns-in_err-string : goal.returns-in_err-string
returns-in_err-string c =
    let some : 0 < length c.args.items.now = grind (arith, nat_tests, c.is_empty.ensures, c.if-is_empty.false) in
    let told = err_from_is_err_and c.from_residual.result c.from_residual.ensures.1 in
    rw (told.1, told.2, ← txt_of-some c.args.items.now some)
    (read_not _ _ c.args.items.now c.loop-item.item-index _ c.loop-item.invariant c.loop-item-test.true
    c.in_err-string.ensures.string)

pub loop-item-preserved : goal.loop-item-preserved
loop-item-preserved c =
    let pushed = c.in_ok-push_string.ensures ∙ ap
    (λ (s : List ℕ). c.loop-item.bytes.items ++ (length s ∷ s)) c.deref.ensures.value in
    read_more _ c.loop-item.invariant c.loop-item-test.true c.in_ok-string.ensures.string c.in_ok-string.ensures.short
    pushed

pub invariant_of-result : goal.invariant_of-result
invariant_of-result c =
    let some : 0 < length c.args.items.now = grind (arith, nat_tests, c.is_empty.ensures, c.if-is_empty.false) in
    read_whole _ c.args.items.now c.loop-item.item-index c.loop-item.invariant c.loop-item-test.false some

pub returns : goal.returns
returns c =
    let some : 0 < length c.args.items.now = grind (arith, nat_tests, c.is_empty.ensures, c.if-is_empty.false) in
    sym (read_all _ c.args.items.now c.loop-item.item-index c.loop-item.invariant c.loop-item-test.false
    ∙ txt_of-some c.args.items.now some)
