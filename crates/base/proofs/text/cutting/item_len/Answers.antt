use Rattle.std.proofs.Common.{◌≡◌, ◌+◌, ◌<◌, true, false, length, take, drop, get_or, Bool, refl, subst, sym, ◌∙◌}
use Rattle.std.proofs.Common.{arith}
use Rattle.std.specs.Prelude.{not, ◌&&◌, ◌==◌}
use Rattle.std.proofs.lemmas.Bool.{ne_eqb}
use Rattle.std.proofs.lemmas.List.{drop_all}
use Rattle.base.specs.texts.Tokens.{before, item}
use Rattle.base.proofs.texts.Cutting.{item_end, item_more}
use Rattle.base.proofs.text.cutting.item_len.Goals as goal

-- a backslash, and what it keeps, belong to the item
pub bytes-preserved-then-c-eq92 : goal.bytes-preserved-then-c-eq92
bytes-preserved-then-c-eq92 c =
    let text = c.args.text.now in
    let at = c.bytes.at in
    let inside : at + 1 < length text = omega (arith, c.bytes-test.true, c.if-at-text.false) in
    let sign : (not false && (get_or text at 0 == 92)) ≡ true = rw c.if-c-eq92.true refl in
    let one = item_more text at false c.bytes-test.true
    (sym c.ends_item.ensures ∙ c.if-ends_item.false) c.bytes.invariant.1 in
    let kept = subst (λ (k : Bool). before (take (at + 1) text) (item k (drop (at + 1) text)) ≡ item false text) sign
    one in
    (omega (arith, inside), item_more text (at + 1) true inside refl kept)

-- another byte belongs to it alone
pub bytes-preserved : goal.bytes-preserved
bytes-preserved c =
    let text = c.args.text.now in
    let at = c.bytes.at in
    let one = item_more text at false c.bytes-test.true
    (sym c.ends_item.ensures ∙ c.if-ends_item.false) c.bytes.invariant.1 in
    let kept = subst (λ (k : Bool). before (take (at + 1) text) (item k (drop (at + 1) text)) ≡ item false text)
    (ne_eqb (get_or text at 0) 92 c.if-c-eq92.false) one in
    (omega arith, kept)

pub returns-then-ends_item-clause-value : goal.returns-then-ends_item-clause-value
returns-then-ends_item-clause-value c =
    sym (item_end c.args.text.now c.bytes.at c.bytes-test.true (sym c.ends_item.ensures ∙ c.if-ends_item.true))
    ∙ c.bytes.invariant.1

-- after its last backslash the text ends
pub returns-then-at-text-clause-value : goal.returns-then-at-text-clause-value
unfolding item
returns-then-at-text-clause-value c =
    let text = c.args.text.now in
    let at = c.bytes.at in
    let sign : (not false && (get_or text at 0 == 92)) ≡ true = rw c.if-c-eq92.true refl in
    let one = item_more text at false c.bytes-test.true
    (sym c.ends_item.ensures ∙ c.if-ends_item.false) c.bytes.invariant.1 in
    let kept = subst (λ (k : Bool). before (take (at + 1) text) (item k (drop (at + 1) text)) ≡ item false text) sign
    one in
    rw (drop_all (at + 1) text (omega (arith, c.if-at-text.true))) at kept
