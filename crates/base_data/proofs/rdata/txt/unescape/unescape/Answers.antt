use Rattle.std.proofs.Common.{◌≡◌, ◌∙◌, ap, sym, ◌++◌, Some, ℕ, List, Option, append-nil, drop, ◌+◌, Vec, Global}
use Rattle.base_data.specs.declared.rdata.txt.unescape.Escape.{Escape}
use Rattle.std.specs.Option.{option_map}
use Rattle.base_data.specs.Escape.{escape_of}
use Rattle.base_data.specs.StringItems.{EscapePart, no_escape, put_before_all, byte_list, ends_outside, unescaped}
use Rattle.base_data.proofs.StringItemLemmas.{ends_not, unescaped_ends, unescaped_moved, unescaped_steps}
use Rattle.base_data.proofs.StringItemLemmas.{unescaped_stops}
use Rattle.base_data.proofs.rdata.txt.unescape.unescape.Goals as goal
use Rattle.base_data.proofs.rdata.txt.unescape.unescape.Goals.{in-Some-byte+in_ok-push, in_default-byte}

-- what a step answers, as the definition says it
abbrev stepped : Option (Option ℕ × Escape) → Option (Option ℕ × EscapePart)
stepped = option_map (λ (r : Option ℕ × Escape). (r.0, escape_of r.1))

pub returns-in_default : goal.returns-in_default
returns-in_default c =
    let stops = unescaped_stops c.args.text.now c.loop-c.bytes.items c.loop-c.c-index
    (escape_of c.loop-c.state) _ c.loop-c-test.true
    (ap stepped (sym c.in_default.is) ∙ c.escape_step.ensures) c.loop-c.invariant in
    sym stops

pub loop-c-preserved : goal.loop-c-preserved
loop-c-preserved c =
    let steps = unescaped_steps c.args.text.now c.loop-c.bytes.items c.loop-c.c-index (escape_of c.loop-c.state)
    (escape_of c.in-Some.next) c.in-Some.byte
    c.loop-c-test.true (ap stepped (sym c.in-Some.is) ∙ c.escape_step.ensures) in
    let xs = c.loop-c.bytes.items in
    let moved = λ (items : List ℕ) (e : items ≡ xs ++ byte_list c.in-Some.byte) (state : Escape)
    (f : state ≡ c.in-Some.next).
    let rest = drop (c.loop-c.c-index + 1) c.args.text.now in
    unescaped_moved items (xs ++ byte_list c.in-Some.byte) rest (escape_of state) (escape_of c.in-Some.next)
    (unescaped no_escape c.args.text.now) e (ap escape_of f)
    (steps ∙ c.loop-c.invariant) in
    elim c.match-byte.branch [
      | in-Some-byte+in_ok-push w ↦
          let pushed = ap (λ (v : Vec ℕ Global). v.items) w.bytes-is ∙ w.in_ok-push.ensures.items in
          moved c.match-byte.bytes.items (pushed ∙ ap (λ (b : Option ℕ). xs ++ byte_list b) (sym w.in-Some-byte.is))
          c.match-byte.state w.state-is
      | in_default-byte w ↦
          let kept = ap (λ (v : Vec ℕ Global). v.items) w.bytes-is ∙ sym (append-nil xs) in
          moved c.match-byte.bytes.items (kept ∙ ap (λ (b : Option ℕ). xs ++ byte_list b) (sym w.in_default-byte.is))
          c.match-byte.state w.state-is
    ]

pub returns-in-Outside : goal.returns-in-Outside
returns-in-Outside c =
    let ends = unescaped_ends c.args.text.now c.loop-c.bytes.items c.loop-c.c-index
    (escape_of c.loop-c.state) _ c.loop-c-test.false c.loop-c.invariant in
    sym (ap Some (sym (append-nil c.loop-c.bytes.items))
    ∙ ap (λ (s : Escape). put_before_all c.loop-c.bytes.items (ends_outside (escape_of s))) (sym c.in-Outside.is)
    ∙ ends)

pub returns-in_default-state : goal.returns-in_default-state
returns-in_default-state c =
    let ends = unescaped_ends c.args.text.now c.loop-c.bytes.items c.loop-c.c-index
    (escape_of c.loop-c.state) _ c.loop-c-test.false c.loop-c.invariant in
    sym (ap (put_before_all c.loop-c.bytes.items) (sym (ends_not c.loop-c.state c.in_default-state.not-Outside)) ∙ ends)
