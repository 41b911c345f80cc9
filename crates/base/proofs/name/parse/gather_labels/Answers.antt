use Rattle.std.proofs.Common.{◌≡◌, ◌≢◌, ℕ, ◌+◌, ◌≤◌, ◌⊎◌, inl, inr, [], Some, refl, ap, sym, ◌∙◌, subst, arith, length}
use Rattle.std.proofs.Common.{set}
use Rattle.std.proofs.lemmas.Bool.Decides.{nat_tests}
use Rattle.std.proofs.lemmas.List.{nil_from_length}
use Rattle.base.specs.declared.name.parse.TextChar.{TextChar}
use Rattle.base.specs.texts.TextChar.{character_of}
use Rattle.base.proofs.texts.ParseLemmas.{Holds, holds_none, holds_byte, holds_dot, stops_at_byte, stops_at_char}
use Rattle.base.proofs.texts.ParseLemmas.{stops_at_dot, stops_at_start, reads_absolute, reads_relative, wire_put}
use Rattle.base.proofs.name.parse.gather_labels.Goals as goal
use Rattle.base.proofs.name.parse.gather_labels.Goals.{then-len-ge-MAX_LABEL-via-then-len-ge-MAX_LABEL}
use Rattle.base.proofs.name.parse.gather_labels.Goals.{then-len-ge-MAX_LABEL-via-else-len-ge-MAX_LABEL+then-used-len-ge-MAX_LABELS}

pub chars-init : goal.chars-init
chars-init c = holds_none c.args.text.now c.args.room.now c.told-room

pub returns-then-len-ge-MAX_LABEL-clause-none :
    goal.returns-then-len-ge-MAX_LABEL-clause-none
returns-then-len-ge-MAX_LABEL-clause-none c =
    let long : 63 ≤ c.chars.len ⊎ 254 ≤ c.chars.used + 1 + c.chars.len = elim c.then-len-ge-MAX_LABEL.branch [
      | then-len-ge-MAX_LABEL-via-then-len-ge-MAX_LABEL w ↦ inl (omega (arith, w.if-len-ge-MAX_LABEL.true))
      | then-len-ge-MAX_LABEL-via-else-len-ge-MAX_LABEL+then-used-len-ge-MAX_LABELS w ↦ inr
          (omega (arith, w.if-used-len-ge-MAX_LABELS.true))
    ] in
    stops_at_byte c.chars.invariant (sym c.in-Some.ensures.value
    ∙ ap (λ (d : TextChar). Some (character_of d, c.in-Some.tail.now)) c.in-Byte.is) long

pub chars-preserved-in-Byte : goal.chars-preserved-in-Byte
chars-preserved-in-Byte c =
    holds_byte c.chars.invariant (sym c.in-Some.ensures.value
    ∙ ap (λ (d : TextChar). Some (character_of d, c.in-Some.tail.now)) c.in-Byte.is) (omega arith) (omega arith)

pub returns-then-len-eq0-clause-none : goal.returns-then-len-eq0-clause-none
returns-then-len-eq0-clause-none c =
    stops_at_dot c.chars.invariant (sym c.in-Some.ensures.value
    ∙ ap (λ (d : TextChar). Some (character_of d, c.in-Some.tail.now)) c.in-Dot.is) (omega arith)

pub chars-preserved : goal.chars-preserved
chars-preserved c =
    let next : c.chars.used + 1 + c.chars.len ≡ c.chars.used + (1 + c.chars.len) = omega arith in
    let first = sym c.in-Some.ensures.value ∙ ap
    (λ (d : TextChar). Some (character_of d, c.in-Some.tail.now)) c.in-Dot.is in
    subst (λ (used : ℕ). Holds c.args.text.now c.in-Some.tail.now (set c.chars.room c.chars.used c.chars.len) used 0)
    next (holds_dot c.chars.invariant first refl (omega arith))

pub returns-then-len-gt0-clause-some : goal.returns-then-len-gt0-clause-some
returns-then-len-gt0-clause-some c =
    let none : length c.chars.rest.now ≡ 0 = grind (arith, nat_tests) in
    reads_relative c.chars.invariant (nil_from_length c.chars.rest.now none) refl (omega arith)

pub returns-then-len-gt0-clause-wire : goal.returns-then-len-gt0-clause-wire
returns-then-len-gt0-clause-wire c = wire_put c.chars.invariant refl (omega arith)

pub returns-then-used-eq0-clause-none : goal.returns-then-used-eq0-clause-none
returns-then-used-eq0-clause-none c =
    let none : length c.chars.rest.now ≡ 0 = grind (arith, nat_tests) in
    stops_at_start c.chars.invariant (nil_from_length c.chars.rest.now none) (omega arith) (omega arith)

pub returns-clause-some : goal.returns-clause-some
returns-clause-some c =
    let none : length c.chars.rest.now ≡ 0 = grind (arith, nat_tests) in
    reads_absolute c.chars.invariant (nil_from_length c.chars.rest.now none) (omega arith) (omega arith)

pub returns-then-not-is_empty-clause-none : goal.returns-then-not-is_empty-clause-none
returns-then-not-is_empty-clause-none c =
    let some : c.chars.rest.now ≢ [] = λ (e : c.chars.rest.now ≡ []). let none = ap length e in
    grind (arith, nat_tests) in
    stops_at_char c.chars.invariant (sym c.in_default.ensures.value) some
