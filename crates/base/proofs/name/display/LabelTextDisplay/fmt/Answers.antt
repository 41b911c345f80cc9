use Rattle.std.proofs.Common.{◌≡◌, ℕ, ◌+◌, ◌<◌, List, [], ◌∷◌, ◌++◌, length, take, get_or, refl, ap, sym, ◌∙◌, subst}
use Rattle.std.proofs.Common.{arith, true}
use Rattle.std.proofs.lemmas.Grind.{flat_map-append, put_two}
use Rattle.std.proofs.lemmas.List.{append-nil, take_all, take_more}
use Rattle.std.specs.Fmt.{HasWritten}
use Rattle.base.specs.texts.NameText.{byte_text, label_text}
use Rattle.base.proofs.name.display.LabelTextDisplay.fmt.Goals as goal
use Rattle.base.proofs.name.display.LabelTextDisplay.fmt.Goals.{in-Some+in_ok-write_str, in_default+else-loop-b-test}

-- the text of one byte more
text_more : (label : List ℕ) (i : ℕ) → i < length label
    → label_text (take i label) ++ byte_text (get_or label i 0) ≡ label_text (take (i + 1) label)
text_more label i inside =
    ap (λ (xs : List ℕ). label_text (take i label) ++ xs) (sym (append-nil (byte_text (get_or label i 0))))
    ∙ sym (ap label_text (take_more label i 0 inside)
    ∙ flat_map-append byte_text (take i label) (get_or label i 0 ∷ []))

pub loop-b-preserved : goal.loop-b-preserved
loop-b-preserved g c = λ plain.
    let was = c.loop-b.invariant plain in
    put_two g.W.Write.write_str_gives _ _ _ _ _ _ was (c.in_ok-fmt.ensures.writes was.plain (refl {a = true}))
    (text_more c.args.self.now.label.now c.loop-b.b-index c.loop-b-test.true)

pub returns-then-self-clause-writes : goal.returns-then-self-clause-writes
returns-then-self-clause-writes g c = λ plain ok.
    let label = c.args.self.now.label.now in
    rw (c.if-self.true, append-nil) (elim c.match-plain_text.branch [
      | in-Some+in_ok-write_str w ↦ rw (w.f-is, ← w.in-Some.ensures)
          (w.in_ok-write_str.ensures.writes plain (refl {a = true}))
      | in_default+else-loop-b-test w ↦ rw w.f-is
          (subst (λ (xs : List ℕ). HasWritten g.W.Write.write_str_gives c.args.f.now (label_text xs) w.loop-b.f)
          (take_all w.loop-b.b-index label (omega (arith, w.loop-b-test.false))) (w.loop-b.invariant plain))
    ])

pub returns-clause-writes : goal.returns-clause-writes
returns-clause-writes g c = λ plain ok.
    let label = c.args.self.now.label.now in
    rw c.if-self.false (elim c.match-plain_text.branch [
      | in-Some+in_ok-write_str w ↦
          let was = rw w.in-Some.ensures at (w.in_ok-write_str.ensures.writes plain (refl {a = true})) in
          let more = rw w.f-is at c.write_str-2.ensures.writes in
          put_two g.W.Write.write_str_gives _ _ _ _ _ _ was (more was.plain ok) refl
      | in_default+else-loop-b-test w ↦
          let was : HasWritten g.W.Write.write_str_gives c.args.f.now (label_text label) w.loop-b.f =
          subst (λ (xs : List ℕ). HasWritten g.W.Write.write_str_gives c.args.f.now (label_text xs) w.loop-b.f)
          (take_all w.loop-b.b-index label (omega (arith, w.loop-b-test.false))) (w.loop-b.invariant plain) in
          let more = rw w.f-is at c.write_str-2.ensures.writes in
          put_two g.W.Write.write_str_gives _ _ _ _ _ _ was (more was.plain ok) refl
    ])
