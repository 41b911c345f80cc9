use Rattle.std.proofs.Common.{None, Option, Some, ◌≡◌, ℕ, ◌+◌, ◌-◌, true, ◌++◌, List, length, take, ap, sym, ◌∙◌, subst}
use Rattle.std.proofs.Common.{arith, length-take-le}
use Rattle.std.proofs.lemmas.Slice.{take-put_mid}
use Rattle.std.specs.Option.{IfNone, option_copied}
use Rattle.base.specs.names.Labels.{IsWire, labels_of}
use Rattle.base.specs.texts.NameText.{IsLabelsText, IsNameText, is_absolute, is_relative}
use Rattle.base.proofs.texts.NamedLemmas.{no_name, IsWire-appended}
use Rattle.base.proofs.name.parse.gather_name.Goals as goal
use Rattle.base.proofs.texts.NameOfLaws.{completes, completes_not}

-- what holds is said of whatever is answered
if_none : {A : Type 0} (o : Option A) {P : Type 0} → P → IfNone o P
if_none None p = p
if_none (Some x) p = tt

pub returns-in_err-used-clause-none : goal.returns-in_err-used-clause-none
returns-in_err-used-clause-none c =
    if_none c.from_residual.result (λ name. no_name c.requires.no_root c.requires.no_origin c.in_err-used.ensures.none)

pub returns-then-is_fqdn-clause-some : goal.returns-then-is_fqdn-clause-some
returns-then-is_fqdn-clause-some c = is_absolute (subst (IsLabelsText _ _) c.if-is_fqdn.true c.in_ok-used.ensures.some)

pub returns-in_default-clause-some : goal.returns-in_default-clause-some
returns-in_default-clause-some c =
    is_relative (ap option_copied c.in_default.is) c.requires.no_origin
    (subst (IsLabelsText _ _) c.if-is_fqdn.false c.in_ok-used.ensures.some)

pub returns-then-end-gt-MAX_LABELS-clause-none : goal.returns-then-end-gt-MAX_LABELS-clause-none
returns-then-end-gt-MAX_LABELS-clause-none c = λ name.
    completes_not (subst (IsLabelsText _ _) c.if-is_fqdn.false c.in_ok-used.ensures.some) c.in_ok-used.ensures.wire
    c.requires.no_origin (ap option_copied c.in-Some.is) c.as_wire-wire.ensures.value
    (omega (
      arith,
      c.if-end-gt-MAX_LABELS.true,
      length-take-le c.in_ok-used.used c.gather_labels.new.room
          (omega (arith, c.in_ok-used.ensures.used, c.gather_labels.array_long)),
    ))

pub returns-clause-some : goal.returns-clause-some
returns-clause-some c =
    let wire = c.as_wire-wire.result.now in
    let used = c.in_ok-used.used in
    let room = c.gather_labels.new.room in
    let front : length (take used room) ≡ used =
    length-take-le used room (omega (arith, c.in_ok-used.ensures.used, c.gather_labels.array_long)) in
    let copied : c.copy_from_slice.new.self ≡ wire = c.copy_from_slice.ensures.after in
    let whole = take-put_mid used (used + length wire - used) room c.copy_from_slice.new.self (used + length wire)
    (omega (arith, ap length copied)) (omega (arith, front)) in
    subst (λ (bytes : List ℕ). IsNameText c.args.text.now (option_copied c.args.origin)
    (record { labels = labels_of bytes; absolute = true }))
    (sym (whole ∙ ap (λ (xs : List ℕ). take used room ++ xs) copied))
    (completes (subst (IsLabelsText _ _) c.if-is_fqdn.false c.in_ok-used.ensures.some) c.in_ok-used.ensures.wire
    c.requires.no_origin
    (ap option_copied c.in-Some.is) c.as_wire-wire.ensures.value (omega (arith, c.if-end-gt-MAX_LABELS.false, front)))

pub returns-clause-wire : goal.returns-clause-wire
returns-clause-wire c =
    let wire = c.as_wire-wire.result.now in
    let used = c.in_ok-used.used in
    let room = c.gather_labels.new.room in
    let front : length (take used room) ≡ used =
    length-take-le used room (omega (arith, c.in_ok-used.ensures.used, c.gather_labels.array_long)) in
    let copied : c.copy_from_slice.new.self ≡ wire = c.copy_from_slice.ensures.after in
    let whole = take-put_mid used (used + length wire - used) room c.copy_from_slice.new.self (used + length wire)
    (omega (arith, ap length copied)) (omega (arith, front)) in
    subst IsWire (sym (whole ∙ ap (λ (xs : List ℕ). take used room ++ xs) copied))
    (IsWire-appended _ _ _ c.in_ok-used.ensures.wire c.as_wire-wire.ensures.value c.as_wire-wire.ensures.labels
    (omega (arith, c.if-end-gt-MAX_LABELS.false, front)))
