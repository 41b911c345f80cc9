use Rattle.std.proofs.Common.{rules, ◌≡◌, [], ◌∷◌, ap, ◌∙◌, length, reverse, arith, refl, Some, None, Err, List, ◌++◌}
use Rattle.std.proofs.lemmas.List.{reverse-append, length-reverse, nil_from_length}
use Rattle.std.proofs.lemmas.Grind.{common_steps}
use Rattle.std.specs.String.{string_bytes}
use Rattle.base.specs.texts.TokenList.{symbols}
use Rattle.base.specs.texts.Tokens.{Unread}
use Rattle.txt.specs.Parser.{texts_in}
use Rattle.txt.specs.Places.{fault_place, include_place}
use Rattle.txt.specs.Zone.{max_depth}
use Rattle.txt.specs.declared.zone.texts.Frame.{Frame}
use Rattle.txt.proofs.PlaceLemmas.{fails_at, stands_at}
use Rattle.txt.proofs.Stack.{remains_begins, remains_went, remains_none, remains_back, remains_fails, remains_deep}
use Rattle.txt.proofs.Stack.{remains_missing, remains_opened, work_went, work_back, work_opened}
use Rattle.txt.proofs.zone.texts.read_texts.Goals as goal

-- the text that was left last is the first of those below
stacked : {after : List Frame} (below : List Frame) (f : Frame) → after ≡ below ++ f ∷ []
    → reverse after ≡ f ∷ reverse below
stacked below f is = ap reverse is ∙ reverse-append below (f ∷ [])

pub entries-init : goal.entries-init
entries-init c =
    remains_begins (texts_in c.args.includes.now) c.args.context.now c.args.text.now c.new-lexer.result
    (reverse c.new-below.result.items) (ap reverse c.new-below.ensures.items) c.new-lexer.ensures c.utf8.text

pub entries-smaller : goal.entries-smaller
entries-smaller c =
    let found = rw c.in-Some.is at c.in_ok-entry.ensures in
    work_went (texts_in c.args.includes.now) max_depth (reverse c.entries.below.items) c.entries.context
    c.apply.new.self c.entries.lexer c.next_entry.new.lexer c.in-Some.entry c.in_default-entry.not-Include found
    c.in-Ok.ensures

pub entries-preserved : goal.entries-preserved
entries-preserved c =
    let found = rw c.in-Some.is at c.in_ok-entry.ensures in
    remains_went c.entries.invariant c.apply.new.self c.next_entry.new.lexer c.in-Some.entry
    c.in_default-entry.not-Include found c.in-Ok.ensures

pub entries-smaller-in_default : goal.entries-smaller-in_default
entries-smaller-in_default c = rw (stacked _ _ c.in-Some-pop.ensures.items) (work_back (texts_in c.args.includes.now)
    max_depth (reverse c.pop.new.self.items) c.in-Some-pop.frame c.entries.lexer)

pub entries-preserved-in_default : goal.entries-preserved-in_default
entries-preserved-in_default c =
    let found = rw c.in_default.is at c.in_ok-entry.ensures in
    remains_back c.entries.invariant c.in-Some-pop.frame (reverse c.pop.new.self.items) c.set_origin.new.self
    (stacked _ _ c.in-Some-pop.ensures.items) c.set_origin.ensures found (search rules)

pub returns-in_default-pop : goal.returns-in_default-pop
returns-in_default-pop c =
    let found = rw c.in_default.is at c.in_ok-entry.ensures in
    let none : length c.entries.below.items ≡ 0 = grind (arith, common_steps) in
    remains_none c.entries.invariant (ap reverse (nil_from_length c.entries.below.items none)) found

pub returns-then-len-ge-MAX_DEPTH : goal.returns-then-len-ge-MAX_DEPTH
returns-then-len-ge-MAX_DEPTH c =
    let found = rw c.in-Include.is at (rw c.in-Some.is at c.in_ok-entry.ensures) in
    let here : c.in_ok-left-in-Include.left ≡ include_place (symbols c.entries.lexer) = search rules in
    remains_deep c.entries.invariant c.in-Include.name.now (symbols c.next_entry.new.lexer) found
    (omega (arith, length-reverse c.entries.below.items))
    ∙ ap Err (stands_at c.entries.below.items _ _ c.in_ok-place-in-Include.place c.in_ok-place-in-Include.ensures _ _
    here)

pub returns-in_default-get : goal.returns-in_default-get
returns-in_default-get c =
    let name = string_bytes c.in_ok-name-in-Include.name in
    let same : c.in-Include.name.now ≡ name = search rules in
    let found = rw same at (rw c.in-Include.is at (rw c.in-Some.is at c.in_ok-entry.ensures)) in
    let here : c.in_ok-left-in-Include.left ≡ include_place (symbols c.entries.lexer) = search rules in
    let missing : texts_in c.args.includes.now name ≡ None = search rules in
    remains_missing c.entries.invariant name (symbols c.next_entry.new.lexer) found
    (omega (arith, length-reverse c.entries.below.items)) missing
    ∙ ap Err (stands_at c.entries.below.items _ _ c.in_ok-place-in-Include-2.place
    c.in_ok-place-in-Include-2.ensures _ _ here)

pub entries-smaller-in-Include : goal.entries-smaller-in-Include
entries-smaller-in-Include c =
    let name = string_bytes c.in_ok-name-in-Include.name in
    let same : c.in-Include.name.now ≡ name = search rules in
    let found = rw same at (rw c.in-Include.is at (rw c.in-Some.is at c.in_ok-entry.ensures)) in
    let text : texts_in c.args.includes.now name ≡ Some c.as_str-text.result.now = search rules in
    rw c.new-lexer-in-Include.ensures (work_opened (texts_in c.args.includes.now) max_depth
    (reverse c.entries.below.items) (reverse c.push.new.self.items) _ c.entries.lexer
    (stacked _ _ c.in_ok-push-in-Include.ensures.items) found
    (omega (arith, length-reverse c.entries.below.items)) text)

pub entries-preserved-in-Include : goal.entries-preserved-in-Include
entries-preserved-in-Include c =
    let name = string_bytes c.in_ok-name-in-Include.name in
    let same : c.in-Include.name.now ≡ name = search rules in
    let found = rw same at (rw c.in-Include.is at (rw c.in-Some.is at c.in_ok-entry.ensures)) in
    let text : texts_in c.args.includes.now name ≡ Some c.as_str-text.result.now = search rules in
    let here : c.in_ok-left-in-Include.left ≡ include_place (symbols c.entries.lexer) = search rules in
    let origin : c.in_ok-origin-in-Include.origin ≡ c.entries.context.origin = cc c.in_ok-origin-in-Include.ensures in
    remains_opened c.entries.invariant _ c.as_str-text.result.now (reverse c.push.new.self.items)
    c.new-lexer-in-Include.result (stacked _ _ c.in_ok-push-in-Include.ensures.items) c.new-lexer-in-Include.ensures
    refl
    found here origin (omega (arith, length-reverse c.entries.below.items)) text (search rules)

pub returns-in_default-error : goal.returns-in_default-error
returns-in_default-error c =
    let found = rw c.in-Some.is at c.in_ok-entry.ensures in
    fails_at c.in-Err.error c.in_ok-place-in_default-error.place c.in_default-error.not-Memory c.in-Err.ensures
    (λ fault is made. remains_fails c.entries.invariant (symbols c.next_entry.new.lexer) c.in-Some.entry fault
    c.in_default-entry.not-Include found made
    ∙ ap Err (stands_at c.entries.below.items _ _ c.in_ok-place-in_default-error.place
    c.in_ok-place-in_default-error.ensures fault _ (c.in_ok-left-in_default-error.ensures fault is
    ∙ ap (λ (u : Unread). fault_place fault (symbols u)) c.fork-start.ensures)))
