use Rattle.authority.proofs.answer.all_data.Goals as goal
use Rattle.authority.specs.Answer.{answer_value, of_data}
use Rattle.authority.specs.Found.{answered}
use Rattle.authority.specs.ZoneRef.{zone_of}
use Rattle.base_data.specs.declared.rdata.RData.{RData}
use Rattle.rr.specs.RecordSet.{SetValue}
use Rattle.rr.specs.declared.record.Record.{Record}
use Rattle.std.proofs.Common.{List, ap, length, rules, ◌++◌, ◌∙◌, ◌≡◌}
use Rattle.std.proofs.lemmas.Result.{IfOk-weaker}
use Rattle.std.specs.Borrow.{Bor}
use Rattle.std.specs.List.{flat_map}

pub returns-clause-value : goal.returns-clause-value
returns-clause-value c =
    let zone = c.args.zone.now in
    let n = c.args.name.now in
    let old = c.args.answers.items in
    let made = λ (sets : List (Bor SetValue)). flat_map (λ (s : Bor SetValue). answered zone.class n s.now) sets in
    let items = c.add_all.new.records.items in
    let added : items ≡ old ++ made c.args.sets.items = c.in_ok-add_all.ensures
    ∙ ap (λ (sets : List (Bor SetValue)). old ++ made sets) c.deref.ensures.value in
    let place : c.len-before.result ≡ length old = search rules in
    IfOk-weaker c.answer_with.result
    (λ a. (done rs : List (Record RData)) → items ≡ done ++ rs → c.len-before.result ≡ length done
    → answer_value a ≡ of_data (zone_of zone) c.args.record_type done n rs)
    (λ a. answer_value a ≡ of_data (zone_of zone) c.args.record_type old n (made c.args.sets.items))
    (λ a is. is old (made c.args.sets.items) added place) c.answer_with.ensures.value
