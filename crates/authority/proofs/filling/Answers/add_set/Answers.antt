use Rattle.authority.proofs.FillingLemmas.{set_adds}
use Rattle.authority.proofs.filling.Answers.add_set.Goals as goal
use Rattle.authority.specs.Filling.{Adds}
use Rattle.authority.specs.Lookup.{record_of}
use Rattle.authority.specs.Transfer.{records_from}
use Rattle.base.specs.names.Labels.{NameValue}
use Rattle.base_data.specs.declared.rdata.RData.{RData}
use Rattle.op_use.specs.NamedChanges.{datum_of}
use Rattle.rr.specs.declared.record.Record.{Record}
use Rattle.std.proofs.Common.{Bool, ap, arith, subst, sym, true, ◌∙◌, ◌≡◌}
use Rattle.std.proofs.lemmas.Grind.{common_steps}

pub loop-i-preserved : goal.loop-i-preserved
loop-i-preserved c =
    let owner = c.args.set.now.name in
    let ttl = c.least_ttl-ttl.result in
    let r = c.index-entries-i.result in
    let is : c.in_ok-record.record ≡ record_of c.args.class owner ttl (datum_of r)
    = c.in_ok-record.ensures ∙ ap (λ (n : NameValue). record_of c.args.class n ttl (datum_of r)) c.name.ensures in
    let added : Adds (record_of c.args.class owner ttl (datum_of r)) c.loop-i.self true c.add.new.self
    = subst (λ (b : Bool). Adds (record_of c.args.class owner ttl (datum_of r)) c.loop-i.self b c.add.new.self)
    c.if-not-branch.false
    (subst (λ (x : Record RData). Adds x c.loop-i.self c.in_ok-add.field-0 c.add.new.self) is c.in_ok-add.ensures) in
    set_adds c.args.class owner ttl c.as_slice-entries.result.now c.loop-i.i r c.loop-i-test.true c.index-entries-i.is
    (records_from c.args.class c.args.from c.args.set.now) c.args.self.now c.loop-i.self c.loop-i.invariant
    (sym c.is_update.ensures ∙ c.if-is_update.false) c.add.new.self added

pub returns-then-not-branch : goal.returns-then-not-branch
returns-then-not-branch c = grind (arith, common_steps)
