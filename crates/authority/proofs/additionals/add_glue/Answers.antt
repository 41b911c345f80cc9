use Rattle.authority.proofs.SetLemmas.{no_records, records_there}
use Rattle.authority.proofs.additionals.add_glue.Goals as goal
use Rattle.base.specs.RrKey.{key_of}
use Rattle.base_data.specs.declared.rdata.RData.{RData}
use Rattle.rr.specs.declared.record.Record.{Record}
use Rattle.std.proofs.Common.{List, ap, subst, sym, ◌++◌, ◌∙◌, ◌≡◌}
use Rattle.std.proofs.lemmas.List.{append-nil}
use Rattle.std.specs.Option.{option_copied}
use Rattle.std.specs.Prelude.{OnOk}

pub returns-in-Some : goal.returns-in-Some
returns-in-Some c =
    let zone = c.args.zone.now in
    let n = c.args.host.now in
    subst (λ (rs : List (Record RData)). OnOk c.add_answered.result
    (c.add_answered.new.records.items ≡ c.args.additionals.now.items ++ rs))
    (sym (records_there zone.origin.now zone.class zone.sets.now n (key_of n c.args.record_type) c.in-Some.set.now
    (sym c.in_ok-set.ensures ∙ ap option_copied c.in-Some.is))) c.add_answered.ensures

pub returns-in-None : goal.returns-in-None
returns-in-None c =
    let zone = c.args.zone.now in
    let n = c.args.host.now in
    let xs = c.args.additionals.now.items in
    sym (ap (λ (rs : List (Record RData)). xs ++ rs) (no_records zone.origin.now zone.class zone.sets.now n
    (key_of n c.args.record_type) (sym c.in_ok-set.ensures ∙ ap option_copied c.in-None.is)) ∙ append-nil xs)
