use Rattle.base.specs.RrKey.{key_cmp}
use Rattle.op_use.proofs.RaisedLemmas.{raised_by, raised_map, with_records}
use Rattle.op_use.specs.RaisedSerial.{IsRaised}
use Rattle.rr.specs.SetParts.{parts_value}
use Rattle.std.proofs.lemmas.List.{with_items_is}
use Rattle.std.specs.Vec.{with_items}
use Rattle.std.proofs.Common.{None, Some, ap, length, rules, subst, ◌∙◌, ◌≡◌}
use Rattle.std.specs.BTreeMap.{Updates, get}
use Rattle.op_use.proofs.serial.raise_serial.Goals as goal

pub returns-in_err-set-clause-is_map : goal.returns-in_err-set-clause-is_map
returns-in_err-set-clause-is_map c =
    let stays : IsRaised c.args.key.now c.args.sets.now c.get_mut.follows.lender-at-none None = search rules in
    raised_map c.args.key.now c.args.sets.now c.get_mut.follows.lender-at-none None stays

-- what comes of the map
module _ (c : goal.After-drop-set) where
  raised : IsRaised c.args.key.now c.args.sets.now (c.get_mut.follows.lender c.set_of.result) c.raise_only-serial.result
  raised =
      let found : get key_cmp c.args.sets.now c.args.key.now ≡ Some c.in_ok-set.set.now = search rules in
      let same_len : length c.raise_only-serial.new.records ≡ c.into_parts-parts.result.records.len = search rules in
      let written : (with_items c.into_parts-parts.result.records c.raise_only-serial.new.records).items
      ≡ c.raise_only-serial.new.records =
      with_items_is c.into_parts-parts.result.records c.raise_only-serial.new.records same_len in
      let put : c.set_of.result ≡ with_records c.in_ok-set.set.now c.raise_only-serial.new.records =
      subst (λ s. c.set_of.result ≡ with_records s c.raise_only-serial.new.records)
      (c.into_parts-parts.ensures ∙ c.replace.ensures.value)
      (c.set_of.ensures ∙ ap (with_records (parts_value c.into_parts-parts.result)) written) in
      let puts : Updates key_cmp c.args.sets.now (c.get_mut.follows.lender c.set_of.result) c.args.key.now
      (Some c.set_of.result) = (c.get_mut.follows.holds c.set_of.result).3 (search rules) in
      raised_by c.args.key.now c.args.sets.now (c.get_mut.follows.lender c.set_of.result) c.in_ok-set.set.now
      c.raise_only-serial.new.records c.raise_only-serial.result found
      (subst (λ x. Updates key_cmp c.args.sets.now (c.get_mut.follows.lender c.set_of.result) c.args.key.now (Some x))
      put puts) (search rules)

pub returns-clause-raised : goal.returns-clause-raised
returns-clause-raised c = raised c

pub returns-clause-is_map : goal.returns-clause-is_map
returns-clause-is_map c = raised_map c.args.key.now c.args.sets.now (c.get_mut.follows.lender c.set_of.result)
    c.raise_only-serial.result (raised c)
