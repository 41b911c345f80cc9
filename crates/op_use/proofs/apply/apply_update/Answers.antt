use Rattle.base.specs.contracts.rr_key.RrKeyClone.TheImpl as key_clone
use Rattle.base.specs.declared.rr_key.RrKey.{RrKey}
use Rattle.op.specs.Message.{message_value}
use Rattle.op_use.proofs.WholeSteps.{applied_copy, map_copy}
use Rattle.op_use.proofs.apply.apply_update.Goals as goal
use Rattle.op_use.specs.Server.{sections_of}
use Rattle.rr.specs.RecordSet.{SetValue}
use Rattle.rr.specs.contracts.rr_set.RecordSetClone.TheImpl as set_clone
use Rattle.std.proofs.Common.{rules}
use Rattle.std.proofs.lemmas.Map.Entries.{entries_from_clone}
use Rattle.std.specs.BTreeMap.{BTreeMap, IsClone, IsUnchanged}

copied : (m n : BTreeMap RrKey SetValue) → IsClone (key_clone.is_clone-value).it (set_clone.is_clone-value).it m n
    → IsUnchanged m n
copied m n h = entries_from_clone _ _ (λ x y h. search rules) (λ v w h. search rules) _ _ h

pub update_in_place-requires : goal.update_in_place-requires
update_in_place-requires c =
    map_copy c.args.origin.now c.args.class c.args.sets.now c.in_ok-sets.sets c.in_ok-sets.sets
    (copied c.args.sets.now c.in_ok-sets.sets c.in_ok-sets.ensures.cases) c.requires

pub returns-clause-applied : goal.returns-clause-applied
returns-clause-applied c =
    applied_copy c.args.origin.now c.args.class c.args.sets.now c.in_ok-sets.sets c.update_in_place.new.sets
    (copied c.args.sets.now c.in_ok-sets.sets c.in_ok-sets.ensures.cases)
    (sections_of (message_value c.args.message.now)) c.in_ok-code.code c.in_ok-code.ensures.applied
