-- What is answered of a zone that a caller holds.
use Rattle.std.proofs.Common.{◌∙◌, rules, sym, Result, Ok, Err}
use Rattle.std.proofs.lemmas.Map.Entries.{entries_from_clone}
use Rattle.std.specs.BTreeMap.{BTreeMap, IsClone, IsUnchanged}
use Rattle.std.specs.Prelude.{IfOk, OnErr}
use Rattle.base.specs.contracts.rr_key.RrKeyClone.TheImpl as key_clone
use Rattle.base.specs.declared.dns_class.DNSClass.TheVariants as classes
use Rattle.base.specs.declared.error.proto_error.ProtoError.{ProtoError}
use Rattle.base.specs.declared.rr_key.RrKey.{RrKey}
use Rattle.base.specs.names.Labels.{NameValue}
use Rattle.op_use.specs.Applying.{HasSameSets, IsApplied, IsZoneMap}
use Rattle.op_use.specs.Server.{Sections}
use Rattle.op_use.specs.declared.apply.Applied.{Applied}
use Rattle.rr.specs.RecordSet.{SetValue}
use Rattle.rr.specs.contracts.rr_set.RecordSetClone.TheImpl as set_clone

-- a copy of a map has the same entries
pub copied : (m n : BTreeMap RrKey SetValue) → IsClone (key_clone.is_clone-value).it (set_clone.is_clone-value).it m n
    → IsUnchanged m n
copied m n h = entries_from_clone _ _ (λ x y h. search rules) (λ v w h. search rules) _ _ h

-- whatever comes of an update, the map may be updated again
pub updated_map : (origin : NameValue) (s : Sections) (old new : BTreeMap RrKey SetValue)
    (r : Result Applied ProtoError)
    → IsZoneMap classes.IN old → IfOk r (λ a. IsApplied origin classes.IN s old a.code new)
    → OnErr r (HasSameSets old new) → IsZoneMap classes.IN new
updated_map origin s old new (Ok a) is applied stays = applied.is_map
updated_map origin s old new (Err e) is applied stays = λ k x found. is k x (sym (stays k) ∙ found)
