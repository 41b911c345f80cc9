use Rattle.std.proofs.Common.{ap, subst, ◌∙◌, ◌≡◌}
use Rattle.base.specs.RecordType.{type_of}
use Rattle.base.specs.declared.dns_class.DNSClass.TheVariants as classes
use Rattle.base.specs.declared.record_type.RecordType.{RecordType}
use Rattle.base_data.specs.declared.rdata.RData.{RData}
use Rattle.op.specs.Message.{message_value}
use Rattle.op_use.specs.UpdateMeaning.{DeletesSet}
use Rattle.op_use.specs.UpdateMessage.{empty_record}
use Rattle.rr.specs.declared.record.Record.{Record}
use Rattle.tasks.proofs.SentLemmas.{of_type_is}
use Rattle.tasks.proofs.update.built.message.Goals as goal

pub returns-in_ok-append-in-Append-clause-means : goal.returns-in_ok-append-in-Append-clause-means
returns-in_ok-append-in-Append-clause-means c =
    let set = c.in_ok-set-in-Append in
    rw c.in-Append.is (
      set.set,
      record { of_text = set.ensures.made; sound = set.ensures.sound },
      c.in_ok-append-in-Append.ensures.means,
    )

pub returns-in_ok-compare_and_swap-in-CompareAndSwap-clause-means :
    goal.returns-in_ok-compare_and_swap-in-CompareAndSwap-clause-means
returns-in_ok-compare_and_swap-in-CompareAndSwap-clause-means c =
    let old = c.in_ok-current-in-CompareAndSwap in
    let new = c.in_ok-next-in-CompareAndSwap in
    rw c.in-CompareAndSwap.is (
      old.current,
      new.next,
      record { of_text = old.ensures.made; sound = old.ensures.sound },
      record { of_text = new.ensures.made; sound = new.ensures.sound },
      c.in_ok-compare_and_swap-in-CompareAndSwap.ensures.means,
    )

pub returns-in_ok-delete_rrset-in-DeleteRrset-clause-means : goal.returns-in_ok-delete_rrset-in-DeleteRrset-clause-means
returns-in_ok-delete_rrset-in-DeleteRrset-clause-means c =
    let owner = c.in_ok-owner-in-DeleteRrset in
    let number = c.in-DeleteRrset.record_type in
    let type : c.in_ok-of_type-in-DeleteRrset.field-0 ≡ type_of number =
    of_type_is _ _ c.in_ok-of_type-in-DeleteRrset.ensures ∙ c.from.ensures in
    let same : c.update0-entry.result ≡ empty_record owner.owner (type_of number) classes.IN =
    c.update0-entry.ensures ∙ ap (λ (t : RecordType). empty_record owner.owner t classes.IN) type in
    rw c.in-DeleteRrset.is (
      owner.owner,
      owner.ensures.made,
      subst (λ (r : Record RData). DeletesSet r c.args.zone (message_value c.in_ok-delete_rrset-in-DeleteRrset.field-0))
          same
          c.in_ok-delete_rrset-in-DeleteRrset.ensures.means,
    )
