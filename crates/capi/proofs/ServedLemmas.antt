-- What is served of a zone transfer, where a message is refused.
use Rattle.std.proofs.Common.{Err, List, Some, ap, inl, inr, sym, ℕ, ◌∙◌, ◌≡◌, ◌⊎◌}
use Rattle.authority.specs.Transfer.{IsTooLarge}
use Rattle.authority.specs.declared.transferring.TransferPlace.{TransferPlace}
use Rattle.base.specs.ProtoError.{proto_number}
use Rattle.base.specs.declared.dns_class.DNSClass.TheVariants as classes
use Rattle.base.specs.declared.error.proto_error.ProtoError.TheVariants as refusals
use Rattle.base.specs.declared.error.proto_error.ProtoError.{ProtoError}
use Rattle.base.specs.declared.limits.TheConstants.{MAX_MESSAGE}
use Rattle.op.specs.Message.{MessageValue}
use Rattle.op.specs.MessageWritten.{message_answer}
use Rattle.tasks.specs.Asked.{Asked, written}
use Rattle.tasks.specs.Refusals.{too_long}
use Rattle.capi.specs.ZoneTransfer.{IsAskedAt, IsNextIn, IsServed}
use Rattle.capi.specs.ZoneTransfer.IsServed.{too_large, unwritten}
use Rattle.capi.specs.declared.zone_handle.held.HeldZone.{HeldZone}
use Rattle.capi.specs.declared.zone_handle.place.KeptPlace.{KeptPlace}

module _ (zone : HeldZone) (query : List ℕ) (kept : KeptPlace) (m : MessageValue) (place : TransferPlace)
    (asked : IsAskedAt query kept m place) where
  -- a message that isn't written is refused, or memory ran out
  pub unsent_in : (message : MessageValue) (next : TransferPlace) → IsNextIn zone m place (Some (message, next))
      → (e : ProtoError) → (e ≡ refusals.Memory) ⊎ (message_answer MAX_MESSAGE message ≡ Err e)
      → IsServed zone query kept (Err (proto_number e))
      ⊎ (◌≡◌ {A = Asked (List ℕ × KeptPlace)} (Err (proto_number e)) (Err 3))
  unsent_in message next comes e (inl memory) = inr (ap (λ x. Err (proto_number x)) memory)
  unsent_in message next comes e (inr is) = inl (unwritten m message place next asked comes (ap written is))

  -- so is one whose next record has no room
  pub too_large_in : (e : ProtoError) → e ≡ refusals.MaxBufferSizeExceeded
      → (e ≡ refusals.Memory) ⊎ ((e ≡ refusals.MaxBufferSizeExceeded)
      × IsTooLarge zone.origin classes.IN zone.sets m place)
      → IsServed zone query kept (Err too_long)
      ⊎ (◌≡◌ {A = Asked (List ℕ × KeptPlace)} (Err too_long) (Err 3))
  too_large_in e full (inl is) = absurd (apart (sym full ∙ is)) where
    apart : refusals.MaxBufferSizeExceeded ≡ refusals.Memory → ⊥
    apart same = cc
  too_large_in e full (inr is) = inl (too_large m place asked is.1)
