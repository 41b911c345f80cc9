-- Zone transfers of a zone that a caller holds.
use Rattle.std.specs.Prelude.{Err, List, None, Ok, Option, Result, Some, Vec, [], ◌≡◌, ◌⊎◌, ℕ, ℤ}
use Rattle.std.specs.declared.alloc.Global.{Global}
use Rattle.authority.specs.Transfer.{IsTooLarge, IsTransferred}
use Rattle.authority.specs.declared.transferring.TransferPlace.{TransferPlace}
use Rattle.base.specs.declared.dns_class.DNSClass.TheVariants as classes
use Rattle.base.specs.declared.limits.TheConstants.{MAX_MESSAGE}
use Rattle.op.specs.Message.{MessageValue}
use Rattle.op.specs.MessageWritten.{message_answer}
use Rattle.tasks.specs.Asked.{Asked, written}
use Rattle.tasks.specs.Message.{message_of}
use Rattle.tasks.specs.Refusals.{closed, too_long}
use Rattle.tasks.specs.declared.refusal.Refusal.{Refusal}
use Rattle.capi.specs.Answer.{HasNoRoom, IsPut, IsTurnedAway}
use Rattle.capi.specs.KeptPlace.{place_kept}
use Rattle.capi.specs.declared.zone_handle.held.HeldZone.{HeldZone}
use Rattle.capi.specs.declared.zone_handle.place.KeptPlace.{KeptPlace}

-- what comes next in the transfer that a message asks of a zone for
abbrev pub IsNextIn : HeldZone → MessageValue → TransferPlace → Option (MessageValue × TransferPlace) → Type 0
IsNextIn zone = IsTransferred zone.origin classes.IN zone.sets

-- What a call goes on with: the message that the query's bytes begin with, and the place that is kept.
pub record IsAskedAt (query : List ℕ) (kept : KeptPlace) (m : MessageValue) (place : TransferPlace) : Type 0 where
  pub asks : message_of query ≡ Ok m
  pub goes_on : place_kept kept ≡ Ok place

-- The bytes of the next message, and the place after it as it is kept; no bytes, and what was kept, where nothing is
-- sent; or why there is none.
pub data IsServed (zone : HeldZone) (query : List ℕ) (kept : KeptPlace) : Asked (List ℕ × KeptPlace) → Type 0 where
  malformed : {number : ℕ} → message_of query ≡ Err number → IsServed zone query kept (Err number)
  misplaced : {number : ℕ} → place_kept kept ≡ Err number → IsServed zone query kept (Err number)
  silent : (m : MessageValue) (place : TransferPlace) → IsAskedAt query kept m place
      → IsNextIn zone m place None → IsServed zone query kept (Ok ([], kept))
  sent : (m message : MessageValue) (place next : TransferPlace) {bytes : List ℕ} {then : KeptPlace}
      → IsAskedAt query kept m place → IsNextIn zone m place (Some (message, next))
      → message_answer MAX_MESSAGE message ≡ Ok bytes → place_kept then ≡ Ok next
      → IsServed zone query kept (Ok (bytes, then))
  unwritten : (m message : MessageValue) (place next : TransferPlace) {number : ℕ} → IsAskedAt query kept m place
      → IsNextIn zone m place (Some (message, next)) → written (message_answer MAX_MESSAGE message) ≡ Err number
      → IsServed zone query kept (Err number)
  too_large : (m : MessageValue) (place : TransferPlace) → IsAskedAt query kept m place
      → IsTooLarge zone.origin classes.IN zone.sets m place → IsServed zone query kept (Err too_long)

-- the bytes and the place that were made, or the number of the refusal
abbrev pub served_made : Result (Vec ℕ Global × KeptPlace) Refusal → Asked (List ℕ × KeptPlace)
served_made (Ok (bytes, kept)) = Ok (bytes.items, kept)
served_made (Err refusal) = Err refusal.number

-- What was made is served so; or memory ran out.
abbrev pub Serves : HeldZone → List ℕ → KeptPlace → Result (Vec ℕ Global × KeptPlace) Refusal → Type 0
Serves zone query kept made = IsServed zone query kept (served_made made) ⊎ (served_made made ≡ Err 3)

-- the same of a zone that may not be there
abbrev pub ServesHeld : Option HeldZone → List ℕ → KeptPlace → Result (Vec ℕ Global × KeptPlace) Refusal → Type 0
ServesHeld None query kept made = served_made made ≡ Err closed
ServesHeld (Some zone) query kept made = Serves zone query kept made

-- the same of a handle, which may be closed
abbrev pub IsServedFrom : Option HeldZone → List ℕ → KeptPlace → Asked (List ℕ × KeptPlace) → Type 0
IsServedFrom None query kept made = made ≡ Err closed
IsServedFrom (Some zone) query kept made = IsServed zone query kept made

-- The bytes stand in the caller's buffer, and the place has moved; or there is no room, or a refusal, and it stays.
abbrev pub IsMoved : Asked (List ℕ × KeptPlace) → KeptPlace → KeptPlace → List ℕ → List ℕ → ℕ → ℤ → Type 0
IsMoved (Ok (bytes, next)) from to old new needed result = ((to ≡ next) × IsPut bytes old new needed result)
    ⊎ ((to ≡ from) × HasNoRoom bytes old new needed result)
IsMoved (Err number) from to old new needed result = (to ≡ from) × IsTurnedAway number old new needed result

-- What comes of the call is left so, or refusal 3 because memory ran out.
abbrev pub IsServing : Option HeldZone → List ℕ → KeptPlace → KeptPlace → List ℕ → List ℕ → ℕ → ℤ → Type 0
IsServing zone query from to old new needed result =
    ((made : Asked (List ℕ × KeptPlace)) × IsServedFrom zone query from made
    × IsMoved made from to old new needed result)
    ⊎ IsMoved (Err 3) from to old new needed result
