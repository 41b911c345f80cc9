-- How answers of a message are gathered (RFC 5936, 2.2).
use Rattle.authority.specs.Transfer.{IsFull, is_end, plain_records}
use Rattle.authority.specs.declared.filling.Answers.{Answers}
use Rattle.authority.specs.declared.transferring.TransferPlace.{TransferPlace}
use Rattle.base_data.specs.declared.rdata.RData.{RData}
use Rattle.rr.specs.Record.{plain_record}
use Rattle.rr.specs.declared.record.Record.{Record}
use Rattle.std.specs.Prelude.{Bool, List, MatchOption, Option, [], false, true, ◌+◌, ◌++◌, ◌<◌, ◌∷◌, ◌≡◌, ◌⊎◌}

-- A record was added, and takes its bytes of the room; or it had none, and nothing changed.
abbrev pub Adds : Record RData → Answers → Bool → Answers → Type 0
Adds r a true b = (b.records.items ≡ a.records.items ++ r ∷ []) × (b.room + plain_record r ≡ a.room)
Adds r a false b = (b.records.items ≡ a.records.items) × (b.room ≡ a.room) × (a.room < plain_record r)

-- Of the records before, those after are left: the others were added, and took their bytes of the room.
pub record Fills (before after : List (Record RData)) (a b : Answers) : Type 0 where
  pub moved : b.records.items ++ after ≡ a.records.items ++ before
  pub counted : plain_records b.records.items + b.room ≡ plain_records a.records.items + a.room

-- All were added, or those up to a place, where the next has no room.
abbrev pub FillsUpTo : {P : Type 0} → List (Record RData) → (P → List (Record RData)) → Answers → Option P → Answers
    → Type 0
FillsUpTo before left a o b =
    MatchOption o (Fills before [] a b) (λ p. Fills before (left p) a b × IsFull b.room (left p))

-- Those up to a place of a transfer were added, which is its end, or the next has no room.
abbrev pub FillsTo : (TransferPlace → List (Record RData)) → TransferPlace → Answers → TransferPlace → Answers → Type 0
FillsTo left place a next b = Fills (left place) (left next) a b
    × ((is_end next ≡ true) ⊎ IsFull b.room (left next))
