-- How a message is put together from its parts (RFC 1035, 4.1).
-- A run relates an encoder's state to the answer of what was done with it and to the state after that.
use Rattle.std.specs.Prelude.{◌≡◌, ℕ, Bool, true, false, All, ◌+◌, ◌<◌, ◌≤◌, max, ◌^◌, ◌||◌, List, ◌++◌, codes, length}
use Rattle.std.specs.Prelude.{replicate, ⊤, Result, Ok, Err}
use Rattle.base.specs.writing.State.{State, appended, overwritten}
use Rattle.base.specs.writing.Wire.{Refuses}
use Rattle.base.specs.declared.error.proto_error.ProtoError.{ProtoError}
use Rattle.base.specs.declared.error.proto_error.ProtoError.TheVariants as refusals
use Rattle.base_data.specs.declared.rdata.RData.{RData}
use Rattle.rr.specs.Record.{record_written}
use Rattle.rr.specs.declared.record.Record.{Record}
use Rattle.rr.specs.RecordSays.{KeptRecord}
use Rattle.op.specs.Cut.{any_lost}
use Rattle.op.specs.Header.{IsNarrow, header_bytes, raw_header}
use Rattle.op.specs.declared.header.Header.{Header}
use Rattle.op.specs.declared.header.metadata.Metadata.{Metadata}
use Rattle.op.specs.declared.message.writing.Written.{Written}
use Rattle.base.specs.writing.Written.{FirstPasses, Writing, after, in_turn}

-- ---- runs one after another

-- after a value comes the next run; a refusal is the answer of the whole, nothing more is written, and what is left
-- stays as it was
abbrev pub Continues : {X Y : Type 0} → Type 0 → (X → State → Result Y ProtoError → State → Type 0)
    → Result X ProtoError → State → Result Y ProtoError → State → Type 0
Continues stays next (Ok x) b result c = next x b result c
Continues stays next (Err e) b result c = (result ≡ Err e) × (c ≡ b) × stays

-- one run, and the next one with its value
pub record AndThen {X Y : Type 0} (first : State → Result X ProtoError → State → Type 0)
    (stays : Type 0) (next : X → State → Result Y ProtoError → State → Type 0) (old : State)
    (result : Result Y ProtoError) (new : State) : Type 0 where
  pub answer : Result X ProtoError
  pub between : State
  pub ran : first old answer between
  pub rest : Continues stays next answer between result new

-- a test that writes nothing
abbrev pub Tests : {X : Type 0} → (Result X ProtoError → Type 0) → State → Result X ProtoError
    → State → Type 0
Tests holds a result b = holds result × (b ≡ a)

-- ---- counts

-- a refusal with this text
abbrev pub SaysText : List ℕ → ProtoError → Type 0
SaysText text (refusals.Message said) = said.now ≡ text
SaysText text _ = ⊥

-- a count as a header holds it, in two bytes
abbrev pub Narrows : ℕ → Bool → Result Written ProtoError → Type 0
Narrows n is_cut (Ok written) = (n < 2 ^ 16) × (written ≡ record { count = n; is_cut = is_cut })
Narrows n is_cut (Err e) =
    (2 ^ 16 ≤ n) × SaysText (codes "too many records to fit in header count") e

-- what a part's answer counts: all its items, or those before one that had no room
abbrev pub CountsItems : Result ℕ ProtoError → Result Written ProtoError → Type 0
CountsItems (Ok n) result = Narrows n false result
CountsItems (Err (refusals.NotAllRecordsWritten n)) result = Narrows n true result
CountsItems (Err e) result = result ≡ Err e

-- both counts together, cut where either is
abbrev pub AddsCounts : Written → Written → Result Written ProtoError → Type 0
AddsCounts one other result = Narrows (one.count + other.count) (one.is_cut || other.is_cut) result

-- ---- the parts

-- room for the header is kept, of zero bytes
abbrev pub KeepsRoom : State → Result ℕ ProtoError → State → Type 0
KeepsRoom a (Ok place) b = (place ≡ length a.bytes) × (b ≡ appended (replicate 12 0) a)
    × (length b.bytes ≤ a.limit)
KeepsRoom a (Err e) b = (b ≡ a) × Refuses {X = Header} 12 a (Err e)

-- a part is written as it says, and counted
abbrev pub EmitsPart : {P : Type 0} → (P → State → Result ℕ ProtoError → P → State → Type 0) → P → P
    → State → Result Written ProtoError → State → Type 0
EmitsPart emits part end a result b = (answer : Result ℕ ProtoError) × emits part a answer end b
    × CountsItems answer result

-- Of the values a front was written, and is what their types keep: all that come before one whose own bytes would have
-- passed the limit.
pub record WritesFront {E : Type 0} (fits : E → Type 0) (f : E → Writing) (xs : List E)
    (a b : State) (n : ℕ) (is_cut : Bool) : Type 0 where
  pub kept : List E
  pub lost : List E
  pub whole : xs ≡ kept ++ lost
  pub fit : All fits kept
  pub counted : n ≡ length kept
  pub tells : is_cut ≡ any_lost lost
  pub exact : b ≡ after (in_turn f kept) a
  pub within : length b.bytes ≤ max (length a.bytes) a.limit
  pub passes : FirstPasses f a.limit b lost

-- of items a front is written, or memory was refused
abbrev pub WritesItems : {E : Type 0} → (E → Type 0) → (E → Writing) → List E → State
    → Result Written ProtoError → State → Type 0
WritesItems fits f xs a (Ok written) b =
    WritesFront fits f xs a b written.count written.is_cut
WritesItems fits f xs a (Err e) b = e ≡ refusals.Memory

-- a front of these records is written, or memory ran out
abbrev pub WritesRecordItems : List (Record RData) → State → Result Written ProtoError → State
    → Type 0
WritesRecordItems = WritesItems KeptRecord record_written

-- The header of a message: TC where the message has it or a part was cut. The questions' count is tested here.
abbrev pub HasHeader : Metadata → ℕ → Written → Written → Written → Result Header ProtoError
    → Type 0
HasHeader metadata queries answers authorities additionals (Ok h) =
    IsNarrow h.metadata.id h.counts
    × (h ≡ record {
      metadata =
          record metadata {
            truncation = metadata.truncation
                || (answers.is_cut || (authorities.is_cut || additionals.is_cut));
          };
      counts = record {
        queries = queries;
        answers = answers.count;
        authorities = authorities.count;
        additionals = additionals.count;
      };
    })
HasHeader metadata queries answers authorities additionals (Err e) = (2 ^ 16 ≤ queries)
    × SaysText (codes "too many queries to fit in header count") e

-- the header is written into the room that was kept for it
abbrev pub FillsIn : ℕ → Header → State → Result Header ProtoError → State → Type 0
FillsIn place header a result b = (result ≡ Ok header)
    × (b ≡ overwritten place (header_bytes (raw_header header)) a)

-- the answers A, the authorities N and the additionals D, each before it was written and after that
module _ {A N D : Type 0} (emits_a : A → State → Result ℕ ProtoError → A → State → Type 0)
    (emits_n : N → State → Result ℕ ProtoError → N → State → Type 0)
    (emits_d : D → State → Result ℕ ProtoError → D → State → Type 0) (a a' : A) (n n' : N)
    (d d' : D) where
  -- A message: room for the header, the questions Q, three sections, each whatever became of the one before it, OPT and
  -- the signature, the sum of all additional records tested after each, and the header into its room.
  abbrev pub Composition : {Q : Type 0} → Metadata
      → (Q → State → Result ℕ ProtoError → Q → State → Type 0) → Q → Q → List (Record RData)
      → List (Record RData) → State
      → Result Header ProtoError → State → Type 0
  Composition metadata emits_q q q' edns signature =
      AndThen KeepsRoom ((q' ≡ q) × (a' ≡ a) × (n' ≡ n) × (d' ≡ d)) (λ place.
      AndThen (λ s answer t. emits_q q s answer q' t) ((a' ≡ a) × (n' ≡ n) × (d' ≡ d)) (λ queries.
      AndThen (EmitsPart emits_a a a') ((n' ≡ n) × (d' ≡ d)) (λ answers.
      AndThen (EmitsPart emits_n n n') (d' ≡ d) (λ authorities.
      AndThen (EmitsPart emits_d d d') ⊤ (λ additionals.
      AndThen (WritesRecordItems edns) ⊤ (λ opt.
      AndThen (Tests (AddsCounts additionals opt)) ⊤ (λ sum.
      AndThen (WritesRecordItems signature) ⊤ (λ signed.
      AndThen (Tests (AddsCounts sum signed)) ⊤ (λ total.
      AndThen (Tests (HasHeader metadata queries answers authorities total)) ⊤ (λ header.
      FillsIn place header))))))))))
