-- What a buffer begins with.
use Rattle.std.proofs.Common.{◌≡◌, ◌⊎◌, inl, inr, ℕ, List, refl, ap, sym, subst, ◌∙◌, Result, Ok, Err}
use Rattle.std.specs.Prelude.{IfErr, IfOk, MatchResult}
use Rattle.base.specs.declared.error.decode_error.DecodeError.{DecodeError}
use Rattle.base.specs.declared.error.decode_error.DecodeError.TheVariants as faults
use Rattle.base.specs.declared.error.proto_error.ProtoError.{ProtoError}
use Rattle.base.specs.declared.error.proto_error.ProtoError.TheVariants as refusals
use Rattle.base.specs.reading.Reader.{Reader, begun}
use Rattle.base.specs.reading.Reading.{Fails, Reads}
use Rattle.base_data.proofs.Tells.{same_ok}
use Rattle.op.specs.Message.{IsMessageAt, MessageValue, message_at, message_value}
use Rattle.op.specs.declared.message.Message.{Message}
use Rattle.op.specs.Fits.{Fits}
use Rattle.op.specs.ReadsOrDecodes.{FailsToDecode, ReadsOrDecodes}
use Rattle.op.proofs.reading.ReadFits.{message_fits}
use Rattle.op.proofs.reading.MessageStands.{message_again, message_stands}
use Rattle.op.proofs.writing.RunLemmas.{same_err}

-- a call that fails where there is a value to read was refused memory
want_of_memory : {A : Type 0} (f : DecodeError) (r : Result A DecodeError) (x : A) → Fails f r → r ≡ Ok x
    → f ≡ faults.Memory
want_of_memory faults.Memory r x fails is = refl
want_of_memory other r x fails is = cc

-- what a message that is read from where a buffer begins tells of it
begin : (B : List ℕ) (old new : Reader) (r : Result Message DecodeError) → old ≡ begun B
    → Reads message_value old new r (message_at old.bytes old.index)
    → Reads message_value (begun B) new r (message_at B 0)
begin B old new r is reads = subst (λ (d : Reader). Reads message_value d new r (message_at d.bytes d.index)) is reads

pub begins : (B : List ℕ) (old new : Reader) (r : Result Message DecodeError) → old ≡ begun B
    → Reads message_value old new r (message_at old.bytes old.index)
    → IfOk r (λ m. (e : ℕ) × IsMessageAt B 0 (message_value m) e)
begins B old new (Ok m) is reads = (
  new.index,
  message_stands B 0 (message_value m, new.index) (begin B old new (Ok m) is reads).0,
)
begins B old new (Err f) is reads = tt

pub begins_with : (B : List ℕ) (old new : Reader) (r : Result Message DecodeError) → old ≡ begun B
    → Reads message_value old new r (message_at old.bytes old.index)
    → (m : MessageValue) (e : ℕ) → IsMessageAt B 0 m e
    → MatchResult r (λ read. message_value read ≡ m) (λ f. f ≡ faults.Memory)
begins_with B old new (Ok read) is reads m e stands =
    ap (λ (x : MessageValue × ℕ). x.0) (same_ok _ _
    (sym (begin B old new (Ok read) is reads).0 ∙ message_again B 0 m e stands))
begins_with B old new (Err f) is reads m e stands =
    want_of_memory f (message_at B 0) (m, e) (begin B old new (Err f) is reads) (message_again B 0 m e stands)

-- a call that fails was refused memory, or with the fault that reading meets
refused_or : {A : Type 0} (f : DecodeError) (r : Result A DecodeError) → Fails f r → (f ≡ faults.Memory) ⊎ (r ≡ Err f)
refused_or faults.Memory r fails = inl refl
refused_or other r fails = inr fails

-- a call that fails was refused memory, or with the fault that is told of what reading meets
pub first_fault : {A Y : Type 0} (view : A → Y) (IsFault : DecodeError → Type 0)
    (old new : Reader) {read : Result (Y × ℕ) DecodeError} → ((f : DecodeError) → read ≡ Err f → IsFault f)
    → (r : Result A DecodeError) → Reads view old new r read → IfErr r (λ f. (f ≡ faults.Memory) ⊎ IsFault f)
first_fault view IsFault old new told (Ok x) reads = tt
first_fault view IsFault old new {read = read} told (Err f) reads =
    elim (refused_or f read reads) [ inl memory ↦ inl memory | inr is ↦ inr (told f is) ]

-- the same where a refusal wraps one of reading
pub decode_fault : {A Y : Type 0} (view : A → Y) (IsFault : DecodeError → Type 0)
    (old new : Reader) {read : Result (Y × ℕ) DecodeError} → ((f : DecodeError) → read ≡ Err f → IsFault f)
    → (r : Result A ProtoError) → ReadsOrDecodes view old new r read → (f : DecodeError) → r ≡ Err (refusals.Decode f)
    → (f ≡ faults.Memory) ⊎ IsFault f
decode_fault view IsFault old new told (Ok x) reads f is = absurd cc
decode_fault {A} view IsFault old new {read = read} told (Err e) reads f is =
    elim (refused_or f read (subst (λ (x : ProtoError). FailsToDecode x read) (same_err {Y = A} _ _ is) reads))
    [ inl memory ↦ inl memory | inr met ↦ inr (told f met) ]

pub read_fits : (B : List ℕ) (old new : Reader) (r : Result Message DecodeError) → old ≡ begun B
    → Reads message_value old new r (message_at old.bytes old.index)
    → IfOk r (λ m. Fits (message_value m))
read_fits B old new (Ok m) is reads = message_fits B 0 (message_value m) new.index
    (message_stands B 0 (message_value m, new.index) (begin B old new (Ok m) is reads).0)
read_fits B old new (Err f) is reads = tt
