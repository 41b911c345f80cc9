-- What a call from another language is asked for, and what it makes.
use Rattle.std.specs.Prelude.{◌≡◌, ◌⊎◌, ℕ, List, Result, Ok, Err, Vec}
use Rattle.std.specs.declared.alloc.Global.{Global}
use Rattle.base.specs.DecodeError.{decode_number}
use Rattle.base.specs.ProtoError.{proto_number}
use Rattle.base.specs.reading.Reading.{Read}
use Rattle.base.specs.declared.error.proto_error.ProtoError.{ProtoError}
use Rattle.tasks.specs.declared.refusal.Refusal.{Refusal}

-- what a call is asked for, or the number of its refusal
abbrev pub Asked : Type 0 → Type 0
Asked A = Result A ℕ

-- a call goes on with what was made, or ends with its refusal's number
infixl 10 ◌>>=◌
abbrev pub ◌>>=◌ : {A B : Type 0} → Asked A → (A → Asked B) → Asked B
(Ok x) >>= f = f x
(Err number) >>= f = Err number

-- ---- from what the library defines

-- what reading a buffer gives
abbrev pub read : {A : Type 0} → Read A → Asked A
read (Ok (x, end)) = Ok x
read (Err fault) = Err (decode_number fault)

-- the place after what was read
abbrev pub place_found : {A : Type 0} → Read A → Asked ℕ
place_found (Ok (x, end)) = Ok end
place_found (Err fault) = Err (decode_number fault)

-- what is written of a message
abbrev pub written : {A : Type 0} → Result A ProtoError → Asked A
written (Ok x) = Ok x
written (Err e) = Err (proto_number e)

-- ---- what a call made

-- the bytes that were made, or the number of the refusal
abbrev pub bytes_made : Result (Vec ℕ Global) Refusal → Asked (List ℕ)
bytes_made (Ok bytes) = Ok bytes.items
bytes_made (Err refusal) = Err refusal.number

-- What was made, seen by view, is what was asked for; or memory ran out.
abbrev pub Makes : {X A : Type 0} → (X → A) → Asked A → Result X Refusal → Type 0
Makes view asked (Ok x) = asked ≡ Ok (view x)
Makes view asked (Err refusal) = (refusal.number ≡ 3) ⊎ (asked ≡ Err refusal.number)

-- What was made comes of the call, by this relation; or memory ran out.
abbrev pub MakesBy : (Asked (List ℕ) → Type 0) → Result (Vec ℕ Global) Refusal → Type 0
MakesBy Comes made = Comes (bytes_made made) ⊎ (bytes_made made ≡ Err 3)
