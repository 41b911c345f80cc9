-- What stands in the caller's buffer.
use Rattle.std.proofs.Common.{◌∙◌, ◌<◌, ◌≤◌, inl, inr, ap, arith, drop, length, sym, subst, take, Err, List, Ok, Result, ℕ}
use Rattle.std.proofs.lemmas.List.{take_at}
use Rattle.std.specs.Prelude.{Bool, IfOk, Vec, ℤ}
use Rattle.std.specs.declared.alloc.Global.{Global}
use Rattle.tasks.specs.Asked.{Asked, Makes, MakesBy, bytes_made}
use Rattle.tasks.specs.Update.{IsSent, IsUpdate, update_asked}
use Rattle.tasks.specs.declared.refusal.Refusal.{Refusal}
use Rattle.tasks.specs.declared.update.built.Change.{Change}
use Rattle.capi.specs.Answer.{IsAnswered, IsAnsweredBy, IsLeft, IsTurnedAway}
use Rattle.capi.specs.Update.{IsUpdateAnswered}

-- what holds of the bytes that were made holds of those that were put into a buffer with room for them
pub put_holds : (P : List ℕ → Type 0) (made : Result (Vec ℕ Global) Refusal) (old new : List ℕ) (needed : ℕ)
    (result : ℤ)
    → IfOk made (λ bytes. P bytes.items) → IsLeft (bytes_made made) old new needed result → 0 < needed
    → needed ≤ length old → P (take needed new)
put_holds P (Ok bytes) old new needed result holds (inl put) some room =
    subst P (sym (ap (take needed) put.put ∙ take_at bytes.items (drop (length bytes.items) old) needed
    (sym put.needs))) holds
put_holds P (Ok bytes) old new needed result holds (inr none) some room = let small = none.small in let needs =
    none.needs in absurd (search arith)
put_holds P (Err refusal) old new needed result holds none some room = let needs = none.needs in absurd (search arith)

-- what was made of what was asked for is answered by what is left of it
pub answered_by : (Comes : Asked (List ℕ) → Type 0) (made : Result (Vec ℕ Global) Refusal) (old new : List ℕ)
    (needed : ℕ) (result : ℤ)
    → MakesBy Comes made → IsLeft (bytes_made made) old new needed result → IsAnsweredBy Comes old new needed result
answered_by Comes made old new needed result (inl comes) left = inl (bytes_made made, comes, left)
answered_by Comes made old new needed result (inr memory) left =
    inr (subst (λ m. IsLeft m old new needed result) memory left)

-- the same of what is asked for as a function
pub answered : (asked : Asked (List ℕ)) (made : Result (Vec ℕ Global) Refusal) (old new : List ℕ) (needed : ℕ)
    (result : ℤ)
    → Makes (λ bytes. bytes.items) asked made → IsLeft (bytes_made made) old new needed result
    → IsAnswered asked old new needed result
answered asked (Ok bytes) old new needed result is left =
    inl (subst (λ a. IsLeft a old new needed result) (sym is) left)
answered asked (Err refusal) old new needed result (inl memory) left =
    inr (subst (λ n. IsTurnedAway n old new needed result) memory left)
answered asked (Err refusal) old new needed result (inr is) left =
    inl (subst (λ a. IsLeft a old new needed result) (sym is) left)

-- what comes of an update is answered by what is left of it
pub update_answered : (id : ℕ) (use_edns : Bool) (origin : List ℕ) (change : Change)
    (made : Result (Vec ℕ Global) Refusal) (old new : List ℕ) (needed : ℕ) (result : ℤ)
    → MakesBy (IsSent (update_asked id use_edns origin change)) made
    → IfOk made (λ bytes. IsUpdate origin change bytes.items)
    → IsLeft (bytes_made made) old new needed result → IsUpdateAnswered id use_edns origin change old new needed result
update_answered id use_edns origin change made old new needed result comes means left = record {
  sent = answered_by (IsSent (update_asked id use_edns origin change)) made old new needed result comes left;
  update = λ some room. put_holds (IsUpdate origin change) made old new needed result means left some room;
}
