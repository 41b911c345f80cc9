-- Faults at their places.
use Rattle.std.proofs.Common.{◌≡◌, ℕ, ◌≤◌, List, [], ◌∷◌, length, map, reverse, refl, ap, sym, ◌∙◌, arith, true, Some}
use Rattle.std.proofs.Common.{Result, Err}
use Rattle.std.specs.Prelude.{nat_lt}
use Rattle.std.proofs.lemmas.Bool.Decides.{nat_tests}
use Rattle.std.proofs.lemmas.List.{append-nil, reverse-reverse}
use Rattle.base.specs.texts.TextFaults.{FailsWith, Fault, fault_of}
use Rattle.base.specs.declared.error.parse_error.ParseError.{ParseError}
use Rattle.base.specs.declared.error.parse_error.ParseError.TheVariants as refusals
use Rattle.txt.specs.Faults.{FailsAt, fault_value, frame_opened}
use Rattle.txt.specs.Places.{position, position_from}
use Rattle.txt.specs.Zone.{PlacedFault, fault_here}
use Rattle.txt.specs.declared.zone.fault.FaultPlace.{FaultPlace}
use Rattle.txt.specs.declared.zone.texts.Frame.{Frame}
use Rattle.txt.proofs.Stack.{under, under_is}

-- where no more than what is left stands, line and column stay
pub stays : (line column : ℕ) (text : List ℕ) (left : ℕ) → length text ≤ left
    → position_from line column text left ≡ record { line = line; column = column }
stays line column [] left le = refl
stays line column (c ∷ text) left le = let below : nat_lt (length text) left ≡ true = grind (arith, nat_tests) in
    rw below

-- a fault in the text that is read, where its place says in which texts that was opened
pub stands_at : (below : List Frame) (text : List ℕ) (left : ℕ) (place : FaultPlace)
    → ((fault : Fault) → fault_value fault place ≡ record (fault_here (position text left) fault) {
      opened = map frame_opened below;
    })
    → (fault : Fault) (from : ℕ) → left ≡ from
    → under (reverse below) (fault_here (position text from) fault) ≡ fault_value fault place
stands_at below text left place is fault from here =
    under_is (reverse below) (fault_here (position text from) fault)
    ∙ ap (λ (opened : List (List ℕ × ℕ)). record (fault_here (position text from) fault) { opened = opened })
    (append-nil (map frame_opened (reverse (reverse below))) ∙ ap (map frame_opened) (reverse-reverse below))
    ∙ ap (λ (at : ℕ). record (fault_here (position text at) fault) { opened = map frame_opened below }) (sym here)
    ∙ sym (is fault)

-- a refusal at a place, where its fault stands there
pub fails_at : {A B : Type 0} {made : Result A Fault} {zone : Result B PlacedFault} (e : ParseError)
    (place : FaultPlace) → (e ≡ refusals.Memory → ⊥) → FailsWith e made
    → ((fault : Fault) → fault_of e ≡ Some fault → made ≡ Err fault → zone ≡ Err (fault_value fault place))
    → FailsAt (record { error = e; place = Some place }) zone
fails_at refusals.Memory place no_memory fails on = absurd (no_memory refl)
fails_at e place no_memory fails on = on _ refl fails
