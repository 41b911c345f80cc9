-- When messages are equal.
use Rattle.std.proofs.Common.{◌≡◌, Bool, Option, Some, None, refl}
use Rattle.std.specs.Prelude.{IsTrue}
use Rattle.std.specs.Bool.{Decides}
use Rattle.std.specs.Option.{option_eq, option_map}

-- a test decides that it holds
pub itself : (t : Bool) → Decides t (IsTrue t)
itself t = (λ h. h, λ h. h)

-- options are equal where what is seen in them is
pub mapped : {X Y : Type 0} (E : Y → Y → Bool) (h : X → Y) (x y : Option X)
    → option_eq E (option_map h x) (option_map h y) ≡ option_eq (λ s t. E (h s) (h t)) x y
mapped E h None None = refl
mapped E h None (Some y) = refl
mapped E h (Some x) None = refl
mapped E h (Some x) (Some y) = refl
