-- Digits that are read as a limit.
use Rattle.std.proofs.Common.{◌≡◌, ℕ, ◌<◌, ◌^◌, Bool, true, false, cond, List, length, refl, ap, sym, arith, rules}
use Rattle.std.proofs.Common.{Option, Some, None, Result, Ok, Err}
use Rattle.std.specs.Prelude.{◌&&◌, nat_lt}
use Rattle.std.specs.Char.{is_ascii_digit}
use Rattle.std.specs.List.{list_all}
use Rattle.std.specs.Result.{OkIff, result_ok}
use Rattle.std.specs.Str.Parse.{ParsesUnsigned, digits_value}
use Rattle.std.proofs.lemmas.Bool.{ltb-true, ltb-false}
use Rattle.std.proofs.lemmas.Str.Parse.{IsNumeralModel, numerals_by_value, parse_digits}
use Rattle.commands.specs.Limit.{limit_of}

digits : IsNumeralModel (λ ds. list_all is_ascii_digit ds ≡ true) (digits_value 10)
digits = numerals_by_value (λ ds. list_all is_ascii_digit ds ≡ true) (search rules)

-- a number of as many digits, if there is one and it is small
small_number : {all some small : Bool} (n len : ℕ) (r : Option ℕ) → all ≡ true → (some ≡ nat_lt 0 len)
    → (small ≡ nat_lt n 65536)
    → ((0 < len) → (n < 65536) → r ≡ Some n) → ((¬ ((0 < len) × (n < 65536))) → r ≡ None)
    → r ≡ cond (all && (some && small)) (Some n) None
small_number {all = true} {some = true} {small = true} n len r whole some small given lacks =
    given (ltb-true 0 len (sym some)) (ltb-true n 65536 (sym small))
small_number {all = true} {some = true} {small = false} n len r whole some small given lacks =
    lacks (λ h. absurd (omega (arith, ltb-false n 65536 (sym small), h.1)))
small_number {all = true} {some = false} n len r whole some below given lacks =
    lacks (λ h. absurd (omega (arith, ltb-false 0 len (sym some), h.0)))
small_number {all = false} n len r whole p q given lacks = cc

answered : {E : Type 0} (r : Result ℕ E) (n len : ℕ) → OkIff r ((0 < len) × (n < 2 ^ 16)) n
    → ((0 < len) → (n < 65536) → result_ok r ≡ Some n)
answered (Ok x) n len h some small = ap Some h.1
answered (Err e) n len h some small = absurd (h (some, small))

not_answered : {E : Type 0} (r : Result ℕ E) (n len : ℕ) → OkIff r ((0 < len) × (n < 2 ^ 16)) n
    → (¬ ((0 < len) × (n < 65536))) → result_ok r ≡ None
not_answered (Ok x) n len h lacks = absurd (lacks h.0)
not_answered (Err e) n len h lacks = refl

pub limit_read : {E : Type 0} (word : List ℕ) (r : Result ℕ E) → list_all is_ascii_digit word ≡ true
    → ParsesUnsigned 16 10 word r → result_ok r ≡ limit_of word
limit_read word r all h =
    let tells = parse_digits digits 16 word r h all in
    small_number (digits_value 10 word) (length word) (result_ok r) all refl refl
    (answered r (digits_value 10 word) (length word) tells) (not_answered r (digits_value 10 word) (length word) tells)
