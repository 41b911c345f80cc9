-- The bits of the two bytes of codes and flags.
use Rattle.std.proofs.Common.{◌≡◌, ℕ, ◌+◌, ◌*◌, ◌/◌, ◌%◌, ◌^◌, ◌<◌, Bool, true, false, nat_eq, bit_or, refl, ap, ◌∙◌}
use Rattle.std.proofs.Common.{arith, zero, suc, lit<}
use Rattle.std.specs.Prelude.{◌||◌}
use Rattle.std.specs.Int.{from_bool}
use Rattle.std.proofs.lemmas.Nat.{or_block, or_shifted}
use Rattle.op.specs.Header.{bit_of, high_byte, low_byte}
use Rattle.op.specs.HeaderSays.{weighed_is}

-- a number below the lowest bit of another
or_below : (x y k m : ℕ) → x ≡ m * 2 ^ k → y < 2 ^ k → bit_or x y ≡ x + y
or_below x y k m is small = rw is (or_shifted m k y small)

-- one digit of two or-ed into another
or_digits : (p q : Bool) → bit_or (from_bool p) (from_bool q) ≡ from_bool (p || q)
or_digits true true = refl
or_digits true false = refl
or_digits false true = refl
or_digits false false = refl

digit_is : (d : ℕ) → d < 2 → d ≡ from_bool (nat_eq d 1)
digit_is zero small = refl
digit_is (suc zero) small = refl
digit_is (suc (suc d)) small = absurd (omega arith)

or_top : (p q : Bool) (s : ℕ) → s < 2 ^ 7
    → bit_or (from_bool p * 2 ^ 7 + 0) (from_bool q * 2 ^ 7 + s) ≡ from_bool (p || q) * 128 + s
or_top p q s small =
    let block : bit_or (from_bool p * 2 ^ 7 + 0) (from_bool q * 2 ^ 7 + s) ≡ bit_or (from_bool p)
    (from_bool q) * 2 ^ 7 + bit_or 0 s = or_block 7 (from_bool p) (from_bool q) 0 s (lit< tt) small in
    block ∙ ap (λ d. d * 128 + s) (or_digits p q)

-- QR, with the opcode's fifth bit or-ed in, and its low four bits
top_of : (p : Bool) (n : ℕ) → bit_or (from_bool p * 128 % 256) (n * 8 % 256) ≡ from_bool (p || bit_of 16 n) * 128 + 8 *
    (n % 16)
top_of p n =
    let digit : n / 16 % 2 ≡ from_bool (bit_of 16 n) = digit_is (n / 16 % 2) (omega arith) in
    let qr : from_bool p * 128 % 256 ≡ from_bool p * 2 ^ 7 + 0 = omega (arith, (weighed_is 1 p).1) in
    let op : n * 8 % 256 ≡ from_bool (bit_of 16 n) * 2 ^ 7 + 8 * (n % 16) = omega arith in
    rw (qr, op) (or_top p (bit_of 16 n) (8 * (n % 16)) (omega arith))

-- byte 2
pub high_of : (p a t d : Bool) (n : ℕ)
    → bit_or (bit_or (bit_or (bit_or (from_bool p * 128 % 256) (n * 8 % 256)) (from_bool a * 4 % 256))
    (from_bool t * 2 % 256)) (from_bool d) ≡ high_byte (p || bit_of 16 n) (n % 16) a t d
high_of p a t d n =
    let x = bit_or (from_bool p * 128 % 256) (n * 8 % 256) in
    let top : x ≡ from_bool (p || bit_of 16 n) * 128 + 8 * (n % 16) = top_of p n in
    let q = from_bool (p || bit_of 16 n) in
    let y = from_bool a * 4 % 256 in
    let z = from_bool t * 2 % 256 in
    let bit_a = weighed_is 4 a in
    let bit_t = weighed_is 2 t in
    let bit_d = weighed_is 1 d in
    let first : bit_or x y ≡ x + y = or_below x y 3 (q * 16 + n % 16) (omega arith) (omega arith) in
    let second : bit_or (x + y) z ≡ (x + y) + z =
    or_below (x + y) z 2 ((q * 16 + n % 16) * 2 + from_bool a) (omega arith) (omega arith) in
    let third : bit_or ((x + y) + z) (from_bool d) ≡ ((x + y) + z) + from_bool d =
    or_below ((x + y) + z) (from_bool d) 1 (((q * 16 + n % 16) * 2 + from_bool a) * 2 + from_bool t) (omega arith)
    (omega arith) in
    rw (first, second, third) (omega (arith, (weighed_is 128 (p || bit_of 16 n)).0))

-- byte 3
pub low_of : (p a c : Bool) (n : ℕ) → bit_or
    (bit_or (bit_or (from_bool p * 128 % 256) (from_bool a * 32 % 256)) (from_bool c * 16 % 256)) (n % 16)
    ≡ low_byte p a c (n % 16)
low_of p a c n =
    let x = from_bool p * 128 % 256 in
    let y = from_bool a * 32 % 256 in
    let z = from_bool c * 16 % 256 in
    let bit_p = weighed_is 128 p in
    let bit_a = weighed_is 32 a in
    let bit_c = weighed_is 16 c in
    let first : bit_or x y ≡ x + y = or_below x y 7 (from_bool p) (omega arith) (omega arith) in
    let second : bit_or (x + y) z ≡ (x + y) + z =
    or_below (x + y) z 5 (from_bool p * 4 + from_bool a) (omega arith) (omega arith) in
    let third : bit_or ((x + y) + z) (n % 16) ≡ ((x + y) + z) + n % 16 =
    or_below ((x + y) + z) (n % 16) 4 ((from_bool p * 4 + from_bool a) * 2 + from_bool c) (omega arith)
    (omega arith) in
    rw (first, second, third) (omega arith)
