-- Options: read where their words stand, written, and what their bytes tell.
use Rattle.std.proofs.Common.{Bool, Err, List, Ok, Result, [], ap, arith, cond, drop, false, inl, inr, length, refl}
use Rattle.std.proofs.Common.{subst, suc, sym, take, true, zero, ℕ, ◌+◌, ◌<◌, ◌∷◌, ◌≡◌, ◌≢◌, ◌≤◌}
use Rattle.std.proofs.lemmas.Bool.{le-leb, lt-leb}
use Rattle.std.proofs.lemmas.List.Elements.{All-head, All-tail}
use Rattle.std.specs.Int.{w16}
use Rattle.std.specs.Prelude.{All, nat_le, ◌⊎◌}
use Rattle.base.proofs.reading.ReadLemmas.{bind_err, bind_ok}
use Rattle.base.specs.Words.BackToBack.{more, none}
use Rattle.base.specs.Words.{Number, Stands}
use Rattle.base.specs.declared.error.decode_error.DecodeError.TheVariants as faults
use Rattle.base.specs.declared.error.decode_error.DecodeError.{DecodeError}
use Rattle.base_data.proofs.ByteWords.{bytes_inside}
use Rattle.base_data.proofs.FieldLemmas.{split, word_same}
use Rattle.base_data.proofs.OptionLemmas.{option_moves}
use Rattle.base_data.proofs.Tells.{AreBytesAt, Fills, Tells, fills_same, room_after, same_ok, tells_bytes, tells_number}
use Rattle.base_data.proofs.Tells.{tells_ok, tells_same, tells_then}
use Rattle.base_data.specs.OPT.{FitsOption, OptionValue, opt_at, option_at, option_word, options_to, options_wire}
use Rattle.base_data.specs.OPT.{options_word}

pub tells_option : (B : List ℕ) (i : ℕ) → Tells (option_at B i) (λ r. option_word r.0 B i r.1)
tells_option B i = tells_same
    (tells_then (tells_number w16 B i)
    (λ code. tells_then (tells_number w16 B code.1)
    (λ len. tells_then (tells_bytes len.0 B len.1)
    (λ text. tells_ok (record { code = code.0; bytes = text.0 }, text.1)))))
    (λ r (code, a, (len, b, (text, t, is))).
    let counted : Number w16 (length text.0) B code.1 len.1 =
    subst (λ (n : ℕ). Number w16 n B code.1 len.1) (sym t.counted) b in
    subst (λ (x : OptionValue × ℕ). option_word x.0 B i x.1) is (code.1, a, (len.1, counted, t.word)))
    (λ r is.
    let len = is.2 in (
      (r.0.code, is.0),
      is.1,
      (
        (length r.0.bytes, len.0),
        len.1,
        ((r.0.bytes, r.1), here r.0.bytes is.0 len.0 r.1 len.1 len.2, refl),
      ),
    )) where
      here : (bytes : List ℕ) (m n e : ℕ) → Number w16 (length bytes) B m n → Stands bytes B n × (e ≡ n + length bytes)
          → AreBytesAt (length bytes) B n (bytes, e)
      here bytes m n e number stands = record {
        word = stands;
        counted = refl;
        inside =
            room_after bytes B n stands.0 (omega (arith, number.0.inside, number.1));
      }

-- a test that ends, or goes on
ended_or_not : {X : Type 0} (test : Bool) (x r : X) (s : Result X DecodeError) → cond test (Ok x) s ≡ Ok r
    → (x ≡ r) ⊎ (s ≡ Ok r)
ended_or_not true x r s is = inl (same_ok x r is)
ended_or_not false x r s is = inr is

options_say : (n end : ℕ) (B : List ℕ) (i : ℕ) (r : List OptionValue × ℕ) → options_to n end B i ≡ Ok r
    → options_word r.0 B i r.1
unfolding options_to
options_say zero end B i r is = subst (λ (x : List OptionValue × ℕ). options_word x.0 B i x.1)
    (same_ok ([], i) r is) none
options_say (suc n) end B i r is =
    elim (ended_or_not (nat_le end i) ([], i) r _ is) [
      | inl same ↦ subst (λ (x : List OptionValue × ℕ). options_word x.0 B i x.1) same none
      | inr read ↦
          let first = bind_ok (option_at B i) _ r read in
          let others = bind_ok (options_to n end B first.value.1) _ r first.second in
          let word = (tells_option B i).says first.value first.first in
          let words = options_say n end B first.value.1 others.value others.first in
          subst (λ (x : List OptionValue × ℕ). options_word x.0 B i x.1)
          (same_ok (first.value.0 ∷ others.value.0, others.value.1) r others.second) (more word words)
    ]

option_longer : (B : List ℕ) (i e : ℕ) (x : OptionValue) → option_word x B i e → i < e
option_longer B i e x word = option_moves B i (x, e) ((tells_option B i).again (x, e) word)

options_longer : {B : List ℕ} {i e : ℕ} {xs : List OptionValue} → options_word xs B i e → i ≤ e
options_longer none = omega arith
options_longer {B} {i} {e} (more {j = j} {x = x} word words) = let first = option_longer B i j x word in let others =
    options_longer words in omega arith

options_again : (n : ℕ) {B : List ℕ} {i e : ℕ} {xs : List OptionValue} → options_word xs B i e → e ≤ i + n
    → options_to n e B i ≡ Ok (xs, e)
unfolding options_to
options_again zero none room = refl
options_again zero {B} {i} {e} (more {j = j} {x = x} word words) room =
    let first = option_longer B i j x word in let others = options_longer words in absurd (omega arith)
options_again (suc n) {B} {i} none room = rw (le-leb i i (omega arith)) refl
options_again (suc n) {B} {i} {e} (more {j = j} {x = x} word words) room =
    let first = option_longer B i j x word in
    let others = options_longer words in
    let again = (tells_option B i).again (x, j) word in
    let rest = options_again n words (omega arith) in
    rw (lt-leb e i (omega arith), again, rest) refl

ended_fault : {X : Type 0} (test : Bool) (x : X) (s : Result X DecodeError) (f : DecodeError)
    → cond test (Ok x) s ≡ Err f → s ≡ Err f
ended_fault true x s f is = cc
ended_fault false x s f is = is

options_fault : (n end : ℕ) (B : List ℕ) (i : ℕ) → options_to n end B i ≡ Err faults.Memory → ⊥
unfolding options_to
options_fault zero end B i is = cc
options_fault (suc n) end B i is =
    bind_err (option_at B i) _ faults.Memory ⊥ (ended_fault (nat_le end i) ([], i) _ faults.Memory is)
    (tells_option B i).fault (λ first _ after.
    bind_err (options_to n end B first.1) _ faults.Memory ⊥ after (options_fault n end B first.1) (λ others _ last. cc))

-- options fill as many bytes
fills_opt : (len : ℕ) (B : List ℕ) (i : ℕ) → Fills (opt_at len B i) (i + len) (λ x. options_word x B i (i + len))
unfolding opt_at
fills_opt len B i = record {
  says = λ x is. options_say len (i + len) B i (x, i + len) is;
  again = λ x is. options_again len is (omega arith);
  fault = options_fault len (i + len) B i;
}

options_moves : {B : List ℕ} {i e : ℕ} {x : OptionValue} {xs : List OptionValue} → options_word (x ∷ xs) B i e → i < e
options_moves {B} {i} {e} {x} (more {j = j} word words) = let first = option_longer B i j x word in let others =
    options_longer words in omega arith

-- options, one at least, fill as many bytes, and at least one
pub fills_options : (len : ℕ) (B : List ℕ) (i : ℕ) → 1 ≤ len
    → Fills (opt_at len B i) (i + len) (λ x. options_word x B i (i + len) × (x ≢ []))
fills_options len B i some = fills_same (fills_opt len B i)
    (λ x word. (
      word,
      λ empty. nothing (subst (λ (xs : List OptionValue). options_word xs B i (i + len)) empty word)
          refl,
    ))
    (λ x is. is.0) where
      nothing : {e : ℕ} → options_word [] B i e → e ≡ i + len → ⊥
      nothing none is = absurd (omega (arith, is, some))

pub options_some : (xs : List OptionValue) (B : List ℕ) (i e : ℕ) → options_word xs B i e → 1 ≤ length xs → i < e
options_some [] B i e word some = absurd (omega arith)
options_some (x ∷ xs) B i e words some = options_moves words

-- options end inside the buffer
pub options_inside : {B : List ℕ} {i e : ℕ} {xs : List OptionValue} → i ≤ length B → options_word xs B i e
    → e ≤ length B
options_inside inside none = inside
options_inside {B} {i} {e} inside (more {j = j} {x = x} word words) =
    let len = word.2.1 in
    let ends_at : j ≤ length B = bytes_inside x.bytes B word.2.0 j (omega (arith, len.0.inside, len.1)) word.2.2 in
    options_inside ends_at words

-- options of the same bytes
pub options_same : (xs ys : List OptionValue) → All FitsOption xs → All FitsOption ys
    → options_wire xs ≡ options_wire ys → xs ≡ ys
options_same [] [] p q e = refl
options_same (x ∷ xs) (y ∷ ys) p q e =
    let one = All-head FitsOption x xs p in
    let other = All-head FitsOption y ys q in
    let code = word_same x.code y.code one.0 other.0 (ap (take 2) e) in
    let long = word_same (length x.bytes) (length y.bytes) one.1 other.1 (ap (λ (l : List ℕ). take 2 (drop 2 l)) e) in
    let parts = split x.bytes y.bytes (options_wire xs) (options_wire ys) long (ap (drop 4) e) in
    let others = options_same xs ys (All-tail FitsOption x xs p) (All-tail FitsOption y ys q) parts.1 in
    let first : x ≡ y = λ i. record { code = code i; bytes = parts.0 i } in
    λ i. first i ∷ others i
options_same xs ys p q e = absurd (omega (arith, ap length e))
