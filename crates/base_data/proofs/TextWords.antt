-- Texts, read where their strings stand.
use Rattle.std.proofs.Common.{Bool, Err, List, Ok, [], ap, arith, cond, drop, false, length, refl, subst, sym, true, ℕ}
use Rattle.std.proofs.Common.{◌++◌, ◌+◌, ◌<◌, ◌∙◌, ◌∷◌, ◌≡◌, ◌≢◌, ◌≤◌}
use Rattle.std.proofs.lemmas.List.Elements.{All-cons, All-drop, All-head, All-nil, All-tail, All-take}
use Rattle.std.proofs.lemmas.List.{drop_at}
use Rattle.std.proofs.lemmas.Slice.Eq.{bytes_eq-Decides}
use Rattle.std.specs.Prelude.{All}
use Rattle.base.proofs.names.LabelLemmas.{labels_of-wire_of, wire_of-nil}
use Rattle.base.specs.names.Labels.{labels_of, wire_of}
use Rattle.base.specs.Words.{Bytes}
use Rattle.base.specs.declared.error.decode_error.DecodeError.TheVariants as faults
use Rattle.base.specs.declared.record_type.RecordType.TheVariants as types
use Rattle.base_data.proofs.Tells.{Fills, Tells, fills_from, fills_same, room_for, same_ok, tells_bytes, tells_then}
use Rattle.base_data.specs.DataAt.{IsDataAt}
use Rattle.base_data.specs.TXT.{AreShort, are_strings, txt_at}
use Rattle.base_data.specs.declared.rdata.RData.TheVariants as kinds

-- strings, or a refusal
strings_ok : (test : Bool) (x y : List (List ℕ) × ℕ) → cond test (Ok x) (Err faults.InsufficientBytes) ≡ Ok y
    → (test ≡ true) × (x ≡ y)
strings_ok true x y is = (refl, same_ok x y is)
strings_ok false x y is = cc

strings_fault : (test : Bool) (x : List (List ℕ) × ℕ)
    → cond test (Ok x) (Err faults.InsufficientBytes) ≡ Err faults.Memory → ⊥
strings_fault true x is = cc
strings_fault false x is = cc

tells_strings : (r : List ℕ × ℕ) → Tells {X = List (List ℕ) × ℕ}
    (cond (are_strings r.0) (Ok (labels_of r.0, r.1)) (Err faults.InsufficientBytes))
    (λ y. (r.0 ≡ wire_of y.0) × (r.1 ≡ y.1))
tells_strings r = record {
  says = λ y is.
      let read = strings_ok (are_strings r.0) (labels_of r.0, r.1) y is in
      let whole : wire_of (labels_of r.0) ≡ r.0 = (bytes_eq-Decides (wire_of (labels_of r.0)) r.0).0 read.0 in
      (sym whole ∙ ap (λ (z : List (List ℕ) × ℕ). wire_of z.0) read.1, ap (λ (z : List (List ℕ) × ℕ). z.1) read.1);
  again = λ y is.
      let cut : labels_of r.0 ≡ y.0 = ap labels_of is.0 ∙ labels_of-wire_of y.0 in
      let whole : are_strings r.0 ≡ true = (bytes_eq-Decides (wire_of (labels_of r.0)) r.0).1
      (ap wire_of cut ∙ sym is.0) in
      rw (whole, cut, is.1) refl;
  fault = strings_fault (are_strings r.0) (labels_of r.0, r.1);
}

pub fills_txt : (len : ℕ) (B : List ℕ) (i : ℕ) → 1 ≤ len
    → Fills (txt_at len B i) (i + len) (λ x. Bytes (wire_of x) B i (i + len) × (x ≢ []))
fills_txt len B i some = fills_same (fills_from (i + len) (tells_then (tells_bytes len B i) tells_strings))
    (λ x (r, at, is). (
      subst (λ (bytes : List ℕ). Bytes bytes B i (i + len)) is.0 (subst (Bytes r.0 B i) is.1 at.word),
      λ none. absurd (omega (arith, at.counted, ap length (is.0 ∙ ap wire_of none ∙ wire_of-nil))),
    ))
    (λ x is.
    let counted : length (wire_of x) ≡ len = omega (arith, is.0.1) in (
      (wire_of x, i + len),
      record {
        word = is.0;
        counted = counted;
        inside =
            omega (arith, room_for (wire_of x) B i is.0.0 (omega arith), counted);
      },
      (refl, refl),
    ))

pub some_strings : (xs : List (List ℕ)) → xs ≢ [] → 1 ≤ length (wire_of xs)
unfolding wire_of
some_strings [] other = absurd (other refl)
some_strings (x ∷ xs) other = omega arith

-- strings in bytes are short
short_in : (strings : List (List ℕ)) → All (λ b. b < 256) (wire_of strings) → AreShort strings
unfolding wire_of
short_in [] small = All-nil (λ string. length string ≤ 255)
short_in (x ∷ xs) small =
    let P : ℕ → Type 0 = λ b. b < 256 in
    let first = All-head P (length x) (x ++ wire_of xs) small in
    let after = All-drop P (length x) (x ++ wire_of xs) (All-tail P (length x) (x ++ wire_of xs) small) in
    All-cons (λ string. length string ≤ 255) x xs (omega (arith, first))
    (short_in xs (subst (All P) (drop_at x (wire_of xs) (length x) refl) after))

pub short_strings : (B : List ℕ) (i len : ℕ) (strings : List (List ℕ)) → All (λ b. b < 256) B
    → IsDataAt B i types.TXT len (kinds.TXT strings) → AreShort strings
short_strings B i len strings small at =
    let P : ℕ → Type 0 = λ b. b < 256 in
    short_in strings (subst (All P) at.word.0.is
    (All-take P (length (wire_of strings)) (drop i B) (All-drop P i B small)))
