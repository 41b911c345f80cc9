-- What a TTL's text says is the sum of its groups.
use Rattle.std.proofs.Common.{◌≡◌, ◌⊎◌, inl, inr, ℕ, ◌+◌, ◌*◌, ◌^◌, ◌<◌, List, [], ◌∷◌, ◌++◌, length, refl, ap, sym}
use Rattle.std.proofs.Common.{◌∙◌, subst, arith, append_assoc, Option, Some, None, Bool, true, false, length-append}
use Rattle.std.specs.Prelude.{unwrap_or, nat_lt, ◌↔◌}
use Rattle.std.specs.Char.{digit_value, is_ascii_digit}
use Rattle.std.specs.Int.{IsInRange}
use Rattle.std.specs.Str.Parse.{AllDigits, IsNumeral, digits_value}
use Rattle.std.proofs.lemmas.Bool.Decides.{nat_tests}
use Rattle.std.proofs.lemmas.Int.Digits.{digits_push, digits_value_push}
use Rattle.std.proofs.lemmas.List.{append-nil}
use Rattle.std.proofs.lemmas.Str.{digit_value_digit}
use Rattle.std.proofs.lemmas.Str.Parse.{digit_from_value}
use Rattle.base.specs.texts.Ttl.{below_limit, digit_after, ttl_of, ttl_sum, unit_of}
use Rattle.base.specs.texts.TtlText.{IsTtlText, SaysSeconds, group, groups, seconds}
use Rattle.base.proofs.texts.TtlLemmas.{step_bare, step_digit, step_other, step_unit, ttl_end}

is_digit : (c : ℕ) → digit_value c < 10 → is_ascii_digit c ≡ true
is_digit c low = grind (arith, nat_tests, digit_from_value c low)

digit_is : (c : ℕ) → is_ascii_digit c ≡ true → IsInRange 48 57 c
digit_is c is = grind (arith, nat_tests, is)

-- the number that the digits so far say, if there are any
abbrev begun : List ℕ → Option ℕ
begun [] = None
begun (d ∷ ds) = Some (digits_value 10 (d ∷ ds))

begun_some : (ds : List ℕ) → 0 < length ds → begun ds ≡ Some (digits_value 10 ds)
begun_some [] some = absurd (omega (arith, some))
begun_some (d ∷ ds) some = refl

begun_value : (ds : List ℕ) → unwrap_or (begun ds) 0 ≡ digits_value 10 ds
begun_value [] = refl
begun_value (d ∷ ds) = refl

begun_push : (ds : List ℕ) (c : ℕ) → is_ascii_digit c ≡ true → begun (ds ++ c ∷ []) ≡ Some (digit_after (begun ds) c)
begun_push ds c is =
    let value = digit_value_digit c (digit_is c is) in
    begun_some (ds ++ c ∷ []) (omega (arith, length-append ds (c ∷ [])))
    ∙ ap Some (omega (arith, digits_value_push 10 ds c, begun_value ds, value))

-- digits are gathered
run : (sum : ℕ) (before ds rest : List ℕ) → AllDigits 10 ds
    → ttl_sum sum (begun before) (ds ++ rest) ≡ ttl_sum sum (begun (before ++ ds)) rest
run sum before [] rest all = ap (λ (ds : List ℕ). ttl_sum sum (begun ds) rest) (sym (append-nil before))
run sum before (c ∷ ds) rest all =
    let is = is_digit c all.0 in
    step_digit sum (begun before) c (ds ++ rest) is
    ∙ rw (← begun_push before c is, run sum (before ++ c ∷ []) ds rest all.1) (simp append_assoc)

no_digit : (c u : ℕ) → unit_of c ≡ Some u → is_ascii_digit c ≡ false
no_digit c u is = grind (arith, nat_tests)

-- a group with its unit is added
group_on : (sum u c : ℕ) (ds rest : List ℕ) → IsNumeral 10 ds → unit_of c ≡ Some u
    → ttl_sum sum None (ds ++ c ∷ rest) ≡ ttl_sum (sum + digits_value 10 ds * u) None rest
group_on sum u c ds rest number unit = rw (run sum [] ds (c ∷ rest) number.1, begun_some ds number.0)
    (step_unit sum (digits_value 10 ds) u c rest (no_digit c u unit) unit)

said : {text : List ℕ} {s : ℕ} (sum : ℕ) → SaysSeconds text s → ttl_sum sum None text ≡ Some (sum + s)
said sum (seconds ds number) =
    ap (ttl_sum sum None) (sym (append-nil ds))
    ∙ run sum [] ds [] number.1
    ∙ ttl_end sum (begun ds)
    ∙ ap (λ (n : ℕ). Some (sum + n)) (begun_value ds)
said sum (group ds c u number unit) =
    group_on sum u c ds [] number unit ∙ ttl_end (sum + digits_value 10 ds * u) None ∙ ap Some (omega arith)
said sum (groups ds c u rest s number unit others) =
    group_on sum u c ds rest number unit ∙ said (sum + digits_value 10 ds * u) others ∙ ap Some (omega arith)

some_same : (m n : ℕ) → ◌≡◌ {A = Option ℕ} (Some m) (Some n) → m ≡ n
some_same m n is = cc

-- beside a sum the text says these seconds, or there is no more of it
abbrev Rest : List ℕ → ℕ → ℕ → Type 0
Rest text sum total = ((text ≡ []) × (total ≡ sum)) ⊎ ((s : ℕ) × SaysSeconds text s × (total ≡ sum + s))

group_back : (sum total u c : ℕ) (ds rest : List ℕ) → IsNumeral 10 ds → unit_of c ≡ Some u
    → Rest rest (sum + digits_value 10 ds * u) total → Rest (ds ++ c ∷ rest) sum total
group_back sum total u c ds rest number unit (inl ends) =
    inr (
      digits_value 10 ds * u,
      subst (λ (xs : List ℕ). SaysSeconds (ds ++ c ∷ xs) (digits_value 10 ds * u))
          (sym ends.0) (group ds c u number unit),
      ends.1,
    )
group_back sum total u c ds rest number unit (inr others) =
    inr (digits_value 10 ds * u + others.0, groups ds c u rest others.0 number unit others.1, omega (arith, others.2))

found : (text before : List ℕ) (sum total : ℕ) → AllDigits 10 before → ttl_sum sum (begun before) text ≡ Some total
    → Rest (before ++ text) sum total
found [] [] sum total all is = inl (refl, some_same total sum (sym is ∙ ttl_end sum None ∙ ap Some (omega arith)))
found [] (d ∷ ds) sum total all is =
    let value = some_same total (sum + digits_value 10 (d ∷ ds)) (sym is ∙ ttl_end sum (begun (d ∷ ds))) in
    inr (
      digits_value 10 (d ∷ ds),
      subst (λ (xs : List ℕ). SaysSeconds xs (digits_value 10 (d ∷ ds)))
          (sym (append-nil (d ∷ ds))) (seconds (d ∷ ds) (omega arith, all)),
      value,
    )
found (c ∷ text) before sum total all is = go (is_ascii_digit c) refl (unit_of c) refl before all is (found text) where
  go : (digit : Bool) → is_ascii_digit c ≡ digit → (u : Option ℕ) → unit_of c ≡ u → (before : List ℕ)
      → AllDigits 10 before → ttl_sum sum (begun before) (c ∷ text) ≡ Some total
      → ((b : List ℕ) (s t : ℕ) → AllDigits 10 b → ttl_sum s (begun b) text ≡ Some t → Rest (b ++ text) s t)
      → Rest (before ++ c ∷ text) sum total
  go true digit u unit before all is again =
      let low : digit_value c < 10 = omega (arith, digit_value_digit c (digit_is c digit), (digit_is c digit).1) in
      let on = ap (λ (b : Option ℕ). ttl_sum sum b text) (begun_push before c digit)
      ∙ sym (step_digit sum (begun before) c text digit) ∙ is in
      subst (λ (xs : List ℕ). Rest xs sum total) (append_assoc before (c ∷ []) text)
      (again (before ++ c ∷ []) sum total (digits_push 10 before c all low) on)
  go false digit u unit [] all is again = absurd (cc (sym is ∙ step_bare sum c text digit))
  go false digit None unit (d ∷ ds) all is again =
      absurd (cc (sym is ∙ step_other sum (digits_value 10 (d ∷ ds)) c text digit unit))
  go false digit (Some u) unit (d ∷ ds) all is again =
      group_back sum total u c (d ∷ ds) text (omega arith, all) unit
      (again [] (sum + digits_value 10 (d ∷ ds) * u) total tt
      (sym (step_unit sum (digits_value 10 (d ∷ ds)) u c text digit unit) ∙ is))

below_is : (o : Option ℕ) (n : ℕ) → below_limit o ≡ Some n → (o ≡ Some n) × (n < 2 ^ 32)
below_is None n is = absurd (cc is)
below_is (Some m) n is = grind (arith, nat_tests)

below_some : (n : ℕ) → n < 2 ^ 32 → below_limit (Some n) ≡ Some n
below_some n small = let is : nat_lt n (2 ^ 32) ≡ true = grind (arith, nat_tests) in rw is refl

some_text : {text : List ℕ} {s : ℕ} → SaysSeconds text s → 0 < length text
some_text (seconds ds number) = number.0
some_text (group ds c u number unit) = omega (arith, length-append ds (c ∷ []))
some_text (groups ds c u rest s number unit others) = omega (arith, length-append ds (c ∷ rest))

pub ttl_text : (text : List ℕ) (n : ℕ) → (ttl_of text ≡ Some n) ↔ IsTtlText text n
unfolding ttl_of
ttl_text [] n = (λ is. absurd (cc is), λ said. absurd (omega (arith, some_text said.0)))
ttl_text (c ∷ text) n = (there, back) where
  at : Rest (c ∷ text) 0 n → n < 2 ^ 32 → IsTtlText (c ∷ text) n
  at (inl ends) small = absurd (omega (arith, ap length ends.0))
  at (inr one) small =
      let total : one.0 ≡ n = omega (arith, one.2) in
      (subst (SaysSeconds (c ∷ text)) total one.1, small)

  there : ttl_of (c ∷ text) ≡ Some n → IsTtlText (c ∷ text) n
  there is =
      let sum = below_is (ttl_sum 0 None (c ∷ text)) n is in
      at (found (c ∷ text) [] 0 n tt sum.0) sum.1

  back : IsTtlText (c ∷ text) n → ttl_of (c ∷ text) ≡ Some n
  back is = ap below_limit (said 0 is.0) ∙ ap (λ (k : ℕ). below_limit (Some k)) (omega arith) ∙ below_some n is.1
