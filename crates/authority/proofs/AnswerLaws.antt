-- What follows of what is answered.
use Rattle.authority.proofs.StandingLemmas.{alias_owner}
use Rattle.authority.specs.Answer.{AnswerValue, answer, answer_found, of_data, owns, with_authority}
use Rattle.authority.specs.Chain.IsChain.{ends, leads}
use Rattle.authority.specs.Chain.{AreLed, EndsFor, authorities_for, code_for}
use Rattle.authority.specs.Lookup.{Alias, Cut, Data, Finding, NoName, Outside, lookup}
use Rattle.base.specs.names.Labels.{NameValue}
use Rattle.base.specs.declared.record_type.RecordType.{RecordType}
use Rattle.base_data.specs.declared.rdata.RData.{RData}
use Rattle.op.specs.declared.response_code.ResponseCode.TheVariants.{ServFail}
use Rattle.op_use.specs.Responses.{is_empty_list}
use Rattle.op_use.specs.Zone.{Zone}
use Rattle.rr.specs.declared.record.Record.{Record}
use Rattle.std.proofs.Common.{ap, append_assoc, arith, inl, inr, refl, sym, ◌++◌, ◌+◌, ◌∙◌, ◌≤◌}
use Rattle.std.proofs.lemmas.Bool.{cond_both, false≢true}
use Rattle.std.proofs.lemmas.List.{append-nil}
use Rattle.std.specs.Prelude.{List, [], false, not, suc, true, zero, ℕ, ◌∷◌, ◌≡◌, ◌⊎◌}

some_more : (done : List (Record RData)) (r : Record RData) → is_empty_list (done ++ r ∷ []) ≡ false
some_more [] r = refl
some_more (x ∷ xs) r = refl

module _ (z : Zone) (t : RecordType) where
  -- AA is set after an alias
  abbrev HasAuthority : AnswerValue → Type 0
  HasAuthority a = a.authoritative ≡ true

  data_authority : (done : List (Record RData)) (n : NameValue) (rs : List (Record RData))
      → HasAuthority (of_data z t done n rs)
  data_authority done n [] = refl
  data_authority done n (r ∷ rs) = refl

  authority_after : (room : ℕ) (done : List (Record RData)) (n : NameValue) (f : Finding) → is_empty_list done ≡ false
      → HasAuthority (answer_found z t room done n f)
  unfolding answer_found
  authority_after room done n Outside h = refl
  authority_after room done n NoName h = refl
  authority_after room done n (Data rs) h = data_authority done n rs
  authority_after room done n (Cut m) h = ap not h
  authority_after zero done n (Alias r target) h = refl
  authority_after (suc room) done n (Alias r target) h =
      cond_both (owns target (done ++ r ∷ [])) (with_authority ServFail (done ++ r ∷ []) [] [])
      (answer_found z t room (done ++ r ∷ []) target (lookup z t target)) HasAuthority (λ e. refl)
      (λ e. authority_after room (done ++ r ∷ []) target (lookup z t target) (some_more done r))

  clear_by : (room : ℕ) (n : NameValue) (f : Finding) → (answer_found z t room [] n f).authoritative ≡ false
      → (m : NameValue) × (f ≡ Cut m)
  unfolding answer_found
  clear_by room n Outside h = absurd (false≢true (sym h))
  clear_by room n NoName h = absurd (false≢true (sym h))
  clear_by room n (Data rs) h = absurd (false≢true (sym h ∙ data_authority [] n rs))
  clear_by room n (Cut m) h = (m, refl)
  clear_by zero n (Alias r target) h = absurd (false≢true (sym h))
  clear_by (suc room) n (Alias r target) h = absurd (false≢true (sym h
      ∙ cond_both (owns target (r ∷ [])) (with_authority ServFail (r ∷ []) [] [])
      (answer_found z t room (r ∷ []) target (lookup z t target)) HasAuthority (λ e. refl)
      (λ e. authority_after room (r ∷ []) target (lookup z t target) refl)))

  clear_at : (room : ℕ) (n : NameValue) (m : NameValue) → (answer_found z t room [] n (Cut m)).authoritative ≡ false
  unfolding answer_found
  clear_at room n m = refl

  pub clear_in_referrals : (room : ℕ) (n : NameValue) → (answer z t room [] n).authoritative ≡ false
      → (m : NameValue) × (lookup z t n ≡ Cut m)
  clear_in_referrals room n h = clear_by room n (lookup z t n) h

  pub referrals_are_clear : (room : ℕ) (n m : NameValue) → lookup z t n ≡ Cut m
      → (answer z t room [] n).authoritative ≡ false
  referrals_are_clear room n m h = ap (λ f. (answer_found z t room [] n f).authoritative) h ∙ clear_at room n m

  -- the chain
  abbrev IsLed : NameValue → ℕ → List (Record RData) → AnswerValue → Type 0
  IsLed n most done a = (rs : List (Record RData)) × (a.answers ≡ done ++ rs) × (after : AreLed z t n most done rs)
      × EndsFor z t after.last a

  -- what is answered for what was found is for what the zone has
  for_found : (n : NameValue) (f : Finding) (a : AnswerValue) → lookup z t n ≡ f → a.code ≡ code_for f
      → a.authorities ≡ authorities_for z n f → EndsFor z t n a
  for_found n f a e c h = inl (c ∙ ap code_for (sym e), h ∙ ap (authorities_for z n) (sym e))

  with_records : (n : NameValue) (most : ℕ) (done rs : List (Record RData)) (a : AnswerValue) → a.answers ≡ done ++ rs
      → (rs ≡ []) ⊎ (lookup z t n ≡ Data rs) → EndsFor z t n a → IsLed n most done a
  with_records n most done rs a e found h = (
    rs,
    e,
    record {
      chain = [];
      last = n;
      records = rs;
      answers_are = refl;
      is_chain = ends n;
      short = omega arith;
      distinct = tt;
      found = found;
    },
    h,
  )

  nothing_more : (n : NameValue) (most : ℕ) (done : List (Record RData)) (a : AnswerValue) → a.answers ≡ done
      → EndsFor z t n a → IsLed n most done a
  nothing_more n most done a e h = with_records n most done [] a (e ∙ sym (append-nil done)) (inl refl) h

  of_records : (n : NameValue) (most : ℕ) (done rs : List (Record RData)) → lookup z t n ≡ Data rs
      → IsLed n most done (of_data z t done n rs)
  of_records n most done [] e = nothing_more n most done (of_data z t done n []) refl
      (for_found n (Data []) (of_data z t done n []) e refl refl)
  of_records n most done (r ∷ rs) e =
      let a : AnswerValue = of_data z t done n (r ∷ rs) in
      with_records n most done (r ∷ rs) a refl (inr e) (for_found n (Data (r ∷ rs)) a e refl refl)

  one_alias : (n target : NameValue) (most : ℕ) (done : List (Record RData)) (r : Record RData)
      → lookup z t n ≡ Alias r target → 1 ≤ most → owns n done ≡ false
      → IsLed n most done (with_authority ServFail (done ++ r ∷ []) [] [])
  one_alias n target most done r e some new = (
    r ∷ [],
    refl,
    record {
      chain = r ∷ [];
      last = target;
      records = [];
      answers_are = refl;
      is_chain = leads n target target r [] e (ends target);
      short = some;
      distinct = (ap (λ o. owns o done) (alias_owner z t n r target e) ∙ new, tt);
      found = inl refl;
    },
    inr (refl, refl),
  )

  alias_before : (n target : NameValue) (most : ℕ) (done : List (Record RData)) (r : Record RData) (a : AnswerValue)
      → lookup z t n ≡ Alias r target → owns n done ≡ false → IsLed target most (done ++ r ∷ []) a
      → IsLed n (suc most) done a
  alias_before n target most done r a e new led = (
    r ∷ led.0,
    led.1 ∙ append_assoc done (r ∷ []) led.0,
    record {
      chain = r ∷ led.2.chain;
      last = led.2.last;
      records = led.2.records;
      answers_are = ap (λ xs. r ∷ xs) led.2.answers_are;
      is_chain = leads n target led.2.last r led.2.chain e led.2.is_chain;
      short = omega (arith, led.2.short);
      distinct = (ap (λ o. owns o done) (alias_owner z t n r target e) ∙ new, led.2.distinct);
      found = led.2.found;
    },
    led.3,
  )

  led_by : (room : ℕ) (done : List (Record RData)) (n : NameValue) (f : Finding) → lookup z t n ≡ f
      → owns n done ≡ false → IsLed n (suc room) done (answer_found z t room done n f)
  unfolding answer_found
  led_by room done n Outside e new =
      let a : AnswerValue = answer_found z t room done n Outside in
      nothing_more n (suc room) done a refl (for_found n Outside a e refl refl)
  led_by room done n NoName e new =
      let a : AnswerValue = answer_found z t room done n NoName in
      nothing_more n (suc room) done a refl (for_found n NoName a e refl refl)
  led_by room done n (Data rs) e new = of_records n (suc room) done rs e
  led_by room done n (Cut m) e new =
      let a : AnswerValue = answer_found z t room done n (Cut m) in
      nothing_more n (suc room) done a refl (for_found n (Cut m) a e refl refl)
  led_by zero done n (Alias r target) e new = one_alias n target 1 done r e (omega arith) new
  led_by (suc room) done n (Alias r target) e new =
      let failed : AnswerValue = with_authority ServFail (done ++ r ∷ []) [] [] in
      let more : AnswerValue = answer_found z t room (done ++ r ∷ []) target (lookup z t target) in
      cond_both (owns target (done ++ r ∷ [])) failed more (IsLed n (suc (suc room)) done)
      (λ again. one_alias n target (suc (suc room)) done r e (omega arith) new)
      (λ fresh. alias_before n target (suc room) done r more e new
      (led_by room (done ++ r ∷ []) target (lookup z t target) refl fresh))

  pub led_to : (room : ℕ) (n : NameValue) → (led : AreLed z t n (room + 1) [] (answer z t room [] n).answers)
      × EndsFor z t led.last (answer z t room [] n)
  led_to room n = let led = led_by room [] n (lookup z t n) refl refl in (
    record {
      chain = led.2.chain;
      last = led.2.last;
      records = led.2.records;
      answers_are = led.1 ∙ led.2.answers_are;
      is_chain = led.2.is_chain;
      short = omega (arith, led.2.short);
      distinct = led.2.distinct;
      found = led.2.found;
    },
    led.3,
  )

  pub answers_are_led : (room : ℕ) (n : NameValue) → AreLed z t n (room + 1) [] (answer z t room [] n).answers
  answers_are_led room n = (led_to room n).0
