-- What `Name::parse` answers is what the function gives.
use Rattle.std.proofs.Common.{◌≡◌, ◌⊎◌, inl, inr, ℕ, List, ap, sym, subst, Option, Some, None, Result, Ok, Err}
use Rattle.std.specs.Prelude.{◌↔◌, IfOk, IfErr}
use Rattle.std.specs.Result.{result_ok}
use Rattle.base.specs.declared.error.parse_error.ParseError.{ParseError}
use Rattle.base.specs.declared.error.parse_error.ParseError.TheVariants as refusals
use Rattle.base.specs.names.Labels.{NameValue}
use Rattle.base.specs.texts.NameText.{IsNameText}
use Rattle.base.specs.texts.NameOf.{name_of}
use Rattle.base.specs.texts.TextFaults.{FailsWith, Gives}
use Rattle.base.proofs.texts.NameOfLaws.{named_by, refuses}

pub gives_name : {text : List ℕ} {origin : Option NameValue} {r : Result NameValue ParseError}
    → IfOk r (IsNameText text origin)
    → ((r ≡ Err refusals.BadName) ↔ ((n : NameValue) → IsNameText text origin n → ⊥))
    → IfErr r (λ e. (e ≡ refusals.Memory) ⊎ (e ≡ refusals.BadName)) → Gives (λ n. n) r (name_of text origin)
gives_name {text} {origin} {r = Ok n} named refused err = named_by named
gives_name {text} {origin} {r = Err e} named refused err = go err where
  go : (e ≡ refusals.Memory) ⊎ (e ≡ refusals.BadName) → FailsWith e (name_of text origin)
  go (inl memory) = subst (λ (f : ParseError). FailsWith f (name_of text origin)) (sym memory) tt
  go (inr bad) = subst (λ (f : ParseError). FailsWith f (name_of text origin)) (sym bad)
      (refuses text origin (refused.0 (ap Err bad)))

pub ok_name : (text : List ℕ) (origin : Option NameValue) (n : NameValue) → IsNameText text origin n
    → Some n ≡ result_ok (name_of text origin)
ok_name text origin n named = ap result_ok (sym (named_by named))

pub no_name : (text : List ℕ) (origin : Option NameValue) → ((n : NameValue) → IsNameText text origin n → ⊥)
    → None ≡ result_ok (name_of text origin)
no_name text origin nothing = ap result_ok (sym (refuses text origin nothing))
