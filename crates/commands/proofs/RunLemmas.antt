-- What a run of the program gives.
use Rattle.std.proofs.Common.{◌≡◌, ◌⊎◌, ℕ, List, sym, ◌∙◌, subst, inl, inr, Option, Some, None, Err}
use Rattle.std.specs.Prelude.{IfSome, ◌≢◌}
use Rattle.commands.specs.Answer.{Answer, IsShown, IsGivenBy, IsPrinted, broken, refused}
use Rattle.commands.specs.ApplyCommand.{apply_answer}
use Rattle.commands.specs.Command.{CommandAnswers, GivesAnswer, IsGiven, IsRefused, refused_word}
use Rattle.commands.specs.CutCommand.{IsCutAnswer}
use Rattle.commands.specs.HeaderCommand.{header_answer}
use Rattle.commands.specs.ReadCommand.{read_answer}
use Rattle.commands.specs.Refusal.{refusal_number}
use Rattle.commands.specs.ZoneCommand.{zone_answer}
use Rattle.commands.specs.ZoneWords.{words_after_origin}
use Rattle.commands.specs.declared.command.Command.{Command}
use Rattle.commands.specs.declared.command.Command.TheVariants as commands
use Rattle.commands.specs.declared.command.MessageCommand.TheVariants as messages
use Rattle.commands.specs.declared.refusal.Failure.{Failure}
use Rattle.commands.specs.declared.refusal.Failure.TheVariants as failures
use Rattle.commands.specs.declared.refusal.Refusal.{Refusal}

pub same_command : (a b : Command) (words : Option Command) → Some a ≡ words → words ≡ Some b → a ≡ b
same_command a b words named is = some_once (named ∙ is) where
  some_once : Some a ≡ Some b → a ≡ b
  some_once h = cc

-- what holds of what remained holds, if one follows from the other, and if it holds of any
each : {X : Type 0} {P Q : X → Type 0} (remaining : Option X) → ((x : X) → P x → Q x) → IfSome remaining P
    → IfSome remaining Q
each None then here = tt
each (Some x) then here = then x here

module _ (status : ℕ) (old new : Option (List ℕ)) where
  pub given : (answer : Answer) → (status ≡ 3) ⊎ IsPrinted answer status old new → status ≢ broken
      → IsPrinted answer status old new
  given answer (inl broke) whole = absurd (whole broke)
  given answer (inr shown) whole = shown

-- what is printed for a command, of a text
module _ (status : ℕ) (old new : Option (List ℕ)) (words : List (List ℕ)) (text : List ℕ) where
  answered : (answer_of : List ℕ → Answer) (answer : Answer) → answer_of text ≡ answer → IsPrinted answer status old new
      → IsShown (answer_of text) status old new
  answered answer_of answer is shown = inl (subst (λ a. IsPrinted a status old new) (sym is) shown)

  refused_with : (answer_of : List ℕ → Answer) (number : ℕ) → (number ≡ 3) ⊎ (answer_of text ≡ refused number)
      → IsPrinted (refused number) status old new → IsShown (answer_of text) status old new
  refused_with answer_of number (inl memory) shown =
      inr (subst (λ n. IsPrinted (refused n) status old new) memory shown)
  refused_with answer_of number (inr is) shown = answered answer_of (refused number) is shown

  -- the same of a command whose answer is a relation
  refused_by : (IsAnswer : Answer → Type 0) (number : ℕ) → (number ≡ 3) ⊎ IsAnswer (refused number)
      → IsPrinted (refused number) status old new
      → IsGivenBy IsAnswer status old new
  refused_by IsAnswer number (inl memory) shown = inr (subst (λ n. IsPrinted (refused n) status old new) memory shown)
  refused_by IsAnswer number (inr answers) shown = inl (refused number, answers, shown)

  pub refusal_answers : (command : Command) (refusal : Refusal) → CommandAnswers command words text (Err refusal)
      → IsPrinted (refused (refusal_number refusal)) status old new → IsGiven command words text status old new
  refusal_answers (commands.OnMessage messages.Header) refusal says shown =
      refused_with header_answer (refusal_number refusal) says shown
  refusal_answers (commands.OnMessage messages.Read) refusal says shown =
      refused_with read_answer (refusal_number refusal) says shown
  refusal_answers (commands.OnMessage (messages.Cut limit)) refusal says shown =
      refused_by (IsCutAnswer limit text) (refusal_number refusal) says shown
  refusal_answers (commands.Zone origin) refusal says shown =
      refused_with (zone_answer origin (words_after_origin words)) (refusal_number refusal) says shown
  refusal_answers (commands.Apply origin) refusal says shown =
      refused_with (apply_answer origin (words_after_origin words)) (refusal_number refusal) says shown

-- what was printed answers what remained of the input
module _ (status : ℕ) (old new remaining : Option (List ℕ)) (words : List (List ℕ)) (command : Command) where
  pub refusal_given : (e : Failure) (refusal : Refusal) (number : ℕ) → GivesAnswer command words remaining (Err e)
      → e ≡ failures.Refused refusal → number ≡ refusal_number refusal
      → (status ≡ 3) ⊎ IsPrinted (refused number) status old new → status ≢ broken
      → IfSome remaining (λ input. IsGiven command words input status old new)
  refusal_given e refusal number says is same printed whole =
      each remaining (λ input here. refusal_answers status old new words input command refusal here
      (subst (λ n. IsPrinted (refused n) status old new) same (given status old new (refused number) printed whole)))
      (subst (λ f. GivesAnswer command words remaining (Err f)) is says)

-- what was printed answers words that are refused before the input is read
module _ (S : Type 0) (status : ℕ) (old new : Option (List ℕ)) (words : List (List ℕ)) (command : Command) where
  told : (n number : ℕ) (refusal : Refusal) → number ≡ refusal_number refusal
      → IsRefused n (Err (failures.Refused refusal)) → IsPrinted (refused number) status old new
      → IsShown (refused n) status old new
  told n number refusal same (inl memory) shown =
      inr (subst (λ m. IsPrinted (refused m) status old new) (same ∙ memory) shown)
  told n number refusal same (inr is) shown = inl (subst (λ m. IsPrinted (refused m) status old new) (same ∙ is) shown)

  pub refusal_judged : (e : Failure) (refusal : Refusal) (number : ℕ)
      → IfSome (refused_word command words) (λ n. S × IsRefused n (Err e))
      → e ≡ failures.Refused refusal → number ≡ refusal_number refusal
      → (status ≡ 3) ⊎ IsPrinted (refused number) status old new
      → IfSome (refused_word command words) (λ n. S × (status ≢ broken → IsShown (refused n) status old new))
  refusal_judged e refusal number says is same printed =
      each (refused_word command words) (λ n here.
      (here.0, λ whole. told n number refusal same here.1 (given status old new (refused number) printed whole)))
      (subst (λ f. IfSome (refused_word command words) (λ n. S × IsRefused n (Err f))) is says)
