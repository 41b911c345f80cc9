-- Runs one after another, put together and taken apart.
use Rattle.std.proofs.Common.{◌≡◌, ◌∙◌, refl, ap, subst, sym, Result, Ok, Err}
use Rattle.std.specs.Prelude.{IsErrAnd, ⊤}
use Rattle.std.proofs.lemmas.Result.{err_from_is_err_and}
use Rattle.base.specs.writing.Laws.{Keeps}
use Rattle.base.proofs.writing.LawLemmas.{Keeps-then}
use Rattle.base.specs.writing.State.{State}
use Rattle.base.specs.declared.error.proto_error.ProtoError.{ProtoError}
use Rattle.op.specs.Composition.{AndThen, Continues}

pub same_err : {Y : Type 0} (e f : ProtoError) → ◌≡◌ {A = Result Y ProtoError} (Err e) (Err f) → e ≡ f
same_err e f is = cc

module _ {X Y : Type 0} (first : State → Result X ProtoError → State → Type 0) (stays : Type 0)
    (next : X → State → Result Y ProtoError → State → Type 0) (a b c : State) where
  runs_by : (P : Result Y ProtoError → Type 0) (answer : Result X ProtoError) (result : Result Y ProtoError)
      → first a answer b → Continues stays next answer b result c → ((e : ProtoError) → first a (Err e) c → P (Err e))
      → ((x : X) (m : State) → first a (Ok x) m → next x m result c → P result) → P result
  runs_by P (Ok x) result ran rest stopped on = on x b ran rest
  runs_by P (Err e) result ran rest stopped on =
      subst P (sym rest.0) (stopped e (subst (λ s. first a (Err e) s) (sym rest.1) ran))

module _ {X Y : Type 0} {first : State → Result X ProtoError → State → Type 0} {stays : Type 0} {next : X → State
    → Result Y ProtoError → State → Type 0} {a c : State} where
  -- with a state d that keeps what stood before: that at a refusal, or a later one
  pub goes : {result : Result Y ProtoError} {d : State} (x : X) (b : State) → Keeps a b → first a (Ok x) b
      → Keeps b d × next x b result c → Keeps a d × AndThen first stays next a result c
  goes x b keeps ran rest = (Keeps-then keeps rest.0, record { answer = Ok x; between = b; ran = ran; rest = rest.1 })

  pub stops : {result : Result Y ProtoError} (e : ProtoError) → Keeps a c → first a (Err e) c
      → IsErrAnd result (λ f. f ≡ e) → stays → Keeps a c × AndThen first stays next a result c
  stops e keeps ran returned idle =
      let is = err_from_is_err_and _ returned in
      (keeps, record { answer = Err e; between = c; ran = ran; rest = (is.1 ∙ ap (λ f. Err f) is.2, refl, idle) })

  -- what follows of a refusal of the first, and of its value and the answer of the second, follows of the whole
  pub runs : (P : Result Y ProtoError → Type 0) {result : Result Y ProtoError} → AndThen first stays next a result c
      → ((e : ProtoError) → first a (Err e) c → P (Err e))
      → ((x : X) (m : State) → first a (Ok x) m → next x m result c → P result) → P result
  runs P {result} s stopped on =
      runs_by first stays next a s.between c P s.answer result s.ran s.rest stopped on

  -- the same of what is said of the first in other words
  pub first_as : {result : Result Y ProtoError} {other : State → Result X ProtoError → State → Type 0}
      → ((answer : Result X ProtoError) (b : State) → first a answer b → other a answer b)
      → AndThen first stays next a result c → AndThen other stays next a result c
  first_as same s = record {
    answer = s.answer;
    between = s.between;
    ran = same s.answer s.between s.ran;
    rest =
        s.rest;
  }

module _ {X Y Z : Type 0} {first : State → Result X ProtoError → State → Type 0}
    {second : X → State → Result Y ProtoError → State → Type 0}
    {next : Y → State → Result Z ProtoError → State → Type 0}
    {others : X → State → Result Z ProtoError → State → Type 0} {a c : State} {result : Result Z ProtoError} where
  regrouped_by : (answer : Result X ProtoError) (b m : State) (last : Result Y ProtoError) → first a answer b
      → Continues ⊤ second answer b last m → Continues ⊤ next last m result c
      → ((x : X) → AndThen (second x) ⊤ next b result c → others x b result c) → AndThen first ⊤ others a result c
  regrouped_by (Ok x) b m last ran ran_last rest nested =
      record {
        answer = Ok x;
        between = b;
        ran = ran;
        rest =
            nested x (record { answer = last; between = m; ran = ran_last; rest = rest });
      }
  regrouped_by (Err e) b m (Ok y) ran ran_last rest nested = absurd (let is = ran_last.0 in cc)
  regrouped_by (Err e) b m (Err f) ran ran_last rest nested =
      record {
        answer = Err e;
        between = b;
        ran = ran;
        rest =
            (rest.0 ∙ ap (λ g. Err g) (same_err {Y = Y} f e ran_last.0), rest.1 ∙ ran_last.1, tt);
      }

  -- two runs as one, and then the next: the first run, and then the others
  pub regrouped : AndThen (AndThen first ⊤ second) ⊤ next a result c
      → ((x : X) (b : State) → AndThen (second x) ⊤ next b result c → others x b result c)
      → AndThen first ⊤ others a result c
  regrouped s nested = regrouped_by s.ran.answer s.ran.between s.between s.answer s.ran.ran s.ran.rest s.rest
      (λ x. nested x s.ran.between)
