-- What is read of a type and fills a length.
use Rattle.std.proofs.Common.{Bool, Err, List, Ok, ap, cond, false, refl, subst, true, ℕ, ◌+◌, ◌∙◌, ◌≡◌}
use Rattle.std.proofs.lemmas.Bool.{eq-eqb, eqb-true}
use Rattle.std.specs.Prelude.{◌==◌}
use Rattle.base.specs.reading.Reading.{Read}
use Rattle.base.specs.declared.error.decode_error.DecodeError.TheVariants as faults
use Rattle.base.specs.declared.error.decode_error.DecodeError.{DecodeError}
use Rattle.base.specs.declared.record_type.RecordType.TheVariants as types
use Rattle.base.specs.declared.record_type.RecordType.{RecordType}
use Rattle.base_data.proofs.Tells.{Fills, same_ok}
use Rattle.base_data.specs.DataAt.{IsDataAt}
use Rattle.base_data.specs.Kinds.{as_any}
use Rattle.base_data.specs.RData.{filling}
use Rattle.base_data.specs.declared.rdata.RData.{RData}

-- what is read of a type and fills a length is data that stands, and else it is refused
pub record IsRow (type : RecordType) (len : ℕ) (B : List ℕ) (i : ℕ) (read : Read RData) : Type 0 where
  pub says : (r : RData × ℕ) → filling type (i + len) read ≡ Ok r → IsDataAt B i type len r.0 × (r.1 ≡ i + len)
  pub fault : (f : DecodeError) → filling type (i + len) read ≡ Err f → f ≡ faults.BadData type

filled : {Y : Type 0} (type : RecordType) (end : ℕ) (x y : Y × ℕ)
    → cond (x.1 == end) (Ok x) (Err (faults.BadData type)) ≡ Ok y → (x ≡ y) × (x.1 ≡ end)
filled type end x y is = at (x.1 == end) refl is where
  at : (test : Bool) → (x.1 == end) ≡ test → cond test (Ok x) (Err (faults.BadData type)) ≡ Ok y → (x ≡ y) × (x.1 ≡ end)
  at true same is = (same_ok x y is, eqb-true x.1 end same)
  at false same is = cc

unfilled : {Y : Type 0} (type : RecordType) (test : Bool) (x : Y × ℕ) (f : DecodeError)
    → cond test (Ok x) (Err (faults.BadData type)) ≡ Err f → f ≡ faults.BadData type
unfilled type true x f is = cc
unfilled type false x f is = cc

fault_in : (type : RecordType) (e : DecodeError) → (e ≡ faults.Memory → ⊥) → (f : DecodeError)
    → filling type 0 (Err e) ≡ Err f → f ≡ faults.BadData type
fault_in type faults.Memory other f is = absurd (other refl)
fault_in type _ other f is = cc

-- of a kind
pub row_of : {X : Type 0} {P : X → Type 0} (type : RecordType) (len : ℕ) (B : List ℕ) (i : ℕ) (kind : X → RData)
    (read : Read X) → Fills read (i + len) P
    → ((x : X) → P x → IsDataAt B i type len (kind x)) → IsRow type len B i (as_any kind read)
row_of {X} type len B i kind (Ok p) fills stands = record {
  says = λ r is.
      let full = filled type (i + len) (kind p.0, p.1) r is in
      subst (λ (z : RData × ℕ). IsDataAt B i type len z.0 × (z.1 ≡ i + len)) full.0
      (stands p.0 (fills.says p.0 (ap (λ (e : ℕ). ok (p.0, e)) full.1)), full.1);
  fault = λ f is. unfilled type (p.1 == (i + len)) (kind p.0, p.1) f is;
} where
  ok : X × ℕ → Read X
  ok z = Ok z
row_of {X} type len B i kind (Err e) fills stands = record {
  says = λ r is. cc;
  fault = fault_in type e (λ same. fills.fault (ap (λ (g : DecodeError). err g) same));
} where
  err : DecodeError → Read X
  err g = Err g

pub again_of : {X : Type 0} {P : X → Type 0} (type : RecordType) (end : ℕ) (kind : X → RData) (read : Read X)
    → Fills read end P → (x : X) → P x
    → filling type end (as_any kind read) ≡ Ok (kind x, end)
again_of {X} type end kind read fills x is =
    ap (λ (r : Read X). filling type end (as_any kind r)) (fills.again x is) ∙ rw (eq-eqb end end refl) refl

pub no_row : (len : ℕ) (B : List ℕ) (i : ℕ) → IsRow types.ZERO len B i (Err (faults.BadData types.ZERO))
no_row len B i = record { says = λ r is. cc; fault = λ f is. cc }
