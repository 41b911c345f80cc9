-- What is read as data is what stands as data, by type and length.
use Rattle.std.proofs.Common.{Err, List, Ok, [], ap, arith, length, length-append, refl, subst, suc, sym, zero, ℕ, ◌+◌}
use Rattle.std.proofs.Common.{◌-◌, ◌∙◌, ◌≡◌}
use Rattle.std.specs.Prelude.{◌↔◌}
use Rattle.base.specs.writing.Laws.{Holds, Keeps, Writes}
use Rattle.base.specs.reading.Reading.{Read}
use Rattle.base.specs.reading.Spelling.{NamesStand}
use Rattle.base.specs.writing.State.{State}
use Rattle.base.specs.declared.error.decode_error.DecodeError.TheVariants as faults
use Rattle.base.specs.declared.error.decode_error.DecodeError.{DecodeError}
use Rattle.base.specs.declared.record_type.RecordType.{RecordType}
use Rattle.base_data.proofs.EachKind.{kind_again, kind_row, names_stand, none_again}
use Rattle.base_data.proofs.FillLemmas.{filling_of}
use Rattle.base_data.proofs.Tells.{same_ok}
use Rattle.base_data.specs.DataAt.{IsDataAt}
use Rattle.base_data.specs.Kinds.{DataWord, IsReadable, data_names, data_places, kind_at, plain_data, type_of_data}
use Rattle.base_data.specs.RData.{filling, rdata_at}
use Rattle.base_data.specs.declared.rdata.RData.TheVariants as kinds
use Rattle.base_data.specs.declared.rdata.RData.{RData}

some_data : (type : RecordType) (n : ℕ) (B : List ℕ) (i : ℕ)
    → rdata_at type (suc n) B i ≡ filling type (i + suc n) (kind_at type (suc n) B i)
some_data type n B i = filling_of type (suc n) B i (λ is. absurd (omega arith))

pub data_says : (type : RecordType) (len : ℕ) (B : List ℕ) (i : ℕ) (r : RData × ℕ) → rdata_at type len B i ≡ Ok r
    → IsDataAt B i type len r.0 × (r.1 ≡ i + len)
unfolding rdata_at
data_says type zero B i r is =
    subst (λ (z : RData × ℕ). IsDataAt B i type 0 z.0 × (z.1 ≡ i + 0)) (same_ok (kinds.Update0 type, i) r is)
    (record { type_is = refl; word = (record { is = refl }, refl); readable = tt }, omega arith)
data_says type (suc n) B i r is = (kind_row type (suc n) B i (omega arith)).says r (sym (some_data type n B i) ∙ is)

data_bad : (type : RecordType) (len : ℕ) (B : List ℕ) (i : ℕ) (f : DecodeError) → rdata_at type len B i ≡ Err f
    → f ≡ faults.BadData type
unfolding rdata_at
data_bad type zero B i f is = cc
data_bad type (suc n) B i f is = (kind_row type (suc n) B i (omega arith)).fault f (sym (some_data type n B i) ∙ is)

pub data_again : (B : List ℕ) (i len : ℕ) (d : RData) → DataWord d B i (i + len) → IsReadable d
    → rdata_at (type_of_data d) len B i ≡ Ok (d, i + len)
unfolding rdata_at
data_again B i zero d word readable = ap (λ (z : RData). ok (z, i)) (sym (none_again d B i word readable))
    ∙ ap (λ (e : ℕ). ok (d, e)) (let e : i ≡ i + 0 = omega arith in e) where
      ok : RData × ℕ → Read RData
      ok z = Ok z
data_again B i (suc n) d word readable = some_data (type_of_data d) n B i
    ∙ kind_again d (suc n) B i (omega arith) word readable

stands_again : (B : List ℕ) (i : ℕ) (type : RecordType) (len : ℕ) (d : RData) → IsDataAt B i type len d
    → rdata_at type len B i ≡ Ok (d, i + len)
stands_again B i type len d at = subst (λ (t : RecordType). rdata_at t len B i ≡ Ok (d, i + len)) at.type_is
    (data_again B i len d at.word at.readable)

pub reads_data : (B : List ℕ) (i : ℕ) (type : RecordType) (len : ℕ) (d : RData) (e : ℕ)
    → (rdata_at type len B i ≡ Ok (d, e)) ↔ (IsDataAt B i type len d × (e ≡ i + len))
reads_data B i type len d e = (
  data_says type len B i (d, e),
  λ is. stands_again B i type len d is.0
      ∙ ap (λ (m : ℕ). ok (d, m)) (sym is.1),
) where
  ok : RData × ℕ → Read RData
  ok z = Ok z

-- the names of data that is read stand at their places
pub read_names_stand : (B : List ℕ) (i : ℕ) (type : RecordType) (len : ℕ) (d : RData) (e : ℕ)
    → rdata_at type len B i ≡ Ok (d, e) → NamesStand B (data_places d B i) (data_names d)
read_names_stand B i type len d e is =
    let stands = ((reads_data B i type len d e).0 is).0 in
    names_stand d B i (i + len) stands.word stands.readable

not_both : (r : Read RData) (x : RData × ℕ) (f : DecodeError) → r ≡ Ok x → r ≡ Err f → ⊥
not_both r x f read refused = cc

-- data is refused with its type exactly where none stands
pub refuses_data : (B : List ℕ) (i : ℕ) (type : RecordType) (len : ℕ) (f : DecodeError)
    → (rdata_at type len B i ≡ Err f) ↔ ((f ≡ faults.BadData type) × ((d : RData) → ¬ IsDataAt B i type len d))
refuses_data B i type len f = (
  λ is. (
    data_bad type len B i f is,
    λ d at. not_both (rdata_at type len B i) (d, i + len) f
        (stands_again B i type len d at) is,
  ),
  λ is. found (rdata_at type len B i) refl is.0 is.1,
) where
  found : (r : Read RData) → rdata_at type len B i ≡ r → f ≡ faults.BadData type
      → ((d : RData) → ¬ IsDataAt B i type len d) → rdata_at type len B i ≡ Err f
  found (Ok r) read bad nothing = absurd (nothing r.0 (data_says type len B i r read).0)
  found (Err g) read bad nothing = read ∙ ap (λ (e : DecodeError). err e) (data_bad type len B i g read ∙ sym bad) where
    err : DecodeError → Read RData
    err e = Err e

-- what was written is read
pub written_again : (old new : State) (d : RData) → Keeps old new → Writes (DataWord d) (plain_data d) [] old new
    → IsReadable d → (B : List ℕ) → Holds old new B
    → rdata_at (type_of_data d) (length new.bytes - length old.bytes) B (length old.bytes) ≡ Ok (d, length new.bytes)
written_again old new d keeps writes readable B holds =
    let i = length old.bytes in
    let len = length new.bytes - i in
    let end : length new.bytes ≡ i + len = omega
    (arith, ap length keeps.bytes, length-append old.bytes keeps.appended) in
    let word : DataWord d B i (i + len) = subst (λ (e : ℕ). DataWord d B i e) end (writes.word_stands B holds) in
    data_again B i len d word readable ∙ ap (λ (e : ℕ). ok (d, e)) (sym end) where
      ok : RData × ℕ → Read RData
      ok z = Ok z
