-- Reading the records of a section, step by step.
use Rattle.std.proofs.Common.{◌≡◌, ℕ, ◌+◌, ◌-◌, ◌<◌, ◌≤◌, Bool, List, None, Some, suc, refl, sym, ◌∙◌, arith, Ok, Err}
use Rattle.base.specs.declared.error.decode_error.DecodeError.{DecodeError}
use Rattle.base.specs.declared.error.decode_error.DecodeError.TheVariants as faults
use Rattle.base.specs.reading.Reading.{Fails}
use Rattle.base.proofs.reading.ReadLemmas.{Fails-through}
use Rattle.base_data.specs.declared.rdata.RData.{RData}
use Rattle.rr.specs.Record.{record_at}
use Rattle.rr.specs.declared.record.Record.{Record}
use Rattle.op.specs.Section.{SectionValue, fault_in_section, section_at, section_from, section_with, tested}
use Rattle.op.specs.declared.op_code.OpCode.{OpCode}

-- the section read so far, and the records that are still read, are all; in the one buffer
pub record Takes (inside : Bool) (op : OpCode) (count counter : ℕ) (first bytes : List ℕ) (start i : ℕ)
    (s : SectionValue) : Type 0 where
  pub whole : section_from inside op s (count - counter) bytes i ≡ section_at inside op count first start
  pub same : bytes ≡ first
  pub below : counter ≤ count

-- a record that passes each test stands in the section
pub test_passes : (inside : Bool) (op : OpCode) (s t : SectionValue) (r : Record RData)
    → None ≡ fault_in_section inside op s r → t ≡ section_with s r → tested inside op s r ≡ Ok t
test_passes inside op s t r none is = rw (sym none, is) refl

-- a record that fails a test is refused for the first such
pub test_fails : (inside : Bool) (op : OpCode) (s : SectionValue) (r : Record RData) (f : DecodeError)
    → Some f ≡ fault_in_section inside op s r → Fails f (tested inside op s r)
test_fails inside op s r faults.Memory fault = tt
test_fails inside op s r f fault = rw (sym fault) refl

end : (inside : Bool) (op : OpCode) (bytes : List ℕ) (i : ℕ) (s : SectionValue)
    → section_from inside op s 0 bytes i ≡ Ok (s, i)
unfolding section_from
end inside op bytes i s = refl

module _ {inside : Bool} {op : OpCode} {n c : ℕ} {first bytes : List ℕ} {start i : ℕ} {s : SectionValue}
    (w : Takes inside op n c first bytes start i s) where
  -- a record that was read and tested stands in the section
  step : {r : Record RData} {e : ℕ} {t : SectionValue} → c < n → record_at bytes i ≡ Ok (r, e)
      → tested inside op s r ≡ Ok t
      → section_from inside op s (n - c) bytes i ≡ section_from inside op t (n - (c + 1)) bytes e
  unfolding section_from
  step below is passes =
      let next : n - c ≡ suc (n - (c + 1)) = omega arith in
      rw (next, is, passes) refl

  unread : {f : DecodeError} → c < n → record_at bytes i ≡ Err f → section_from inside op s (n - c) bytes i ≡ Err f
  unfolding section_from
  unread below is =
      let next : n - c ≡ suc (n - (c + 1)) = omega arith in
      rw (next, is) refl

  failed : {r : Record RData} {e : ℕ} {f : DecodeError} → c < n → record_at bytes i ≡ Ok (r, e)
      → tested inside op s r ≡ Err f → section_from inside op s (n - c) bytes i ≡ Err f
  unfolding section_from
  failed below is fails =
      let next : n - c ≡ suc (n - (c + 1)) = omega arith in
      rw (next, is, fails) refl

  pub takes_more : {r : Record RData} {e : ℕ} {t : SectionValue} → c < n → record_at bytes i ≡ Ok (r, e)
      → tested inside op s r ≡ Ok t → Takes inside op n (c + 1) first bytes start e t
  takes_more below is passes = record {
    whole = sym (step below is passes) ∙ w.whole;
    same = w.same;
    below =
        omega arith;
  }

  pub takes_all : n ≤ c → section_at inside op n first start ≡ Ok (s, i)
  takes_all done =
      let none : n - c ≡ 0 = omega arith in
      sym w.whole ∙ rw none (end inside op bytes i s)

  pub takes_unread : (f : DecodeError) → c < n → Fails f (record_at bytes i)
      → Fails f (section_at inside op n first start)
  takes_unread f below fails = Fails-through f (record_at bytes i) (section_at inside op n first start)
      (λ is. sym w.whole ∙ unread below is) fails

  pub takes_failed : {r : Record RData} {e : ℕ} (f : DecodeError) → c < n → record_at bytes i ≡ Ok (r, e)
      → Fails f (tested inside op s r) → Fails f (section_at inside op n first start)
  takes_failed {r} f below is fails = Fails-through f (tested inside op s r) (section_at inside op n first start)
      (λ no. sym w.whole ∙ failed below is no) fails
