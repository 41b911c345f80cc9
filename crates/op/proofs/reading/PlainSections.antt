-- Outside the additional section neither EDNS nor a signature is read.
use Rattle.std.proofs.Common.{◌≡◌, ◌∙◌, ℕ, false, List, [], ◌∷◌, zero, suc, Ok, ap, sym, refl, arith}
use Rattle.base.proofs.reading.ReadLemmas.{bind_ok}
use Rattle.base_data.specs.Kinds.{type_of_data}
use Rattle.base_data.specs.declared.rdata.RData.{RData}
use Rattle.rr.specs.Record.{record_at}
use Rattle.rr.specs.declared.record.Record.{Record}
use Rattle.base_data.proofs.Tells.{same_ok}
use Rattle.op.specs.Section.{SectionValue, empty_section, fault_in_section, is_additional, section_at, section_from}
use Rattle.op.specs.Section.{section_with, tested}
use Rattle.op.specs.declared.op_code.OpCode.{OpCode}
use Rattle.op.proofs.reading.MessageStands.{not_opt, not_signature}
use Rattle.op.proofs.reading.SectionStands.{unless_ok}
use Rattle.op.proofs.reading.SectionWords.{follow_stand}

-- one section has the EDNS and the signature of another
pub record SameEnds (s t : SectionValue) : Type 0 where
  pub edns : t.edns ≡ s.edns
  pub signature : t.signature ≡ s.signature

one_more : (s : SectionValue) (r : Record RData) → is_additional r ≡ false → SameEnds s (section_with s r)
one_more s r elsewhere = rw (not_opt (type_of_data r.rdata) elsewhere, not_signature r elsewhere)
    (record { edns = refl; signature = refl })

pub ends_stay : (op : OpCode) (B : List ℕ) (n i : ℕ) (s t : SectionValue) (e : ℕ)
    → section_from false op s n B i ≡ Ok (t, e) → SameEnds s t
unfolding section_from
ends_stay op B zero i s t e is =
    let same : s ≡ t = ap (λ (x : SectionValue × ℕ). x.0) (same_ok _ _ is) in
    rw same (record { edns = refl; signature = refl })
ends_stay op B (suc n) i s t e is =
    let next = bind_ok (record_at B i) _ (t, e) is in
    let r = next.value.0 in
    let taken = bind_ok (tested false op s r) _ (t, e) next.second in
    let passes = unless_ok (fault_in_section false op s r) (section_with s r) taken.value taken.first in
    let elsewhere : is_additional r ≡ false =
    (follow_stand false op (r ∷ []) s (passes.passes, tt)).placed refl 0 r (omega arith) in
    let first = one_more s r elsewhere in
    let rest = ends_stay op B n next.value.1 taken.value t e taken.second in
    record {
      edns = rest.edns ∙ sym (ap (λ (u : SectionValue). u.edns) passes.same) ∙ first.edns;
      signature = rest.signature ∙ sym (ap (λ (u : SectionValue). u.signature) passes.same) ∙ first.signature;
    }

-- so after one of the other two sections there is nothing yet but its records
pub still_empty : (op : OpCode) (B : List ℕ) (n i : ℕ) {e : ℕ} {t : SectionValue} {records : List (Record RData)}
    → section_at false op n B i ≡ Ok (t, e) → records ≡ []
    → record { records = records; edns = t.edns; signature = t.signature } ≡ empty_section
still_empty op B n i {e} {t} is none =
    let ends = ends_stay op B n i empty_section t e is in
    rw (none, ends.edns, ends.signature) refl
