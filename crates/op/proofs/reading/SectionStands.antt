-- Sections that stand are sections that are read.
use Rattle.std.proofs.Common.{◌≡◌, ℕ, Bool, false, List, [], ◌∷◌, length, zero, suc, refl, sym, ◌∙◌, subst, arith, Ok}
use Rattle.std.proofs.Common.{Option, Some, None}
use Rattle.base.specs.declared.error.decode_error.DecodeError.{DecodeError}
use Rattle.base.specs.Words.{BackToBack}
use Rattle.base.specs.Words.BackToBack.{none, more}
use Rattle.base.proofs.reading.ReadLemmas.{bind_ok}
use Rattle.base_data.specs.declared.rdata.RData.{RData}
use Rattle.rr.specs.Record.{IsRecordAt, record_at}
use Rattle.rr.specs.declared.record.Record.{Record}
use Rattle.base_data.proofs.Tells.{same_ok}
use Rattle.op.specs.Section.{SectionValue, empty_section, fault_in_section, section_at, section_from, section_of}
use Rattle.op.specs.Section.{tested, unless_fault, section_with}
use Rattle.op.specs.declared.op_code.OpCode.{OpCode}
use Rattle.op.proofs.reading.SectionWords.{Follow, Stand, folded, folded_section, follow_stand, stand_follow}

-- a section that was read: its records, back to back
pub record Section (inside : Bool) (op : OpCode) (s : SectionValue) (B : List ℕ) (n i : ℕ)
    (r : SectionValue × ℕ) : Type 0 where
  pub records : List (Record RData)
  pub words : BackToBack (IsRecordAt B) i records r.1
  pub counted : length records ≡ n
  pub follow : Follow inside op s records
  pub whole : r.0 ≡ folded s records

pub record Taken (f : Option DecodeError) (s t : SectionValue) : Type 0 where
  pub passes : f ≡ None
  pub same : s ≡ t

pub unless_ok : (f : Option DecodeError) (s t : SectionValue) → unless_fault f s ≡ Ok t → Taken f s t
unless_ok None s t is = record { passes = refl; same = same_ok _ _ is }
unless_ok (Some f) s t is = cc

section_stands : (inside : Bool) (op : OpCode) (B : List ℕ)
    → ((i : ℕ) (r : Record RData) (e : ℕ) → record_at B i ≡ Ok (r, e) → IsRecordAt B i r e)
    → (n i : ℕ) (s : SectionValue) (r : SectionValue × ℕ) → section_from inside op s n B i ≡ Ok r
    → Section inside op s B n i r
unfolding section_from
section_stands inside op B stands zero i s r is =
    let same : (s, i) ≡ r = same_ok _ _ is in
    subst (λ x. Section inside op s B 0 i x) same
    (record { records = []; words = none; counted = refl; follow = tt; whole = refl })
section_stands inside op B stands (suc n) i s r is =
    let next = bind_ok (record_at B i) _ r is in
    let taken = bind_ok (tested inside op s next.value.0) _ r next.second in
    let passes = unless_ok (fault_in_section inside op s next.value.0)
    (section_with s next.value.0) taken.value taken.first in
    let rest = section_stands inside op B stands n next.value.1 taken.value r taken.second in
    let after : Section inside op (section_with s next.value.0) B n next.value.1 r =
    subst (λ t. Section inside op t B n next.value.1 r) (sym passes.same) rest in
    record {
      records = next.value.0 ∷ after.records;
      words = more (stands i next.value.0 next.value.1 next.first) after.words;
      counted = omega (arith, after.counted);
      follow = (passes.passes, after.follow);
      whole = after.whole;
    }

section_again : (inside : Bool) (op : OpCode) (B : List ℕ)
    → ((i : ℕ) (r : Record RData) (e : ℕ) → IsRecordAt B i r e → record_at B i ≡ Ok (r, e))
    → (rs : List (Record RData)) (i e : ℕ) (s : SectionValue) → BackToBack (IsRecordAt B) i rs e → Follow inside op s rs
    → section_from inside op s (length rs) B i ≡ Ok (folded s rs, e)
unfolding section_from
section_again inside op B again [] i e s none follow = refl
section_again inside op B again (r ∷ rs) i e s (more {j = j} word rest) follow =
    let next = again i r j word in
    let others = section_again inside op B again rs j e (section_with s r) rest follow.1 in
    rw (next, follow.0, others) refl

-- A section of as many records that was read: they stand back to back, pass the tests, and are the section of all.
pub record IsSection (inside : Bool) (op : OpCode) (B : List ℕ) (n i : ℕ) (r : SectionValue × ℕ) : Type 0 where
  pub records : List (Record RData)
  pub words : BackToBack (IsRecordAt B) i records r.1
  pub counted : length records ≡ n
  pub stand : Stand inside op false false records
  pub whole : r.0 ≡ section_of records

pub section_is : (inside : Bool) (op : OpCode) (B : List ℕ)
    → ((i : ℕ) (r : Record RData) (e : ℕ) → record_at B i ≡ Ok (r, e) → IsRecordAt B i r e)
    → (n i : ℕ) (r : SectionValue × ℕ)
    → section_at inside op n B i ≡ Ok r → IsSection inside op B n i r
section_is inside op B stands n i r is =
    let s = section_stands inside op B stands n i empty_section r is in
    record {
      records = s.records;
      words = s.words;
      counted = s.counted;
      stand =
          follow_stand inside op s.records empty_section s.follow;
      whole =
          s.whole ∙ folded_section inside op s.records s.follow;
    }

pub section_read : (inside : Bool) (op : OpCode) (B : List ℕ)
    → ((i : ℕ) (r : Record RData) (e : ℕ) → IsRecordAt B i r e → record_at B i ≡ Ok (r, e))
    → (rs : List (Record RData)) (i e : ℕ)
    → BackToBack (IsRecordAt B) i rs e → Stand inside op false false rs
    → section_at inside op (length rs) B i ≡ Ok (section_of rs, e)
section_read inside op B again rs i e words stand =
    let follow = stand_follow inside op rs empty_section stand in
    section_again inside op B again rs i e empty_section words follow ∙ rw (folded_section inside op rs follow) refl
