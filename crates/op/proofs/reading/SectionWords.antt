-- The records of a section: the tests on each, and what they are together.
use Rattle.std.proofs.Common.{◌≡◌, ◌+◌, ◌≤◌, Bool, true, false, cond, List, [], ◌∷◌, ◌++◌, length, refl, ap, sym, ◌∙◌}
use Rattle.std.proofs.Common.{subst, arith, append_assoc, Option, Some, None, inl, inr}
use Rattle.std.proofs.lemmas.Bool.{cases_Bool, true≢false}
use Rattle.std.proofs.lemmas.List.{append-nil}
use Rattle.std.proofs.lemmas.List.Elements.{All-cons, All-nil, All-tail}
use Rattle.std.specs.Prelude.{All, ◌&&◌, ◌||◌, not, filter, find, is_some, ◌⊎◌}
use Rattle.std.specs.Option.{option_map, option_or}
use Rattle.base.specs.declared.error.decode_error.DecodeError.{DecodeError}
use Rattle.base.specs.declared.error.decode_error.DecodeError.TheVariants as faults
use Rattle.base_data.proofs.EachKind.{signature_type}
use Rattle.base_data.specs.Kinds.{type_of_data}
use Rattle.base_data.specs.RData.{is_empty_data, is_signature_data}
use Rattle.base_data.specs.declared.rdata.RData.{RData}
use Rattle.rr.specs.Record.{is_opt_type}
use Rattle.rr.specs.declared.record.Record.{Record}
use Rattle.op.specs.Section.{EndsWithSignature, HasNeededData, SectionValue, edns_of, empty_section, fault_in_section}
use Rattle.op.specs.Section.{is_additional, is_opt, is_plain_record, is_signature}
use Rattle.op.specs.Section.{is_update, section_of, signature_of, section_with}
use Rattle.op.specs.declared.op_code.OpCode.{OpCode}

-- each record passes the tests after those before it
abbrev pub Follow : Bool → OpCode → SectionValue → List (Record RData) → Type 0
Follow inside op s [] = Unit {0}
Follow inside op s (r ∷ rs) = (fault_in_section inside op s r ≡ None) × Follow inside op (section_with s r) rs

abbrev pub folded : SectionValue → List (Record RData) → SectionValue
folded s [] = s
folded s (r ∷ rs) = folded (section_with s r) rs

-- What the tests say of records after others, of which one was EDNS or not, and one a signature or not.
pub record Stand (inside : Bool) (op : OpCode) (edns signature : Bool) (rs : List (Record RData)) : Type 0 where
  pub given : All (HasNeededData op) rs
  pub placed : inside ≡ false → All (λ r. is_additional r ≡ false) rs
  pub alone : signature ≡ true → rs ≡ []
  pub ends : EndsWithSignature rs
  pub one : length (filter is_opt rs) + cond edns 1 0 ≤ 1

-- ---- tests

-- the four tests in their order
record NoFault (a b c d : Bool) : Type 0 where
  first : a ≡ false
  second : b ≡ false
  third : c ≡ false
  fourth : d ≡ false

no_fault : (a b c d : Bool) (e f g h : DecodeError)
    → cond a (Some e) (cond b (Some f) (cond c (Some g) (cond d (Some h) None))) ≡ None → NoFault a b c d
no_fault false false false false e f g h is = record { first = refl; second = refl; third = refl; fourth = refl }
no_fault a b c d e f g h is = cc

passes : (a b c d : Bool) (e f g h : DecodeError) → NoFault a b c d
    → cond a (Some e) (cond b (Some f) (cond c (Some g) (cond d (Some h) None))) ≡ None
passes a b c d e f g h n = rw (n.first, n.second, n.third, n.fourth) refl

pub given_from : (a b : Bool) → (a && not b) ≡ false → a ≡ true → b ≡ true
given_from true true is a = refl
given_from true false is a = cc
given_from false b is a = cc

pub from_given : (a b : Bool) → (a ≡ true → b ≡ true) → (a && not b) ≡ false
from_given true b h = rw (h refl) refl
from_given false b h = refl

pub placed_from : (inside additional : Bool) → (not inside && additional) ≡ false → inside ≡ false → additional ≡ false
placed_from true additional is outside = cc
placed_from false additional is outside = is

pub from_placed : (inside additional : Bool) → (inside ≡ false → additional ≡ false)
    → (not inside && additional) ≡ false
from_placed true additional h = refl
from_placed false additional h = h refl

-- ---- kinds of records

-- a signature is no EDNS record
exclusive : (d : RData) → is_signature_data d ≡ true → is_opt_type (type_of_data d) ≡ false
exclusive d is = ap is_opt_type (signature_type d is)

abbrev put : Bool → Bool → SectionValue → Record RData → SectionValue
put opt signature s r =
    cond opt (record s { edns = Some (edns_of r) })
    (cond signature (record s { signature = Some (signature_of r) })
    (record s { records = s.records ++ r ∷ [] }))

edns_after : (o g : Bool) (s : SectionValue) (r : Record RData) → is_some (put o g s r).edns ≡ (o || is_some s.edns)
edns_after true g s r = refl
edns_after false true s r = refl
edns_after false false s r = refl

signature_after : (o g : Bool) (s : SectionValue) (r : Record RData) → (g ≡ true → o ≡ false)
    → is_some (put o g s r).signature ≡ (g || is_some s.signature)
signature_after true true s r apart = absurd (true≢false (apart refl))
signature_after false true s r apart = refl
signature_after o g s r apart = refl

one_more : (o e : Bool) (r : Record RData) (fs : List (Record RData)) → (e && o) ≡ false
    → length fs + cond (o || e) 1 0 ≤ 1 → length (cond o (r ∷ fs) fs) + cond e 1 0 ≤ 1
one_more true true r fs apart h = cc
one_more true false r fs apart h = omega (arith, h)
one_more false e r fs apart h = h

one_less : (o e : Bool) (r : Record RData) (fs : List (Record RData)) → length (cond o (r ∷ fs) fs) + cond e 1 0 ≤ 1
    → length fs + cond (o || e) 1 0 ≤ 1
one_less true e r fs h = omega (arith, h, at_least e)
  where
    at_least : (b : Bool) → 0 ≤ cond b 1 0
    at_least b = omega arith
one_less false e r fs h = h

apart_of : (o e : Bool) (r : Record RData) (fs : List (Record RData)) → length (cond o (r ∷ fs) fs) + cond e 1 0 ≤ 1
    → (e && o) ≡ false
apart_of true true r fs h = absurd (omega (arith, h))
apart_of false true r fs h = refl
apart_of o e r fs h = refl

-- ---- from the tests to what they say, and back

pub follow_stand : (inside : Bool) (op : OpCode) (rs : List (Record RData)) (s : SectionValue) → Follow inside op s rs
    → Stand inside op (is_some s.edns) (is_some s.signature) rs
follow_stand inside op [] s follow = record {
  given = All-nil (HasNeededData op);
  placed =
      λ _. All-nil (λ r. is_additional r ≡ false);
  alone = λ _. refl;
  ends = tt;
  one = bounded (is_some s.edns);
}
  where
    bounded : (b : Bool) → 0 + cond b 1 0 ≤ 1
    bounded true = omega arith
    bounded false = omega arith
follow_stand inside op (r ∷ rs) s follow =
    let t = no_fault (is_empty_data r.rdata && not (is_update op || is_opt r)) (is_some s.signature)
    (not inside && is_additional r) (is_some s.edns && is_opt r)
    faults.InvalidEmptyRecord faults.RecordAfterSig
    (faults.RecordNotInAdditionalSection (type_of_data r.rdata)) faults.DuplicateEdns follow.0 in
    let before = follow_stand inside op rs (section_with s r) follow.1 in
    let apart : is_signature r ≡ true → is_opt r ≡ false = exclusive r.rdata in
    let edns = edns_after (is_opt r) (is_signature r) s r in
    let signature = signature_after (is_opt r) (is_signature r) s r apart in
    let rest : Stand inside op (is_opt r || is_some s.edns) (is_signature r || is_some s.signature) rs =
    subst (λ e. Stand inside op e (is_signature r || is_some s.signature) rs) edns
    (subst (λ g. Stand inside op (is_some (section_with s r).edns) g rs) signature before) in
    record {
      given = All-cons (HasNeededData op) r rs (given_from (is_empty_data r.rdata) (is_update op || is_opt r) t.first)
          rest.given;
      placed = λ outside. All-cons (λ x. is_additional x ≡ false) r rs
          (placed_from inside (is_additional r) t.third outside) (rest.placed outside);
      alone = λ has. absurd (both (is_some s.signature) has t.second);
      ends = (λ is. rest.alone (rw is refl), rest.ends);
      one = one_more (is_opt r) (is_some s.edns) r (filter is_opt rs) t.fourth rest.one;
    }
  where
    both : (b : Bool) → b ≡ true → b ≡ false → ⊥
    both b holds fails = cc

pub stand_follow : (inside : Bool) (op : OpCode) (rs : List (Record RData)) (s : SectionValue)
    → Stand inside op (is_some s.edns) (is_some s.signature) rs → Follow inside op s rs
stand_follow inside op [] s w = tt
stand_follow inside op (r ∷ rs) s w =
    let apart : is_signature r ≡ true → is_opt r ≡ false = exclusive r.rdata in
    let given : HasNeededData op r = w.given 0 r (omega arith) in
    let unsigned : is_some s.signature ≡ false =
    elim (cases_Bool (is_some s.signature)) [ inl has ↦ absurd (no_cons (w.alone has)) | inr none ↦ none ] in
    let t : NoFault (is_empty_data r.rdata && not (is_update op || is_opt r)) (is_some s.signature)
    (not inside && is_additional r) (is_some s.edns && is_opt r) = record {
      first = from_given (is_empty_data r.rdata) (is_update op || is_opt r) given;
      second = unsigned;
      third = from_placed inside (is_additional r) (λ outside. w.placed outside 0 r (omega arith));
      fourth = apart_of (is_opt r) (is_some s.edns) r (filter is_opt rs) w.one;
    } in
    let head : fault_in_section inside op s r ≡ None =
    passes (is_empty_data r.rdata && not (is_update op || is_opt r)) (is_some s.signature)
    (not inside && is_additional r)
    (is_some s.edns && is_opt r) faults.InvalidEmptyRecord faults.RecordAfterSig
    (faults.RecordNotInAdditionalSection (type_of_data r.rdata)) faults.DuplicateEdns t in
    let edns = edns_after (is_opt r) (is_signature r) s r in
    let signature = signature_after (is_opt r) (is_signature r) s r apart in
    let rest : Stand inside op (is_opt r || is_some s.edns) (is_signature r || is_some s.signature) rs = record {
      given = All-tail (HasNeededData op) r rs w.given;
      placed = λ outside. All-tail (λ x. is_additional x ≡ false) r rs (w.placed outside);
      alone = λ either. elim (either_of (is_signature r) (is_some s.signature) either)
          [ inl is ↦ w.ends.0 is | inr has ↦ absurd (no_cons (w.alone has)) ];
      ends = w.ends.1;
      one = one_less (is_opt r) (is_some s.edns) r (filter is_opt rs) w.one;
    } in
    let after : Stand inside op (is_some (section_with s r).edns) (is_some (section_with s r).signature) rs =
    subst (λ e. Stand inside op e (is_some (section_with s r).signature) rs) (sym edns)
    (subst (λ g. Stand inside op (is_opt r || is_some s.edns) g rs) (sym signature) rest) in
    (head, stand_follow inside op rs (section_with s r) after)
  where
    no_cons : r ∷ rs ≡ [] → ⊥
    no_cons is = cc

    either_of : (a b : Bool) → (a || b) ≡ true → (a ≡ true) ⊎ (b ≡ true)
    either_of true b is = inl refl
    either_of false b is = inr is

-- ---- what records become

-- a section and what stands after it
abbrev joined : SectionValue → SectionValue → SectionValue
joined s t = record {
  records = s.records ++ t.records;
  edns = option_or s.edns t.edns;
  signature =
      option_or s.signature t.signature;
}

none_of : {X : Type 0} (o : Option X) → is_some o ≡ false → o ≡ None
none_of None is = refl
none_of (Some x) is = cc

put_joined : (o g : Bool) (s : SectionValue) (r : Record RData) (ws : List (Record RData)) (f h : Option (Record RData))
    → (o ≡ true → s.edns ≡ None) → (g ≡ true → o ≡ false)
    → (g ≡ true → s.signature ≡ None)
    → joined (put o g s r) (record { records = ws; edns = option_map edns_of f; signature = option_map signature_of h })
    ≡ joined s (record {
      records = cond (not (o || g)) (r ∷ ws) ws;
      edns =
          option_map edns_of (cond o (Some r) f);
      signature = option_map signature_of (cond g (Some r) h);
    })
put_joined true true s r ws f h no_edns apart unsigned = absurd (true≢false (apart refl))
put_joined true false s r ws f h no_edns apart unsigned = rw (no_edns refl) refl
put_joined false true s r ws f h no_edns apart unsigned = rw (unsigned refl) refl
put_joined false false s r ws f h no_edns apart unsigned =
    ap (λ xs. record {
      records = xs;
      edns = option_or s.edns (option_map edns_of f);
      signature =
          option_or s.signature (option_map signature_of h);
    }) (append_assoc s.records (r ∷ []) ws)

folded_joined : (inside : Bool) (op : OpCode) (rs : List (Record RData)) (s : SectionValue) → Follow inside op s rs
    → folded s rs ≡ joined s (section_of rs)
folded_joined inside op [] s follow = rw (append-nil s.records, or_none s.edns, or_none s.signature) refl
  where
    or_none : {X : Type 0} (o : Option X) → option_or o None ≡ o
    or_none None = refl
    or_none (Some x) = refl
folded_joined inside op (r ∷ rs) s follow =
    let w = follow_stand inside op (r ∷ rs) s follow in
    let apart : is_signature r ≡ true → is_opt r ≡ false = exclusive r.rdata in
    let no_edns : is_opt r ≡ true → s.edns ≡ None =
    λ is. none_of s.edns (left_none (is_some s.edns) (is_opt r)
    (apart_of (is_opt r) (is_some s.edns) r (filter is_opt rs) w.one) is) in
    let unsigned : is_some s.signature ≡ false =
    elim (cases_Bool (is_some s.signature)) [ inl has ↦ absurd (no_cons (w.alone has)) | inr none ↦ none ] in
    folded_joined inside op rs (section_with s r) follow.1
    ∙ put_joined (is_opt r) (is_signature r) s r (filter is_plain_record rs) (find is_opt rs)
    (find is_signature rs) no_edns apart (λ _. none_of s.signature unsigned)
  where
    no_cons : r ∷ rs ≡ [] → ⊥
    no_cons is = cc

    left_none : (e o : Bool) → (e && o) ≡ false → o ≡ true → e ≡ false
    left_none true o is has = cc
    left_none false o is has = refl

-- records that pass the tests from the first on are the section of all of them
pub folded_section : (inside : Bool) (op : OpCode) (rs : List (Record RData)) → Follow inside op empty_section rs
    → folded empty_section rs ≡ section_of rs
folded_section inside op rs follow = folded_joined inside op rs empty_section follow
