-- The additional records of a message that was written: its own, then EDNS, then the signature.
use Rattle.std.proofs.Common.{◌≡◌, ℕ, ◌≤◌, Bool, true, false, List, [], ◌∷◌, ◌++◌, length, refl, ap, sym, ◌∙◌, subst}
use Rattle.std.proofs.Common.{arith, Option, Some, None}
use Rattle.std.proofs.lemmas.Bool.{or_parts, true≢false}
use Rattle.std.specs.Prelude.{All, ◌||◌, not, filter, find, map}
use Rattle.std.specs.Option.{option_map, option_or}
use Rattle.std.proofs.lemmas.List.{append-nil}
use Rattle.std.proofs.lemmas.List.Elements.{All-append, All-cons, All-nil, All-tail, filter-append}
use Rattle.std.proofs.lemmas.List.Folds.{find-append}
use Rattle.std.proofs.Math.Bool.{or-true}
use Rattle.base_data.specs.OPT.{OptionValue}
use Rattle.base_data.specs.declared.rdata.RData.{RData}
use Rattle.rr.specs.declared.record.Record.{Record}
use Rattle.op.specs.EdnsRecord.{edns_record, opt_data}
use Rattle.op.specs.Fits.{FitsAdditional, FitsEdns, as_list, signature_record}
use Rattle.base_data.specs.RData.{is_signature_data}
use Rattle.op.specs.Section.{AtMostOneOpt, EndsWithSignature, HasNeededData, edns_of, is_opt, is_plain_record}
use Rattle.op.specs.Section.{is_signature, is_update, section_of, signature_of}
use Rattle.op.specs.declared.edns.Edns.{Edns}
use Rattle.op.specs.declared.op_code.OpCode.{OpCode}
use Rattle.op.proofs.writing.WordsBack.{edns_back, opt_typed}

-- ---- one or none

-- a front of a list of one or none, seen by a function
pub record OneFront {X Y : Type 0} (f : X → Y) (o : Option X) (kept lost : List Y) : Type 0 where
  pub some : Option X
  pub rest : List X
  pub kept_is : kept ≡ as_list (option_map f some)
  pub front : as_list o ≡ as_list some ++ rest
  pub lost_is : lost ≡ map f rest

pub one_front : {X Y : Type 0} (f : X → Y) (o : Option X) (kept lost : List Y) → as_list (option_map f o) ≡ kept ++ lost
    → OneFront f o kept lost
one_front f None [] lost whole = record { some = None; rest = []; kept_is = refl; front = refl; lost_is = sym whole }
one_front f None (y ∷ kept) lost whole = cc
one_front f (Some x) [] lost whole = record {
  some = None;
  rest = x ∷ [];
  kept_is = refl;
  front = refl;
  lost_is =
      sym whole;
}
one_front f (Some x) (y ∷ []) [] whole = record {
  some = Some x;
  rest = [];
  kept_is = sym whole;
  front = refl;
  lost_is =
      refl;
}
one_front f (Some x) (y ∷ []) (z ∷ lost) whole = cc
one_front f (Some x) (y ∷ (z ∷ kept)) lost whole = cc

-- ---- what the records are together

filter_all : {X : Type 0} (p : X → Bool) (xs : List X) → All (λ x. p x ≡ true) xs → filter p xs ≡ xs
filter_all p [] all = refl
filter_all p (x ∷ xs) all = rw (all 0 x (omega arith))
    (ap (λ ys. x ∷ ys) (filter_all p xs (All-tail (λ y. p y ≡ true) x xs all)))

none_pass : {X : Type 0} (p : X → Bool) (xs : List X) → All (λ x. p x ≡ false) xs
    → (filter p xs ≡ []) × (find p xs ≡ None)
none_pass p [] all = (refl, refl)
none_pass p (x ∷ xs) all = rw (all 0 x (omega arith)) (none_pass p xs (All-tail (λ y. p y ≡ false) x xs all))

unsigned_data : (os : List OptionValue) → is_signature_data (opt_data os) ≡ false
unsigned_data [] = refl
unsigned_data (o ∷ os) = refl

opt_unsigned : (e : Edns) → is_signature (edns_record e) ≡ false
opt_unsigned e = unsigned_data e.options

opt_is_opt : (e : Edns) → is_opt (edns_record e) ≡ true
opt_is_opt e = opt_typed e.options

abbrev pub tail : Option Edns → Option (Record (List ℕ)) → List (Record RData)
tail edns signature = as_list (option_map edns_record edns) ++ as_list (option_map signature_record signature)

-- what is known of EDNS and the signature after the other records
record IsTail (edns : Option Edns) (signature : Option (Record (List ℕ))) : Type 0 where
  ordinary : filter is_plain_record (tail edns signature) ≡ []
  opt : find is_opt (tail edns signature) ≡ option_map edns_record edns
  signed : find is_signature (tail edns signature) ≡ option_map signature_record signature
  ends : EndsWithSignature (tail edns signature)
  one : AtMostOneOpt (tail edns signature)

is_tail : (edns : Option Edns) (signature : Option (Record (List ℕ))) → IsTail edns signature
is_tail None None = record { ordinary = refl; opt = refl; signed = refl; ends = tt; one = omega arith }
is_tail None (Some s) = record { ordinary = refl; opt = refl; signed = refl; ends = (λ _. refl, tt); one = omega arith }
is_tail (Some e) None = record {
  ordinary = rw (opt_is_opt e) refl;
  opt = rw (opt_is_opt e) refl;
  signed = rw (opt_unsigned e) refl;
  ends = (λ _. refl, tt);
  one = rw (opt_is_opt e) (omega arith);
}
is_tail (Some e) (Some s) = record {
  ordinary = rw (opt_is_opt e) refl;
  opt = rw (opt_is_opt e) refl;
  signed = rw (opt_unsigned e) refl;
  ends = (λ is. absurd (true≢false (sym is ∙ opt_unsigned e)), (λ _. refl, tt));
  one = rw (opt_is_opt e) (omega arith);
}

edns_kept : (edns : Option Edns) → All FitsEdns (as_list edns) → option_map edns_of (option_map edns_record edns) ≡ edns
edns_kept None fits_edns = refl
edns_kept (Some e) fits_edns = ap Some (edns_back e (fits_edns 0 e (omega arith)))

signature_kept : (signature : Option (Record (List ℕ)))
    → option_map signature_of (option_map signature_record signature) ≡ signature
signature_kept None = refl
signature_kept (Some s) = refl

listed : {X Y : Type 0} (P : Y → Type 0) (f : X → Y) → ((x : X) → P (f x)) → (o : Option X)
    → All P (as_list (option_map f o))
listed P f holds None = All-nil P
listed P f holds (Some x) = All-cons P (f x) [] (holds x) (All-nil P)

module _ (ds : List (Record RData)) (op : OpCode) (fits : All (FitsAdditional op) ds) (edns : Option Edns)
    (signature : Option (Record (List ℕ))) where
  no_opts : All (λ r. is_opt r ≡ false) ds
  no_opts = λ k d below. (or_parts _ _ (fits k d below).placed).0

  no_signatures : All (λ r. is_signature r ≡ false) ds
  no_signatures = λ k d below. (or_parts _ _ (fits k d below).placed).1

  found : (p : Record RData → Bool) → All (λ r. p r ≡ false) ds
      → find p (ds ++ tail edns signature) ≡ find p (tail edns signature)
  found p none = find-append p ds (tail edns signature)
      ∙ ap (λ o. option_or o (find p (tail edns signature))) (none_pass p ds none).1

  -- all of them sorted
  pub sorted : All FitsEdns (as_list edns) → section_of (ds ++ tail edns signature)
      ≡ record { records = ds; edns = edns; signature = signature }
  sorted fits_edns =
      let rest = is_tail edns signature in
      let ordinaries : All (λ r. is_plain_record r ≡ true) ds = λ k d below. ap not (fits k d below).placed in
      let records = filter-append is_plain_record ds (tail edns signature)
      ∙ ap (λ xs. filter is_plain_record ds ++ xs) rest.ordinary ∙ append-nil (filter is_plain_record ds)
      ∙ filter_all is_plain_record ds ordinaries in
      let opt = ap (option_map edns_of) (found is_opt no_opts ∙ rest.opt) ∙ edns_kept edns fits_edns in
      let signed = ap (option_map signature_of) (found is_signature no_signatures ∙ rest.signed)
      ∙ signature_kept signature in
      λ i. record { records = records i; edns = opt i; signature = signed i }

  -- ---- the tests on them

  pub all_given : All (HasNeededData op) (ds ++ tail edns signature)
  all_given =
      All-append (HasNeededData op) ds (tail edns signature) (λ k d below. (fits k d below).given)
      (All-append (HasNeededData op) (as_list (option_map edns_record edns))
      (as_list (option_map signature_record signature))
      (listed (HasNeededData op) edns_record (λ e empty. rw (opt_is_opt e) (or-true (is_update op))) edns)
      (listed (HasNeededData op) signature_record (λ s empty. absurd (true≢false (sym empty))) signature))

  ends_after : (xs t : List (Record RData)) → All (λ r. is_signature r ≡ false) xs → EndsWithSignature t
      → EndsWithSignature (xs ++ t)
  ends_after [] t none ends = ends
  ends_after (x ∷ xs) t none ends = (
    λ is. absurd (true≢false (sym is ∙ none 0 x (omega arith))),
    ends_after xs t (All-tail (λ r. is_signature r ≡ false) x xs none) ends,
  )

  pub all_end : EndsWithSignature (ds ++ tail edns signature)
  all_end = ends_after ds (tail edns signature) no_signatures (is_tail edns signature).ends

  pub one_opt : AtMostOneOpt (ds ++ tail edns signature)
  one_opt =
      let same : filter is_opt (ds ++ tail edns signature) ≡ filter is_opt (tail edns signature) =
      filter-append is_opt ds (tail edns signature)
      ∙ ap (λ xs. xs ++ filter is_opt (tail edns signature)) (none_pass is_opt ds no_opts).0 in
      subst (λ (xs : List (Record RData)). length xs ≤ 1) (sym same) (is_tail edns signature).one
