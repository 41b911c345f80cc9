-- Updates in the order of their owners: those of the first owner stand in front.
use Rattle.base.specs.names.Labels.{NameValue}
use Rattle.base.specs.names.NameOrder.{folded, lowered, name_cmp, same_lower, same_name}
use Rattle.base.specs.names.NameOrderLaws.{cmp_by-total, same_by-tie, same_lower-exact}
use Rattle.base.specs.declared.rr_key.RrKey.{RrKey}
use Rattle.base_data.specs.declared.rdata.RData.{RData}
use Rattle.op_use.proofs.OwnerParts.{own_updates}
use Rattle.op_use.specs.Outcome.{IsSortedByOwner, each}
use Rattle.op_use.specs.Zone.{is_owned}
use Rattle.rr.specs.declared.record.Record.{Record}
use Rattle.std.proofs.Common.{ap, arith, drop, get_or, refl, subst, suc, sym, take, ◌∙◌, ◌+◌}
use Rattle.std.proofs.lemmas.Bool.{cond-false, cond-true, or_parts, true≢false}
use Rattle.std.proofs.lemmas.Grind.{get_or_tail}
use Rattle.std.proofs.lemmas.List.Sorted.{list_any-IsPermutation}
use Rattle.std.specs.Borrow.{Bor}
use Rattle.std.specs.Cmp.{Equal-is, alike_right, tied_itself}
use Rattle.std.specs.List.Sorted.{IsPermutation, IsStableBy, ties}
use Rattle.std.specs.List.{filter, list_any, prefix_len}
use Rattle.std.specs.Ordering.{is_eq, is_lt, ordering_reverse}
use Rattle.std.specs.Prelude.{Bool, List, [], cond, false, not, true, ◌&&◌, ◌∷◌, ◌≡◌}
use Rattle.std.specs.Prelude.{⊤, ℕ, ◌||◌}
use Rattle.std.specs.declared.cmp.Ordering.TheVariants.{Equal, Greater, Less}
use Rattle.std.specs.declared.cmp.Ordering.{Ordering}

abbrev pub Update : Type 0
Update = Bor (Record RData)

-- whether an update is of an earlier owner than another
abbrev pub is_below : Update → Update → Bool
is_below a b = is_lt (name_cmp a.now.name b.now.name)

-- each update is of the owner before it or of a later one
abbrev pub Ascends : List Update → Type 0
Ascends [] = ⊤
Ascends (a ∷ []) = ⊤
Ascends (a ∷ b ∷ rs) = (is_below b a ≡ false) × Ascends (b ∷ rs)

pub ascending : (rs : List Update) → IsSortedByOwner rs → Ascends rs
ascending [] sorted = tt
ascending (a ∷ []) sorted = tt
ascending (a ∷ b ∷ rs) sorted = (
  sorted 0 a (omega arith) (omega arith),
  ascending (b ∷ rs) (λ k d from to.
      let high : get_or (b ∷ rs) (k + 1) d ≡ get_or (a ∷ b ∷ rs) (suc k + 1) d =
      ap (λ i. get_or (b ∷ rs) i d) (omega arith) ∙ sym (get_or_tail a (b ∷ rs) (suc k + 1) d (omega arith)) in
      let low : get_or (b ∷ rs) k d ≡ get_or (a ∷ b ∷ rs) (suc k) d =
      ap (λ i. get_or (b ∷ rs) i d) (omega arith) ∙ sym (get_or_tail a (b ∷ rs) (suc k) d (omega arith)) in
      ap (λ x. is_below x (get_or (b ∷ rs) k d)) high ∙ ap (is_below (get_or (a ∷ b ∷ rs) (suc k + 1) d)) low
      ∙ sorted (suc k) d (omega arith) (omega (arith, to))),
)

tail : (a : Update) (rs : List Update) → Ascends (a ∷ rs) → Ascends rs
tail a [] up = tt
tail a (b ∷ rs) up = up.1

flipped : (a b : NameValue) (o : Ordering) → name_cmp a b ≡ o → name_cmp b a ≡ ordering_reverse o
flipped a b o e = (cmp_by-total folded).antisymm b a ∙ ap ordering_reverse e

one_more : (k : ℕ) → suc k ≡ 1 + k
one_more k = omega arith

module _ (n : NameValue) where
  abbrev pub of_owner : Update → Bool
  of_owner r = same_name r.now.name n

  abbrev own : List Update → List (Record RData)
  own rs = filter (λ (r : Record RData). same_name r.name n) (each rs)

  -- ---- after an update of a later owner stand updates of later ones

  later : (a b : Update) → name_cmp n a.now.name ≡ Less → is_below b a ≡ false → name_cmp n b.now.name ≡ Less
  later a b less up = step (name_cmp a.now.name b.now.name) refl where
    step : (o : Ordering) → name_cmp a.now.name b.now.name ≡ o → name_cmp n b.now.name ≡ Less
    step Less e = (cmp_by-total folded).trans n a.now.name b.now.name less e
    step Equal e = sym (alike_right (cmp_by-total folded) a.now.name b.now.name n e) ∙ less
    step Greater e = absurd (true≢false (sym (ap is_lt (flipped a.now.name b.now.name Greater e)) ∙ up))

  none_later : (a : Update) (rs : List Update) → name_cmp n a.now.name ≡ Less → Ascends (a ∷ rs) → own rs ≡ []
  none_later a [] less up = refl
  none_later a (b ∷ rs) less up = cond-false _ _ _
      (same_by-tie folded b.now.name n ∙ ap is_eq (flipped n b.now.name Less (later a b less up.0)))
      ∙ none_later b rs (later a b less up.0) up.1

  -- ---- the updates of the owner, where none is of an earlier one

  abbrev pub Starts : List Update → Type 0
  Starts [] = ⊤
  Starts (r ∷ rs) = is_lt (name_cmp r.now.name n) ≡ false

  next : (a : Update) (rs : List Update) → of_owner a ≡ true → Ascends (a ∷ rs) → Starts rs
  next a [] e up = tt
  next a (b ∷ rs) e up = ap is_lt (sym (alike_right (cmp_by-total folded) a.now.name n b.now.name
      ((Equal-is _).0 (sym (same_by-tie folded a.now.name n) ∙ e)))) ∙ up.0

  after : (r : Update) → is_lt (name_cmp r.now.name n) ≡ false → of_owner r ≡ false → name_cmp n r.now.name ≡ Less
  after r from e = step (name_cmp r.now.name n) refl where
    step : (o : Ordering) → name_cmp r.now.name n ≡ o → name_cmp n r.now.name ≡ Less
    step Less f = absurd (true≢false (sym (ap is_lt f) ∙ from))
    step Equal f = absurd (true≢false (sym (same_by-tie folded r.now.name n ∙ ap is_eq f) ∙ e))
    step Greater f = flipped r.now.name n Greater f

  -- no name is below itself
  pub irreflexive : is_lt (name_cmp n n) ≡ false
  irreflexive = ap is_lt (tied_itself (cmp_by-total folded) n)

  -- an update of a later owner comes first, if any
  abbrev pub IsBefore : List Update → Type 0
  IsBefore [] = ⊤
  IsBefore (r ∷ rs) = name_cmp n r.now.name ≡ Less

  -- they stand in front
  abbrev pub IsRun : List Update → ℕ → Type 0
  IsRun rs k = (own rs ≡ each (take k rs)) × (own (drop k rs) ≡ []) × Ascends (drop k rs) × IsBefore (drop k rs)

  pub run : (rs : List Update) → Ascends rs → Starts rs → IsRun rs (prefix_len of_owner rs)
  run [] up from = (refl, refl, tt, tt)
  run (r ∷ rs) up from = by (of_owner r) refl (λ e. run rs (tail r rs up) (next r rs e up)) where
    by : (b : Bool) → of_owner r ≡ b → (of_owner r ≡ true → IsRun rs (prefix_len of_owner rs))
        → IsRun (r ∷ rs) (cond b (1 + prefix_len of_owner rs) 0)
    by true e more = subst (IsRun (r ∷ rs)) (one_more (prefix_len of_owner rs))
        (cond-true _ _ _ e ∙ ap (λ xs. r.now ∷ xs) (more e).0, (more e).1, (more e).2, (more e).3)
    by false e more =
        let none : own (r ∷ rs) ≡ [] = cond-false _ _ _ e ∙ none_later r rs (after r from e) up in
        (none, none, up, after r from e)

  -- ---- by keys

  pub own_is : (q : RrKey) → is_owned n q ≡ true → (rs : List Update) → own_updates q (each rs) ≡ own rs
  own_is q e rs i = filter (λ (r : Record RData). same_lower (lowered r.name)
      (sym (same_lower-exact (lowered n) q.name e) i))
      (each rs)

  pub beside : (q : RrKey) → is_owned n q ≡ false → (rs : List Update)
      → own_updates q (each (drop (prefix_len of_owner rs) rs)) ≡ own_updates q (each rs)
  beside q free [] = refl
  beside q free (r ∷ rs) = by (of_owner r) refl (beside q free rs) where
    by : (b : Bool) → of_owner r ≡ b
        → own_updates q (each (drop (prefix_len of_owner rs) rs)) ≡ own_updates q (each rs)
        → own_updates q (each (drop (cond b (1 + prefix_len of_owner rs) 0) (r ∷ rs))) ≡ own_updates q (each (r ∷ rs))
    by true e more = ap (λ k. own_updates q (each (drop k (r ∷ rs)))) (sym (one_more (prefix_len of_owner rs)))
        ∙ more ∙ sym (cond-false _ _ _
        (ap (λ m. same_lower m q.name) (same_lower-exact (lowered r.now.name) (lowered n) e) ∙ free))
    by false e more = refl

-- ---- a stable sort keeps the updates of each owner in their order

module _ (xs ys : List Update) (stable : IsStableBy is_below xs ys) (moved : IsPermutation xs ys) (q : RrKey) where
  abbrev is_own : Update → Bool
  is_own r = is_owned r.now.name q

  none_kept : (rs : List Update) → list_any is_own rs ≡ false → own_updates q (each rs) ≡ []
  none_kept [] h = refl
  none_kept (r ∷ rs) h =
      let parts = or_parts (is_own r) (list_any is_own rs) h in
      cond-false _ _ _ parts.0 ∙ none_kept rs parts.1

  -- those that tie with one of the owner
  ties_are : (r s : Update) → is_own r ≡ true → ties is_below r s ≡ is_own s
  ties_are r s own = step (name_cmp s.now.name r.now.name) refl
      ∙ sym (same_by-tie folded s.now.name r.now.name)
      ∙ ap (same_lower (lowered s.now.name)) (same_lower-exact (lowered r.now.name) q.name own) where
        step : (o : Ordering) → name_cmp s.now.name r.now.name ≡ o
            → ties is_below r s ≡ is_eq (name_cmp s.now.name r.now.name)
        step o e = (λ i. not (is_lt (flipped s.now.name r.now.name o e i)) && not (is_lt (e i)))
            ∙ none o ∙ sym (ap is_eq e) where
              none : (o : Ordering) → (not (is_lt (ordering_reverse o)) && not (is_lt o)) ≡ is_eq o
              none Less = refl
              none Equal = refl
              none Greater = refl

  tied : (r : Update) → is_own r ≡ true → (rs : List Update)
      → each (filter (ties is_below r) rs) ≡ own_updates q (each rs)
  tied r own [] = refl
  tied r own (s ∷ rs) = by (ties is_below r s)
      ∙ (λ i. cond (ties_are r s own i) (s.now ∷ tied r own rs i) (tied r own rs i)) where
        by : (b : Bool) → each (cond b (s ∷ filter (ties is_below r) rs) (filter (ties is_below r) rs))
            ≡ cond b (s.now ∷ each (filter (ties is_below r) rs)) (each (filter (ties is_below r) rs))
        by true = refl
        by false = refl

  one : (rs : List Update) → list_any is_own rs ≡ true → (r : Update) × (is_own r ≡ true)
  one [] h = absurd cc
  one (r ∷ rs) h = by (is_own r) refl h (one rs) where
    by : (b : Bool) → is_own r ≡ b → (b || list_any is_own rs) ≡ true
        → (list_any is_own rs ≡ true → (r : Update) × (is_own r ≡ true)) → (r : Update) × (is_own r ≡ true)
    by true e h more = (r, e)
    by false e h more = more h

  pub same_own : own_updates q (each ys) ≡ own_updates q (each xs)
  same_own = by (list_any is_own xs) refl where
    by : (b : Bool) → list_any is_own xs ≡ b → own_updates q (each ys) ≡ own_updates q (each xs)
    by true e =
        let r = one xs e in
        sym (tied r.0 r.1 ys) ∙ ap each (stable r.0) ∙ tied r.0 r.1 xs
    by false e = none_kept ys (sym (list_any-IsPermutation is_own xs ys moved) ∙ e) ∙ sym (none_kept xs e)
