-- A change of an index at one key: what is found there after it, and that others are found as before.
use Rattle.std.proofs.Common.{ℕ, List, ◌≡◌, ◌≢◌, inl, inr, sym, ◌∙◌}
use Rattle.std.specs.Prelude.{Option, Vec}
use Rattle.std.specs.BTreeMap.{BTreeMap, UpdatesBy}
use Rattle.std.specs.Cmp.{eq_by_cmp_equiv}
use Rattle.std.specs.Cmp.Lexicographic.{slice_cmp, nat_list_cmp_total, bytes_decides}
use Rattle.std.specs.Map.{KeepsOthers, AreApart}
use Rattle.std.specs.Ordering.{nat_cmp, is_eq}
use Rattle.std.specs.declared.alloc.Global.{Global}
use Rattle.std.proofs.lemmas.Bool.{cases_Bool}
use Rattle.std.proofs.lemmas.Map.Text.{is_eq-slice_cmp}
use Rattle.base.specs.Keys.{indexed_at}

module _ (bs : List ℕ) (m n : BTreeMap (Vec ℕ Global) ℕ) (w : Option ℕ)
    (h : UpdatesBy (λ x y. slice_cmp nat_cmp x.items y.items) (λ k. slice_cmp nat_cmp bs k.items) m n w) where
  apart : (cs : List ℕ) → cs ≢ bs → AreApart (λ (k : Vec ℕ Global). is_eq (slice_cmp nat_cmp bs k.items))
      (λ k. is_eq (slice_cmp nat_cmp cs k.items))
  apart cs other k at = elim (cases_Bool (is_eq (slice_cmp nat_cmp cs k.items))) [
    | inr differ ↦ differ
    | inl equal ↦ absurd (other ((bytes_decides cs k.items).0 (sym (is_eq-slice_cmp cs k.items) ∙ equal)
        ∙ sym ((bytes_decides bs k.items).0 (sym (is_eq-slice_cmp bs k.items) ∙ at))))
  ]

  pub place_others : (cs : List ℕ) → cs ≢ bs → indexed_at n cs ≡ indexed_at m cs
  unfolding KeepsOthers
  place_others cs other = h.3 (λ k. is_eq (slice_cmp nat_cmp cs k.items))
      (λ x y. (eq_by_cmp_equiv nat_list_cmp_total).congr cs x.items y.items) (apart cs other)

  pub place_here : indexed_at n bs ≡ w
  place_here = h.1
