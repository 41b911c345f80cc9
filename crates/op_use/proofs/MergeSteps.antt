-- lists of data after several records
use Rattle.std.specs.Prelude.{Bool, true, false, not, List, [], ◌∷◌, ◌++◌, ◌≡◌, ◌||◌, cond, map, if◌then◌else◌}
use Rattle.std.proofs.Common.{refl, sym, ap, ◌∙◌}
use Rattle.std.specs.List.{filter, list_any, list_all, fold}
use Rattle.std.proofs.lemmas.Bool.{cond-true, cond-false, and_parts, or_parts}
use Rattle.std.proofs.lemmas.List.{append_assoc, map-append}
use Rattle.base_data.specs.declared.rdata.RData.{RData}
use Rattle.rr.proofs.SetLaws.{Distinct, Far, laws, parts_of}
use Rattle.rr.specs.declared.record.Record.{Record}
use Rattle.base_data.specs.SameData.{same_data}
use Rattle.op_use.specs.Zone.{Datum}
use Rattle.op_use.specs.NamedChanges.{datum_of, is_data_of, others, renewed_datum}
use Rattle.op_use.specs.Server.{added, removed}

-- in the place of equal data
abbrev pub rep : Record RData → Datum → Datum
rep r d = if is_data_of d r then datum_of r else d

renewed_far : (rs : List (Record RData)) (d : Datum) (r : Record RData) → is_data_of d r ≡ true → Far r rs
    → renewed_datum rs d ≡ d
renewed_far [] d r e h = refl
renewed_far (q ∷ rs) d r e h = cond-false (is_data_of d q) _ _ (laws.congr d.rdata r.rdata q.rdata e ∙ h.0)
    ∙ renewed_far rs d r e h.1

renewed_rep : (rs : List (Record RData)) (d : Datum) (r : Record RData) (b : Bool) → is_data_of d r ≡ b → Far r rs
    → renewed_datum rs (rep r d) ≡ renewed_datum (r ∷ rs) d
renewed_rep rs d r true e h = ap (renewed_datum rs) (cond-true (is_data_of d r) _ _ e)
    ∙ renewed_far rs (datum_of r) r (laws.refl r.rdata) h ∙ sym (cond-true (is_data_of d r) _ _ e)
renewed_rep rs d r false e h = ap (renewed_datum rs) (cond-false (is_data_of d r) _ _ e)
    ∙ sym (cond-false (is_data_of d r) _ _ e)

map_renewed_rep : (rs : List (Record RData)) (r : Record RData) (xs : List Datum) → Far r rs
    → map (renewed_datum rs) (map (rep r) xs) ≡ map (renewed_datum (r ∷ rs)) xs
map_renewed_rep rs r [] h = refl
map_renewed_rep rs r (d ∷ xs) h = λ i. renewed_rep rs d r _ refl h i ∷ map_renewed_rep rs r xs h i

data_of_rep : (d : Datum) (r q : Record RData) (b : Bool) → is_data_of d r ≡ b → is_data_of (rep r d) q ≡ is_data_of d q
data_of_rep d r q true e = ap (λ (c : Datum). is_data_of c q) (cond-true (is_data_of d r) (datum_of r) d e)
    ∙ sym (laws.congr d.rdata r.rdata q.rdata e)
data_of_rep d r q false e = ap (λ (c : Datum). is_data_of c q) (cond-false (is_data_of d r) (datum_of r) d e)

any_rep : (r q : Record RData) (xs : List Datum)
    → list_any (λ d. is_data_of d q) (map (rep r) xs) ≡ list_any (λ d. is_data_of d q) xs
any_rep r q [] = refl
any_rep r q (d ∷ xs) = λ i. data_of_rep d r q _ refl i || any_rep r q xs i

others_rep : (rs : List (Record RData)) (r : Record RData) (xs : List Datum) → others (map (rep r) xs) rs ≡ others xs rs
others_rep [] r xs = refl
others_rep (q ∷ rs) r xs = λ i. cond (any_rep r q xs i) (others_rep rs r xs i) (datum_of q ∷ others_rep rs r xs i)

none_renewed : (rs : List (Record RData)) (r : Record RData) (xs : List Datum)
    → list_any (λ d. is_data_of d r) xs ≡ false → map (renewed_datum rs) xs ≡ map (renewed_datum (r ∷ rs)) xs
none_renewed rs r [] h = refl
none_renewed rs r (d ∷ xs) h =
    let parts : (is_data_of d r ≡ false) × (list_any (λ d. is_data_of d r) xs ≡ false) =
    or_parts (is_data_of d r) _ h in
    let first : renewed_datum rs d ≡ renewed_datum (r ∷ rs) d =
    sym (cond-false (is_data_of d r) (datum_of r) (renewed_datum rs d) parts.0) in
    λ i. first i ∷ none_renewed rs r xs parts.1 i

any_push : (q r : Record RData) (xs : List Datum) → same_data r.rdata q.rdata ≡ false
    → list_any (λ d. is_data_of d q) (xs ++ datum_of r ∷ []) ≡ list_any (λ d. is_data_of d q) xs
any_push q r [] h = ap (λ b. b || false) h
any_push q r (d ∷ xs) h = ap (λ b. is_data_of d q || b) (any_push q r xs h)

others_push : (rs : List (Record RData)) (r : Record RData) (xs : List Datum) → Far r rs
    → others (xs ++ datum_of r ∷ []) rs ≡ others xs rs
others_push [] r xs h = refl
others_push (q ∷ rs) r xs h = λ i. cond (any_push q r xs h.0 i) (others_push rs r xs h.1 i)
    (datum_of q ∷ others_push rs r xs h.1 i)

added_one : (rs : List (Record RData)) (r : Record RData) (xs : List Datum) (b : Bool)
    → list_any (λ d. is_data_of d r) xs ≡ b → Far r rs
    → map (renewed_datum rs) (cond b (map (rep r) xs) (xs ++ datum_of r ∷ []))
    ++ others (cond b (map (rep r) xs) (xs ++ datum_of r ∷ [])) rs
    ≡ map (renewed_datum (r ∷ rs)) xs ++ cond b (others xs rs) (datum_of r ∷ others xs rs)
added_one rs r xs true e h = λ i. map_renewed_rep rs r xs h i ++ others_rep rs r xs i
added_one rs r xs false e h =
    ap (λ ys. ys ++ others (xs ++ datum_of r ∷ []) rs) (map-append (renewed_datum rs) xs (datum_of r ∷ []))
    ∙ append_assoc (map (renewed_datum rs) xs) (renewed_datum rs (datum_of r) ∷ []) (others (xs ++ datum_of r ∷ []) rs)
    ∙ (λ i. none_renewed rs r xs e i ++ renewed_far rs (datum_of r) r (laws.refl r.rdata) h i ∷ others_push rs r xs h i)

nothing : (xs : List Datum) → map (renewed_datum []) xs ++ others xs [] ≡ xs
nothing [] = refl
nothing (d ∷ xs) = ap (λ ys. d ∷ ys) (nothing xs)

-- records of distinct data, added one after another
pub all_added : (rs : List (Record RData)) (xs : List Datum) → Distinct rs
    → fold added xs rs ≡ map (renewed_datum rs) xs ++ others xs rs
all_added [] xs h = sym (nothing xs)
all_added (r ∷ rs) xs h =
    let parts : Far r rs × Distinct rs = parts_of r rs h in
    all_added rs (added xs r) parts.1 ∙ added_one rs r xs _ refl parts.0

filter_none : (xs : List Datum) → filter (λ d. not false) xs ≡ xs
filter_none [] = refl
filter_none (d ∷ xs) = ap (λ ys. d ∷ ys) (filter_none xs)

filter_step : (p q : Datum → Bool) (xs : List Datum)
    → filter (λ d. not (q d)) (filter (λ d. not (p d)) xs) ≡ filter (λ d. not (p d || q d)) xs
filter_step p q [] = refl
filter_step p q (d ∷ xs) = by (p d) (filter_step p q xs) where
  by : (b : Bool) → filter (λ d. not (q d)) (filter (λ d. not (p d)) xs) ≡ filter (λ d. not (p d || q d)) xs
      → filter (λ d. not (q d)) (cond (not b) (d ∷ filter (λ d. not (p d)) xs) (filter (λ d. not (p d)) xs))
      ≡ cond (not (b || q d)) (d ∷ filter (λ d. not (p d || q d)) xs) (filter (λ d. not (p d || q d)) xs)
  by true h = h
  by false h = ap (λ ys. cond (not (q d)) (d ∷ ys) ys) h

-- records taken out one after another
pub all_removed : (rs : List (Record RData)) (xs : List Datum)
    → fold removed xs rs ≡ filter (λ d. not (list_any (is_data_of d) rs)) xs
all_removed [] xs = sym (filter_none xs)
all_removed (r ∷ rs) xs = all_removed rs (removed xs r)
    ∙ filter_step (λ d. is_data_of d r) (λ d. list_any (is_data_of d) rs) xs

-- where each datum is among the records, none stays
pub none_left : (rs : List (Record RData)) (xs : List Datum) → list_all (λ d. list_any (is_data_of d) rs) xs ≡ true
    → filter (λ d. not (list_any (is_data_of d) rs)) xs ≡ []
none_left rs [] h = refl
none_left rs (d ∷ xs) h =
    let parts : (list_any (is_data_of d) rs ≡ true) × (list_all (λ d. list_any (is_data_of d) rs) xs ≡ true) =
    and_parts (list_any (is_data_of d) rs) _ h in
    cond-false (not (list_any (is_data_of d) rs)) _ _ (ap not parts.0) ∙ none_left rs xs parts.1
