-- Steps of putting a record among others.
use Rattle.std.proofs.Common.{ℕ, zero, suc, Bool, true, false, not, List, [], ◌∷◌, ◌++◌, ◌≡◌, ◌<◌, ◌≤◌, ◌+◌, ◌==◌, ◌||◌}
use Rattle.std.proofs.Common.{◌&&◌, nat_eq, refl, sym, ap, ◌∙◌, length}
use Rattle.std.proofs.Common.{cond, take, drop, set, get_or, arith, if◌then◌else◌}
use Rattle.std.specs.List.{AllByRecursion, list_any}
use Rattle.base_data.specs.declared.rdata.RData.{RData}
use Rattle.rr.specs.declared.record.Record.{Record}
use Rattle.std.proofs.lemmas.Bool.{cond-true, cond-false, ne_eqb, or_parts}
use Rattle.std.proofs.lemmas.List.{append-nil, drop_all, length_push, take_all}
use Rattle.std.proofs.lemmas.List.Folds.{list_any_more}
use Rattle.std.proofs.Math.Bool.{and-false, and-true, or-false, or-true}
use Rattle.base.specs.names.NameOrder.{folded, same_name}
use Rattle.base.specs.names.NameOrderLaws.{same_by-equiv}
use Rattle.base_data.specs.Kinds.{type_of_data}
use Rattle.rr.specs.SetChanges.{MayAdd, MayEnter, has_data_of, renewed, replaced, without}
use Rattle.rr.specs.RecordOrder.{same_class}
use Rattle.rr.specs.RecordSet.{SetValue, same_entry}
use Rattle.base_data.specs.SameData.{same_data}

-- what a record of another TTL, of other data and of another class is not
pub other_ttl : (x r : Record RData) → nat_eq x.ttl r.ttl ≡ false → false ≡ (same_entry x r && nat_eq x.ttl r.ttl)
other_ttl x r h = sym (ap (λ b. same_entry x r && b) h ∙ and-false (same_entry x r))

pub of_one_ttl : (x r : Record RData) → nat_eq x.ttl r.ttl ≡ true
    → same_entry x r ≡ (same_entry x r && nat_eq x.ttl r.ttl)
of_one_ttl x r h = sym (ap (λ b. same_entry x r && b) h ∙ and-true (same_entry x r))

pub other_class : (x r : Record RData) → same_class x.dns_class r.dns_class ≡ false → false ≡ same_entry x r
other_class x r h = sym (ap (λ b. same_name x.name r.name && (b && same_data x.rdata r.rdata)) h
    ∙ and-false (same_name x.name r.name))

pub of_one_class : (x r : Record RData) → same_class x.dns_class r.dns_class ≡ true → same_data x.rdata r.rdata ≡ true
    → same_name x.name r.name ≡ same_entry x r
of_one_class x r h d = sym ((λ i. same_name x.name r.name && (h i && d i)) ∙ and-true (same_name x.name r.name))

pub other_data : (x r : Record RData) → same_data x.rdata r.rdata ≡ false
    → false ≡ (same_entry x r && nat_eq x.ttl r.ttl)
other_data x r h = sym (ap (λ b. b && nat_eq x.ttl r.ttl) (ap (λ b. same_name x.name r.name && b)
    (ap (λ b. same_class x.dns_class r.dns_class && b) h ∙ and-false (same_class x.dns_class r.dns_class))
    ∙ and-false (same_name x.name r.name)))

-- one more place
pub replaced_yes : (r : Record RData) (xs : List (Record RData)) (i : ℕ) (d : Record RData) → i < length xs
    → has_data_of r (get_or (replaced r (take i xs) ++ drop i xs) i d) ≡ true
    → set (replaced r (take i xs) ++ drop i xs) i r ≡ replaced r (take (suc i) xs) ++ drop (suc i) xs
replaced_yes r [] i d h e = absurd (omega arith)
replaced_yes r (x ∷ xs) zero d h e = ap (λ y. y ∷ xs) (sym (cond-true (has_data_of r x) r x e))
replaced_yes r (x ∷ xs) (suc i) d h e = ap (λ ys. (if has_data_of r x then r else x) ∷ ys)
    (replaced_yes r xs i d (omega arith) e)

pub replaced_no : (r : Record RData) (xs : List (Record RData)) (i : ℕ) (d : Record RData) → i < length xs
    → has_data_of r (get_or (replaced r (take i xs) ++ drop i xs) i d) ≡ false
    → replaced r (take i xs) ++ drop i xs ≡ replaced r (take (suc i) xs) ++ drop (suc i) xs
replaced_no r [] i d h e = absurd (omega arith)
replaced_no r (x ∷ xs) zero d h e = ap (λ y. y ∷ xs) (sym (cond-false (has_data_of r x) r x e))
replaced_no r (x ∷ xs) (suc i) d h e = ap (λ ys. (if has_data_of r x then r else x) ∷ ys)
    (replaced_no r xs i d (omega arith) e)

pub replaced_none : (r : Record RData) (xs : List (Record RData)) → list_any (has_data_of r) xs ≡ false
    → replaced r xs ≡ xs
replaced_none r [] h = refl
replaced_none r (x ∷ xs) h =
    let parts : (has_data_of r x ≡ false) × (list_any (has_data_of r) xs ≡ false) = or_parts (has_data_of r x) _ h in
    let first : (if has_data_of r x then r else x) ≡ x = cond-false (has_data_of r x) r x parts.0 in
    λ i. first i ∷ replaced_none r xs parts.1 i

-- where none has the data of r, all stay
pub without_none : (r : Record RData) (xs : List (Record RData)) → list_any (has_data_of r) xs ≡ false
    → without r xs ≡ xs
without_none r [] h = refl
without_none r (x ∷ xs) h =
    let parts : (has_data_of r x ≡ false) × (list_any (has_data_of r) xs ≡ false) = or_parts (has_data_of r x) _ h in
    λ i. cond (not (parts.0 i)) (x ∷ without_none r xs parts.1 i) (without r xs)

-- nothing is left to be replaced
pub replaced_all : (r : Record RData) (xs : List (Record RData)) (i : ℕ) → length xs ≤ i
    → replaced r (take i xs) ++ drop i xs ≡ replaced r xs
replaced_all r xs i h = (λ j. replaced r (take_all i xs h j) ++ drop_all i xs h j) ∙ append-nil (replaced r xs)

one_more : (i : ℕ) → suc i ≡ i + 1
one_more i = omega arith

pub same_clone : (a b : Record RData) → (b.rdata ≡ a.rdata) × (b ≡ record a { rdata = b.rdata }) → b ≡ a
same_clone a b h = h.1 ∙ ap (λ (d : RData). record a { rdata = d }) h.0

-- a place of which nothing was replaced yet
past : (r : Record RData) (xs : List (Record RData)) (i : ℕ) (d : Record RData) → i < length xs
    → get_or (replaced r (take i xs) ++ drop i xs) i d ≡ get_or xs i d
past r [] i d h = absurd (omega arith)
past r (x ∷ xs) zero d h = refl
past r (x ∷ xs) (suc i) d h = past r xs i d (omega arith)

renewed_push : (ps : List (ℕ × Record RData)) (p : ℕ × Record RData) (xs : List (Record RData))
    → renewed (ps ++ p ∷ []) xs ≡ set (renewed ps xs) p.0 p.1
renewed_push [] p xs = refl
renewed_push (q ∷ ps) p xs = renewed_push ps p (set xs q.0 q.1)

test_at : (r d : Record RData) (xs : List (Record RData)) (i : ℕ) (b : Bool) → i < length xs → d ≡ get_or xs i d
    → same_data d.rdata r.rdata ≡ b → has_data_of r (get_or (replaced r (take i xs) ++ drop i xs) i d) ≡ b
test_at r d xs i b h read t = ap (has_data_of r) (past r xs i d h ∙ sym read) ∙ t

-- one more copy, for a place with the same data
pub copy_pushed : {copy d : Record RData} (r : Record RData) (xs : List (Record RData)) (ps : List (ℕ × Record RData))
    (i : ℕ) → i < length xs
    → renewed ps xs ≡ replaced r (take i xs) ++ drop i xs → d ≡ get_or xs i d → same_data d.rdata r.rdata ≡ true
    → copy ≡ r
    → renewed (ps ++ (i, copy) ∷ []) xs ≡ replaced r (take (i + 1) xs) ++ drop (i + 1) xs
copy_pushed {copy} {d} r xs ps i h e read t same =
    renewed_push ps (i, copy) xs ∙ (λ j. set (e j) i (same j))
    ∙ replaced_yes r xs i d h (test_at r d xs i true h read t)
    ∙ ap (λ n. replaced r (take n xs) ++ drop n xs) (one_more i)

-- no copy, for a place with other data
pub copy_skipped : {d : Record RData} (r : Record RData) (xs : List (Record RData)) (ps : List (ℕ × Record RData))
    (i : ℕ) → i < length xs
    → renewed ps xs ≡ replaced r (take i xs) ++ drop i xs → d ≡ get_or xs i d → same_data d.rdata r.rdata ≡ false
    → renewed ps xs ≡ replaced r (take (i + 1) xs) ++ drop (i + 1) xs
copy_skipped {d} r xs ps i h e read t =
    e ∙ replaced_no r xs i d h (test_at r d xs i false h read t)
    ∙ ap (λ n. replaced r (take n xs) ++ drop n xs) (one_more i)

any_upto : (r d : Record RData) (xs : List (Record RData)) (i : ℕ) (b : Bool) → i < length xs → d ≡ get_or xs i d
    → same_data d.rdata r.rdata ≡ b → list_any (has_data_of r) (take (i + 1) xs)
    ≡ (list_any (has_data_of r) (take i xs) || b)
any_upto r d xs i b h read t = list_any_more (has_data_of r) xs i d h
    ∙ ap (λ c. list_any (has_data_of r) (take i xs) || c) (ap (has_data_of r) (sym read) ∙ t)

-- a place with the same data was found
pub any_found : (r d : Record RData) (xs : List (Record RData)) (ps : List (ℕ × Record RData)) (p : ℕ × Record RData)
    (i : ℕ) → i < length xs → d ≡ get_or xs i d → same_data d.rdata r.rdata ≡ true
    → (length (ps ++ p ∷ []) == 0) ≡ not (list_any (has_data_of r) (take (i + 1) xs))
any_found r d xs ps p i h read t = ne_eqb (length (ps ++ p ∷ [])) 0 (omega (arith, length_push ps p))
    ∙ sym (ap not (any_upto r d xs i true h read t ∙ or-true (list_any (has_data_of r) (take i xs))))

-- there is none at this place
pub any_passed : (r d : Record RData) (xs : List (Record RData)) (b : Bool) (i : ℕ) → i < length xs
    → b ≡ not (list_any (has_data_of r) (take i xs)) → d ≡ get_or xs i d → same_data d.rdata r.rdata ≡ false
    → b ≡ not (list_any (has_data_of r) (take (i + 1) xs))
any_passed r d xs b i h e read t = e ∙ sym
    (ap not (any_upto r d xs i false h read t ∙ or-false (list_any (has_data_of r) (take i xs))))

pub within_push : (n : ℕ) (ps : List (ℕ × Record RData)) (p : ℕ × Record RData)
    → AllByRecursion (λ (q : ℕ × Record RData). q.0 < n) ps → p.0 < n
    → AllByRecursion (λ (q : ℕ × Record RData). q.0 < n) (ps ++ p ∷ [])
within_push n [] p h l = (l, tt)
within_push n (q ∷ ps) p h l = (h.0, within_push n ps p h.1 l)

pub len_step : {X : Type 0} (m n : ℕ) (ps qs : List X) (p : X) → ps ≡ p ∷ qs → n + 1 ≡ m → m ≡ length ps → n ≡ length qs
len_step m n ps qs p e less h = omega (arith, less, h, ap length e)

pub renew_end : (xs zs : List (Record RData)) (ps : List (ℕ × Record RData)) (m : ℕ) → renewed ps xs ≡ zs → m ≡ 0
    → m ≡ length ps → xs ≡ zs
renew_end xs zs [] m h none len = h
renew_end xs zs (p ∷ ps) m h none len = absurd (omega arith)

-- the record that a set makes of its data may enter it
pub may_enter : (set : SetValue) (r : Record RData) (rdata : RData) → MayAdd set rdata → r.name ≡ set.name
    → r.rdata ≡ rdata → MayEnter set r
may_enter set r rdata h owner own = record {
  owner = ap (same_name set.name) owner ∙ (same_by-equiv folded).refl set.name;
  own_type = ap type_of_data own ∙ h.own_type;
  single = h.single;
}
