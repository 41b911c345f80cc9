-- Stripping a message of records of DNSSEC.
use Rattle.std.proofs.Common.{◌≡◌, Bool, true, false, List, [], ◌∷◌, refl, ap, sym, ◌∙◌, Some, inl, inr}
use Rattle.std.specs.Prelude.{filter, slice_get}
use Rattle.std.proofs.lemmas.Bool.{cases_Bool}
use Rattle.base.specs.declared.record_type.RecordType.{RecordType}
use Rattle.base_data.specs.declared.rdata.RData.{RData}
use Rattle.rr.specs.declared.record.Record.{Record}
use Rattle.op.specs.Message.{MessageValue}
use Rattle.op.specs.Parts.{is_for_all, stripped, stripped_by}
use Rattle.op.specs.declared.query.Query.{Query}

-- the message stripped by this question
abbrev pub stripped_for : Query → MessageValue → MessageValue
stripped_for q m = stripped_by (q ∷ []) m

pub first_asks : (qs : List Query) (q : Query) (m : MessageValue) → slice_get qs 0 ≡ Some q
    → stripped_by qs m ≡ stripped_for q m
first_asks [] q m is = cc
first_asks (x ∷ xs) q m is =
    let same : x ≡ q = head x xs is in
    ap (λ (y : Query). stripped_for y m) same
  where
    head : (y : Query) (ys : List Query) → slice_get (y ∷ ys) 0 ≡ Some q → y ≡ q
    head y ys is = cc

pub none_asks : (qs : List Query) (m : MessageValue) → qs ≡ [] → stripped_by qs m ≡ m
none_asks [] m is = refl
none_asks (x ∷ xs) m is = cc

-- what passes a test passes it again
filter_twice : {X : Type 0} (p : X → Bool) (xs : List X) → filter p (filter p xs) ≡ filter p xs
filter_twice p [] = refl
filter_twice p (x ∷ xs) = elim (cases_Bool (p x)) [
  | inl is ↦ rw is (rw is (ap (λ ys. x ∷ ys) (filter_twice p xs)))
  | inr isnt ↦ rw isnt (filter_twice p xs)
]

same_sections : (m : MessageValue) {b c a' b' c' a : List (Record RData)} → a ≡ a' → b ≡ b' → c ≡ c'
    → ◌≡◌ {A = MessageValue} (record m { answers = a; authorities = b; additionals = c })
    (record m { answers = a'; authorities = b'; additionals = c' })
same_sections m p q r = rw (p, q, r) refl

by_twice : (qs : List Query) (m : MessageValue) → stripped_by qs (stripped_by qs m) ≡ stripped_by qs m
by_twice [] m = refl
by_twice (q ∷ qs) m =
    let p = is_for_all q.query_type in
    same_sections m (filter_twice p m.answers) (filter_twice p m.authorities) (filter_twice p m.additionals)

queries_stay : (qs : List Query) (m : MessageValue) → (stripped_by qs m).queries ≡ m.queries
queries_stay [] m = refl
queries_stay (q ∷ qs) m = refl

pub strip_twice : (takes : Bool) (m : MessageValue) → stripped takes (stripped takes m) ≡ stripped takes m
strip_twice true m = refl
strip_twice false m = ap (λ qs. stripped_by qs (stripped_by m.queries m)) (queries_stay m.queries m)
    ∙ by_twice m.queries m

pub strip_none : (takes : Bool) (m : MessageValue) → m.queries ≡ [] → stripped takes m ≡ m
strip_none true m is = refl
strip_none false m is = none_asks m.queries m is

-- a message whose sections were stripped by the first question's type
pub strips : {takes : Bool} {q : Query} {asked : RecordType} {a b c : List (Record RData)} (m : MessageValue)
    → takes ≡ false → slice_get m.queries 0 ≡ Some q → asked ≡ q.query_type
    → a ≡ filter (is_for_all asked) m.answers → b ≡ filter (is_for_all asked) m.authorities
    → c ≡ filter (is_for_all asked) m.additionals
    → ◌≡◌ {A = MessageValue} (record m { answers = a; authorities = b; additionals = c }) (stripped takes m)
strips {q = q} {asked = asked} m is first same answers authorities additionals =
    let by : (rs : List (Record RData)) → filter (is_for_all asked) rs ≡ filter (is_for_all q.query_type) rs =
    λ rs. ap (λ (t : RecordType). filter (is_for_all t) rs) same in
    let kept = same_sections m (answers ∙ by m.answers) (authorities ∙ by m.authorities)
    (additionals ∙ by m.additionals) in
    kept ∙ sym (first_asks m.queries q m first) ∙ ap (λ (f : Bool). stripped f m) (sym is)
