-- What reads one after another leave of a decoder.
use Rattle.std.proofs.Common.{◌≡◌, ℕ, suc, ◌+◌, ◌-◌, ◌<◌, ◌≤◌, List, [], ◌∷◌, ◌++◌, Bool, true, false, Ok, refl, ap}
use Rattle.std.proofs.Common.{sym, ◌∙◌, subst, arith, append_assoc}
use Rattle.std.specs.Prelude.{All, Err, Result, nat_eq, ◌||◌}
use Rattle.std.specs.Result.{IsErr}
use Rattle.std.specs.FinSet as set
use Rattle.std.specs.Ordering.{nat_cmp}
use Rattle.std.proofs.lemmas.Bool.{false≢true}
use Rattle.std.proofs.lemmas.List.{append-nil}
use Rattle.std.proofs.lemmas.List.Elements.{All-append, All-nil, All-weaker}
use Rattle.std.proofs.lemmas.List.Folds.{list_any-append}
use Rattle.base.specs.reading.Many.{many_names}
use Rattle.base.specs.reading.Passing.{NamesPass, is_among, inserted, no_names, one_more, passed}
use Rattle.base.specs.reading.Reader.{Reader}
use Rattle.base.specs.reading.Reading.{Read}
use Rattle.base.specs.reading.Tracks.{IsBounded, IsPassed, Tracked, Tracks}
use Rattle.base.proofs.reading.CountLemmas.{both_lists, contains-inserted, inserted-none, same_members}

or_of_three : (a b c : Bool) → (a || (b || c)) ≡ ((a || b) || c)
or_of_three true b c = refl
or_of_three false b c = refl

-- offsets after others, put in after them
inserted-both : (ts us : List ℕ) (s : set.FinSet nat_cmp) → inserted (ts ++ us) s ≡ inserted us (inserted ts s)
inserted-both ts us s = same_members _ _ (λ q.
    contains-inserted (ts ++ us) s q
    ∙ ap (λ (b : Bool). set.contains s q || b) (list_any-append (λ (y : ℕ). nat_eq y q) ts us)
    ∙ or_of_three (set.contains s q) (is_among ts q) (is_among us q)
    ∙ ap (λ (b : Bool). b || is_among us q) (sym (contains-inserted ts s q))
    ∙ sym (contains-inserted us (inserted ts s) q))

-- and where there are none before
pub inserted-all : (ts : List ℕ) → inserted ts set.empty ≡ set.from_list ts
inserted-all ts = same_members _ _ (λ q.
    contains-inserted ts set.empty q
    ∙ ap (λ (b : Bool). b || is_among ts q) (set.contains-empty nat_cmp q)
    ∙ sym (set.contains-from_list_nat ts q))

pass-both : {bytes places ts more us : List ℕ} → NamesPass bytes places ts → NamesPass bytes more us
    → NamesPass bytes (places ++ more) (ts ++ us)
pass-both no_names others = others
pass-both {bytes} {more = more} {us} (one_more {i = i} {places = places} {ts = ts} h rest) others =
    subst (λ (qs : List ℕ). NamesPass bytes (i ∷ (places ++ more)) qs) (sym (append_assoc (passed h) ts us))
    (one_more h (pass-both rest others))

-- no place at all
none_before : (n : ℕ) → All (λ (i : ℕ). i < n) []
none_before n = All-nil (λ (i : ℕ). i < n)

-- a read that keeps nothing and follows nothing
pub tracked_none : {old new : Reader} → new.bytes ≡ old.bytes → old.index ≤ new.index → new.kept ≡ old.kept
    → new.jumps ≡ old.jumps → Tracked [] old new
tracked_none {old} {new} bytes on kept jumps = record {
  bytes = bytes;
  on = on;
  before = none_before new.index;
  offsets = [];
  pass = no_names;
  exact = kept ∙ sym (inserted-none old.kept);
  counts = λ counted. record {
    exact = jumps ∙ counted.exact ∙ ap set.len (sym kept);
    few = omega (arith, counted.few, ap set.len kept);
  };
}

-- nor does none at all
pub tracked_itself : (r : Reader) → Tracked [] r r
tracked_itself r = tracked_none refl (omega arith) refl refl

-- bytes that are taken
pub tracked_on : {seen old : Reader} (n : ℕ) → seen ≡ old → Tracked [] old (record seen { index = seen.index + n })
tracked_on {seen} {old} n is =
    tracked_none (ap (λ (r : Reader). r.bytes) is) (omega (arith, ap (λ (r : Reader). r.index) is))
    (ap (λ (r : Reader). r.kept) is) (ap (λ (r : Reader). r.jumps) is)

-- two reads, one after another
pub tracked_both : {names more : List ℕ} {old mid new : Reader} → Tracked names old mid → Tracked more mid new
    → Tracked (names ++ more) old new
tracked_both {names} {more} {old} {mid} {new} first second = record {
  bytes = second.bytes ∙ first.bytes;
  on = omega (arith, first.on, second.on);
  before = All-append (λ (i : ℕ). i < new.index) names more
      (All-weaker (λ (i : ℕ). i < mid.index) (λ (i : ℕ). i < new.index) (λ i less. omega (arith, less, second.on)) names
      first.before) second.before;
  offsets = first.offsets ++ second.offsets;
  pass = pass-both first.pass (subst (λ (bs : List ℕ). NamesPass bs more second.offsets) first.bytes second.pass);
  exact = second.exact ∙ ap (inserted second.offsets) first.exact
      ∙ sym (inserted-both first.offsets second.offsets old.kept);
  counts = λ counted. second.counts (first.counts counted);
}

-- a read after one of no name
pub tracked_then : {names : List ℕ} {old mid new : Reader} → Tracked [] old mid → Tracked names mid new
    → Tracked names old new
tracked_then first second = tracked_both first second

-- a read that is refused after another
pub bounded_after : {names : List ℕ} {old mid : Reader} (new : Reader) → Tracked names old mid → IsBounded mid new
    → IsBounded old new
bounded_after new first refused counted = refused (first.counts counted)

-- a refusal of its own, after what was read
pub bounded_here : {names : List ℕ} {old new : Reader} → Tracked names old new → IsBounded old new
bounded_here t counted =
    let now = t.counts counted in
    omega (arith, now.exact, now.few)

-- an answer that is refused
pub refused_tracks : {X E : Type 0} (names : X → List ℕ) (old new : Reader) (r : Result X E) → IsErr r
    → IsBounded old new → Tracks names old new r
refused_tracks names old new (Ok x) refused bounded = absurd (false≢true refused)
refused_tracks names old new (Err e) refused bounded = bounded

-- no other offsets are kept than those that names pass which stand before the place that is read next
pub passed_now : {names : List ℕ} {old new : Reader} → Tracked names old new → IsPassed old → IsPassed new
passed_now {names} {old} {new} t p = record {
  names = names ++ p.names;
  offsets = t.offsets ++ p.offsets;
  before = All-append (λ (i : ℕ). i < new.index) names p.names t.before
      (All-weaker (λ (i : ℕ). i < old.index) (λ (i : ℕ). i < new.index) (λ i less. omega (arith, less, t.on)) p.names
      p.before);
  pass = subst (λ (bs : List ℕ). NamesPass bs (names ++ p.names) (t.offsets ++ p.offsets)) (sym t.bytes)
      (pass-both t.pass p.pass);
  exact = t.exact ∙ ap (inserted t.offsets) p.exact ∙ both_lists t.offsets p.offsets;
}

-- The places of the names that were read so far, and those of the values that are still read, are those of all.
pub record TracksMany {A : Type 0} (read : List ℕ → ℕ → Read A) (names : List ℕ → ℕ → List ℕ) (count counter : ℕ)
    (old new : Reader) : Type 0 where
  pub places : List ℕ
  pub so_far : Tracked places old new
  pub whole : places ++ many_names read names (count - counter) old.bytes new.index ≡ many_names read names count
      old.bytes old.index

pub tracks_many_none : {A : Type 0} (read : List ℕ → ℕ → Read A) (names : List ℕ → ℕ → List ℕ) (count : ℕ) (r : Reader)
    → TracksMany read names count 0 r r
tracks_many_none read names count r =
    let all : count - 0 ≡ count = omega arith in
    record {
      places = [];
      so_far = tracked_itself r;
      whole = ap (λ (n : ℕ). many_names read names n r.bytes r.index) all;
    }

names-step : {A : Type 0} (read : List ℕ → ℕ → Read A) (names : List ℕ → ℕ → List ℕ) (n c : ℕ) (bytes : List ℕ) (i : ℕ)
    (x : A) (e : ℕ) → c < n → read bytes i ≡ Ok (x, e)
    → many_names read names (n - c) bytes i ≡ names bytes i ++ many_names read names (n - (c + 1)) bytes e
unfolding many_names
names-step read names n c bytes i x e below is =
    let next : n - c ≡ suc (n - (c + 1)) = omega arith in
    rw (next, is) refl

-- one more value that was read
pub tracks_many_more : {A : Type 0} {read : List ℕ → ℕ → Read A} {names : List ℕ → ℕ → List ℕ} {n c : ℕ}
    {old mid new : Reader} {x : A} → TracksMany read names n c old mid → c < n
    → read mid.bytes mid.index ≡ Ok (x, new.index) → Tracked (names mid.bytes mid.index) mid new
    → TracksMany read names n (c + 1) old new
tracks_many_more {read = read} {names} {n} {c} {old} {mid} {new} {x} g below is tracks =
    let same = g.so_far.bytes in
    let there : read old.bytes mid.index ≡ Ok (x, new.index) = subst
    (λ (bs : List ℕ). read bs mid.index ≡ Ok (x, new.index)) same is in
    let one = subst (λ (bs : List ℕ). Tracked (names bs mid.index) mid new) same tracks in
    record {
      places = g.places ++ names old.bytes mid.index;
      so_far = tracked_both g.so_far one;
      whole = append_assoc g.places (names old.bytes mid.index) _
          ∙ ap (λ (qs : List ℕ). g.places ++ qs)
          (sym (names-step read names n c old.bytes mid.index x new.index below there)) ∙ g.whole;
    }

names-end : {A : Type 0} (read : List ℕ → ℕ → Read A) (names : List ℕ → ℕ → List ℕ) (bytes : List ℕ) (i : ℕ)
    → many_names read names 0 bytes i ≡ []
unfolding many_names
names-end read names bytes i = refl

pub tracks_many_all : {A : Type 0} {read : List ℕ → ℕ → Read A} {names : List ℕ → ℕ → List ℕ} {n c : ℕ}
    {old new : Reader} → TracksMany read names n c old new → n ≤ c
    → Tracked (many_names read names n old.bytes old.index) old new
tracks_many_all {read = read} {names} {n} {c} {old} {new} g done =
    let none : n - c ≡ 0 = omega arith in
    let all : g.places ≡ many_names read names n old.bytes old.index = sym (append-nil g.places)
    ∙ ap (λ (qs : List ℕ). g.places ++ qs)
    (sym (ap (λ (k : ℕ). many_names read names k old.bytes new.index) none ∙ names-end read names old.bytes new.index))
    ∙ g.whole in
    subst (λ (qs : List ℕ). Tracked qs old new) all g.so_far
