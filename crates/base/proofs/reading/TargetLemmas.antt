-- The targets of a name, which are kept one by one.
use Rattle.std.proofs.Common.{◌≡◌, ℕ, ◌+◌, ◌-◌, ◌^◌, ◌<◌, ◌≤◌, List, [], ◌∷◌, ◌++◌, length, take, drop, Option, None}
use Rattle.std.proofs.Common.{Some}
use Rattle.std.proofs.Common.{Ok, Err, Bool, true, false, refl, ap, sym, ◌∙◌, subst, arith, length-append, length-drop}
use Rattle.std.proofs.Common.{length-take, append-nil, min, inl, inr}
use Rattle.std.specs.Prelude.{IfSome, is_some, unwrap_or, nat_eq, ◌||◌}
use Rattle.std.specs.Borrow.{Bor}
use Rattle.std.specs.FinSet as set
use Rattle.std.specs.Ordering.{nat_cmp}
use Rattle.std.specs.Cmp.{nat_cmp_total}
use Rattle.std.proofs.lemmas.Bool.{cases_Bool, cond-false, eq-eqb, eqb-true, false≢true}
use Rattle.std.proofs.lemmas.List.{take_all}
use Rattle.base.specs.declared.error.decode_error.DecodeError.{DecodeError}
use Rattle.base.specs.declared.error.decode_error.DecodeError.TheVariants as faults
use Rattle.base.specs.declared.name.reading.NamePiece.{NamePiece}
use Rattle.base.specs.reading.Names.{labels_at, part_at, pointer_to}
use Rattle.base.specs.reading.Passing.{IsClosed, PassesKept, inserted, is_among, passed}
use Rattle.base.specs.reading.Pieces.{IsPiece, IsRefusedIn, ending_of}
use Rattle.base.specs.reading.Pointers.{AreKept, AreTooLong, Cache, CanKeep, Fit, IsAdded, IsKept, IsNewTarget}
use Rattle.base.specs.reading.Pointers.{kept_after}
use Rattle.base.specs.reading.Pointers.{targets_of}
use Rattle.base.specs.reading.Reader.{Reader}
use Rattle.base.specs.reading.Spelling.{Spelled}
use Rattle.base.specs.reading.Tracks.{IsBounded, IsCounted}
use Rattle.base.proofs.reading.CountLemmas.{Follows, Follows-few, Follows-none, Follows-push, contains-inserted}
use Rattle.base.proofs.reading.CountLemmas.{inserted-first, inserted-same, kept_at}
use Rattle.base.proofs.reading.GatherLemmas.{Gathers, gathers_none, gathers_pointer, pointer_refused}
use Rattle.base.proofs.reading.PassLemmas.{either, passed_below}
use Rattle.base.proofs.reading.PieceLemmas.{gathers_piece, kept_piece, piece_end, piece_next, piece_passes}
use Rattle.base.proofs.reading.PieceLemmas.{piece_refused}
use Rattle.base.proofs.reading.PieceLemmas.{piece_root, root_piece}

-- the bytes from an offset on
pub from_offset : (bytes : List ℕ) (k t : ℕ) → k ≡ t → take (length bytes - k) (drop k bytes) ≡ drop t bytes
from_offset bytes k t is = take_all (length bytes - k) (drop k bytes) (omega (arith, length-drop k bytes))
    ∙ ap (λ (i : ℕ). drop i bytes) is

pub fit_less : {bytes : List ℕ} {t used less : ℕ} → Fit bytes t used → less ≤ used → Fit bytes t less
fit_less fit less = record { items = fit.items; kept = fit.kept; short = omega (arith, fit.short) }

module _ {r : Reader} {t : ℕ} {piece : NamePiece} (can : CanKeep r t piece) where
  -- what is spelled there passes kept offsets alone
  pub passes_kept : IsClosed r.bytes r.kept → PassesKept r.bytes r.kept t
  passes_kept closed = piece_passes r.bytes t r.kept can.inside can.stands closed (go piece.pointer can.after) where
    go : (o : Option ℕ) → IfSome o (λ q. (q < t) × ((set.contains r.kept q ≡ true) × Fit r.bytes q piece.len))
        → IfSome o (λ q. set.contains r.kept q ≡ true)
    go None after = tt
    go (Some q) after = after.1.0

  -- the labels of the piece, with those that are kept after them, are those that are spelled there
  pub whole_kept : (cache : Cache) → r.kept ≡ targets_of cache → AreKept r.bytes cache
      → IsKept r.bytes t (take piece.len (drop t r.bytes) ++ kept_after cache piece.pointer)
  whole_kept cache kept are = go piece.pointer refl can.after where
    go : (o : Option ℕ) → piece.pointer ≡ o
        → IfSome o (λ q. (q < t) × ((set.contains r.kept q ≡ true) × Fit r.bytes q piece.len))
        → IsKept r.bytes t (take piece.len (drop t r.bytes) ++ kept_after cache o)
    go None none leads = subst (IsKept r.bytes t) (sym (append-nil _))
        (root_piece r.bytes t can.inside refl can.stands can.near none)
    go (Some q) some leads =
        let fit = leads.1.1 in
        let has : set.contains (targets_of cache) q ≡ true =
        ap (λ (s : set.FinSet nat_cmp). set.contains s q) (sym kept) ∙ leads.1.0 in
        let found = kept_at r.bytes cache q fit.items are has fit.kept in
        subst (IsKept r.bytes t)
        (ap (λ (o : Option (List ℕ)). take piece.len (drop t r.bytes) ++ unwrap_or o []) (sym found))
        (kept_piece r.bytes t can.inside refl can.stands some can.near leads.0 fit.kept (omega (arith, fit.short)))

pub piece_alone : {bytes : List ℕ} {before : ℕ} {piece : NamePiece} → IsPiece bytes before piece
    → IsPiece bytes 0 piece
piece_alone p = record { labels = p.labels; end = p.end; short = omega (arith, p.short) }

-- ---- the pieces that wait until what their pointer leads to is kept

-- This piece stands at t after `used` bytes of labels, and its pointer leads to next, below it.
pub record Waits (old : Reader) (t used : ℕ) (piece : NamePiece) (next : ℕ) : Type 0 where
  pub stands : IsPiece (drop t old.bytes) used piece
  pub inside : t ≤ length old.bytes
  pub near : t < 16384
  pub absent : set.contains old.kept t ≡ false
  pub leads : piece.pointer ≡ Some next
  pub below : next < t

-- From first on, after so many bytes, each leads to the next one, and the last to here.
pub data Chain (old : Reader) : ℕ → ℕ → List (ℕ × NamePiece) → ℕ → ℕ → Type 0 where
  no_more : {t used : ℕ} → Chain old t used [] t used
  leads_on : {t used next end all : ℕ} {piece : NamePiece} {others : List (ℕ × NamePiece)}
      → Waits old t used piece next → Chain old next (used + piece.len) others end all
      → Chain old t used ((t, piece) ∷ others) end all

pub chain_push : {old : Reader} {first used t all next : ℕ} {piece : NamePiece} {ws : List (ℕ × NamePiece)}
    → Chain old first used ws t all → Waits old t all piece next
    → Chain old first used (ws ++ (t, piece) ∷ []) next (all + piece.len)
chain_push no_more waits = leads_on waits no_more
chain_push (leads_on one rest) waits = leads_on one (chain_push rest waits)

pub record Last (old : Reader) (first used : ℕ) (ws : List (ℕ × NamePiece)) (t : ℕ) (piece : NamePiece)
    (end all : ℕ) : Type 0 where
  pub before : ℕ
  pub chain : Chain old first used ws t before
  pub waits : Waits old t before piece end
  pub sum : all ≡ before + piece.len

pub chain_pop : {old : Reader} {end t : ℕ} {piece : NamePiece} (ws : List (ℕ × NamePiece)) {first used all : ℕ}
    → Chain old first used (ws ++ (t, piece) ∷ []) end all → Last old first used ws t piece end all
chain_pop [] (leads_on waits no_more) = record { before = _; chain = no_more; waits = waits; sum = refl }
chain_pop (w ∷ ws) (leads_on waits rest) =
    let last = chain_pop ws rest in
    record { before = last.before; chain = leads_on waits last.chain; waits = last.waits; sum = last.sum }

-- The pieces were read up to one that stands at t.
pub record Walked (old now : Reader) (first used : ℕ) (ws : List (ℕ × NamePiece)) (t before : ℕ)
    (piece : NamePiece) : Type 0 where
  pub labels : List ℕ
  pub end : Option ℕ
  pub gathers : Gathers old.bytes first used t t before labels end
  pub chain : Chain old first used ws t before
  pub follows : Follows (length ws + 1) t old now
  pub stands : IsPiece (drop t old.bytes) before piece
  pub next_near : IfSome piece.pointer (λ q. q < 16384)
  pub inside : t ≤ length old.bytes
  pub near : t < 16384
  pub absent : set.contains old.kept t ≡ false

-- The piece at t can be kept, and then those that wait for it.
pub record Keeping (old now : Reader) (first used : ℕ) (ws : List (ℕ × NamePiece)) (t : ℕ)
    (piece : NamePiece) : Type 0 where
  pub before : ℕ
  pub n : ℕ
  pub chain : Chain old first used ws t before
  pub can : CanKeep now t piece
  pub fit : Fit old.bytes t before
  pub adds : (xs : List (List ℕ)) (e : ℕ) (h : Spelled old.bytes xs t t e)
      → set.insert now.kept t ≡ inserted (t ∷ passed h) old.kept
  pub now_is : now ≡ record old { kept = now.kept; jumps = now.jumps }
  pub count : set.len now.kept + length ws + 1 ≡ set.len old.kept + n
  pub few : IsCounted old → (now.jumps ≡ set.len old.kept + n) × (set.len old.kept + n ≤ 16384)

-- ---- the pieces are read one after another

whole : {old now : Reader} {first used t before : ℕ} {ws : List (ℕ × NamePiece)} {piece : NamePiece}
    → Walked old now first used ws t before piece → part_at old.bytes (t + piece.len) ≡ Ok (ending_of piece.pointer)
whole {old} {t = t} w = piece_end old.bytes t refl w.stands

follows_first : {old now : Reader} {first : ℕ} → IsNewTarget old first
    → now ≡ record old { jumps = min (old.jumps + 1) (2 ^ 64 - 1) } → Follows 1 first old now
follows_first {old} {first = first} new is =
    Follows-push (Follows-none (first + 1) old new.all_near) (omega arith) new.near new.absent is

pub first_bounded : {old now : Reader} {first : ℕ} → IsNewTarget old first
    → now ≡ record old { jumps = min (old.jumps + 1) (2 ^ 64 - 1) } → IsBounded old now
first_bounded new is counted = let few = Follows-few (follows_first new is) counted in omega (arith, few.0, few.1)

pub walked_first : {old now : Reader} {first used : ℕ} {piece : NamePiece} {front : List ℕ} → used ≤ 254
    → IsNewTarget old first → front ≡ drop first old.bytes → IsPiece front used piece
    → IfSome piece.pointer (λ q. q < 16384) → now ≡ record old { jumps = min (old.jumps + 1) (2 ^ 64 - 1) }
    → Walked old now first used [] first used piece
walked_first {old} {now} {first} {used} {piece} few new front stands next_near is = record {
  labels = [];
  end = None;
  gathers = gathers_none old.bytes first used new.inside few;
  chain = no_more;
  follows = follows_first new is;
  stands = subst (λ (xs : List ℕ). IsPiece xs used piece) front stands;
  next_near = next_near;
  inside = new.inside;
  near = new.near;
  absent = new.absent;
}

module _ {old now : Reader} {first used t before : ℕ} {ws : List (ℕ × NamePiece)} {piece : NamePiece}
    (w : Walked old now first used ws t before piece) where
  bytes_are : now.bytes ≡ old.bytes
  bytes_are = ap (λ (r : Reader). r.bytes) w.follows.now

  kept_are_old : now.kept ≡ old.kept
  kept_are_old = ap (λ (r : Reader). r.kept) w.follows.now

  pub walked_bounded : IsBounded old now
  walked_bounded counted = let few = Follows-few w.follows counted in omega (arith, few.0, few.1)

  gathers_here : Gathers old.bytes first used t (t + piece.len) (before + piece.len)
      (w.labels ++ take piece.len (drop t old.bytes)) w.end
  gathers_here = gathers_piece old.bytes t w.stands.labels w.gathers w.stands.short

  module _ {q : ℕ} (some : piece.pointer ≡ Some q) where
    part : part_at old.bytes (t + piece.len) ≡ Ok (pointer_to q)
    part = whole w ∙ ap (λ (o : Option ℕ). Ok (ending_of o)) some

    pub walked_nowhere : (q < t → AreTooLong now.bytes q (before + piece.len))
        → labels_at old.bytes first first used ≡ Err faults.BadName
    walked_nowhere long = pointer_refused gathers_here part
        (λ below. subst (λ (bs : List ℕ). AreTooLong bs q (before + piece.len)) bytes_are (long below))

    module _ {after : Reader} (below : q < t) (absent : set.contains now.kept q ≡ false)
        (is : after ≡ record now { jumps = min (now.jumps + 1) (2 ^ 64 - 1) }) where
      near_next : q < 16384
      near_next = rw some at w.next_near

      absent_old : set.contains old.kept q ≡ false
      absent_old = ap (λ (k : set.FinSet nat_cmp). set.contains k q) (sym kept_are_old) ∙ absent

      pub follows_next : Follows (length ws + 1 + 1) q old after
      follows_next = Follows-push w.follows below near_next absent_old is

      pub next_bounded : IsBounded old after
      next_bounded counted = let few = Follows-few follows_next counted in omega (arith, few.0, few.1)

      pub next_refused : {front : List ℕ} {e : DecodeError} → front ≡ drop q now.bytes
          → IsRefusedIn front (before + piece.len) e → labels_at old.bytes first first used ≡ Err e
      next_refused front refused = piece_refused (gathers_pointer gathers_here q part below)
          (front ∙ ap (drop q) bytes_are) refused

      pub walked_next : {front : List ℕ} {next : NamePiece} {others : List (ℕ × NamePiece)}
          → front ≡ drop q now.bytes → IsPiece front (before + piece.len) next
          → IfSome next.pointer (λ k. k < 16384) → others ≡ ws ++ (t, piece) ∷ []
          → Walked old after first used others q (before + piece.len) next
      walked_next {next = next} front stands near others_are = rw others_are (record {
        labels = _;
        end = _;
        gathers = gathers_pointer gathers_here q part below;
        chain = chain_push w.chain (record {
          stands = w.stands;
          inside = w.inside;
          near = w.near;
          absent = w.absent;
          leads = some;
          below = below;
        });
        follows = subst (λ (n : ℕ). Follows n q old after)
            (omega (arith, length-append ws ((t, piece) ∷ []))) follows_next;
        stands = subst (λ (xs : List ℕ). IsPiece xs (before + piece.len) next) (front ∙ ap (drop q) bytes_are) stands;
        next_near = near;
        inside = omega (arith, below, w.inside);
        near = near_next;
        absent = absent_old;
      })

-- ---- the last piece

-- The last piece can be kept.
pub record Ends (old now : Reader) (t before : ℕ) (piece : NamePiece) : Type 0 where
  pub can : CanKeep now t piece
  pub fit : Fit old.bytes t before
  pub passes : PassesKept old.bytes old.kept t

module _ {old now : Reader} {first used t before : ℕ} {ws : List (ℕ × NamePiece)} {piece : NamePiece}
    (w : Walked old now first used ws t before piece) where
  can_keep : IfSome piece.pointer (λ q. (q < t) × ((set.contains old.kept q ≡ true) × Fit old.bytes q piece.len))
      → CanKeep now t piece
  can_keep leads = subst (λ (r : Reader). CanKeep r t piece) (sym w.follows.now) (record {
    near = w.near;
    inside = w.inside;
    absent = w.absent;
    stands = piece_alone w.stands;
    after = leads;
  })

  pub ends_none : piece.pointer ≡ None → Ends old now t before piece
  ends_none none = record {
    can = can_keep (rw none tt);
    fit = record {
      items = take piece.len (drop t old.bytes);
      kept = root_piece old.bytes t w.inside refl w.stands w.near none;
      short = omega (arith, w.stands.short, length-take piece.len (drop t old.bytes));
    };
    passes = λ xs e h q in_it. absurd (false≢true
        (ap (λ (qs : List ℕ). is_among qs q) (sym (piece_root old.bytes t w.inside refl w.stands none xs e h))
        ∙ in_it));
  }

  pub ends_kept : {q : ℕ} {items : List ℕ} → piece.pointer ≡ Some q → q < t → set.contains now.kept q ≡ true
      → IsKept now.bytes q items → before + piece.len + length items ≤ 254 → IsClosed now.bytes now.kept
      → Ends old now t before piece
  ends_kept {q} {items} some below has kept_new short closed =
      let kept = subst (λ (bs : List ℕ). IsKept bs q items) (bytes_are w) kept_new in
      let has_old : set.contains old.kept q ≡ true =
      ap (λ (k : set.FinSet nat_cmp). set.contains k q) (sym (kept_are_old w)) ∙ has in
      let closed_old : IsClosed old.bytes old.kept =
      subst (IsClosed old.bytes) (kept_are_old w)
      (subst (λ (bs : List ℕ). IsClosed bs now.kept) (bytes_are w) closed) in
      let own = take piece.len (drop t old.bytes) in
      record {
        can = can_keep (rw some (
          below,
          (
            has_old,
            record { items = items; kept = kept; short = omega (arith, short) },
          ),
        ));
        fit = record {
          items = own ++ items;
          kept = kept_piece old.bytes t w.inside refl w.stands some w.near below kept short;
          short = omega (arith, short, length-append own items, length-take piece.len (drop t old.bytes));
        };
        passes = piece_passes old.bytes t old.kept w.inside w.stands closed_old (rw some has_old);
      }

  pub ends_found : {q : ℕ} (found : Option (Bor (List ℕ))) → piece.pointer ≡ Some q → q < t
      → is_some found ≡ set.contains now.kept q → is_some found ≡ true
      → IfSome found (λ labels. IsKept now.bytes q labels.now)
      → IfSome found (λ labels. before + piece.len + length labels.now ≤ 254) → IsClosed now.bytes now.kept
      → Ends old now t before piece
  ends_found None some below is has kept short closed = absurd (false≢true has)
  ends_found (Some labels) some below is has kept short closed = ends_kept some below (sym is) kept short closed

  pub keeping_first : Ends old now t before piece → Keeping old now first used ws t piece
  keeping_first ends = record {
    before = before;
    n = length ws + 1;
    chain = w.chain;
    can = ends.can;
    fit = ends.fit;
    adds = λ xs e h. ap (λ (k : set.FinSet nat_cmp). set.insert k t)
        (kept_are_old w ∙ sym (inserted-same (passed h) old.kept (ends.passes xs e h)))
        ∙ sym (inserted-first t (passed h) old.kept);
    now_is = w.follows.now ∙ ap (λ (k : set.FinSet nat_cmp). record old { kept = k; jumps = now.jumps })
        (sym (kept_are_old w));
    count = omega (arith, ap set.len (kept_are_old w));
    few = Follows-few w.follows;
  }

-- ---- the pieces before it, from the last to the first

pub or_same : (a b c : Bool) → b ≡ true → (a || (b || c)) ≡ true
or_same true b c is = refl
or_same false true c is = refl
or_same false false c is = absurd (false≢true is)

pub keeping_bounded : {old now : Reader} {first used t : ℕ} {ws : List (ℕ × NamePiece)} {piece : NamePiece}
    → Keeping old now first used ws t piece → IsBounded old now
keeping_bounded k counted = let few = k.few counted in omega (arith, few.0, few.1)

-- once it is kept
module _ {old now after : Reader} {first used t : ℕ} {ws : List (ℕ × NamePiece)} {piece : NamePiece}
    (k : Keeping old now first used ws t piece) (is : after ≡ record now { kept = set.insert now.kept t }) where
  all : after.kept ≡ set.insert now.kept t
  all = ap (λ (r : Reader). r.kept) is

  adds_all : (xs : List (List ℕ)) (e : ℕ) (h : Spelled old.bytes xs t t e)
      → after.kept ≡ inserted (t ∷ passed h) old.kept
  adds_all xs e h = all ∙ k.adds xs e h

  after_is : after ≡ record old { kept = after.kept; jumps = after.jumps }
  after_is =
      let same : after ≡ record old { kept = set.insert now.kept t; jumps = now.jumps } = is
      ∙ ap (λ (r : Reader). record r { kept = set.insert now.kept t }) k.now_is in
      same ∙ ap (λ (r : Reader). record old { kept = r.kept; jumps = r.jumps }) (sym same)

  count_all : set.len after.kept + length ws ≡ set.len old.kept + k.n
  count_all = omega (
    arith,
    k.count,
    ap set.len all,
    set.len-insert nat_cmp_total now.kept t ∙ cond-false (set.contains now.kept t) _ _ k.can.absent,
  )

  few_all : IsCounted old → (after.jumps ≡ set.len old.kept + k.n) × (set.len old.kept + k.n ≤ 16384)
  few_all counted = let few = k.few counted in (ap (λ (r : Reader). r.jumps) is ∙ few.0, few.1)

  module _ (others : List (ℕ × NamePiece)) (above : ℕ) (longer : NamePiece)
      (ws_are : ws ≡ others ++ (above, longer) ∷ []) where
    last : Last old first used others above longer t k.before
    last = chain_pop others (subst (λ (xs : List (ℕ × NamePiece)). Chain old first used xs t k.before) ws_are k.chain)

    w : Waits old above last.before longer t
    w = last.waits

    not_yet : set.contains after.kept above ≡ false
    not_yet = elim (cases_Bool (set.contains after.kept above)) [
      | inl has ↦
          let h = k.fit.kept.spelled in
          absurd (either (set.contains old.kept above) (is_among (t ∷ passed h) above) ⊥
          (λ was. false≢true (sym w.absent ∙ was))
          (λ one. either (nat_eq t above) (is_among (passed h) above) ⊥
          (λ same. omega (arith, w.below, eqb-true t above same))
          (λ in_it. omega (arith, w.below, passed_below h above in_it)) one)
          (sym (ap (λ (s : set.FinSet nat_cmp). set.contains s above) (adds_all _ _ h)
          ∙ contains-inserted (t ∷ passed h) old.kept above)
          ∙ has))
      | inr hasnt ↦ hasnt
    ]

    has_next : set.contains after.kept t ≡ true
    has_next =
        let h = k.fit.kept.spelled in
        ap (λ (s : set.FinSet nat_cmp). set.contains s t) (adds_all _ _ h)
        ∙ contains-inserted (t ∷ passed h) old.kept t
        ∙ or_same (set.contains old.kept t) (nat_eq t t) (is_among (passed h) t) (eq-eqb t t refl)

    pub keeping_next : Keeping old after first used others above longer
    keeping_next =
        let bytes : after.bytes ≡ old.bytes = ap (λ (r : Reader). r.bytes) after_is in
        let own = take longer.len (drop above old.bytes) in
        let total : last.before + longer.len + length k.fit.items ≤ 254 = omega (arith, last.sum, k.fit.short) in
        record {
          before = last.before;
          n = k.n;
          chain = last.chain;
          can = record {
            near = w.near;
            inside = rw bytes w.inside;
            absent = not_yet;
            stands = rw bytes (piece_alone w.stands);
            after = rw (w.leads, bytes) (
              w.below,
              (
                has_next,
                fit_less k.fit (omega (arith, last.sum)),
              ),
            );
          };
          fit = record {
            items = own ++ k.fit.items;
            kept = kept_piece old.bytes above w.inside refl w.stands w.leads w.near w.below k.fit.kept total;
            short = omega (arith, total, length-append own k.fit.items, length-take longer.len (drop above old.bytes));
          };
          adds = λ xs e h.
              let r = piece_next old.bytes above w.inside refl w.stands w.leads xs e h in
              ap (λ (s : set.FinSet nat_cmp). set.insert s above) (adds_all r.labels r.end r.spelled
              ∙ ap (λ (qs : List ℕ). inserted qs old.kept) (sym r.passes))
              ∙ sym (inserted-first above (passed h) old.kept);
          now_is = after_is;
          count = omega (arith, count_all, ap length ws_are, length-append others ((above, longer) ∷ []));
          few = few_all;
        }

  -- the labels there are those of a target, which is kept with all that it leads to
  pub kept_all : ws ≡ [] → Fit old.bytes first used × IsAdded first old after
  kept_all none = go t k.before (subst (λ (xs : List (ℕ × NamePiece)). Chain old first used xs t k.before) none k.chain)
      k.fit adds_all where
        go : (at before : ℕ) → Chain old first used [] at before → Fit old.bytes at before
            → ((xs : List (List ℕ)) (e : ℕ) (h : Spelled old.bytes xs at at e)
            → after.kept ≡ inserted (at ∷ passed h) old.kept)
            → Fit old.bytes first used × IsAdded first old after
        go at before no_more fit adds = (
          fit,
          record {
            now = after_is;
            kept = adds;
            counts = λ counted.
                let few = few_all counted in
                record {
                  exact = omega (arith, few.0, count_all, ap length none);
                  few = omega (arith, few.1, count_all, ap length none);
                };
          },
        )
