-- What is known of what is written in parts, put together as what is written is.
use Rattle.std.proofs.Common.{◌≡◌, ℕ, ◌+◌, ◌^◌, ◌<◌, ◌≤◌, List, [], ◌++◌, length, refl, sym, ◌∙◌, append_assoc, arith}
use Rattle.std.proofs.Common.{length-append}
use Rattle.std.specs.Prelude.{All, Any}
use Rattle.std.specs.Int.{w16, w32, to_be_bytes}
use Rattle.std.proofs.lemmas.List.{append-nil, get_or_append_left, get_or-append-add}
use Rattle.std.proofs.lemmas.List.Elements.{All-nil, All-append}
use Rattle.base.specs.writing.Laws.{IsSpelled}
use Rattle.base.specs.writing.Says.{IsThere, IsOwned, SaysAt, Says}
use Rattle.base.specs.writing.State.{Stored}
use Rattle.base.specs.WordLemmas.{first_stands, stands_part, number16_stands, number32_stands}
use Rattle.base.specs.Words.{Stands, Bytes, Number, Then, Sized}
use Rattle.base.specs.writing.Written.{Piece, Writing, just, both, sized}

-- what is among the first elements is among all
pub any_append : (P : Stored → Type 0) (xs ys zs : List Stored) → zs ≡ xs ++ ys → Any P xs
    → Any P zs
any_append P xs ys zs is (k, t, inside, at, holds) =
    rw is (k, t, omega (arith, length-append xs ys), get_or_append_left xs ys t k inside ∙ at, holds)

-- and so is what is among the others
pub any_after : (P : Stored → Type 0) (xs ys : List Stored) → Any P ys → Any P (xs ++ ys)
any_after P xs ys (k, t, inside, at, holds) =
    (length xs + k, t, omega (arith, length-append xs ys), get_or-append-add xs ys k t ∙ at, holds)

-- suffixes that are spelled before a place are so before a later one
pub later_table : (B : List ℕ) (m n : ℕ) (ts : List Stored) → m ≤ n → All (IsSpelled B m) ts
    → All (IsSpelled B n) ts
later_table B m n ts le all = λ k d inside.
    let s = all k d inside in
    record { below = omega (arith, s.below); fits = s.fits; end = s.end; spelled = s.spelled }

-- what has no owner owes nothing of one
no_owner : (p : Piece) (at : ℕ) (stored : List Stored) (fits : Type 0) → IsOwned p at stored fits []
no_owner p at stored fits = record {
  end = 0;
  spelled = λ ok some. absurd (some refl);
  short = λ some. absurd (some refl);
  stores = λ some. absurd (some refl);
}

-- bytes that are a word wherever they stand
pub Says-just : (fits : Type 0) (word : List ℕ → ℕ → ℕ → Type 0) (plain : ℕ) (xs : List ℕ)
    → length xs ≤ plain
    → (fits → (B : List ℕ) (at : ℕ) → length xs < 2 ^ 16 → Stands xs B at
    → word B at (at + length xs))
    → Says (just xs) fits word plain []
Says-just fits word plain xs few is_word = record {
  each = λ at stored. record {
    stands = λ ok B e is h. rw is
        (is_word ok B at h.small h.bytes, later_table B at _ stored (omega arith) h.table);
    added = [];
    is = sym (append-nil stored);
    offsets = All-nil (λ (t : Stored). at ≤ t.offset);
    owned = no_owner _ at stored fits;
  };
  at_most = λ at stored. few;
}

-- where bytes stand, the last of them do
pub last_stands : (xs ys B : List ℕ) (i : ℕ) → Stands (xs ++ ys) B i → Stands ys B (i + length xs)
last_stands xs ys B i h = stands_part xs ys [] B i (rw append-nil h)

-- one piece after another
module _ {F G : Type 0} {v w : List ℕ → ℕ → ℕ → Type 0} {owner : List (List ℕ)} {p q : Piece} {at : ℕ}
    {stored : List Stored} (s : SaysAt p at stored F v owner)
    (r : SaysAt q (at + length p.bytes) p.suffixes G w []) where
  abbrev two : Piece
  two = record { bytes = p.bytes ++ q.bytes; suffixes = q.suffixes }

  first_there : (B : List ℕ) → IsThere two B at stored → IsThere p B at stored
  first_there B h = record {
    table = h.table;
    bytes = first_stands p.bytes q.bytes B at h.bytes;
    small = omega (arith, h.small, length-append p.bytes q.bytes);
  }

  says_both : SaysAt two at stored (F × G) (Then v w) owner
  says_both = record {
    stands = λ ok B e is h.
        let first = s.stands ok.0 B (at + length p.bytes) refl (first_there B h) in
        let second = r.stands ok.1 B e (omega (arith, is, length-append p.bytes q.bytes)) (record {
          table = first.1;
          bytes = last_stands p.bytes q.bytes B at h.bytes;
          small = omega (arith, h.small, length-append p.bytes q.bytes);
        }) in
        ((at + length p.bytes, first.0, second.0), second.1);
    added = s.added ++ r.added;
    is = rw (r.is, s.is, append_assoc);
    offsets = All-append (λ (t : Stored). at ≤ t.offset) s.added r.added s.offsets
        (λ k t inside. omega (arith, r.offsets k t inside));
    owned = record {
      end = s.owned.end;
      spelled = λ ok some B h. s.owned.spelled ok.0 some B (first_there B h);
      short = s.owned.short;
      stores = λ some early. any_append (λ t. t.labels ≡ owner) p.suffixes r.added q.suffixes r.is
          (s.owned.stores some early);
    };
  }

-- one word after another
pub Says-both : {F G : Type 0} {v w : List ℕ → ℕ → ℕ → Type 0} {n m : ℕ} {owner : List (List ℕ)}
    (f g : Writing) → Says f F v n owner → Says g G w m []
    → Says (both f g) (F × G) (Then v w) (n + m) owner
Says-both f g s r = record {
  each = λ at stored. says_both (s.each at stored) (r.each _ (f at stored).suffixes);
  at_most = λ at stored.
      let next = at + length (f at stored).bytes in
      let few = s.at_most at stored in
      let more = r.at_most next (f at stored).suffixes in
      omega (arith, length-append (f at stored).bytes (g next (f at stored).suffixes).bytes);
}

-- a piece after its length
says_sized : {F : Type 0} {word : List ℕ → ℕ → ℕ → Type 0} {owner : List (List ℕ)} {p : Piece} {at : ℕ}
    {stored : List Stored} → SaysAt p (at + 2) stored F word owner
    → SaysAt (record { bytes = to_be_bytes w16 (length p.bytes) ++ p.bytes; suffixes = p.suffixes }) at
    stored F (Sized word) []
says_sized {F} {p = p} {at} {stored} s =
    let n = length p.bytes in
    let len = length-append (to_be_bytes w16 n) p.bytes in
    record {
      stands = λ ok B e is h.
          let inner = s.stands ok B e (omega (arith, is, len)) (record {
            table = later_table B at (at + 2) stored (omega arith) h.table;
            bytes = last_stands (to_be_bytes w16 n) p.bytes B at h.bytes;
            small = omega (arith, h.small, len);
          }) in
          let number = number16_stands n B at (omega (arith, h.small, len))
          (first_stands (to_be_bytes w16 n) p.bytes B at h.bytes) in
          ((n, omega (arith, is, len), number, inner.0), inner.1);
      added = s.added;
      is = s.is;
      offsets = λ k t inside. omega (arith, s.offsets k t inside);
      owned = no_owner _ at stored F;
    }

-- a word after its length
pub Says-sized : {F : Type 0} {word : List ℕ → ℕ → ℕ → Type 0} {plain : ℕ} {owner : List (List ℕ)}
    (f : Writing) → Says f F word plain owner → Says (sized f) F (Sized word) (2 + plain) []
Says-sized f s = record {
  each = λ at stored. says_sized (s.each (at + 2) stored);
  at_most = λ at stored.
      let bytes = (f (at + 2) stored).bytes in
      omega (arith, s.at_most (at + 2) stored, length-append (to_be_bytes w16 (length bytes)) bytes);
}

-- bytes as they are
pub Says-bytes : (xs : List ℕ) → Says (just xs) (Unit {0}) (Bytes xs) (length xs) []
Says-bytes xs =
    Says-just (Unit {0}) (Bytes xs) (length xs) xs (omega arith) (λ ok B at small h. (h, refl))

-- a number of two bytes
pub Says-number : (n : ℕ) → Says (just (to_be_bytes w16 n)) (n < 2 ^ 16) (Number w16 n) 2 []
Says-number n = Says-just (n < 2 ^ 16) (Number w16 n) 2 (to_be_bytes w16 n) (omega arith)
    (λ ok B at small h. (number16_stands n B at ok h, omega arith))

-- a number of four bytes
pub Says-number32 : (n : ℕ) → Says (just (to_be_bytes w32 n)) (n < 2 ^ 32) (Number w32 n) 4 []
Says-number32 n = Says-just (n < 2 ^ 32) (Number w32 n) 4 (to_be_bytes w32 n) (omega arith)
    (λ ok B at small h. (number32_stands n B at ok h, omega arith))

-- what has a name before it, or nothing, as a part of something else
pub Says-unowned : {F : Type 0} {word : List ℕ → ℕ → ℕ → Type 0} {plain : ℕ} {owner : List (List ℕ)}
    (f : Writing) → Says f F word plain owner → Says f F word plain []
Says-unowned {F} f s = record {
  each = λ at stored.
      let w = s.each at stored in
      record {
        stands = w.stands;
        added = w.added;
        is = w.is;
        offsets = w.offsets;
        owned = no_owner (f at stored) at stored F;
      };
  at_most = s.at_most;
}

-- a word that follows from the one that is written, and `more` bytes for `plain`
pub Says-weaker : {F : Type 0} {word other : List ℕ → ℕ → ℕ → Type 0} {plain more : ℕ}
    {owner : List (List ℕ)} (f : Writing) (G : Type 0) → (G → F)
    → (G → (B : List ℕ) (i e : ℕ) → word B i e → other B i e) → plain ≤ more
    → Says f F word plain owner → Says f G other more owner
Says-weaker f G fits follows few s = record {
  each = λ at stored.
      let w = s.each at stored in
      record {
        stands = λ ok B e is h.
            let there = w.stands (fits ok) B e is h in
            (follows ok B at e there.0, there.1);
        added = w.added;
        is = w.is;
        offsets = w.offsets;
        owned = record {
          end = w.owned.end;
          spelled = λ ok. w.owned.spelled (fits ok);
          short = w.owned.short;
          stores = w.owned.stores;
        };
      };
  at_most = λ at stored. omega (arith, few, s.at_most at stored);
}
