-- The laws of writing, for what appends bytes and for what is written in parts.
use Rattle.std.proofs.Common.{rules, ◌≡◌, ℕ, ◌+◌, ◌≤◌, List, [], ◌++◌, length, drop, ap, sym, ◌∙◌, append_assoc, arith}
use Rattle.std.proofs.Common.{length-append}
use Rattle.std.specs.Prelude.{Option, Some, None, All, max}
use Rattle.std.proofs.lemmas.List.{append-nil}
use Rattle.std.proofs.lemmas.List.Elements.{All-nil, All-append}
use Rattle.std.proofs.Math.Seq.{drop-append_seam, take-length}
use Rattle.base.specs.writing.State.{State, Stored, appended}
use Rattle.base.specs.Words.{Stands}
use Rattle.base.specs.writing.Laws.{IsValid, Holds, Keeps}
use Rattle.base.specs.writing.SaysParts.{last_stands}
use Rattle.base.specs.WordLemmas.{first_stands}
use Rattle.base.specs.writing.Written.{Writing, piece_at, after, just}
use Rattle.base.proofs.writing.WrittenLemmas.{after-none}

pub none_is_not : {A : Type 0} (x : A) → ◌≡◌ {A = Option A} None (Some x) → ⊥
none_is_not x same = search rules

-- what was written after what stood keeps it, and suffixes that are added to those before
pub Keeps-after : (f : Writing) (a b : State) (added : List Stored) → b ≡ after f a
    → (piece_at f a).suffixes ≡ a.suffixes ++ added → All (λ t. length a.bytes ≤ t.offset) added
    → length b.bytes ≤ max (length a.bytes) a.limit → Keeps a b
Keeps-after f a b added is more offsets within = record {
  appended = (piece_at f a).bytes;
  added = added;
  bytes = ap (λ (s : State). s.bytes) is;
  suffixes = ap (λ (s : State). s.suffixes) is ∙ more;
  offsets = offsets;
  limit = ap (λ (s : State). s.limit) is;
  buffer = ap (λ (s : State). s.buffer) is;
  within = within;
}

-- bytes were appended, or nothing was written
pub Keeps-appended : (xs : List ℕ) (a b : State) → b ≡ appended xs a → length b.bytes ≤ a.limit → Keeps a b
Keeps-appended xs a b is within = Keeps-after (just xs) a b [] is (sym (append-nil a.suffixes))
    (All-nil (λ (t : Stored). length a.bytes ≤ t.offset)) (omega arith)

pub Keeps-same : (a b : State) → b ≡ a → Keeps a b
Keeps-same a b same = Keeps-after (just []) a b [] (same ∙ sym (after-none a)) (sym (append-nil a.suffixes))
    (All-nil (λ (t : Stored). length a.bytes ≤ t.offset)) (omega (arith, ap (λ (s : State). length s.bytes) same))

-- ---- one writing after another

unfoldable pub Keeps-then : {a b c : State} → Keeps a b → Keeps b c → Keeps a c
Keeps-then {a} {b} {c} k l = record {
  appended = k.appended ++ l.appended;
  added = k.added ++ l.added;
  bytes = rw (l.bytes, k.bytes, append_assoc);
  suffixes = rw (l.suffixes, k.suffixes, append_assoc);
  offsets = All-append (λ (t : Stored). length a.bytes ≤ t.offset) k.added l.added k.offsets
      (λ i t inside. omega (arith, l.offsets i t inside, ap length k.bytes, length-append a.bytes k.appended));
  limit = l.limit ∙ k.limit;
  buffer = l.buffer ∙ k.buffer;
  within = omega (arith, k.within, l.within, k.limit);
}

-- what was added to the bytes
pub added_bytes : (a b : State) (xs : List ℕ) → b.bytes ≡ a.bytes ++ xs → drop (length a.bytes) b.bytes ≡ xs
added_bytes a b xs is = rw is (drop-append_seam a.bytes xs)

module _ (a b c : State) (k : Keeps a b) (l : Keeps b c) (B : List ℕ) where
  -- what was added by both
  both : drop (length a.bytes) c.bytes ≡ k.appended ++ l.appended
  both = rw (l.bytes, k.bytes, append_assoc, drop-append_seam)

  -- what holds both holds the first
  pub Holds-first : Holds a c B → Holds a b B
  Holds-first h = record {
    table = h.table;
    bytes = rw (added_bytes a b k.appended k.bytes)
        (first_stands k.appended l.appended B (length a.bytes) (rw both at h.bytes));
  }

  -- what was added by the second stands after the first
  pub Stands-second : Holds a c B → Stands (drop (length b.bytes) c.bytes) B (length b.bytes)
  Stands-second h =
      let place : length b.bytes ≡ length a.bytes + length k.appended =
      ap length k.bytes ∙ length-append a.bytes k.appended in
      rw (added_bytes b c l.appended l.bytes, place)
      (last_stands k.appended l.appended B (length a.bytes) (rw both at h.bytes))

  -- and what holds both holds the second, if the suffixes between them are spelled there
  pub Holds-second : IsValid b B → Holds a c B → Holds b c B
  Holds-second table h = record { table = table; bytes = Stands-second h }

-- ---- what stands at the end

-- the bytes of an encoder hold what it wrote, if the suffixes stored before are spelled there
pub Holds-own : (a b : State) → IsValid a b.bytes → Holds a b b.bytes
Holds-own a b table = record { table = table; bytes = record { is = take-length (drop (length a.bytes) b.bytes) } }

-- what `search` composes writings by
pub ruleset writing = (Keeps-same, Keeps-then)
