-- Writing after room that was kept, which is filled at the end.
use Rattle.std.proofs.Common.{◌≡◌, ℕ, List, ◌++◌, length, ap, ◌∙◌, append_assoc, arith, length-append}
use Rattle.std.proofs.Math.Seq.{take-append_seam, drop-append_seam, drop-append-add}
use Rattle.base.specs.writing.State.{State, appended, overwritten}
use Rattle.base.specs.writing.Laws.{Holds, Keeps, Writes}
use Rattle.base.proofs.writing.LawLemmas.{added_bytes}

-- Room of as many bytes was kept after a, something was written after it, and the room is filled.
module _ (room xs : List ℕ) (a c : State) (size : length xs ≡ length room) (k : Keeps (appended room a) c) where
  abbrev filled : State
  filled = overwritten (length a.bytes) xs c

  bytes : filled.bytes ≡ (a.bytes ++ xs) ++ k.appended
  bytes = rw (k.bytes, append_assoc a.bytes room k.appended, take-append_seam, drop-append-add, size) (rw
      (drop-append_seam, append_assoc))

  start : length (a.bytes ++ room) ≡ length (a.bytes ++ xs)
  start = omega (arith, length-append a.bytes room, length-append a.bytes xs)

  stop : length c.bytes ≡ length filled.bytes
  stop =
      let old = ap length k.bytes ∙ length-append (a.bytes ++ room) k.appended in
      let new = ap length bytes ∙ length-append (a.bytes ++ xs) k.appended in
      omega (arith, start)

  -- all is as if the room had been filled from the start
  pub Keeps-filled : Keeps (appended xs a) (overwritten (length a.bytes) xs c)
  Keeps-filled = record {
    appended = k.appended;
    added = k.added;
    bytes = bytes;
    suffixes = k.suffixes;
    offsets = rw (← start) k.offsets;
    limit = k.limit;
    buffer = k.buffer;
    within = omega (arith, k.within, start, stop);
  }

  Holds-after : (B : List ℕ) → Holds (appended xs a) filled B → Holds (appended room a) c B
  Holds-after B h = record {
    table = record { each = rw start h.table.each };
    bytes = rw (added_bytes (appended room a) c k.appended k.bytes, start)
        (rw (added_bytes (appended xs a) filled k.appended bytes) at h.bytes);
  }

  pub Writes-filled : {word : List ℕ → ℕ → ℕ → Type 0} {plain : ℕ} {owner : List (List ℕ)}
      → Writes word plain owner (appended room a) c
      → Writes word plain owner (appended xs a) (overwritten (length a.bytes) xs c)
  Writes-filled w = record {
    word_stands = λ B h. rw (← start, ← stop) (w.word_stands B (Holds-after B h));
    valid = λ B h. record { each = rw (← stop) (w.valid B (Holds-after B h)).each };
    at_most = omega (arith, w.at_most, start, stop);
    compresses = record {
      end = w.compresses.end;
      spelled = λ some B h. rw (← start) (w.compresses.spelled some B (Holds-after B h));
      short = λ some first ends. omega (arith, start, w.compresses.short some first ends);
      stored = λ some early. w.compresses.stored some (omega (arith, start));
    };
  }
