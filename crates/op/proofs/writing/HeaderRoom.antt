-- Room for a header that was kept, and is filled in at the end.
use Rattle.std.proofs.Common.{◌≡◌, ◌≤◌, length, refl, ap, sym, subst, arith, length-append}
use Rattle.std.specs.Prelude.{replicate}
use Rattle.base.specs.writing.Laws.{Keeps}
use Rattle.base.specs.writing.State.{State, appended, overwritten}
use Rattle.base.proofs.writing.LawLemmas.{Keeps-appended, Keeps-then}
use Rattle.base.proofs.writing.PatchLemmas.{Keeps-filled}
use Rattle.op.specs.Header.{header_bytes, raw_header}
use Rattle.op.specs.declared.header.Header.{Header}

-- what stood before the room stays, also when it is filled
pub room_filled : (h : Header) (a b c d : State) → b ≡ appended (replicate 12 0) a → length b.bytes ≤ a.limit
    → Keeps b c → d ≡ overwritten (length a.bytes) (header_bytes (raw_header h)) c → Keeps a d
room_filled h a b c d kept within keeps filled =
    let xs = header_bytes (raw_header h) in
    let first : Keeps a (appended xs a) = Keeps-appended xs a (appended xs a) refl
    (omega (
      arith,
      within,
      ap (λ (s : State). length s.bytes) kept,
      length-append a.bytes (replicate 12 0),
      length-append a.bytes xs,
    )) in
    let after : Keeps (appended xs a) (overwritten (length a.bytes) xs c) =
    Keeps-filled (replicate 12 0) xs a c refl (subst (λ (s : State). Keeps s c) kept keeps) in
    subst (λ (s : State). Keeps a s) (sym filled) (Keeps-then first after)
