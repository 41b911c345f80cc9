-- The first fault of a name that is spelled wrongly (RFC 1035, 2.3.4 and 4.1.4).
use Rattle.base.specs.declared.limits.TheConstants.{MAX_LABEL, MAX_NAME, POINTER_BITS}
use Rattle.std.specs.Prelude.{ℕ, ◌+◌, ◌<◌, ◌≤◌, List, length}
use Rattle.base.specs.declared.error.decode_error.DecodeError.{DecodeError}
use Rattle.base.specs.declared.error.decode_error.DecodeError.TheVariants as faults
use Rattle.base.specs.reading.Spelling.{ByteAt, anywhere, target}

-- The fault of a name from i on, in a piece that begins at s, where the labels before took `used` bytes: the buffer
-- ends before a part or inside a label or pointer; top bits 01 or 10; more than 255 bytes with the final one; a pointer
-- that doesn't go below its piece's start; or a fault that comes after a label or a pointer.
pub data IsFaulty (bytes : List ℕ) : ℕ → ℕ → ℕ → DecodeError → Type 0 where
  ended : {s i used : ℕ} → length bytes ≤ i → IsFaulty bytes s i used faults.InsufficientBytes
  cut_label : {s i used n : ℕ} → ByteAt anywhere bytes i n → 1 ≤ n → n ≤ MAX_LABEL
      → length bytes < i + 1 + n → IsFaulty bytes s i used faults.InsufficientBytes
  cut_pointer : {s i used b : ℕ} → ByteAt anywhere bytes i b → POINTER_BITS ≤ b
      → length bytes ≤ i + 1 → IsFaulty bytes s i used faults.InsufficientBytes
  bad_bits : {s i used b : ℕ} → ByteAt anywhere bytes i b → MAX_LABEL < b → b < POINTER_BITS
      → IsFaulty bytes s i used faults.BadName
  long : {s i used n : ℕ} → ByteAt anywhere bytes i n → 1 ≤ n → n ≤ MAX_LABEL
      → i + 1 + n ≤ length bytes → MAX_NAME < used + (1 + n) + 1
      → IsFaulty bytes s i used faults.BadName
  forward : {s i used b c : ℕ} → ByteAt anywhere bytes i b → ByteAt anywhere bytes (i + 1) c
      → POINTER_BITS ≤ b → s ≤ target b c → IsFaulty bytes s i used faults.BadName
  after_label : {s i used n : ℕ} {f : DecodeError} → ByteAt anywhere bytes i n → 1 ≤ n
      → n ≤ MAX_LABEL → i + 1 + n ≤ length bytes → used + (1 + n) + 1 ≤ MAX_NAME
      → IsFaulty bytes s (i + 1 + n) (used + (1 + n)) f → IsFaulty bytes s i used f
  after_pointer : {s i used b c : ℕ} {f : DecodeError} → ByteAt anywhere bytes i b
      → ByteAt anywhere bytes (i + 1) c → POINTER_BITS ≤ b → target b c < s
      → IsFaulty bytes (target b c) (target b c) used f → IsFaulty bytes s i used f
