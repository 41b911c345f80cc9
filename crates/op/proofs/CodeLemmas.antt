-- The codes that are put together from a header's bits and those of EDNS.
use Rattle.std.proofs.Common.{◌≡◌, ℕ, ◌+◌, ◌*◌, ◌/◌, ◌%◌, ◌<◌, Bool, false, refl, ap, ◌∙◌, arith, rules, Option, Some}
use Rattle.std.proofs.Common.{None}
use Rattle.std.specs.Prelude.{All, ◌||◌}
use Rattle.op.specs.Fits.{as_list}
use Rattle.op.specs.Header.{bit_of, metadata_value, raw_header}
use Rattle.op.specs.Message.{high_code}
use Rattle.op.specs.MessageType.{is_response, kind_value}
use Rattle.op.specs.OpCode.{op_number, op_value}
use Rattle.op.specs.ResponseCode.{code_from, code_low, code_number, code_value}
use Rattle.op.specs.Cut.{code_range}
use Rattle.op.specs.declared.edns.Edns.{Edns}
use Rattle.op.specs.declared.header.Header.{Header}
use Rattle.op.specs.declared.header.message_type.MessageType.{MessageType}
use Rattle.op.specs.declared.header.message_type.MessageType.TheVariants as message_types
use Rattle.op.specs.declared.header.metadata.Metadata.{Metadata}
use Rattle.op.specs.declared.op_code.OpCode.{OpCode}
use Rattle.op.specs.declared.response_code.ResponseCode.{ResponseCode}

-- a code read of a number has that number
pub number_kept : (n : ℕ) → code_number (code_value n) ≡ n
number_kept n = search (rules)

kind_kept : (t : MessageType) (high : Bool) → high ≡ false → kind_value (is_response t || high) ≡ t
kind_kept message_types.Query high none = rw none refl
kind_kept message_types.Response high none = refl

no_high_bit : (n : ℕ) → n < 16 → bit_of 16 n ≡ false
no_high_bit n small = let e : n / 16 % 2 ≡ 0 = omega arith in rw e refl

-- a header whose opcode fits is read as it was, but for the code's high bits
pub metadata_back : (h : Header) → op_number h.metadata.op_code < 16
    → op_value (op_number h.metadata.op_code) ≡ h.metadata.op_code
    → metadata_value (raw_header h) ≡ record h.metadata {
      response_code =
          code_value (code_number h.metadata.response_code % 16);
    }
metadata_back h small reads =
    let low : op_number h.metadata.op_code % 16 ≡ op_number h.metadata.op_code = omega arith in
    same (kind_kept h.metadata.message_type (bit_of 16 (op_number h.metadata.op_code))
    (no_high_bit (op_number h.metadata.op_code) small)) (ap op_value low ∙ reads)
  where
    same : {t u : MessageType} {o p : OpCode} → t ≡ u → o ≡ p
        → ◌≡◌ {A = Metadata} (record h.metadata {
          message_type = t;
          op_code = o;
          response_code =
              code_value (code_number h.metadata.response_code % 16);
        })
        (record h.metadata {
          message_type = u;
          op_code = p;
          response_code =
              code_value (code_number h.metadata.response_code % 16);
        })
    same p q = rw (p, q) refl

-- the code with the bits above it
pub code_back : (n : ℕ) → code_from (n / 16 % 256) (code_low (code_value (n % 16))) ≡ code_value (n % 4096)
code_back n =
    let low : code_number (code_value (n % 16)) ≡ n % 16 = number_kept (n % 16) in
    let whole : (n / 16 % 256) * 16 + (n % 16 % 16 % 16) ≡ n % 4096 = omega arith in
    ap (λ k. code_value ((n / 16 % 256) * 16 + (k % 16 % 16))) low ∙ ap code_value whole

pub high_back : (edns : Option Edns) (m : Metadata) (n : ℕ) → All (λ e. e.rcode_high ≡ n / 16 % 256) (as_list edns)
    → m.response_code ≡ code_value (n % 16)
    → high_code edns m ≡ record m { response_code = code_value (n % code_range edns) }
high_back None m n high low = ap (λ c. record m { response_code = c }) low
high_back (Some e) m n high low =
    ap (λ c. record m { response_code = c }) (same (high 0 e (omega arith)) low ∙ code_back n)
  where
    same : {i j : ℕ} {c d : ResponseCode} → i ≡ j → c ≡ d → code_from i (code_low c) ≡ code_from j (code_low d)
    same p q = rw (p, q) refl
