-- What is known of what is written of a header: its bytes are its word.
use Rattle.std.proofs.Common.{◌≡◌, ℕ, ◌+◌, ◌*◌, ◌/◌, ◌%◌, ◌<◌, Bool, true, false, List, [], ◌∷◌, ◌++◌, refl, arith}
use Rattle.std.proofs.Common.{lit<}
use Rattle.std.specs.Int.{w16, to_be_bytes, from_bool}
use Rattle.base.specs.writing.Says.{Says}
use Rattle.base.specs.writing.SaysParts.{Says-just}
use Rattle.base.specs.Words.{Stands}
use Rattle.base.specs.writing.Written.{just}
use Rattle.base.specs.WordLemmas.{first_stands, number16_stands, stands_byte, stands_part}
use Rattle.op.specs.Header.{IsNarrow, IsRawHeaderAt, HeaderWord, RawHeader, bit_of, weighed, high_byte, low_byte}
use Rattle.op.specs.Header.{header_bytes, raw_header}
use Rattle.op.specs.declared.header.Header.{Header}

-- what a bit weighs is its number times the weight, and its number is 1 at most
pub weighed_is : (w : ℕ) (p : Bool) → (weighed w p ≡ from_bool p * w) × (from_bool p < 2)
weighed_is w true = (omega arith, lit< tt)
weighed_is w false = (omega arith, lit< tt)

bit_back : (b : Bool) (n w : ℕ) → n / w % 2 ≡ from_bool b → b ≡ bit_of w n
bit_back true n w is = rw is refl
bit_back false n w is = rw is refl

-- where the bytes of a header's fields stand, the fields do
raw_stands : (r : RawHeader) (B : List ℕ) (i : ℕ) → IsNarrow r.id r.counts → r.opcode < 16
    → r.code < 16 → Stands (header_bytes r) B i → IsRawHeaderAt B i r
raw_stands r B i narrow op code s =
    let xs = header_bytes r in
    let bit_r = weighed_is 128 r.response in
    let bit_a = weighed_is 4 r.authoritative in
    let bit_t = weighed_is 2 r.truncation in
    let bit_d = weighed_is 1 r.recursion_desired in
    let bit_ra = weighed_is 128 r.recursion_available in
    let bit_ad = weighed_is 32 r.authentic_data in
    let bit_cd = weighed_is 16 r.checking_disabled in
    let id = to_be_bytes w16 r.id in
    let high = high_byte r.response r.opcode r.authoritative r.truncation r.recursion_desired in
    let low = low_byte r.recursion_available r.authentic_data r.checking_disabled r.code in
    let flags : List ℕ = high ∷ low ∷ [] in
    let queries = to_be_bytes w16 r.counts.queries in
    let answers = to_be_bytes w16 r.counts.answers in
    let authorities = to_be_bytes w16 r.counts.authorities in
    let additionals = to_be_bytes w16 r.counts.additionals in
    record {
      id = number16_stands r.id B i narrow.identifier
          (first_stands id (flags ++ queries ++ answers ++ authorities ++ additionals) B i s);
      high = high;
      high_stands = stands_byte xs B i 2 (lit< tt) s;
      response = bit_back r.response high 128 (omega arith);
      opcode = omega arith;
      authoritative = bit_back r.authoritative high 4 (omega arith);
      truncation = bit_back r.truncation high 2 (omega arith);
      recursion_desired = bit_back r.recursion_desired high 1 (omega arith);
      low = low;
      low_stands = stands_byte xs B i 3 (lit< tt) s;
      recursion_available = bit_back r.recursion_available low 128 (omega arith);
      authentic_data = bit_back r.authentic_data low 32 (omega arith);
      checking_disabled = bit_back r.checking_disabled low 16 (omega arith);
      code = omega arith;
      queries =
          number16_stands r.counts.queries B (i + 4) narrow.queries
          (stands_part (id ++ flags) queries (answers ++ authorities ++ additionals) B i s);
      answers =
          number16_stands r.counts.answers B (i + 6) narrow.answers
          (stands_part (id ++ flags ++ queries) answers (authorities ++ additionals) B i s);
      authorities =
          number16_stands r.counts.authorities B (i + 8) narrow.authorities
          (stands_part (id ++ flags ++ queries ++ answers) authorities additionals B i s);
      additionals =
          number16_stands r.counts.additionals B (i + 10) narrow.additionals
          (stands_part (id ++ flags ++ queries ++ answers ++ authorities) additionals [] B i s);
    }

-- where the bytes of a header stand, its word does
pub header_stands : (h : Header) (B : List ℕ) (i : ℕ) → IsNarrow h.metadata.id h.counts
    → Stands (header_bytes (raw_header h)) B i → HeaderWord h B i (i + 12)
header_stands h B i narrow s =
    (raw_stands (raw_header h) B i narrow (omega arith) (omega arith) s, refl)

-- the law of what is written of a header (RFC 1035, 4.1.1)
pub header_says : (h : Header)
    → Says (just (header_bytes (raw_header h))) (IsNarrow h.metadata.id h.counts)
    (HeaderWord h) 12 []
header_says h =
    Says-just (IsNarrow h.metadata.id h.counts) (HeaderWord h) 12 (header_bytes (raw_header h))
    (omega arith) (λ narrow B at small stands. header_stands h B at narrow stands)
