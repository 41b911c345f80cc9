-- Reading a header is the header word.
use Rattle.std.proofs.Common.{◌≡◌, ℕ, ◌+◌, ◌/◌, ◌%◌, ◌<◌, ◌≤◌, List, length, refl, ap, sym, ◌∙◌, subst, arith, Result}
use Rattle.std.proofs.Common.{Ok, Err}
use Rattle.std.specs.Int.{w16}
use Rattle.std.specs.Prelude.{◌↔◌}
use Rattle.base.specs.declared.error.decode_error.DecodeError.{DecodeError}
use Rattle.base.specs.declared.error.decode_error.DecodeError.TheVariants as faults
use Rattle.base.specs.reading.Reading.{Read, ◌>>=◌, byte_at, number_at}
use Rattle.base.specs.reading.Spelling.{ByteAt, anywhere}
use Rattle.base.specs.Words.{IsNumberAt}
use Rattle.base.proofs.reading.ReadLemmas.{bind_ok, bind_err, number_is, number_short, number_again, byte_is}
use Rattle.base.proofs.reading.ReadLemmas.{byte_short, byte_again, IsShort}
use Rattle.base_data.proofs.Tells.{same_ok}
use Rattle.op.specs.Header.{IsHeaderAt, RawHeader, header_at, header_value, metadata_of_bytes, bit_of}
use Rattle.op.specs.declared.header.Header.{Header}
use Rattle.op.specs.declared.header.header_counts.HeaderCounts.{HeaderCounts}

number_moved : (B : List ℕ) (i j n : ℕ) → i ≡ j → IsNumberAt w16 B i n → IsNumberAt w16 B j n
number_moved B i j n same s = subst (λ k. IsNumberAt w16 B k n) same s

byte_moved : (B : List ℕ) (i j b : ℕ) → i ≡ j → ByteAt anywhere B i b → ByteAt anywhere B j b
byte_moved B i j b same s = subst (λ k. ByteAt anywhere B k b) same s

abbrev raw_of : ℕ → ℕ → ℕ → HeaderCounts → RawHeader
raw_of id high low counts = record {
  id = id;
  response = bit_of 128 high;
  opcode = high / 8 % 16;
  authoritative = bit_of 4 high;
  truncation = bit_of 2 high;
  recursion_desired = bit_of 1 high;
  recursion_available = bit_of 128 low;
  authentic_data = bit_of 32 low;
  checking_disabled = bit_of 16 low;
  code = low % 16;
  counts = counts;
}

-- the header of fields that stand there
pub header_there : {B : List ℕ} {i id high low : ℕ} (counts : HeaderCounts) → IsNumberAt w16 B i id
    → ByteAt anywhere B (i + 2) high → ByteAt anywhere B (i + 3) low
    → IsNumberAt w16 B (i + 4) counts.queries → IsNumberAt w16 B (i + 6) counts.answers
    → IsNumberAt w16 B (i + 8) counts.authorities → IsNumberAt w16 B (i + 10) counts.additionals
    → IsHeaderAt B i (record { metadata = metadata_of_bytes id high low; counts = counts })
header_there {B} {i} {id} {high} {low} counts id_stands high_stands low_stands queries answers authorities additionals =
    record {
      raw = raw_of id high low counts;
      word = record {
        id = id_stands;
        high = high;
        high_stands = high_stands;
        response = refl;
        opcode = refl;
        authoritative = refl;
        truncation = refl;
        recursion_desired = refl;
        low = low;
        low_stands = low_stands;
        recursion_available = refl;
        authentic_data = refl;
        checking_disabled = refl;
        code = refl;
        queries = queries;
        answers = answers;
        authorities = authorities;
        additionals = additionals;
      };
      value = refl;
    }

-- a header that was read, and the place after it
record IsReadHeader (B : List ℕ) (i : ℕ) (r : Header × ℕ) : Type 0 where
  word : IsHeaderAt B i r.0
  after : r.1 ≡ i + 12

-- what follows of two values that were read, one with the other
pub read_then : {A B P : Type 0} (r : Result A DecodeError) (f : A → Result B DecodeError) (y : B) → (r >>= f) ≡ Ok y
    → ((x : A) → r ≡ Ok x → f x ≡ Ok y → P) → P
read_then r f y is next =
    let both = bind_ok r f y is in
    next both.value both.first both.second

header_is : (B : List ℕ) (i : ℕ) (r : Header × ℕ) → header_at B i ≡ Ok r → IsReadHeader B i r
unfolding header_at
header_is B i r is =
    read_then (number_at w16 B i) _ r is (λ id id_read is1.
    read_then (byte_at B id.1) _ r is1 (λ high high_read is2.
    read_then (byte_at B high.1) _ r is2 (λ low low_read is3.
    read_then (number_at w16 B low.1) _ r is3 (λ queries queries_read is4.
    read_then (number_at w16 B queries.1) _ r is4 (λ answers answers_read is5.
    read_then (number_at w16 B answers.1) _ r is5 (λ authorities authorities_read is6.
    read_then (number_at w16 B authorities.1) _ r is6 (λ additionals additionals_read is7.
    let id_is = number_is w16 B i id id_read in
    let high_is = byte_is B id.1 high high_read in
    let low_is = byte_is B high.1 low low_read in
    let queries_is = number_is w16 B low.1 queries queries_read in
    let answers_is = number_is w16 B queries.1 answers answers_read in
    let authorities_is = number_is w16 B answers.1 authorities authorities_read in
    let additionals_is = number_is w16 B authorities.1 additionals additionals_read in
    let p0 : id.1 ≡ i + 2 = id_is.after in
    let p1 : high.1 ≡ i + 3 = omega (arith, high_is.after) in
    let p2 : low.1 ≡ i + 4 = omega (arith, low_is.after) in
    let p3 : queries.1 ≡ i + 6 = omega (arith, queries_is.after) in
    let p4 : answers.1 ≡ i + 8 = omega (arith, answers_is.after) in
    let p5 : authorities.1 ≡ i + 10 = omega (arith, authorities_is.after) in
    let p6 : additionals.1 ≡ i + 12 = omega (arith, additionals_is.after) in
    let counts : HeaderCounts = record {
      queries = queries.0;
      answers = answers.0;
      authorities =
          authorities.0;
      additionals = additionals.0;
    } in
    let header : Header = record { metadata = metadata_of_bytes id.0 high.0 low.0; counts = counts } in
    let there : IsHeaderAt B i header = header_there counts id_is.stands
    (byte_moved B id.1 (i + 2) high.0 p0 high_is.stands)
    (byte_moved B high.1 (i + 3) low.0 p1 low_is.stands) (number_moved B low.1 (i + 4) queries.0 p2 queries_is.stands)
    (number_moved B queries.1 (i + 6) answers.0 p3 answers_is.stands)
    (number_moved B answers.1 (i + 8) authorities.0 p4 authorities_is.stands)
    (number_moved B authorities.1 (i + 10) additionals.0 p5 additionals_is.stands) in
    let same : (header, additionals.1) ≡ r = same_ok (header, additionals.1) r is7 in
    subst (IsReadHeader B i) same (record { word = there; after = p6 }))))))))

later : (B : List ℕ) (e e' : ℕ) (f : DecodeError) → e ≤ e' → IsShort B e f → IsShort B e' f
later B e e' f le s = record { fault = s.fault; short = omega (arith, s.short) }

-- the fault of a header is that of its first field that the buffer's end cuts
header_short : (B : List ℕ) (i : ℕ) (f : DecodeError) → header_at B i ≡ Err f → IsShort B (i + 12) f
unfolding header_at
header_short B i f is =
    bind_err (number_at w16 B i) _ f (IsShort B (i + 12) f) is
    (λ e. later B (i + 2) (i + 12) f (omega arith) (number_short w16 B i f e)) (λ id id_read is1.
    let id_is = number_is w16 B i id id_read in
    bind_err (byte_at B id.1) _ f (IsShort B (i + 12) f) is1
    (λ e. later B (id.1 + 1) (i + 12) f (omega (arith, id_is.after)) (byte_short B id.1 f e)) (λ high high_read is2.
    let high_is = byte_is B id.1 high high_read in
    bind_err (byte_at B high.1) _ f (IsShort B (i + 12) f) is2
    (λ e. later B (high.1 + 1) (i + 12) f (omega (arith, id_is.after, high_is.after)) (byte_short B high.1 f e))
    (λ low low_read is3.
    let low_is = byte_is B high.1 low low_read in
    bind_err (number_at w16 B low.1) _ f (IsShort B (i + 12) f) is3
    (λ e. later B (low.1 + 2) (i + 12) f (omega (arith, id_is.after, high_is.after, low_is.after))
    (number_short w16 B low.1 f e)) (λ queries queries_read is4.
    let queries_is = number_is w16 B low.1 queries queries_read in
    let p3 : queries.1 ≡ i + 6 = omega (arith, id_is.after, high_is.after, low_is.after, queries_is.after) in
    bind_err (number_at w16 B queries.1) _ f (IsShort B (i + 12) f) is4
    (λ e. later B (queries.1 + 2) (i + 12) f (omega (arith, p3)) (number_short w16 B queries.1 f e))
    (λ answers answers_read is5.
    let p4 : answers.1 ≡ queries.1 + 2 = (number_is w16 B queries.1 answers answers_read).after in
    bind_err (number_at w16 B answers.1) _ f (IsShort B (i + 12) f) is5
    (λ e. later B (answers.1 + 2) (i + 12) f (omega (arith, p3, p4)) (number_short w16 B answers.1 f e))
    (λ authorities authorities_read is6.
    let p5 : authorities.1 ≡ answers.1 + 2 = (number_is w16 B answers.1 authorities authorities_read).after in
    bind_err (number_at w16 B authorities.1) _ f (IsShort B (i + 12) f) is6
    (λ e. later B (authorities.1 + 2) (i + 12) f (omega (arith, p3, p4, p5)) (number_short w16 B authorities.1 f e))
    (λ additionals additionals_read is7. cc)))))))

-- reading at a place that is reckoned otherwise
number_next : (B : List ℕ) (i j n e : ℕ) → i ≡ j → e ≡ j + 2 → IsNumberAt w16 B j n → number_at w16 B i ≡ Ok (n, e)
number_next B i j n e same after s = ap (number_at w16 B) same ∙ number_again w16 B j n s
    ∙ ap (λ (k : ℕ). Ok (n, k)) (sym after)

byte_next : (B : List ℕ) (i j b e : ℕ) → i ≡ j → e ≡ j + 1 → ByteAt anywhere B j b → byte_at B i ≡ Ok (b, e)
byte_next B i j b e same after s = ap (byte_at B) same ∙ byte_again B j b s ∙ ap (λ (k : ℕ). Ok (b, k)) (sym after)

header_again : (B : List ℕ) (i : ℕ) (h : Header) → IsHeaderAt B i h → header_at B i ≡ Ok (h, i + 12)
unfolding header_at
header_again B i h s =
    let w = s.word in
    let r = s.raw in
    let c = r.counts in
    let id : number_at w16 B i ≡ Ok (r.id, i + 2) = number_next B i i r.id (i + 2) refl refl w.id in
    let high : byte_at B (i + 2) ≡ Ok (w.high, i + 3) =
    byte_next B (i + 2) (i + 2) w.high (i + 3) refl (omega arith) w.high_stands in
    let low : byte_at B (i + 3) ≡ Ok (w.low, i + 4) =
    byte_next B (i + 3) (i + 3) w.low (i + 4) refl (omega arith) w.low_stands in
    let queries : number_at w16 B (i + 4) ≡ Ok (c.queries, i + 6) =
    number_next B (i + 4) (i + 4) c.queries (i + 6) refl (omega arith) w.queries in
    let answers : number_at w16 B (i + 6) ≡ Ok (c.answers, i + 8) =
    number_next B (i + 6) (i + 6) c.answers (i + 8) refl (omega arith) w.answers in
    let authorities : number_at w16 B (i + 8) ≡ Ok (c.authorities, i + 10) =
    number_next B (i + 8) (i + 8) c.authorities (i + 10) refl (omega arith) w.authorities in
    let additionals : number_at w16 B (i + 10) ≡ Ok (c.additionals, i + 12) =
    number_next B (i + 10) (i + 10) c.additionals (i + 12) refl (omega arith) w.additionals in
    let value : header_value r ≡ record { metadata = metadata_of_bytes r.id w.high w.low; counts = c } =
    rw (
      w.response,
      w.opcode,
      w.authoritative,
      w.truncation,
      w.recursion_desired,
      w.recursion_available,
      w.authentic_data,
      w.checking_disabled,
      w.code,
    ) refl in
    rw (id, high, low, queries, answers, authorities, additionals, s.value, value) refl

pub reads_word : (B : List ℕ) (i : ℕ) (h : Header) (e : ℕ)
    → (header_at B i ≡ Ok (h, e)) ↔ (IsHeaderAt B i h × (e ≡ i + 12))
reads_word B i h e = (
  λ is. let r = header_is B i (h, e) is in (r.word, r.after),
  λ is. header_again B i h is.0 ∙ ap (λ (k : ℕ). Ok (h, k)) (sym is.1),
)

-- a header needs twelve bytes
header_inside : (B : List ℕ) (i : ℕ) (h : Header) → IsHeaderAt B i h → i + 12 ≤ length B
header_inside B i h s = omega (arith, s.word.additionals.inside)

fails : (B : List ℕ) (i : ℕ) (f : DecodeError) (r : Read Header) → header_at B i ≡ r
    → (f ≡ faults.InsufficientBytes) × (length B < i + 12) → header_at B i ≡ Err f
fails B i f (Ok x) is short = absurd (omega (arith, header_inside B i x.0 (header_is B i x is).word, short.1))
fails B i f (Err e) is short = is ∙ ap Err ((header_short B i e is).fault ∙ sym short.0)

pub faults_short : (B : List ℕ) (i : ℕ) (f : DecodeError)
    → (header_at B i ≡ Err f) ↔ ((f ≡ faults.InsufficientBytes) × (length B < i + 12))
faults_short B i f = (
  λ is. let r = header_short B i f is in (r.fault, r.short),
  λ is. fails B i f (header_at B i) refl is,
)
