-- Reading a record, step by step.
use Rattle.std.proofs.Common.{◌≡◌, ℕ, ◌+◌, ◌-◌, ◌≤◌, ◌==◌, Bool, true, false, cond, not, ◌&&◌, List, [], length, refl}
use Rattle.std.proofs.Common.{ap, sym, ◌∙◌, subst, arith, Result, Ok, Err}
use Rattle.std.proofs.lemmas.Bool.{eq-eqb, le-ltb}
use Rattle.std.specs.Prelude.{nat_lt, if◌then◌else◌}
use Rattle.std.specs.Int.{w16, w32}
use Rattle.base.specs.names.Labels.{NameValue}
use Rattle.base.specs.reading.Names.{name_at}
use Rattle.base.specs.reading.Reading.{Fails, Read, Reads, ◌>>=◌, number_at}
use Rattle.base.specs.reading.Reader.{Reader}
use Rattle.base.specs.RecordType.{type_of}
use Rattle.base.specs.declared.dns_class.DNSClass.{DNSClass}
use Rattle.base.specs.declared.error.decode_error.DecodeError.{DecodeError}
use Rattle.base.specs.declared.error.decode_error.DecodeError.TheVariants as faults
use Rattle.base.specs.declared.record_type.RecordType.{RecordType}
use Rattle.base.specs.Words.{IsNumberAt}
use Rattle.base.proofs.reading.ReadLemmas.{Fails-through, number_again}
use Rattle.base_data.proofs.Tells.{same_ok}
use Rattle.base_data.specs.RData.{rdata_at}
use Rattle.base_data.specs.declared.rdata.RData.{RData}
use Rattle.rr.specs.Record.{body_at, class_value, flush_value, is_opt_type, record_at}
use Rattle.rr.specs.declared.record.Record.{Record}

-- ---- what comes after the type, over one buffer

-- what is computed of the bytes that a decoder holds and of its place
pub placed : {A : Type 0} {again B : List ℕ} {k i : ℕ} → again ≡ B → k ≡ i → (f : List ℕ → ℕ → A) → f again k ≡ f B i
placed same there f = rw (same, there) refl

-- a clause over them is one over the buffer and the place there
pub over_both : {again B : List ℕ} {k i : ℕ} → again ≡ B → k ≡ i → (P : List ℕ → ℕ → Type 0) → P again k → P B i
over_both {again} {B} {k} {i} same there P holds = subst (P B) there (subst (λ (bytes : List ℕ). P bytes k) same holds)

module _ (owner : NameValue) (type : RecordType) (B : List ℕ) (i : ℕ) {class ttl len : ℕ}
    (class_stands : IsNumberAt w16 B i class) (ttl_stands : IsNumberAt w32 B (i + 2) ttl)
    (len_stands : IsNumberAt w16 B (i + 6) len) where
  class_is : number_at w16 B i ≡ Ok (class, i + 2)
  class_is = number_again w16 B i class class_stands

  ttl_is : number_at w32 B (i + 2) ≡ Ok (ttl, i + 2 + 4)
  ttl_is = number_again w32 B (i + 2) ttl ttl_stands

  at_len : i + 2 + 4 ≡ i + 6
  at_len = omega arith

  len_is : number_at w16 B (i + 6) ≡ Ok (len, i + 6 + 2)
  len_is = number_again w16 B (i + 6) len len_stands

  at_data : i + 6 + 2 ≡ i + 8
  at_data = omega arith

  -- the data has room where as many bytes are left
  pub room : {left asked : ℕ} → left ≡ length B - (i + 8) → asked ≡ len → asked ≤ left
      → nat_lt (length B) (i + 8 + len) ≡ false
  room left_is asked_is fits = le-ltb (length B) (i + 8 + len)
      (omega (arith, fits, left_is, asked_is, len_stands.inside))

  pub data_fails : nat_lt (length B) (i + 8 + len) ≡ false → (f : DecodeError) → Fails f (rdata_at type len B (i + 8))
      → Fails f (body_at owner type B i)
  unfolding body_at
  data_fails fits f fails = Fails-through f (rdata_at type len B (i + 8)) (body_at owner type B i)
      (λ no. rw (class_is, ttl_is, at_len, len_is, at_data, fits, no) refl) fails

  pub body_read : {rdata : RData} {end : ℕ} {dns_class : DNSClass} {flush : Bool}
      → nat_lt (length B) (i + 8 + len) ≡ false → rdata_at type len B (i + 8) ≡ Ok (rdata, end)
      → dns_class ≡ class_value type class → flush ≡ flush_value type class
      → body_at owner type B i ≡ Ok (
        record {
          name = owner;
          dns_class = dns_class;
          ttl = ttl;
          rdata =
              rdata;
          mdns_cache_flush = flush;
        },
        end,
      )
  unfolding body_at
  body_read fits rdata_is dns_class_is flush_is =
      rw (class_is, ttl_is, at_len, len_is, at_data, fits, rdata_is, dns_class_is, flush_is) refl

-- ---- the record

-- a number as a type
abbrev pub typed : ℕ × ℕ → Read RecordType
typed n = Ok (type_of n.0, n.1)

-- the type at a place
abbrev pub type_at : List ℕ → ℕ → Read RecordType
type_at bytes i = number_at w16 bytes i >>= typed

-- what goes on with the type that was read, or fails with it
type_then : {X : Type 0} (r : Read ℕ) (g : RecordType → ℕ → Result X DecodeError) (type : RecordType) (e : ℕ)
    → (r >>= typed) ≡ Ok (type, e) → (r >>= λ n. g (type_of n.0) n.1) ≡ g type e
type_then (Ok n) g type e is = ap (λ (x : RecordType × ℕ). g x.0 x.1) (same_ok (type_of n.0, n.1) (type, e) is)
type_then (Err f) g type e is = cc

type_none : {X : Type 0} (r : Read ℕ) (g : RecordType → ℕ → Result X DecodeError) (f : DecodeError)
    → (r >>= typed) ≡ Err f → (r >>= λ n. g (type_of n.0) n.1) ≡ Err f
type_none (Ok n) g f is = cc
type_none (Err e) g f is = cc

type_same : (again B : List ℕ) (i : ℕ) (r : Read RecordType) → again ≡ B → type_at again i ≡ r → type_at B i ≡ r
type_same again B i r same is = subst (λ (bytes : List ℕ). type_at bytes i ≡ r) same is

-- what follows owner and type
abbrev after_type : List ℕ → NameValue → RecordType → ℕ → Read (Record RData)
after_type B owner type e = if is_opt_type type && not (length owner.labels == 0)
    then Err (faults.EdnsNameNotRoot owner) else body_at owner type B e

pub name_fails : (B : List ℕ) (i : ℕ) (f : DecodeError) → Fails f (name_at B i) → Fails f (record_at B i)
unfolding record_at
name_fails B i f fails = Fails-through f (name_at B i) (record_at B i) (λ no. rw no refl) fails

module _ (B : List ℕ) (i : ℕ) (owner : NameValue) (type_place : ℕ) (owner_is : name_at B i ≡ Ok (owner, type_place))
    (second : List ℕ) (same : second ≡ B) where
  pub type_fails : (f : DecodeError) → Fails f (type_at second type_place) → Fails f (record_at B i)
  unfolding record_at
  type_fails f fails = Fails-through f (type_at second type_place) (record_at B i)
      (λ no. rw owner_is (type_none (number_at w16 B type_place) (after_type B owner) f
      (type_same second B type_place (Err f) same no))) fails

  module _ (type : RecordType) (e : ℕ) (type_is : type_at second type_place ≡ Ok (type, e)) where
    head_is : record_at B i ≡ after_type B owner type e
    unfolding record_at
    head_is = rw owner_is (type_then (number_at w16 B type_place) (after_type B owner) type e
        (type_same second B type_place (Ok (type, e)) same type_is))

    pub wrong_owner : is_opt_type type ≡ true → (length owner.labels == 0) ≡ false
        → record_at B i ≡ Err (faults.EdnsNameNotRoot owner)
    wrong_owner opt labelled = head_is ∙ rw (opt, labelled) refl

    pub other_type : is_opt_type type ≡ false → body_at owner type B e ≡ record_at B i
    other_type other = sym (head_is ∙ rw other refl)

    pub root_owner : owner ≡ record { labels = []; absolute = true } → body_at owner type B e ≡ record_at B i
    root_owner root = sym (head_is ∙ goes (is_opt_type type) (length owner.labels == 0)
        (eq-eqb (length owner.labels) 0 (ap (λ (name : NameValue). length name.labels) root))) where
          goes : (opt none : Bool) → none ≡ true → cond (opt && not none) (Err (faults.EdnsNameNotRoot owner))
              (body_at owner type B e) ≡ body_at owner type B e
          goes true true is = refl
          goes false true is = refl
          goes opt false is = cc

    pub record_read : (old mid new : Reader) (r : Result (Record RData) DecodeError) → mid.bytes ≡ old.bytes
        → Reads (λ x. x) mid new r (body_at owner type B e) → body_at owner type B e ≡ record_at B i
        → Reads (λ x. x) old new r (record_at B i)
    record_read old mid new (Ok x) over read is = (sym is ∙ read.0, read.1 ∙ over)
    record_read old mid new (Err f) over read is = subst (Fails f) is read
