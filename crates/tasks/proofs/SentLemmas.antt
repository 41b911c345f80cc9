-- What is written of a message, as TC of its header says: all of it, or a part.
use Rattle.std.proofs.Common.{Bool, Err, List, Ok, [], ap, false, inl, inr, refl, sym, true, ℕ, ◌∷◌, ◌≡◌, ◌⊎◌}
use Rattle.std.proofs.Common.{◌∙◌}
use Rattle.std.specs.Prelude.{Option, None, Some, if◌then◌else◌, ◌||◌}
use Rattle.base.specs.ProtoError.{proto_number}
use Rattle.base.specs.reading.Reading.{Read}
use Rattle.base.specs.declared.error.proto_error.ProtoError.{ProtoError}
use Rattle.base.specs.declared.error.proto_error.ProtoError.TheVariants as refusals
use Rattle.base.specs.declared.record_type.RecordType.{RecordType}
use Rattle.op.proofs.reading.HeaderReading.{reads_word}
use Rattle.op.specs.Cut.{IsWritten, any_lost}
use Rattle.op.specs.Header.{IsHeaderAt, header_at}
use Rattle.op.specs.Message.{MessageValue, high_code}
use Rattle.op.specs.MessageWritten.{message_answer}
use Rattle.op.specs.declared.edns.Edns.{Edns}
use Rattle.op.specs.declared.header.Header.{Header}
use Rattle.op.specs.declared.header.metadata.Metadata.{Metadata}
use Rattle.op_use.specs.SoundSet.{is_supported_type}
use Rattle.tasks.specs.Asked.{Asked, written}
use Rattle.tasks.specs.Update.{IsCutShort, IsSent, IsWhole, of_type}
use Rattle.tasks.specs.Update.IsSent.{unwritten}

-- what isn't written of a message is refused with that number, or memory ran out
pub unsent : (m : MessageValue) (e : ProtoError) → (e ≡ refusals.Memory) ⊎ (message_answer 65535 m ≡ Err e)
    → IsSent (Ok m) (Err (proto_number e)) ⊎ (◌≡◌ {A = Asked (List ℕ)} (Err (proto_number e)) (Err 3))
unsent m e (inl memory) = inr (ap (λ x. Err (proto_number x)) memory)
unsent m e (inr is) = inl (unwritten refl (ap written is))

-- ---- types

-- a type that may be changed is the one that was asked about
pub of_type_is : (type found : RecordType) → of_type type ≡ Ok found → found ≡ type
of_type_is type found is = go (is_supported_type type) is where
  go : (b : Bool) → ◌≡◌ {A = Asked RecordType} (if b then Ok type else Err 29) (Ok found) → found ≡ type
  go true same = cc
  go false same = absurd cc

-- ---- flags

neither : (a b : Bool) → (a || b) ≡ false → (a ≡ false) × (b ≡ false)
neither true b h = absurd cc
neither false b h = (refl, h)

none_lost : {X : Type 0} (xs : List X) → any_lost xs ≡ false → xs ≡ []
none_lost [] h = refl
none_lost (x ∷ xs) h = cc

-- EDNS says nothing of TC
high_flag : (edns : Option Edns) (d : Metadata) → (high_code edns d).truncation ≡ d.truncation
high_flag None d = refl
high_flag (Some edns) d = refl

one_header : (B : List ℕ) (h other : Header) → IsHeaderAt B 0 h → IsHeaderAt B 0 other → h ≡ other
one_header B h other stands again =
    let is : header_at B 0 ≡ Ok (h, 12) = (reads_word B 0 h 12).1 (stands, refl) in
    let same : header_at B 0 ≡ Ok (other, 12) = (reads_word B 0 other 12).1 (again, refl) in
    ap found (sym is ∙ same) where
      found : Read Header → Header
      found (Ok r) = r.0
      found (Err e) = h

module _ (m : MessageValue) (B : List ℕ) (exact : message_answer 65535 m ≡ Ok B) (w : IsWritten m 65535 B) (h : Header)
    (stands : IsHeaderAt B 0 h) where
  flag : w.message.metadata.truncation ≡ h.metadata.truncation
  flag = ap (λ (n : MessageValue). n.metadata.truncation) w.is_cut.word.message
      ∙ high_flag _ w.is_cut.word.header.metadata
      ∙ ap (λ (x : Header). x.metadata.truncation)
      (one_header B w.is_cut.word.header h w.is_cut.word.header_stands stands)

  pub all_written : h.metadata.truncation ≡ false → IsWhole m B
  all_written clear =
      let k = w.is_cut in
      let a = neither m.metadata.truncation _ (sym (ap (λ (d : Metadata). d.truncation) k.metadata) ∙ flag ∙ clear) in
      let b = neither (any_lost k.answers.lost) _ a.1 in
      let c = neither (any_lost k.authorities.lost) _ b.1 in
      let d = neither (any_lost k.additionals.lost) _ c.1 in
      let e = neither (any_lost k.edns.lost) _ d.1 in
      record {
        exact = exact;
        message = w.message;
        is_cut = k;
        uncut = (none_lost _ b.0, none_lost _ c.0, none_lost _ d.0, none_lost _ e.0, none_lost _ e.1);
        read = w.read;
      }

  pub part_written : h.metadata.truncation ≡ true → IsCutShort m
  part_written set =
      record { bytes = B; written = exact; message = w.message; end = _; stands = w.is_cut.word; short = flag ∙ set }
