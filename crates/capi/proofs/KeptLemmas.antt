-- The place of a zone transfer, found as it is kept.
use Rattle.std.proofs.Common.{List, Ok, ap, arith, length, length-append, refl, subst, take, ℕ, ◌++◌, ◌+◌, ◌∙◌}
use Rattle.std.proofs.Common.{◌≡◌, ◌≤◌}
use Rattle.std.proofs.lemmas.List.{take-append-le, take_all}
use Rattle.std.specs.Prelude.{Bool, false, not, true, ◌==◌}
use mir.Val.{bool_byte}
use Rattle.authority.specs.declared.transferring.TransferPlace.TheVariants as places
use Rattle.base.proofs.reading.ReadingLemmas.{name_again}
use Rattle.base.specs.RrKey.{key_of}
use Rattle.base.specs.Words.{Stands}
use Rattle.base.specs.declared.limits.TheConstants.{MAX_NAME}
use Rattle.base.specs.declared.record_type.RecordType.{RecordType}
use Rattle.base.specs.declared.rr_key.RrKey.{RrKey}
use Rattle.base.specs.names.Labels.{AreLabels, NameValue, plain_len}
use Rattle.base.specs.names.NameOrder.{folded}
use Rattle.base.specs.reading.Names.{name_at}
use Rattle.base.specs.reading.PointerLemmas.{labels_stand}
use Rattle.base.specs.reading.Spelling.{Spelled}
use Rattle.tasks.specs.Asked.{Asked, ◌>>=◌}
use Rattle.capi.specs.KeptPlace.{key_kept, key_read, type_by}
use Rattle.capi.specs.WalkWhole.{octets_of}
use Rattle.capi.specs.declared.zone_handle.place.KeptPlace.{KeptPlace}

-- bytes at the front of others are found there
front_of : (xs more rest : List ℕ) → take (length xs) ((xs ++ more) ++ rest) ≡ xs
front_of xs more rest =
    take-append-le (length xs) (xs ++ more) rest (omega (arith, length-append xs more))
    ∙ take-append-le (length xs) xs more (omega arith) ∙ take_all (length xs) xs (omega arith)

-- a name is read from its wire form
name_is_read : (n : NameValue) → AreLabels n.labels → plain_len n.labels ≤ MAX_NAME
    → name_at (octets_of n) 0 ≡ Ok (record { labels = n.labels; absolute = true }, plain_len n.labels)
name_is_read n are short =
    let stands : Stands (octets_of n) (octets_of n) 0 =
    record { is = take_all (length (octets_of n)) (octets_of n) (omega arith) } in
    let end : 0 + plain_len n.labels ≡ plain_len n.labels = omega arith in
    name_again (octets_of n) 0 (record { labels = n.labels; absolute = true }) (plain_len n.labels)
    (record {
      spelled = subst (λ e. Spelled (octets_of n) n.labels 0 0 e) end
          (labels_stand (octets_of n) n.labels 0 0 are stands);
      short = short;
      absolute = refl;
    })

-- a bit is found in its byte
pub bit_again : (b : Bool) → not (bool_byte b == 0) ≡ b
bit_again true = refl
bit_again false = refl

-- a key is found as it is kept, and the place at a record under it
module _ (key : RrKey) (index number unknown absolute len : ℕ) (room : List ℕ)
    (lower : folded key.name ≡ key.name.labels) (type : type_by unknown number ≡ key.record_type) where
  abbrev made : NameValue → RecordType → Asked RrKey
  made name type = Ok (key_of name type)

  abbrev with_labels : List (List ℕ) → Asked RrKey
  with_labels labels = Ok (record {
    name = record { labels = labels; absolute = key.name.absolute };
    record_type = key.record_type;
  })

  key_again : (more rest : List ℕ) → AreLabels key.name.labels → plain_len key.name.labels ≤ MAX_NAME
      → len ≡ length (octets_of key.name) → room ≡ octets_of key.name ++ more → not (absolute == 0) ≡ key.name.absolute
      → key_kept (record {
        index = index;
        record_type = number;
        kind = 1;
        is_unknown = unknown;
        is_absolute = absolute;
        name_len = len;
        name = room ++ rest;
      }) ≡ Ok key
  key_again more rest are short lens put bit =
      ap (λ n. key_read kept (name_at (take n (room ++ rest)) 0)) lens
      ∙ ap (λ (r : List ℕ). key_read kept (name_at (take (length (octets_of key.name)) (r ++ rest)) 0)) put
      ∙ ap (λ (w : List ℕ). key_read kept (name_at w 0)) (front_of (octets_of key.name) more rest)
      ∙ ap (key_read kept) (name_is_read key.name are short)
      ∙ ap (λ (b : Bool). made (record { labels = key.name.labels; absolute = b }) (type_by unknown number)) bit
      ∙ ap (made key.name) type ∙ ap with_labels lower where
        kept : KeptPlace
        kept = record {
          index = index;
          record_type = number;
          kind = 1;
          is_unknown = unknown;
          is_absolute = absolute;
          name_len = len;
          name = room ++ rest;
        }

  pub place_again : (more rest : List ℕ) (owner : NameValue) → owner ≡ key.name → AreLabels owner.labels
      → plain_len owner.labels ≤ MAX_NAME → len ≡ length (octets_of owner) → room ≡ octets_of owner ++ more
      → not (absolute == 0) ≡ owner.absolute
      → (key_kept (record {
        index = index;
        record_type = number;
        kind = 1;
        is_unknown = unknown;
        is_absolute = absolute;
        name_len = len;
        name = room ++ rest;
      }) >>= (λ k. Ok (places.Records k index))) ≡ Ok (places.Records key index)
  place_again more rest owner same are short lens put bit =
      ap (λ (found : Asked RrKey). found >>= (λ k. Ok (places.Records k index)))
      (key_again more rest (subst (λ o. AreLabels o.labels) same are)
      (subst (λ o. plain_len o.labels ≤ MAX_NAME) same short)
      (subst (λ o. len ≡ length (octets_of o)) same lens) (subst (λ o. room ≡ octets_of o ++ more) same put)
      (bit ∙ ap (λ (o : NameValue). o.absolute) same))
