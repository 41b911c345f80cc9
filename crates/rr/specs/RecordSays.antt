-- What is known of what is written of a record.
use Rattle.std.proofs.Common.{◌≡◌, ℕ, ◌+◌, ◌^◌, ◌<◌, List, [], sym, subst, arith}
use Rattle.std.specs.Int.{w16, w32, to_be_bytes}
use Rattle.base.specs.names.Labels.{AreNameLabels}
use Rattle.base.specs.writing.Says.{Says}
use Rattle.base.specs.writing.SaysName.{Says-name}
use Rattle.base.specs.writing.SaysParts.{Says-both, Says-number, Says-number32, Says-sized, Says-unowned, Says-weaker}
use Rattle.base.specs.Words.{IsNumberAt, NameAt, Number, Sized, Then}
use Rattle.base.specs.writing.Written.{Writing, both, just, name, sized}
use Rattle.base_data.specs.Kinds.{DataWord, KeptData, data_written, plain_data}
use Rattle.base_data.specs.declared.rdata.RData.{RData}
use Rattle.rr.specs.Record.{RecordWord, plain_record, raw_record, record_written}
use Rattle.rr.specs.declared.record.Record.{Record}

-- type, class and TTL have their widths
pub record FieldsFit (type class ttl : ℕ) : Type 0 where
  pub type_fits : type < 2 ^ 16
  pub class_fits : class < 2 ^ 16
  pub ttl_fits : ttl < 2 ^ 32

-- what the types keep of a record, and of its data
abbrev pub RecordKept : Record RData → Type 0 → Type 0
RecordKept r kept = let raw = raw_record r in AreNameLabels raw.labels
    × (FieldsFit raw.type raw.class raw.ttl × kept)

-- the same, of data of any kind
abbrev pub KeptRecord : Record RData → Type 0
KeptRecord r = RecordKept r (KeptData r.rdata)

-- what stands one after another are the fields of a record
record_word : (r : Record RData) (B : List ℕ) (i e : ℕ) → let raw = raw_record r
    in Then (NameAt raw.labels) (Then (Then (Number w16 raw.type)
    (Then (Number w16 raw.class) (Number w32 raw.ttl))) (Sized (DataWord raw.rdata))) B i e
    → RecordWord r B i e
record_word r B i e
    (m, owner, (n, (t, (type, t_is), (c, (class, c_is), (ttl, n_is))), (len, fills, sized, rdata))) =
    let after_class : c ≡ m + 4 = omega arith in
    let after_ttl : n ≡ m + 8 = omega arith in
    let after_len : n + 2 ≡ m + 10 = omega arith in
    record {
      owner_end = m;
      owner = owner;
      type_stands = type;
      class_stands = subst (λ k. IsNumberAt w16 B k (raw_record r).class) t_is class;
      ttl_stands = subst (λ k. IsNumberAt w32 B k r.ttl) after_class ttl;
      len = len;
      len_stands = subst (λ k. IsNumberAt w16 B k len) after_ttl sized;
      rdata_stands = subst (λ k. DataWord r.rdata B k e) after_len rdata;
      fills = omega arith;
    }

-- where what is written of a record stands, the record stands
pub record_says : {kept : Type 0} (r : Record RData)
    → Says (data_written r.rdata) kept (DataWord r.rdata) (plain_data r.rdata) []
    → Says (record_written r) (RecordKept r kept) (RecordWord r) (plain_record r) r.name.labels
record_says {kept} r says =
    let raw = raw_record r in
    let type = just (to_be_bytes w16 raw.type) in
    let class = just (to_be_bytes w16 raw.class) in
    let ttl = just (to_be_bytes w32 raw.ttl) in
    let rdata = sized (data_written raw.rdata) in
    let fields_say = Says-both type (both class ttl) (Says-number raw.type)
    (Says-both class ttl (Says-number raw.class) (Says-number32 raw.ttl)) in
    Says-weaker (record_written r) (RecordKept r kept)
    (λ ok. let fits = ok.1.0 in (ok.0, ((fits.type_fits, (fits.class_fits, fits.ttl_fits)), ok.1.1)))
    (λ ok. record_word r) (omega arith)
    (Says-both (name raw.labels) (both (both type (both class ttl)) rdata) (Says-name raw.labels)
    (Says-both (both type (both class ttl)) rdata fields_say (Says-sized (data_written raw.rdata) says)))

-- what is known of data of one kind, as that of any
pub any_says : {fits : Type 0} {word : List ℕ → ℕ → ℕ → Type 0} {plain : ℕ} {owner : List (List ℕ)}
    (d : RData) (f : Writing) → data_written d ≡ f
    → ((B : List ℕ) (i e : ℕ) → word B i e → DataWord d B i e) → plain_data d ≡ plain
    → Says f fits word plain owner → Says (data_written d) fits (DataWord d) (plain_data d) []
any_says {fits} d f same follows len says =
    subst (λ (g : Writing). Says g fits (DataWord d) (plain_data d) []) (sym same)
    (Says-unowned f (Says-weaker f fits (λ ok. ok) (λ ok. follows) (omega (arith, len)) says))
