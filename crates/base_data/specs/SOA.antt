-- The SOA of a zone (RFC 1035, 3.3.13).
use Rattle.std.specs.Prelude.{ℕ, List, Ok, ◌+◌, ◌^◌, ◌<◌, ◌++◌, codes, [], ◌∷◌, ◌≡◌, true, Option, Some, None}
use Rattle.std.proofs.Common.{arith}
use Rattle.std.specs.Int.{w32, to_be_bytes}
use Rattle.base.specs.reading.Names.{name_at}
use Rattle.base.specs.reading.Reading.{Read, place_after, number_at, ◌>>=◌}
use Rattle.base.specs.names.Labels.{AreNameLabels, NameValue, plain_len}
use Rattle.base.specs.texts.NameText.{name_text}
use Rattle.base.specs.Words.{NameAt, Number, Then}
use Rattle.std.specs.Fmt.{decimal}
use Rattle.base_data.specs.declared.rdata.soa.SOA.{SOA}
use Rattle.base.specs.texts.Ttl.{ttl_of}
use Rattle.base_data.specs.Fields.{number_item, name_item, ◌>>?◌}
use Rattle.base_data.specs.Kind.{HasText, Kind, bare}
use Rattle.base.specs.writing.SaysName.{Says-name}
use Rattle.base.specs.writing.Says.{Says}
use Rattle.base.specs.writing.SaysParts.{Says-both, Says-number32, Says-unowned, Says-weaker}
use Rattle.base_data.specs.NameData.{name_octets}
use Rattle.base.specs.writing.Written.{both, just, name}

-- the data at a place
unfoldable pub soa_at : List ℕ → ℕ → Read SOA
soa_at bytes i = do
  mname ← name_at bytes i
  rname ← name_at bytes mname.1
  serial ← number_at w32 bytes rname.1
  refresh ← number_at w32 bytes serial.1
  retry ← number_at w32 bytes refresh.1
  expire ← number_at w32 bytes retry.1
  minimum ← number_at w32 bytes expire.1
  Ok (
    record {
      mname = mname.0;
      rname = rname.0;
      serial = serial.0;
      refresh = refresh.0;
      retry = retry.0;
      expire = expire.0;
      minimum = minimum.0;
    },
    minimum.1,
  )

-- the data that seven items name: two names, a decimal version and four times, which may have units
unfoldable pub soa_of : List (List ℕ) → Option NameValue → Option SOA
soa_of (mname ∷ rname ∷ serial ∷ refresh ∷ retry ∷ expire ∷ minimum ∷ []) origin =
    name_item mname origin >>? λ m. name_item rname origin >>? λ r.
    number_item 32 serial >>? λ s. ttl_of refresh >>? λ f. ttl_of retry >>? λ t.
    ttl_of expire >>? λ e. ttl_of minimum >>? λ n.
    Some (record {
      mname = m;
      rname = r;
      serial = s;
      refresh = f;
      retry = t;
      expire = e;
      minimum = n;
    })
soa_of _ origin = None

-- each number takes four bytes
pub record SOAFits (x : SOA) : Type 0 where
  pub serial : x.serial < 2 ^ 32
  pub refresh : x.refresh < 2 ^ 32
  pub retry : x.retry < 2 ^ 32
  pub expire : x.expire < 2 ^ 32
  pub minimum : x.minimum < 2 ^ 32

-- the version and the times as they are written, one after another
abbrev pub soa_numbers : SOA → List ℕ
soa_numbers x = to_be_bytes w32 x.serial
    ++ (to_be_bytes w32 x.refresh
    ++ (to_be_bytes w32 x.retry ++ (to_be_bytes w32 x.expire ++ to_be_bytes w32 x.minimum)))

-- the word that they are
abbrev pub SOANumbers : SOA → List ℕ → ℕ → ℕ → Type 0
SOANumbers x =
    Then (Number w32 x.serial)
    (Then (Number w32 x.refresh)
    (Then (Number w32 x.retry) (Then (Number w32 x.expire) (Number w32 x.minimum))))

-- the word that the fields are written as, one after another
abbrev pub SOAWord : SOA → List ℕ → ℕ → ℕ → Type 0
SOAWord x = Then (NameAt x.mname.labels) (Then (NameAt x.rname.labels) (SOANumbers x))

-- how many bytes the fields are, names without compression
abbrev pub plain_soa : SOA → ℕ
plain_soa x = plain_len x.mname.labels + (plain_len x.rname.labels + 20)

-- the fields, with a space between each two
abbrev pub soa_text : SOA → List ℕ
soa_text x = name_text x.mname ++
    (codes " " ++ (name_text x.rname ++
    (codes " "
    ++ (decimal x.serial
    ++ (codes " "
    ++ (decimal x.refresh
    ++ (codes " "
    ++ (decimal x.retry
    ++ (codes " " ++ (decimal x.expire ++ (codes " " ++ (decimal x.minimum))))))))))))

-- the bytes of the numbers are the numbers
pub soa_numbers_say : (x : SOA) → Says (just (soa_numbers x)) (SOAFits x) (SOANumbers x) 20 []
soa_numbers_say x =
    let number = λ (n : ℕ). just (to_be_bytes w32 n) in
    let last = both (number x.expire) (number x.minimum) in
    let times = both (number x.retry) last in
    Says-weaker (just (soa_numbers x)) (SOAFits x)
    (λ fits. (fits.serial, (fits.refresh, (fits.retry, (fits.expire, fits.minimum)))))
    (λ fits B i e word. word) (omega arith)
    (Says-both (number x.serial) (both (number x.refresh) times) (Says-number32 x.serial)
    (Says-both (number x.refresh) times (Says-number32 x.refresh)
    (Says-both (number x.retry) last (Says-number32 x.retry)
    (Says-both (number x.expire) (number x.minimum) (Says-number32 x.expire)
    (Says-number32 x.minimum)))))

-- its first name stands at its place, and the second one after that (RFC 1035, 3.3.13)
abbrev pub soa_places : List ℕ → ℕ → List ℕ
soa_places bytes i = i ∷ place_after (name_at bytes i) ∷ []

-- the kind SOA
abbrev pub soa_kind : SOA → Kind
soa_kind x = record {
  word = SOAWord x;
  plain = plain_soa x;
  written = both (name x.mname.labels) (both (name x.rname.labels) (just (soa_numbers x)));
  kept = AreNameLabels x.mname.labels × (AreNameLabels x.rname.labels × SOAFits x);
  says = Says-both (name x.mname.labels) (both (name x.rname.labels) (just (soa_numbers x)))
      (Says-unowned (name x.mname.labels) (Says-name x.mname.labels))
      (Says-both (name x.rname.labels) (just (soa_numbers x))
      (Says-unowned (name x.rname.labels) (Says-name x.rname.labels))
      (soa_numbers_say x));
  readable = (x.mname.absolute ≡ true) × (x.rname.absolute ≡ true);
  text = soa_text x;
  canonical = name_octets x.mname ++ name_octets x.rname ++ to_be_bytes w32 x.serial
      ++ to_be_bytes w32 x.refresh ++ to_be_bytes w32 x.retry
      ++ to_be_bytes w32 x.expire ++ to_be_bytes w32 x.minimum;
  held = x.mname ∷ x.rname ∷ [];
  places = soa_places;
  items = Some
      (name_text x.mname ∷ name_text x.rname ∷ decimal x.serial ∷ decimal x.refresh
      ∷ decimal x.retry
      ∷ decimal x.expire ∷ decimal x.minimum ∷ []);
  shown = bare;
  spelled = HasText x.mname × HasText x.rname × SOAFits x;
}
