-- Mail exchangers (RFC 1035, 3.3.9).
use Rattle.std.specs.Prelude.{ℕ, List, Ok, ◌+◌, ◌++◌, codes, [], ◌∷◌, ◌≡◌, true, ◌<◌, ◌^◌, Option, Some, None}
use Rattle.std.specs.Int.{w16, to_be_bytes}
use Rattle.base.specs.reading.Names.{name_at}
use Rattle.base.specs.reading.Reading.{Read, number_at, ◌>>=◌}
use Rattle.base.specs.names.Labels.{AreNameLabels, NameValue, plain_len}
use Rattle.base.specs.texts.NameText.{name_text}
use Rattle.base.specs.Words.{NameAt, Number, Then}
use Rattle.std.specs.Fmt.{decimal}
use Rattle.base_data.specs.declared.rdata.mx.MX.{MX}
use Rattle.base_data.specs.Fields.{number_item, name_item, ◌>>?◌}
use Rattle.base_data.specs.Kind.{HasText, Kind, bare}
use Rattle.base.specs.writing.SaysName.{Says-name}
use Rattle.base.specs.writing.SaysParts.{Says-both, Says-number, Says-unowned}
use Rattle.base_data.specs.NameData.{name_octets}
use Rattle.base.specs.writing.Written.{both, just, name}

-- the data at a place
unfoldable pub mx_at : List ℕ → ℕ → Read MX
mx_at bytes i = do
  preference ← number_at w16 bytes i
  exchange ← name_at bytes preference.1
  Ok (record { preference = preference.0; exchange = exchange.0 }, exchange.1)

-- the data that two items name
unfoldable pub mx_of : List (List ℕ) → Option NameValue → Option MX
mx_of (preference ∷ exchange ∷ []) origin =
    number_item 16 preference >>? λ p. name_item exchange origin >>? λ e.
    Some (record { preference = p; exchange = e })
mx_of _ origin = None

-- the word that the fields are written as, one after another
abbrev pub MXWord : MX → List ℕ → ℕ → ℕ → Type 0
MXWord x = Then (Number w16 x.preference) (NameAt x.exchange.labels)

-- how many bytes the fields are, names without compression
abbrev pub plain_mx : MX → ℕ
plain_mx x = 2 + (plain_len x.exchange.labels)

-- the fields, with a space between each two
abbrev pub mx_text : MX → List ℕ
mx_text x = decimal x.preference ++ (codes " " ++ (name_text x.exchange))

-- the exchange begins after the preference, a number of two bytes (RFC 1035, 3.3.9)
abbrev pub mx_places : List ℕ → ℕ → List ℕ
mx_places bytes i = (i + 2) ∷ []

-- the kind MX
abbrev pub mx_kind : MX → Kind
mx_kind x = record {
  word = MXWord x;
  plain = plain_mx x;
  written = both (just (to_be_bytes w16 x.preference)) (name x.exchange.labels);
  kept = (x.preference < 2 ^ 16) × AreNameLabels x.exchange.labels;
  says = Says-both (just (to_be_bytes w16 x.preference)) (name x.exchange.labels)
      (Says-number x.preference)
      (Says-unowned (name x.exchange.labels) (Says-name x.exchange.labels));
  readable = x.exchange.absolute ≡ true;
  text = mx_text x;
  canonical = to_be_bytes w16 x.preference ++ name_octets x.exchange;
  held = x.exchange ∷ [];
  places = mx_places;
  items = Some (decimal x.preference ∷ name_text x.exchange ∷ []);
  shown = bare;
  spelled = (x.preference < 2 ^ 16) × HasText x.exchange;
}
