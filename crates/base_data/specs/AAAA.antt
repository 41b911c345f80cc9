-- Addresses of sixteen bytes (RFC 3596, 2.2), and their text (RFC 5952, 4).
use Rattle.std.specs.Prelude.{◌≡◌, ℕ, ◌+◌, ◌≤◌, List, [], ◌∷◌, length, take, drop, replicate, Ok, Option, Some, None}
use Rattle.std.specs.Prelude.{option_map}
use Rattle.std.specs.Net.Addr.{segments_of}
use Rattle.std.specs.Net.Text.{hex_groups_text}
use Rattle.base.specs.reading.Reading.{Read, bytes_at, ◌>>=◌}
use Rattle.base_data.specs.declared.rdata.aaaa.AAAA.{AAAA}
use Rattle.base_data.specs.Fields.{ipv6_item}
use Rattle.base_data.specs.Kind.{AreOctets, Kind, bare, no_places}
use Rattle.base.specs.Words.{Bytes}
use Rattle.base.specs.writing.SaysParts.{Says-bytes}
use Rattle.base.specs.writing.Written.{just}

-- the address at a place
abbrev pub aaaa_at : List ℕ → ℕ → Read AAAA
aaaa_at bytes i = bytes_at 16 bytes i >>= λ r. Ok (record { octets = r.0 }, r.1)

-- the address that one item says
unfoldable pub aaaa_of : List (List ℕ) → Option AAAA
aaaa_of (address ∷ []) = option_map (λ octets. record { octets = octets }) (ipv6_item address)
aaaa_of _ = None

-- the text of sixteen bytes: eight groups of two bytes each
abbrev pub aaaa_text : List ℕ → List ℕ
aaaa_text octets = hex_groups_text (segments_of octets)

-- the `len` groups from `start` on are zero
pub record AreZeros (groups : List ℕ) (start len : ℕ) : Type 0 where
  pub inside : start + len ≤ length groups
  pub zeros : take len (drop start groups) ≡ replicate len 0

-- the first of the longest runs of zero groups
pub record IsFirstLongest (groups : List ℕ) (start len : ℕ) : Type 0 where
  pub run : AreZeros groups start len
  pub longest : (s n : ℕ) → AreZeros groups s n → n ≤ len
  pub first : (s : ℕ) → AreZeros groups s len → start ≤ s

-- the kind AAAA
abbrev pub aaaa_kind : AAAA → Kind
aaaa_kind x = record {
  word = Bytes x.octets;
  plain = length x.octets;
  written = just x.octets;
  kept = Unit {0};
  says = Says-bytes x.octets;
  readable = length x.octets ≡ 16;
  text = aaaa_text x.octets;
  canonical = x.octets;
  held = [];
  places = no_places;
  items = Some (aaaa_text x.octets ∷ []);
  shown = bare;
  spelled = AreOctets 16 x.octets;
}
