-- Addresses of four bytes (RFC 1035, 3.4.1).
use Rattle.std.specs.Prelude.{◌≡◌, ℕ, List, [], ◌∷◌, length, Ok, Option, Some, None, option_map}
use Rattle.base.specs.reading.Reading.{Read, bytes_at, ◌>>=◌}
use Rattle.base_data.specs.declared.rdata.a.A.{A}
use Rattle.base_data.specs.Fields.{ipv4_item}
use Rattle.base_data.specs.Kind.{AreOctets, Kind, bare, no_places}
use Rattle.std.specs.Net.Text.{ipv4_text}
use Rattle.base.specs.Words.{Bytes}
use Rattle.base.specs.writing.SaysParts.{Says-bytes}
use Rattle.base.specs.writing.Written.{just}

-- the address at a place
abbrev pub a_at : List ℕ → ℕ → Read A
a_at bytes i = bytes_at 4 bytes i >>= λ r. Ok (record { octets = r.0 }, r.1)

-- the address that one item says
unfoldable pub a_of : List (List ℕ) → Option A
a_of (address ∷ []) = option_map (λ octets. record { octets = octets }) (ipv4_item address)
a_of _ = None

-- the kind A
abbrev pub a_kind : A → Kind
a_kind x = record {
  word = Bytes x.octets;
  plain = length x.octets;
  written = just x.octets;
  kept = Unit {0};
  says = Says-bytes x.octets;
  readable = length x.octets ≡ 4;
  text = ipv4_text x.octets;
  canonical = x.octets;
  held = [];
  places = no_places;
  items = Some (ipv4_text x.octets ∷ []);
  shown = bare;
  spelled = AreOctets 4 x.octets;
}
