-- Data that is one name: what NS, CNAME, PTR and ANAME share.
use Rattle.std.specs.Prelude.{◌≡◌, ℕ, true, List, [], ◌∷◌, Ok, Option, Some, None, option_map}
use Rattle.base.specs.names.Labels.{AreNameLabels, NameValue, plain_len}
use Rattle.base.specs.texts.NameText.{name_text}
use Rattle.base.specs.reading.Names.{name_at}
use Rattle.base.specs.reading.Reading.{Read, ◌>>=◌}
use Rattle.base.specs.Words.{NameAt}
use Rattle.base_data.specs.Fields.{name_item}
use Rattle.base_data.specs.Kind.{HasText, Kind, bare}
use Rattle.base_data.specs.NameData.{name_octets}
use Rattle.base.specs.writing.Says.{Says}
use Rattle.base.specs.writing.Written.{Writing}

-- the data at a place, made of the name that is read there
abbrev pub one_name_at : {X : Type 0} → (NameValue → X) → List ℕ → ℕ → Read X
one_name_at of bytes i = name_at bytes i >>= λ name. Ok (of name.0, name.1)

-- the data of one item, made of the name that it names under an origin
abbrev pub one_name_of : {X : Type 0} → (NameValue → X) → List (List ℕ) → Option NameValue
    → Option X
one_name_of of (name ∷ []) origin = option_map of (name_item name origin)
one_name_of of _ origin = None

-- the place of its name is its own (RFC 1035, 3.3.1, 3.3.11 and 3.3.12)
abbrev pub own_place : List ℕ → ℕ → List ℕ
own_place bytes i = i ∷ []

-- what is known of data that is a name; how the name is written is its kind's
abbrev pub name_kind : (name : NameValue) (written : Writing)
    → Says written (AreNameLabels name.labels) (NameAt name.labels) (plain_len name.labels) []
    → Kind
name_kind name written says = record {
  word = NameAt name.labels;
  plain = plain_len name.labels;
  written = written;
  kept = AreNameLabels name.labels;
  says = says;
  readable = name.absolute ≡ true;
  text = name_text name;
  canonical = name_octets name;
  held = name ∷ [];
  places = own_place;
  items = Some (name_text name ∷ []);
  shown = bare;
  spelled = HasText name;
}
