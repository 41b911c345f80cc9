-- Hosts that have a service (RFC 2782).
use Rattle.std.specs.Prelude.{ℕ, List, [], ◌∷◌, Ok, ◌+◌, ◌^◌, ◌<◌, ◌++◌, codes, ◌≡◌, true, Option, Some, None}
use Rattle.std.proofs.Common.{refl, arith}
use Rattle.std.specs.Int.{w16, to_be_bytes}
use Rattle.base.specs.reading.Names.{name_at}
use Rattle.base.specs.reading.Reading.{Read, number_at, ◌>>=◌}
use Rattle.base.specs.names.Labels.{AreNameLabels, NameValue, plain_len}
use Rattle.base.specs.texts.NameText.{name_text}
use Rattle.base.specs.Words.{NameAt, Number, Stands, Then}
use Rattle.std.specs.Fmt.{decimal}
use Rattle.base_data.specs.declared.rdata.srv.SRV.{SRV}
use Rattle.base_data.specs.Fields.{number_item, name_item, ◌>>?◌}
use Rattle.base_data.specs.Kind.{HasText, Kind, bare}
use Rattle.base.specs.writing.SaysName.{Says-plain_name}
use Rattle.base.specs.writing.SaysParts.{Says-both, Says-just, Says-weaker, last_stands}
use Rattle.base.specs.WordLemmas.{first_stands, number16_stands}
use Rattle.base_data.specs.NameData.{name_octets}
use Rattle.base.specs.writing.Written.{both, just, plain_name}

-- the data at a place
unfoldable pub srv_at : List ℕ → ℕ → Read SRV
srv_at bytes i = do
  priority ← number_at w16 bytes i
  weight ← number_at w16 bytes priority.1
  port ← number_at w16 bytes weight.1
  target ← name_at bytes port.1
  Ok (
    record { priority = priority.0; weight = weight.0; port = port.0; target = target.0 },
    target.1,
  )

-- the data that four items name
unfoldable pub srv_of : List (List ℕ) → Option NameValue → Option SRV
srv_of (priority ∷ weight ∷ port ∷ target ∷ []) origin =
    number_item 16 priority >>? λ p. number_item 16 weight >>? λ w.
    number_item 16 port >>? λ q. name_item target origin >>? λ t.
    Some (record { priority = p; weight = w; port = q; target = t })
srv_of _ origin = None

-- the word that the fields are written as, one after another
abbrev pub SRVWord : SRV → List ℕ → ℕ → ℕ → Type 0
SRVWord x =
    Then (Number w16 x.priority)
    (Then (Number w16 x.weight) (Then (Number w16 x.port) (NameAt x.target.labels)))

-- each number takes two bytes
pub record SRVFits (x : SRV) : Type 0 where
  pub priority : x.priority < 2 ^ 16
  pub weight : x.weight < 2 ^ 16
  pub port : x.port < 2 ^ 16

-- the three numbers as they are written, one after another
abbrev pub srv_numbers : SRV → List ℕ
srv_numbers x = to_be_bytes w16 x.priority ++ (to_be_bytes w16 x.weight ++ to_be_bytes w16 x.port)

-- the three numbers of an SRV, one after another
abbrev pub SRVNumbers : SRV → List ℕ → ℕ → ℕ → Type 0
SRVNumbers x = Then (Number w16 x.priority) (Then (Number w16 x.weight) (Number w16 x.port))

-- where the bytes of the three numbers stand, the numbers do
pub srv_numbers_stand : (x : SRV) (B : List ℕ) (i : ℕ) → SRVFits x → Stands (srv_numbers x) B i
    → SRVNumbers x B i (i + 6)
srv_numbers_stand x B i fits s =
    let a = to_be_bytes w16 x.priority in
    let b = to_be_bytes w16 x.weight in
    let c = to_be_bytes w16 x.port in
    let after_a = last_stands a (b ++ c) B i s in
    let after_b = last_stands b c B (i + 2) after_a in (
      _,
      (number16_stands x.priority B i fits.priority (first_stands a (b ++ c) B i s), refl),
      (
        _,
        (number16_stands x.weight B (i + 2) fits.weight (first_stands b c B (i + 2) after_a), refl),
        (number16_stands x.port B (i + 2 + 2) fits.port after_b, omega arith),
      ),
    )

-- how many bytes the fields are, names without compression
abbrev pub plain_srv : SRV → ℕ
plain_srv x = 2 + (2 + (2 + (plain_len x.target.labels)))

-- the fields, with a space between each two
abbrev pub srv_text : SRV → List ℕ
srv_text x = decimal x.priority
    ++ (codes " "
    ++ (decimal x.weight ++ (codes " " ++ (decimal x.port ++ (codes " " ++ (name_text x.target))))))

-- its name stands after six bytes (RFC 2782)
abbrev pub srv_places : List ℕ → ℕ → List ℕ
srv_places bytes i = (i + 6) ∷ []

-- the kind SRV
abbrev pub srv_kind : SRV → Kind
srv_kind x = record {
  word = SRVWord x;
  plain = plain_srv x;
  written = both (just (srv_numbers x)) (plain_name x.target.labels);
  kept = SRVFits x × AreNameLabels x.target.labels;
  says = Says-weaker (both (just (srv_numbers x)) (plain_name x.target.labels))
      (SRVFits x × AreNameLabels x.target.labels) (λ ok. ok)
      (λ ok B i e w. (w.1.0, w.1.1, (w.1.2.0, w.1.2.1, (w.0, w.1.2.2, w.2)))) (omega arith)
      (Says-both (just (srv_numbers x)) (plain_name x.target.labels)
      (Says-just (SRVFits x) (SRVNumbers x) 6 (srv_numbers x) (omega arith)
      (λ fits B at small h. srv_numbers_stand x B at fits h))
      (Says-plain_name x.target.labels));
  readable = x.target.absolute ≡ true;
  text = srv_text x;
  canonical = to_be_bytes w16 x.priority ++ to_be_bytes w16 x.weight ++ to_be_bytes w16 x.port
      ++ name_octets x.target;
  held = x.target ∷ [];
  places = srv_places;
  items = Some (decimal x.priority ∷ decimal x.weight ∷ decimal x.port ∷ name_text x.target ∷ []);
  shown = bare;
  spelled = SRVFits x × HasText x.target;
}
