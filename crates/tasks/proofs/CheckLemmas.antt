-- What the check of zone text tells.
use Rattle.std.proofs.Common.{◌≡◌, ◌⊎◌, ◌∙◌, ◌++◌, ◌+◌, ◌<◌, ℕ, List, [], ◌∷◌, ap, drop, get_or, length, refl, sym}
use Rattle.std.proofs.Common.{take, None, Option, Some, Ok, Err, Result, Bool, true, false, cond, inl, inr}
use Rattle.std.proofs.lemmas.List.{drop_more, map-append}
use Rattle.std.specs.BTreeMap.{BTreeMap, get_by_text}
use Rattle.std.specs.Map.{update}
use Rattle.std.specs.Prelude.{String, map, option_map}
use Rattle.std.specs.Str.{bytes_eq}
use Rattle.std.specs.String.{string_bytes}
use Rattle.std.specs.declared.alloc.Global.{Global}
use Rattle.base.specs.ParseError.{parse_number}
use Rattle.base.specs.names.Labels.{NameValue}
use Rattle.base.specs.texts.TextFaults.{FailsBy, FailsWith, Fault, fault_of}
use Rattle.base.specs.declared.error.parse_error.ParseError.{ParseError}
use Rattle.parsed_zone.proofs.TextLemmas.{number_told}
use Rattle.parsed_zone.specs.Faults.{HasFault, by_number, in_text, numbered, of_text}
use Rattle.parsed_zone.specs.declared.refusal.ZoneRefusal.TheVariants as refusals
use Rattle.txt.proofs.TextsLemmas.{texts_are}
use Rattle.txt.specs.Faults.{inclusion_value}
use Rattle.txt.specs.Parser.{ParserValue, named_texts, text_among, texts_in}
use Rattle.txt.specs.Zone.{Texts, generic_zone_of, no_texts, placed_zone_by, unplaced}
use Rattle.txt.specs.ZoneSets.{ZoneSets}
use Rattle.txt.specs.declared.zone.fault.Inclusion.{Inclusion}
use Rattle.tasks.specs.Asked.{Asked, ◌>>=◌}
use Rattle.tasks.specs.ZoneCheck.{ToldFault, fault_told, last_name, zone_checked}
use Rattle.tasks.specs.ZoneText.{characters, origin_of_text, with_texts, zone_asked, zone_name_of}
use Rattle.tasks.specs.declared.included.Included.{Included}

-- the text that was opened last is named
last_named : (name : List ℕ) (opened : List (List ℕ × ℕ)) (inclusion : List ℕ × ℕ)
    → last_name name (opened ++ inclusion ∷ []) ≡ inclusion.0
last_named name [] inclusion = refl
last_named name (first ∷ more) inclusion = last_named first.0 more inclusion

pub last_inclusion : (items front : List Inclusion) (inclusion : Inclusion) → items ≡ front ++ inclusion ∷ []
    → last_name [] (map inclusion_value items) ≡ string_bytes inclusion.name
last_inclusion items front inclusion is =
    ap (λ (all : List Inclusion). last_name [] (map inclusion_value all)) is
    ∙ ap (last_name []) (map-append inclusion_value front (inclusion ∷ []))
    ∙ last_named [] (map inclusion_value front) (inclusion_value inclusion)

-- a map got one text more
pub text_more : (old new : BTreeMap (String Global) (String Global)) (name text : String Global)
    → ((asked : List ℕ) → get_by_text new asked ≡ update bytes_eq (get_by_text old) (string_bytes name)
    (Some text) asked)
    → texts_in new ≡ update bytes_eq (texts_in old) (string_bytes name) (Some (string_bytes text))
text_more old new name text puts = λ i asked. at asked i where
  at : (asked : List ℕ) → texts_in new asked
      ≡ update bytes_eq (texts_in old) (string_bytes name) (Some (string_bytes text)) asked
  at asked = ap (option_map string_bytes) (puts asked) ∙ go (bytes_eq (string_bytes name) asked) where
    go : (b : Bool) → option_map string_bytes (cond b (Some text) (get_by_text old asked))
        ≡ cond b (Some (string_bytes text)) (option_map string_bytes (get_by_text old asked))
    go true = refl
    go false = refl

-- how long the name and the text are that stand at a place
abbrev pub lengths_at : List Included → ℕ → Included
lengths_at included i = get_or included i (record { name_len = 0; text_len = 0 })

-- what is left to read of texts, so many of which have been read
module _ (old new : Texts) (included : List Included) (i : ℕ) (bytes : List ℕ) (all : Asked Texts)
    (within : i < length included) (invariant : with_texts old (drop i included) bytes ≡ all) where
  abbrev first : Included
  first = lengths_at included i

  abbrev after_name : List ℕ
  after_name = drop first.name_len bytes

  abbrev left : Texts → Asked Texts
  left texts = with_texts texts (drop (i + 1) included) (drop first.text_len after_name)

  abbrev named : List ℕ → Asked Texts
  named name = characters (take first.text_len after_name) >>= λ text. left (update bytes_eq old name (Some text))

  begins : all ≡ (characters (take first.name_len bytes) >>= named)
  begins = sym invariant ∙ ap (λ (more : List Included). with_texts old more bytes)
      (drop_more included i (record { name_len = 0; text_len = 0 }) within)

  -- a name that is refused
  pub name_refused : (number : ℕ) → (number ≡ 3) ⊎ (characters (take first.name_len bytes) ≡ Err number)
      → (number ≡ 3) ⊎ (all ≡ Err number)
  name_refused number (inl memory) = inl memory
  name_refused number (inr is) = inr (begins ∙ ap (λ (asked : Asked (List ℕ)). asked >>= named) is)

  module _ (name : List ℕ) (name_is : characters (take first.name_len bytes) ≡ Ok name) where
    abbrev reads : List ℕ → Asked Texts
    reads text = left (update bytes_eq old name (Some text))

    goes_on : all ≡ named name
    goes_on = begins ∙ ap (λ (asked : Asked (List ℕ)). asked >>= named) name_is

    -- a text that is refused
    pub text_refused : (number : ℕ) → (number ≡ 3) ⊎ (characters (take first.text_len after_name) ≡ Err number)
        → (number ≡ 3) ⊎ (all ≡ Err number)
    text_refused number (inl memory) = inl memory
    text_refused number (inr is) = inr (goes_on ∙ ap (λ (asked : Asked (List ℕ)). asked >>= reads) is)

    -- and one that is read
    pub texts_on : (text after : List ℕ) → characters (take first.text_len after_name) ≡ Ok text
        → new ≡ update bytes_eq old name (Some text) → after ≡ drop first.text_len after_name
        → with_texts new (drop (i + 1) included) after ≡ all
    texts_on text after text_is new_is after_is =
        ap (λ (bs : List ℕ). with_texts new (drop (i + 1) included) bs) after_is
        ∙ ap left new_is
        ∙ sym (goes_on ∙ ap (λ (asked : Asked (List ℕ)). asked >>= reads) text_is)

-- the zone of a parser is that of what it was handed
pub zone_parsed : (generic : Bool) (origin : Option NameValue) (text : List ℕ)
    (includes : BTreeMap (String Global) (String Global)) (p : ParserValue)
    → p ≡ record { text = text; includes = named_texts includes; origin = origin }
    → placed_zone_by generic (texts_in includes) origin text
    ≡ placed_zone_by generic (text_among p.includes) p.origin p.text
zone_parsed generic origin text includes p is =
    ap (λ (texts : Texts). placed_zone_by generic texts origin text) (texts_are includes)
    ∙ ap (λ (q : ParserValue). placed_zone_by generic (text_among q.includes) q.origin q.text) (sym is)

-- a refusal of the parser has the number of its fault
parser_refused : {A : Type 0} (e : ParseError) (made : Result A Fault) → FailsWith e made
    → (parse_number e ≡ 3) ⊎ (numbered made ≡ Err (parse_number e))
parser_refused {A} e made fails = go (number_told (refusals.Parse e) (of_text made) (named (fault_of e) fails)) where
  named : (fault : Option Fault) → FailsBy fault made → HasFault (option_map in_text fault) (of_text made)
  named None is = tt
  named (Some fault) is = ap of_text is

  same : (result : Result A Fault) → numbered result ≡ by_number (of_text result)
  same (Ok x) = refl
  same (Err fault) = refl

  go : (parse_number e ≡ 3) ⊎ (by_number (of_text made) ≡ Err (parse_number e))
      → (parse_number e ≡ 3) ⊎ (numbered made ≡ Err (parse_number e))
  go (inl memory) = inl memory
  go (inr is) = inr (same made ∙ is)

-- the zone of an origin and a text, by what was made of the words of a call
pub zone_is : (origin text : List ℕ) (included : List Included) (bytes : List ℕ) (zone : NameValue) (chars : List ℕ)
    (texts : Texts)
    → zone_name_of origin ≡ Ok zone → characters text ≡ Ok chars → with_texts no_texts included bytes ≡ Ok texts
    → zone_asked origin text included bytes
    ≡ (numbered (generic_zone_of texts (Some zone) chars) >>= λ parsed. Ok (zone, parsed.1))
zone_is origin text included bytes zone chars texts named text_is texts_are =
    ap (λ (asked : Asked NameValue). asked >>= λ z. characters text >>= λ cs.
    with_texts no_texts included bytes >>= λ ts.
    numbered (generic_zone_of ts (Some z) cs) >>= λ parsed. Ok (z, parsed.1)) named
    ∙ ap (λ (asked : Asked (List ℕ)). asked >>= λ cs. with_texts no_texts included bytes >>= λ ts.
    numbered (generic_zone_of ts (Some zone) cs) >>= λ parsed. Ok (zone, parsed.1)) text_is
    ∙ ap (λ (asked : Asked Texts). asked >>= λ ts.
    numbered (generic_zone_of ts (Some zone) chars) >>= λ parsed. Ok (zone, parsed.1)) texts_are

-- what a parser makes of that text is the zone's, or its refusal
module _ (origin text : List ℕ) (included : List Included) (bytes : List ℕ) (zone : NameValue) (chars : List ℕ)
    (includes : BTreeMap (String Global) (String Global)) (p : ParserValue)
    (named : zone_name_of origin ≡ Ok zone) (text_is : characters text ≡ Ok chars)
    (texts_are_in : with_texts no_texts included bytes ≡ Ok (texts_in includes))
    (is : p ≡ record { text = chars; includes = named_texts includes; origin = Some zone }) where
  parsed_is : generic_zone_of (texts_in includes) (Some zone) chars
      ≡ generic_zone_of (text_among p.includes) p.origin p.text
  parsed_is = ap unplaced (zone_parsed true (Some zone) chars includes p is)

  pub zone_made : (found : NameValue × ZoneSets)
      → generic_zone_of (text_among p.includes) p.origin p.text ≡ Ok found
      → zone_asked origin text included bytes ≡ Ok (zone, found.1)
  zone_made found made = zone_is origin text included bytes zone chars (texts_in includes) named text_is texts_are_in
      ∙ ap (λ (it : Result (NameValue × ZoneSets) Fault). numbered it >>= λ parsed. Ok (zone, parsed.1))
      (parsed_is ∙ made)

  pub zone_refused : (e : ParseError) → FailsWith e (generic_zone_of (text_among p.includes) p.origin p.text)
      → (parse_number e ≡ 3) ⊎ (zone_asked origin text included bytes ≡ Err (parse_number e))
  zone_refused e fails = go (parser_refused e _ fails) where
    go : (parse_number e ≡ 3)
        ⊎ (numbered (generic_zone_of (text_among p.includes) p.origin p.text) ≡ Err (parse_number e))
        → (parse_number e ≡ 3) ⊎ (zone_asked origin text included bytes ≡ Err (parse_number e))
    go (inl memory) = inl memory
    go (inr refused) = inr (
        zone_is origin text included bytes zone chars (texts_in includes) named text_is texts_are_in
        ∙ ap (λ (it : Asked (NameValue × ZoneSets)). it >>= λ parsed. Ok (zone, parsed.1))
        (ap numbered parsed_is ∙ refused))

-- the fault of a text, by what was made of the words of a call
pub checked_is : (origin text : List ℕ) (included : List Included) (bytes : List ℕ) (under : Option NameValue)
    (chars : List ℕ) (texts : Texts) (told : Option ToldFault)
    → origin_of_text origin ≡ Ok under → characters text ≡ Ok chars → with_texts no_texts included bytes ≡ Ok texts
    → fault_told (placed_zone_by true texts under chars) ≡ told
    → zone_checked origin text included bytes ≡ Ok told
checked_is origin text included bytes under chars texts told origin_is text_is texts_are is =
    ap (λ (asked : Asked (Option NameValue)). asked >>= λ o. characters text >>= λ cs.
    with_texts no_texts included bytes >>= λ ts. Ok (fault_told (placed_zone_by true ts o cs))) origin_is
    ∙ ap (λ (asked : Asked (List ℕ)). asked >>= λ cs.
    with_texts no_texts included bytes >>= λ ts. Ok (fault_told (placed_zone_by true ts under cs))) text_is
    ∙ ap (λ (asked : Asked Texts). asked >>= λ ts. Ok (fault_told (placed_zone_by true ts under chars))) texts_are
    ∙ ap Ok is
