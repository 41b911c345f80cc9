-- The zone of the text that bytes are.
use Rattle.std.proofs.Common.{Bool, Err, List, Option, Result, [], ap, false, inl, inr, refl, sym, true, ℕ, ◌≡◌, ◌⊎◌}
use Rattle.std.proofs.Common.{◌∙◌}
use Rattle.std.proofs.lemmas.Bool.{cond-false}
use Rattle.std.proofs.lemmas.Str.{IsUtf8-from_is_utf8, is_utf8-from_IsUtf8}
use Rattle.std.specs.BTreeMap.{BTreeMap}
use Rattle.std.specs.Prelude.{None, Some, String, map, option_map}
use Rattle.std.specs.Str.{IsUtf8, is_utf8}
use Rattle.std.specs.String.{string_bytes}
use Rattle.std.specs.declared.alloc.Global.{Global}
use Rattle.base.specs.names.Labels.{NameValue}
use Rattle.base.specs.texts.TextFaults.{FailsBy, FailsWith, Fault, fault_of}
use Rattle.base.specs.declared.error.parse_error.ParseError.{ParseError}
use Rattle.base.specs.declared.error.parse_error.ParseError.TheVariants as faults
use Rattle.parsed_zone.specs.declared.refusal.ZoneRefusal.{ZoneRefusal}
use Rattle.parsed_zone.specs.declared.refusal.ZoneRefusal.TheVariants as refusals
use Rattle.txt.proofs.TextsLemmas.{texts_are}
use Rattle.txt.specs.Parser.{ParserValue, named_texts, text_among, texts_in}
use Rattle.txt.specs.Zone.{Texts, no_texts, zone_by}
use Rattle.txt.specs.ZoneSets.{ZoneSets}
use Rattle.parsed_zone.specs.Faults.{HasFault, ZoneFault, fault_named, in_text, by_number, not_utf8, of_text}
use Rattle.parsed_zone.specs.Faults.{zone_number}
use Rattle.parsed_zone.specs.ZoneText.{read_as_text}

-- bytes that aren't UTF-8 are refused
pub not_text : (zone : Result (NameValue × ZoneSets) Fault) (bytes : List ℕ) → ¬ (IsUtf8 bytes)
    → read_as_text bytes zone ≡ Err not_utf8
not_text zone bytes never = go (is_utf8 bytes) refl where
  go : (b : Bool) → is_utf8 bytes ≡ b → read_as_text bytes zone ≡ Err not_utf8
  go true is = absurd (never (IsUtf8-from_is_utf8 bytes is))
  go false is = cond-false _ _ _ is

-- a refusal has the number of the fault that it names
pub number_told : {A : Type 0} (refusal : ZoneRefusal) (asked : Result A ZoneFault)
    → HasFault (fault_named refusal) asked
    → (zone_number refusal ≡ 3) ⊎ (by_number asked ≡ Err (zone_number refusal))
number_told refusals.NotUtf8 asked is = inr (ap by_number is)
number_told refusals.Class asked is = inr (ap by_number is)
number_told refusals.Memory asked is = inl refl
number_told (refusals.Parse faults.Memory) asked is = inl refl
number_told (refusals.Parse (faults.UnexpectedToken t)) asked is = inr (ap by_number is)
number_told (refusals.Parse faults.Lexer) asked is = inr (ap by_number is)
number_told (refusals.Parse (faults.Message text)) asked is = inr (ap by_number is)
number_told (refusals.Parse (faults.IncludeNotFound name)) asked is = inr (ap by_number is)
number_told (refusals.Parse (faults.UnknownRecordType text)) asked is = inr (ap by_number is)
number_told (refusals.Parse (faults.UnsupportedRecordType type)) asked is = inr (ap by_number is)
number_told (refusals.Parse (faults.BadData type)) asked is = inr (ap by_number is)
number_told (refusals.Parse faults.BadName) asked is = inr (ap by_number is)
number_told (refusals.Parse faults.BadTtl) asked is = inr (ap by_number is)

-- a map without texts lets none be included
pub none_in : (includes : BTreeMap (String Global) (String Global)) → includes.entries ≡ []
    → texts_in includes ≡ no_texts
none_in includes empty =
    texts_are includes ∙ ap (λ es. text_among
    (map (λ (e : String Global × String Global). (string_bytes e.0, string_bytes e.1)) es)) empty

module _ (generic : Bool) (origin : Option NameValue) (bytes text : List ℕ)
    (includes : BTreeMap (String Global) (String Global)) (p : ParserValue) (is_text : IsUtf8 bytes)
    (same : text ≡ bytes) (is : p ≡ record { text = text; includes = named_texts includes; origin = origin }) where
  -- the zone of bytes is that which a parser reads
  pub zone_read : (made : Result (NameValue × ZoneSets) Fault)
      → zone_by generic (text_among p.includes) p.origin p.text ≡ made
      → read_as_text bytes (zone_by generic (texts_in includes) origin bytes) ≡ of_text made
  zone_read made read =
      rw (is_utf8-from_IsUtf8 bytes is_text) (ap of_text
      (ap (λ (texts : Texts). zone_by generic texts origin bytes) (texts_are includes)
      ∙ ap (λ (t : List ℕ). zone_by generic (text_among (named_texts includes)) origin t) (sym same)
      ∙ ap (λ (q : ParserValue). zone_by generic (text_among q.includes) q.origin q.text) (sym is) ∙ read))

  -- and a refusal names its fault
  pub zone_refused : (e : ParseError) → FailsWith e (zone_by generic (text_among p.includes) p.origin p.text)
      → HasFault (option_map in_text (fault_of e))
      (read_as_text bytes (zone_by generic (texts_in includes) origin bytes))
  zone_refused e fails = named (fault_of e) fails where
    named : (fault : Option Fault) → FailsBy fault (zone_by generic (text_among p.includes) p.origin p.text)
        → HasFault (option_map in_text fault) (read_as_text bytes (zone_by generic (texts_in includes) origin bytes))
    named None is = tt
    named (Some fault) is = zone_read (Err fault) is
