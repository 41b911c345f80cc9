-- The included texts of a map, as a list of names and texts.
use Rattle.std.proofs.Common.{◌≡◌, ℕ, List, [], ◌∷◌, refl, ap, sym, ◌∙◌, map, Bool, true, false, Option, Some, None}
use Rattle.std.proofs.Common.{Result, Err}
use Rattle.std.specs.BTreeMap.{BTreeMap, is_at}
use Rattle.std.specs.Cmp.Lexicographic.{slice_cmp}
use Rattle.std.specs.Map.{lookup}
use Rattle.std.specs.Ordering.{nat_cmp}
use Rattle.std.specs.Prelude.{String, option_map, cond}
use Rattle.std.specs.String.{string_bytes}
use Rattle.std.specs.declared.alloc.Global.{Global}
use Rattle.base.specs.names.Labels.{NameValue}
use Rattle.base.specs.texts.TextFaults.{Fault, fault_of}
use Rattle.txt.specs.Parser.{ParserValue, named_texts, text_among, texts_in}
use Rattle.txt.specs.Faults.{FailsAt, FailsAtPlace}
use Rattle.txt.specs.Zone.{PlacedFault, ZoneState, Texts, beginning, folded_text, parsed_of, placed_zone_by}
use Rattle.txt.specs.declared.zone.fault.FaultPlace.{FaultPlace}
use Rattle.txt.specs.declared.zone.fault.ZoneFault.{ZoneFault}

found : (name : List ℕ) (es : List (String Global × String Global))
    → option_map string_bytes (lookup (is_at (λ (k : String Global). slice_cmp nat_cmp name (string_bytes k))) es)
    ≡ lookup (is_at (slice_cmp nat_cmp name))
    (map (λ (e : String Global × String Global). (string_bytes e.0, string_bytes e.1)) es)
found name [] = refl
found name (e ∷ es) = go (is_at (slice_cmp nat_cmp name) (string_bytes e.0)) _ _ (found name es) where
  go : (b : Bool) (x : Option (String Global)) (y : Option (List ℕ)) → option_map string_bytes x ≡ y
      → option_map string_bytes (cond b (Some e.1) x) ≡ cond b (Some (string_bytes e.1)) y
  go true x y same = refl
  go false x y same = same

-- the texts that a map holds are those of its list
pub texts_are : (includes : BTreeMap (String Global) (String Global))
    → texts_in includes ≡ text_among (named_texts includes)
texts_are includes = λ i name. found name includes.entries i

-- the zone of a parser, by what its fields hold
pub parsed : {p : ParserValue} {text : List ℕ} {origin : Option NameValue} {start : ZoneState} {generic : Bool}
    (includes : BTreeMap (String Global) (String Global))
    → p ≡ record { text = text; includes = named_texts includes; origin = origin } → start ≡ beginning generic origin
    → placed_zone_by generic (text_among p.includes) p.origin p.text ≡ parsed_of text
    (folded_text (texts_in includes) start text)
parsed {p} {text} {origin} {start} {generic} includes is begins =
    ap (λ (q : ParserValue). placed_zone_by generic (text_among q.includes) q.origin q.text) is
    ∙ ap (λ (texts : Texts). parsed_of text (folded_text texts (beginning generic origin) text))
    (sym (texts_are includes))
    ∙ ap (λ (s : ZoneState). parsed_of text (folded_text (texts_in includes) s text)) (sym begins)

FailsAtPlace-through : {A B : Type 0} {made : Result A PlacedFault} {whole : Result B PlacedFault}
    (fault : Option Fault) (place : Option FaultPlace)
    → ((f : PlacedFault) → made ≡ Err f → whole ≡ Err f) → FailsAtPlace fault place made
    → FailsAtPlace fault place whole
FailsAtPlace-through None None on is = tt
FailsAtPlace-through (Some fault) (Some place) on is = on _ is
FailsAtPlace-through fault place on is = absurd is

-- a refusal of what is made first is one of the whole
pub FailsAt-through : {A B : Type 0} {made : Result A PlacedFault} {whole : Result B PlacedFault} (refused : ZoneFault)
    → ((f : PlacedFault) → made ≡ Err f → whole ≡ Err f) → FailsAt refused made → FailsAt refused whole
FailsAt-through refused on is = FailsAtPlace-through (fault_of refused.error) refused.place on is
