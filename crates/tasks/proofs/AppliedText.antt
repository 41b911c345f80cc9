-- The text that is answered of an update.
use Rattle.std.proofs.Common.{Bool, Err, List, Ok, ap, false, refl, sym, true, ℕ, ◌≡◌, ◌⊎◌, ◌∙◌}
use Rattle.std.specs.BTreeMap as tree
use Rattle.std.specs.BTreeMap.{BTreeMap}
use Rattle.std.specs.List.{list_any}
use Rattle.std.specs.Prelude.{if◌then◌else◌}
use Rattle.base.specs.names.Labels.{NameValue}
use Rattle.base.specs.RrKey.{key_cmp}
use Rattle.base.specs.declared.dns_class.DNSClass.TheVariants as classes
use Rattle.base.specs.declared.rr_key.RrKey.{RrKey}
use Rattle.op.specs.declared.response_code.ResponseCode.{ResponseCode}
use Rattle.op_use.specs.Applying as applying
use Rattle.op_use.specs.Server.{Sections}
use Rattle.rr.specs.RecordSet.{SetValue}
use Rattle.txt.specs.ZoneSets.{ZoneSets}
use Rattle.parsed_zone.proofs.AppliedLines.{any_left, class_refused, lines_answered}
use Rattle.parsed_zone.proofs.TextLemmas.{number_told}
use Rattle.parsed_zone.specs.Applied.{lines_after, update_lines}
use Rattle.parsed_zone.specs.Classes.{are_sets_in}
use Rattle.parsed_zone.specs.Faults.{by_number, zone_number}
use Rattle.parsed_zone.specs.declared.refusal.ZoneRefusal.{ZoneRefusal}
use Rattle.parsed_zone.specs.declared.refusal.ZoneRefusal.TheVariants as refusals
use Rattle.tasks.proofs.RefusalLemmas.{first_refused}
use Rattle.tasks.specs.Asked.{Asked, ◌>>=◌}
use Rattle.tasks.specs.Applied.{are_anames, leaves_anames, text_after}
use Rattle.tasks.specs.Refusals.{two_anames}

-- the lines, or that they would be read otherwise
abbrev pub told : Bool → List ℕ → Asked (List ℕ)
told crowded lines = if crowded then Err two_anames else Ok lines

-- sets of another class refuse the update, and so its text
pub class_refused_text : (m : Sections) (zone : NameValue × ZoneSets) (e : ZoneRefusal)
    → (e ≡ refusals.Memory) ⊎ ((e ≡ refusals.Class) × (are_sets_in zone.1 ≡ false))
    → (zone_number e ≡ 3) ⊎ (text_after (m, zone) ≡ Err (zone_number e))
class_refused_text m zone e refused =
    first_refused (by_number (lines_after m zone)) (told (leaves_anames (m, zone))) (zone_number e)
    (number_told e (lines_after m zone) (class_refused m zone e refused))

module _ (name : NameValue) (m : Sections) (old new : BTreeMap RrKey SetValue) (code : ResponseCode)
    (ordered : tree.IsOrdered key_cmp new)
    (after : applying.IsApplied name classes.IN m old code new) (all : are_sets_in old.entries ≡ true) where
  -- and else the lines of the map are answered, unless it has two ANAME records of an owner
  pub text_left : (crowded : Bool) → crowded ≡ list_any
      (λ (e : RrKey × SetValue). are_anames e.0 e.1.records) new.entries
      → text_after (m, (name, old.entries)) ≡ told crowded (update_lines code (name, new.entries))
  text_left crowded is =
      ap (λ (asked : Asked (List ℕ)). asked >>= told (leaves_anames (m, (name, old.entries))))
      (ap by_number (lines_answered name m old new code ordered after _ all refl))
      ∙ ap (λ (b : Bool). told b (update_lines code (name, new.entries)))
      (any_left name m old new code ordered after are_anames ∙ sym is)
