-- The one set of a zone of the class IN is sound.
use Rattle.std.proofs.Common.{List, Ok, [], ap, refl, subst, sym, true, ◌∷◌, ◌≡◌, ◌∙◌}
use Rattle.std.specs.Cmp.{first_so, second_so}
use Rattle.std.specs.List.{AllByRecursion, list_all}
use Rattle.base.specs.declared.dns_class.DNSClass.{DNSClass}
use Rattle.base.specs.declared.dns_class.DNSClass.TheVariants as classes
use Rattle.base.specs.declared.rr_key.RrKey.{RrKey}
use Rattle.base_data.specs.declared.rdata.RData.{RData}
use Rattle.op_use.specs.SoundSet.{IsSound, is_plain_class}
use Rattle.parsed_zone.specs.Classes.{are_sets_in, is_in, is_set_in}
use Rattle.rr.specs.RecordSet.{SetValue}
use Rattle.rr.specs.declared.record.Record.{Record}
use Rattle.txt.specs.ZoneSets.{AreKeyed, IsKeyed, ZoneSets}
use Rattle.tasks.specs.Update.{only_set}

in_is : (c : DNSClass) → is_in c ≡ true → c ≡ classes.IN
in_is classes.IN h = refl
in_is _ h = cc

each_in : (c : DNSClass) → c ≡ classes.IN → (rs : List (Record RData))
    → list_all (λ (r : Record RData). is_in r.dns_class) rs ≡ true
    → AllByRecursion (λ (r : Record RData). r.dns_class ≡ c) rs
each_in c is [] all = tt
each_in c is (r ∷ rs) all = (
  in_is r.dns_class (first_so (is_in r.dns_class) _ all) ∙ sym is,
  each_in c is rs (second_so (is_in r.dns_class) _ all),
)

keyed_is_sound : (k : RrKey) (s : SetValue) → IsKeyed k s → is_set_in s ≡ true → IsSound s
keyed_is_sound k s keyed all =
    let class : s.dns_class ≡ classes.IN = in_is s.dns_class (first_so (is_in s.dns_class) _ all) in
    record {
      own_owner = keyed.own_owner;
      own_type = keyed.tidy.own_type;
      own_class = each_in s.dns_class class s.records (second_so (is_in s.dns_class) _ all);
      class = ap is_plain_class class;
      distinct = keyed.tidy.distinct;
    }

pub only_is_sound : (es : ZoneSets) (s : SetValue) → AreKeyed es → are_sets_in es ≡ true → only_set es ≡ Ok s
    → IsSound s
only_is_sound [] s keyed all is = absurd cc
only_is_sound (e ∷ []) s keyed all is =
    let same : e.1 ≡ s = cc in
    subst IsSound same (keyed_is_sound e.0 e.1 keyed.0 (first_so (is_set_in e.1) _ all))
only_is_sound (e ∷ (next ∷ es)) s keyed all is = absurd cc
