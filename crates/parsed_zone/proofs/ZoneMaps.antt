-- That updates may be applied to a parsed zone of one class.
use Rattle.std.proofs.Common.{Bool, Option, Some, [], cond, false, refl, subst, sym, true, ◌∷◌, ◌≡◌}
use Rattle.std.proofs.lemmas.Bool.{and_parts}
use Rattle.std.proofs.lemmas.Option.{same_Some}
use Rattle.std.specs.BTreeMap.{BTreeMap, is_at}
use Rattle.std.specs.List.{AllByRecursion}
use Rattle.std.specs.Map.{lookup}
use Rattle.std.specs.Ordering.{eq_by_cmp, is_eq}
use Rattle.std.specs.declared.cmp.Ordering.TheVariants.{Less, Equal, Greater}
use Rattle.std.specs.declared.cmp.Ordering.{Ordering}
use Rattle.base.proofs.names.KeyLemmas.{key_cmp-exact}
use Rattle.base.specs.RrKey.{key_cmp}
use Rattle.base.specs.declared.dns_class.DNSClass.TheVariants as classes
use Rattle.base.specs.declared.dns_class.DNSClass.{DNSClass}
use Rattle.base.specs.declared.rr_key.RrKey.{RrKey}
use Rattle.op_use.specs.Applying.{IsZoneMap}
use Rattle.rr.specs.RecordSet.{SetValue}
use Rattle.txt.specs.ZoneSets.{AreKeyed, IsKeyed, ZoneSets}
use Rattle.parsed_zone.specs.Classes.{are_sets_in, is_in, is_set_in}
use Rattle.parsed_zone.specs.ParsedZone.{AreOfClass, MayBeUpdated, ParsedSetsAreTidy}

in_only : (c : DNSClass) → is_in c ≡ true → c ≡ classes.IN
in_only classes.IN h = refl
in_only _ h = cc

tied : (o : Ordering) → is_eq o ≡ true → o ≡ Equal
tied Less h = cc
tied Equal h = refl
tied Greater h = cc

same_key : (q k : RrKey) → eq_by_cmp key_cmp q k ≡ true → q ≡ k
same_key q k h = key_cmp-exact q k (tied _ h)

-- what holds of each entry holds of a set that is found
found_at : (P : RrKey → SetValue → Type 0) (k : RrKey) (e : RrKey × SetValue) (b : Bool) (o : Option SetValue)
    (s : SetValue) → eq_by_cmp key_cmp k e.0 ≡ b → P e.0 e.1
    → (o ≡ Some s → P k s) → cond b (Some e.1) o ≡ Some s → P k s
found_at P k e true o s t here later h = subst (λ q. P q s) (sym (same_key k e.0 t))
    (subst (λ v. P e.0 v) (same_Some e.1 s h) here)
found_at P k e false o s t here later h = later h

found : (P : RrKey → SetValue → Type 0) (k : RrKey) (es : ZoneSets)
    → AllByRecursion (λ (e : RrKey × SetValue). P e.0 e.1) es → (s : SetValue) → lookup (is_at (key_cmp k)) es ≡ Some s
    → P k s
found P k [] all s h = absurd cc
found P k (e ∷ es) all s h = found_at P k e (eq_by_cmp key_cmp k e.0) (lookup (is_at (key_cmp k)) es) s refl all.0
    (found P k es all.1 s) h

-- updates may be applied to the sets of a parsed zone that are of one class
pub zone_map : (class : DNSClass) (m : BTreeMap RrKey SetValue) → AreKeyed m.entries → AreOfClass class m
    → IsZoneMap class m
zone_map class m kept of_class = λ k s h.
    let set_kept = found IsKeyed k m.entries kept s h in
    record {
      own_key = sym set_kept.key_is;
      own_class = of_class k s h;
      filled = set_kept.some;
      distinct =
          set_kept.tidy.distinct;
    }

-- each set of a parsed zone is tidy
pub tidy_set : ParsedSetsAreTidy
tidy_set m kept k s h = (found IsKeyed k m.entries kept s h).tidy

sets_in : (es : ZoneSets) → are_sets_in es ≡ true
    → AllByRecursion (λ (e : RrKey × SetValue). e.1.dns_class ≡ classes.IN) es
sets_in [] h = tt
sets_in (e ∷ es) h =
    let parts = and_parts (is_set_in e.1) (are_sets_in es) h in
    (in_only e.1.dns_class ((and_parts (is_in e.1.dns_class) _ parts.0).0), sets_in es parts.1)

pub parsed_map : (m : BTreeMap RrKey SetValue) → AreKeyed m.entries → MayBeUpdated m
parsed_map m kept all = zone_map classes.IN m kept
    (λ k s h. found (λ q v. v.dns_class ≡ classes.IN) k m.entries (sets_in m.entries all) s h)
