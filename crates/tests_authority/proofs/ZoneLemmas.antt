-- The sets of a parsed zone stand under the keys of their owners and types.
use Rattle.authority.specs.ZoneRef.{AreUnderKeys}
use Rattle.base.proofs.names.KeyLemmas.{key_cmp-exact}
use Rattle.base.specs.RrKey.{key_cmp}
use Rattle.base.specs.declared.rr_key.RrKey.{RrKey}
use Rattle.op_use.specs.NamedChanges.{set_key}
use Rattle.rr.specs.RecordSet.{SetValue}
use Rattle.std.proofs.Common.{Bool, Option, Some, [], ap, cond, false, refl, sym, true, ◌∙◌, ◌∷◌, ◌≡◌}
use Rattle.std.proofs.lemmas.Option.{same_Some}
use Rattle.std.specs.BTreeMap.{BTreeMap, is_at}
use Rattle.std.specs.List.{AllByRecursion}
use Rattle.std.specs.Map.{lookup}
use Rattle.std.specs.Ordering.{eq_by_cmp, is_eq}
use Rattle.std.specs.declared.cmp.Ordering.TheVariants.{Equal, Greater, Less}
use Rattle.std.specs.declared.cmp.Ordering.{Ordering}
use Rattle.txt.specs.ZoneSets.{AreKeyed, IsKeyed, ZoneSets}

tied : (o : Ordering) → is_eq o ≡ true → o ≡ Equal
tied Less h = cc
tied Equal h = refl
tied Greater h = cc

here_or_later : (k : RrKey) (e : RrKey × SetValue) (b : Bool) (o : Option SetValue) (s : SetValue)
    → eq_by_cmp key_cmp k e.0 ≡ b → IsKeyed e.0 e.1 → (o ≡ Some s → set_key s ≡ k)
    → cond b (Some e.1) o ≡ Some s → set_key s ≡ k
here_or_later k e true o s t here later h =
    ap set_key (sym (same_Some e.1 s h)) ∙ sym here.key_is ∙ sym (key_cmp-exact k e.0 (tied _ t))
here_or_later k e false o s t here later h = later h

under_key : (k : RrKey) (es : ZoneSets) → AllByRecursion (λ (e : RrKey × SetValue). IsKeyed e.0 e.1) es
    → (s : SetValue) → lookup (is_at (key_cmp k)) es ≡ Some s → set_key s ≡ k
under_key k [] all s h = absurd cc
under_key k (e ∷ es) all s h = here_or_later k e (eq_by_cmp key_cmp k e.0) (lookup (is_at (key_cmp k)) es) s refl all.0
    (under_key k es all.1 s) h

pub are_under_keys : (m : BTreeMap RrKey SetValue) → AreKeyed m.entries → AreUnderKeys m
are_under_keys m kept = λ k s h. under_key k m.entries kept s h
