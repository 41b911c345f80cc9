-- Maps of record sets as zones.
use Rattle.base.proofs.names.KeyLemmas.{key_cmp-exact, key_cmp-total}
use Rattle.base.specs.names.Labels.{NameValue}
use Rattle.base.specs.RrKey.{key_cmp}
use Rattle.base.specs.declared.dns_class.DNSClass.{DNSClass}
use Rattle.base.specs.declared.record_type.RecordType.{RecordType}
use Rattle.base.specs.declared.rr_key.RrKey.{RrKey}
use Rattle.op_use.specs.Applying.{data_in_set, entry_of, records_at, records_in, zone_of_map}
use Rattle.op_use.specs.NamedChanges.{datum_of}
use Rattle.op_use.specs.Zone.{Datum, at, has_set, has_type_at, is_owned}
use Rattle.rr.specs.RecordSet.{SetValue}
use Rattle.std.proofs.Common.{ap, refl, sym, ◌∙◌}
use Rattle.std.proofs.Math.Bool.{or_assoc, or_comm, or_self}
use Rattle.std.proofs.lemmas.List.{nil_from_length}
use Rattle.std.specs.BTreeMap as tree
use Rattle.std.specs.BTreeMap.{BTreeMap, is_at}
use Rattle.std.specs.FinMap as fin
use Rattle.std.specs.FinMap.Entries.{by_order}
use Rattle.std.specs.FinMap.{FinMap}
use Rattle.std.specs.List.{list_any}
use Rattle.std.specs.Map.{keys_of, lookup}
use Rattle.std.specs.Ordering.{eq_by_cmp}
use Rattle.std.specs.Prelude.{Bool, List, None, Option, Some, [], cond, false, is_some, map, option_map, true}
use Rattle.std.specs.Prelude.{unwrap_or, ◌&&◌, ◌||◌, ◌∷◌, ◌≡◌}
use Rattle.std.specs.declared.cmp.Ordering.TheVariants.{Equal, Greater, Less}
use Rattle.std.specs.declared.cmp.Ordering.{Ordering}

pushed : (b : Bool) (s : SetValue) (o : Option SetValue)
    → cond b (Some (data_in_set s)) (option_map data_in_set o) ≡ option_map data_in_set (cond b (Some s) o)
pushed true s o = refl
pushed false s o = refl

found : (es : List (RrKey × SetValue)) (q : RrKey)
    → fin.find key_cmp q (map entry_of es) ≡ option_map data_in_set (lookup (is_at (key_cmp q)) es)
found [] q = refl
found (e ∷ es) q = ap (cond (eq_by_cmp key_cmp q e.0) (Some (data_in_set e.1))) (found es q)
    ∙ pushed (eq_by_cmp key_cmp q e.0) e.1 (lookup (is_at (key_cmp q)) es)

-- what the zone of a map has under a key
pub get_zone : (origin : NameValue) (class : DNSClass) (m : BTreeMap RrKey SetValue) (q : RrKey)
    → fin.get (zone_of_map origin class m).sets q ≡ option_map data_in_set (tree.get key_cmp m q)
get_zone origin class m q = fin.get-from_entries key_cmp-total (map entry_of m.entries) q ∙ found m.entries q

-- what a zone has under a key
data_in : (o : Option SetValue) → unwrap_or (option_map data_in_set o) [] ≡ map datum_of (records_in o)
data_in None = refl
data_in (Some s) = refl

pub data_at : (origin : NameValue) (class : DNSClass) (m : BTreeMap RrKey SetValue) (k : RrKey)
    → at (zone_of_map origin class m) k ≡ map datum_of (records_at m k)
data_at origin class m k = ap (λ o. unwrap_or o []) (get_zone origin class m k) ∙ data_in (tree.get key_cmp m k)

-- whether a zone's keys have one that passes a test
exchanged : (b c d : Bool) → (b || (c || d)) ≡ (c || (b || d))
exchanged b c d = sym (or_assoc b c d) ∙ ap (λ x. x || d) (or_comm b c) ∙ or_assoc c b d

any_put_at : (p : RrKey → Bool) (k : RrKey) (v : List Datum) (e : RrKey × List Datum) (es : List (RrKey × List Datum))
    (o : Ordering) → key_cmp k e.0 ≡ o
    → list_any p (map (λ e. e.0) (fin.put key_cmp k v es)) ≡ (p k || list_any p (map (λ e. e.0) es))
    → list_any p (map (λ e. e.0) (by_order o ((k, v) ∷ e ∷ es) ((e.0, v) ∷ es) (e ∷ fin.put key_cmp k v es)))
    ≡ (p k || (p e.0 || list_any p (map (λ e. e.0) es)))
any_put_at p k v e es Less t h = refl
any_put_at p k v e es Equal t h = ap (λ b. b || list_any p (map (λ e. e.0) es)) (sym (or_self (p e.0)))
    ∙ or_assoc (p e.0) (p e.0) (list_any p (map (λ e. e.0) es))
    ∙ ap (λ (q : RrKey). p q || (p e.0 || list_any p (map (λ e. e.0) es))) (sym (key_cmp-exact k e.0 t))
any_put_at p k v e es Greater t h = ap (λ b. p e.0 || b) h ∙ exchanged (p e.0) (p k) (list_any p (map (λ e. e.0) es))

any_put : (p : RrKey → Bool) (k : RrKey) (v : List Datum) (es : List (RrKey × List Datum))
    → list_any p (map (λ e. e.0) (fin.put key_cmp k v es)) ≡ (p k || list_any p (map (λ e. e.0) es))
any_put p k v [] = refl
any_put p k v (e ∷ es) = any_put_at p k v e es (key_cmp k e.0) refl (any_put p k v es)

pub any_insert : (p : RrKey → Bool) (m : FinMap key_cmp (List Datum)) (k : RrKey) (v : List Datum)
    → list_any p (fin.keys (fin.insert m k v)) ≡ (p k || list_any p (fin.keys m))
any_insert p m k v = ap (λ es. list_any p (map (λ e. e.0) es)) (fin.entries-insert key_cmp-total m k v)
    ∙ any_put p k v (fin.entries m)

pub no_entries : fin.entries (fin.empty {X = List Datum} {R = key_cmp}) ≡ []
no_entries = nil_from_length _ (sym (fin.len-entries (fin.empty {X = List Datum} {R = key_cmp}))
    ∙ fin.len-empty key_cmp (List Datum))

pub any_entries : (p : RrKey → Bool) (es : List (RrKey × SetValue))
    → list_any p (fin.keys (fin.from_entries {R = key_cmp} (map entry_of es))) ≡ list_any p (keys_of es)
any_entries p [] = ap (λ es. list_any p (map (λ e. e.0) es)) no_entries
any_entries p (e ∷ es) = any_insert p (fin.from_entries (map entry_of es)) e.0 (data_in_set e.1)
    ∙ ap (λ b. p e.0 || b) (any_entries p es)

-- the types at an owner, by the map's keys
pub types_at : (origin : NameValue) (class : DNSClass) (m : BTreeMap RrKey SetValue) (owner : NameValue)
    (test : RecordType → Bool)
    → has_type_at (zone_of_map origin class m) owner test ≡ list_any (λ k. is_owned owner k && test k.record_type)
    (tree.keys m)
types_at origin class m owner test = any_entries (λ k. is_owned owner k && test k.record_type) m.entries

mapped : (o : Option SetValue) → is_some (option_map data_in_set o) ≡ is_some o
mapped None = refl
mapped (Some s) = refl

pub set_at : (origin : NameValue) (class : DNSClass) (m : BTreeMap RrKey SetValue) (k : RrKey)
    → has_set (zone_of_map origin class m) k ≡ is_some (tree.get key_cmp m k)
set_at origin class m k = ap is_some (get_zone origin class m k) ∙ mapped (tree.get key_cmp m k)
