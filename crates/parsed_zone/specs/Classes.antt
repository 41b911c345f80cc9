-- The class of a zone's sets.
use Rattle.std.specs.List.{list_all}
use Rattle.std.specs.Map.{values_of}
use Rattle.std.specs.Prelude.{Bool, false, true, ◌&&◌}
use Rattle.base.specs.declared.dns_class.DNSClass.TheVariants as classes
use Rattle.base.specs.declared.dns_class.DNSClass.{DNSClass}
use Rattle.base_data.specs.declared.rdata.RData.{RData}
use Rattle.rr.specs.RecordSet.{SetValue}
use Rattle.rr.specs.declared.record.Record.{Record}
use Rattle.txt.specs.ZoneSets.{ZoneSets}

-- whether a class is IN
abbrev pub is_in : DNSClass → Bool
is_in classes.IN = true
is_in _ = false

-- whether a set and each of its records are of the class IN
abbrev pub is_set_in : SetValue → Bool
is_set_in s = is_in s.dns_class && list_all (λ (r : Record RData). is_in r.dns_class) s.records

-- whether all sets are
abbrev pub are_sets_in : ZoneSets → Bool
are_sets_in sets = list_all is_set_in (values_of sets)
