-- What decides on a name in a zone.
use Rattle.authority.specs.Answer.{AnswerValue}
use Rattle.authority.specs.Lookup.{encloser, exists, has_servers, highest_cut, name_with, source, wildcard_below}
use Rattle.base.specs.names.Labels.{NameValue}
use Rattle.base.specs.names.Parents.{is_at_or_below, is_below, is_within, parent}
use Rattle.base.specs.RrKey.{key_cmp}
use Rattle.base.specs.declared.rr_key.RrKey.{RrKey}
use Rattle.op.specs.Message.{MessageValue}
use Rattle.op_use.specs.Zone.{Datum, Zone, is_owned}
use Rattle.std.specs.FinMap as fin
use Rattle.std.specs.FinMap.{FinMap}
use Rattle.std.specs.Prelude.{Bool, List, Some, [], is_some, not, true, ℕ, ◌++◌, ◌≡◌}

-- a zone with other sets
abbrev pub with_sets : Zone → FinMap key_cmp (List Datum) → Zone
with_sets z sets = record z { sets = sets }

-- the zone without the sets that stand neither at the origin nor below it
abbrev pub inside : Zone → Zone
inside z = with_sets z (fin.retain_keys z.sets (λ (k : RrKey). is_at_or_below z.origin k.name))

-- whether a name lies strictly below a cut
abbrev pub is_hidden : Zone → NameValue → Bool
is_hidden z n = is_some (highest_cut z (parent n))

-- the zone without the sets that lie strictly below a cut
abbrev pub above_cuts : Zone → Zone
above_cuts z = with_sets z (fin.retain_keys z.sets (λ (k : RrKey). not (is_hidden z k.name)))

-- an answer without additional records
abbrev pub less_additionals : AnswerValue → AnswerValue
less_additionals a = record a { additionals = [] }

-- a message without additional records
abbrev pub message_less_additionals : MessageValue → MessageValue
message_less_additionals m = record m { additionals = [] }

-- Other sets are as those of a zone where they decide on a name: which of its ends, from the origin down, exist, and
-- which have name servers; whether there is an asterisk below its closest encloser; and the sets of the source of its
-- data.
pub record Agree (z : Zone) (sets : FinMap key_cmp (List Datum)) (n : NameValue) : Type 0 where
  pub ends : (front labels : List (List ℕ)) → n.labels ≡ front ++ labels
      → is_within z.origin (name_with n.absolute labels) ≡ true
      → exists z (name_with n.absolute labels) ≡ exists (with_sets z sets) (name_with n.absolute labels)
  pub servers : (front labels : List (List ℕ)) → n.labels ≡ front ++ labels
      → is_below z.origin (name_with n.absolute labels) ≡ true
      → has_servers z (name_with n.absolute labels) ≡ has_servers (with_sets z sets) (name_with n.absolute labels)
  pub asterisk : exists z (wildcard_below (encloser z n)) ≡ exists (with_sets z sets) (wildcard_below (encloser z n))
  pub at_source : (s : NameValue) (k : RrKey) → source z n ≡ Some s → is_owned s k ≡ true
      → fin.get z.sets k ≡ fin.get sets k
