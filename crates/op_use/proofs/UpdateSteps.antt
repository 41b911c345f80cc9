-- What the server makes of one update of a map.
use Rattle.base.specs.names.Labels.{NameValue}
use Rattle.base.specs.RrKey.{key_cmp}
use Rattle.base.specs.declared.dns_class.DNSClass.{DNSClass}
use Rattle.base.specs.declared.rr_key.RrKey.{RrKey}
use Rattle.base_data.specs.declared.rdata.RData.{RData}
use Rattle.op_use.proofs.KeySets.{each_key}
use Rattle.op_use.proofs.MapZones.{data_at}
use Rattle.op_use.proofs.ZoneSteps.{tied}
use Rattle.op_use.specs.AppliedRecords.{after_by, after_update, with_record}
use Rattle.op_use.specs.Applying.{IsZoneMap, records_at, zone_of_map}
use Rattle.op_use.specs.MapUpdates.{IsAfter, IsLeft, IsSetTo, names_set}
use Rattle.op_use.specs.NamedChanges.{datum_of, is_key_left}
use Rattle.op_use.specs.Server.{OfAny, OfNone, OfNothing, OfZone, is_any, is_kept_out, is_needed, is_under, use_of}
use Rattle.op_use.specs.Zone.{is_guarded, is_owned}
use Rattle.rr.specs.Record.{record_key, type_of_record}
use Rattle.rr.specs.RecordSet.{SetValue, is_soa}
use Rattle.rr.specs.SetChanges.{last_ttl, without}
use Rattle.rr.specs.declared.record.Record.{Record}
use Rattle.std.proofs.Common.{ap, inl, inr, subst, sym, ◌∙◌, ◌⊎◌}
use Rattle.std.proofs.lemmas.Bool.{cond-false, cond-true}
use Rattle.std.proofs.lemmas.List.{length-map}
use Rattle.std.specs.BTreeMap as tree
use Rattle.std.specs.BTreeMap.{BTreeMap}
use Rattle.std.specs.Prelude.{Bool, List, None, Some, [], cond, false, length, nat_le, not, true, ◌&&◌, ◌||◌, ◌∷◌, ◌≡◌}

-- whether a record stays, by the map's records
pub counted : (origin : NameValue) (class : DNSClass) (m : BTreeMap RrKey SetValue) (r : Record RData)
    → is_needed (zone_of_map origin class m) r
    ≡ (is_soa (type_of_record r) || (is_guarded (zone_of_map origin class m) r.name (type_of_record r)
    && nat_le (length (records_at m (record_key r))) 1))
counted origin class m r = ap (λ k. is_soa (type_of_record r)
    || (is_guarded (zone_of_map origin class m) r.name (type_of_record r) && nat_le k 1))
    (ap length (data_at origin class m (record_key r)) ∙ length-map (records_at m (record_key r)) datum_of)

module _ (origin : NameValue) (class : DNSClass) (m : BTreeMap RrKey SetValue) (r : Record RData) where
  -- an update changes its own set by F, if it may
  abbrev pub Changes : (List (Record RData) → List (Record RData)) → Bool → Type 0
  Changes F may = (q : RrKey) → after_update (zone_of_map origin class m) r q (records_at m q)
      ≡ cond (may && is_under r q) (F (records_at m q)) (records_at m q)

  pub adds : use_of class r.dns_class ≡ OfZone
      → Changes (with_record r) (not (is_kept_out (zone_of_map origin class m) r))
  adds u q = ap (λ how. after_by how (zone_of_map origin class m) r q (records_at m q)) u

  pub takes : use_of class r.dns_class ≡ OfNone
      → Changes (without r) (not (is_needed (zone_of_map origin class m) r))
  takes u q = ap (λ how. after_by how (zone_of_map origin class m) r q (records_at m q)) u

  pub deletes : use_of class r.dns_class ≡ OfAny → is_any (type_of_record r) ≡ false
      → Changes (λ xs. []) (not (is_guarded (zone_of_map origin class m) r.name (type_of_record r)))
  deletes u c q = ap (λ how. after_by how (zone_of_map origin class m) r q (records_at m q)) u
      ∙ ap (λ b. cond b [] (records_at m q)) (cond-false _ _ _ c)

  pub nothing : use_of class r.dns_class ≡ OfNothing → Changes (λ xs. xs) false
  nothing u q = ap (λ how. after_by how (zone_of_map origin class m) r q (records_at m q)) u

  module _ (old : IsZoneMap class m) where
    pub stays : (F : List (Record RData) → List (Record RData)) (may : Bool) → Changes F may → may ≡ false
        → IsAfter origin class (r ∷ []) m m
    stays F may change kept q = record {
      fits = old q;
      exact = sym (change q ∙ ap (λ b. cond (b && is_under r q) (F (records_at m q)) (records_at m q)) kept);
      source = λ s e. inl e;
    }

    pub moves : (F : List (Record RData) → List (Record RData)) (may : Bool) (n : BTreeMap RrKey SetValue)
        → Changes F may → may ≡ true → IsSetTo class (record_key r) (F (records_at m (record_key r))) m n
        → IsAfter origin class (r ∷ []) m n
    moves F may n change free h = each_key
        (λ q. IsLeft (zone_of_map origin class m) (r ∷ []) q (tree.get key_cmp m q) (tree.get key_cmp n q))
        (record_key r)
        (record {
          fits = h.fits;
          exact = h.records ∙ sym (records (record_key r) true (tied (record_key r)));
          source = λ s e. named s (h.ttl s e);
        })
        (λ q e. subst (λ o. IsLeft (zone_of_map origin class m) (r ∷ []) q (tree.get key_cmp m q) o)
        (sym (h.others q e)) (record { fits = old q; exact = sym (records q false e); source = λ s f. inl f })) where
          records : (q : RrKey) (b : Bool) → is_under r q ≡ b
              → after_update (zone_of_map origin class m) r q (records_at m q) ≡ cond b (F (records_at m q))
              (records_at m q)
          records q b e = change q ∙ (λ i. cond (free i && e i) (F (records_at m q)) (records_at m q))

          named : (s : SetValue) → (tree.get key_cmp m (record_key r) ≡ Some s) ⊎ (s.ttl ≡ last_ttl s.records)
              → (tree.get key_cmp m (record_key r) ≡ Some s)
              ⊎ ((names_set (r ∷ []) (record_key r) ≡ true) × (s.ttl ≡ last_ttl s.records))
          named s (inl e) = inl e
          named s (inr t) = inr (ap (λ b. b || false) (tied (record_key r)), t)

    -- all sets of a name but those that stay
    pub clears : (n : BTreeMap RrKey SetValue) → use_of class r.dns_class ≡ OfAny → is_any (type_of_record r) ≡ true
        → ((q : RrKey) → tree.get key_cmp n q
        ≡ cond (is_key_left (zone_of_map origin class m) r.name q) (tree.get key_cmp m q) None)
        → IsAfter origin class (r ∷ []) m n
    clears n u c h q = subst (λ o. IsLeft (zone_of_map origin class m) (r ∷ []) q (tree.get key_cmp m q) o)
        (sym (h q)) (by (is_owned r.name q) (is_guarded (zone_of_map origin class m) r.name q.record_type)
        (ap (λ how. after_by how (zone_of_map origin class m) r q (records_at m q)) u
        ∙ ap (λ b. cond b [] (records_at m q)) (cond-true _ _ _ c))) where
          by : (o g : Bool)
              → after_update (zone_of_map origin class m) r q (records_at m q) ≡ cond (o && not g) [] (records_at m q)
              → IsLeft (zone_of_map origin class m) (r ∷ []) q (tree.get key_cmp m q)
              (cond (not o || g) (tree.get key_cmp m q) None)
          by true false e = record { fits = λ s f. absurd cc; exact = sym e; source = λ s f. absurd cc }
          by true true e = record { fits = old q; exact = sym e; source = λ s f. inl f }
          by false g e = record { fits = old q; exact = sym e; source = λ s f. inl f }
