use Rattle.std.proofs.Common.{rules, ◌≡◌, [], ◌∷◌, ◌++◌, ap, sym, ◌∙◌, subst, false, true, List, Ok}
use Rattle.std.specs.BTreeMap.{BTreeMap, insert_entry, is_at}
use Rattle.std.specs.Map.{lookup}
use Rattle.std.specs.Prelude.{is_some, ⊤}
use Rattle.base.specs.RrKey.{key_cmp, key_of}
use Rattle.base.specs.declared.rr_key.RrKey.{RrKey}
use Rattle.base_data.specs.Kinds.{type_of_data}
use Rattle.base_data.specs.declared.rdata.RData.{RData}
use Rattle.rr.specs.RecordSet.{is_soa}
use Rattle.rr.specs.declared.record.Record.{Record}
use Rattle.txt.specs.Gathered.{KeyedRecords, KnowsSoas, gathered}
use Rattle.txt.specs.ZoneSets.{sets_with}
use Rattle.rr.specs.Record.{record_key}
use Rattle.txt.proofs.Gathering.{added_other, added_unknown, gathered_in_order, knows_new, knows_other, with_last}
use Rattle.txt.proofs.zone.sets.make_room.Goals as goal
use Rattle.txt.proofs.zone.sets.make_room.Goals.{then-eq+in_ok-note, else-eq}

-- the record may go in after the others
record MayGoIn (keys : List (RrKey × ⊤)) (es : KeyedRecords) (r : Record RData) : Type 0 where
  pub soas : KnowsSoas keys (es ++ (record_key r, r) ∷ [])
  pub sets : sets_with (gathered es) r ≡ Ok (gathered (es ++ (record_key r, r) ∷ []))

noted : (soas new : List (RrKey × ⊤)) (es : KeyedRecords) (r : Record RData) → KnowsSoas soas es
    → is_soa (type_of_data r.rdata) ≡ true
    → is_some (lookup (is_at (key_cmp (record_key r))) soas) ≡ false → new ≡ insert_entry key_cmp soas (record_key r) tt
    → MayGoIn new es r
noted soas new es r knows soa unknown is = record {
  soas = subst (λ (ks : List (RrKey × ⊤)). KnowsSoas ks (es ++ (record_key r, r) ∷ [])) (sym is)
      (knows_new soas es (record_key r, r) tt knows);
  sets = added_unknown (gathered es) r (sym (knows (record_key r) soa) ∙ unknown)
      ∙ ap Ok (sym (with_last [] es (record_key r, r)));
}

left : (soas new : List (RrKey × ⊤)) (es : KeyedRecords) (r : Record RData) → KnowsSoas soas es
    → is_soa (type_of_data r.rdata) ≡ false
    → new ≡ soas → MayGoIn new es r
left soas new es r knows none is = record {
  soas = subst (λ (ks : List (RrKey × ⊤)). KnowsSoas ks (es ++ (record_key r, r) ∷ [])) (sym is)
      (knows_other soas es (record_key r, r) none knows);
  sets = added_other (gathered es) r none (gathered_in_order es)
      ∙ ap Ok (sym (with_last [] es (record_key r, r)));
}

may_go_in : (c : goal.Joined-eq) → MayGoIn c.if-eq.soas.entries c.args.entries.now.items c.args.entry.now
may_go_in c =
    let soas = c.args.soas.now.entries in
    let es = c.args.entries.now.items in
    let r : Record RData = c.args.entry.now in
    elim c.if-eq.branch [
      | then-eq+in_ok-note w ↦
          let soa : is_soa (type_of_data c.args.entry.now.rdata) ≡ true = search rules in
          let key = c.in_ok-key.ensures ∙ ap (key_of r.name) c.record_type.ensures in
          let unknown = subst (λ (k : RrKey). is_some (lookup (is_at (key_cmp k)) soas) ≡ false)
          key w.in_ok-note.ensures.refused in
          let is : c.if-eq.soas.entries ≡ insert_entry key_cmp soas (record_key r) tt =
          ap (λ (t : BTreeMap RrKey ⊤). t.entries) w.soas-is ∙ w.in_ok-note.ensures.ok
          ∙ ap (λ (k : RrKey). insert_entry key_cmp soas k tt) key in
          noted soas c.if-eq.soas.entries es r c.requires soa unknown is
      | else-eq w ↦
          let none : is_soa (type_of_data c.args.entry.now.rdata) ≡ false = search rules in
          left soas c.if-eq.soas.entries es r c.requires none (ap (λ (t : BTreeMap RrKey ⊤). t.entries) w.soas-is)
    ]

pub returns-clause-soas : goal.returns-clause-soas
returns-clause-soas c = (may_go_in c).soas

pub returns-clause-sets : goal.returns-clause-sets
returns-clause-sets c = (may_go_in c).sets
