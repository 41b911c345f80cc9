use Rattle.std.proofs.Common.{◌≡◌, List, refl, ap, ◌∙◌, rules}
use Rattle.std.specs.List.{AllZip, each_same}
use Rattle.std.specs.Option.{option_map}
use Rattle.std.proofs.lemmas.List.Elements.{same_from_all_zip}
use Rattle.base_data.specs.declared.rdata.RData.{RData}
use Rattle.rr.specs.declared.record.Record.{Record}
use Rattle.op.specs.Message.{message_value}
use Rattle.op.specs.declared.message.Message.{Message}
use Rattle.op.proofs.message.MessageClone.clone.Goals as goal

records_same : (xs ys : List (Record RData))
    → AllZip (λ (a b : Record RData). (b.rdata ≡ a.rdata) × (b ≡ record a { rdata = b.rdata })) xs ys → ys ≡ xs
records_same xs ys copies = same_from_all_zip _ xs ys copies
    (λ a b copy. copy.1 ∙ ap (λ (d : RData). record a { rdata = d }) copy.0)

values_same : (a b : Message) → b.metadata ≡ a.metadata → b.queries.items ≡ a.queries.items
    → b.answers.items ≡ a.answers.items → b.authorities.items ≡ a.authorities.items
    → b.additionals.items ≡ a.additionals.items
    → b.edns ≡ a.edns → option_map (λ s. s.value) b.signature ≡ option_map (λ s. s.value) a.signature
    → message_value b ≡ message_value a
values_same a b metadata queries answers authorities additionals edns signature =
    λ i. record {
      metadata = metadata i;
      queries = queries i;
      answers = answers i;
      authorities =
          authorities i;
      additionals = additionals i;
      edns = edns i;
      signature = signature i;
    }

pub returns : goal.returns
returns c =
    let m = c.args.self.now in
    let copy : Message = record {
      metadata = m.metadata;
      queries = c.in_ok-clone.field-0;
      answers = c.in_ok-clone-2.field-0;
      authorities = c.in_ok-clone-3.field-0;
      additionals = c.in_ok-clone-4.field-0;
      signature = c.in_ok-clone-5.field-0;
      edns = c.in_ok-clone-6.field-0;
    } in
    record {
      cases = values_same m copy refl (each_same m.queries.items c.in_ok-clone.field-0.items
          c.in_ok-clone.ensures.cases.0)
          (records_same m.answers.items c.in_ok-clone-2.field-0.items c.in_ok-clone-2.ensures.cases.0)
          (records_same m.authorities.items c.in_ok-clone-3.field-0.items c.in_ok-clone-3.ensures.cases.0)
          (records_same m.additionals.items c.in_ok-clone-4.field-0.items c.in_ok-clone-4.ensures.cases.0)
          (search rules)
          (search rules);
    }
