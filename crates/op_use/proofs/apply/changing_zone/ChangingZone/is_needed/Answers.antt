use Rattle.base.specs.names.NameOrder.{same_name}
use Rattle.op_use.proofs.TypeSteps.{soa_is}
use Rattle.op_use.proofs.UpdateSteps.{counted}
use Rattle.op_use.proofs.apply.changing_zone.ChangingZone.is_needed.Goals as goal
use Rattle.op_use.specs.Applying.{records_at}
use Rattle.op_use.specs.HeldZone.{HeldZone}
use Rattle.rr.specs.Record.{record_key, type_of_record}
use Rattle.rr.specs.RecordSet.{is_ns, is_soa}
use Rattle.std.proofs.Common.{ap, length, nat_le, sym, true, ◌&&◌, ◌||◌, ◌∙◌, ◌≡◌}

pub returns-then-eq : goal.returns-then-eq
returns-then-eq c =
    let z = c.args.self.now in
    let soa : is_soa (type_of_record c.args.entry.now) ≡ true =
    ap is_soa (sym c.record_type.ensures) ∙ soa_is c.record_type.result ∙ sym c.eq.ensures ∙ c.if-eq.true in
    sym (counted z.origin z.class z.sets c.args.entry.now
    ∙ ap (λ b. b || ((same_name c.args.entry.now.name z.origin
    && (is_soa (type_of_record c.args.entry.now) || is_ns (type_of_record c.args.entry.now)))
    && nat_le (length (records_at z.sets (record_key c.args.entry.now))) 1)) soa)

pub returns-then-not-is_guarded : goal.returns-then-not-is_guarded
returns-then-not-is_guarded c =
    let z = c.args.self.now in
    let of_type = type_of_record c.args.entry.now in
    let few = nat_le (length (records_at z.sets (record_key c.args.entry.now))) 1 in
    let no_soa = ap is_soa (sym c.record_type.ensures) ∙ soa_is c.record_type.result ∙ sym c.eq.ensures
    ∙ c.if-eq.false in
    let free = ap (λ (y : HeldZone). same_name c.args.entry.now.name y.origin && (is_soa of_type || is_ns of_type))
    (sym c.self.view_is)
    ∙ ap (λ t. same_name c.args.entry.now.name c.self.inside.origin.now && (is_soa t || is_ns t))
    (sym c.record_type-2.ensures) ∙ sym c.is_guarded.ensures ∙ c.if-not-is_guarded.true in
    sym (counted z.origin z.class z.sets c.args.entry.now
    ∙ (λ i. no_soa i || (free i && few)))

pub returns : goal.returns
returns c =
    let z = c.args.self.now in
    let of_type = type_of_record c.args.entry.now in
    let few = nat_le (length (records_at z.sets (record_key c.args.entry.now))) 1 in
    let no_soa = ap is_soa (sym c.record_type.ensures) ∙ soa_is c.record_type.result ∙ sym c.eq.ensures
    ∙ c.if-eq.false in
    let guarded = ap (λ (y : HeldZone). same_name c.args.entry.now.name y.origin && (is_soa of_type || is_ns of_type))
    (sym c.self.view_is)
    ∙ ap (λ t. same_name c.args.entry.now.name c.self.inside.origin.now && (is_soa t || is_ns t))
    (sym c.record_type-2.ensures) ∙ sym c.is_guarded.ensures ∙ c.if-not-is_guarded.false in
    ap (λ n. nat_le n 1) (c.count.ensures ∙ ap (λ k. length (records_at z.sets k)) c.in_ok-key.ensures)
    ∙ sym (counted z.origin z.class z.sets c.args.entry.now ∙ (λ i. no_soa i || (guarded i && few)))
