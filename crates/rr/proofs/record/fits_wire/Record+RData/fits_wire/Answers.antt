use Rattle.std.proofs.Common.{rules, ◌≡◌, ◌<◌, [], false, true, ap, refl, sym, ◌∙◌}
use Rattle.std.proofs.lemmas.Bool.{true≢false}
use Rattle.base.specs.DNSClass.{class_number, class_of, opt_class}
use Rattle.base.specs.RecordType.{same_type, type_number, type_of}
use Rattle.base.specs.declared.record_type.RecordType.{RecordType}
use Rattle.base.specs.declared.record_type.RecordType.TheVariants as types
use Rattle.base_data.proofs.SameData.{types_Decide}
use Rattle.base_data.specs.Kinds.{IsReadable, type_of_data}
use Rattle.base_data.specs.declared.rdata.RData.{RData}
use Rattle.rr.proofs.TypeReads.{reads_type}
use Rattle.rr.specs.Record.{FitsRecord, is_opt_type}
use Rattle.rr.specs.declared.record.Record.{Record}
use Rattle.rr.proofs.record.fits_wire.Record+RData.fits_wire.Goals as goal

not_opt : (t : RecordType) → same_type t types.OPT ≡ false → is_opt_type t ≡ false
not_opt types.OPT h = cc
not_opt _ h = refl

-- what holds of any record that fits
record IsOwn (r : Record RData) : Type 0 where
  absolute : r.name.absolute ≡ true
  readable : IsReadable r.rdata
  type_reads : type_of (type_number (type_of_data r.rdata)) ≡ type_of_data r.rdata

of_class : (r : Record RData) → IsOwn r → is_opt_type (type_of_data r.rdata) ≡ false
    → class_of (class_number r.dns_class) ≡ r.dns_class
    → class_number r.dns_class < 32768 → FitsRecord r
of_class r own plain reads narrow = record {
  reads = record {
    type_reads = own.type_reads;
    root =
        λ e. absurd (true≢false (sym (ap is_opt_type e) ∙ plain));
    readable = own.readable;
  };
  absolute = own.absolute;
  class_reads = λ _. reads;
  narrow = λ _. narrow;
  payload_reads = λ e. absurd (true≢false (sym e ∙ plain));
  not_flushing = λ e. absurd (true≢false (sym e ∙ plain));
}

of_payload : (r : Record RData) → IsOwn r → is_opt_type (type_of_data r.rdata) ≡ true → r.name.labels ≡ []
    → opt_class (class_number r.dns_class) ≡ r.dns_class
    → r.mdns_cache_flush ≡ false → FitsRecord r
of_payload r own opt root reads flush = record {
  reads = record { type_reads = own.type_reads; root = λ _. root; readable = own.readable };
  absolute = own.absolute;
  class_reads = λ e. absurd (true≢false (sym opt ∙ e));
  narrow = λ e. absurd (true≢false (sym opt ∙ e));
  payload_reads = λ _. reads;
  not_flushing = λ _. flush;
}

pub returns-then-is_root : goal.returns-then-is_root
returns-then-is_root c =
    let r = c.args.self.now in
    let own : IsOwn r = record {
      absolute = search rules;
      readable = search rules;
      type_reads =
          reads_type _ _ _ _ _ c.ne.ensures c.if-ne.false c.from-else-not-is_readable.ensures c.from.ensures
          c.record_type-record_type.ensures;
    } in
    let opt : is_opt_type (type_of_data r.rdata) ≡ true =
    ap is_opt_type ((types_Decide (type_of_data r.rdata) types.OPT).0 (search rules)) in
    let root : r.name.labels ≡ [] = search rules in (
      λ yes. let both = c.has_payload_size.ensures.0 yes in of_payload r own opt root both.0 both.1,
      λ fits. c.has_payload_size.ensures.1 (fits.payload_reads opt, fits.not_flushing opt),
    )

pub returns-else-eq : goal.returns-else-eq
returns-else-eq c =
    let r = c.args.self.now in
    let own : IsOwn r = record {
      absolute = search rules;
      readable = search rules;
      type_reads =
          reads_type _ _ _ _ _ c.ne.ensures c.if-ne.false c.from-else-not-is_readable.ensures c.from.ensures
          c.record_type-record_type.ensures;
    } in
    let plain : is_opt_type (type_of_data r.rdata) ≡ false = not_opt (type_of_data r.rdata) (search rules) in (
      λ yes. let both = c.has_class.ensures.0 yes in of_class r own plain both.0 both.1,
      λ fits. c.has_class.ensures.1 (fits.class_reads plain, fits.narrow plain),
    )
