-- What a borrowed record shows.
use Rattle.rr.specs.declared.record.Record.{Record}
use Rattle.rr.specs.declared.record_ref.RecordRef.{RecordRef}

-- the record that is borrowed, its data of the kind that it is known to be
abbrev pub seen : {R : Type 0} → RecordRef R → Record R
seen r = record {
  name = r.name.now;
  dns_class = r.dns_class;
  ttl = r.ttl;
  rdata = r.rdata.now;
  mdns_cache_flush = r.mdns_cache_flush;
}
