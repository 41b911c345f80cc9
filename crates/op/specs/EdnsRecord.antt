-- The OPT record of EDNS (RFC 6891, 6.1.2 and 6.1.3).
use Rattle.std.specs.Prelude.{ℕ, ◌+◌, ◌*◌, List, [], ◌∷◌, false, true}
use Rattle.base.specs.DNSClass.{opt_class}
use Rattle.base.specs.writing.Written.{Writing}
use Rattle.base.specs.declared.record_type.RecordType.TheVariants as types
use Rattle.base_data.specs.OPT.{OptionValue}
use Rattle.base_data.specs.declared.rdata.RData.{RData}
use Rattle.base_data.specs.declared.rdata.RData.TheVariants as kinds
use Rattle.rr.specs.Record.{RecordWord, plain_record, record_written}
use Rattle.rr.specs.declared.record.Record.{Record}
use Rattle.op.specs.EdnsFlags.{flags_number}
use Rattle.op.specs.declared.edns.Edns.{Edns}

-- the data of an OPT record; without options it is empty
abbrev pub opt_data : List OptionValue → RData
opt_data [] = kinds.Update0 types.OPT
opt_data (option ∷ options) = kinds.OPT (option ∷ options)

-- the TTL of an OPT record: the high code, the version and the flags
abbrev pub opt_ttl : Edns → ℕ
opt_ttl e = 16777216 * e.rcode_high + (65536 * e.version + flags_number e.flags)

-- the OPT record: the owner is the root, and the class the payload size, of 512 at least
abbrev pub edns_record : Edns → Record RData
edns_record e = record {
  name = record { labels = []; absolute = true };
  dns_class = opt_class e.max_payload;
  ttl = opt_ttl e;
  rdata = opt_data e.options;
  mdns_cache_flush = false;
}

-- the word that EDNS is written as
abbrev pub EdnsWord : Edns → List ℕ → ℕ → ℕ → Type 0
EdnsWord e = RecordWord (edns_record e)

-- what is written of it
abbrev pub edns_written : Edns → Writing
edns_written e = record_written (edns_record e)

-- the bytes of an OPT record
abbrev pub plain_edns : Edns → ℕ
plain_edns e = plain_record (edns_record e)
