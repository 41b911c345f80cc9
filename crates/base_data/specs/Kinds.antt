-- The kinds of record data, and what is known of each: every table of kinds is a part of this one.
use Rattle.std.specs.Prelude.{◌≢◌, ℕ, Bool, true, false, List, [], IsTrue, Option, Some, None, Result, Ok, Err, map}
use Rattle.std.specs.Prelude.{option_map}
use Rattle.std.specs.Option.{ok_or}
use Rattle.base.specs.names.Labels.{NameValue}
use Rattle.base.specs.reading.Reading.{Read, bytes_at, ◌>>=◌}
use Rattle.base.specs.writing.Says.{Says}
use Rattle.base.specs.writing.Written.{Writing}
use Rattle.base.specs.texts.TextFaults.{Fault, bad_data, unsupported_type}
use Rattle.base.specs.declared.error.decode_error.DecodeError.TheVariants as faults
use Rattle.base.specs.declared.record_type.RecordType.{RecordType}
use Rattle.base.specs.declared.record_type.RecordType.TheVariants as types
use Rattle.base_data.specs.A.{a_at, a_kind, a_of}
use Rattle.base_data.specs.AAAA.{aaaa_at, aaaa_kind, aaaa_of}
use Rattle.base_data.specs.ANAME.{aname_at, aname_kind, aname_of}
use Rattle.base_data.specs.CNAME.{cname_at, cname_kind, cname_of}
use Rattle.base_data.specs.Kind.{Kind}
use Rattle.base_data.specs.MX.{mx_at, mx_kind, mx_of}
use Rattle.base_data.specs.NS.{ns_at, ns_kind, ns_of}
use Rattle.base_data.specs.OPT.{opt_at, opt_kind}
use Rattle.base_data.specs.Opaque.{bytes_kind}
use Rattle.base_data.specs.PTR.{ptr_at, ptr_kind, ptr_of}
use Rattle.base_data.specs.SOA.{soa_at, soa_kind, soa_of}
use Rattle.base_data.specs.SRV.{srv_at, srv_kind, srv_of}
use Rattle.base_data.specs.TXT.{txt_at, txt_kind, txt_of}
use Rattle.base_data.specs.declared.rdata.RData.{RData}
use Rattle.base_data.specs.declared.rdata.RData.TheVariants as kinds
use Rattle.base_data.specs.declared.rdata.a.A.{A}
use Rattle.base_data.specs.declared.rdata.aaaa.AAAA.{AAAA}
use Rattle.base_data.specs.declared.rdata.aname.ANAME.{ANAME}
use Rattle.base_data.specs.declared.rdata.cname.CNAME.{CNAME}
use Rattle.base_data.specs.declared.rdata.mx.MX.{MX}
use Rattle.base_data.specs.declared.rdata.ns.NS.{NS}
use Rattle.base_data.specs.declared.rdata.null.NULL.{NULL}
use Rattle.base_data.specs.declared.rdata.opt.OPT.{OPT}
use Rattle.base_data.specs.declared.rdata.ptr.PTR.{PTR}
use Rattle.base_data.specs.declared.rdata.soa.SOA.{SOA}
use Rattle.base_data.specs.declared.rdata.srv.SRV.{SRV}
use Rattle.base_data.specs.declared.rdata.tsig.TSIG.{TSIG}
use Rattle.base_data.specs.declared.rdata.txt.TXT.{TXT}

-- whether data of the type is only carried: the type has no kind of its own, and may have data
abbrev pub is_carried : RecordType → Bool
is_carried types.ZERO = false
is_carried types.A = false
is_carried types.NS = false
is_carried types.CNAME = false
is_carried types.SOA = false
is_carried types.NULL = false
is_carried types.PTR = false
is_carried types.MX = false
is_carried types.TXT = false
is_carried types.AAAA = false
is_carried types.SRV = false
is_carried types.OPT = false
is_carried types.TSIG = false
is_carried types.ANAME = false
is_carried _ = true

-- what is known of data, by its kind
abbrev pub kind_of : RData → Kind
kind_of (kinds.A x) = a_kind x
kind_of (kinds.AAAA x) = aaaa_kind x
kind_of (kinds.NS x) = ns_kind x
kind_of (kinds.CNAME x) = cname_kind x
kind_of (kinds.PTR x) = ptr_kind x
kind_of (kinds.ANAME x) = aname_kind x
kind_of (kinds.MX x) = mx_kind x
kind_of (kinds.SOA x) = soa_kind x
kind_of (kinds.SRV x) = srv_kind x
kind_of (kinds.TXT x) = txt_kind x
kind_of (kinds.NULL x) = bytes_kind (x ≢ []) x
kind_of (kinds.OPT x) = opt_kind x
kind_of (kinds.TSIG x) = bytes_kind (x ≢ []) x
kind_of (kinds.Update0 type) = bytes_kind (Unit {0}) []
kind_of (kinds.Unknown code x) = bytes_kind (IsTrue (is_carried code) × (x ≢ [])) x

-- the type of data
abbrev pub type_of_data : RData → RecordType
type_of_data (kinds.A x) = types.A
type_of_data (kinds.AAAA x) = types.AAAA
type_of_data (kinds.NS x) = types.NS
type_of_data (kinds.CNAME x) = types.CNAME
type_of_data (kinds.PTR x) = types.PTR
type_of_data (kinds.ANAME x) = types.ANAME
type_of_data (kinds.MX x) = types.MX
type_of_data (kinds.SOA x) = types.SOA
type_of_data (kinds.SRV x) = types.SRV
type_of_data (kinds.TXT x) = types.TXT
type_of_data (kinds.NULL x) = types.NULL
type_of_data (kinds.OPT x) = types.OPT
type_of_data (kinds.TSIG x) = types.TSIG
type_of_data (kinds.Update0 type) = type
type_of_data (kinds.Unknown code x) = code

-- the place of its kind in the order of kinds, that of the variants
abbrev pub kind_rank : RData → ℕ
kind_rank (kinds.A x) = 0
kind_rank (kinds.AAAA x) = 1
kind_rank (kinds.NS x) = 2
kind_rank (kinds.CNAME x) = 3
kind_rank (kinds.PTR x) = 4
kind_rank (kinds.ANAME x) = 5
kind_rank (kinds.MX x) = 6
kind_rank (kinds.SOA x) = 7
kind_rank (kinds.SRV x) = 8
kind_rank (kinds.TXT x) = 9
kind_rank (kinds.NULL x) = 10
kind_rank (kinds.OPT x) = 11
kind_rank (kinds.TSIG x) = 12
kind_rank (kinds.Update0 type) = 13
kind_rank (kinds.Unknown code x) = 14

-- ---- reading, by type

-- what was read of one kind, as data of any record
abbrev pub as_any : {X : Type 0} → (X → RData) → Read X → Read RData
as_any kind read = read >>= λ r. Ok (kind r.0, r.1)

-- the data of a type that begins at a place; a type without a kind of its own is only carried, and type 0 has no data
unfoldable pub kind_at : RecordType → ℕ → List ℕ → ℕ → Read RData
kind_at types.A len bytes i = as_any kinds.A (a_at bytes i)
kind_at types.AAAA len bytes i = as_any kinds.AAAA (aaaa_at bytes i)
kind_at types.NS len bytes i = as_any kinds.NS (ns_at bytes i)
kind_at types.CNAME len bytes i = as_any kinds.CNAME (cname_at bytes i)
kind_at types.PTR len bytes i = as_any kinds.PTR (ptr_at bytes i)
kind_at types.ANAME len bytes i = as_any kinds.ANAME (aname_at bytes i)
kind_at types.MX len bytes i = as_any kinds.MX (mx_at bytes i)
kind_at types.SOA len bytes i = as_any kinds.SOA (soa_at bytes i)
kind_at types.SRV len bytes i = as_any kinds.SRV (srv_at bytes i)
kind_at types.TXT len bytes i = as_any kinds.TXT (txt_at len bytes i)
kind_at types.NULL len bytes i = as_any kinds.NULL (bytes_at len bytes i)
kind_at types.OPT len bytes i = as_any kinds.OPT (opt_at len bytes i)
kind_at types.TSIG len bytes i = as_any kinds.TSIG (bytes_at len bytes i)
kind_at types.ZERO len bytes i = Err (faults.BadData types.ZERO)
kind_at type len bytes i = as_any (kinds.Unknown type) (bytes_at len bytes i)

-- ---- reading its text, by type

-- data of one kind as that of any record, or the fault of a type whose items name no data
abbrev pub any_of : {X : Type 0} → (X → RData) → RecordType → Option X → Result RData Fault
any_of kind type made = ok_or (option_map kind made) (bad_data type)

-- The data of a type that the items of a text name under an origin. A type that isn't here has no text form.
unfoldable pub data_of : RecordType → List (List ℕ) → Option NameValue → Result RData Fault
data_of types.A items origin = any_of kinds.A types.A (a_of items)
data_of types.AAAA items origin = any_of kinds.AAAA types.AAAA (aaaa_of items)
data_of types.NS items origin = any_of kinds.NS types.NS (ns_of items origin)
data_of types.CNAME items origin = any_of kinds.CNAME types.CNAME (cname_of items origin)
data_of types.PTR items origin = any_of kinds.PTR types.PTR (ptr_of items origin)
data_of types.ANAME items origin = any_of kinds.ANAME types.ANAME (aname_of items origin)
data_of types.MX items origin = any_of kinds.MX types.MX (mx_of items origin)
data_of types.SOA items origin = any_of kinds.SOA types.SOA (soa_of items origin)
data_of types.SRV items origin = any_of kinds.SRV types.SRV (srv_of items origin)
data_of types.TXT items origin = any_of kinds.TXT types.TXT (txt_of items)
data_of type items origin = Err (unsupported_type type)

-- ---- what is known of data of any kind

-- the word that data is written as, that of its kind; empty data has no bytes
abbrev pub DataWord : RData → List ℕ → ℕ → ℕ → Type 0
DataWord d = (kind_of d).word

-- how many bytes data is with its names uncompressed
abbrev pub plain_data : RData → ℕ
plain_data d = (kind_of d).plain

-- what is written of data
abbrev pub data_written : RData → Writing
data_written d = (kind_of d).written

-- the text of data, that of its kind
abbrev pub data_text : RData → List ℕ
data_text d = (kind_of d).text

-- what its type keeps of data
abbrev pub KeptData : RData → Type 0
KeptData d = (kind_of d).kept

-- where what is written of data stands, its word stands
abbrev pub data_says : (d : RData)
    → Says (data_written d) (KeptData d) (DataWord d) (plain_data d) []
data_says d = (kind_of d).says

-- Data that the kind of its own type reads: names are absolute, and data that has no byte is `Update0`. A string's
-- length is one byte, so what stands in bytes has no longer ones.
abbrev pub IsReadable : RData → Type 0
IsReadable d = (kind_of d).readable

-- the bytes of the canonical form (RFC 4034, 6.2)
abbrev pub canonical_data : RData → List ℕ
canonical_data d = (kind_of d).canonical

-- the names of data, from the left
abbrev pub data_names : RData → List NameValue
data_names d = (kind_of d).held

-- the places of the names of data, where it begins at a place of a buffer
abbrev pub data_places : RData → List ℕ → ℕ → List ℕ
data_places d = (kind_of d).places

-- whether each name is absolute, from the left
abbrev pub name_flags : RData → List Bool
name_flags d = map (λ name. name.absolute) (data_names d)

-- the items of its text, a string without its quotes; none of a kind without a text form
abbrev pub items_of : RData → Option (List (List ℕ))
items_of d = (kind_of d).items

-- how an item stands in the text of data: a string in its quotes
abbrev pub shown_item : RData → List ℕ → List ℕ
shown_item d = (kind_of d).shown

-- data of a kind with a text form, as the program's types hold it, its names with texts
abbrev pub HasTextForm : RData → Type 0
HasTextForm d = (kind_of d).spelled

-- ---- the data of one kind, if data is of that kind

-- the A data, if data is of this kind
abbrev pub a_in : RData → Option A
a_in (kinds.A x) = Some x
a_in _ = None

-- the AAAA data, if data is of this kind
abbrev pub aaaa_in : RData → Option AAAA
aaaa_in (kinds.AAAA x) = Some x
aaaa_in _ = None

-- the NS data, if data is of this kind
abbrev pub ns_in : RData → Option NS
ns_in (kinds.NS x) = Some x
ns_in _ = None

-- the CNAME data, if data is of this kind
abbrev pub cname_in : RData → Option CNAME
cname_in (kinds.CNAME x) = Some x
cname_in _ = None

-- the PTR data, if data is of this kind
abbrev pub ptr_in : RData → Option PTR
ptr_in (kinds.PTR x) = Some x
ptr_in _ = None

-- the ANAME data, if data is of this kind
abbrev pub aname_in : RData → Option ANAME
aname_in (kinds.ANAME x) = Some x
aname_in _ = None

-- the MX data, if data is of this kind
abbrev pub mx_in : RData → Option MX
mx_in (kinds.MX x) = Some x
mx_in _ = None

-- the SOA data, if data is of this kind
abbrev pub soa_in : RData → Option SOA
soa_in (kinds.SOA x) = Some x
soa_in _ = None

-- the SRV data, if data is of this kind
abbrev pub srv_in : RData → Option SRV
srv_in (kinds.SRV x) = Some x
srv_in _ = None

-- the TXT data, if data is of this kind
abbrev pub txt_in : RData → Option TXT
txt_in (kinds.TXT x) = Some x
txt_in _ = None

-- the NULL data, if data is of this kind
abbrev pub null_in : RData → Option NULL
null_in (kinds.NULL x) = Some x
null_in _ = None

-- the OPT data, if data is of this kind
abbrev pub opt_in : RData → Option OPT
opt_in (kinds.OPT x) = Some x
opt_in _ = None

-- the TSIG data, if data is of this kind
abbrev pub tsig_in : RData → Option TSIG
tsig_in (kinds.TSIG x) = Some x
tsig_in _ = None
