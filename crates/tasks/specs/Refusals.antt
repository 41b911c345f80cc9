-- The numbers of refusals of these calls alone (docs/REFUSALS.md has all).
use Rattle.std.specs.Prelude.{ℕ}

-- a text isn't UTF-8
abbrev pub not_utf8 : ℕ
not_utf8 = 24

-- a record isn't of the class IN
abbrev pub other_class : ℕ
other_class = 25

-- no zone is named: the origin has no bytes
abbrev pub no_origin : ℕ
no_origin = 26

-- the text of a set has no record, or records of several owners or types
abbrev pub not_one_set : ℕ
not_one_set = 27

-- the owner isn't in the zone
abbrev pub outside : ℕ
outside = 28

-- no update here is of this type
abbrev pub other_type : ℕ
other_type = 29

-- the record isn't the SOA of the zone
abbrev pub not_soa : ℕ
not_soa = 30

-- the message can't stand on the wire
abbrev pub not_on_wire : ℕ
not_on_wire = 31

-- the message has more than 65,535 bytes
abbrev pub too_long : ℕ
too_long = 32

-- an owner is left with two ANAME records, which the text of a zone can't say
abbrev pub two_anames : ℕ
two_anames = 33

-- the handle is closed
abbrev pub closed : ℕ
closed = 34

-- the zone has no SOA set of exactly one SOA record
abbrev pub no_soa : ℕ
no_soa = 35

-- the place of a transfer is none that a call left
abbrev pub no_place : ℕ
no_place = 36

-- a text names no class, or no response code
abbrev pub no_mnemonic : ℕ
no_mnemonic = 37

-- a response, where a query is asked for
abbrev pub not_a_query : ℕ
not_a_query = 38
