-- The response codes (RFC 1035, 4.1.1; RFC 2136, 2.2; RFC 6891, 9; RFC 8945, 3; RFC 2930, 2.6; RFC 7873, 8).
use Rattle.std.specs.Prelude.{ℕ, List, ◌++◌, ◌+◌, ◌*◌, ◌/◌, ◌%◌, ◌==◌, codes, if◌then◌else◌, Option, Some, None}
use Rattle.std.specs.Prelude.{unwrap_or}
use Rattle.std.specs.Fmt.{decimal}
use Rattle.std.specs.Ordering.{nat_cmp, on, then_cmp}
use Rattle.std.specs.declared.cmp.Ordering.{Ordering}
use Rattle.op.specs.declared.response_code.ResponseCode.{ResponseCode}
use Rattle.op.specs.declared.response_code.ResponseCode.TheVariants as code

-- the number: four bits in the header, and eight above them in an OPT record (RFC 6891, 6.1.3)
abbrev pub code_number : ResponseCode → ℕ
code_number code.NoError = 0
code_number code.FormErr = 1
code_number code.ServFail = 2
code_number code.NXDomain = 3
code_number code.NotImp = 4
code_number code.Refused = 5
code_number code.YXDomain = 6
code_number code.YXRRSet = 7
code_number code.NXRRSet = 8
code_number code.NotAuth = 9
code_number code.NotZone = 10
code_number code.BADVERS = 16
code_number code.BADSIG = 16
code_number code.BADKEY = 17
code_number code.BADTIME = 18
code_number code.BADMODE = 19
code_number code.BADNAME = 20
code_number code.BADALG = 21
code_number code.BADTRUNC = 22
code_number code.BADCOOKIE = 23
code_number (code.Unknown number) = number

-- the code of a number; 16 is BADVERS and BADSIG, and reads as the second
abbrev pub code_value : ℕ → ResponseCode
code_value number =
    if number == 0 then code.NoError
    else (if number == 1 then code.FormErr
    else (if number == 2 then code.ServFail
    else (if number == 3 then code.NXDomain
    else (if number == 4 then code.NotImp
    else (if number == 5 then code.Refused
    else (if number == 6 then code.YXDomain
    else (if number == 7 then code.YXRRSet
    else (if number == 8 then code.NXRRSet
    else (if number == 9 then code.NotAuth
    else (if number == 10 then code.NotZone
    else (if number == 16 then code.BADSIG
    else (if number == 17 then code.BADKEY
    else (if number == 18 then code.BADTIME
    else (if number == 19 then code.BADMODE
    else (if number == 20 then code.BADNAME
    else (if number == 21 then code.BADALG
    else (if number == 22 then code.BADTRUNC
    else (if number == 23 then code.BADCOOKIE
    else code.Unknown number))))))))))))))))))

-- the four bits that the header holds (RFC 1035, 4.1.1)
abbrev pub code_low : ResponseCode → ℕ
code_low c = code_number c % 16

-- the eight bits above them, which an OPT record holds (RFC 6891, 6.1.3)
abbrev pub code_high : ResponseCode → ℕ
code_high c = code_number c / 16 % 256

-- the code of both parts
abbrev pub code_from : ℕ → ℕ → ResponseCode
code_from high low = code_value (high * 16 + low % 16)

-- the name that the standards give the code
abbrev pub code_name : ResponseCode → Option (List ℕ)
code_name code.NoError = Some (codes "NoError")
code_name code.FormErr = Some (codes "FormErr")
code_name code.ServFail = Some (codes "ServFail")
code_name code.NXDomain = Some (codes "NXDomain")
code_name code.NotImp = Some (codes "NotImp")
code_name code.Refused = Some (codes "Refused")
code_name code.YXDomain = Some (codes "YXDomain")
code_name code.YXRRSet = Some (codes "YXRRSet")
code_name code.NXRRSet = Some (codes "NXRRSet")
code_name code.NotAuth = Some (codes "NotAuth")
code_name code.NotZone = Some (codes "NotZone")
code_name code.BADVERS = Some (codes "BADVERS")
code_name code.BADSIG = Some (codes "BADSIG")
code_name code.BADKEY = Some (codes "BADKEY")
code_name code.BADTIME = Some (codes "BADTIME")
code_name code.BADMODE = Some (codes "BADMODE")
code_name code.BADNAME = Some (codes "BADNAME")
code_name code.BADALG = Some (codes "BADALG")
code_name code.BADTRUNC = Some (codes "BADTRUNC")
code_name code.BADCOOKIE = Some (codes "BADCOOKIE")
code_name (code.Unknown number) = None

-- the code in words
abbrev pub code_text : ResponseCode → List ℕ
code_text code.NoError = codes "No Error"
code_text code.FormErr = codes "Form Error"
code_text code.ServFail = codes "Server Failure"
code_text code.NXDomain = codes "Non-Existent Domain"
code_text code.NotImp = codes "Not Implemented"
code_text code.Refused = codes "Query Refused"
code_text code.YXDomain = codes "Name should not exist"
code_text code.YXRRSet = codes "RR Set should not exist"
code_text code.NXRRSet = codes "RR Set does not exist"
code_text code.NotAuth = codes "Not authorized"
code_text code.NotZone = codes "Name not in zone"
code_text code.BADVERS = codes "Bad option versions"
code_text code.BADSIG = codes "TSIG Failure"
code_text code.BADKEY = codes "Key not recognized"
code_text code.BADTIME = codes "Signature out of time window"
code_text code.BADMODE = codes "Bad TKEY mode"
code_text code.BADNAME = codes "Duplicate key name"
code_text code.BADALG = codes "Algorithm not supported"
code_text code.BADTRUNC = codes "Bad truncation"
code_text code.BADCOOKIE = codes "Bad server cookie"
code_text (code.Unknown number) = codes "Unknown response code"

-- the name, or the number where there is none
abbrev pub code_label : ResponseCode → List ℕ
code_label c = unwrap_or (code_name c) (codes "Unknown(" ++ decimal (code_number c) ++ codes ")")

-- the place in the list of the codes, the unknown ones last
abbrev pub code_place : ResponseCode → ℕ
code_place code.NoError = 0
code_place code.FormErr = 1
code_place code.ServFail = 2
code_place code.NXDomain = 3
code_place code.NotImp = 4
code_place code.Refused = 5
code_place code.YXDomain = 6
code_place code.YXRRSet = 7
code_place code.NXRRSet = 8
code_place code.NotAuth = 9
code_place code.NotZone = 10
code_place code.BADVERS = 11
code_place code.BADSIG = 12
code_place code.BADKEY = 13
code_place code.BADTIME = 14
code_place code.BADMODE = 15
code_place code.BADNAME = 16
code_place code.BADALG = 17
code_place code.BADTRUNC = 18
code_place code.BADCOOKIE = 19
code_place (code.Unknown number) = 20

-- by place, and two unknown codes by number
abbrev pub code_cmp : ResponseCode → ResponseCode → Ordering
code_cmp = then_cmp (on code_place nat_cmp) (on code_number nat_cmp)
