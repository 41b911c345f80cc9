-- EDNS: what an OPT record says (RFC 6891, 6.1.2 and 6.1.3).
use Rattle.base.specs.declared.limits.TheConstants.{MIN_PAYLOAD}
use Rattle.std.specs.Prelude.{ℕ, Bool, List, [], ◌++◌, codes, false, length, if◌then◌else◌}
use Rattle.std.specs.Borrow.{Fml, Lends, MutBor}
use Rattle.std.specs.Fmt.{decimal}
use Rattle.base_data.specs.OPT.{OptionValue}
use Rattle.base_data.specs.contracts.rdata.opt.OPT.{the_row as options_row}
use Rattle.op.specs.contracts.edns.Edns.{the_row}
use Rattle.op.specs.contracts.edns.edns_flags.EdnsFlags.{the_row as flags_row}
use Rattle.op.specs.declared.edns.Edns.{Edns}
use Rattle.op.specs.declared.edns.edns_flags.EdnsFlags.{EdnsFlags}

-- EDNS of version 0 that takes 512 bytes
abbrev pub new_edns : Edns
new_edns =
    record {
      rcode_high = 0;
      version = 0;
      flags = record { dnssec_ok = false; z = 0 };
      max_payload = MIN_PAYLOAD;
      options = [];
    }

-- EDNS ends with the flags that are left after the reference
abbrev pub LendsFlags : MutBor Edns → MutBor EdnsFlags → Fml
LendsFlags edns flags =
    Lends the_row flags_row edns flags (λ (w : EdnsFlags). record edns.now { flags = w })

-- EDNS ends with the options that are left after the reference
abbrev pub LendsOptions : MutBor Edns → MutBor (List OptionValue) → Fml
LendsOptions edns options =
    Lends the_row options_row edns options
    (λ (w : List OptionValue). record edns.now { options = w })

-- the text of a flag
abbrev pub bool_text : Bool → List ℕ
bool_text flag = if flag then codes "true" else codes "false"

-- the fields, and how many options there are
abbrev pub edns_text : Edns → List ℕ
edns_text e =
    codes "version: "
    ++ (decimal e.version
    ++ (codes " dnssec_ok: "
    ++ (bool_text e.flags.dnssec_ok ++ (codes " z_flags: " ++ (decimal e.flags.z
    ++ (codes " max_payload: "
    ++ (decimal e.max_payload ++ (codes " opts: " ++ decimal (length e.options)))))))))
