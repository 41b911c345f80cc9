use Rattle.std.proofs.Common.{◌≡◌, drop}
use Rattle.base_data.specs.Escape.{escape_of}
use Rattle.base_data.specs.StringItems.{no_escape, put_before_all, unescaped}
use Rattle.base_data.proofs.rdata.txt.unescape.unescape.Given as goal

-- the bytes so far, before those of the rest, are all
abbrev pub invariant-loop-c : goal.invariant-loop-c
invariant-loop-c l = put_before_all l.bytes.items (unescaped (escape_of l.state) (drop l.c-index l.text))
    ≡ unescaped no_escape l.text
