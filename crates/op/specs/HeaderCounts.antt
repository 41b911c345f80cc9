-- How many items each section holds (RFC 1035, 4.1.1).
use Rattle.std.specs.Ordering.{nat_cmp, on, then_cmp}
use Rattle.std.specs.declared.cmp.Ordering.{Ordering}
use Rattle.op.specs.declared.header.header_counts.HeaderCounts.{HeaderCounts}

-- no item in any section
abbrev pub zero_counts : HeaderCounts
zero_counts = record { queries = 0; answers = 0; authorities = 0; additionals = 0 }

-- by the sections in turn
abbrev pub counts_cmp : HeaderCounts → HeaderCounts → Ordering
counts_cmp =
    then_cmp (on (λ c. c.queries) nat_cmp) (then_cmp (on (λ c. c.answers) nat_cmp)
    (then_cmp (on (λ c. c.authorities) nat_cmp) (on (λ c. c.additionals) nat_cmp)))
