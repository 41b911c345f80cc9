-- A decoder as its contracts see it.
use Rattle.std.specs.Prelude.{ℕ, List, refl}
use Rattle.std.specs.Coded.{Coded, code_by, coded×, coded_ℕ, coded_list}
use Rattle.std.specs.FinSet as set
use Rattle.std.specs.Ordering.{nat_cmp}

-- The whole buffer, the place that is read next, the offsets that pointers led to and whose labels are kept, and how
-- many pointers were followed into bytes.
pub record Reader : Type 0 where
  pub bytes : List ℕ
  pub index : ℕ
  pub kept : set.FinSet nat_cmp
  pub jumps : ℕ

-- before anything is read
abbrev pub begun : List ℕ → Reader
begun bytes = record { bytes = bytes; index = 0; kept = set.empty; jumps = 0 }

-- a decoder is stored as the tuple of its fields
abbrev pub reader_code : Coded Reader
reader_code =
    code_by (List ℕ × (ℕ × (set.FinSet nat_cmp × ℕ)))
    (coded× (coded_list coded_ℕ) (coded× coded_ℕ (coded× (set.code coded_ℕ) coded_ℕ)))
    (λ r. (r.bytes, (r.index, (r.kept, r.jumps))))
    (λ p. record { bytes = p.0; index = p.1.0; kept = p.1.1.0; jumps = p.1.1.1 }) (λ _. refl)
