-- The fields of a header, as a caller is left with them.
use Rattle.std.specs.Prelude.{◌≡◌, ℤ, neg_ℤ, pos, Ok, Err}
use Rattle.op.specs.declared.header.Header.{Header}
use Rattle.tasks.specs.Asked.{Asked}
use Rattle.tasks.specs.Header.{numbers_of}
use Rattle.tasks.specs.declared.header.HeaderNumbers.{HeaderNumbers}

-- The fields are those of the header, and 12 is answered; or they stay, and minus the number of a refusal is answered.
abbrev pub IsHeaderFilled : Asked Header → HeaderNumbers → HeaderNumbers → ℤ → Type 0
IsHeaderFilled (Ok header) old new result = (new ≡ numbers_of header) × (result ≡ pos 12)
IsHeaderFilled (Err number) old new result = (new ≡ old) × (result ≡ neg_ℤ (pos number))
