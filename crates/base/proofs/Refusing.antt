-- Refusals that are passed on.
use Rattle.base.specs.declared.error.parse_error.ParseError.{ParseError}
use Rattle.base.specs.declared.error.parse_error.ParseError.TheVariants as refusals
use Rattle.base.specs.texts.Cuts.{Faults}

pub Faults-through : {P Q : Type 0} (e : ParseError) → (P → Q) → Faults e P → Faults e Q
Faults-through refusals.Lexer f is = f is
Faults-through other f is = is
