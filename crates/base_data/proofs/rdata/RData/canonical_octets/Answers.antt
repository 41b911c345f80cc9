use Rattle.std.proofs.Common.{◌≡◌, ℕ, List, ◌++◌, ap, sym, ◌∙◌}
use Rattle.std.proofs.lemmas.List.{append_assoc}
use Rattle.base_data.specs.Kinds.{canonical_data}
use Rattle.base_data.specs.NameData.{name_octets}
use Rattle.base_data.proofs.rdata.RData.canonical_octets.Goals as goal

-- lists one after another, the last five put together first
joined : (m a b c d e : List ℕ) → m ++ (a ++ b ++ c ++ d ++ e) ≡ m ++ a ++ b ++ c ++ d ++ e
joined m a b c d e =
    sym (append_assoc m (a ++ b ++ c ++ d) e)
    ∙ ap (λ (xs : List ℕ). xs ++ e) (sym (append_assoc m (a ++ b ++ c) d)
    ∙ ap (λ (xs : List ℕ). xs ++ d) (sym (append_assoc m (a ++ b) c)
    ∙ ap (λ (xs : List ℕ). xs ++ c) (sym (append_assoc m a b))))

pub returns-in-SOA : goal.returns-in-SOA
returns-in-SOA c =
    c.of_names.ensures ∙ ap (λ (xs : List ℕ).
    name_octets c.in-SOA.rdata.mname ++ name_octets c.in-SOA.rdata.rname ++ xs) c.number_octets.ensures.bytes
    ∙ joined (name_octets c.in-SOA.rdata.mname ++ name_octets c.in-SOA.rdata.rname) _ _ _ _ _
    ∙ sym (ap canonical_data c.in-SOA.is)
