-- Data that is one name: NS, CNAME, PTR, ANAME.
use Rattle.std.proofs.Common.{List, ap, refl, subst, sym, true, ℕ, ◌≡◌}
use Rattle.base.specs.names.Labels.{NameValue}
use Rattle.base.specs.Words.{NameAt}
use Rattle.base_data.proofs.NameWords.{here_name, name_here}
use Rattle.base_data.proofs.Tells.{Tells, tells_name, tells_ok, tells_same, tells_then}
use Rattle.base_data.specs.ANAME.{aname_at, aname_kind}
use Rattle.base_data.specs.CNAME.{cname_at, cname_kind}
use Rattle.base_data.specs.NS.{ns_at, ns_kind}
use Rattle.base_data.specs.OneName.{one_name_at}
use Rattle.base_data.specs.PTR.{ptr_at, ptr_kind}
use Rattle.base_data.specs.declared.rdata.aname.ANAME.{ANAME}
use Rattle.base_data.specs.declared.rdata.cname.CNAME.{CNAME}
use Rattle.base_data.specs.declared.rdata.ns.NS.{NS}
use Rattle.base_data.specs.declared.rdata.ptr.PTR.{PTR}

-- data that is one name
tells_one : {X : Type 0} (of : NameValue → X) (name : X → NameValue) → ((n : NameValue) → name (of n) ≡ n)
    → ((x : X) → of (name x) ≡ x) → (B : List ℕ) (i : ℕ)
    → Tells (one_name_at of B i) (λ r. NameAt (name r.0).labels B i r.1 × ((name r.0).absolute ≡ true))
tells_one {X} of name back there B i = tells_same (tells_then (tells_name B i) (λ n. tells_ok (of n.0, n.1)))
    (λ r (n, at, is). subst (λ (x : X × ℕ). NameAt (name x.0).labels B i x.1 × ((name x.0).absolute ≡ true)) is
    (subst (λ (m : NameValue). NameAt m.labels B i n.1 × (m.absolute ≡ true)) (sym (back n.0)) (name_here B i n at)))
    (λ r is. ((name r.0, r.1), here_name B i (name r.0) r.1 is.0 is.1, ap (λ (x : X). (x, r.1)) (there r.0)))

pub tells_ns : (B : List ℕ) (i : ℕ) → Tells (ns_at B i) (λ r. (ns_kind r.0).word B i r.1 × (ns_kind r.0).readable)
unfolding ns_at
tells_ns = tells_one {X = NS} (λ name. record { name = name }) (λ x. x.name) (λ _. refl) (λ _. refl)

pub tells_cname : (B : List ℕ) (i : ℕ) → Tells (cname_at B i)
    (λ r. (cname_kind r.0).word B i r.1 × (cname_kind r.0).readable)
unfolding cname_at
tells_cname = tells_one {X = CNAME} (λ name. record { name = name }) (λ x. x.name) (λ _. refl) (λ _. refl)

pub tells_ptr : (B : List ℕ) (i : ℕ) → Tells (ptr_at B i) (λ r. (ptr_kind r.0).word B i r.1 × (ptr_kind r.0).readable)
unfolding ptr_at
tells_ptr = tells_one {X = PTR} (λ name. record { name = name }) (λ x. x.name) (λ _. refl) (λ _. refl)

pub tells_aname : (B : List ℕ) (i : ℕ) → Tells (aname_at B i)
    (λ r. (aname_kind r.0).word B i r.1 × (aname_kind r.0).readable)
unfolding aname_at
tells_aname = tells_one {X = ANAME} (λ name. record { name = name }) (λ x. x.name) (λ _. refl) (λ _. refl)
