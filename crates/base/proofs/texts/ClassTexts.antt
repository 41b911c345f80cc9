-- What is read as a class.
use Rattle.std.proofs.Common.{◌≡◌, ℕ, Bool, true, false, cond, List, Some, ◌⊎◌, codes, inl, inr, refl, sym}
use Rattle.std.specs.List.{find}
use Rattle.std.specs.Str.{bytes_eq}
use Rattle.std.proofs.lemmas.Slice.Eq.{bytes_eq-Decides}
use Rattle.base.specs.declared.dns_class.DNSClass.{DNSClass}
use Rattle.base.specs.declared.dns_class.DNSClass.TheVariants as classes
use Rattle.base.specs.DNSClass.{class_from_text, class_text, is_named_class, named_classes}
use Rattle.base.proofs.texts.ReadTexts.{find-passes}

-- the class that a text is read as, after the test for the sign *
class_text-read_by : (text : List ℕ) (c : DNSClass) (b : Bool) → bytes_eq (codes "*") text ≡ b
    → cond b (Some classes.ANY) (find (λ d. bytes_eq (class_text d) text) named_classes) ≡ Some c
    → (class_text c ≡ text) ⊎ ((text ≡ codes "*") × (c ≡ classes.ANY))
class_text-read_by text c true star found = inr (sym ((bytes_eq-Decides (codes "*") text).0 star), cc)
class_text-read_by text c false star found =
    inl ((bytes_eq-Decides (class_text c) text).0
    (find-passes (λ d. bytes_eq (class_text d) text) is_named_class named_classes c refl found).0)

-- the class that a text is read as has that text, but ANY is read from * too
pub class_text-read : (text : List ℕ) (c : DNSClass) → class_from_text text ≡ Some c
    → (class_text c ≡ text) ⊎ ((text ≡ codes "*") × (c ≡ classes.ANY))
class_text-read text c found = class_text-read_by text c (bytes_eq (codes "*") text) refl found
