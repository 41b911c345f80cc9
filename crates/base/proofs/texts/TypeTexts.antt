-- What is read as a record type.
use Rattle.std.proofs.Common.{◌≡◌, ℕ, List, IsTrue, Some, refl}
use Rattle.std.specs.Str.{bytes_eq}
use Rattle.std.proofs.lemmas.Slice.Eq.{bytes_eq-Decides}
use Rattle.base.specs.declared.record_type.RecordType.{RecordType}
use Rattle.base.specs.RecordType.{is_named_type, named_types, type_from_text, type_text}
use Rattle.base.proofs.texts.ReadTexts.{find-passes}

-- the type that a text is read as has that text
pub type_text-read : (text : List ℕ) (t : RecordType) → type_from_text text ≡ Some t → type_text t ≡ text
type_text-read text t found =
    (bytes_eq-Decides (type_text t) text).0
    (find-passes (λ s. bytes_eq (type_text s) text) is_named_type named_types t refl found).0

-- and has a name
pub is_named-read : (text : List ℕ) (t : RecordType) → type_from_text text ≡ Some t → IsTrue (is_named_type t)
is_named-read text t found =
    (find-passes (λ s. bytes_eq (type_text s) text) is_named_type named_types t refl found).1
