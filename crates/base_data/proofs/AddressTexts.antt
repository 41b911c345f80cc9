-- The texts of addresses are those that std reads whole.
use Rattle.std.proofs.Common.{◌≡◌, ℕ, List, [], ◌∷◌, length, refl, ap, sym, ◌∙◌, subst, arith, Option, Some, None}
use Rattle.std.proofs.Common.{false}
use Rattle.std.specs.Prelude.{◌==◌, ◌↔◌, option_map}
use Rattle.std.specs.Net.Addr.{octets_of}
use Rattle.std.specs.Net.Grammar.{IsColonHex, IsDotted}
use Rattle.std.specs.Net.Reader.{Read, read_ipv4, read_ipv6, whole_value}
use Rattle.std.proofs.NetLemmas.Ipv4.{read_ipv4_complete, read_ipv4_sound}
use Rattle.std.proofs.NetLemmas.Ipv6.{EndsGroups-nil, read_ipv6_complete, read_ipv6_sound}
use Rattle.std.proofs.lemmas.Bool.Decides.{nat_tests}
use Rattle.std.proofs.lemmas.List.{append-nil}
use Rattle.std.proofs.lemmas.Option.{same_Some}
use Rattle.base_data.specs.Fields.{ipv4_item, ipv6_item}

-- a value that was read whole, with nothing after it
whole_is : {A : Type 0} (read : Read A) (value : A) → whole_value read ≡ Some value → read ≡ Some (value, [])
whole_is None value is = absurd (cc is)
whole_is {A} (Some (value, [])) found is = ap (λ (v : A). Some (v, [])) (same_Some _ _ is)
whole_is (Some (value, c ∷ rest)) found is =
    let some : (length (c ∷ rest) == 0) ≡ false = grind (arith, nat_tests) in
    absurd (cc (rw some at is))

pub ipv4_text : (text bytes : List ℕ) → (ipv4_item text ≡ Some bytes) ↔ IsDotted text bytes
unfolding ipv4_item
ipv4_text text bytes = (there, back) where
  there : ipv4_item text ≡ Some bytes → IsDotted text bytes
  there is =
      let found = read_ipv4_sound text bytes [] (whole_is (read_ipv4 text) bytes is) in
      subst (λ (t : List ℕ). IsDotted t bytes) (sym (found.1 ∙ append-nil found.0)) found.2

  back : IsDotted text bytes → ipv4_item text ≡ Some bytes
  back dotted = ap whole_value (ap read_ipv4 (sym (append-nil text))
      ∙ read_ipv4_complete text bytes [] dotted (omega arith))

pub ipv6_text : (text bytes : List ℕ) → (ipv6_item text ≡ Some bytes)
    ↔ ((segments : List ℕ) × IsColonHex text segments × (bytes ≡ octets_of segments))
unfolding ipv6_item
ipv6_text text bytes = (there (whole_value (read_ipv6 text)) refl, back) where
  there : (o : Option (List ℕ)) → whole_value (read_ipv6 text) ≡ o → option_map octets_of o ≡ Some bytes
      → (segments : List ℕ) × IsColonHex text segments × (bytes ≡ octets_of segments)
  there None read is = absurd (cc is)
  there (Some segments) read is =
      let found = read_ipv6_sound text segments [] (whole_is (read_ipv6 text) segments read) in (
        segments,
        subst (λ (t : List ℕ). IsColonHex t segments) (sym (found.1 ∙ append-nil found.0)) found.2,
        sym (cc is),
      )

  back : (segments : List ℕ) × IsColonHex text segments × (bytes ≡ octets_of segments) → ipv6_item text ≡ Some bytes
  back (segments, groups, is) =
      ap (λ (r : Read (List ℕ)). option_map octets_of (whole_value r))
      (ap read_ipv6 (sym (append-nil text)) ∙ read_ipv6_complete text segments [] groups EndsGroups-nil)
      ∙ ap Some (sym is)
