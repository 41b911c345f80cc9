-- Fields that std reads are the fields of the definitions.
use Rattle.std.proofs.Common.{◌≡◌, ◌≢◌, ℕ, ◌^◌, ◌<◌, List, [], ◌∷◌, ◌++◌, length, get_or, refl, ap, sym, ◌∙◌, subst}
use Rattle.std.proofs.Common.{arith, Bool, true, false, Some, None, Result, Ok, Err, rules, append-nil, lit≤}
use Rattle.std.specs.Prelude.{◌&&◌, nat_lt, OkIff, ◌==◌, ok_or, option_map}
use Rattle.std.specs.Cmp.{first_so, second_so}
use Rattle.std.specs.Result.{result_ok}
use Rattle.std.specs.Char.{is_ascii_digit}
use Rattle.std.specs.Str.{all_ascii_digits}
use Rattle.std.specs.Str.Parse.{ParsesUnsigned, digits_value}
use Rattle.std.proofs.lemmas.Bool.Decides.{nat_tests}
use Rattle.std.proofs.lemmas.List.{nil_from_length}
use Rattle.std.proofs.lemmas.Str.Parse.{IsNumeralModel, numerals_by_value, parse_plain}
use Rattle.std.specs.declared.net.ipv4_addr.Ipv4Addr.{Ipv4Addr}
use Rattle.std.specs.declared.net.ipv6_addr.Ipv6Addr.{Ipv6Addr}
use Rattle.std.specs.Net.Addr.{ipv4_octets, ipv6_octets, octets_of}
use Rattle.std.specs.Net.Grammar.{Parses, IsIpv4Text, IsIpv6Text, IsDotted, IsColonHex}
use Rattle.std.specs.Net.Reader.{Read, read_ipv4, read_ipv6, whole_value}
use Rattle.std.proofs.NetLemmas.Ipv4.{read_ipv4_complete, read_ipv4_sound}
use Rattle.std.proofs.NetLemmas.Ipv6.{read_ipv6_complete, read_ipv6_sound, EndsGroups-nil}
use Rattle.base_data.specs.Fields.{number_item, ipv4_item, ipv6_item}
use Rattle.base_data.specs.ItemFault.{GivesItems}
use Rattle.base_data.specs.declared.rdata.fields.ItemFault.{ItemFault}
use Rattle.base_data.specs.declared.rdata.fields.ItemFault.TheVariants as faults

pub own : IsNumeralModel (λ ds. all_ascii_digits ds ≡ true) (digits_value 10)
own = numerals_by_value _ (search rules)

pub number_fits : (bits : ℕ) (text : List ℕ) → all_ascii_digits text ≡ true → 0 < length text
    → digits_value 10 text < 2 ^ bits → number_item bits text ≡ Some (digits_value 10 text)
unfolding number_item
number_fits bits text digits some fits =
    let a : nat_lt 0 (length text) ≡ true = grind (arith, nat_tests) in
    let b : nat_lt (digits_value 10 text) (2 ^ bits) ≡ true = grind (arith, nat_tests) in
    rw (digits, a, b) refl

number_not : (bits : ℕ) (text : List ℕ) → ((all_ascii_digits text ≡ true) × (0 < length text)
    × (digits_value 10 text < 2 ^ bits) → ⊥) → number_item bits text ≡ None
unfolding number_item
number_not bits text never = go (all_ascii_digits text && nat_lt 0 (length text)
    && nat_lt (digits_value 10 text) (2 ^ bits)) refl where
      go : (fits : Bool) → (all_ascii_digits text && nat_lt 0 (length text) && nat_lt (digits_value 10 text) (2 ^ bits))
          ≡ fits → number_item bits text ≡ None
      go true is =
          let front = first_so (all_ascii_digits text && nat_lt 0 (length text))
          (nat_lt (digits_value 10 text) (2 ^ bits)) is in
          let fits = second_so (all_ascii_digits text && nat_lt 0 (length text))
          (nat_lt (digits_value 10 text) (2 ^ bits)) is in
          let some = second_so (all_ascii_digits text) (nat_lt 0 (length text)) front in
          absurd (never (
            first_so (all_ascii_digits text) (nat_lt 0 (length text)) front,
            grind (arith, nat_tests),
            grind (arith, nat_tests),
          ))
      go false is = rw is refl

-- what is answered where std has read an item
abbrev answer : {X E : Type 0} → Result X E → Result X ItemFault
answer r = ok_or (result_ok r) faults.Bad

pub number_parsed : {E : Type 0} (bits : ℕ) (text : List ℕ) (r : Result ℕ E) → ParsesUnsigned bits 10 text r
    → get_or text 0 0 ≢ 43 → GivesItems (λ n. n) (answer r) (number_item bits text)
number_parsed bits text r parses plain = go r (parse_plain own bits text r parses plain) where
  go : {E : Type 0} (r : Result ℕ E) → OkIff r
      ((all_ascii_digits text ≡ true) × (0 < length text) × (digits_value 10 text < 2 ^ bits)) (digits_value 10 text)
      → GivesItems (λ n. n) (answer r) (number_item bits text)
  go (Ok n) is = number_fits bits text is.0.0 is.0.1 is.0.2 ∙ ap Some (sym is.1)
  go (Err e) is = number_not bits text is

pub number_signed : (bits : ℕ) (text : List ℕ) → get_or text 0 0 ≡ 43 → number_item bits text ≡ None
number_signed bits [] plus = absurd (omega arith)
number_signed bits (c ∷ text) plus = number_not bits
    (c ∷ text) λ (h : (all_ascii_digits (c ∷ text) ≡ true) × (0 < length (c ∷ text))
    × (digits_value 10 (c ∷ text) < 2 ^ bits)).
    let digit = first_so (is_ascii_digit c) (all_ascii_digits text) h.0 in grind (arith, nat_tests)

-- the whole of a text by a reader of its front
module _ {A : Type 0} (Spells : List ℕ → A → Type 0) (text : List ℕ) (read : Read A)
    (sound : (a : A) (rest : List ℕ) → read ≡ Some (a, rest)
    → (front : List ℕ) × (text ≡ front ++ rest) × Spells front a) where
  pub whole_not : ((a : A) → Spells text a → ⊥) → whole_value read ≡ None
  whole_not never = go read refl where
    ended : (a : A) (rest : List ℕ) → read ≡ Some (a, rest) → (at_end : Bool) → (length rest == 0) ≡ at_end
        → whole_value read ≡ None
    ended a rest is true end =
        let s = sound a rest is in
        let nil = nil_from_length rest (grind (arith, nat_tests)) in
        absurd (never a (subst (λ (t : List ℕ). Spells t a)
        (sym (s.1 ∙ ap (λ (r : List ℕ). s.0 ++ r) nil ∙ append-nil s.0)) s.2))
    ended a rest is false end = ap whole_value is ∙ rw end refl

    go : (found : Read A) → read ≡ found → whole_value read ≡ None
    go None is = ap whole_value is
    go (Some (a, rest)) is = ended a rest is (length rest == 0) refl

pub ipv4_parsed : {E : Type 0} (text : List ℕ) (r : Result Ipv4Addr E) → Parses IsIpv4Text text r
    → GivesItems ipv4_octets (answer r) (ipv4_item text)
unfolding ipv4_item
ipv4_parsed text (Ok a) spells = ap whole_value (rw append-nil at (read_ipv4_complete text _ [] spells (lit≤ tt)))
ipv4_parsed text (Err e) never = whole_not IsDotted text (read_ipv4 text)
    (λ octets rest is. read_ipv4_sound text octets rest is) (λ octets spells. never (record { octets = octets }) spells)

pub ipv6_parsed : {E : Type 0} (text : List ℕ) (r : Result Ipv6Addr E) → Parses IsIpv6Text text r
    → GivesItems ipv6_octets (answer r) (ipv6_item text)
unfolding ipv6_item
ipv6_parsed text (Ok a) spells = ap (λ (x : Read (List ℕ)). option_map octets_of (whole_value x))
    (rw append-nil at (read_ipv6_complete text _ [] spells EndsGroups-nil))
ipv6_parsed text (Err e) never =
    let sound = λ (segments : List ℕ) (rest : List ℕ) (is : read_ipv6 text ≡ Some (segments, rest)).
    read_ipv6_sound text segments rest is in
    ap (option_map octets_of) (whole_not IsColonHex text (read_ipv6 text) sound
    (λ segments spells. never (record { segments = segments }) spells))
