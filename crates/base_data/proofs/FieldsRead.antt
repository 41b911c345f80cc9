-- The fields that a text shows are read again.
use Rattle.std.proofs.Common.{◌≡◌, ℕ, zero, suc, ◌+◌, ◌-◌, ◌*◌, ◌/◌, ◌%◌, ◌^◌, ◌<◌, List, [], ◌∷◌, length}
use Rattle.std.proofs.Common.{get_or, refl, ap, sym, ◌∙◌, subst, arith, true, Some, None, All, rules, lit≤, append-nil}
use Rattle.std.specs.Prelude.{nat_lt}
use Rattle.std.specs.Char.{is_ascii_digit}
use Rattle.std.specs.Cmp.{first_so, second_so}
use Rattle.std.specs.Fmt.{decimal}
use Rattle.std.specs.Result.{result_ok}
use Rattle.std.specs.Str.{all_ascii_digits}
use Rattle.std.specs.Net.Addr.{octets_of, segments_of}
use Rattle.std.specs.Net.Reader.{Read, whole_value}
use Rattle.std.specs.Net.Text.{ipv4_text}
use Rattle.std.specs.Prelude.{option_map}
use Rattle.std.proofs.NetLemmas.Ipv4.{read_ipv4_complete}
use Rattle.std.proofs.NetLemmas.Ipv6.{read_ipv6_complete, EndsGroups-nil}
use Rattle.std.proofs.NetLemmas.Texts.{IsColonHex-hex_groups_text, IsDotted-ipv4_text}
use Rattle.std.proofs.lemmas.Bool.Decides.{nat_tests}
use Rattle.std.proofs.lemmas.Fmt.{decimal_is_IsNumeral, digits_decimal, digits_value-decimal}
use Rattle.std.proofs.lemmas.List.Elements.{All-head, All-tail}
use Rattle.std.proofs.lemmas.Str.Parse.{IsNumeralModel, numerals_by_fold}
use Rattle.base.proofs.texts.NameOfLaws.{named_by}
use Rattle.base.proofs.texts.TextLawLemmas.{name_text_names}
use Rattle.base.proofs.texts.TtlLemmas.{step_digit}
use Rattle.base.specs.names.Labels.{NameValue}
use Rattle.base.specs.texts.NameText.{name_text}
use Rattle.base.specs.texts.Ttl.{below_limit, digit_after, ttl_of, ttl_sum}
use Rattle.base_data.proofs.FieldTexts.{number_fits, own}
use Rattle.base_data.specs.AAAA.{aaaa_text}
use Rattle.base_data.specs.Fields.{ipv4_item, ipv6_item, name_item, number_item}
use Rattle.base_data.specs.Kind.{AreOctets, HasText}

pub number_decimal : (bits n : ℕ) → n < 2 ^ bits → n < 2 ^ 64 → number_item bits (decimal n) ≡ Some n
number_decimal bits n fits small =
    let value = digits_value-decimal own n small in
    number_fits bits (decimal n) (digits_decimal own n small) (decimal_is_IsNumeral n small).0.0
    (subst (λ (m : ℕ). m < 2 ^ bits) (sym value) fits) ∙ ap Some value

read_on : ℕ → List ℕ → ℕ
read_on n [] = n
read_on n (c ∷ cs) = read_on (n * 10 + (c - 48)) cs

folded : IsNumeralModel (λ ds. all_ascii_digits ds ≡ true) (read_on 0)
unfolding read_on
folded = numerals_by_fold _ (search rules) read_on (search rules)

ttl_end : (sum n : ℕ) → ttl_sum sum (Some n) [] ≡ Some (sum + n)
unfolding ttl_sum
ttl_end sum n = refl

ttl_some : (text : List ℕ) → 0 < length text → ttl_of text ≡ below_limit (ttl_sum 0 None text)
unfolding ttl_of
ttl_some [] some = absurd (omega arith)
ttl_some (c ∷ text) some = refl

ttl_digits : (ds : List ℕ) (n : ℕ) → all_ascii_digits ds ≡ true → ttl_sum 0 (Some n) ds ≡ Some (read_on n ds)
unfolding read_on
ttl_digits [] n digits = let same : 0 + n ≡ n = omega arith in ttl_end 0 n ∙ ap Some same
ttl_digits (c ∷ ds) n digits =
    let first = first_so (is_ascii_digit c) (all_ascii_digits ds) digits in
    let others = second_so (is_ascii_digit c) (all_ascii_digits ds) digits in
    step_digit 0 (Some n) c ds first ∙ ttl_digits ds (n * 10 + (c - 48)) others

ttl_numeral : (ds : List ℕ) → all_ascii_digits ds ≡ true → 0 < length ds → ttl_of ds ≡ below_limit (Some (read_on 0 ds))
unfolding read_on
ttl_numeral [] digits some = absurd (omega arith)
ttl_numeral (c ∷ ds) digits some =
    let first = first_so (is_ascii_digit c) (all_ascii_digits ds) digits in
    let others = second_so (is_ascii_digit c) (all_ascii_digits ds) digits in
    ttl_some (c ∷ ds) some ∙ ap below_limit (step_digit 0 None c ds first ∙ ttl_digits ds (digit_after None c) others)

pub ttl_decimal : (n : ℕ) → n < 2 ^ 32 → ttl_of (decimal n) ≡ Some n
ttl_decimal n small =
    let wide : n < 2 ^ 64 = omega arith in
    let fits : nat_lt n (2 ^ 32) ≡ true = grind (arith, nat_tests) in
    ttl_numeral (decimal n) (digits_decimal folded n wide) (decimal_is_IsNumeral n wide).0.0
    ∙ ap (λ (m : ℕ). below_limit (Some m)) (digits_value-decimal folded n wide) ∙ rw fits refl

pub name_read : (n : NameValue) → HasText n → name_item (name_text n) None ≡ Some n
name_read n has = ap result_ok (named_by (name_text_names n has.bytes has.labels has.short has.some))

-- bytes, those past the end too
bytes_at : (o : List ℕ) → All (λ b. b < 256) o → (k : ℕ) → get_or o k 0 < 256
bytes_at [] are k = omega arith
bytes_at (b ∷ o) are zero = All-head (λ (c : ℕ). c < 256) b o are
bytes_at (b ∷ o) are (suc k) = bytes_at o (All-tail (λ (c : ℕ). c < 256) b o are) k

pub ipv4_read : (o : List ℕ) → AreOctets 4 o → ipv4_item (ipv4_text o) ≡ Some o
unfolding ipv4_item
ipv4_read o are = ap whole_value (rw append-nil at
    (read_ipv4_complete (ipv4_text o) o [] (IsDotted-ipv4_text o are.count (bytes_at o are.bytes)) (lit≤ tt)))

octets-segments : (n : ℕ) (o : List ℕ) → length o ≡ n + n → ((k : ℕ) → get_or o k 0 < 256)
    → octets_of (segments_of o) ≡ o
octets-segments zero [] count bytes = refl
octets-segments (suc n) (a ∷ b ∷ o) count bytes =
    let low : b < 256 = bytes 1 in
    let high : (a * 256 + b) / 256 ≡ a = omega arith in
    let rest : (a * 256 + b) % 256 ≡ b = omega arith in
    let others = octets-segments n o (omega arith) (λ (k : ℕ). bytes (suc (suc k))) in
    rw (high, rest, others) refl
octets-segments n o count bytes = absurd (omega arith)

segments-count : (n : ℕ) (o : List ℕ) → length o ≡ n + n → length (segments_of o) ≡ n
segments-count zero [] count = refl
segments-count (suc n) (a ∷ b ∷ o) count = ap suc (segments-count n o (omega arith))
segments-count n o count = absurd (omega arith)

segments-fit : (n : ℕ) (o : List ℕ) → length o ≡ n + n → ((k : ℕ) → get_or o k 0 < 256) → (k : ℕ)
    → get_or (segments_of o) k 0 < 2 ^ 16
segments-fit zero [] count bytes k = omega arith
segments-fit zero (a ∷ o) count bytes k = absurd (omega arith)
segments-fit (suc n) [] count bytes k = absurd (omega arith)
segments-fit (suc n) (a ∷ []) count bytes k = absurd (omega arith)
segments-fit (suc n) (a ∷ b ∷ o) count bytes zero = let first : a < 256 = bytes 0 in let second : b < 256 = bytes 1 in
    omega arith
segments-fit (suc n) (a ∷ b ∷ o) count bytes (suc k) = segments-fit n o (omega arith) (λ (j : ℕ). bytes (suc (suc j))) k

pub ipv6_read : (o : List ℕ) → AreOctets 16 o → ipv6_item (aaaa_text o) ≡ Some o
unfolding ipv6_item
ipv6_read o are =
    let spelled = IsColonHex-hex_groups_text (segments_of o) (segments-count 8 o are.count)
    (segments-fit 8 o are.count (bytes_at o are.bytes)) in
    let complete = rw append-nil at (read_ipv6_complete (aaaa_text o) (segments_of o) [] spelled EndsGroups-nil) in
    ap (λ (x : Read (List ℕ)). option_map octets_of (whole_value x)) complete
    ∙ ap Some (octets-segments 8 o are.count (bytes_at o are.bytes))
