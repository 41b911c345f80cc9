-- A message that was read, and of which nothing was cut, is read as the same message.
use Rattle.std.proofs.Common.{◌≡◌, ℕ, ◌+◌, ◌*◌, ◌/◌, ◌%◌, ◌<◌, Bool, false, List, [], ◌++◌, length, take, drop, refl}
use Rattle.std.proofs.Common.{ap, sym, ◌∙◌, subst, arith, Option, Some, None}
use Rattle.std.specs.Prelude.{All, ◌||◌, find, slice_index}
use Rattle.std.specs.Option.{option_map}
use Rattle.std.specs.Int.{w32}
use Rattle.std.proofs.Math.Bool.{or-false}
use Rattle.std.proofs.lemmas.List.{append-nil, length-drop, length-take}
use Rattle.std.proofs.lemmas.List.Elements.{All-drop, All-take}
use Rattle.base.specs.Words.{IsNumberAt}
use Rattle.op.specs.Cut.{IsCut, IsUncut, any_lost, as_written, code_range, raised}
use Rattle.op.specs.Fits.{as_list, with_high_bits}
use Rattle.op.specs.Message.{IsMessageAt, MessageValue, high_code}
use Rattle.op.specs.ResponseCode.{code_number, code_value}
use Rattle.op.specs.Section.{edns_of, is_opt, section_of}
use Rattle.op.specs.declared.edns.Edns.{Edns}
use Rattle.op.specs.declared.header.Header.{Header}
use Rattle.op.specs.declared.header.metadata.Metadata.{Metadata}
use Rattle.op.specs.declared.response_code.ResponseCode.{ResponseCode}
use Rattle.op.proofs.CodeLemmas.{number_kept}
use Rattle.op.proofs.reading.ReadFits.{Found, back_all, found, listed_map}

-- ---- numbers of bytes

ttl_small : (B : List ℕ) (i n : ℕ) → All (λ b. b < 256) B → IsNumberAt w32 B i n → n / 16777216 < 256
ttl_small B i n small w =
    let bs = take 4 (drop i B) in
    let four : length (take 4 (drop i B)) ≡ 4 = omega (arith, length-take 4 (drop i B), length-drop i B, w.inside) in
    let all : All (λ b. b < 256) (take 4 (drop i B)) =
    All-take (λ b. b < 256) 4 (drop i B) (All-drop (λ b. b < 256) i B small) in
    let first : slice_index bs 0 < 256 = all 0 0 (omega (arith, four)) in
    let second : slice_index bs 1 < 256 = all 1 0 (omega (arith, four)) in
    let third : slice_index bs 2 < 256 = all 2 0 (omega (arith, four)) in
    let fourth : slice_index bs 3 < 256 = all 3 0 (omega (arith, four)) in
    omega (arith, w.is, first, second, third, fourth)

-- ---- fronts of which nothing is lost

pub whole_of : {X : Type 0} (xs kept lost : List X) → xs ≡ kept ++ lost → lost ≡ [] → kept ≡ xs
whole_of xs kept lost front none = sym (front ∙ ap (λ ys. kept ++ ys) none ∙ append-nil kept)

listed_same : {X : Type 0} (o p : Option X) → as_list o ≡ as_list p → o ≡ p
listed_same None None is = refl
listed_same None (Some y) is = cc
listed_same (Some x) None is = cc
listed_same (Some x) (Some y) is = cc

-- ---- codes

-- what the code and EDNS of a message that was read have in common
record IsMerged (edns : Option Edns) (code : ResponseCode) : Type 0 where
  raised : option_map (with_high_bits code) edns ≡ edns
  kept : code_value (code_number code % code_range edns) ≡ code

merged : (edns : Option Edns) (m : Metadata) (low : ℕ) → low < 16 → m.response_code ≡ code_value low
    → All (λ e. e.rcode_high < 256) (as_list edns) → IsMerged edns (high_code edns m).response_code
merged None m low small is high =
    let four : code_number (code_value low) % 16 ≡ low = omega (arith, number_kept low) in
    subst (IsMerged None) (sym is) (record { raised = refl; kept = ap code_value four })
merged (Some e) m low small is high =
    let narrow : e.rcode_high < 256 = high 0 e (omega arith) in
    let code = e.rcode_high * 16 + low % 16 % 16 in
    let same : (high_code (Some e) m).response_code ≡ code_value code =
    ap (λ n. code_value (e.rcode_high * 16 + n % 16 % 16)) (ap code_number is ∙ number_kept low) in
    let above : code_number (code_value code) / 16 % 256 ≡ e.rcode_high = omega (arith, number_kept code) in
    let whole : code_number (code_value code) % 4096 ≡ code = omega (arith, number_kept code) in
    subst (IsMerged (Some e)) (sym same) (record {
      raised =
          ap (λ (h : ℕ). Some (record e { rcode_high = h })) above;
      kept = ap code_value whole;
    })

-- ---- any message

range_raised : (f : Edns → Edns) (o : Option Edns) → code_range (option_map f o) ≡ code_range o
range_raised f None = refl
range_raised f (Some e) = refl

-- a message of which nothing was cut is read as it is written
pub uncut_written : (m : MessageValue) (limit : ℕ) (C : List ℕ) (c : MessageValue) (k : IsCut m limit C c) → IsUncut k
    → c ≡ as_written m
uncut_written m limit C c k (no_answers, no_authorities, no_additionals, no_edns, no_signature) =
    let queries : c.queries ≡ m.queries = k.queries in
    let answers : c.answers ≡ m.answers = whole_of m.answers c.answers k.answers.lost k.answers.front no_answers in
    let authorities : c.authorities ≡ m.authorities =
    whole_of m.authorities c.authorities k.authorities.lost k.authorities.front no_authorities in
    let additionals : c.additionals ≡ m.additionals =
    whole_of m.additionals c.additionals k.additionals.lost k.additionals.front no_additionals in
    let edns : c.edns ≡ raised m = listed_same c.edns (raised m)
    (whole_of (as_list (raised m)) (as_list c.edns) k.edns.lost k.edns.front no_edns) in
    let signature : c.signature ≡ m.signature =
    listed_same c.signature m.signature (whole_of (as_list m.signature)
    (as_list c.signature) k.signature.lost k.signature.front no_signature) in
    let lost : (m.metadata.truncation || (any_lost k.answers.lost
    || (any_lost k.authorities.lost || (any_lost k.additionals.lost
    || (any_lost k.edns.lost || any_lost k.signature.lost))))) ≡ (m.metadata.truncation || false) =
    λ i. m.metadata.truncation || (any_lost (no_answers i) || (any_lost (no_authorities i)
    || (any_lost (no_additionals i) || (any_lost (no_edns i) || any_lost (no_signature i))))) in
    let truncation = lost ∙ or-false m.metadata.truncation in
    let range : code_range c.edns ≡ code_range m.edns =
    ap code_range edns ∙ range_raised (with_high_bits m.metadata.response_code) m.edns in
    let metadata : c.metadata ≡ (as_written m).metadata =
    k.metadata
    ∙ ap (λ (t : Bool). record m.metadata {
      truncation = t;
      response_code =
          code_value (code_number m.metadata.response_code % code_range c.edns);
    }) truncation
    ∙ ap (λ (n : ℕ). record m.metadata { response_code = code_value (code_number m.metadata.response_code % n) })
    range in
    λ i. record {
      metadata = metadata i;
      queries = queries i;
      answers = answers i;
      authorities =
          authorities i;
      additionals = additionals i;
      edns = edns i;
      signature = signature i;
    }

-- ---- a message that was read

module _ (B : List ℕ) (i : ℕ) (m : MessageValue) (e : ℕ) (w : IsMessageAt B i m e) (bytes : All (λ b. b < 256) B) where
  high_small : All (λ x. x.rcode_high < 256) (as_list (option_map edns_of (find is_opt w.additionals)))
  high_small =
      let all = back_all (λ r. r.ttl / 16777216 < 256)
      (λ j r k word. subst (λ (n : ℕ). n / 16777216 < 256) (sym word.value.ttl)
      (ttl_small B (word.word.owner_end + 4) word.raw.ttl bytes word.word.ttl_stands)) w.additionals_stand in
      listed_map (Found (λ r. r.ttl / 16777216 < 256) is_opt) (λ x. x.rcode_high < 256) edns_of
      (λ r f. f.has) (find is_opt w.additionals) (found (λ r. r.ttl / 16777216 < 256) is_opt w.additionals all)

  code_merged : IsMerged m.edns m.metadata.response_code
  code_merged =
      let edns : (section_of w.additionals).edns ≡ m.edns = sym (ap (λ (x : MessageValue). x.edns) w.message) in
      let metadata : high_code (section_of w.additionals).edns w.header.metadata ≡ m.metadata =
      sym (ap (λ (x : MessageValue). x.metadata) w.message) in
      let code : w.header.metadata.response_code ≡ code_value w.header_stands.raw.code =
      ap (λ (h : Header). h.metadata.response_code) w.header_stands.value in
      let both = merged (section_of w.additionals).edns w.header.metadata w.header_stands.raw.code
      (omega (arith, w.header_stands.word.code)) code high_small in
      subst (λ o. IsMerged o m.metadata.response_code) edns
      (subst (λ (x : Metadata). IsMerged (section_of w.additionals).edns x.response_code) metadata both)

  -- of which nothing was cut
  pub uncut_same : (limit : ℕ) (C : List ℕ) (c : MessageValue) (k : IsCut m limit C c) → IsUncut k → c ≡ m
  uncut_same limit C c k uncut =
      let metadata : (as_written m).metadata ≡ m.metadata =
      ap (λ (d : ResponseCode). record m.metadata { response_code = d }) code_merged.kept in
      uncut_written m limit C c k uncut ∙ (λ i. record m { metadata = metadata i; edns = code_merged.raised i })
