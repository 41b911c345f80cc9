-- Strings and the bytes that hold them, each with its length before it.
use Rattle.std.proofs.Common.{◌≡◌, ◌≢◌, ℕ, ◌+◌, ◌<◌, ◌≤◌, Bool, true, false, List, [], ◌∷◌, ◌++◌, IsTrue}
use Rattle.std.proofs.Common.{length, take, drop, map, get_or, refl, ap, sym, ◌∙◌, append_assoc, arith, length-append}
use Rattle.std.proofs.Common.{subst}
use Rattle.std.proofs.lemmas.List.{append-nil, drop_at, take-append-drop, length-take, length-drop, drop-drop}
use Rattle.std.proofs.lemmas.List.{take_more, take_all, map-append}
use Rattle.std.proofs.lemmas.List.Elements.{All-nil, All-push, All-map}
use Rattle.std.proofs.lemmas.Slice.Eq.{bytes_eq-Decides}
use Rattle.std.specs.Borrow.{Bor}
use Rattle.std.specs.Cmp.Lexicographic.{bytes_decides}
use Rattle.std.specs.Prelude.{◌↔◌, All}
use Rattle.base.specs.names.Labels.{wire_of, labels_of}
use Rattle.base.proofs.names.LabelLemmas.{labels_of-wire_of, labels_of_is, wire_of-append, wire_of-nil}
use Rattle.base_data.specs.TXT.{AreShort, IsText, are_strings, same_txt}

-- the bytes of strings are a text
pub IsText-wire_of : (bytes : List ℕ) (strings : List (List ℕ)) → bytes ≡ wire_of strings → strings ≢ []
    → AreShort strings → IsText bytes
IsText-wire_of bytes strings is some short =
    let cut : labels_of bytes ≡ strings = labels_of_is bytes strings is in
    record {
      whole = ap wire_of cut ∙ sym is;
      some = λ none. some (sym cut ∙ none);
      short = rw cut short;
    }

-- one string more
pub wire_of-push : (strings : List (List ℕ)) (string : List ℕ)
    → wire_of (strings ++ string ∷ []) ≡ wire_of strings ++ (length string ∷ string)
unfolding wire_of
wire_of-push strings string = wire_of-append strings (string ∷ [])
    ∙ ap (λ (rest : List ℕ). wire_of strings ++ (length string ∷ rest)) (append-nil string)

-- strings were cut off the front
pub record IsCut (bytes rest : List ℕ) : Type 0 where
  pub strings : List (List ℕ)
  pub parts : bytes ≡ wire_of strings ++ rest
  pub short : AreShort strings

pub cut_none : (bytes : List ℕ) → IsCut bytes bytes
cut_none bytes = record {
  strings = [];
  parts = sym (ap (λ (front : List ℕ). front ++ bytes) wire_of-nil);
  short = All-nil (λ string. length string ≤ 255);
}

cut_more : (bytes tail : List ℕ) (n : ℕ) → IsCut bytes (n ∷ tail) → n ≤ length tail → n ≤ 255
    → IsCut bytes (drop n tail)
cut_more bytes tail n cut fits small =
    let string = take n tail in
    let len : length string ≡ n = omega (arith, length-take n tail) in
    let whole : n ∷ tail ≡ (length string ∷ string) ++ drop n tail =
    rw len (ap (λ (xs : List ℕ). n ∷ xs) (sym (take-append-drop n tail))) in
    record {
      strings = cut.strings ++ string ∷ [];
      parts = cut.parts ∙ ap (λ (xs : List ℕ). wire_of cut.strings ++ xs) whole
          ∙ sym (append_assoc (wire_of cut.strings) (length string ∷ string) (drop n tail))
          ∙ ap (λ (xs : List ℕ). xs ++ drop n tail) (sym (wire_of-push cut.strings string));
      short = All-push (λ (xs : List ℕ). length xs ≤ 255) cut.strings string cut.short (omega arith);
    }

-- all were cut off
cut_whole : (bytes : List ℕ) (cut : IsCut bytes []) → bytes ≡ wire_of cut.strings
cut_whole bytes cut = cut.parts ∙ append-nil (wire_of cut.strings)

pub cut_all : (bytes rest : List ℕ) → rest ≡ [] → IsCut bytes rest → true ≡ are_strings bytes
cut_all bytes rest none cut =
    let all : IsCut bytes [] = subst (IsCut bytes) none cut in
    let whole = cut_whole bytes all in
    sym ((bytes_eq-Decides (wire_of (labels_of bytes)) bytes).1
    (ap wire_of (labels_of_is bytes all.strings whole) ∙ sym whole))

pub cut_short : (bytes rest : List ℕ) → rest ≡ [] → IsCut bytes rest → AreShort (labels_of bytes)
cut_short bytes rest none cut =
    let all : IsCut bytes [] = subst (IsCut bytes) none cut in
    rw (labels_of_is bytes all.strings (cut_whole bytes all)) all.short

-- what is after the first strings of such bytes are strings too
others : (first strings : List (List ℕ)) (rest : List ℕ) → wire_of strings ≡ wire_of first ++ rest
    → (more : List (List ℕ)) × (wire_of more ≡ rest)
unfolding wire_of
others [] strings rest is = (strings, is)
others (x ∷ xs) [] rest is = cc
others (x ∷ xs) (y ∷ ys) rest is =
    let len : length y ≡ length x = ap (λ (bytes : List ℕ). get_or bytes 0 0) is in
    let tails : y ++ wire_of ys ≡ x ++ (wire_of xs ++ rest) = ap (drop 1) is ∙ append_assoc x (wire_of xs) rest in
    let after : wire_of ys ≡ wire_of xs ++ rest =
    sym (drop_at y (wire_of ys) (length y) refl) ∙ ap (drop (length y)) tails
    ∙ drop_at x (wire_of xs ++ rest) (length y) (sym len) in
    others xs ys rest after

-- a length that is too great begins no string
too_long : (strings : List (List ℕ)) (n : ℕ) (tail : List ℕ) → length tail < n → wire_of strings ≡ n ∷ tail → ⊥
unfolding wire_of
too_long [] n tail long is = cc
too_long (x ∷ xs) n tail long is =
    let len : length x ≡ n = ap (λ (bytes : List ℕ). get_or bytes 0 0) is in
    let tails : x ++ wire_of xs ≡ tail = ap (drop 1) is in
    absurd (omega (arith, ap length tails, length-append x (wire_of xs)))

is_false : (b : Bool) → (b ≡ true → ⊥) → false ≡ b
is_false true other = absurd (other refl)
is_false false other = refl

cut_wrong : (bytes tail : List ℕ) (n : ℕ) → length tail < n → IsCut bytes (n ∷ tail) → false ≡ are_strings bytes
cut_wrong bytes tail n long cut =
    let decides = bytes_eq-Decides (wire_of (labels_of bytes)) bytes in
    is_false (are_strings bytes) (λ yes.
    let more = others cut.strings (labels_of bytes) (n ∷ tail) (decides.0 yes ∙ cut.parts) in
    too_long more.0 n tail long more.1)

-- the same, where what is left is seen as a whole
seen : (rest : List ℕ) → 0 < length rest → rest ≡ get_or rest 0 0 ∷ drop 1 rest
seen [] some = absurd (omega arith)
seen (x ∷ xs) some = refl

pub cut_next : (bytes rest : List ℕ) (end : ℕ) → IsCut bytes rest → 0 < length rest → end ≡ 1 + get_or rest 0 0
    → get_or rest 0 0 ≤ 255 → end ≤ length rest → IsCut bytes (drop end rest)
cut_next bytes rest end cut some is small fits =
    let n = get_or rest 0 0 in
    let parts = seen rest some in
    let first : IsCut bytes (n ∷ drop 1 rest) = subst (IsCut bytes) parts cut in
    let after : drop n (drop 1 rest) ≡ drop end rest =
    drop-drop n 1 rest ∙ ap (λ (k : ℕ). drop k rest) (let e : 1 + n ≡ end = omega arith in e) in
    subst (IsCut bytes) after (cut_more bytes (drop 1 rest) n first (omega (arith, length-drop 1 rest)) small)

pub cut_fault : (bytes rest : List ℕ) (end : ℕ) → IsCut bytes rest → 0 < length rest → end ≡ 1 + get_or rest 0 0
    → length rest < end → false ≡ are_strings bytes
cut_fault bytes rest end cut some is short =
    cut_wrong bytes (drop 1 rest) (get_or rest 0 0) (omega (arith, length-drop 1 rest))
    (subst (IsCut bytes) (seen rest some) cut)

-- strings of the same bytes are the same
pub wire_of-exact : (a b : List (List ℕ)) → wire_of a ≡ wire_of b → a ≡ b
wire_of-exact a b is = sym (labels_of-wire_of a) ∙ ap labels_of is ∙ labels_of-wire_of b

pub same_txt-is : (a b : List (List ℕ)) → IsTrue (same_txt a b) ↔ (a ≡ b)
same_txt-is a b = let d = bytes_decides (wire_of a) (wire_of b) in
    (λ yes. wire_of-exact a b (d.0 yes), λ is. d.1 (ap wire_of is))

-- the strings that borrows show
abbrev pub shown : List (Bor (List ℕ)) → List (List ℕ)
shown strings = map (λ string. string.now) strings

-- one string more
pub wire_of-next : (strings : List (Bor (List ℕ))) (i : ℕ) (d : Bor (List ℕ)) → i < length strings
    → wire_of (shown (take i strings)) ++ (length (get_or strings i d).now ∷ (get_or strings i d).now) ≡ wire_of
    (shown (take (i + 1) strings))
wire_of-next strings i d inside =
    sym (ap (λ (xs : List (Bor (List ℕ))). wire_of (shown xs)) (take_more strings i d inside)
    ∙ ap wire_of (map-append (λ (string : Bor (List ℕ)). string.now) (take i strings) (get_or strings i d ∷ []))
    ∙ wire_of-push (shown (take i strings)) (get_or strings i d).now)

-- a text of all strings
pub shown_text : (bytes : List ℕ) (strings : List (Bor (List ℕ))) (i : ℕ) → bytes ≡ wire_of (shown (take i strings))
    → length strings ≤ i → strings ≢ []
    → All (λ string. length string.now ≤ 255) strings → IsText bytes
shown_text bytes strings i is end some short =
    IsText-wire_of bytes (shown strings) (is ∙ ap (λ (xs : List (Bor (List ℕ))). wire_of (shown xs))
    (take_all i strings end)) (shown_some strings some)
    (All-map (λ (string : List ℕ). length string ≤ 255) (λ (string : Bor (List ℕ)). string.now) strings short) where
      shown_some : (xs : List (Bor (List ℕ))) → xs ≢ [] → shown xs ≢ []
      shown_some [] none = absurd (none refl)
      shown_some (x ∷ xs) none = λ is. cc

pub shown_strings : (bytes : List ℕ) (strings : List (Bor (List ℕ))) (i : ℕ) → bytes ≡ wire_of (shown (take i strings))
    → length strings ≤ i → labels_of bytes ≡ shown strings
shown_strings bytes strings i is end =
    labels_of_is bytes (shown strings) (is ∙ ap (λ (xs : List (Bor (List ℕ))). wire_of (shown xs))
    (take_all i strings end))

-- bytes that are read as strings are a text
pub read_text : (bytes read : List ℕ) → bytes ≡ read → 0 < length read → true ≡ are_strings read
    → AreShort (labels_of read) → IsText bytes
read_text bytes read is some whole short =
    let same : wire_of (labels_of read) ≡ read = (bytes_eq-Decides (wire_of (labels_of read)) read).0 (sym whole) in
    let text : IsText read = record {
      whole = same;
      some = λ none. absurd (omega (arith, ap length (sym same ∙ ap wire_of none ∙ wire_of-nil)));
      short = short;
    } in
    subst IsText (sym is) text
