-- Escapes in strings, byte by byte.
use Rattle.std.proofs.Common.{◌≡◌, ◌≢◌, ℕ, ◌+◌, ◌<◌, ◌≤◌, List, [], ◌∷◌, ◌++◌, length, drop, get_or, refl, ap, sym, ◌∙◌}
use Rattle.std.proofs.Common.{append_assoc, map, Bor, Option, Some, None}
use Rattle.std.proofs.lemmas.List.{append-nil, drop_more, drop_all}
use Rattle.base_data.specs.declared.rdata.txt.unescape.Escape.{Escape}
use Rattle.base_data.specs.declared.rdata.txt.unescape.Escape.TheVariants.{Outside, Begun, OneDigit, TwoDigits}
use Rattle.base_data.specs.Escape.{escape_of}
use Rattle.base_data.specs.StringItems.{EscapePart, byte_list, put_before_all, ends_outside, escape_step, put_before}
use Rattle.base_data.specs.StringItems.{step_on, string_item, string_items, unescaped}

before-append : {A : Type 0} (xs ys : List A) (rest : Option (List A))
    → put_before_all (xs ++ ys) rest ≡ put_before_all xs (put_before_all ys rest)
before-append xs ys None = refl
before-append xs ys (Some rest) = ap Some (append_assoc xs ys rest)

pub before-nil : {A : Type 0} (rest : Option (List A)) → put_before_all [] rest ≡ rest
before-nil None = refl
before-nil (Some bytes) = refl

unescaped-cons : (state : EscapePart) (c : ℕ) (text : List ℕ)
    → unescaped state (c ∷ text) ≡ step_on (λ s. unescaped s text) (escape_step state c)
unfolding unescaped
unescaped-cons state c text = refl

unescaped-nil : (state : EscapePart) → unescaped state [] ≡ ends_outside state
unfolding unescaped
unescaped-nil state = refl

-- one byte more
pub unescaped_steps : (text xs : List ℕ) (i : ℕ) (state next : EscapePart) (byte : Option ℕ) → i < length text
    → Some (byte, next) ≡ escape_step state (get_or text i 0)
    → put_before_all (xs ++ byte_list byte) (unescaped next (drop (i + 1) text)) ≡ put_before_all xs
    (unescaped state (drop i text))
unescaped_steps text xs i state next byte inside is =
    before-append xs (byte_list byte) (unescaped next (drop (i + 1) text))
    ∙ ap (λ (step : Option (Option ℕ × EscapePart)). put_before_all xs
    (step_on (λ s. unescaped s (drop (i + 1) text)) step)) is
    ∙ ap (put_before_all xs) (sym (unescaped-cons state (get_or text i 0) (drop (i + 1) text)))
    ∙ ap (λ (rest : List ℕ). put_before_all xs (unescaped state rest)) (sym (drop_more text i 0 inside))

pub unescaped_stops : (text xs : List ℕ) (i : ℕ) (state : EscapePart) (all : Option (List ℕ)) → i < length text
    → None ≡ escape_step state (get_or text i 0)
    → put_before_all xs (unescaped state (drop i text)) ≡ all → None ≡ all
unescaped_stops text xs i state all inside is whole =
    let rest = drop (i + 1) text in
    let step = unescaped-cons state (get_or text i 0) rest ∙ ap (step_on (λ s. unescaped s rest)) (sym is) in
    sym (ap (put_before_all xs) (ap (unescaped state) (drop_more text i 0 inside) ∙ step)) ∙ whole

pub unescaped_ends : (text xs : List ℕ) (i : ℕ) (state : EscapePart) (all : Option (List ℕ)) → length text ≤ i
    → put_before_all xs (unescaped state (drop i text)) ≡ all → put_before_all xs (ends_outside state) ≡ all
unescaped_ends text xs i state all past whole =
    sym (ap (put_before_all xs) (ap (unescaped state) (drop_all i text past) ∙ unescaped-nil state)) ∙ whole

pub ends_not : (state : Escape) → state ≢ Outside → ends_outside (escape_of state) ≡ None
ends_not Outside other = absurd (other refl)
ends_not Begun other = refl
ends_not (OneDigit n) other = refl
ends_not (TwoDigits n) other = refl

-- the same, of bytes and a place that are these
pub unescaped_moved : (items xs rest : List ℕ) (state next : EscapePart) (all : Option (List ℕ)) → items ≡ xs
    → state ≡ next
    → put_before_all xs (unescaped next rest) ≡ all → put_before_all items (unescaped state rest) ≡ all
unescaped_moved items xs rest state next all a b is =
    ap (λ (ys : List ℕ). put_before_all ys (unescaped state rest)) a
    ∙ ap (λ (s : EscapePart). put_before_all xs (unescaped s rest)) b ∙ is

string_items-cons : (text : List ℕ) (texts : List (List ℕ))
    → string_items (text ∷ texts) ≡ put_before (string_item text) (string_items texts)
unfolding string_items
string_items-cons text texts = refl

string_items-nil : string_items [] ≡ Some []
unfolding string_items
string_items-nil = refl

-- the texts of the items from this one on
texts_more : (items : List (Bor (List ℕ))) (i : ℕ) (d : Bor (List ℕ)) → i < length items
    → map (λ t. t.now) (drop i items) ≡ (get_or items i d).now ∷ map (λ t. t.now) (drop (i + 1) items)
texts_more items i d inside = ap (map (λ (t : Bor (List ℕ)). t.now)) (drop_more items i d inside)

-- one item more
pub strings_step : (items : List (Bor (List ℕ))) (i : ℕ) (d : Bor (List ℕ)) (xs : List (List ℕ)) (string : List ℕ)
    → i < length items → Some string ≡ string_item (get_or items i d).now
    → put_before_all (xs ++ string ∷ []) (string_items (map (λ t. t.now) (drop (i + 1) items))) ≡ put_before_all xs
    (string_items (map (λ t. t.now) (drop i items)))
strings_step items i d xs string inside is =
    let rest = map (λ (t : Bor (List ℕ)). t.now) (drop (i + 1) items) in
    before-append xs (string ∷ []) (string_items rest)
    ∙ ap (λ (s : Option (List ℕ)). put_before_all xs (put_before s (string_items rest))) is
    ∙ ap (put_before_all xs) (sym (string_items-cons (get_or items i d).now rest))
    ∙ ap (λ (ts : List (List ℕ)). put_before_all xs (string_items ts)) (sym (texts_more items i d inside))

pub strings_stop : (items : List (Bor (List ℕ))) (i : ℕ) (d : Bor (List ℕ)) (xs : List (List ℕ))
    (all : Option (List (List ℕ))) → i < length items → None ≡ string_item (get_or items i d).now
    → put_before_all xs (string_items (map (λ t. t.now) (drop i items))) ≡ all → None ≡ all
strings_stop items i d xs all inside is whole =
    let rest = map (λ (t : Bor (List ℕ)). t.now) (drop (i + 1) items) in
    sym (ap (λ (ts : List (List ℕ)). put_before_all xs (string_items ts)) (texts_more items i d inside)
    ∙ ap (put_before_all xs) (string_items-cons (get_or items i d).now rest)
    ∙ ap (λ (s : Option (List ℕ)). put_before_all xs (put_before s (string_items rest))) (sym is)) ∙ whole

pub strings_end : (items : List (Bor (List ℕ))) (i : ℕ) (xs : List (List ℕ)) (all : Option (List (List ℕ)))
    → length items ≤ i
    → put_before_all xs (string_items (map (λ t. t.now) (drop i items))) ≡ all → Some xs ≡ all
strings_end items i xs all past whole =
    ap Some (sym (append-nil xs)) ∙ ap (put_before_all xs) (sym string_items-nil)
    ∙ ap (λ (ts : List (Bor (List ℕ))). put_before_all xs (string_items (map (λ t. t.now) ts)))
    (sym (drop_all i items past)) ∙ whole
