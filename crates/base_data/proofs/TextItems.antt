-- A text from its items, string by string.
use Rattle.std.proofs.Common.{◌≡◌, ℕ, ◌+◌, ◌<◌, ◌≤◌, List, [], ◌∷◌, ◌++◌, length, drop, map, get_or, refl, ap, sym, ◌∙◌}
use Rattle.std.proofs.Common.{arith, length-append, Bor, Vec, Global, Some, Err}
use Rattle.std.proofs.lemmas.List.Elements.{All-nil, All-push}
use Rattle.base.specs.names.Labels.{wire_of, labels_of}
use Rattle.base.proofs.names.LabelLemmas.{labels_of_is, wire_of-nil}
use Rattle.base_data.proofs.StringItemLemmas.{before-nil, strings_end, strings_step, strings_stop}
use Rattle.base_data.proofs.StringLemmas.{IsText-wire_of, wire_of-push}
use Rattle.base_data.specs.ItemFault.{GivesItems}
use Rattle.base_data.specs.StringItems.{put_before_all, string_item, string_items}
use Rattle.base_data.specs.TXT.{AreShort, IsText, txt_of}
use Rattle.base_data.specs.declared.rdata.fields.ItemFault.{ItemFault}
use Rattle.base_data.specs.declared.rdata.fields.ItemFault.TheVariants as faults
use Rattle.base_data.specs.declared.rdata.txt.TXT.{TXT}

-- the texts that items lend
abbrev pub texts : List (Bor (List ℕ)) → List (List ℕ)
texts items = map (λ (item : Bor (List ℕ)). item.now) items

-- the bytes hold the strings of as many items, and those of the rest after them are all
pub record IsRead (bytes : List ℕ) (items : List (Bor (List ℕ))) (i : ℕ) : Type 0 where
  pub strings : List (List ℕ)
  pub wire : bytes ≡ wire_of strings
  pub short : AreShort strings
  pub count : length strings ≡ i
  pub all : put_before_all strings (string_items (texts (drop i items))) ≡ string_items (texts items)

pub read_none : (bytes : List ℕ) (items : List (Bor (List ℕ))) → bytes ≡ [] → IsRead bytes items 0
read_none bytes items is = record {
  strings = [];
  wire = is ∙ sym wire_of-nil;
  short = All-nil (λ (string : List ℕ). length string ≤ 255);
  count = omega arith;
  all = before-nil (string_items (texts items));
}

-- one string more
pub read_more : {bytes new string : List ℕ} {items : List (Bor (List ℕ))} {i : ℕ} (d : Bor (List ℕ))
    → IsRead bytes items i → i < length items
    → string_item (get_or items i d).now ≡ Some string → length string ≤ 255 → new ≡ bytes ++ (length string ∷ string)
    → IsRead new items (i + 1)
read_more {string = string} {items = items} {i = i} d so inside is fits pushed = record {
  strings = so.strings ++ string ∷ [];
  wire = pushed ∙ ap (λ (front : List ℕ). front ++ (length string ∷ string)) so.wire
      ∙ sym (wire_of-push so.strings string);
  short = All-push (λ (s : List ℕ). length s ≤ 255) so.strings string so.short fits;
  count = omega (arith, length-append so.strings (string ∷ []), so.count);
  all = strings_step items i d so.strings string inside (sym is) ∙ so.all;
}

-- an item that is refused
pub read_not : (e : ItemFault) (bytes : List ℕ) (items : List (Bor (List ℕ))) (i : ℕ) (d : Bor (List ℕ))
    → IsRead bytes items i → i < length items
    → GivesItems (λ (v : Vec ℕ Global). v.items) (Err e) (string_item (get_or items i d).now)
    → GivesItems (λ (t : TXT). t) (Err e) (string_items (texts items))
read_not faults.Bad bytes items i d so inside is = sym (strings_stop items i d so.strings _ inside (sym is) so.all)
read_not faults.Memory bytes items i d so inside is = tt

-- the strings of all items
pub read_all : (bytes : List ℕ) (items : List (Bor (List ℕ))) (i : ℕ) → IsRead bytes items i → length items ≤ i
    → Some (labels_of bytes) ≡ string_items (texts items)
read_all bytes items i so past = ap Some (labels_of_is bytes so.strings so.wire)
    ∙ strings_end items i so.strings _ past so.all

pub read_whole : (bytes : List ℕ) (items : List (Bor (List ℕ))) (i : ℕ) → IsRead bytes items i → length items ≤ i
    → 0 < length items → IsText bytes
read_whole bytes items i so past some =
    IsText-wire_of bytes so.strings so.wire (λ (none : so.strings ≡ []). omega (arith, so.count, ap length none))
    so.short

-- a text has an item at least
pub txt_of-some : (items : List (Bor (List ℕ))) → 0 < length items → string_items (texts items) ≡ txt_of (texts items)
unfolding txt_of
txt_of-some [] some = absurd (omega arith)
txt_of-some (x ∷ xs) some = let same : string_items (texts (x ∷ xs)) ≡ string_items (texts (x ∷ xs)) = refl in same
