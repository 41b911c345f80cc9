-- The stack of texts that are open, against the recursion over entries.
use Rattle.std.proofs.Common.{Bor, ◌≡◌, ℕ, zero, suc, ◌+◌, ◌-◌, ◌<◌, ◌≤◌, List, [], ◌∷◌, ◌++◌, length, refl, ap, sym}
use Rattle.std.proofs.Common.{◌∙◌, arith, append_assoc, map, reverse, Option, Some, None, Result, Ok, Err}
use Rattle.std.proofs.lemmas.List.{map-append, reverse-append}
use Rattle.std.specs.Prelude.{option_map, codes}
use Rattle.std.specs.Str.{IsUtf8}
use Rattle.std.specs.String.{string_bytes}
use Rattle.base.specs.texts.TextFaults.{Fault, not_found, says}
use Rattle.base.specs.texts.TokenList.{Placed, followed, symbol, symbols, whole_text}
use Rattle.base.specs.texts.Tokens.{Unread, at, blank, char_data, eol, include, list, origin_sign, ttl_sign}
use Rattle.txt.specs.Cutting.{cut_off, entry_value, rest_of_body, rest_of_entry, rest_of_stop}
use Rattle.txt.specs.Entries.{Body, Entry, PlacedEntry, Setting, Settings, Stop, entries, entries_of, faulty_entry}
use Rattle.txt.specs.Entries.{first_entry, first_placed, include_end, include_entry, items_after, line_after, line_by}
use Rattle.txt.specs.Entries.{no_settings, origin_entry, owner_line, refused, setting_of, ttl_entry, typed, untyped}
use Rattle.txt.specs.Entries.{whole, with_item, with_setting}
use Rattle.txt.specs.Zone.{PlacedFault, Texts, Within, ZoneState, apply, carried, data_in, fault_here, fold}
use Rattle.txt.specs.Zone.{folded_text, included, made_within, max_depth, opened_text, owned, placed, recorded}
use Rattle.txt.specs.Zone.{restored, settled, stopped, type_in, ◌>>=◌}
use Rattle.txt.specs.Faults.{frame_opened}
use Rattle.txt.specs.Places.{Position, fault_place, include_place, position}
use Rattle.txt.specs.declared.zone.entry.Entry.{Entry as CutEntry}
use Rattle.txt.specs.declared.zone.entry.Entry.TheVariants as cut
use Rattle.txt.specs.declared.zone.texts.Frame.{Frame}
use Rattle.base.proofs.texts.ListingLemmas.{Shrinks, listing_is}

-- here and below the line for `other` is proved once for each symbol that no line above it names
items_le : (from : List Placed) (items : List (List ℕ)) → length (items_after from items).1 ≤ length from
items_le [] items = omega arith
items_le ((symbol eol, left) ∷ rest) items = omega arith
items_le ((symbol (char_data word), left) ∷ rest) items = omega (arith, items_le rest (items ++ word ∷ []))
items_le ((symbol (list words), left) ∷ rest) items = omega (arith, items_le rest (items ++ words))
items_le (other ∷ rest) items = omega arith

line_le : (from : List Placed) (stated : Settings) → length (line_after from stated).1 ≤ length from
line_le [] stated = omega arith
line_le ((symbol eol, left) ∷ rest) stated = omega arith
line_le ((symbol (char_data word), left) ∷ rest) stated = by (setting_of word) (line_le rest) where
  by : (found : Option Setting) → ((more : Settings) → length (line_after rest more).1 ≤ length rest)
      → length (line_by found word rest (line_after rest) stated).1 ≤ length ((symbol (char_data word), left) ∷ rest)
  by (Some setting) le = let most = le (with_setting stated setting) in omega arith
  by None le = omega (arith, items_le rest [])
line_le (other ∷ rest) stated = omega arith

include_end_le : (name : List ℕ) (from : List Placed) → length (include_end name from).1 ≤ length from
include_end_le name [] = omega arith
include_end_le name ((symbol eol, left) ∷ rest) = omega arith
include_end_le name (other ∷ rest) = omega arith

item_le : (entry : List ℕ → List Placed → Entry × List Placed)
    → ((word : List ℕ) (rest : List Placed) → length (entry word rest).1 ≤ length rest)
    → (from : List Placed) → length (with_item entry from).1 ≤ length from
item_le entry le [] = omega arith
item_le entry le ((symbol (char_data word), left) ∷ rest) = let most = le word rest in omega arith
item_le entry le (other ∷ rest) = omega arith

abbrev IsAfter : ℕ → Option (Entry × List Placed) → Type 0
IsAfter n None = Unit {0}
IsAfter n (Some found) = length found.1 < n

after : (from : List Placed) → IsAfter (length from) (first_entry from)
unfolding first_entry
after [] = tt
after ((symbol (char_data word), left) ∷ rest) = omega (arith, line_le rest no_settings)
after ((symbol blank, left) ∷ rest) = omega (arith, line_le rest no_settings)
after ((symbol at, left) ∷ rest) = omega (arith, line_le rest no_settings)
after ((symbol origin_sign, left) ∷ rest) = let most =
    item_le (λ word more. (origin_entry word, more)) (λ word more. omega arith) rest in omega arith
after ((symbol include, left) ∷ rest) = let most = item_le include_end include_end_le rest in omega arith
after ((symbol ttl_sign, left) ∷ rest) = let most =
    item_le (λ word more. (ttl_entry word, more)) (λ word more. omega arith) rest in omega arith
after (other ∷ rest) = omega arith

pub entries_shrink : Shrinks first_placed (λ from. length from)
entries_shrink from found is = go (first_entry from) (after from) is where
  go : (first : Option (Entry × List Placed)) → IsAfter (length from) first
      → option_map (λ (f : Entry × List Placed). ((f.0, from), f.1)) first ≡ Some found
      → length found.1 < length from
  go None less same = absurd cc
  go (Some f) less same = let whole : ((f.0, from), f.1) ≡ found = cc in rw (← whole) less

-- the first entry, and then the others
pub entries_are : (from : List Placed) → entries from ≡ followed entries (first_placed from)
unfolding entries
entries_are from = listing_is first_placed (λ s. length s) entries_shrink from

-- the same where the first entry is this
entries_from : (from : List Placed) (found : Option (Entry × List Placed)) → first_entry from ≡ found
    → entries from ≡ followed entries (option_map (λ (f : Entry × List Placed). ((f.0, from), f.1)) found)
entries_from from found is = rw (← is) (entries_are from)

-- an entry opens no text
abbrev pub OpensNone : CutEntry → Type 0
OpensNone e = (name : Bor (List ℕ)) → e ≡ cut.Include name → ⊥

-- the first entry, and then the others, where it opens no text
applied : (from to : List Placed) (within : Within) (text : List ℕ) (s : ZoneState) (e : CutEntry) → OpensNone e
    → first_entry from ≡ Some (cut_off e to)
    → fold within text s (entries from)
    ≡ (placed (λ fault. position text (fault_place fault from)) (apply s (entry_value e))
    >>= λ t. fold within text t (entries (rest_of_entry (entry_value e) to)))
unfolding fold
applied from to within text s e none is = ap (fold within text s) (entries_from from _ is) ∙ go e none where
  go : (e : CutEntry) → OpensNone e
      → fold within text s ((entry_value e, from) ∷ entries (rest_of_entry (entry_value e) to))
      ≡ (placed (λ fault. position text (fault_place fault from)) (apply s (entry_value e))
      >>= λ t. fold within text t (entries (rest_of_entry (entry_value e) to)))
  go (cut.Include name) none = absurd (none name refl)
  go other none = refl

-- the entry that opens a text, and then the others
opens : (from to : List Placed) (within : Within) (text : List ℕ) (s : ZoneState) (name : List ℕ)
    → first_entry from ≡ Some (include_entry name, to)
    → fold within text s (entries from)
    ≡ (within s name (position text (include_place from)) >>= λ t. fold within text t (entries to))
unfolding fold
opens from to within text s name is = ap (fold within text s) (entries_from from _ is)

ends : (from : List Placed) (within : Within) (text : List ℕ) (s : ZoneState) → first_entry from ≡ None
    → fold within text s (entries from) ≡ Ok s
unfolding fold
ends from within text s is = ap (fold within text s) (entries_from from _ is)

-- what stands after an entry without a fault is read on
reads_on : (s t : ZoneState) (e : Entry) (to : List Placed) → apply s e ≡ Ok t → rest_of_entry e to ≡ to
unfolding apply
reads_on s t (owner_line owner stated body) to is = line (owned s owner) body is where
  typed_on : {A : Type 0} (type : Result A Fault) (u : ZoneState) (end : Stop)
      (f : A → ZoneState → Result ZoneState Fault)
      → (type >>= λ a. stopped u end >>= f a) ≡ Ok t → rest_of_stop end to ≡ to
  typed_on type u whole f is = refl
  typed_on (Err fault) u (refused other) f is = absurd cc
  typed_on (Ok a) u (refused other) f is = absurd cc

  line : (made : Result ZoneState Fault) (body : Body) → (made >>= λ u. carried (settled u stated) body) ≡ Ok t
      → rest_of_body body to ≡ to
  line (Err fault) body is = absurd cc
  line (Ok u) (untyped whole) is = refl
  line (Ok u) (untyped (refused other)) is = absurd cc
  line (Ok u) (typed word items end) is = typed_on (type_in (settled u stated) word) (settled u stated) end
      (λ type v. data_in v type items >>= λ d. recorded v d) is
reads_on s t (faulty_entry other) to is = absurd cc
reads_on s t other to is = refl

bind_bind : {A B C : Type 0} (made : Result A PlacedFault) (f : A → Result B PlacedFault) (g : B → Result C PlacedFault)
    → ((made >>= f) >>= g) ≡ (made >>= λ a. f a >>= g)
bind_bind (Ok a) f g = refl
bind_bind (Err found) f g = refl

-- what an included text does in the text that is read
abbrev pub Rest : Texts → ℕ → List Frame → Within
Rest texts max fs = included texts (max - length fs)

-- What is made of the whole, where this is made of the text that is read: then come the texts below, the one
-- that was left last first, each after its included text.
abbrev pub finish : Texts → ℕ → List Frame → Result ZoneState PlacedFault → Result ZoneState PlacedFault
finish texts max [] made = made
finish texts max (f ∷ fs) made =
    finish texts max fs (made_within (frame_opened f) made
    >>= λ t. fold (Rest texts max fs) f.text.now (restored f.origin t) (entries (symbols f.lexer)))

-- a fault in the text that is read, as it is seen from the first one
abbrev pub under : List Frame → PlacedFault → PlacedFault
under [] found = found
under (f ∷ fs) found = under fs (record found { opened = frame_opened f ∷ found.opened })

pub under_is : (fs : List Frame) (found : PlacedFault)
    → under fs found ≡ record found { opened = map frame_opened (reverse fs) ++ found.opened }
under_is [] found = refl
under_is (f ∷ fs) found =
    under_is fs (record found { opened = frame_opened f ∷ found.opened })
    ∙ simp (reverse-append (f ∷ []) fs, map-append, append_assoc)

finish-err : (texts : Texts) (max : ℕ) (fs : List Frame) (found : PlacedFault)
    → finish texts max fs (Err found) ≡ Err (under fs found)
finish-err texts max [] found = refl
finish-err texts max (f ∷ fs) found = finish-err texts max fs
    (record found { opened = frame_opened f ∷ found.opened })

room_is : (max n : ℕ) → n < max → max - n ≡ suc (max - suc n)
room_is max n less = omega arith

included_none : (texts : Texts) (max n : ℕ) (s : ZoneState) (name : List ℕ) (place : Position) → max ≤ n
    → included texts (max - n) s name place
    ≡ Err (fault_here place (says (codes "Max depth level for nested $INCLUDE is reached")))
unfolding included
included_none texts max n s name place deep = let none : max - n ≡ zero = omega arith in rw none refl

included_one : (texts : Texts) (max n : ℕ) (s : ZoneState) (name : List ℕ) (place : Position) (text : Option (List ℕ))
    → n < max → texts name ≡ text → included texts (max - n) s name place
    ≡ opened_text (included texts (max - suc n)) s name place text
unfolding included
included_one texts max n s name place text less is = rw (room_is max n less, is) refl

-- What is left to do comes to this. Each text is one, in UTF-8.
pub record Remains (texts : Texts) (max : ℕ) (fs : List Frame) (text : List ℕ) (s : ZoneState) (unread : Unread)
    (zone : Result ZoneState PlacedFault) : Type 0 where
  pub whole : finish texts max fs (fold (Rest texts max fs) text s (entries (symbols unread))) ≡ zone
  pub depth : length fs ≤ max
  pub utf8 : IsUtf8 text

pub remains_begins : (texts : Texts) (s : ZoneState) (text : List ℕ) (unread : Unread) (fs : List Frame)
    → fs ≡ [] → unread ≡ whole_text text → IsUtf8 text
    → Remains texts max_depth fs text s unread (folded_text texts s text)
unfolding folded_text
remains_begins texts s text unread fs none is utf8 = rw (none, is) (record {
  whole = refl;
  depth = omega arith;
  utf8 = utf8;
})

module _ {texts : Texts} {max : ℕ} {fs : List Frame} {text : List ℕ} {s : ZoneState} {unread : Unread}
    {zone : Result ZoneState PlacedFault} (r : Remains texts max fs text s unread zone) where
  -- an entry that opens no text
  pub remains_went : (t : ZoneState) (rest : Unread) (e : CutEntry) → OpensNone e
      → first_entry (symbols unread) ≡ Some (cut_off e (symbols rest)) → apply s (entry_value e) ≡ Ok t
      → Remains texts max fs text t rest zone
  remains_went t rest e none is made = record {
    whole = ap (finish texts max fs)
        (sym (rw (made, reads_on s t (entry_value e) (symbols rest) made) at
        (applied (symbols unread) (symbols rest) (Rest texts max fs) text s e none is))) ∙ r.whole;
    depth = r.depth;
    utf8 = r.utf8;
  }

  pub remains_fails : (to : List Placed) (e : CutEntry) (fault : Fault) → OpensNone e
      → first_entry (symbols unread) ≡ Some (cut_off e to) → apply s (entry_value e) ≡ Err fault
      → zone ≡ Err (under fs (fault_here (position text (fault_place fault (symbols unread))) fault))
  remains_fails to e fault none is made =
      sym r.whole ∙ ap (finish texts max fs)
      (rw made at (applied (symbols unread) to (Rest texts max fs) text s e none is)) ∙ finish-err texts max fs _

  -- the end of the first text
  pub remains_none : fs ≡ [] → first_entry (symbols unread) ≡ None → zone ≡ Ok s
  remains_none none is =
      sym (rw none at r.whole) ∙ ends (symbols unread) (Rest texts max []) text s is

  -- the end of another
  pub remains_back : (f : Frame) (gs : List Frame) (t : ZoneState) → fs ≡ f ∷ gs → t ≡ restored f.origin s
      → first_entry (symbols unread) ≡ None → IsUtf8 f.text.now → Remains texts max gs f.text.now t f.lexer zone
  remains_back f gs t below same is utf8 =
      let whole = rw below at r.whole in
      let deep = rw below at r.depth in
      rw same (record {
        whole = ap (finish texts max (f ∷ gs))
            (sym (ends (symbols unread) (Rest texts max (f ∷ gs)) text s is)) ∙ whole;
        depth = omega arith;
        utf8 = utf8;
      })

  -- an entry that opens a text, which this is made in
  opening : (name : List ℕ) (to : List Placed) (made : Result ZoneState PlacedFault)
      → first_entry (symbols unread) ≡ Some (include_entry name, to)
      → included texts (max - length fs) s name (position text (include_place (symbols unread))) ≡ made
      → finish texts max fs (made >>= λ t. fold (Rest texts max fs) text t (entries to)) ≡ zone
  opening name to made is same =
      ap (finish texts max fs) (sym (rw same at (opens (symbols unread) to (Rest texts max fs) text s name is)))
      ∙ r.whole

  pub remains_deep : (name : List ℕ) (to : List Placed)
      → first_entry (symbols unread) ≡ Some (include_entry name, to) → max ≤ length fs
      → zone ≡ Err (under fs (fault_here (position text (include_place (symbols unread)))
      (says (codes "Max depth level for nested $INCLUDE is reached"))))
  remains_deep name to is deep =
      sym (opening name to _ is (included_none texts max (length fs) s name _ deep)) ∙ finish-err texts max fs _

  pub remains_missing : (name : List ℕ) (to : List Placed)
      → first_entry (symbols unread) ≡ Some (include_entry name, to) → length fs < max → texts name ≡ None
      → zone ≡ Err (under fs (fault_here (position text (include_place (symbols unread))) (not_found name)))
  remains_missing name to is room missing =
      sym (opening name to _ is (included_one texts max (length fs) s name _ None room missing))
      ∙ finish-err texts max fs _

  pub remains_opened : (f : Frame) (inner : List ℕ) (gs : List Frame) (rest : Unread)
      → gs ≡ f ∷ fs → rest ≡ whole_text inner → f.text.now ≡ text
      → first_entry (symbols unread) ≡ Some (include_entry (string_bytes f.name), symbols f.lexer)
      → f.left ≡ include_place (symbols unread) → f.origin ≡ s.origin → length fs < max
      → texts (string_bytes f.name) ≡ Some inner → IsUtf8 inner
      → Remains texts max gs inner s rest zone
  remains_opened f inner gs rest below reads same_text is here same room found utf8 = rw (below, reads) (record {
    whole =
        let made = fold (included texts (max - suc (length fs))) inner s (entries_of (whole_text inner)) in
        let on = λ (t : ZoneState). fold (Rest texts max fs) text t (entries (symbols f.lexer)) in
        rw (same_text, same, here) (ap (finish texts max fs) (sym (bind_bind
        (made_within (string_bytes f.name, (position text (include_place (symbols unread))).line) made)
        (λ t. Ok (restored s.origin t)) on))
        ∙ opening (string_bytes f.name) (symbols f.lexer) _ is
        (included_one texts max (length fs) s (string_bytes f.name) _ (Some inner) room found));
    depth = omega arith;
    utf8 = utf8;
  })

-- how many turns the entries take, where an included text takes so many
abbrev pub cost : (List ℕ → ℕ) → List PlacedEntry → ℕ
cost inner [] = 1
cost inner ((include_entry name, from) ∷ es) = suc (inner name + cost inner es)
cost inner (entry ∷ es) = suc (cost inner es)

abbrev pub cost_opened : (List ℕ → ℕ) → Option (List ℕ) → ℕ
cost_opened inner None = 0
cost_opened inner (Some text) = cost inner (entries_of (whole_text text))

-- how many turns an included text takes, where so many more may be open
unfoldable pub cost_in : Texts → ℕ → List ℕ → ℕ
cost_in texts zero name = 0
cost_in texts (suc room) name = cost_opened (cost_in texts room) (texts name)

-- how many turns the texts below take
abbrev pub left : Texts → ℕ → List Frame → ℕ
left texts max [] = 0
left texts max (f ∷ fs) = cost (cost_in texts (max - length fs)) (entries (symbols f.lexer)) + left texts max fs

abbrev pub work : Texts → ℕ → List Frame → Unread → ℕ
work texts max fs unread = cost (cost_in texts (max - length fs)) (entries (symbols unread)) + left texts max fs

cost_some : (inner : List ℕ → ℕ) (es : List PlacedEntry) → 0 < cost inner es
cost_some inner [] = omega arith
cost_some inner ((include_entry name, from) ∷ es) = omega arith
cost_some inner (entry ∷ es) = omega arith

pub work_went : (texts : Texts) (max : ℕ) (fs : List Frame) (s t : ZoneState) (unread rest : Unread) (e : CutEntry)
    → OpensNone e → first_entry (symbols unread) ≡ Some (cut_off e (symbols rest)) → apply s (entry_value e) ≡ Ok t
    → work texts max fs rest < work texts max fs unread
work_went texts max fs s t unread rest e none is made =
    let inner = cost_in texts (max - length fs) in
    omega (
      arith,
      ap (cost inner) (entries_from (symbols unread) _ is
          ∙ ap (λ (to : List Placed). (entry_value e, symbols unread) ∷ entries to)
          (reads_on s t (entry_value e) (symbols rest) made)),
      go inner e none,
    ) where
      go : (inner : List ℕ → ℕ) (e : CutEntry) → OpensNone e
          → cost inner ((entry_value e, symbols unread) ∷ entries (symbols rest)) ≡ suc
          (cost inner (entries (symbols rest)))
      go inner (cut.Include name) none = absurd (none name refl)
      go inner other none = refl

pub work_back : (texts : Texts) (max : ℕ) (fs : List Frame) (f : Frame) (unread : Unread)
    → work texts max fs f.lexer < work texts max (f ∷ fs) unread
work_back texts max fs f unread = omega (
  arith,
  cost_some (cost_in texts (max - length (f ∷ fs))) (entries (symbols unread)),
)

cost_in_is : (texts : Texts) (max n : ℕ) (name text : List ℕ) → n < max → texts name ≡ Some text
    → cost_in texts (max - n) name ≡ cost (cost_in texts (max - suc n)) (entries_of (whole_text text))
unfolding cost_in
cost_in_is texts max n name text less found = rw (room_is max n less, found) refl

pub work_opened : {name text : List ℕ} (texts : Texts) (max : ℕ) (fs gs : List Frame) (f : Frame) (unread : Unread)
    → gs ≡ f ∷ fs → first_entry (symbols unread) ≡ Some (include_entry name, symbols f.lexer) → length fs < max
    → texts name ≡ Some text → work texts max gs (whole_text text) < work texts max fs unread
work_opened {name} {text} texts max fs gs f unread below is room found = rw below (omega (
  arith,
  ap (cost (cost_in texts (max - length fs))) (entries_from (symbols unread) _ is),
  cost_in_is texts max (length fs) name text room found,
))
