-- A message that was walked whole, as a caller is told it.
use Rattle.std.specs.Prelude.{◌≡◌, ◌⊎◌, ◌+◌, ◌++◌, ◌∷◌, ◌<◌, ◌≤◌, ℕ, ℤ, List, [], drop, length, neg_ℤ, pos, Ok, Err}
use Rattle.base.specs.names.Labels.{NameValue, wire_of}
use Rattle.tasks.specs.Asked.{Asked}
use Rattle.tasks.specs.declared.walk.whole.Section.{Section}
use Rattle.tasks.specs.declared.walk.whole.Section.TheVariants as sections
use Rattle.tasks.specs.declared.walk.whole.Stop.{Stop}
use Rattle.capi.specs.declared.walk.whole.Item.{Item}
use Rattle.capi.specs.declared.walk.whole.RoomNeeded.{RoomNeeded}

-- the number of a section
abbrev pub section_number : Section → ℕ
section_number sections.Question = 0
section_number sections.Answer = 1
section_number sections.Authority = 2
section_number sections.Additional = 3

-- the wire form of a name: each label after its length, and a zero byte (RFC 1035, 3.1)
abbrev pub octets_of : NameValue → List ℕ
octets_of name = wire_of name.labels ++ 0 ∷ []

-- the names of stops in wire form, one after another
unfoldable pub names_of : List Stop → List ℕ
names_of [] = []
names_of (stop ∷ stops) = octets_of stop.name ++ names_of stops

-- the item of a stop whose name stands at this place among the names
abbrev pub item_at : ℕ → Stop → Item
item_at place stop = record {
  found = stop.found;
  name = place;
  name_len = length (octets_of stop.name);
  section = section_number stop.section;
}

-- the items of stops whose names stand one after another from this place on among the names
unfoldable pub items_of : ℕ → List Stop → List Item
items_of place [] = []
items_of place (stop ∷ stops) = item_at place stop
    ∷ items_of (place + length (octets_of stop.name)) stops

-- how much room the items and the names of stops take
abbrev pub needed_for : List Stop → RoomNeeded
needed_for stops = record { items = length stops; names = length (names_of stops) }

-- Items and names stand at the front of the caller's buffers, whose rest stays; the place after the message is
-- answered, and how much was needed.
pub record IsTold (stops : List Stop) (end : ℕ) (old new : List Item) (old_names names : List ℕ)
    (needed : RoomNeeded) (result : ℤ) : Type 0 where
  pub room : length stops ≤ length old
  pub names_room : length (names_of stops) ≤ length old_names
  pub items : new ≡ items_of 0 stops ++ drop (length stops) old
  pub names_are : names ≡ names_of stops ++ drop (length (names_of stops)) old_names
  pub needs : needed ≡ needed_for stops
  pub is : result ≡ pos end

-- One of the caller's buffers has no room, and both stay; -100 is answered, and how much is needed.
pub record HasLittleRoom (stops : List Stop) (old new : List Item) (old_names names : List ℕ)
    (needed : RoomNeeded) (result : ℤ) : Type 0 where
  pub small : (length old < length stops) ⊎ (length old_names < length (names_of stops))
  pub stays : new ≡ old
  pub names_stay : names ≡ old_names
  pub needs : needed ≡ needed_for stops
  pub is : result ≡ neg_ℤ (pos 100)

-- Both of the caller's buffers stay; minus the number of a refusal is answered, and that nothing is needed.
pub record IsNotTold (number : ℕ) (old new : List Item) (old_names names : List ℕ)
    (needed : RoomNeeded) (result : ℤ) : Type 0 where
  pub stays : new ≡ old
  pub names_stay : names ≡ old_names
  pub needs : needed ≡ record { items = 0; names = 0 }
  pub is : result ≡ neg_ℤ (pos number)

-- what a caller is left with of the stops and the place after them, or of the number of a refusal
abbrev pub IsLeftWith : Asked (List Stop × ℕ) → List Item → List Item → List ℕ → List ℕ
    → RoomNeeded → ℤ → Type 0
IsLeftWith (Ok walk) old new old_names names needed result =
    IsTold walk.0 walk.1 old new old_names names needed result
    ⊎ HasLittleRoom walk.0 old new old_names names needed result
IsLeftWith (Err number) old new old_names names needed result =
    IsNotTold number old new old_names names needed result

-- So it is, or refusal 3 because memory ran out.
abbrev pub IsWalked : Asked (List Stop × ℕ) → List Item → List Item → List ℕ → List ℕ
    → RoomNeeded → ℤ → Type 0
IsWalked asked old new old_names names needed result =
    IsLeftWith asked old new old_names names needed result
    ⊎ IsNotTold 3 old new old_names names needed result
