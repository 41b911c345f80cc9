-- Answers of a zone transfer are gathered step by step.
use Rattle.authority.proofs.SetLemmas.{shown_from, shown_here}
use Rattle.authority.proofs.SetsFromLemmas.{IsEnd, all_between, end_from, given_none, given_some}
use Rattle.authority.proofs.WholeLemmas.{transfer_whole}
use Rattle.authority.specs.Filling.{Adds, Fills, FillsTo}
use Rattle.authority.specs.Lookup.{record_of}
use Rattle.authority.specs.Transfer.{IsFull, IsNext, between, given_from, is_between, is_end, left_at, plain_records}
use Rattle.authority.specs.Transfer.{records_from, room_beside, transferring}
use Rattle.authority.specs.declared.filling.Answers.{Answers}
use Rattle.authority.specs.declared.transferring.TransferPlace.TheVariants as places
use Rattle.authority.specs.declared.transferring.TransferPlace.{TransferPlace}
use Rattle.base.specs.names.Labels.{NameValue}
use Rattle.base.specs.declared.dns_class.DNSClass.{DNSClass}
use Rattle.base.specs.RrKey.{key_cmp}
use Rattle.base.specs.declared.rr_key.RrKey.{RrKey}
use Rattle.base_data.specs.RData.{is_empty_data}
use Rattle.base_data.specs.declared.rdata.RData.{RData}
use Rattle.op.specs.Message.{MessageValue}
use Rattle.op.specs.MessageWritten.{AreWhole, parts_of}
use Rattle.op_use.specs.OwnerWalk.{least}
use Rattle.op_use.specs.NamedChanges.{datum_of}
use Rattle.rr.specs.declared.record.Record.{Record}
use Rattle.rr.specs.RecordSet.{SetValue}
use Rattle.std.proofs.Common.{ap, append_assoc, arith, get_or, inl, length, refl, subst, sym, ◌++◌}
use Rattle.std.proofs.Common.{◌+◌, ◌-◌, ◌<◌, ◌∙◌}
use Rattle.std.proofs.lemmas.Bool.{cond-true}
use Rattle.std.specs.Prelude.{List, [], false, map, not, true, ℕ, ◌∷◌, ◌≡◌, ◌≢◌, ◌⊎◌}
use Rattle.std.specs.BTreeMap.Range.{entries_between}
use Rattle.std.specs.BTreeMap.{BTreeMap}
use Rattle.std.specs.List.Sorted.{IsStrictlySortedBy}
use Rattle.std.specs.Map.{keys_of}
use Rattle.std.specs.declared.ops.Bound.TheVariants.{Included, Unbounded}

plain-append : (xs ys : List (Record RData)) → plain_records (xs ++ ys) ≡ plain_records xs + plain_records ys
plain-append [] ys = omega arith
plain-append (x ∷ xs) ys = omega (arith, plain-append xs ys)

-- nothing was added
pub fills_none : (xs : List (Record RData)) (a b : Answers) → b.records.items ≡ a.records.items → b.room ≡ a.room
    → Fills xs xs a b
fills_none xs a b items room = record {
  moved = ap (λ ys. ys ++ xs) items;
  counted = omega (arith, ap plain_records items, room);
}

-- a record was added
pub fills_one : (r : Record RData) (xs : List (Record RData)) (a b : Answers) → Adds r a true b → Fills (r ∷ xs) xs a b
fills_one r xs a b h = record {
  moved = ap (λ ys. ys ++ xs) h.0 ∙ append_assoc a.records.items (r ∷ []) xs;
  counted = omega (arith, ap plain_records h.0, plain-append a.records.items (r ∷ []), h.1);
}

-- first some, and then others
pub fills_then : (xs ys zs : List (Record RData)) (a b c : Answers) → Fills xs ys a b → Fills ys zs b c
    → Fills xs zs a c
fills_then xs ys zs a b c f g = record {
  moved = g.moved ∙ f.moved;
  counted = omega (arith, f.counted, g.counted);
}

-- what stands after those that are added is left too
pub fills_before : (xs ys zs : List (Record RData)) (a b : Answers) → Fills xs ys a b → Fills (xs ++ zs) (ys ++ zs) a b
fills_before xs ys zs a b f = record {
  moved = sym (append_assoc b.records.items ys zs) ∙ ap (λ rs. rs ++ zs) f.moved
      ∙ append_assoc a.records.items xs zs;
  counted = f.counted;
}

pub full_before : (room : ℕ) (xs zs : List (Record RData)) → IsFull room xs → IsFull room (xs ++ zs)
full_before room xs zs f = record {
  first = f.first;
  more = f.more ++ zs;
  stands = ap (λ rs. rs ++ zs) f.stands;
  passes = f.passes;
}

-- ---- the records of a set

-- what is left of a set at its record of a number
abbrev pub left_of : DNSClass → NameValue → ℕ → List (Record RData) → ℕ → List (Record RData)
left_of class owner ttl rs i = map (record_of class owner ttl) (shown_from rs i)

module _ (class : DNSClass) (owner : NameValue) (ttl : ℕ) (rs : List (Record RData)) (i : ℕ) (r : Record RData)
    (below : i < length rs) (is : r ≡ get_or rs i r) where
  abbrev x : Record RData
  x = record_of class owner ttl (datum_of r)

  begins : is_empty_data r.rdata ≡ false → left_of class owner ttl rs i ≡ x ∷ left_of class owner ttl rs (i + 1)
  begins filled = ap (map (record_of class owner ttl)) (shown_here rs i r below is ∙ cond-true _ _ _ (ap not filled))

  pub set_adds : (before : List (Record RData)) (a b : Answers) → Fills before (left_of class owner ttl rs i) a b
      → is_empty_data r.rdata ≡ false → (c : Answers) → Adds x b true c
      → Fills before (left_of class owner ttl rs (i + 1)) a c
  set_adds before a b f filled c h =
      let xs : List (Record RData) = left_of class owner ttl rs (i + 1) in
      fills_then before (x ∷ xs) xs a b c (subst (λ ys. Fills before ys a b) (begins filled) f) (fills_one x xs b c h)

-- ---- the sets of a map

module _ (origin : NameValue) (class : DNSClass) (all it es : List (RrKey × SetValue)) (e : RrKey × SetValue)
    (end : IsEnd all it) (is : it ≡ e ∷ es) (j : ℕ) (before : List (Record RData)) (a b : Answers)
    (f : Fills before (given_from origin class j it) a b) where
  pub sets_skip : is_between origin e.0 ≡ false → Fills before (given_from origin class 0 es) a b
  sets_skip none = subst (λ xs. Fills before xs a b)
      (ap (given_from origin class j) is ∙ given_none origin class j e es none) f

  module _ (stands : is_between origin e.0 ≡ true) (c : Answers) where
    from_set : Fills before (records_from class j e.1 ++ given_from origin class 0 es) a b
    from_set = subst (λ xs. Fills before xs a b)
        (ap (given_from origin class j) is ∙ given_some origin class j e es stands) f

    pub sets_add : Fills (records_from class j e.1) [] b c → Fills before (given_from origin class 0 es) a c
    sets_add g =
        let xs : List (Record RData) = records_from class j e.1 in
        let ys : List (Record RData) = given_from origin class 0 es in
        fills_then before (xs ++ ys) ys a b c from_set (fills_before xs [] ys b c g)

    pub sets_are_full : (n : ℕ) (k : RrKey) → k ≡ e.0 → IsStrictlySortedBy key_cmp (keys_of all)
        → Fills (records_from class j e.1) (records_from class n e.1) b c × IsFull c.room (records_from class n e.1)
        → Fills before (given_from origin class n (entries_between key_cmp (Included k) Unbounded all)) a c
        × IsFull c.room (given_from origin class n (entries_between key_cmp (Included k) Unbounded all))
    sets_are_full n k same sorted g =
        let xs : List (Record RData) = records_from class j e.1 in
        let zs : List (Record RData) = records_from class n e.1 in
        let ys : List (Record RData) = given_from origin class 0 es in
        let here : given_from origin class n (entries_between key_cmp (Included k) Unbounded all) ≡ zs ++ ys
        = ap (λ q. given_from origin class n (entries_between key_cmp (Included q) Unbounded all)) same
        ∙ ap (given_from origin class n) (end_from all it es e sorted end is)
        ∙ given_some origin class n e es stands in
        subst (λ ws. Fills before ws a c × IsFull c.room ws) (sym here) (
          fills_then before (xs ++ ys) (zs ++ ys) a b c from_set (fills_before xs zs ys b c g.0),
          full_before c.room zs ys g.1,
        )

-- ---- a transfer

module _ (origin : NameValue) (class : DNSClass) (sets : BTreeMap RrKey SetValue) (soa : Record RData) where
  abbrev left : TransferPlace → List (Record RData)
  left place = left_at origin class sets soa place

  pub last_added : (a b : Answers) → Adds soa a true b → FillsTo left places.LastSoa a places.End b
  last_added a b h = (fills_one soa [] a b h, inl refl)

  pub begins_with : (k : RrKey) (next : TransferPlace) (a b c : Answers) → k ≡ least origin → Adds soa a true b
      → FillsTo left (places.Records k 0) b next c → FillsTo left places.Start a next c
  begins_with k next a b c is h g =
      let rest : List (Record RData) = between origin class sets ++ soa ∷ [] in
      let same : left (places.Records k 0) ≡ rest
      = ap (λ xs. xs ++ soa ∷ []) (all_between origin class k sets.entries is) in (
        fills_then (soa ∷ rest) rest (left next) a b c (fills_one soa rest a b h)
            (subst (λ xs. Fills xs (left next) b c) same g.0),
        g.1,
      )

  -- what was added is the next message
  pub next_is : (m : MessageValue) (place next : TransferPlace) (a b : Answers) (message : MessageValue)
      → a.records.items ≡ [] → a.room ≡ room_beside m.queries → b.records.items ≢ [] → FillsTo left place a next b
      → message ≡ transferring m place b.records.items → IsNext origin class sets soa m place message next
  next_is m place next a b message none room some (f, full) is =
      let rs : List (Record RData) = b.records.items in
      let counted : plain_records rs + b.room ≡ room_beside m.queries = omega (
        arith,
        f.counted,
        ap plain_records none,
        room,
      ) in
      let left_room : b.room ≡ room_beside m.queries - plain_records rs = omega (arith, counted) in
      record {
        answers = rs;
        is_message = is;
        in_order = sym (f.moved ∙ ap (λ xs. xs ++ left place) none);
        some = some;
        fits = omega (arith, counted);
        whole = subst (λ (x : MessageValue). AreWhole (parts_of 65535 x 12 [])) (sym is)
            (transfer_whole m place rs b.room some counted);
        full = subst (λ n. (is_end next ≡ true) ⊎ IsFull n (left next)) left_room full;
      }
