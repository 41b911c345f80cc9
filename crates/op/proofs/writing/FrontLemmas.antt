-- Items that were written, and those that had no room, are a front.
use Rattle.std.proofs.Common.{◌≡◌, ℕ, ◌<◌, ◌≤◌, Bool, true, false, List, [], ◌∷◌, ◌++◌, length, map, refl, ap, sym}
use Rattle.std.proofs.Common.{◌∙◌, subst, arith, length-append, ◌^◌, Option, Some, None, Result, Ok, Err, Bor, ◌⊎◌, inl}
use Rattle.std.proofs.Common.{inr}
use Rattle.std.specs.Prelude.{All, IsSomeAnd, MatchOption, max}
use Rattle.std.specs.Option.{option_copied, option_map}
use Rattle.std.specs.Iterator.{Yields}
use Rattle.std.specs.Iterator.Adapters.{once_item, once_steps}
use Rattle.std.specs.declared.iter.Once.{Once}
use Rattle.std.proofs.lemmas.List.{append-nil, length-map, map-append}
use Rattle.std.proofs.lemmas.List.Elements.{All-cons, All-nil, All-tail}
use Rattle.base.specs.writing.Items.{EmitsAll}
use Rattle.base.specs.writing.State.{State}
use Rattle.base.specs.declared.error.proto_error.ProtoError.{ProtoError}
use Rattle.base.specs.declared.error.proto_error.ProtoError.TheVariants as refusals
use Rattle.base.proofs.writing.SliceLemmas.{all_now}
use Rattle.base_data.specs.declared.rdata.RData.{RData}
use Rattle.rr.specs.Record.{record_written}
use Rattle.rr.specs.declared.record.Record.{Record}
use Rattle.rr.specs.RecordSays.{KeptRecord}
use Rattle.op.specs.Composition.{CountsItems, Narrows, WritesFront, WritesItems, WritesRecordItems}
use Rattle.op.specs.Cut.{any_lost}
use Rattle.op.specs.EdnsRecord.{edns_record}
use Rattle.op.specs.Fits.{as_list, opt_records, signature_record, signature_records}
use Rattle.op.specs.ResponseCode.{code_high}
use Rattle.op.specs.declared.edns.Edns.{Edns}
use Rattle.op.specs.declared.edns.writing.RaisedEdns.{RaisedEdns}
use Rattle.op.specs.declared.message.writing.Written.{Written}
use Rattle.op.specs.declared.response_code.ResponseCode.{ResponseCode}
use Rattle.base.specs.writing.Written.{FirstPasses, Writing, after, in_turn}
use Rattle.base.proofs.writing.WrittenLemmas.{after-none, in_turn-map}

-- the one item came, or is still to come
once_yields : {A : Type 0} (s t : Once A) (x : A) (xs : List A) → once_item s ≡ Some x → Yields once_steps s xs t
    → ((xs ≡ []) × (once_item t ≡ Some x)) ⊎ ((xs ≡ x ∷ []) × (once_item t ≡ None))
once_yields s t x [] item yields = inl (refl, ap (λ u. once_item u) (sym yields) ∙ item)
once_yields s t x (y ∷ []) item (u, step, yields) =
    let same : y ≡ x = let first = step.0 in cc in
    inr (ap (λ z. z ∷ []) same, ap (λ v. once_item v) (sym yields) ∙ step.1)
once_yields s t x (y ∷ (z ∷ ys)) item (u, step, (v, next, others)) =
    absurd (let none = step.1 in let some = next.0 in cc)

module _ {E : Type 0} (fits : E → Type 0) (f : E → Writing) where
  -- all items were written
  pub all_written : {xs kept : List E} {a b : State} {n : ℕ} {is_cut : Bool} → xs ≡ kept → All fits kept
      → b ≡ after (in_turn f kept) a
      → length b.bytes ≤ max (length a.bytes) a.limit → n ≡ length kept → is_cut ≡ false
      → WritesFront fits f xs a b n is_cut
  all_written {kept = kept} whole fit exact within count uncut = record {
    kept = kept;
    lost = [];
    whole = whole ∙ sym (append-nil kept);
    fit = fit;
    counted = count;
    tells = uncut;
    exact = exact;
    within = within;
    passes = tt;
  }

  -- the items before one that had no room were written
  pub front_written : (kept rest : List E) (x : E) {xs : List E} {a b : State} {n : ℕ} {is_cut : Bool}
      → xs ≡ kept ++ x ∷ rest → All fits kept → b ≡ after (in_turn f kept) a
      → length b.bytes ≤ max (length a.bytes) a.limit → n ≡ length kept → is_cut ≡ true
      → FirstPasses f a.limit b (x ∷ rest) → WritesFront fits f xs a b n is_cut
  front_written kept rest x whole fit exact within count cut passes = record {
    kept = kept;
    lost = x ∷ rest;
    whole = whole;
    fit = fit;
    counted = count;
    tells = cut;
    exact = exact;
    within = within;
    passes = passes;
  }

  -- a front of few items, whose number is narrow
  narrowed : {xs : List E} {a b : State} {n : ℕ} {is_cut : Bool} (result : Result Written ProtoError)
      → WritesFront fits f xs a b n is_cut
      → length xs < 2 ^ 16 → Narrows n is_cut result → WritesItems fits f xs a result b
  narrowed {xs} {a} {b} (Ok w) front few narrows =
      subst (λ v. WritesFront fits f xs a b v.count v.is_cut) (sym narrows.1) front
  narrowed (Err e) front few narrows =
      absurd (omega (arith, few, narrows.0, front.counted, ap length front.whole, length-append front.kept front.lost))

  -- of none nothing is written
  pub none_written : (a : State) (result : Result Written ProtoError) → Narrows 0 false result
      → WritesItems fits f [] a result a
  none_written a result narrows = narrowed result
      (all_written refl (All-nil fits) (sym (after-none a)) (omega arith) refl refl) (omega arith) narrows

  module _ (item : Bor E) (s t : Once (Bor E)) (a b : State) where
    pub one_item : (answer : Result ℕ ProtoError) (result : Result Written ProtoError) → once_item s ≡ Some item
        → EmitsAll (λ (x : Bor E). fits x.now) (λ x. f x.now) once_steps s t a b answer → CountsItems answer result
        → WritesItems fits f (item.now ∷ []) a result b
    one_item (Ok n) result first (xs, (u, yields, stop), fit, count, exact, within) counts =
        elim (once_yields s u item xs first yields) [
          | inl (none, left) ↦ absurd (let is = stop.0 in cc)
          | inr (all, left) ↦
              let whole = ap (map (λ x. x.now)) (sym all) in
              narrowed result (all_written whole (all_now fits xs fit)
              (exact ∙ ap (λ g. after g a) (in_turn-map (λ x. x.now) f xs)) within
              (count ∙ sym (length-map xs (λ x. x.now))) refl)
              (omega arith) counts
        ]
    one_item (Err (refusals.NotAllRecordsWritten n)) result first
        (xs, x, (u, yields, step), fit, count, exact, within, passes) counts =
        elim (once_yields s u item xs first yields) [
          | inl (none, left) ↦
              let is : item ≡ x = let next = step.0 in cc in
              narrowed result (front_written (map (λ x. x.now) xs) [] x.now
              (λ i. map (λ x. x.now) (sym none i) ++ (is i).now ∷ []) (all_now fits xs fit)
              (exact ∙ ap (λ g. after g a) (in_turn-map (λ x. x.now) f xs)) within
              (count ∙ sym (length-map xs (λ x. x.now))) refl passes)
              (omega arith) counts
          | inr (all, left) ↦ absurd (let is = step.0 in cc)
        ]
    one_item (Err refusals.Memory) result first emits counts = rw counts refl
    one_item (Err other) result first emits counts = absurd emits

pub any_map : {A E : Type 0} (view : A → E) (xs : List A) → any_lost xs ≡ any_lost (map view xs)
any_map view [] = refl
any_map view (x ∷ xs) = refl

-- items that are written as their values are those values
module _ {A E : Type 0} (view : A → E) (fits : E → Type 0) (f : E → Writing) where
  lost_map : (limit : ℕ) (b : State) (xs : List A) → FirstPasses (λ x. f (view x)) limit b xs
      → FirstPasses f limit b (map view xs)
  lost_map limit b [] passes = tt
  lost_map limit b (x ∷ xs) passes = passes

  fit_map : (xs : List A) → All (λ x. fits (view x)) xs → All fits (map view xs)
  fit_map [] all = All-nil fits
  fit_map (x ∷ xs) all = All-cons fits (view x) (map view xs) (all 0 x (omega arith))
      (fit_map xs (All-tail (λ y. fits (view y)) x xs all))

  pub items_map : (xs : List A) (a b : State) (result : Result Written ProtoError)
      → WritesItems (λ x. fits (view x)) (λ x. f (view x)) xs a result b
      → WritesItems fits f (map view xs) a result b
  items_map xs a b (Ok written) front = record {
    kept = map view front.kept;
    lost = map view front.lost;
    whole = ap (map view) front.whole ∙ map-append view front.kept front.lost;
    fit = fit_map front.kept front.fit;
    counted = front.counted ∙ sym (length-map front.kept view);
    tells = front.tells ∙ any_map view front.lost;
    exact = front.exact ∙ ap (λ g. after g a) (in_turn-map view f front.kept);
    within = front.within;
    passes = lost_map a.limit b front.lost front.passes;
  }
  items_map xs a b (Err e) memory = memory

-- ---- an item that there may be, as a record

map_listed : {A E : Type 0} (view : A → E) (o : Option A) → map view (as_list o) ≡ as_list (option_map view o)
map_listed view None = refl
map_listed view (Some x) = refl

-- the record that stands for a value, if there is one
module _ {A : Type 0} (view : A → Record RData) (o : Option A) (a b : State) (result : Result Written ProtoError) where
  abbrev pub WritesViewed : Type 0
  WritesViewed = WritesItems (λ x. KeptRecord (view x)) (λ x. record_written (view x)) (as_list o) a result b

  viewed_items : WritesViewed → WritesRecordItems (as_list (option_map view o)) a result b
  viewed_items run = subst (λ rs. WritesRecordItems rs a result b) (map_listed view o)
      (items_map view KeptRecord record_written (as_list o) a b result run)

pub signature_items : (o : Option (Record (List ℕ))) (a b : State) (result : Result Written ProtoError)
    → WritesViewed signature_record o a b result
    → WritesRecordItems (signature_records o) a result b
signature_items = viewed_items signature_record

-- the record of EDNS with the high bits that are written
abbrev pub raised_record : RaisedEdns → Record RData
raised_record r = edns_record (record r.edns.now { rcode_high = r.rcode_high })

module _ (code : ResponseCode) (high : ℕ) (is : high ≡ code_high code) where
  raised_is : (P : Bor Edns → RaisedEdns → Type 0)
      → ((e : Bor Edns) (x : RaisedEdns) → P e x → x ≡ record { edns = e; rcode_high = high })
      → (o : Option (Bor Edns)) (r : Option RaisedEdns) → MatchOption o (r ≡ None) (λ e. IsSomeAnd r (P e))
      → as_list (option_map raised_record r) ≡ opt_records code (option_copied o)
  raised_is P made None r none = ap (λ x. as_list (option_map raised_record x)) none
  raised_is P made (Some e) (Some x) holds =
      ap (λ y. raised_record y ∷ []) (made e x holds) ∙ ap (λ h. edns_record (record e.now { rcode_high = h }) ∷ []) is
  raised_is P made (Some e) None holds = absurd holds

  pub opt_items : (o : Option (Bor Edns)) (r seen : Option RaisedEdns) (P : Bor Edns → RaisedEdns → Type 0)
      → ((e : Bor Edns) (x : RaisedEdns) → P e x → x ≡ record { edns = e; rcode_high = high })
      → MatchOption o (r ≡ None) (λ e. IsSomeAnd r (P e)) → seen ≡ r
      → (a b : State) (result : Result Written ProtoError) → WritesViewed raised_record seen a b result
      → WritesRecordItems (opt_records code (option_copied o)) a result b
  opt_items o r seen P made cases same a b result run =
      subst (λ rs. WritesRecordItems rs a result b)
      (ap (λ x. as_list (option_map raised_record x)) same ∙ raised_is P made o r cases)
      (viewed_items raised_record seen a b result run)
