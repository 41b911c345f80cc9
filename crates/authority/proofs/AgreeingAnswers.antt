-- Zones that have the same for each name answer the same, but for glue; and those that answer alike reply alike.
use Rattle.authority.proofs.AgreementLemmas.{records_agree}
use Rattle.authority.specs.Agreement.{less_additionals, with_sets}
use Rattle.authority.specs.Answer.{AnswerValue, addresses_found, addresses_of, answer, answer_found, as_negative}
use Rattle.authority.specs.Answer.{end_like, extras, host_in, is_given, negative, of_data, owns, referring}
use Rattle.authority.specs.Answer.{with_addresses, with_authority, with_host}
use Rattle.authority.specs.Lookup.{Alias, Cut, Data, Finding, NoName, Outside, lookup, records}
use Rattle.authority.specs.Reply.{answer_to, header_refusal, question_refusal, refused_or}
use Rattle.base.specs.names.Labels.{NameValue}
use Rattle.base.specs.names.Parents.{is_within}
use Rattle.base.specs.RrKey.{key_cmp, key_of}
use Rattle.base.specs.declared.record_type.RecordType.TheVariants as types
use Rattle.base.specs.declared.record_type.RecordType.{RecordType}
use Rattle.base_data.specs.declared.rdata.RData.{RData}
use Rattle.op.specs.Message.{MessageValue}
use Rattle.op.specs.declared.query.Query.{Query}
use Rattle.op.specs.declared.response_code.ResponseCode.TheVariants.{NXDomain, NoError, NotImp, Refused, ServFail}
use Rattle.op_use.specs.Server.{StepCode, and_then, is_any, is_meta, unless}
use Rattle.op_use.specs.Zone.{Datum, Zone}
use Rattle.rr.specs.RecordOrder.{same_class}
use Rattle.rr.specs.declared.record.Record.{Record}
use Rattle.std.proofs.Common.{ap, refl, sym, ◌++◌, ◌∙◌}
use Rattle.std.specs.FinMap as fin
use Rattle.std.specs.FinMap.{FinMap}
use Rattle.std.specs.List.{filter_map, fold}
use Rattle.std.specs.Prelude.{Bool, List, None, Some, [], cond, false, is_some, map, not, option_map, suc, true, zero}
use Rattle.std.specs.Prelude.{ℕ, ◌&&◌, ◌||◌, ◌∷◌, ◌≡◌}

module _ (z : Zone) (sets : FinMap key_cmp (List Datum))
    (found : (t : RecordType) (n : NameValue) → lookup z t n ≡ lookup (with_sets z sets) t n)
    (soa : fin.get z.sets (key_of z.origin types.SOA) ≡ fin.get sets (key_of z.origin types.SOA))
    (servers : (t : RecordType) (n m : NameValue) → lookup z t n ≡ Cut m
    → fin.get z.sets (key_of m types.NS) ≡ fin.get sets (key_of m types.NS)) where
  abbrev y : Zone
  y = with_sets z sets

  -- the sets of names below cuts are the same
  abbrev pub SameGlue : Type 0
  SameGlue = (t : RecordType) (n m : NameValue) → lookup z t n ≡ Cut m
      → fin.get z.sets (key_of n t) ≡ fin.get sets (key_of n t)

  -- The answers are the same but for glue, and all the same where there is no referral, or the glue is the same.
  record AreAlike (a b : AnswerValue) : Type 0 where
    others : less_additionals a ≡ less_additionals b
    whole : a.authorities ≡ [] → a ≡ b
    with_glue : SameGlue → a ≡ b

  the_same : (a b : AnswerValue) → a ≡ b → AreAlike a b
  the_same a b e = record { others = ap less_additionals e; whole = λ none. e; with_glue = λ glue. e }

  negative_agrees : (n : NameValue) → negative z n ≡ negative y n
  negative_agrees n = ap (map as_negative) (records_agree z sets (end_like z.origin n) (key_of z.origin types.SOA) soa)

  addresses_agree : (glued : Bool) (t : RecordType) (n : NameValue) → (glued ≡ true → SameGlue)
      → addresses_of z glued t n ≡ addresses_of y glued t n
  addresses_agree glued t n glue = go (lookup z t n) refl ∙ ap (addresses_found y glued t n) (found t n) where
    by_glue : (g : Bool) (m : NameValue) → glued ≡ g → lookup z t n ≡ Cut m
        → cond glued (records z n (key_of n t)) [] ≡ cond glued (records y n (key_of n t)) []
    by_glue true m e h = ap (λ rs. cond glued rs []) (records_agree z sets n (key_of n t) (glue e t n m h))
    by_glue false m e h = ap (λ g. cond g (records z n (key_of n t)) []) e
        ∙ sym (ap (λ g. cond g (records y n (key_of n t)) []) e)

    go : (f : Finding) → lookup z t n ≡ f → addresses_found z glued t n f ≡ addresses_found y glued t n f
    go (Data rs) h = refl
    go (Cut m) h = by_glue glued m refl h
    go Outside h = refl
    go NoName h = refl
    go (Alias r target) h = refl

  extras_agree : (glued : Bool) (given rs : List (Record RData)) → (glued ≡ true → SameGlue)
      → extras z glued given rs ≡ extras y glued given rs
  extras_agree glued given rs glue =
      let each : (t : RecordType) (xs : List (Record RData)) (n : NameValue)
      → with_addresses z glued given t xs n ≡ with_addresses y glued given t xs n
      = λ t xs n. ap (λ more. cond (is_given (given ++ xs) n t) xs (xs ++ more)) (addresses_agree glued t n glue) in
      let hosts : with_host z glued given ≡ with_host y glued given
      = λ i xs n. (each types.AAAA (with_addresses z glued given types.A xs n) n
      ∙ ap (λ ys. with_addresses y glued given types.AAAA ys n) (each types.A xs n)) i in
      ap (λ (f : List (Record RData) → NameValue → List (Record RData)). fold f [] (filter_map (λ
      (r : Record RData). host_in r.rdata) rs)) hosts

  data_agrees : (t : RecordType) (done : List (Record RData)) (n : NameValue) (rs : List (Record RData))
      → of_data z t done n rs ≡ of_data y t done n rs
  data_agrees t done n [] = ap (λ xs. with_authority NoError done xs []) (negative_agrees n)
  data_agrees t done n (r ∷ rs) = ap (λ xs. with_authority NoError (done ++ r ∷ rs) [] (cond (is_any t) [] xs))
      (extras_agree false (done ++ r ∷ rs) (r ∷ rs) no_glue) where
        no_glue : false ≡ true → SameGlue
        no_glue e = cc

  referrals_agree : (done : List (Record RData)) (t : RecordType) (n m : NameValue) → lookup z t n ≡ Cut m
      → AreAlike (referring z done (records z m (key_of m types.NS))) (referring y done (records y m
      (key_of m types.NS)))
  referrals_agree done t n m h =
      let same = records_agree z sets m (key_of m types.NS) (servers t n m h) in
      record {
        others = ap (λ rs. less_additionals (referring z done rs)) same;
        whole = λ none. ap (referring z done) none ∙ sym (ap (referring y done) (sym same ∙ none));
        with_glue = λ glue. ap (λ xs. record (referring z done (records z m (key_of m types.NS))) { additionals = xs })
            (extras_agree true (done ++ records z m (key_of m types.NS)) (records z m (key_of m types.NS)) (λ e. glue))
            ∙ ap (referring y done) same;
      }

  or_alike : (b : Bool) (x a c : AnswerValue) → AreAlike a c → AreAlike (cond b x a) (cond b x c)
  or_alike true x a c h = the_same x x refl
  or_alike false x a c h = h

  alike_then : (a b c : AnswerValue) → AreAlike a b → b ≡ c → AreAlike a c
  alike_then a b c h e = record {
    others = h.others ∙ ap less_additionals e;
    whole = λ none. h.whole none ∙ e;
    with_glue = λ glue. h.with_glue glue ∙ e;
  }

  alike_by : (t : RecordType) (room : ℕ) (done : List (Record RData)) (n : NameValue) (f : Finding) → lookup z t n ≡ f
      → AreAlike (answer_found z t room done n f) (answer_found y t room done n f)
  unfolding answer_found
  alike_by t room done n Outside e = the_same _ _ refl
  alike_by t room done n NoName e =
      the_same _ _ (ap (λ xs. with_authority NXDomain done xs []) (negative_agrees n))
  alike_by t room done n (Data rs) e = the_same _ _ (data_agrees t done n rs)
  alike_by t room done n (Cut m) e = referrals_agree done t n m e
  alike_by t zero done n (Alias r target) e = the_same _ _ refl
  alike_by t (suc room) done n (Alias r target) e =
      or_alike (owns target (done ++ r ∷ [])) (with_authority ServFail (done ++ r ∷ []) [] [])
      (answer_found z t room (done ++ r ∷ []) target (lookup z t target))
      (answer_found y t room (done ++ r ∷ []) target (lookup y t target))
      (alike_then _ _ _ (alike_by t room (done ++ r ∷ []) target (lookup z t target) refl)
      (ap (answer_found y t room (done ++ r ∷ []) target) (found t target)))

  answers_alike : (t : RecordType) (room : ℕ) (n : NameValue)
      → AreAlike (answer z t room [] n) (answer y t room [] n)
  answers_alike t room n = alike_then _ _ _ (alike_by t room [] n (lookup z t n) refl)
      (ap (answer_found y t room [] n) (found t n))

  pub answers_agree : (t : RecordType) (room : ℕ) (n : NameValue) → SameGlue
      → answer z t room [] n ≡ answer y t room [] n
  answers_agree t room n glue = (answers_alike t room n).with_glue glue

  pub others_agree : (t : RecordType) (room : ℕ) (n : NameValue)
      → less_additionals (answer z t room [] n) ≡ less_additionals (answer y t room [] n)
  others_agree t room n = (answers_alike t room n).others

  pub whole_agrees : (t : RecordType) (room : ℕ) (n : NameValue) → (answer z t room [] n).authorities ≡ []
      → answer z t room [] n ≡ answer y t room [] n
  whole_agrees t room n none = (answers_alike t room n).whole none

-- ---- replies

-- what is looked at of an answer that may be refused, and of a message that may be none
pub refused_alike : (seen : AnswerValue → AnswerValue) (o : StepCode) (a b : AnswerValue) → seen a ≡ seen b
    → seen (refused_or o a) ≡ seen (refused_or o b)
refused_alike seen (Some code) a b h = refl
refused_alike seen None a b h = h

pub unless_response : (seen : MessageValue → MessageValue) (b : Bool) (p q : MessageValue) → seen p ≡ seen q
    → option_map seen (cond b None (Some p)) ≡ option_map seen (cond b None (Some q))
unless_response seen true p q h = refl
unless_response seen false p q h = ap (λ (m : MessageValue). Some m) h

-- what is looked at of an answer is the same of both
module _ (z : Zone) (sets : FinMap key_cmp (List Datum))
    (soa : fin.get z.sets (key_of z.origin types.SOA) ≡ fin.get sets (key_of z.origin types.SOA))
    (seen : AnswerValue → AnswerValue)
    (same : (t : RecordType) (n : NameValue)
    → seen (answer z t 11 [] n) ≡ seen (answer (with_sets z sets) t 11 [] n)) where
  refusals_agree : (q : Query) → question_refusal z q ≡ question_refusal (with_sets z sets) q
  refusals_agree q = ap (λ o. and_then (unless (same_class q.query_class z.class
      && not q.mdns_unicast_response) Refused)
      (and_then (unless (is_any q.query_type || not (is_meta q.query_type)) NotImp)
      (and_then (unless (is_within z.origin q.name) Refused) (unless (is_some o) ServFail)))) soa

  answered_alike : (qs : List Query) → seen (answer_to z qs) ≡ seen (answer_to (with_sets z sets) qs)
  answered_alike [] = refl
  answered_alike (q ∷ []) =
      refused_alike seen (question_refusal z q) (answer z q.query_type 11 [] q.name)
      (answer (with_sets z sets) q.query_type 11 [] q.name) (same q.query_type q.name)
      ∙ ap (λ o. seen (refused_or o (answer (with_sets z sets) q.query_type 11 [] q.name))) (refusals_agree q)
  answered_alike (q ∷ r ∷ qs) = refl

  pub replied_alike : (m : MessageValue) → seen (refused_or (header_refusal m) (answer_to z m.queries))
      ≡ seen (refused_or (header_refusal m) (answer_to (with_sets z sets) m.queries))
  replied_alike m = refused_alike seen (header_refusal m) (answer_to z m.queries)
      (answer_to (with_sets z sets) m.queries)
      (answered_alike m.queries)
