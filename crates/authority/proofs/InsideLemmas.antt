-- Sets that stand neither at the origin nor below it are never looked at, and so change no answer.
use Rattle.authority.proofs.AgreeingAnswers.{answers_agree, replied_alike}
use Rattle.authority.proofs.AgreementLemmas.{any_from, below_by, lookup_agrees, some_passes}
use Rattle.authority.proofs.CutLemmas.{cut_below, cut_within}
use Rattle.authority.proofs.SourceLemmas.{source_holds}
use Rattle.authority.proofs.WayLemmas.{starts, wildcard_within, within_itself, within_too}
use Rattle.authority.specs.Agreement.{Agree, inside, with_sets}
use Rattle.authority.specs.Answer.{answer}
use Rattle.authority.specs.Lookup.{Outside, at_source, cut_else, cut_over, encloser, encloses, end_that_exists, exists}
use Rattle.authority.specs.Lookup.{lookup, name_with, source, wildcard_below}
use Rattle.authority.specs.Reply.{framed, reply}
use Rattle.base.proofs.names.KeyLemmas.{key_cmp-exact}
use Rattle.base.specs.names.Labels.{NameValue}
use Rattle.base.specs.names.NameOrder.{lowered}
use Rattle.base.specs.names.NameOrderLaws.{same_lower-exact}
use Rattle.base.specs.names.Parents.{is_at_or_below, is_within}
use Rattle.base.specs.RrKey.{key_cmp, key_of}
use Rattle.base.specs.declared.record_type.RecordType.TheVariants as types
use Rattle.base.specs.declared.record_type.RecordType.{RecordType}
use Rattle.base.specs.declared.rr_key.RrKey.{RrKey}
use Rattle.op.specs.Message.{MessageValue}
use Rattle.op.specs.MessageType.{is_response}
use Rattle.op_use.specs.Zone.{Datum, Zone, is_owned}
use Rattle.std.proofs.Common.{ap, refl, subst, sym, ◌∙◌}
use Rattle.std.proofs.lemmas.Bool.{cond_both}
use Rattle.std.specs.Cmp.{both_ways, first_so}
use Rattle.std.specs.FinMap as fin
use Rattle.std.specs.FinMap.{FinMap}
use Rattle.std.specs.Prelude.{Bool, List, None, Some, [], cond, false, is_some, true, ℕ, ◌∷◌, ◌≡◌}

-- the closest encloser of a name in the zone is in the zone
module _ (z : Zone) where
  ends_within : (absolute : Bool) (labels : List (List ℕ)) → is_within z.origin (name_with absolute labels) ≡ true
      → is_within z.origin (end_that_exists z absolute labels) ≡ true
  ends_within absolute [] w = w
  ends_within absolute (x ∷ labels) w =
      let n : NameValue = name_with absolute (x ∷ labels) in
      cond_both (encloses z n) n (end_that_exists z absolute labels) (λ m. is_within z.origin m ≡ true) (λ e. w)
      (λ none. ends_within absolute labels ((starts z.origin absolute (x ∷ labels)
      (below_by z z.sets n w none)).within))

  pub encloser_within : (n : NameValue) → is_within z.origin n ≡ true → is_within z.origin (encloser z n) ≡ true
  encloser_within n w = ends_within n.absolute n.labels w

  pub source_within : (n s : NameValue) → is_within z.origin n ≡ true → source z n ≡ Some s
      → is_within z.origin s ≡ true
  source_within n s w h = source_holds (λ (x : NameValue). is_within z.origin x ≡ true) n
      (wildcard_below (encloser z n)) s (exists z n) (exists z (wildcard_below (encloser z n))) w
      (λ e. wildcard_within z.origin (encloser z n) (encloser_within n w)) h

module _ (z : Zone) (sets : FinMap key_cmp (List Datum)) where
  pub exists_agrees : (n : NameValue) → ((k : RrKey) → is_at_or_below n k.name ≡ true
      → fin.get z.sets k ≡ fin.get sets k) → exists z n ≡ exists (with_sets z sets) n
  exists_agrees n same = both_ways _ _
      (λ h. let s = some_passes covers z.sets h in
      any_from covers sets s.0 s.1 (ap (λ o. is_some o) (sym (same s.0 s.1)) ∙ s.2))
      (λ h. let s = some_passes covers sets h in
      any_from covers z.sets s.0 s.1 (ap (λ o. is_some o) (same s.0 s.1) ∙ s.2)) where
        covers : RrKey → Bool
        covers k = is_at_or_below n k.name

  module _ (same : (k : RrKey) → is_at_or_below z.origin k.name ≡ true → fin.get z.sets k ≡ fin.get sets k) where
    inside_agrees : (n : NameValue) → is_within z.origin n ≡ true → exists z n ≡ exists (with_sets z sets) n
    inside_agrees n w = exists_agrees n (λ k h. same k (within_too z.origin n k.name w h))

    owned_inside : (s : NameValue) (k : RrKey) → is_within z.origin s ≡ true → is_owned s k ≡ true
        → fin.get z.sets k ≡ fin.get sets k
    owned_inside s k w own = same k (subst (λ (x : NameValue). is_at_or_below z.origin x ≡ true)
        (same_lower-exact (lowered s) k.name own) w)

    agree : (n : NameValue) → is_within z.origin n ≡ true → Agree z sets n
    agree n w = record {
      ends = λ front labels e h. inside_agrees (name_with n.absolute labels) h;
      servers = λ front labels e h. ap (λ o. is_some o) (same (key_of (name_with n.absolute labels) types.NS)
          (first_so (is_within z.origin (name_with n.absolute labels)) _ h));
      asterisk = inside_agrees (wildcard_below (encloser z n))
          (wildcard_within z.origin (encloser z n) (encloser_within z n w));
      at_source = λ s k e own. owned_inside s k (source_within z n s w e) own;
    }

    pub lookup_inside : (t : RecordType) (n : NameValue) → lookup z t n ≡ lookup (with_sets z sets) t n
    lookup_inside t n = go (is_within z.origin n) refl where
      go : (b : Bool) → is_within z.origin n ≡ b → lookup z t n ≡ lookup (with_sets z sets) t n
      go true w = lookup_agrees z sets t n (agree n w)
      go false w = ap (λ b. cond b (cut_else (cut_over z t n) (at_source z t n (source z n))) Outside) w
          ∙ sym (ap (λ b. cond b (cut_else (cut_over (with_sets z sets) t n)
          (at_source (with_sets z sets) t n (source (with_sets z sets) n))) Outside) w)

-- ---- what is answered

module _ (z : Zone) where
  kept_inside : (k : RrKey) → is_at_or_below z.origin k.name ≡ true
      → fin.get z.sets k ≡ fin.get (inside z).sets k
  kept_inside k h = sym (fin.get-retain_keys z.sets (λ (q : RrKey). is_at_or_below z.origin q.name) k
      (λ x t. ap (λ (q : RrKey). is_at_or_below z.origin q.name) (sym (key_cmp-exact k x t)))
      ∙ ap (λ b. cond b (fin.get z.sets k) None) h)

  pub found_inside : (t : RecordType) (n : NameValue) → lookup z t n ≡ lookup (inside z) t n
  found_inside t n = lookup_inside z (inside z).sets kept_inside t n

  soa_inside : fin.get z.sets (key_of z.origin types.SOA) ≡ fin.get (inside z).sets (key_of z.origin types.SOA)
  soa_inside = kept_inside (key_of z.origin types.SOA) (within_itself z.origin)

  pub answer_inside : (t : RecordType) (room : ℕ) (n : NameValue) → answer z t room [] n ≡ answer (inside z) t room [] n
  answer_inside t room n = answers_agree z (inside z).sets found_inside soa_inside
      (λ k m cut h. kept_inside (key_of cut types.NS) (first_so (is_within z.origin cut) _ (cut_below z k m cut h)))
      t room n (λ k m cut h. kept_inside (key_of m k) (cut_within z k m cut h))

  pub reply_inside : (m : MessageValue) → reply z m ≡ reply (inside z) m
  reply_inside m = ap (λ a. cond (is_response m.metadata.message_type) None (Some (framed m a)))
      (replied_alike z (inside z).sets soa_inside (λ a. a) (λ t n. answer_inside t 11 n) m)
