-- What is written of EDNS is its OPT record.
use Rattle.std.proofs.Common.{◌≡◌, ℕ, ◌^◌, ◌<◌, List, [], ◌∷◌, ◌++◌, refl, ap, ◌∙◌, append_assoc, subst, sym, arith}
use Rattle.std.specs.Prelude.{All}
use Rattle.base.specs.writing.State.{State}
use Rattle.base.specs.DNSClass.{class_number, opt_class}
use Rattle.base.specs.RecordType.{type_number}
use Rattle.base.specs.declared.record_type.RecordType.TheVariants as types
use Rattle.base.specs.writing.Written.{Writing, after, both, in_turn, just, name, sized}
use Rattle.base.proofs.writing.WrittenLemmas.{after-both}
use Rattle.base_data.specs.Kinds.{KeptData, data_written, type_of_data}
use Rattle.base_data.specs.OPT.{FitsOption, OptionValue, option_written}
use Rattle.rr.specs.Record.{fields_of}
use Rattle.op.specs.EdnsRecord.{edns_written, opt_data, opt_ttl}
use Rattle.op.specs.EdnsSays.{EdnsKept}
use Rattle.op.specs.declared.edns.Edns.{Edns}

-- the data is of type OPT
opt_type : (options : List OptionValue) → type_number types.OPT ≡ type_number (type_of_data (opt_data options))
opt_type [] = refl
opt_type (option ∷ options) = refl

-- the bytes of the root, the type, the payload size and the TTL
abbrev pub front_bytes : ℕ → ℕ → List ℕ
front_bytes payload ttl = 0 ∷ fields_of (type_number types.OPT) payload ttl

-- ---- what is written of EDNS

-- bytes in two parts
split_after : (xs ys : List ℕ) (g : Writing) (s : State)
    → after (both (just (xs ++ ys)) g) s ≡ after (both (just xs) (both (just ys) g)) s
split_after xs ys g s =
    let joined : after (just (xs ++ ys)) s ≡ after (just ys) (after (just xs) s) =
    ap (λ (zs : List ℕ). record s { bytes = zs }) (sym (append_assoc s.bytes xs ys)) in
    after-both (just (xs ++ ys)) g s ∙ ap (after g) joined ∙ sym (after-both (just ys) g (after (just xs) s))
    ∙ sym (after-both (just xs) (both (just ys) g) s)

opt_written : (options : List OptionValue) → in_turn option_written options ≡ data_written (opt_data options)
opt_written [] = refl
opt_written (option ∷ options) = refl

-- the front and the options are the record
pub edns_after : (e : Edns) (payload ttl : ℕ) → payload ≡ class_number (opt_class e.max_payload) → ttl ≡ opt_ttl e
    → (s : State)
    → after (both (just (front_bytes payload ttl)) (sized (in_turn option_written e.options))) s ≡ after
    (edns_written e) s
edns_after e payload ttl payload_is ttl_is s =
    let whole : ℕ → ℕ → ℕ → Writing → State =
    λ type class ttl w. after (both (name []) (both (just (fields_of type class ttl)) (sized w))) s in
    split_after (0 ∷ []) (fields_of 41 payload ttl) (sized (in_turn option_written e.options)) s
    ∙ ap (λ (n : ℕ). whole 41 n ttl (in_turn option_written e.options)) payload_is
    ∙ ap (λ (n : ℕ). whole 41 (class_number (opt_class e.max_payload)) n (in_turn option_written e.options)) ttl_is
    ∙ ap (λ (n : ℕ). whole n (class_number (opt_class e.max_payload)) (opt_ttl e) (in_turn option_written e.options))
    (opt_type e.options)
    ∙ ap (λ (w : Writing). whole (type_number (type_of_data (opt_data e.options)))
    (class_number (opt_class e.max_payload)) (opt_ttl e) w) (opt_written e.options)

-- ---- what the types keep of it

options_kept : (options : List OptionValue) → All FitsOption options → KeptData (opt_data options)
options_kept [] fits = tt
options_kept (option ∷ options) fits = fits

pub edns_kept : (e : Edns) (payload ttl : ℕ) → payload ≡ class_number (opt_class e.max_payload) → ttl ≡ opt_ttl e
    → (payload < 2 ^ 16) × (ttl < 2 ^ 32) → All FitsOption e.options → EdnsKept e
edns_kept e payload ttl payload_is ttl_is fits options = (
  (tt, omega arith),
  (
    record {
      type_fits = subst (λ (n : ℕ). n < 2 ^ 16) (opt_type e.options)
          (omega arith);
      class_fits = omega (arith, fits.0, payload_is);
      ttl_fits = omega (
        arith,
        fits.1,
        ttl_is,
      );
    },
    options_kept e.options options,
  ),
)
