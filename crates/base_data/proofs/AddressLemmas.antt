-- The text of addresses of sixteen bytes.
use Rattle.std.proofs.Common.{◌≡◌, ℕ, ◌+◌, ◌-◌, ◌≤◌, List, ◌++◌, take, drop, codes, refl, ap, subst, sym, ◌∙◌, arith}
use Rattle.std.proofs.Common.{suc, inl, inr}
use Rattle.std.proofs.lemmas.Bool.{cases_lt, lt-ltb, le-ltb}
use Rattle.std.proofs.lemmas.List.{take-take}
use Rattle.std.proofs.NetLemmas.Texts.{IsZeroRun-longest_zero_run, longest_zero_run_first}
use Rattle.std.specs.Net.Addr.{segments_of}
use Rattle.std.specs.Net.Text.{groups_text, hex_groups_text, longest_zero_run}
use Rattle.base_data.specs.AAAA.{AreZeros, IsFirstLongest, aaaa_text}

-- the run that `::` takes the place of
longest_run : (groups : List ℕ) → AreZeros groups (longest_zero_run groups).0 (longest_zero_run groups).1
longest_run groups = let run = IsZeroRun-longest_zero_run groups in record { inside = run.0; zeros = run.1 }

-- is the first longest one
first_longest : (groups : List ℕ) (start len : ℕ) → IsFirstLongest groups start len
    → longest_zero_run groups ≡ (start, len)
first_longest groups start len h =
    let most = longest_zero_run_first groups start len (h.run.inside, h.run.zeros) in
    let same : (longest_zero_run groups).1 ≡ len =
    omega (arith, most.0, h.longest (longest_zero_run groups).0 (longest_zero_run groups).1 (longest_run groups)) in
    let found : AreZeros groups (longest_zero_run groups).0 len =
    subst (λ (n : ℕ). AreZeros groups (longest_zero_run groups).0 n) same (longest_run groups) in
    let here : (longest_zero_run groups).0 ≡ start =
    omega (arith, most.1 (sym same), h.first (longest_zero_run groups).0 found) in
    λ i. (here i, same i)

pub aaaa_text-shortened : (octets : List ℕ) (start len : ℕ) → IsFirstLongest (segments_of octets) start len → 2 ≤ len
    → aaaa_text octets ≡ groups_text (take start (segments_of octets)) ++ codes "::" ++ groups_text
    (drop (start + len) (segments_of octets))
unfolding hex_groups_text
aaaa_text-shortened octets start len h long =
    rw (first_longest (segments_of octets) start len h, lt-ltb 1 len (omega arith)) refl

-- a longer run has a run of two
two_zeros : (groups : List ℕ) (start m : ℕ) → AreZeros groups start (suc (suc m)) → AreZeros groups start 2
two_zeros groups start m run = record {
  inside = omega (arith, run.inside);
  zeros = sym (take-take 2 (suc (suc m)) (drop start groups) (omega arith)) ∙ ap (take 2) run.zeros;
}

pub aaaa_text-whole : (octets : List ℕ) → ((start : ℕ) → AreZeros (segments_of octets) start 2 → ⊥)
    → aaaa_text octets ≡ groups_text (segments_of octets)
unfolding hex_groups_text
aaaa_text-whole octets none =
    let run = longest_zero_run (segments_of octets) in
    elim (cases_lt 1 run.1) [
      | inl long ↦
          let more : run.1 ≡ suc (suc (run.1 - 2)) = omega arith in
          absurd (none run.0 (two_zeros (segments_of octets) run.0 (run.1 - 2)
          (subst (λ (n : ℕ). AreZeros (segments_of octets) run.0 n) more (longest_run (segments_of octets)))))
      | inr short ↦ rw (le-ltb 1 run.1 short) refl
    ]
