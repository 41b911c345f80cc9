-- What was read of an input so far.
use Rattle.std.proofs.Common.{◌≡◌, ◌∙◌, Err, IfSome, List, None, Ok, Option, Result, Some, [], ap, append-nil}
use Rattle.std.proofs.Common.{append_assoc, length, sym, take, ℕ, ◌++◌, ◌<◌}
use Rattle.std.specs.Io.KnownBytes.{Consumes, ReadConsumes}

-- nothing was read of it yet
pub unread : (a : Option (List ℕ)) (text : List ℕ) → text ≡ [] → Consumes a a text
unread None text empty = tt
unread (Some xs) text empty = sym (ap (λ front. front ++ xs) empty)

-- what a read gave comes after what was read before
further : (a b c : Option (List ℕ)) (text given new : List ℕ) → Consumes a b text → Consumes b c given
    → new ≡ text ++ given → Consumes a c new
further None b c text given new before after is = tt
further (Some xs) None c text given new before after is = absurd before
further (Some xs) (Some ys) None text given new before after is = absurd after
further (Some xs) (Some ys) (Some zs) text given new before after is =
    before ∙ ap (λ rest. text ++ rest) after ∙ sym (append_assoc text given zs) ∙ ap (λ front. front ++ zs) (sym is)

pub read_on : {E : Type 0} (a b c : Option (List ℕ)) (text piece new : List ℕ) (result : Result ℕ E) (n : ℕ)
    → Consumes a b text → ReadConsumes b c result piece → result ≡ Ok n
    → new ≡ text ++ take n piece → Consumes a c new
read_on a b c text piece new (Ok m) n before given is grown =
    further a b c text (take m piece) new before given.0 (grown ∙ ap (λ k. text ++ take k piece) (sym same)) where
      same : m ≡ n
      same = cc
read_on a b c text piece new (Err e) n before given is grown = absurd cc

-- a read that failed gave nothing
pub read_nothing : {E : Type 0} (a b c : Option (List ℕ)) (text piece : List ℕ) (result : Result ℕ E) (e : E)
    → Consumes a b text → ReadConsumes b c result piece → result ≡ Err e
    → Consumes a c text
read_nothing None b c text piece result e before given is = tt
read_nothing (Some xs) None c text piece result e before given is = absurd before
read_nothing (Some xs) (Some ys) None text piece (Err f) e before given is = absurd given
read_nothing (Some xs) (Some ys) (Some zs) text piece (Err f) e before given is =
    before ∙ ap (λ rest. text ++ rest) (sym given)
read_nothing (Some xs) (Some ys) c text piece (Ok n) e before given is = absurd cc

-- a read that gave nothing at the end: all was read
pub all_read : {E : Type 0} (a b c : Option (List ℕ)) (text piece : List ℕ) (result : Result ℕ E) (n : ℕ)
    → Consumes a b text → ReadConsumes b c result piece → result ≡ Ok n
    → n ≡ 0 → 0 < length piece → IfSome a (λ rest. text ≡ rest)
all_read None b c text piece result n before given is none some = tt
all_read (Some xs) None c text piece result n before given is none some = absurd before
all_read (Some xs) (Some ys) c text piece (Err e) n before given is none some = absurd cc
all_read (Some xs) (Some ys) None text piece (Ok m) n before given is none some = absurd given.0
all_read (Some xs) (Some ys) (Some zs) text piece (Ok m) n before given is none some =
    sym (before ∙ ap (λ rest. text ++ rest) (given.0 ∙ ap (λ k. take k piece ++ zs) zero ∙ given.1 zero some)
    ∙ append-nil text) where
      zero : m ≡ 0
      zero = cc
