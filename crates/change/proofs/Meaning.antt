-- What a substitution means: its result is an accepted sum, and its value is that of the sum at the values which the variables stood for.
use mathlib.Core.Path.{◌≡◌, refl, ◌∙◌}
use mathlib.Core.List.{List, [], ◌∷◌}
use Prim.Native.Nat.{◌≤◌}
use native.Mathlib.Omega.{arith}
use lib.IntN.{ℤ}
use lib.ListN.{length, length-set}
use Rattle.algebra.specs.Limits.{variables}
use Rattle.algebra.specs.Sum.{Sum}
use Rattle.algebra.specs.Accepted.{Accepted}
use Rattle.algebra.specs.Value.{value}
use Rattle.algebra.proofs.Sums.Substitutes.{substitute-value, substitute-ordered, substitute-degree, substitute-weight, substitute-length}
use Rattle.change.specs.Pairs.{Pair}
use Rattle.change.specs.Meaning.{before}
use Rattle.change.specs.Promised.{GoodPair, AllGood}
use Rattle.change.specs.Substitute.{put_in}
use Rattle.change.specs.Checks.{Passes, Applied, Applied.none, Applied.more}

-- ---- Accepted sums.

pub after-accepted : {p : Pair} {s : Sum} → GoodPair variables p → Accepted variables s → Passes p s → Accepted variables (put_in p s)
after-accepted {p} {s} g a q =
    let v = p.variable in
    let S = p.sum in
    record {
      is_ordered = substitute-ordered variables v S s g.accepted.is_ordered a.is_ordered;
      light = omega (arith, substitute-weight variables v S s, q.weight);
      low = omega (arith, substitute-degree variables v S s, q.degree);
      few = omega (arith, substitute-length variables v S s, q.spread);
    }

pub applied-accepted : {ps : List Pair} {s t : Sum} → AllGood variables ps → Accepted variables s → Applied ps s t → Accepted variables t
applied-accepted gs a none = a
applied-accepted gs a (more q b) = applied-accepted gs.1 (after-accepted gs.0 a q) b

-- ---- The value.

before-length : (ps : List Pair) (x : List ℤ) → length (before ps x) ≡ length x
unfolding before
before-length [] x = refl
before-length (p ∷ ps) x = length-set (before ps x) p.variable (value p.sum (before ps x)) ∙ before-length ps x

-- pair after pair: the value of what they make of s is the value of s with the variables' values replaced
pub applied-value : {ps : List Pair} {s t : Sum} → AllGood variables ps → Applied ps s t → (x : List ℤ) → variables ≤ length x → value t x ≡ value s (before ps x)
unfolding before
applied-value gs none x h = refl
applied-value gs (more {p = p} {ps = ps} {s = s} q a) x h =
    applied-value gs.1 a x h
    ∙ substitute-value variables p.variable p.sum s (before ps x) (omega (arith, gs.0.known, before-length ps x))
