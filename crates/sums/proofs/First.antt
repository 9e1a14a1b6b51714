-- An accepted sum in the first n places of two arrays: an operation's own, into which it takes the sum that it is given.
use mathlib.Core.Path.{◌≡◌, ◌∙◌, ap₂}
use mathlib.Core.List.{List}
use Prim.Native.Nat.{ℕ, ◌≤◌}
use native.Mathlib.Omega.{arith}
use lib.IntN.{ℤ}
use lib.ListN.{length, take, length-map}
use Rattle.algebra.specs.Limits.{variables, most_terms}
use Rattle.algebra.specs.Sum.{Sum}
use Rattle.algebra.specs.Accepted.{Accepted}
use Rattle.algebra.specs.Word.{terms, EachValid}
use Rattle.algebra.specs.Held.{words_of, coefficients_of, first_terms}
use Rattle.answers.specs.Areas.{written}
use Rattle.answers.proofs.Writes.{written-front}
use Rattle.sums.specs.Held.{HeldSum}
use Rattle.sums.proofs.Holding.{accepted-holdable, spells, each-valid, holds-sum}

pub record First (s : Sum) (ws : List ℕ) (cs : List ℤ) (n : ℕ) : Type 0 where
  pub words_are : take n ws ≡ words_of s
  pub coefficients_are : take n cs ≡ coefficients_of s
  pub many : length s ≡ n
  pub accepted : Accepted variables s
  pub words_room : n ≤ length ws
  pub coefficients_room : n ≤ length cs

-- it was written there
pub first-written : {s : Sum} (ws₀ : List ℕ) (cs₀ : List ℤ) {ws : List ℕ} {cs : List ℤ} {n : ℕ} → ws ≡ written (words_of s) ws₀ → cs ≡ written (coefficients_of s) cs₀ → length s ≡ n
    → Accepted variables s → First s ws cs n
first-written {s} ws₀ cs₀ words coefficients many accepted =
    let w = written-front (words_of s) ws₀ words (length-map s _ ∙ many) in
    let c = written-front (coefficients_of s) cs₀ coefficients (length-map s _ ∙ many) in
    record { words_are = w.0; coefficients_are = c.0; many = many; accepted = accepted; words_room = w.1; coefficients_room = c.1 }

module _ {s : Sum} {ws : List ℕ} {cs : List ℤ} {n : ℕ} (f : First s ws cs n) where
  pub first_few : n ≤ most_terms
  first_few = omega (arith, f.many, f.accepted.few)

  pub first-is : first_terms n ws cs ≡ s
  first-is = ap₂ terms f.words_are f.coefficients_are ∙ spells (accepted-holdable f.accepted)

  pub first-held : HeldSum (take n ws) (take n cs)
  first-held = rw (f.words_are, f.coefficients_are) (holds-sum f.accepted)

  pub first-valid : EachValid (take n ws)
  first-valid = each-valid first-held.held
