-- A sum that was formed in arrays of a function's own, and then copied to the two areas: it is formed into these.
use mathlib.Core.Path.{◌≡◌, ◌∙◌}
use mathlib.Core.List.{List}
use Prim.Native.Nat.{ℕ, ◌≤◌}
use native.Mathlib.Omega.{arith}
use lib.IntN.{ℤ}
use lib.ListN.{length, take, length-map}
use Rattle.algebra.specs.Limits.{most_terms}
use Rattle.algebra.specs.Sum.{Sum}
use Rattle.algebra.specs.Held.{words_of, coefficients_of}
use Rattle.answers.specs.Areas.{written}
use Rattle.answers.proofs.Writes.{written-front}
use Rattle.sums.specs.Formed.{formed_of, Formed.formed, Formed.over, within, formed_into}
use Rattle.std.specs.Prelude.{Option, Some, None}
use Rattle.sums.proofs.Forming.{within-yes}
use Rattle.sums.proofs.Answering.{Known, given, refused, over-into}

module _ (spread : ℕ) (s : Sum) (ws₀ : List ℕ) (cs₀ : List ℤ) {ws : List ℕ} {cs : List ℤ} (a : Option ℕ)
    (told : (formed_of a, ws, cs) ≡ formed_into (within spread s) ws₀ cs₀) where
  -- nothing is copied
  pub copy-stops : a ≡ None → (ps : List ℕ) (ds : List ℤ) → (over, ps, ds) ≡ formed_into (within spread s) ps ds
  copy-stops none ps ds = over-into spread s ps ds (refused spread s ws₀ cs₀ ws cs a none told)

  module _ {n : ℕ} (is : a ≡ Some n) where
    have : Known spread s ws₀ cs₀ ws cs n
    have = given spread s ws₀ cs₀ ws cs a is told

    pub copy-few : length s ≤ spread → n ≤ most_terms
    copy-few many = omega (arith, have.many, have.few)

    pub copy-formed : (ps : List ℕ) (ds : List ℤ) {ps' : List ℕ} {ds' : List ℤ} → ps' ≡ written (take n ws) ps → ds' ≡ written (take n cs) ds
        → (formed n, ps', ds') ≡ formed_into (within spread s) ps ds
    unfolding formed_into
    copy-formed ps ds words coefficients =
        let front-words = (written-front (words_of s) ws₀ have.words_are (length-map s _ ∙ have.many)).0 in
        let front-coefficients = (written-front (coefficients_of s) cs₀ have.coefficients_are (length-map s _ ∙ have.many)).0 in
        rw (within-yes spread s have.few, words, coefficients, front-words, front-coefficients, have.many)
