-- A sum in the first places of two arrays: the one that an operation is given, the slope of one, which is formed in the same places, and a result that is written from there.
use mathlib.Core.Path.{◌≡◌, sym, ◌∙◌, ap}
use mathlib.Core.List.{List}
use Prim.Native.Nat.{ℕ, ◌+◌, ◌≤◌}
use native.Mathlib.Omega.{arith}
use lib.IntN.{ℤ}
use lib.ListN.{length}
use lib.Seq.{sets}
use Rattle.algebra.specs.Limits.{variables, largest_weight}
use Rattle.algebra.specs.Sum.{Sum, weight}
use Rattle.algebra.specs.Accepted.{Accepted}
use Rattle.algebra.specs.Slope as algebra
use Rattle.algebra.specs.Held.{words_of, coefficients_of, first_terms}
use Rattle.answers.specs.Answers.{Told, Told.done, Outcome, outcome}
use Rattle.answers.specs.Areas.{written}
use Rattle.answers.specs.Judge.{Judged.good}
use Rattle.packed.specs.Packed.{packed, most_bytes}
use Rattle.packed.specs.Result.{packed_into}
use Rattle.packed.proofs.Results.{Handed, Whole, result_room, result-written}
use Rattle.packed.specs.Promised.{PackedSum}
use Rattle.sums.proofs.First.{First, first-written, first-is}
use Rattle.weights.specs.Capped.{capped}
use Rattle.weights.proofs.Weighing.{capped-light}
use Rattle.change.specs.Slope.{judge_slope, slope}
use Rattle.change.proofs.Sloped.{slope-accepted, after-sum, refuses-slope}
use Rattle.change.specs.Promised.{SlopeRefuses.at_sum}

-- ---- A sum in the first n places of two arrays is written as a result.

module _ {s : Sum} {ws : List ℕ} {cs : List ℤ} {n : ℕ} (f : First s ws cs n) (area : List ℕ) (room : most_bytes variables ≤ length area) where
  pub first-room : 0 + length (packed (first_terms n ws cs)) ≤ length area
  first-room = result_room s n ws cs area (first-is f) f.accepted room

  pub first-result : {k : ℕ} {area' : List ℕ} → k ≡ 0 + length (packed (first_terms n ws cs)) → area' ≡ sets area 0 (packed (first_terms n ws cs))
      → outcome (done k) area' ≡ packed_into (good s) area
  first-result = result-written s n ws cs area (first-is f) f.accepted room

-- ---- The sum that is given.

pub record SumGiven (bytes sp : List ℕ) (sc : List ℤ) (n : ℕ) : Type 0 where
  pub sum : Sum
  pub of_bytes : PackedSum bytes sum
  pub first : First sum sp sc n

pub given : {bytes : List ℕ} (ws : List ℕ) (cs : List ℤ) {sp : List ℕ} {sc : List ℤ} {n : ℕ} → Whole bytes ws cs sp sc n → SumGiven bytes sp sc n
given ws cs w = record {
  sum = w.sum;
  of_bytes = w.of_bytes;
  first = first-written ws cs w.words_are w.coefficients_are w.many w.of_bytes.accepted;
}

-- ---- What becomes of the slope: the fault of the packed sum that was met, or what is judged of the sum.

module _ (bytes : List ℕ) (v : ℕ) (area : List ℕ) (room : most_bytes variables ≤ length area) where
  pub slope-handed : {t : Told} → Handed bytes t → outcome t area ≡ slope bytes v area
  slope-handed h = ap (λ (t : Told). outcome t area) h.says ∙ sym (refuses-slope bytes v area (at_sum room h.fault))

  pub slope-given : {sp : List ℕ} {sc : List ℤ} {n : ℕ} → SumGiven bytes sp sc n → {o : Outcome (List ℕ)} → o ≡ packed_into (judge_slope v (first_terms n sp sc)) area → o ≡ slope bytes v area
  slope-given g e = e ∙ ap (λ (s : Sum). packed_into (judge_slope v s) area) (first-is g.first) ∙ sym (after-sum bytes v area room g.of_bytes)

-- ---- The slope of a sum, whose weight was found.

module _ (v : ℕ) (s : Sum) (accepted : Accepted variables s) (w : ℕ) (weighed : w ≡ capped (weight (algebra.slope v s))) (h : w ≤ largest_weight) where
  pub slope-light : weight (algebra.slope v s) ≤ largest_weight
  slope-light = omega (arith, capped-light w _ weighed h)

  -- it takes the places of the sum
  pub slope-stands : (sp : List ℕ) (sc : List ℤ) {patterns : List ℕ} {coefficients : List ℤ} {count : ℕ} → count ≡ length (algebra.slope v s)
      → patterns ≡ written (words_of (algebra.slope v s)) sp → coefficients ≡ written (coefficients_of (algebra.slope v s)) sc → First (algebra.slope v s) patterns coefficients count
  slope-stands sp sc many words_are coefficients_are = first-written sp sc words_are coefficients_are (sym many) (slope-accepted v s accepted slope-light)
