-- What becomes of the estimate: the fault of the packed sum that was met, or what is judged of the terms that two arrays hold.
use mathlib.Core.Path.{◌≡◌, sym, ◌∙◌, ap}
use mathlib.Core.List.{List}
use Prim.Native.Nat.{ℕ, ◌≤◌}
use lib.IntN.{ℤ}
use lib.ListN.{length}
use Rattle.algebra.specs.Sum.{Sum}
use Rattle.algebra.specs.Held.{first_terms}
use Rattle.answers.specs.Answers.{Told, Outcome, outcome}
use Rattle.packed.proofs.Results.{Handed, Whole, written-terms}
use Rattle.estimates.specs.Range.{judge_terms}
use Rattle.router.specs.Estimate.{answer_bytes, answer_into, estimate}
use Rattle.router.proofs.Estimating.{refuses-estimate, after-sum}
use Rattle.router.specs.Promised.{EstimateRefuses.at_sum}

module _ (bytes readings tolerances area : List ℕ) (room : answer_bytes ≤ length area) where
  pub estimate-handed : {t : Told} → Handed bytes t → outcome t area ≡ estimate bytes readings tolerances area
  estimate-handed h = ap (λ (t : Told). outcome t area) h.says ∙ sym (refuses-estimate bytes readings tolerances area (at_sum room h.fault))

  -- the first `count` places of the arrays hold the sum
  pub estimate-taken : (ws : List ℕ) (cs : List ℤ) {ws' : List ℕ} {cs' : List ℤ} {count : ℕ} → Whole bytes ws cs ws' cs' count
      → {o : Outcome (List ℕ)} → o ≡ answer_into (judge_terms (first_terms count ws' cs') readings tolerances) area → o ≡ estimate bytes readings tolerances area
  estimate-taken ws cs w e =
      e ∙ ap (λ (s : Sum). answer_into (judge_terms s readings tolerances) area) (written-terms ws cs w.of_bytes.accepted w.words_are w.coefficients_are w.many)
      ∙ sym (after-sum bytes readings tolerances area room w.of_bytes)
