-- Each public function's contract leaves one outcome, as its caller sees it: the result, and every place of both areas that it lent.
use mathlib.Core.Path.{◌≡◌}
use Prim.Native.Nat.{ℕ}
use Rattle.answers.proofs.Outcomes.{same}
use Rattle.answers.specs.Promised.{One, OneLent}
use Rattle.sums.proofs.Unique.{TwoAreas, told-one}
use Rattle.pair.specs.declared.Measured.{Measured}
use Rattle.pair.proofs.measure.Reads as measure
use Rattle.pair.proofs.putting.put.Reads as put

-- what is measured is its three numbers
measured : {m n : Measured} {d w p : ℕ} → (m.degree ≡ d) × (m.weight ≡ w) × (m.power ≡ p) → (n.degree ≡ d) × (n.weight ≡ w) × (n.power ≡ p) → m ≡ n
measured h h' = λ j. record { degree = same h.0 h'.0 j; weight = same h.1 h'.1 j; power = same h.2 h'.2 j }

-- Refused when tried: the weight of the sum that is put is not raised; the power times itself, and not the degree of the sum that is put.
pub measure-one : One measure.Learnt
measure-one k a r r' e e' h h' = measured h h'

-- Refused when tried: the largest power is not formed; the rows of the terms without the variable at every power.
pub put_one : OneLent put.Learnt {L = TwoAreas} (λ k e. (e.1.1.1.1.0.now, e.1.1.1.1.1.0.now))
put_one k a r r' e e' h h' = told-one r r' (same h h')
