-- One check after another.
use mathlib.Core.Path.{◌≡◌, sym, ap}
use Prim.Native.Nat.{ℕ}
use native.Mathlib.Omega.{arith}
use Rattle.answers.specs.Answers.{Told.done, Told.refused, outcome}
use Rattle.answers.specs.Judge.{Judged, Judged.good, Judged.fails, and_then}

module _ {A B : Type 0} {j : Judged A} (f : A → Judged B) where
  pub then-good : {a : A} → j ≡ good a → and_then j f ≡ f a
  unfolding and_then
  then-good e = rw e

  pub then-fails : {refusal place : ℕ} → j ≡ fails refusal place → and_then j f ≡ fails refusal place
  unfolding and_then
  then-fails e = rw e

pub good-fails : {A : Type 0} {a : A} {refusal p : ℕ} → good a ≡ fails refusal p → ⊥
good-fails e = let z : ◌≡◌ {A = ℕ} 0 1 = cc in omega arith

-- ---- Outcomes.

pub refused-done : {r place k : ℕ} → refused r place ≡ done k → ⊥
refused-done e = let z : ◌≡◌ {A = ℕ} 0 1 = cc in absurd (omega arith)

pub done_refused : {Areas : Type 0} {n r place : ℕ} {x y : Areas} → outcome (done n) x ≡ outcome (refused r place) y → ⊥
done_refused e = refused-done (ap (λ o. o.answer) (sym e))

pub done-same : {Areas : Type 0} {j k : ℕ} {x y : Areas} → outcome (done j) x ≡ outcome (done k) y → (j ≡ k) × (x ≡ y)
done-same {Areas} {j} {k} e = (let told : done j ≡ done k = ap (λ o. o.answer) e in cc, ap (λ o. o.areas) e)
