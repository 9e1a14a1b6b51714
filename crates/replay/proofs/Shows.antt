-- What an operation says that it wrote stands within its area, of any operation.
use mathlib.Core.Path.{◌≡◌, ap}
use mathlib.Core.Bool.{Bool, true, false}
use mathlib.Core.List.{List}
use Prim.Native.Nat.{ℕ, ◌*◌, ◌≤◌}
use native.Mathlib.Omega.{arith}
use lib.ListN.{length, drop, length-append}
use Rattle.answers.specs.Answers.{Told, Told.done, Told.refused, Outcome, outcome, check}
use Rattle.answers.specs.Areas.{written}
use Rattle.replay.specs.Telling.{Shows}

pub shows-as : {each : ℕ} {most : ℕ} {t u : Told} → t ≡ u → Shows each most u → Shows each most t
shows-as e h = rw e h

-- ---- Two kinds of outcomes.

pub shows-refused : {A : Type 0} {each : ℕ} {most refusal place : ℕ} {t : Told} {x y : A} → outcome t x ≡ outcome (refused refusal place) y → Shows each most t
shows-refused {A} e = shows-as (ap (λ (o : Outcome A). o.answer) e) (record { inside = tt })

-- values that were written stand within the area
within : {A : Type 0} (values area : List A) {x : List A} {n : ℕ} → x ≡ written values area → length values ≡ n → n ≤ length x
within values area e many = omega (arith, ap length e, length-append values (drop (length values) area), many)

pub shows-written : {A : Type 0} {each : ℕ} (values area : List A) {t : Told} {x : List A} {n : ℕ} → outcome t x ≡ outcome (done n) (written values area)
    → length values ≡ each * n → Shows each (length x) t
shows-written {A} values area e many =
    shows-as (ap (λ (o : Outcome (List A)). o.answer) e) (record { inside = within values area (ap (λ (o : Outcome (List A)). o.areas) e) many })

-- one for each 1 of the number returned
pub shows-singly : {A : Type 0} (values area : List A) {t : Told} {x : List A} {n : ℕ} → outcome t x ≡ outcome (done n) (written values area)
    → length values ≡ n → Shows 1 (length x) t
shows-singly values area e many = shows-written {each = 1} values area e (omega (arith, many))

module _ {A : Type 0} {each : ℕ} {most : ℕ} {t : Told} {x : A} where
  pub checked : (b : Bool) (refusal place : ℕ) (y : A) (rest : Outcome A) → (outcome t x ≡ rest → Shows each most t) → outcome t x ≡ check b refusal place y rest → Shows each most t
  checked true refusal place y rest f e = f e
  checked false refusal place y rest f e = shows-refused e
