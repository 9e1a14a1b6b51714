-- Demand 3: the truth is within the margin of the estimate, for an accepted sum, and for every table and every typed text that became it.
use mathlib.Core.Path.{◌≡◌, sym, ◌∙◌, ap, ap₂}
use mathlib.Core.List.{List}
use Prim.Native.Nat.{ℕ, ◌≤◌, ◌<◌}
use lib.IntN.{ℤ, pos, ◌+ℤ◌, ◌-ℤ◌}
use lib.ListN.{length}
use lib.Signed.{◌≤ℤ◌}
use Rattle.algebra.specs.Limits.{largest_weight}
use Rattle.algebra.specs.Sum.{Sum}
use Rattle.algebra.specs.Value.{value}
use Rattle.algebra.specs.Margin.{size, unsigned, raised_by, margin, Within}
use Rattle.algebra.proofs.Numbers.Whole.{within-abs}
use Rattle.algebra.proofs.Sums.Margins.{margin-law}
use Rattle.answers.specs.Refusals.{RANGE}
use Rattle.answers.specs.Answers.{Told.done, Told.refused, outcome}
use Rattle.answers.specs.Areas.{written}
use Rattle.answers.specs.Host.{hosted, narrow_unit}
use Rattle.packed.specs.Promised.{PackedSum}
use Rattle.estimates.specs.Readings.{two_byte_numbers}
use Rattle.router.specs.Estimate.{answer_bytes, answer_of, estimate, estimate_in, margin_in}
use Rattle.estimates.proofs.Tolerances.{are-allowed}
use Rattle.router.proofs.Estimating.{estimate-means, refuses-estimate, all-passed}
use Rattle.estimates.specs.Promised.{Given}
use Rattle.router.specs.Promised.{Estimated, EstimateRefuses.beyond}
use Rattle.router.proofs.Answered.{answer-estimate, answer-margin}
use Rattle.router.proofs.ForHost.{estimate-heard}
use Rattle.promises.specs.Becomes.{Becomes}
use Rattle.promises.specs.Promised.{HasValues}
use Rattle.promises.proofs.Becoming.{packed-one, packed-small, becomes-values}

-- ---- An estimate that is done; `answer` is what its area then holds.

module _ {bytes readings tolerances area : List ℕ} {n : ℕ} {answer : List ℕ} (d : Estimated bytes readings tolerances area n answer) where
  abbrev rs : List ℤ
  rs = two_byte_numbers readings

  abbrev ts : List ℕ
  ts = unsigned (two_byte_numbers tolerances)

  readings_are : d.rs ≡ rs
  readings_are = sym d.given.readings_are

  tolerances_are : d.ts ≡ ts
  tolerances_are = sym (are-allowed (two_byte_numbers tolerances) d.ts d.given.tolerances_are).1

  -- both numbers are those of the one sum with these bytes
  module _ {s : Sum} (p : PackedSum bytes s) where
    the_value : estimate_in answer ≡ value s rs
    the_value = answer-estimate d ∙ ap₂ value (packed-one d.of_bytes p) readings_are

    the-margin : margin_in answer ≡ pos (margin s rs ts)
    the-margin =
        answer-margin d ∙ ap (λ u. pos (margin u d.rs d.ts)) (packed-one d.of_bytes p)
        ∙ ap₂ (λ (r : List ℤ) (t : List ℕ). pos (margin s r t)) readings_are tolerances_are

  module _ {f : List ℤ → ℤ} (v : HasValues bytes f) where
    at-readings : estimate_in answer ≡ f rs
    at-readings = the_value v.of_bytes ∙ sym (v.values rs)

    near : {x : List ℤ} → Within x rs ts → ((estimate_in answer -ℤ margin_in answer) ≤ℤ f x) × (f x ≤ℤ (estimate_in answer +ℤ margin_in answer))
    near {x} w =
        rw (v.values x, the_value v.of_bytes, the-margin v.of_bytes) (within-abs (value v.sum x) (value v.sum rs) (margin v.sum rs ts) (margin-law v.sum w))

-- ---- For whoever calls it from Rattle, and for a C host.

module _ (bytes readings tolerances area : List ℕ) {n : ℕ} {answer : List ℕ} (e : estimate bytes readings tolerances area ≡ outcome (done n) answer) where
  -- the margin is that of the one sum with these bytes
  pub margin-exact : {s : Sum} → PackedSum bytes s → margin_in answer ≡ pos (margin s (two_byte_numbers readings) (unsigned (two_byte_numbers tolerances)))
  margin-exact p = the-margin (estimate-means bytes (packed-small p) readings tolerances area e) p

  module _ {f : List ℤ → ℤ} (b : Becomes bytes f) where
    done-so : Estimated bytes readings tolerances area n answer
    done-so = estimate-means bytes (packed-small (becomes-values b).of_bytes) readings tolerances area e

    -- the estimate is the value at the readings
    pub estimate-exact : estimate_in answer ≡ f (two_byte_numbers readings)
    estimate-exact = at-readings done-so (becomes-values b)

    -- and wherever each true number is within its tolerance of its reading, the value is from the estimate less the margin up to both together
    pub demand-3 : {x : List ℤ} → Within x (two_byte_numbers readings) (unsigned (two_byte_numbers tolerances))
        → ((estimate_in answer -ℤ margin_in answer) ≤ℤ f x) × (f x ≤ℤ (estimate_in answer +ℤ margin_in answer))
    demand-3 w = near done-so (becomes-values b) w

-- the same, where the host gets 16
pub demand-3-host : (bytes readings tolerances area : List ℕ) {answer : List ℕ} → (answer_bytes, answer) ≡ hosted narrow_unit (estimate bytes readings tolerances area)
    → {f : List ℤ → ℤ} → Becomes bytes f → {x : List ℤ} → Within x (two_byte_numbers readings) (unsigned (two_byte_numbers tolerances))
    → ((estimate_in answer -ℤ margin_in answer) ≤ℤ f x) × (f x ≤ℤ (estimate_in answer +ℤ margin_in answer))
demand-3-host bytes readings tolerances area e b w =
    demand-3 bytes readings tolerances area (estimate-heard bytes (packed-small (becomes-values b).of_bytes) readings tolerances area e) b w

-- ---- What became a sum is estimated, or beyond the range: no other refusal is left where there is room, and readings and tolerances are given.

module _ {bytes : List ℕ} {f : List ℤ → ℤ} (b : Becomes bytes f) (readings tolerances area : List ℕ) (room : answer_bytes ≤ length area) {rs : List ℤ} {ts : List ℕ}
    (g : Given readings tolerances rs ts) where
  -- s is the sum that has the bytes
  module _ {s : Sum} (p : PackedSum bytes s) where
    pub becomes-estimated : size s (raised_by rs ts) ≤ largest_weight
        → estimate bytes readings tolerances area ≡ outcome (done answer_bytes) (written (answer_of (f rs) (margin s rs ts)) area)
    becomes-estimated near =
        let v = becomes-values b in
        let same : f rs ≡ value s rs = v.values rs ∙ ap (λ u. value u rs) (packed-one v.of_bytes p) in
        all-passed bytes readings tolerances area room p g near ∙ ap (λ z. outcome (done answer_bytes) (written (answer_of z (margin s rs ts)) area)) (sym same)

    pub becomes-beyond : largest_weight < size s (raised_by rs ts) → estimate bytes readings tolerances area ≡ outcome (refused RANGE 0) area
    becomes-beyond far = refuses-estimate bytes readings tolerances area (beyond room p g far)
