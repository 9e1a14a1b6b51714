-- A product above 2^62 shows in its parts, half by half: by the halves of one factor, or by both factors. Nothing has to be multiplied for it that does not fit in a word.
use mathlib.Core.Path.{◌≡◌, ◌∙◌, ap}
use Prim.Native.Nat.{ℕ, ◌+◌, ◌*◌, ◌^◌, ◌/◌, ◌%◌, ◌≤◌, ◌<◌}
use native.Mathlib.Omega.{arith}
use native.Mathlib.Nat.{mul-le-mul, mul_right_comm, add-mul}
use Rattle.algebra.specs.Limits.{largest_weight}

abbrev half : ℕ
half = 2 ^ 32

module _ (v w : ℕ) where
  halves : v * w ≡ v / half * w * half + v % half * w
  halves =
      let parts : v ≡ v / half * half + v % half = omega arith in
      ap (λ (n : ℕ). n * w) parts ∙ add-mul (v / half * half) (v % half) w ∙ ap (λ (n : ℕ). n + v % half * w) (mul_right_comm (v / half) half w)

  pub high-heavy : largest_weight / half < v / half * w → largest_weight < v * w
  high-heavy h = omega (arith, halves)

  pub low-heavy : largest_weight < v % half * w → largest_weight < v * w
  low-heavy h = omega (arith, halves)

-- two numbers of more than half a word have a product above every weight
pub both-heavy : {v w : ℕ} → half ≤ v → half ≤ w → largest_weight < v * w
both-heavy {v} {w} h k =
    let least : half * half ≤ v * w = mul-le-mul h k in
    omega (arith, least)
