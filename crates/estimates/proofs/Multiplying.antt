-- Two products at once, multiplied by two others: the second is formed only where it is exact, or 0.
use mathlib.Core.Path.{◌≡◌, refl, sym, ◌∙◌, ap, ap₂}
use Prim.Native.Nat.{ℕ, zero, suc, ◌+◌, ◌*◌, ◌^◌, ◌≤◌, ◌<◌}
use native.Mathlib.Omega.{arith}
use native.Mathlib.Decide.{dec_lt}
use native.Mathlib.Nat.{mul-le-mul, mul-suc, mul_comm, mul-one, mul_assoc, pow-zero, pow-suc}
use native.Mathlib.Numerals.{add-one}
use lib.IntN.{ℤ, pos, negsuc, nat_abs, ◌*ℤ◌, pow, one, *ℤ-zero, zero-*ℤ}
use mir.Syntax.{w64}
use mir.Val.{SFits}
use Rattle.algebra.specs.Limits.{largest_weight}
use Rattle.algebra.proofs.Numbers.Absolute.{abs-mul}
use Rattle.algebra.proofs.Numbers.Whole.{*ℤ-assoc, *ℤ-oner}
use Rattle.answers.proofs.Signed.{fits-abs}
use Rattle.weights.specs.Capped.{capped}
use Rattle.weights.proofs.Weighing.{capped-times, capped-times-right}
use Rattle.estimates.specs.Inside.Held.{Holds, Sound}

-- numbers themselves, however large the first is
pub themselves : {m : ℕ} {n : ℤ} → nat_abs n ≤ m → Holds m n m n
themselves h = record { most_is = refl; product_is = λ low. refl; within = h }

no_number : (z : ℤ) → nat_abs z ≡ 0 → z ≡ pos 0
no_number (pos k) h = ap pos h
no_number (negsuc k) h = absurd (omega arith)

nothing-beside : (m m' : ℕ) → largest_weight < m → m * m' ≤ largest_weight → m' ≡ 0
nothing-beside m zero heavy low = refl
nothing-beside m (suc k) heavy low = absurd (omega (arith, mul-suc m k))

-- ---- Two numbers alone.

-- some products of which they are kept
pub record Kept (most : ℕ) (product : ℤ) : Type 0 where
  pub m : ℕ
  pub n : ℤ
  pub holds : Holds most product m n

pub kept : (most : ℕ) (product : ℤ) → Sound most product → Kept most product
kept most product sound = go (dec_lt largest_weight most)
  where
    go : Dec (largest_weight < most) → Kept most product
    go (yes heavy) = record { m = most; n = pos 0; holds = record { most_is = refl; product_is = λ low. absurd (omega arith); within = omega arith } }
    go (no light) = record { m = most; n = product; holds = themselves (sound (omega (arith, light))) }

pub sound_of : {most : ℕ} {product : ℤ} {m : ℕ} {n : ℤ} → Holds most product m n → Sound most product
sound_of h = λ low. omega (arith, h.most_is, h.within, ap nat_abs (h.product_is (omega (arith, h.most_is))))

-- ---- One product.

module _ {most : ℕ} {product : ℤ} {m : ℕ} {n : ℤ} (h : Holds most product m n) {raised : ℕ} {reading : ℤ} {m' : ℕ} {n' : ℤ} (h' : Holds raised reading m' n') where
  both_is : capped (most * raised) ≡ capped (m * m')
  both_is =
      sym (capped-times most raised) ∙ sym (capped-times-right (capped most) raised) ∙ ap₂ (λ (i j : ℕ). capped (i * j)) h.most_is h'.most_is
      ∙ capped-times-right (capped m) m' ∙ capped-times m m'

  both-within : nat_abs (n *ℤ n') ≤ m * m'
  both-within = omega (arith, abs-mul n n', mul-le-mul h.within h'.within)

  -- what is formed is the product, if that is allowed: a factor that is too large has 0 beside it
  pub formed : m * m' ≤ largest_weight → product *ℤ reading ≡ n *ℤ n'
  formed low = go (dec_lt largest_weight m) (dec_lt largest_weight m')
    where
      go : Dec (largest_weight < m) → Dec (largest_weight < m') → product *ℤ reading ≡ n *ℤ n'
      go (no light) (no light') = ap₂ (λ x y. x *ℤ y) (h.product_is (omega (arith, light))) (h'.product_is (omega (arith, light')))
      go (yes heavy) d =
          let none = nothing-beside m m' heavy low in
          let nothing : n' ≡ pos 0 = no_number n' (omega (arith, none, h'.within)) in
          ap (λ z. product *ℤ z) (h'.product_is (omega (arith, none)) ∙ nothing) ∙ *ℤ-zero product ∙ sym (ap (λ z. n *ℤ z) nothing ∙ *ℤ-zero n)
      go (no light) (yes heavy) =
          let none = nothing-beside m' m heavy (rw (mul_comm m' m) low) in
          let nothing : n ≡ pos 0 = no_number n (omega (arith, none, h.within)) in
          ap (λ z. z *ℤ reading) (h.product_is (omega (arith, none)) ∙ nothing) ∙ zero-*ℤ reading ∙ sym (ap (λ z. z *ℤ n') nothing ∙ zero-*ℤ n')

  module _ {p : ℕ} (p-is : p ≡ capped (most * raised)) where
    pub too_large : largest_weight < p → Holds p product (m * m') (n *ℤ n')
    too_large far = record { most_is = omega (arith, p-is, both_is); product_is = λ low. absurd (omega (arith, p-is, both_is)); within = both-within }

    module _ (near : p ≤ largest_weight) where
      low : m * m' ≤ largest_weight
      low = omega (arith, p-is, both_is)

      pub product-fits : SFits w64 (product *ℤ reading)
      product-fits = rw (formed low) (fits-abs (n *ℤ n') (omega (arith, both-within, low)))

      pub multiplied : Holds p (product *ℤ reading) (m * m') (n *ℤ n')
      multiplied = record { most_is = omega (arith, p-is, both_is); product_is = formed; within = both-within }

-- ---- A power, factor by factor.

pub next-raised : (b k : ℕ) → b ^ k * b ≡ b ^ (k + 1)
next-raised b k = rw add-one (sym (pow-suc b k))

pub next_power : (r : ℤ) (k : ℕ) → pow r k *ℤ r ≡ pow r (k + 1)
unfolding pow
next_power r k = rw add-one refl

pub no_power : (r : ℤ) → pow r 0 ≡ pos 1
unfolding pow one
no_power r = refl

module _ (b : ℕ) (r : ℤ) {most : ℕ} {product : ℤ} (m : ℕ) (n : ℤ) where
  pub no-times : Holds most product m n → Holds most product (m * b ^ 0) (n *ℤ pow r 0)
  no-times h = rw (pow-zero b, mul-one m, no_power r, *ℤ-oner n) h

  pub times_more : (k : ℕ) → Holds most product (m * b ^ k * b) (n *ℤ pow r k *ℤ r) → Holds most product (m * b ^ (k + 1)) (n *ℤ pow r (k + 1))
  times_more k h = rw (mul_assoc m (b ^ k) b, next-raised b k, *ℤ-assoc n (pow r k) r, next_power r k) at h
