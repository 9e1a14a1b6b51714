-- What the loop of `words` keeps: the words so far are written, and the next one is at hand.
use mathlib.Core.Path.{◌≡◌, refl, sym, ◌∙◌, ap, ap₂}
use mathlib.Core.Bool.{Bool, true, false, not}
use mathlib.Core.List.{List}
use Prim.Native.Nat.{ℕ, zero, suc, ◌+◌, ◌*◌, ◌-◌, ◌^◌, ◌≤◌, ◌<◌}
use native.Mathlib.Omega.{arith}
use native.Mathlib.Nat.{mul-le-mul_left, sub-zero}
use lib.Dec.{T, ltb, ltb→lt, nltb→le}
use lib.ListN.{length, get_or, set}
use lib.Seq.{take_all}
use Rattle.answers.specs.Areas.{written}
use Rattle.answers.proofs.Copies as copies
use Rattle.answers.proofs.Copies.{Copying}
use Rattle.sums.specs.Binomial.{mixed}

-- ---- The words, place by place.

pub mixed-length : (p q m k : ℕ) → length (mixed p q m k) ≡ m + 1
unfolding mixed
mixed-length p q zero k = refl
mixed-length p q (suc m) k = omega (arith, mixed-length p q m (suc k))

mixed-at : (p q m i k j : ℕ) → m ≡ j + i → get_or (mixed p q m k) i 0 ≡ j * p + (k + i) * q
unfolding mixed
mixed-at p q zero zero k j h = let none : j ≡ 0 = omega arith in rw none (omega arith)
mixed-at p q zero (suc i) k j h = absurd (omega arith)
mixed-at p q (suc m) zero k j h = let all : j ≡ suc m = omega arith in rw all (omega arith)
mixed-at p q (suc m) (suc i) k j h = mixed-at p q m i (suc k) j (omega arith) ∙ omega arith

-- p and q together as often as one of them alone
small : (p q j k m : ℕ) → (j + k) * p < m → (j + k) * q < m → j * p + k * q < m
small p q j k m h h' = go (ltb p q) (ltb→lt p q) (nltb→le p q)
  where
    go : (b : Bool) → (T b → p < q) → (T (not b) → q ≤ p) → j * p + k * q < m
    go true f g = let less = f tt in let most : j * p ≤ j * q = mul-le-mul_left j (omega (arith, less)) in omega (arith, most)
    go false f g = let most : k * q ≤ k * p = mul-le-mul_left k (g tt) in omega (arith, most)

-- ---- The loop.

pub record Wording (p q e : ℕ) (area₀ area : List ℕ) (word k : ℕ) : Type 0 where
  pub filled : Copying area₀ (mixed p q e 0) (e + 1) area k
  pub word_is : word ≡ (e - k) * p + k * q
  pub below : k ≤ e
  pub first_small : e * p < 2 ^ 64
  pub second_small : e * q < 2 ^ 64

pub start : (p q e : ℕ) (area : List ℕ) → e < length area → e * p < 2 ^ 64 → e * q < 2 ^ 64 → (word : ℕ) → word ≡ e * p → Wording p q e area area word 0
start p q e area room first_small second_small word is = record {
  filled = copies.start area (mixed p q e 0) (e + 1) (omega arith) (omega (arith, mixed-length p q e 0));
  word_is = rw (sub-zero e) (omega arith);
  below = omega arith;
  first_small = first_small;
  second_small = second_small;
}

module _ {p q e : ℕ} {area₀ area : List ℕ} {word k : ℕ} (s : Wording p q e area₀ area word k) where
  here : word ≡ get_or (mixed p q e 0) k 0
  here =
      let all : e ≡ e - k + k = omega (arith, s.below) in
      omega (arith, s.word_is, mixed-at p q e k 0 (e - k) all)

  module _ (more : k < e) where
    -- one p less
    fewer : e - k ≡ suc (e - (k + 1))
    fewer = omega arith

    pub enough : p ≤ word
    enough = let one = ap (λ (j : ℕ). j * p) fewer in omega (arith, s.word_is, one)

    next_is : word - p + q ≡ (e - (k + 1)) * p + (k + 1) * q
    next_is = let one = ap (λ (j : ℕ). j * p) fewer in omega (arith, s.word_is, one)

    pub next_small : word - p + q < 2 ^ 64
    next_small =
        let all : e - (k + 1) + (k + 1) ≡ e = omega arith in
        rw next_is (small p q (e - (k + 1)) (k + 1) (2 ^ 64) (rw all s.first_small) (rw all s.second_small))

    pub again : Wording p q e area₀ (set area k word) (word - p + q) (k + 1)
    again = record {
      filled = rw here (copies.again 0 area₀ (mixed p q e 0) (e + 1) area k s.filled (omega arith));
      word_is = next_is;
      below = omega arith;
      first_small = s.first_small;
      second_small = s.second_small;
    }

  pub ended : e ≤ k → set area e word ≡ written (mixed p q e 0) area₀
  ended h =
      let at-end : k ≡ e = omega (arith, s.below) in
      ap₂ (λ (i w : ℕ). set area i w) (sym at-end) here
      ∙ copies.ended area₀ (mixed p q e 0) (e + 1) (set area k (get_or (mixed p q e 0) k 0)) (k + 1) (copies.again 0 area₀ (mixed p q e 0) (e + 1) area k s.filled (omega arith)) (omega arith)
      ∙ ap (λ l. written l area₀) (take_all (e + 1) (mixed p q e 0) (omega (arith, mixed-length p q e 0)))
