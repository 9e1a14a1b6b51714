-- What the loop of `step` keeps: the numbers so far are written, and the one before the next is at hand.
use mathlib.Core.Path.{◌≡◌, refl, sym, ◌∙◌, ap, ap₂}
use mathlib.Core.List.{List, [], ◌∷◌}
use Prim.Native.Nat.{ℕ, zero, suc, ◌+◌, ◌*◌, ◌≤◌, ◌<◌}
use native.Mathlib.Omega.{arith}
use native.Mathlib.Numerals.{add-one}
use native.Mathlib.Nat.{mul-le-mul_right}
use lib.IntN.{ℤ, pos, negsuc, nat_abs, ◌+ℤ◌, ◌*ℤ◌}
use lib.ListN.{length, get_or, take, set}
use lib.Seq.{length-take-le, get_or-take, take_all}
use mir.Syntax.{w64}
use mir.Val.{SFits, of_z}
use Rattle.algebra.specs.Limits.{largest_weight}
use Rattle.algebra.proofs.Numbers.Absolute.{abs-add, abs-mul}
use Rattle.answers.specs.Areas.{written}
use Rattle.answers.proofs.Writes.{getD-written}
use Rattle.answers.proofs.Copies as copies
use Rattle.answers.proofs.Copies.{Copying}
use Rattle.sums.specs.Binomial.{stepped, sizes}

-- ---- The rule, place by place.

stepped-length : (x y left : ℤ) (cs : List ℤ) → length (stepped x y left cs) ≡ length cs + 1
unfolding stepped
stepped-length x y left [] = refl
stepped-length x y left (c ∷ cs) = omega (arith, stepped-length x y c cs)

stepped-at : (x y left : ℤ) (cs : List ℤ) (k : ℕ) → k < length cs
    → get_or (stepped x y left cs) k (pos 0) ≡ get_or (left ∷ cs) k (pos 0) *ℤ y +ℤ get_or cs k (pos 0) *ℤ x
unfolding stepped
stepped-at x y left [] k h = absurd (omega arith)
stepped-at x y left (c ∷ cs) zero h = refl
stepped-at x y left (c ∷ cs) (suc k) h = stepped-at x y c cs k (omega arith)

stepped-last : (x y left : ℤ) (cs : List ℤ) (k : ℕ) → k ≡ length cs → get_or (stepped x y left cs) k (pos 0) ≡ get_or (left ∷ cs) k (pos 0) *ℤ y
unfolding stepped
stepped-last x y left [] zero h = refl
stepped-last x y left [] (suc k) h = absurd (omega arith)
stepped-last x y left (c ∷ cs) zero h = absurd (omega arith)
stepped-last x y left (c ∷ cs) (suc k) h = stepped-last x y c cs k (omega arith)

sizes-at : (cs : List ℤ) (k : ℕ) → nat_abs (get_or cs k (pos 0)) ≤ sizes cs
unfolding sizes
sizes-at [] k = omega arith
sizes-at (c ∷ cs) zero = omega arith
sizes-at (c ∷ cs) (suc k) = omega (arith, sizes-at cs k)

-- ---- The loop.

pub record Stepping (x y : ℤ) (n : ℕ) (area₀ area : List ℤ) (left : ℤ) (k : ℕ) : Type 0 where
  pub filled : Copying area₀ (stepped x y (pos 0) (take n area₀)) (n + 1) area k
  pub left_is : left ≡ get_or (pos 0 ∷ take n area₀) k (pos 0)
  pub light : sizes (take n area₀) * (nat_abs x + nat_abs y) ≤ largest_weight
  pub below : k ≤ n

pub start : (x y : ℤ) (n : ℕ) (area : List ℤ) → n < length area → sizes (take n area) * (nat_abs x + nat_abs y) ≤ largest_weight → Stepping x y n area area (pos 0) 0
start x y n area room light = record {
  filled = copies.start area (stepped x y (pos 0) (take n area)) (n + 1) (omega arith) (omega (arith, stepped-length x y (pos 0) (take n area), length-take-le n area (omega arith)));
  left_is = refl;
  light = light;
  below = omega arith;
}

module _ {x y : ℤ} {n : ℕ} {area₀ area : List ℤ} {left : ℤ} {k : ℕ} (s : Stepping x y n area₀ area left k) where
  abbrev cs : List ℤ
  cs = take n area₀

  many : length cs ≡ n
  many = length-take-le n area₀ (omega (arith, s.filled.room))

  -- what stands at the next place is what stood there
  next_is : k < n → get_or area k (pos 0) ≡ get_or cs k (pos 0)
  next_is more =
      let first = length-take-le k (stepped x y (pos 0) cs) (omega (arith, stepped-length x y (pos 0) cs, many)) in
      ap (λ l. get_or l k (pos 0)) s.filled.so_far ∙ getD-written (take k (stepped x y (pos 0) cs)) area₀ k (pos 0) (omega (arith, first))
      ∙ sym (get_or-take n area₀ k (pos 0) more)

  left-small : nat_abs left ≤ sizes cs
  left-small = rw s.left_is (before k)
    where
      before : (k : ℕ) → nat_abs (get_or (pos 0 ∷ cs) k (pos 0)) ≤ sizes cs
      before zero = omega arith
      before (suc k) = sizes-at cs k

  -- ---- Nothing overflows.

  pub left-light : nat_abs (left *ℤ y) ≤ largest_weight
  left-light = rw (abs-mul left y) (within (nat_abs left) (sizes cs) (nat_abs x) (nat_abs y) left-small s.light)
    where
      within : (a b u v : ℕ) → a ≤ b → b * (u + v) ≤ largest_weight → a * v ≤ largest_weight
      within a b u v h k = let most = mul-le-mul_right v h in omega (arith, most)

  pub both-light : (c : ℤ) → c ≡ get_or area k (pos 0) → k < n → (nat_abs (c *ℤ x) ≤ largest_weight) × (nat_abs (left *ℤ y +ℤ c *ℤ x) ≤ largest_weight)
  both-light c is more =
      let next : nat_abs c ≤ sizes cs = rw (is ∙ next_is more) (sizes-at cs k) in
      let size = abs-mul c x in
      let first = within (nat_abs c) (nat_abs left) (sizes cs) (nat_abs x) (nat_abs y) next left-small s.light in
      (omega (arith, size, first), omega (arith, size, abs-mul left y, abs-add (left *ℤ y) (c *ℤ x), first))
    where
      within : (a d b u v : ℕ) → a ≤ b → d ≤ b → b * (u + v) ≤ largest_weight → d * v + a * u ≤ largest_weight
      within a d b u v h k l = let most = mul-le-mul_right u h in let more = mul-le-mul_right v k in omega (arith, most, more)

  pub again : k < n → (c v : ℤ) → c ≡ get_or area k (pos 0) → v ≡ left *ℤ y +ℤ c *ℤ x → Stepping x y n area₀ (set area k v) c (k + 1)
  again more c v is value =
      let here = next_is more in
      let target : v ≡ get_or (stepped x y (pos 0) cs) k (pos 0) =
      value ∙ ap₂ (λ a b. a *ℤ y +ℤ b *ℤ x) s.left_is (is ∙ here) ∙ sym (stepped-at x y (pos 0) cs k (omega (arith, many)))
      in
      record {
        filled = rw target (copies.again (pos 0) area₀ (stepped x y (pos 0) cs) (n + 1) area k s.filled (omega arith));
        left_is = is ∙ here ∙ ap (λ (i : ℕ). get_or (pos 0 ∷ cs) i (pos 0)) (sym (add-one k));
        light = s.light;
        below = omega arith;
      }

  pub ended : n ≤ k → (v : ℤ) → v ≡ left *ℤ y → set area n v ≡ written (stepped x y (pos 0) (take n area₀)) area₀
  ended h v value =
      let at-end : k ≡ n = omega (arith, s.below) in
      let target : v ≡ get_or (stepped x y (pos 0) cs) k (pos 0) =
      value ∙ ap (λ a. a *ℤ y) s.left_is ∙ sym (stepped-last x y (pos 0) cs k (at-end ∙ sym many))
      in
      let all = copies.again (pos 0) area₀ (stepped x y (pos 0) cs) (n + 1) area k s.filled (omega arith) in
      ap₂ (λ (i : ℕ) (c : ℤ). set area i c) (sym at-end) target
      ∙ copies.ended area₀ (stepped x y (pos 0) cs) (n + 1) (set area k (get_or (stepped x y (pos 0) cs) k (pos 0))) (k + 1) all (omega arith)
      ∙ ap (λ l. written l area₀) (take_all (n + 1) (stepped x y (pos 0) cs) (omega (arith, stepped-length x y (pos 0) cs, many)))

-- a test `x == 1` compares bits
pub one-bits : (z : ℤ) → SFits w64 z → of_z w64 z ≡ 1 → z ≡ pos 1
one-bits (pos n) f e = ap pos e
one-bits (negsuc k) f e = absurd (omega (arith, f.sfits))
