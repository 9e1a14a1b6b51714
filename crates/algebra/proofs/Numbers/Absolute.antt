-- Absolute values of whole numbers.
use mathlib.Core.Path.{◌≡◌, refl, sym, ◌∙◌}
use mathlib.Core.Bool.{Bool, true, false, not, cond}
use Prim.Native.Nat.{ℕ, zero, suc, ◌+◌, ◌*◌, ◌-◌, ◌^◌, ◌<◌, ◌≤◌}
use native.Mathlib.Omega.{arith}
use native.Mathlib.Nat.{pow-zero, pow-suc}
use lib.Dec.{T, ltb, ltb→lt}
use lib.IntN.{ℤ, pos, negsuc, sub_ℕ, neg_ℤ, nat_abs, ◌+ℤ◌, ◌*ℤ◌, pow, one}
use Rattle.algebra.specs.Sum.{is_zero}

pub abs_neg : (x : ℤ) → nat_abs (neg_ℤ x) ≡ nat_abs x
abs_neg (pos zero) = refl
abs_neg (pos (suc n)) = refl
abs_neg (negsuc n) = refl

abs-sub : (a b : ℕ) → nat_abs (sub_ℕ a b) ≤ a + b
abs-sub a b = go (ltb a b) (ltb→lt a b)
  where
    go : (c : Bool) → (T c → a < b) → nat_abs (cond c (negsuc (b - suc a)) (pos (a - b))) ≤ a + b
    go true f = omega (arith, f tt)
    go false f = omega arith

pub abs-add : (x y : ℤ) → nat_abs (x +ℤ y) ≤ nat_abs x + nat_abs y
abs-add (pos a) (pos b) = omega arith
abs-add (pos a) (negsuc b) = abs-sub a (suc b)
abs-add (negsuc a) (pos b) = omega (arith, abs-sub b (suc a))
abs-add (negsuc a) (negsuc b) = omega arith

pub abs-mul : (x y : ℤ) → nat_abs (x *ℤ y) ≡ nat_abs x * nat_abs y
abs-mul (pos a) (pos b) = refl
abs-mul (pos a) (negsuc b) = abs_neg (pos (a * suc b))
abs-mul (negsuc a) (pos b) = abs_neg (pos (suc a * b))
abs-mul (negsuc a) (negsuc b) = refl

pub abs-pow : (x : ℤ) (e : ℕ) → nat_abs (pow x e) ≡ nat_abs x ^ e
unfolding pow one
abs-pow x zero = rw (pow-zero (nat_abs x))
abs-pow x (suc e) = rw (abs-mul (pow x e) x, abs-pow x e, pow-suc (nat_abs x) e)

-- a number is 0 by its size
pub no_size : (c : ℤ) → nat_abs c ≡ 0 → T (not (is_zero c)) → ⊥
no_size (pos zero) e h = h
no_size (pos (suc n)) e h = omega arith
no_size (negsuc n) e h = omega arith

pub some_size : (c : ℤ) → (nat_abs c ≡ 0 → ⊥) → T (not (is_zero c))
some_size (pos zero) h = h refl
some_size (pos (suc n)) h = tt
some_size (negsuc n) h = tt

pub times-some : (c d : ℤ) → T (not (is_zero c)) → T (not (is_zero d)) → T (not (is_zero (c *ℤ d)))
times-some c d h k = some_size (c *ℤ d) (λ e. none (nat_abs c) (nat_abs d) (λ n. no_size c n h) (λ n. no_size d n k) (sym (abs-mul c d) ∙ e))
  where
    none : (m n : ℕ) → (m ≡ 0 → ⊥) → (n ≡ 0 → ⊥) → m * n ≡ 0 → ⊥
    none zero n f g e = f refl
    none (suc m) zero f g e = g refl
    none (suc m) (suc n) f g e = omega arith
