-- The whole numbers are a commutative ring. A whole number is a difference of two naturals; sums, products and negations of
-- differences are differences, so an identity of whole numbers is one of naturals, which omega proves by multiplying out.
use mathlib.Core.Path.{◌≡◌, refl, sym, ◌∙◌, ap, subst}
use mathlib.Core.Bool.{Bool, true, false, not, cond}
use Prim.Native.Nat.{ℕ, zero, suc, ◌+◌, ◌*◌, ◌-◌, ◌<◌, ◌≤◌}
use native.Mathlib.Omega.{arith}
use lib.Dec.{T, ltb, ltb→lt, nltb→le, le→leb, leb→le}
use lib.IntN.{ℤ, pos, negsuc, nat_abs, sub_ℕ, neg_ℤ, ◌+ℤ◌, ◌-ℤ◌, ◌*ℤ◌, +ℤ_comm, +ℤ_assoc, +ℤ_idl, +ℤ_invl, *ℤ_comm}
use lib.Signed.{◌≤ℤ◌, le_z_yes}

-- a number is above less below, and one of the two is 0
abbrev above : ℤ → ℕ
above (pos n) = n
above (negsuc n) = 0

abbrev below : ℤ → ℕ
below (pos n) = 0
below (negsuc n) = suc n

by_parts : (x y : ℤ) → above x + below y ≡ above y + below x → x ≡ y
by_parts (pos m) (pos n) e = ap pos (omega arith)
by_parts (pos m) (negsuc n) e = absurd (omega arith)
by_parts (negsuc m) (pos n) e = absurd (omega arith)
by_parts (negsuc m) (negsuc n) e = ap negsuc (omega arith)

sub_is : (a b : ℕ) → above (sub_ℕ a b) + b ≡ a + below (sub_ℕ a b)
sub_is a b = go (ltb a b) (ltb→lt a b) (nltb→le a b)
  where
    go : (c : Bool) → (T c → a < b) → (T (not c) → b ≤ a)
        → above (cond c (negsuc (b - suc a)) (pos (a - b))) + b ≡ a + below (cond c (negsuc (b - suc a)) (pos (a - b)))
    go true f g = omega (arith, f tt)
    go false f g = omega (arith, g tt)

neg-above : (x : ℤ) → above (neg_ℤ x) ≡ below x
neg-above (pos zero) = refl
neg-above (pos (suc n)) = refl
neg-above (negsuc n) = refl

neg-below : (x : ℤ) → below (neg_ℤ x) ≡ above x
neg-below (pos zero) = refl
neg-below (pos (suc n)) = refl
neg-below (negsuc n) = refl

add_is : (x y : ℤ) → above (x +ℤ y) + (below x + below y) ≡ above x + above y + below (x +ℤ y)
add_is (pos a) (pos b) = omega arith
add_is (pos a) (negsuc b) = omega (arith, sub_is a (suc b))
add_is (negsuc a) (pos b) = omega (arith, sub_is b (suc a))
add_is (negsuc a) (negsuc b) = omega arith

mul_is : (x y : ℤ) → above (x *ℤ y) + (above x * below y + below x * above y) ≡ above x * above y + below x * below y + below (x *ℤ y)
mul_is (pos a) (pos b) = omega arith
mul_is (pos a) (negsuc b) = omega (arith, neg-above (pos (a * suc b)), neg-below (pos (a * suc b)))
mul_is (negsuc a) (pos b) = omega (arith, neg-above (pos (suc a * b)), neg-below (pos (suc a * b)))
mul_is (negsuc a) (negsuc b) = omega arith

-- a less b; shut, so that its two numbers can be read off
diff : ℕ → ℕ → ℤ
diff a b = sub_ℕ a b

diff_is : (a b : ℕ) → above (diff a b) + b ≡ a + below (diff a b)
unfolding diff
diff_is a b = sub_is a b

as-diff : (z : ℤ) → diff (above z) (below z) ≡ z
as-diff z = by_parts _ z (omega (arith, diff_is (above z) (below z)))

diff-eq : (a b c d : ℕ) → a + d ≡ c + b → diff a b ≡ diff c d
diff-eq a b c d e = by_parts _ _ (omega (arith, diff_is a b, diff_is c d))

diff-neg : (a b : ℕ) → neg_ℤ (diff a b) ≡ diff b a
diff-neg a b = by_parts _ _ (omega (arith, diff_is a b, diff_is b a, neg-above (diff a b), neg-below (diff a b)))

diff-add : (a b c d : ℕ) → diff a b +ℤ diff c d ≡ diff (a + c) (b + d)
diff-add a b c d = by_parts _ _ (omega (arith, diff_is a b, diff_is c d, diff_is (a + c) (b + d), add_is (diff a b) (diff c d)))

diff-mul : (a b c d : ℕ) → diff a b *ℤ diff c d ≡ diff (a * c + b * d) (a * d + b * c)
diff-mul a b c d =
    by_parts _ _
    (go (above (diff a b)) (below (diff a b)) (above (diff c d)) (below (diff c d)) _ _ _ _ (diff_is a b) (diff_is c d) (diff_is (a * c + b * d) (a * d + b * c)) (mul_is (diff a b) (diff c d)))
  where
    go : (p n q m u v s t : ℕ) → p + b ≡ a + n → q + d ≡ c + m → u + (a * d + b * c) ≡ (a * c + b * d) + v → s + (p * m + n * q) ≡ p * q + n * m + t → s + v ≡ u + t
    go p n q m u v s t h k e f = omega (arith, ap (λ (x : ℕ). x * q) h, ap (λ (x : ℕ). x * m) h, ap (λ (x : ℕ). a * x) k, ap (λ (x : ℕ). b * x) k)

ruleset diffs = (diff-neg, diff-add, diff-mul)

-- a statement holds of every number if it holds of every difference
by-diff : (Q : ℤ → Type 0) → ((a b : ℕ) → Q (diff a b)) → (z : ℤ) → Q z
by-diff Q f z = subst Q (as-diff z) (f (above z) (below z))

by-diff₂ : (Q : ℤ → ℤ → Type 0) → ((a b c d : ℕ) → Q (diff a b) (diff c d)) → (x y : ℤ) → Q x y
by-diff₂ Q f x y = by-diff (λ x. Q x y) (λ a b. by-diff (Q (diff a b)) (f a b) y) x

by-diff₃ : (Q : ℤ → ℤ → ℤ → Type 0) → ((a b c d e f : ℕ) → Q (diff a b) (diff c d) (diff e f)) → (x y z : ℤ) → Q x y z
by-diff₃ Q f x y z = by-diff (λ x. Q x y z) (λ a b. by-diff₂ (Q (diff a b)) (f a b) y z) x

pub *ℤ-assoc : (x y z : ℤ) → (x *ℤ y) *ℤ z ≡ x *ℤ (y *ℤ z)
*ℤ-assoc = by-diff₃ (λ x y z. (x *ℤ y) *ℤ z ≡ x *ℤ (y *ℤ z)) (λ a b c d e f. simp diffs (diff-eq _ _ _ _ (omega arith)))

pub *ℤ-+ℤ : (x y z : ℤ) → x *ℤ (y +ℤ z) ≡ x *ℤ y +ℤ x *ℤ z
*ℤ-+ℤ = by-diff₃ (λ x y z. x *ℤ (y +ℤ z) ≡ x *ℤ y +ℤ x *ℤ z) (λ a b c d e f. simp diffs (diff-eq _ _ _ _ (omega arith)))

pub +ℤ-*ℤ : (x y z : ℤ) → (x +ℤ y) *ℤ z ≡ x *ℤ z +ℤ y *ℤ z
+ℤ-*ℤ = by-diff₃ (λ x y z. (x +ℤ y) *ℤ z ≡ x *ℤ z +ℤ y *ℤ z) (λ a b c d e f. simp diffs (diff-eq _ _ _ _ (omega arith)))

pub negℤ-*ℤ : (x y : ℤ) → neg_ℤ x *ℤ y ≡ neg_ℤ (x *ℤ y)
negℤ-*ℤ = by-diff₂ (λ x y. neg_ℤ x *ℤ y ≡ neg_ℤ (x *ℤ y)) (λ a b c d. simp diffs (diff-eq _ _ _ _ (omega arith)))

pub one-*ℤ : (x : ℤ) → pos 1 *ℤ x ≡ x
one-*ℤ (pos n) = ap pos (omega arith)
one-*ℤ (negsuc n) = by_parts _ _ (omega (arith, neg-above (pos (1 * suc n)), neg-below (pos (1 * suc n))))

pub *ℤ-oner : (x : ℤ) → x *ℤ pos 1 ≡ x
*ℤ-oner x = *ℤ_comm x (pos 1) ∙ one-*ℤ x

pub +ℤ-left-comm : (x y z : ℤ) → x +ℤ (y +ℤ z) ≡ y +ℤ (x +ℤ z)
+ℤ-left-comm x y z = sym (+ℤ_assoc x y z) ∙ ap (λ w. w +ℤ z) (+ℤ_comm x y) ∙ +ℤ_assoc y x z

pub *ℤ-left-comm : (x y z : ℤ) → x *ℤ (y *ℤ z) ≡ y *ℤ (x *ℤ z)
*ℤ-left-comm x y z = sym (*ℤ-assoc x y z) ∙ ap (λ w. w *ℤ z) (*ℤ_comm x y) ∙ *ℤ-assoc y x z

pub +ℤ-mix : (a b c d : ℤ) → (a +ℤ b) +ℤ (c +ℤ d) ≡ (a +ℤ c) +ℤ (b +ℤ d)
+ℤ-mix a b c d = simp (+ℤ_assoc, +ℤ-left-comm)

pub *ℤ-mix : (a b c d : ℤ) → (a *ℤ b) *ℤ (c *ℤ d) ≡ (a *ℤ c) *ℤ (b *ℤ d)
*ℤ-mix a b c d = simp (*ℤ-assoc, *ℤ-left-comm)

pub +ℤ-cancel : (a b c : ℤ) → a +ℤ b ≡ a +ℤ c → b ≡ c
+ℤ-cancel a b c e = sym (back b) ∙ ap (λ z. neg_ℤ a +ℤ z) e ∙ back c
  where
    back : (z : ℤ) → neg_ℤ a +ℤ (a +ℤ z) ≡ z
    back z = sym (+ℤ_assoc (neg_ℤ a) a z) ∙ ap (λ w. w +ℤ z) (+ℤ_invl a) ∙ +ℤ_idl z

-- ---- The order.

le_parts : (x y : ℤ) → above x + below y ≤ above y + below x → x ≤ℤ y
le_parts (pos m) (pos n) h = le_z_yes (le→leb m n (omega arith))
le_parts (pos m) (negsuc n) h = absurd (omega arith)
le_parts (negsuc m) (pos n) h = le_z_yes tt
le_parts (negsuc m) (negsuc n) h = le_z_yes (le→leb n m (omega arith))

abs-parts : (x : ℤ) → nat_abs x ≡ above x + below x
abs-parts (pos n) = omega arith
abs-parts (negsuc n) = omega arith

-- a number that is at most m away from e lies between e - m and e + m
pub within-abs : (z e : ℤ) (m : ℕ) → nat_abs (z -ℤ e) ≤ m → ((e -ℤ pos m) ≤ℤ z) × (z ≤ℤ (e +ℤ pos m))
within-abs z e m h =
    let apart = add_is z (neg_ℤ e) in
    let least = add_is e (neg_ℤ (pos m)) in
    let size = abs-parts (z -ℤ e) in (
      le_parts (e -ℤ pos m) z (omega (arith, h, apart, least, size, neg-above e, neg-below e, neg-above (pos m), neg-below (pos m))),
      le_parts z (e +ℤ pos m) (omega (arith, h, apart, add_is e (pos m), size, neg-above e, neg-below e)),
    )

parts-le : (x y : ℤ) → x ≤ℤ y → above x + below y ≤ above y + below x
parts-le (pos m) (pos n) h = omega (arith, leb→le m n h.le)
parts-le (pos m) (negsuc n) h = absurd h.le
parts-le (negsuc m) (pos n) h = omega arith
parts-le (negsuc m) (negsuc n) h = omega (arith, leb→le n m h.le)

-- and the other way round
pub between-abs : (z e : ℤ) (m : ℕ) → (e -ℤ pos m) ≤ℤ z → z ≤ℤ (e +ℤ pos m) → nat_abs (z -ℤ e) ≤ m
between-abs z e m low high = go (z -ℤ e) (add_is z (neg_ℤ e))
  where
    least : below z + above e ≤ above z + below e + m
    least = omega (arith, parts-le (e -ℤ pos m) z low, add_is e (neg_ℤ (pos m)), neg-above (pos m), neg-below (pos m))

    most : above z + below e ≤ above e + below z + m
    most = omega (arith, parts-le z (e +ℤ pos m) high, add_is e (pos m))

    go : (d : ℤ) → above d + (below z + below (neg_ℤ e)) ≡ above z + above (neg_ℤ e) + below d → nat_abs d ≤ m
    go (pos n) is = omega (arith, is, most, neg-above e, neg-below e)
    go (negsuc n) is = omega (arith, is, least, neg-above e, neg-below e)
