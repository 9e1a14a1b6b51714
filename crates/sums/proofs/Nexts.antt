-- Two sums in slices that are added from the front: which term is next.
use mathlib.Core.Path.{◌≡◌, refl, sym, ◌∙◌, ap₂, subst}
use mathlib.Core.Bool.{Bool, true, false}
use mathlib.Core.List.{List}
use Prim.Native.Nat.{ℕ, ◌+◌, ◌≤◌, ◌<◌, Ordering}
use native.Mathlib.Omega.{arith}
use native.Mathlib.Decide.{dec_lt}
use borrow.Author.Tests.{ne_eqb}
use lib.Dec.{T, eqb, eqb_refl}
use lib.Ieee.Bits.{is_true}
use lib.IntN.{ℤ}
use lib.ListN.{length, get_or}
use Rattle.algebra.specs.Pattern.{order}
use Rattle.algebra.specs.Sum.{is_before}
use Rattle.algebra.specs.Word.{exponents, terms}
use Rattle.sums.specs.Held.{Held}
use Rattle.sums.specs.Adding.{next_stands}
use Rattle.sums.proofs.Holding.{term-at}
use Rattle.sums.proofs.Merging.{none}

module _ (x : ℕ) (sp : List ℕ) (y : ℕ) (tp : List ℕ) where
  pub stands-first : y ≡ length tp → next_stands x sp y tp ≡ Ordering.lt
  stands-first e = rw e (rw (is_true (eqb (length tp) (length tp)) (eqb_refl (length tp))) refl)

  pub stands-second : (y ≡ length tp → ⊥) → x ≡ length sp → next_stands x sp y tp ≡ Ordering.gt
  stands-second f e = rw (ne_eqb y (length tp) f) (rw e (rw (is_true (eqb (length sp) (length sp)) (eqb_refl (length sp))) refl))

  pub stands-ordered : (y ≡ length tp → ⊥) → (x ≡ length sp → ⊥) → next_stands x sp y tp ≡ order (exponents (get_or sp x 0)) (exponents (get_or tp y 0))
  stands-ordered f g = rw (ne_eqb y (length tp) f) (rw (ne_eqb x (length sp) g) refl)

-- where terms are left, the next one is there; where both sums have some, it is decided by the order of their patterns
module _ {sp : List ℕ} {sc : List ℤ} {tp : List ℕ} {tc : List ℤ} (one : Held sp sc) (two : Held tp tc) (x y : ℕ)
    (inside : x ≤ length sp) (inside' : y ≤ length tp) (left : x + y < length sp + length tp) where
  abbrev Ordered : Ordering → Type 0
  Ordered o = order (get_or (terms sp sc) x none).pattern (get_or (terms tp tc) y none).pattern ≡ o

  both_left : x < length sp → y < length tp → Ordered (next_stands x sp y tp)
  both_left h k =
      ap₂ (λ u v. order u.pattern v.pattern) (term-at one x h none) (term-at two y k none) ∙ sym (stands-ordered x sp y tp (λ e. omega arith) (λ e. omega arith))

  first-left : length tp ≤ y → next_stands x sp y tp ≡ Ordering.lt
  first-left h = stands-first x sp y tp (omega arith)

  second-left : length sp ≤ x → next_stands x sp y tp ≡ Ordering.gt
  second-left h = stands-second x sp y tp (λ e. omega arith) (omega arith)

  pub next-first : next_stands x sp y tp ≡ Ordering.lt → (x < length sp) × (y < length tp → Ordered Ordering.lt)
  next-first e = go (dec_lt x (length sp))
    where
      go : Dec (x < length sp) → (x < length sp) × (y < length tp → Ordered Ordering.lt)
      go (yes h) = (h, λ k. both_left h k ∙ e)
      go (no h) = absurd (subst (λ o. T (is_before o)) (sym e ∙ second-left (omega arith)) tt)

  pub next-second : next_stands x sp y tp ≡ Ordering.gt → (y < length tp) × (x < length sp → Ordered Ordering.gt)
  next-second e = go (dec_lt y (length tp))
    where
      go : Dec (y < length tp) → (y < length tp) × (x < length sp → Ordered Ordering.gt)
      go (yes k) = (k, λ h. both_left h k ∙ e)
      go (no k) = absurd (subst (λ o. T (is_before o)) (sym (first-left (omega arith)) ∙ e) tt)

  pub next_both : next_stands x sp y tp ≡ Ordering.eq → ((x < length sp) × (y < length tp)) × Ordered Ordering.eq
  next_both e = go (dec_lt x (length sp)) (dec_lt y (length tp))
    where
      go : Dec (x < length sp) → Dec (y < length tp) → ((x < length sp) × (y < length tp)) × Ordered Ordering.eq
      go (yes h) (yes k) = ((h, k), both_left h k ∙ e)
      go (yes h) (no k) = absurd (subst (λ o. T (is_before o)) (sym (first-left (omega arith)) ∙ e) tt)
      go (no h) d = absurd (subst (λ o. T (is_after o)) (sym (second-left (omega arith)) ∙ e) tt)
        where
          is_after : Ordering → Bool
          is_after Ordering.lt = false
          is_after Ordering.eq = false
          is_after Ordering.gt = true
