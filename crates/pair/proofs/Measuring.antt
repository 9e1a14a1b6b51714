-- What the loop of `measure` keeps: degree, weight and largest power of the terms so far.
use mathlib.Core.Path.{◌≡◌, refl, sym, ◌∙◌, ap, ap₂}
use mathlib.Core.List.{List, [], ◌∷◌, ◌++◌}
use Prim.Native.Nat.{ℕ, ◌+◌, ◌*◌, ◌-◌, ◌^◌, max, ◌≤◌, ◌<◌}
use native.Mathlib.Omega.{arith}
use native.Mathlib.Nat.{mul-le-mul_left, mul-le-mul_right}
use lib.IntN.{ℤ, pos, nat_abs}
use lib.ListN.{length, get_or, take}
use lib.Seq.{take_all}
use Rattle.algebra.specs.Limits.{largest_degree}
use Rattle.algebra.specs.Pattern.{Pattern, degree, exponent, without}
use Rattle.algebra.specs.Sum.{Term, term, Sum, degree_of, weight}
use Rattle.algebra.specs.Substitute.{pair_degree, pair_weight, largest_power}
use Rattle.algebra.specs.Word.{exponents, terms}
use Rattle.algebra.proofs.Patterns.Laws.{exponent-degree, without-degree}
use Rattle.sums.specs.Held.{Held, HeldSum}
use Rattle.sums.proofs.Holding.{each-valid, terms-many, terms-next}
use Rattle.weights.specs.Capped.{capped}
use Rattle.weights.proofs.Weighing.{capped-plus, capped-plus-right, capped-times-right}

-- ---- One term more, at the end.

module _ (v : ℕ) where
  power-next : (s : Sum) (t : Term) → largest_power v (s ++ (t ∷ [])) ≡ max (largest_power v s) (exponent v t.pattern)
  unfolding largest_power
  power-next [] t = omega arith
  power-next (u ∷ s) t = omega (arith, power-next s t)

  module _ (S : Sum) where
    pair-degree-next : (s : Sum) (t : Term)
        → pair_degree v S (s ++ (t ∷ [])) ≡ max (pair_degree v S s) (degree (without v t.pattern) + exponent v t.pattern * degree_of S)
    unfolding pair_degree
    pair-degree-next [] t = omega arith
    pair-degree-next (u ∷ s) t = omega (arith, pair-degree-next s t)

    pair-weight-next : (s : Sum) (t : Term)
        → pair_weight v S (s ++ (t ∷ [])) ≡ pair_weight v S s + nat_abs t.coefficient * weight S ^ exponent v t.pattern
    unfolding pair_weight
    pair-weight-next [] t = omega arith
    pair-weight-next (u ∷ s) t = omega (arith, pair-weight-next s t)

-- ---- The loop of `measure`. D and W are the degree and the weight of the sum that is put.

pub record Measuring (v : ℕ) (S : Sum) (D W : ℕ) (ws : List ℕ) (cs : List ℤ) (d w p k : ℕ) : Type 0 where
  pub held : Held ws cs
  pub put_degree : D ≡ degree_of S
  pub put_weight : W ≡ weight S
  pub put_low : D ≤ largest_degree
  pub degree_is : d ≡ pair_degree v S (take k (terms ws cs))
  pub weight_is : w ≡ capped (pair_weight v S (take k (terms ws cs)))
  pub power_is : p ≡ largest_power v (take k (terms ws cs))
  pub inside : k ≤ length ws

pub start : (v : ℕ) {sp : List ℕ} {sc : List ℤ} {D W : ℕ} {ws : List ℕ} {cs : List ℤ} → HeldSum sp sc → (D ≡ degree_of (terms sp sc)) × (W ≡ weight (terms sp sc))
    → Held ws cs → Measuring v (terms sp sc) D W ws cs 0 0 0 0
unfolding pair_degree pair_weight largest_power
start v put size held = record {
  held = held;
  put_degree = size.0;
  put_weight = size.1;
  put_low = omega (arith, size.0, put.held.low);
  degree_is = refl;
  weight_is = omega arith;
  power_is = refl;
  inside = omega arith;
}

module _ {v : ℕ} {S : Sum} {D W : ℕ} {ws : List ℕ} {cs : List ℤ} {d w p k : ℕ} (m : Measuring v S D W ws cs d w p k) where
  -- the next term: its pattern, its power of v and its degree
  module _ (h : k < length ws) {e g : ℕ} (e-is : e ≡ exponent v (exponents (get_or ws k 0))) (g-is : g ≡ degree (exponents (get_or ws k 0))) where
    abbrev q : Pattern
    q = exponents (get_or ws k 0)

    -- what the code computes of them stays small
    pub fits : (e ≤ g) × (g ≤ largest_degree) × (e * D ≤ largest_degree * largest_degree)
    fits =
        let less : e ≤ g = omega (arith, e-is, g-is, exponent-degree v q) in
        let low : g ≤ largest_degree = omega (arith, g-is, (each-valid m.held k h).low) in
        (less, low, omega (arith, mul-le-mul_right D less, mul-le-mul_right D low, mul-le-mul_left largest_degree m.put_low))

    module _ {d' r t w' p' : ℕ} (larger : d' ≡ max d (g - e + e * D)) (raised : r ≡ capped (W ^ e)) (whole : t ≡ capped (nat_abs (get_or cs k (pos 0)) * r))
        (added : w' ≡ capped (w + t)) (most : p' ≡ max p e) where
      abbrev s : Sum
      s = take k (terms ws cs)

      abbrev u : Term
      u = term (get_or cs k (pos 0)) q

      next : take (k + 1) (terms ws cs) ≡ s ++ (u ∷ [])
      next = terms-next m.held k h

      degree-next-is : d' ≡ pair_degree v S (take (k + 1) (terms ws cs))
      degree-next-is =
          let others : g - e ≡ degree (without v q) = omega (arith, e-is, g-is, without-degree v q) in
          larger ∙ ap₂ (λ (i j : ℕ). max i (j + e * D)) m.degree_is others
          ∙ ap₂ (λ (i j : ℕ). max (pair_degree v S s) (degree (without v q) + i * j)) e-is m.put_degree
          ∙ sym (ap (pair_degree v S) next ∙ pair-degree-next v S s u)

      weight-next-is : w' ≡ capped (pair_weight v S (take (k + 1) (terms ws cs)))
      weight-next-is =
          let c = nat_abs u.coefficient in
          let power = weight S ^ exponent v q in
          let raised_is : r ≡ capped power = raised ∙ ap₂ (λ (i j : ℕ). capped (i ^ j)) m.put_weight e-is in
          let whole_is : t ≡ capped (c * power) = whole ∙ ap (λ (i : ℕ). capped (c * i)) raised_is ∙ capped-times-right c power in
          added ∙ ap₂ (λ (i j : ℕ). capped (i + j)) m.weight_is whole_is
          ∙ capped-plus (pair_weight v S s) (capped (c * power)) ∙ capped-plus-right (pair_weight v S s) (c * power)
          ∙ ap capped (sym (ap (pair_weight v S) next ∙ pair-weight-next v S s u))

      pub again : Measuring v S D W ws cs d' w' p' (k + 1)
      again = record {
        held = m.held;
        put_degree = m.put_degree;
        put_weight = m.put_weight;
        put_low = m.put_low;
        degree_is = degree-next-is;
        weight_is = weight-next-is;
        power_is = most ∙ ap₂ (λ (i j : ℕ). max i j) m.power_is e-is ∙ sym (ap (largest_power v) next ∙ power-next v s u);
        inside = omega arith;
      }

  pub ended : length ws ≤ k → (d ≡ pair_degree v S (terms ws cs)) × (w ≡ capped (pair_weight v S (terms ws cs))) × (p ≡ largest_power v (terms ws cs))
  ended h =
      let all = take_all k (terms ws cs) (omega (arith, terms-many m.held)) in
      (m.degree_is ∙ ap (pair_degree v S) all, m.weight_is ∙ ap (λ l. capped (pair_weight v S l)) all, m.power_is ∙ ap (largest_power v) all)
