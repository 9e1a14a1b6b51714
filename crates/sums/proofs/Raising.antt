-- What the loop of `repeated` keeps: the k-th power stands in the arrays, and no spread on the way was above 128.
use mathlib.Core.Path.{◌≡◌, refl, sym, ◌∙◌, ap}
use mathlib.Core.List.{List}
use Prim.Native.Nat.{ℕ, zero, suc, ◌+◌, ◌*◌, ◌-◌, ◌^◌, max, ◌≤◌, ◌<◌}
use native.Mathlib.Omega.{arith}
use native.Mathlib.Nat.{add-zero, le_refl, le_trans, le-max_left, le-max_right, max-le, mul-le-mul_left, mul-le-mul_right, pow-suc, pow-le-pow_right}
use native.Mathlib.Numerals.{add-one}
use lib.IntN.{ℤ, pos}
use lib.ListN.{length, take}
use Rattle.algebra.specs.Limits.{variables, largest_degree, most_terms, largest_weight}
use Rattle.algebra.specs.Sum.{Sum, degree_of, weight}
use Rattle.algebra.specs.Arithmetic.{integer, one_sum, ◌⊗◌, product_spread, power, power_spread}
use Rattle.algebra.specs.Word.{terms}
use Rattle.algebra.specs.Held.{first_terms}
use Rattle.algebra.proofs.Sums.Results.{unit-integer, power-degree, power-weight}
use Rattle.answers.specs.Areas.{written}
use Rattle.sums.specs.Formed.{formed_of, Formed.formed, Formed.over, within, product_of, power_of, formed_into}
use Rattle.std.specs.Prelude.{Option, Some, None}
use Rattle.sums.specs.Held.{Held}
use Rattle.sums.proofs.Holding.{holdable}
use Rattle.sums.proofs.Forming.{within-yes}
use Rattle.sums.proofs.Answering.{given, refused, over-into}
use Rattle.sums.proofs.Fronts.{Front, front-written, front-is}
use Rattle.sums.proofs.Multiplying.{Factors, product-holdable, product_turned}

-- ---- Steps of the definitions.

module _ (n : ℕ) (s : Sum) where
  power-next : (k : ℕ) → 0 < k → power n s (k + 1) ≡ power n s k ⊗ s
  power-next zero h = absurd (omega arith)
  power-next (suc k) h = rw (add-one (suc k)) (unfold power in refl)

  pub spread-next : (k : ℕ) → 0 < k → power_spread n s (k + 1) ≡ max (power_spread n s k) (product_spread (power n s k) s)
  spread-next zero h = absurd (omega arith)
  spread-next (suc k) h = rw (add-one (suc k)) (unfold power_spread in refl)

  -- a spread that is too large stays so
  spread-more : (k : ℕ) → 0 < k → (d : ℕ) → power_spread n s k ≤ power_spread n s (k + d)
  spread-more k h zero = rw (add-zero k) (le_refl _)
  spread-more k h (suc d) =
      let next : k + suc d ≡ k + d + 1 = omega arith in
      rw (next, spread-next (k + d) (omega arith)) (le_trans (spread-more k h d) (le-max_left (power_spread n s (k + d)) (product_spread (power n s (k + d)) s)))

  pub spread-rises : (k e : ℕ) → 0 < k → k ≤ e → power_spread n s k ≤ power_spread n s e
  spread-rises k e h more = let all : k + (e - k) ≡ e = omega arith in rw all at (spread-more k h (e - k))

-- ---- Weights.

-- one power more weighs no more than the last one
pub heavier : (w m k e : ℕ) → m ≤ w ^ k → k < e → w ^ e ≤ largest_weight → m * w ≤ largest_weight
heavier zero m k e h more light = omega arith
heavier (suc w) m k e h more light =
    let next : suc w ^ k * suc w ≤ suc w ^ e = rw (← pow-suc (suc w) k) (pow-le-pow_right (omega arith) more) in
    le_trans (mul-le-mul_right (suc w) h) (le_trans next light)

-- ---- Exponents 0 and 2.

pub power-none : (s : Sum) (e : ℕ) → e ≡ 0 → formed (integer variables (pos 1)) ≡ power_of s e
unfolding power_of power power_spread
power-none s e none = rw none (ap formed (unit-integer variables) ∙ sym (within-yes 0 (one_sum variables) (omega arith)))

pub power-two : (s : Sum) (e : ℕ) → e ≡ 2 → product_of s s ≡ power_of s e
unfolding power_of product_of power power_spread
power-two s e two = let no_less : product_spread s s ≡ max 0 (product_spread s s) = omega arith in rw two (ap (λ (m : ℕ). within m (s ⊗ s)) no_less)

-- ---- The loop.

-- the arrays that each product works in
pub record Lent (gr : List ℕ) (gc : List ℤ) (sr tr : List ℕ) : Type 0 where
  pub running_words : most_terms + most_terms ≡ length gr
  pub running_coefficients : most_terms + most_terms ≡ length gc
  pub first_ranks : most_terms ≡ length sr
  pub second_ranks : most_terms ≡ length tr

pub record Raising (sp : List ℕ) (sc : List ℤ) (e : ℕ) (own-patterns : List ℕ) (own-coefficients : List ℤ) (next-patterns : List ℕ) (next-coefficients : List ℤ) (n k : ℕ) : Type 0 where
  pub base : Held sp sc
  pub low : degree_of (terms sp sc) * e ≤ largest_degree
  pub light : weight (terms sp sc) ^ e ≤ largest_weight
  pub so_far : Front (power variables (terms sp sc) k) own-patterns own-coefficients n
  pub narrow : power_spread variables (terms sp sc) k ≤ most_terms
  pub some : 0 < k
  pub inside : k ≤ e
  pub next_words_room : most_terms ≡ length next-patterns
  pub next_coefficients_room : most_terms ≡ length next-coefficients

pub start : {sp : List ℕ} {sc : List ℤ} {e : ℕ} {ws : List ℕ} {cs : List ℤ} {n : ℕ} (next-patterns : List ℕ) (next-coefficients : List ℤ) → Held sp sc
    → degree_of (terms sp sc) * e ≤ largest_degree → weight (terms sp sc) ^ e ≤ largest_weight → 0 < e → Front (terms sp sc) ws cs n
    → most_terms ≡ length next-patterns → most_terms ≡ length next-coefficients → Raising sp sc e ws cs next-patterns next-coefficients n 1
unfolding power power_spread
start next-patterns next-coefficients base low light some copied next_words_room next_coefficients_room = record {
  base = base;
  low = low;
  light = light;
  so_far = copied;
  narrow = omega arith;
  some = omega arith;
  inside = omega arith;
  next_words_room = next_words_room;
  next_coefficients_room = next_coefficients_room;
}

module _ {sp : List ℕ} {sc : List ℤ} {e : ℕ} {own-patterns : List ℕ} {own-coefficients : List ℤ} {next-patterns : List ℕ} {next-coefficients : List ℤ} {n k : ℕ}
    (r : Raising sp sc e own-patterns own-coefficients next-patterns next-coefficients n k) where
  abbrev s : Sum
  s = terms sp sc

  abbrev so_far : Sum
  so_far = power variables s k

  module _ (h : k < e) where
    factors : Factors so_far s
    factors =
        let more : degree_of s * (k + 1) ≤ degree_of s * e = mul-le-mul_left (degree_of s) (omega arith) in
        record {
          first = r.so_far.holdable;
          second = holdable r.base;
          low = omega (arith, r.low, power-degree variables s k);
          light = heavier (weight s) (weight so_far) k e (power-weight variables s k) h r.light;
        }

    -- what `multiply_in` requires of the first n places
    lent : first_terms n own-patterns own-coefficients ≡ so_far
    lent = front-is r.so_far

    pub product-low : degree_of (terms sp sc) + degree_of (first_terms n own-patterns own-coefficients) ≤ largest_degree
    product-low = rw lent (omega (arith, factors.low))

    pub product-light : weight (terms sp sc) * weight (first_terms n own-patterns own-coefficients) ≤ largest_weight
    product-light = rw lent (omega (arith, factors.light))

    -- what it answers
    module _ {ws : List ℕ} {cs : List ℤ} (a : Option ℕ)
        (told : (formed_of a, ws, cs) ≡ formed_into (product_of (terms sp sc) (first_terms n own-patterns own-coefficients)) next-patterns next-coefficients) where
      answer : (formed_of a, ws, cs) ≡ formed_into (within (product_spread so_far s) (so_far ⊗ s)) next-patterns next-coefficients
      unfolding product_of
      answer = told ∙ ap (λ x. formed_into x next-patterns next-coefficients) (ap (product_of s) lent ∙ product_turned s so_far)

      pub stops : a ≡ None → (ps : List ℕ) (ds : List ℤ) → (over, ps, ds) ≡ formed_into (power_of (terms sp sc) e) ps ds
      unfolding power_of
      stops none ps ds =
          let many = refused (product_spread so_far s) (so_far ⊗ s) next-patterns next-coefficients ws cs a none answer in
          let rises = spread-rises variables s (k + 1) e (omega arith) (omega arith) in
          let wide = le-max_right (power_spread variables s k) (product_spread so_far s) in
          over-into (power_spread variables s e) (power variables s e) ps ds (omega (arith, many, spread-next variables s k r.some))

      pub again : {all : ℕ} → a ≡ Some all → length ws ≡ length next-patterns → length cs ≡ length next-coefficients → Raising sp sc e ws cs ws cs all (k + 1)
      again is same_words same_coefficients =
          let g = given (product_spread so_far s) (so_far ⊗ s) next-patterns next-coefficients ws cs a is answer in
          let words_room = r.next_words_room ∙ sym same_words in
          let coefficients_room = r.next_coefficients_room ∙ sym same_coefficients in
          record {
            base = r.base;
            low = r.low;
            light = r.light;
            so_far = rw (power-next variables s k r.some)
                (front-written next-patterns next-coefficients g.words_are g.coefficients_are g.many (product-holdable factors g.few) words_room coefficients_room);
            narrow = rw (spread-next variables s k r.some) (max-le r.narrow g.few);
            some = omega arith;
            inside = omega arith;
            next_words_room = words_room;
            next_coefficients_room = coefficients_room;
          }

  pub ended : e ≤ k → (ps : List ℕ) (ds : List ℤ) {ps' : List ℕ} {ds' : List ℤ} → ps' ≡ written (take n own-patterns) ps → ds' ≡ written (take n own-coefficients) ds
      → (formed n, ps', ds') ≡ formed_into (power_of (terms sp sc) e) ps ds
  unfolding power_of formed_into
  ended h ps ds words coefficients =
      let at-end : e ≡ k = omega (arith, r.inside) in
      rw (at-end, within-yes (power_spread variables s k) so_far r.narrow, words, coefficients, r.so_far.words_are, r.so_far.coefficients_are, r.so_far.many)
