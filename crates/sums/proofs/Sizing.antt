-- What the loop of `size_of` keeps: degree and weight of the terms so far.
use mathlib.Core.Path.{◌≡◌, refl, sym, ◌∙◌, ap}
use mathlib.Core.List.{List}
use Prim.Native.Nat.{ℕ, ◌+◌, ◌^◌, max, ◌≤◌, ◌<◌}
use native.Mathlib.Omega.{arith}
use lib.IntN.{ℤ, pos, nat_abs}
use lib.ListN.{length, get_or, take}
use lib.Seq.{take_all}
use Rattle.algebra.specs.Pattern.{degree}
use Rattle.algebra.specs.Sum.{Term, term, degree_of, weight}
use Rattle.algebra.specs.Word.{exponents, terms}
use Rattle.algebra.proofs.Sums.Results.{degree-next, weight-next}
use Rattle.sums.specs.Held.{Held}
use Rattle.sums.proofs.Multiplying.{weight-take}
use Rattle.sums.proofs.Holding.{terms-many, terms-next}

-- ---- The loop.

pub record Sizing (ws : List ℕ) (cs : List ℤ) (d w k : ℕ) : Type 0 where
  pub held : Held ws cs
  pub light : weight (terms ws cs) < 2 ^ 64
  pub degree_is : d ≡ degree_of (take k (terms ws cs))
  pub weight_is : w ≡ weight (take k (terms ws cs))
  pub inside : k ≤ length ws

pub start : {ws : List ℕ} {cs : List ℤ} → Held ws cs → weight (terms ws cs) < 2 ^ 64 → Sizing ws cs 0 0 0
unfolding degree_of weight
start held light = record { held = held; light = light; degree_is = refl; weight_is = refl; inside = omega arith }

module _ {ws : List ℕ} {cs : List ℤ} {d w k : ℕ} (z : Sizing ws cs d w k) where
  module _ (h : k < length ws) where
    abbrev t : Term
    t = term (get_or cs k (pos 0)) (exponents (get_or ws k 0))

    weighs : w + nat_abs (get_or cs k (pos 0)) ≡ weight (take (k + 1) (terms ws cs))
    weighs = sym (ap weight (terms-next z.held k h) ∙ weight-next (take k (terms ws cs)) t ∙ ap (λ (i : ℕ). i + nat_abs t.coefficient) (sym z.weight_is))

    pub fits : w + nat_abs (get_or cs k (pos 0)) < 2 ^ 64
    fits = omega (arith, weighs, weight-take (k + 1) (terms ws cs), z.light)

    pub again : {d' w' : ℕ} → d' ≡ max d (degree (exponents (get_or ws k 0))) → w' ≡ w + nat_abs (get_or cs k (pos 0)) → Sizing ws cs d' w' (k + 1)
    again degree_is weight_is = record {
      held = z.held;
      light = z.light;
      degree_is = degree_is ∙ ap (λ (i : ℕ). max i (degree t.pattern)) z.degree_is ∙ sym (ap degree_of (terms-next z.held k h) ∙ degree-next (take k (terms ws cs)) t);
      weight_is = weight_is ∙ weighs;
      inside = omega arith;
    }

  pub ended : length ws ≤ k → (d ≡ degree_of (terms ws cs)) × (w ≡ weight (terms ws cs))
  ended h =
      let all = take_all k (terms ws cs) (omega (arith, terms-many z.held)) in
      (z.degree_is ∙ ap degree_of all, z.weight_is ∙ ap weight all)
