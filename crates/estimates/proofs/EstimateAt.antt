-- What `estimate_at` knows where it answers.
use mathlib.Core.Path.{◌≡◌, sym, ◌∙◌, ap, ap₂}
use mathlib.Core.List.{List}
use Prim.Native.Nat.{ℕ, ◌-◌, ◌≤◌, ◌<◌}
use native.Mathlib.Omega.{arith}
use lib.IntN.{ℤ}
use lib.ListN.{length}
use Rattle.algebra.specs.Limits.{largest_weight}
use Rattle.algebra.specs.Sum.{Sum}
use Rattle.algebra.specs.Margin.{size, unsigned, raised_by, margin}
use Rattle.algebra.proofs.Sums.Margins.{unsigned-length, margin-whole}
use Rattle.answers.specs.Refusals.{RANGE}
use Rattle.answers.specs.Judge.{Judged.good, Judged.fails}
use Rattle.weights.specs.Capped.{capped}
use Rattle.estimates.specs.Readings.{measured}
use Rattle.estimates.specs.Inside.Parts.{Keeps}
use Rattle.estimates.specs.Range.{judge_range}
use Rattle.estimates.specs.declared.valuing.Parts.{Parts}
use Rattle.estimates.proofs.JudgeTerms.{range-beyond, range-within}

module _ {s : Sum} {rs : List ℤ} (ts : List ℤ) {raised : List ℕ} {parts : Parts} (kept : Keeps parts s rs raised) (raised_is : raised ≡ raised_by rs (unsigned ts)) where
  abbrev whole : ℕ
  whole = size s (raised_by rs (unsigned ts))

  most_is : capped parts.most ≡ capped whole
  most_is = kept.most_is ∙ ap (λ y. capped (size s y)) raised_is

  pub beyond : largest_weight < parts.most → judge_range s (measured rs ts) ≡ fails RANGE 0
  beyond far = range-beyond s rs (unsigned ts) (omega (arith, most_is))

  module _ (long : length rs ≡ length ts) (near : parts.most ≤ largest_weight) where
    exact : parts.most ≡ whole
    exact = omega (arith, most_is)

    pub plain_within : parts.plain ≤ parts.most
    plain_within = omega (arith, exact, kept.plain_is near, margin-whole s rs (unsigned ts) (long ∙ sym (unsigned-length ts)))

    pub within : {z : ℤ} → z ≡ parts.estimate → judge_range s (measured rs ts) ≡ good (record { estimate = z; margin = parts.most - parts.plain })
    unfolding margin
    within z-is =
        range-within s rs (unsigned ts) (omega (arith, exact))
        ∙ ap₂ (λ (e : ℤ) (m : ℕ). good (record { estimate = e; margin = m })) (sym (z-is ∙ kept.estimate_is near)) (sym (ap₂ (λ (m n : ℕ). m - n) exact (kept.plain_is near)))
