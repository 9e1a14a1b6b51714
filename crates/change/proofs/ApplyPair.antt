-- One pair, as the code applies it: its first check that fails is told, or what it makes of the sum stands in the first places of the two areas.
use mathlib.Core.Path.{◌≡◌, refl, ◌∙◌, ap}
use mathlib.Core.List.{List}
use Prim.Native.Nat.{ℕ, ◌≤◌}
use lib.IntN.{ℤ}
use Rattle.algebra.specs.Limits.{variables, largest_degree, largest_weight}
use Rattle.algebra.specs.Sum.{Sum}
use Rattle.algebra.specs.Substitute.{substitute, pair_degree, pair_weight, pair_spread}
use Rattle.answers.specs.Refusals.{SPREAD}
use Rattle.answers.specs.Answers.{Told.done, Told.refused, told, outcome}
use Rattle.packed.specs.Result.{held_into}
use Rattle.sums.specs.Formed.{formed_of, formed_into}
use Rattle.std.specs.Prelude.{Option, Some, None}
use Rattle.std.specs.Option.{ok_or}
use Rattle.answers.specs.declared.Refusal.TheVariants.{Spread}
use Rattle.sums.proofs.Forming.{within-no}
use Rattle.sums.proofs.Answering.{given, refused as refused-formed}
use Rattle.pair.specs.Formed.{pair_of}
use Rattle.change.specs.Pairs.{pair}
use Rattle.change.specs.Substitute.{judge_pair}
use Rattle.change.specs.Checks.{Fails, Fails.spread}
use Rattle.change.proofs.Passing.{passes-judge, fails-judge}

module _ (j v : ℕ) (S s : Sum) (ws : List ℕ) (cs : List ℤ) where
  -- a check fails
  pub refuses : {refusal : ℕ} → Fails (pair v S) s refusal → outcome (refused refusal j) (ws, cs) ≡ held_into (judge_pair j (pair v S) s) ws cs
  unfolding held_into
  refuses f = rw (fails-judge j (pair v S) s f)

  -- degree and weight are allowed; what `put` answers, and the areas then
  module _ (low : pair_degree v S s ≤ largest_degree) (light : pair_weight v S s ≤ largest_weight) {ws' : List ℕ} {cs' : List ℤ} where
    over : (formed_of None, ws', cs') ≡ formed_into (pair_of v S s) ws cs → outcome (refused SPREAD j) (ws', cs') ≡ held_into (judge_pair j (pair v S) s) ws cs
    unfolding pair_of formed_into
    over formed =
        let wide = refused-formed (pair_spread variables v S s) (substitute variables v S s) ws cs ws' cs' None refl formed in
        let stay = formed ∙ ap (λ x. formed_into x ws cs) (within-no (pair_spread variables v S s) (substitute variables v S s) wide) in
        rw (ap (λ x. x.1) stay, ap (λ x. x.2) stay) (refuses (spread low light wide))

    applied : {n : ℕ} → (formed_of (Some n), ws', cs') ≡ formed_into (pair_of v S s) ws cs → outcome (done n) (ws', cs') ≡ held_into (judge_pair j (pair v S) s) ws cs
    unfolding pair_of held_into
    applied {n} formed =
        let g = given (pair_spread variables v S s) (substitute variables v S s) ws cs ws' cs' (Some n) refl formed in
        rw (passes-judge j (pair v S) s (record { degree = low; weight = light; spread = g.few }), g.many, g.words_are, g.coefficients_are)

    -- the code answers so
    pub answered : (r : Option ℕ) → (formed_of r, ws', cs') ≡ formed_into (pair_of v S s) ws cs
        → outcome (told (ok_or r (record { refusal = Spread; place = j }))) (ws', cs') ≡ held_into (judge_pair j (pair v S) s) ws cs
    answered (Some n) formed = applied formed
    answered None formed = over formed
