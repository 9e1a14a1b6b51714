use mathlib.Core.Path.{◌≡◌, ◌∙◌, ap₂}
use Prim.Native.Nat.{◌+◌}
use native.Mathlib.Omega.{arith}
use lib.IntN.{pos}
use lib.ListN.{get_or, take, set, length-set}
use mir.Syntax.{w64}
use mir.Val.{of_z, to_z}
use mir.ValLaws.{to_z-of_z}
use Rattle.answers.specs.Areas.{written}
use Rattle.sums.specs.Binomial.{stepped}
use Rattle.sums.proofs.OneTerm.{word_small}
use Rattle.sums.proofs.RaisingTwo.{few, begun, start, step_room, step-light, again, answered}
use Rattle.sums.proofs.binomial.raise.Goals as goal
use Rattle.sums.proofs.binomial.raise.Goals.{After-y-1}

-- the two numbers that were read, as the machine holds them
first : (d : After-y-1) → to_z w64 (of_z w64 (get_or d.args.s.coefficients.now 0 (pos 0))) ≡ get_or d.args.s.coefficients.now 0 (pos 0)
first d = to_z-of_z w64 (get_or d.args.s.coefficients.now 0 (pos 0)) (record { sfits = d.x-1.given })

second : (d : After-y-1) → to_z w64 (of_z w64 (get_or d.args.s.coefficients.now 1 (pos 0))) ≡ get_or d.args.s.coefficients.now 1 (pos 0)
second d = to_z-of_z w64 (get_or d.args.s.coefficients.now 1 (pos 0)) (record { sfits = d.y-1.given })

pub loop-k-init : goal.loop-k-init
loop-k-init c = let same = begun c.requires.base c.requires.two c.args.coefficients.now c.requires.room.coefficients (first c) (second c) in
    record {
      base = c.requires.base;
      two = c.requires.two;
      raised = start c.requires.base c.requires.two c.args.coefficients.now c.requires.le_e (omega (arith, c.requires.room.coefficients, length-set (set c.args.coefficients.now 0 (to_z w64 (of_z w64 (get_or c.args.s.coefficients.now 0 (pos 0))))) 1 (to_z w64 (of_z w64 (get_or c.args.s.coefficients.now 1 (pos 0)))), length-set c.args.coefficients.now 0 (to_z w64 (of_z w64 (get_or c.args.s.coefficients.now 0 (pos 0)))))) same;
    }

pub step-requires-clause-n_in_bounds : goal.step-requires-clause-n_in_bounds
step-requires-clause-n_in_bounds c = step_room c.loop-k.invariant.base c.loop-k.invariant.two c.loop-k.invariant.raised c.loop-k-test.true

pub step-requires-clause-y_bound : goal.step-requires-clause-y_bound
step-requires-clause-y_bound c = rw (first (goal.at.step-requires-clause-y_bound c).After-y-1, second (goal.at.step-requires-clause-y_bound c).After-y-1) (step-light c.loop-k.invariant.base c.loop-k.invariant.two c.loop-k.invariant.raised c.loop-k-test.true)

pub loop-k-preserved : goal.loop-k-preserved
loop-k-preserved c = record {
  base = c.loop-k.invariant.base;
  two = c.loop-k.invariant.two;
  raised = again c.loop-k.invariant.base c.loop-k.invariant.two c.loop-k.invariant.raised c.loop-k-test.true
      (c.step.ensures ∙ ap₂ (λ x y. written (stepped x y (pos 0) (take (c.loop-k.k + 1) c.loop-k.coefficients)) c.loop-k.coefficients) (first (goal.at.loop-k-preserved c).After-y-1) (second (goal.at.loop-k-preserved c).After-y-1))
      c.step.auto.coefficients;
}

pub words-requires-clause-e_in_bounds : goal.words-requires-clause-e_in_bounds
words-requires-clause-e_in_bounds c = omega (arith, few c.requires.base c.requires.two, c.requires.room.words)

pub words-requires-clause-p_bound : goal.words-requires-clause-p_bound
words-requires-clause-p_bound c = word_small c.requires.base 0 (omega (arith, c.requires.two))

pub words-requires-clause-q_bound : goal.words-requires-clause-q_bound
words-requires-clause-q_bound c = word_small c.requires.base 1 (omega (arith, c.requires.two))

pub returns : goal.returns
returns c = answered c.loop-k.invariant.base c.loop-k.invariant.two c.loop-k.invariant.raised c.loop-k-test.false _ _ c.words.ensures
    (begun c.requires.base c.requires.two c.args.coefficients.now c.requires.room.coefficients (first (goal.at.returns c).After-y-1) (second (goal.at.returns c).After-y-1))
