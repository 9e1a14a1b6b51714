use mathlib.Core.Path.{refl, sym, ◌∙◌, ap}
use native.Mathlib.Omega.{arith}
use borrow.Author.Rules.{rules}
use lib.IntN.{pos}
use lib.ListN.{length, replicate}
use lib.Seq.{take_all}
use Rattle.answers.specs.Areas.{written}
use Rattle.algebra.specs.Limits.{most_terms}
use Rattle.sums.proofs.Holding.{as_many}
use Rattle.sums.proofs.Fronts.{front-copied, front-held}
use Rattle.sums.proofs.Raising.{start, product-low, product-light, stops, again, ended}
use Rattle.sums.proofs.repeated.Goals as goal

pub loop-init : goal.loop-init
loop-init c =
    let base = c.requires.base.held in
    let words = c.copy_words.ensures ∙ ap (λ l. written l (replicate most_terms 0)) (take_all (length c.args.s.patterns.now) c.args.s.patterns.now (omega arith)) in
    let coefficients = c.copy_coefficients.ensures ∙ ap (λ l. written l (replicate most_terms (pos 0))) (take_all (length c.args.s.patterns.now) c.args.s.coefficients.now (omega (arith, as_many base))) in
    let copied = front-copied base (replicate most_terms 0) (replicate most_terms (pos 0)) words coefficients refl refl in
    (record { running_words = refl; running_coefficients = refl; first_ranks = refl; second_ranks = refl }, start _ _ base c.requires.base.low c.requires.base.light c.requires.e_nonzero copied refl refl)

pub multiply_in-requires-clause-factors : goal.multiply_in-requires-clause-factors
multiply_in-requires-clause-factors c = rw (c.first.ensures.patterns, c.first.ensures.coefficients)
    record { first = c.loop.invariant.1.base; second = front-held c.loop.invariant.1.so_far; low = product-low c.loop.invariant.1 c.loop-test.true; light = product-light c.loop.invariant.1 c.loop-test.true }

pub returns-in_err-n : goal.returns-in_err-n
returns-in_err-n c = rw c.from_residual.ensures
    (stops c.loop.invariant.1 c.loop-test.true c.multiply_in.result (rw (c.first.ensures.patterns, c.first.ensures.coefficients) at c.multiply_in.ensures) c.in_err-n.was _ _)

pub loop-preserved : goal.loop-preserved
loop-preserved c = (
  record {
    running_words = c.loop.invariant.0.running_words ∙ sym c.multiply_in.auto.gr;
    running_coefficients = c.loop.invariant.0.running_coefficients ∙ sym c.multiply_in.auto.gc;
    first_ranks = c.loop.invariant.0.first_ranks ∙ sym c.multiply_in.auto.sr;
    second_ranks = c.loop.invariant.0.second_ranks ∙ sym c.multiply_in.auto.tr;
  },
  again c.loop.invariant.1 c.loop-test.true c.multiply_in.result (rw (c.first.ensures.patterns, c.first.ensures.coefficients) at c.multiply_in.ensures) c.in_ok-n.was c.multiply_in.auto.patterns c.multiply_in.auto.coefficients,
)

pub returns : goal.returns
returns c = ended c.loop.invariant.1 c.loop-test.false _ _ (search rules) (search rules)
