use mathlib.Core.Path.{refl}
use Rattle.sums.proofs.Wording.{start, next_small, again, ended}
use Rattle.sums.proofs.binomial.words.Goals as goal

pub loop-k-init : goal.loop-k-init
loop-k-init c = start _ _ _ _ c.requires.e_in_bounds c.requires.p_bound c.requires.q_bound _ refl

pub overflow_add-word : goal.overflow_add-word
overflow_add-word c = record { fits = next_small c.loop-k.invariant c.loop-k-test.true }

pub loop-k-preserved : goal.loop-k-preserved
loop-k-preserved c = again c.loop-k.invariant c.loop-k-test.true

pub returns : goal.returns
returns c = ended c.loop-k.invariant c.loop-k-test.false
