use mathlib.Core.Path.{◌≡◌, refl, sym}
use Rattle.std.proofs.lemmas.Result.{err_from_is_err_and}
use Rattle.numbers.specs.Item.{Item.got}
use Rattle.numbers.specs.Number.{read_number}
use Rattle.numbers.proofs.Items.{number-fault}
use Rattle.packed.proofs.Results.{into-stopped, into-read}
use Rattle.change.proofs.TakePairs.{start, stops-here, stops-lent, number-stops, variable-stops, sum-stops, again, ended}
use Rattle.change.proofs.lists.read_pairs.Goals as goal
use Rattle.change.proofs.lists.read_pairs.Goals.{In_ok-variable}

-- the number that was read
number_is : (d : In_ok-variable) → read_number d.args.list.now d.loop-j.place ≡ got d.in_ok-variable.variable d.in_ok-variable.next
number_is d = sym d.in_ok-variable.ensures

pub loop-j-init : goal.loop-j-init
loop-j-init c = start _ _ _ _ _ _ c.requires.few c.requires.entries_room c.requires.patterns_room c.requires.coefficients_room

pub returns-in_err-variable : goal.returns-in_err-variable
returns-in_err-variable c =
    let p = err_from_is_err_and c.from_residual.result c.from_residual.ensures.1 in
    rw (p.1, p.2) (stops-here c.loop-j.invariant refl (number-stops c.loop-j.invariant c.loop-j-test.true _ (number-fault _ _ c.in_err-variable.ensures)))

pub returns-then-variable-ge-VARIABLES : goal.returns-then-variable-ge-VARIABLES
returns-then-variable-ge-VARIABLES c = stops-here c.loop-j.invariant refl (variable-stops c.loop-j.invariant c.loop-j-test.true (number_is (goal.at.returns-then-variable-ge-VARIABLES c).In_ok-variable) c.if-variable-ge-VARIABLES.true)

pub returns-in_err-n : goal.returns-in_err-n
returns-in_err-n c =
    let p = err_from_is_err_and c.from_residual-in_err-n.result c.from_residual-in_err-n.ensures.1 in
    rw (p.1, p.2)
    (stops-lent c.loop-j.invariant c.loop-j-test.true c.read_sum.new.patterns c.read_sum.new.coefficients c.read_sum.auto.patterns c.read_sum.auto.coefficients refl
    (sum-stops c.loop-j.invariant c.loop-j-test.true (number_is (goal.at.returns-in_err-n c).In_ok-variable) c.if-variable-ge-VARIABLES.false _ (into-stopped _ _ _ _ c.in_err-n.ensures)))

pub loop-j-preserved : goal.loop-j-preserved
loop-j-preserved c =
    again c.loop-j.invariant c.loop-j-test.true (number_is (goal.at.loop-j-preserved c).In_ok-variable) c.if-variable-ge-VARIABLES.false (λ i. (c.type_inv.list i).fits) c.read_sum.auto.patterns c.read_sum.auto.coefficients
    (into-read _ _ _ c.in_ok-n.ensures)

pub returns : goal.returns
returns c = ended c.loop-j.invariant c.loop-j-test.false
