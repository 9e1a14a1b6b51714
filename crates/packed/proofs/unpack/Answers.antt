-- `unpack` meets its contract: the tests come in 01's order, and few terms go through small arrays.
use mathlib.Core.Path.{◌≡◌, sym, ◌∙◌, ap}
use Rattle.std.proofs.lemmas.Result.{err_from_is_err_and}
use Rattle.answers.proofs.Refusing.{was-ok, was-err}
use Rattle.numbers.specs.Item.{Item.got}
use Rattle.numbers.specs.Inside.Read.{item_of}
use Rattle.numbers.proofs.Items.{number-fault}
use Rattle.packed.specs.Inside.Held.{read_count}
use Rattle.packed.proofs.Unpacking.{few_words, few_coefficients, unpack-stops, unpack-rest}
use Rattle.packed.proofs.unpack.Goals as goal
use Rattle.packed.proofs.unpack.Goals.{In_ok-number}

-- the count that was read
counted : (d : In_ok-number) → read_count d.args.bytes.now 0 ≡ got d.in_ok-number.number d.in_ok-number.next
counted d = sym d.read_count.ensures.value ∙ ap item_of (was-ok _ d.read_count.result d.map_err.result d.map_err.ensures.cases d.in_ok-number.was)

pub returns-then-patterns-lt-MOST_TERMS : goal.returns-then-patterns-lt-MOST_TERMS
returns-then-patterns-lt-MOST_TERMS c = rw c.at.ensures (few_words _ _ _ c.if-patterns-lt-MOST_TERMS.true)

pub returns-then-coefficients-lt-MOST_TERMS : goal.returns-then-coefficients-lt-MOST_TERMS
returns-then-coefficients-lt-MOST_TERMS c = rw c.at-then-coefficients-lt-MOST_TERMS.ensures (few_coefficients _ _ _ c.if-patterns-lt-MOST_TERMS.false c.if-coefficients-lt-MOST_TERMS.true)

pub returns-in_err-number : goal.returns-in_err-number
returns-in_err-number c =
    let p = err_from_is_err_and c.from_residual.result c.from_residual.ensures.1 in
    let was = was-err _ c.read_count.result c.map_err.result c.map_err.ensures.cases c.in_err-number.was in
    let stop = number-fault was.0 _ (sym (ap item_of was.1) ∙ c.read_count.ensures.value) in
    rw (p.1, p.2) (unpack-stops _ _ _ c.if-patterns-lt-MOST_TERMS.false c.if-coefficients-lt-MOST_TERMS.false stop was.2)

pub returns-then-n-le-FEW_TERMS : goal.returns-then-n-le-FEW_TERMS
returns-then-n-le-FEW_TERMS c = c.unpack_by.ensures ∙ unpack-rest _ _ _ c.if-patterns-lt-MOST_TERMS.false c.if-coefficients-lt-MOST_TERMS.false (counted (goal.at.returns-then-n-le-FEW_TERMS c).In_ok-number)

pub returns-else-n-le-FEW_TERMS : goal.returns-else-n-le-FEW_TERMS
returns-else-n-le-FEW_TERMS c = c.unpack_by-else-n-le-FEW_TERMS.ensures ∙ unpack-rest _ _ _ c.if-patterns-lt-MOST_TERMS.false c.if-coefficients-lt-MOST_TERMS.false (counted (goal.at.returns-else-n-le-FEW_TERMS c).In_ok-number)
