-- `read_list` meets its contract: the count is judged, then its pairs are read, and nothing may be left over.
use mathlib.Core.Path.{◌≡◌, refl, sym}
use Rattle.std.proofs.lemmas.Result.{err_from_is_err_and}
use lib.ListN.{length}
use Rattle.algebra.specs.Limits.{variables}
use Rattle.numbers.specs.Item.{Item.got}
use Rattle.numbers.specs.Number.{read_number}
use Rattle.numbers.proofs.Items.{number-fault}
use Rattle.change.specs.Pairs.{read_pairs}
use Rattle.numbers.proofs.Items.{From}
use Rattle.change.proofs.TakePairs.{leaves-fault, leaves_all}
use Rattle.change.proofs.TakeList.{pairs-stopped, pairs-read, count-stops, many-stop, pairs-stop, left_over, all_read}
use Rattle.change.proofs.lists.read_list.Goals as goal
use Rattle.change.proofs.lists.read_list.Goals.{In_ok-count, In_ok-pairs}

-- the count that was read
count_is : (d : In_ok-count) → read_number d.args.list.now 0 ≡ got d.in_ok-count.count d.in_ok-count.next
count_is d = sym d.in_ok-count.ensures

-- the pairs that were read
pairs_are : (d : In_ok-pairs) → From length (read_pairs variables d.in_ok-count.count d.args.list.now d.in_ok-count.next) d.in_ok-pairs.pairs d.in_ok-pairs.end
pairs_are d = pairs-read _ d.in_ok-pairs.ensures.says

pub returns-in_err-count : goal.returns-in_err-count
returns-in_err-count c =
    let p = err_from_is_err_and c.from_residual.result c.from_residual.ensures.1 in
    rw (p.1, p.2) (leaves-fault _ _ _ _ _ refl (count-stops _ _ (number-fault _ _ c.in_err-count.ensures)) refl refl)

pub returns-then-count-gt-VARIABLES : goal.returns-then-count-gt-VARIABLES
returns-then-count-gt-VARIABLES c = leaves-fault _ _ _ _ _ refl (many-stop _ (count_is (goal.at.returns-then-count-gt-VARIABLES c).In_ok-count) c.if-count-gt-VARIABLES.true) refl refl

pub returns-in_err-pairs : goal.returns-in_err-pairs
returns-in_err-pairs c =
    let p = err_from_is_err_and c.from_residual-in_err-pairs.result c.from_residual-in_err-pairs.ensures.1 in
    let read = c.in_err-pairs.ensures in
    rw (p.1, p.2)
    (leaves-fault _ _ _ _ _ refl (pairs-stop _ (count_is (goal.at.returns-in_err-pairs c).In_ok-count) c.if-count-gt-VARIABLES.false (pairs-stopped _ _ read.says)) read.words_stay read.coefficients_stay)

pub returns-then-end-list : goal.returns-then-end-list
returns-then-end-list c =
    let read = c.in_ok-pairs.ensures in
    leaves-fault _ _ _ _ _ refl (left_over _ (count_is (goal.at.returns-then-end-list c).In_ok-count) c.if-count-gt-VARIABLES.false (pairs_are (goal.at.returns-then-end-list c).In_ok-pairs) c.if-end-list.true) read.words_stay read.coefficients_stay

pub returns : goal.returns
returns c =
    let from = pairs_are (goal.at.returns c).In_ok-pairs in
    let read = c.in_ok-pairs.ensures in
    leaves_all _ _ _ _ _ (all_read _ (count_is (goal.at.returns c).In_ok-count) c.if-count-gt-VARIABLES.false from c.if-end-list.false) from read.keeps read.words_stay read.coefficients_stay
