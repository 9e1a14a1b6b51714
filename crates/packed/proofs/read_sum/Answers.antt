-- `read_sum` meets its contract: after its count a sum is its terms; the arrays hold them, and they are copied.
use mathlib.Core.Path.{sym}
use borrow.Author.Rules.{rules}
use lib.IntN.{pos}
use lib.ListN.{replicate}
use Rattle.algebra.specs.Limits.{most_terms}
use Rattle.std.proofs.lemmas.Result.{err_from_is_err_and}
use Rattle.answers.proofs.Writes.{part-written}
use Rattle.numbers.proofs.Items.{number-fault}
use Rattle.packed.proofs.Taking.{taken-stopped, taken-read}
use Rattle.packed.proofs.Unpacking.{into-stops, count-faulty, terms-faulty, into-areas}
use Rattle.packed.proofs.read_sum.Goals as goal

pub returns-in_err-count : goal.returns-in_err-count
returns-in_err-count c =
    let p = err_from_is_err_and c.from_residual.result c.from_residual.ensures.1 in
    rw (p.1, p.2) (into-stops _ _ (count-faulty _ _ (number-fault _ _ c.in_err-count.ensures.value)))

pub returns-in_err-item : goal.returns-in_err-item
returns-in_err-item c =
    let p = err_from_is_err_and c.from_residual-in_err-item.result c.from_residual-in_err-item.ensures.1 in
    let stop = taken-stopped _ _ (replicate most_terms 0) (replicate most_terms (pos 0)) _ c.in_err-item.ensures in
    rw (p.1, p.2) (into-stops _ _ (terms-faulty _ _ (sym c.in_ok-count.ensures.value) stop))

pub returns : goal.returns
returns c =
    let read = taken-read _ _ (replicate most_terms 0) (replicate most_terms (pos 0)) c.in_ok-item.ensures in
    into-areas _ _ (sym c.in_ok-count.ensures.value) read _ _
    (part-written _ _ _ c.copy_from_slice.ensures.after (search rules))
    (part-written _ _ _ c.copy_from_slice-2.ensures.after (search rules))
