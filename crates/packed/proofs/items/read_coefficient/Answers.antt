-- `read_coefficient` meets its contract: the two tests say that the coefficient does not weigh, or that it does.
use mathlib.Core.Path.{sym, ◌∙◌}
use native.Mathlib.Omega.{arith}
use borrow.Author.Rules.{rules}
use Rattle.std.proofs.lemmas.Result.{err_from_is_err_and}
use Rattle.numbers.proofs.Items.{number-fault}
use Rattle.packed.proofs.ReadItems.{size_is, coefficient-stopped, coefficient-zero, coefficient-heavy, coefficient-taken}
use Rattle.packed.proofs.items.read_coefficient.Goals as goal

pub returns-in_err-c : goal.returns-in_err-c
returns-in_err-c c =
    let p = err_from_is_err_and c.from_residual.result c.from_residual.ensures.1 in
    rw (p.1, p.2) (coefficient-stopped _ _ _ (number-fault _ _ c.in_err-c.ensures.item))

pub returns-then-size-eq0 : goal.returns-then-size-eq0
returns-then-size-eq0 c = let size = size_is _ (search rules) c.decode.ensures c.absolute-size.ensures in
    coefficient-zero _ _ _ _ _ (sym c.in_ok-c.ensures.item) (sym size ∙ c.if-size-eq0.true)

pub returns-then-size-weight : goal.returns-then-size-weight
returns-then-size-weight c = let size = size_is _ (search rules) c.decode.ensures c.absolute-size.ensures in
    coefficient-heavy _ _ _ _ _ (sym c.in_ok-c.ensures.item) (omega (arith, size, c.if-size-weight.true))

pub returns : goal.returns
returns c = let size = size_is _ (search rules) c.decode.ensures c.absolute-size.ensures in
    coefficient-taken _ _ _ _ _ (sym c.in_ok-c.ensures.item) (λ e. c.if-size-eq0.false (size ∙ e)) (omega (arith, size, c.if-size-weight.false, c.requires))
