-- `take_whole` meets its contract: the terms were taken, and the bytes must end with them.
use native.Mathlib.Omega.{arith}
use borrow.Author.Rules.{rules}
use Rattle.std.proofs.lemmas.Result.{err_from_is_err_and}
use Rattle.answers.proofs.Refusing.{was-ok, was-err}
use Rattle.answers.proofs.Writes.{part-cleared}
use Rattle.packed.proofs.Taking.{each-after, taken-stopped, taken-read, taken-cleared}
use Rattle.packed.proofs.Unpacking.{whole-good, whole-stops, rest-stops, left_over, whole-read}
use Rattle.packed.proofs.take_whole.Goals as goal

pub returns-then-end-bytes : goal.returns-then-end-bytes
returns-then-end-bytes c = whole-good c.in-Some.ensures (omega (arith, c.if-end-bytes.true))

pub returns-in_err-end : goal.returns-in_err-end
returns-in_err-end c =
    let p = err_from_is_err_and c.from_residual.result c.from_residual.ensures.1 in
    let was = was-err _ c.take_each.result c.map_err.result c.map_err.ensures.cases c.in_err-end.was in
    let e = each-after c.take_good.ensures was.1 c.take_each.ensures in
    let stop = taken-stopped _ _ c.args.patterns.now c.args.coefficients.now was.0 e in
    rw (p.1, p.2) (whole-stops _ _ _ (rest-stops _ _ _ stop) was.2 (taken-cleared _ _ _ stop e))

pub returns-then-end-bytes-2 : goal.returns-then-end-bytes-2
returns-then-end-bytes-2 c =
    let was = was-ok _ c.take_each.result c.map_err.result c.map_err.ensures.cases c.in_ok-end.was in
    let e = each-after c.take_good.ensures was c.take_each.ensures in
    rw c.at.ensures
    (left_over _ _ _ (taken-read _ _ c.args.patterns.now c.args.coefficients.now e) c.if-end-bytes-2.true
    (part-cleared _ _ _ (search rules) (c.fill.ensures.after (λ y e. e)))
    (part-cleared _ _ _ (search rules) (c.fill-then-end-bytes-2.ensures.after (λ y e. e))))

pub returns : goal.returns
returns c =
    let was = was-ok _ c.take_each.result c.map_err.result c.map_err.ensures.cases c.in_ok-end.was in
    let e = each-after c.take_good.ensures was c.take_each.ensures in
    whole-read _ _ _ (taken-read _ _ c.args.patterns.now c.args.coefficients.now e) c.if-end-bytes-2.false
