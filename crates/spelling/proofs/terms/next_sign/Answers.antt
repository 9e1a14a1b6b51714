-- `next_sign` meets its contract.
use Rattle.spelling.proofs.Signs.{sign-up, sign-down}
use Rattle.spelling.proofs.terms.next_sign.Goals as goal

pub returns-then-coefficient-ge0 : goal.returns-then-coefficient-ge0
returns-then-coefficient-ge0 c = sign-up _ c.ranges.coefficient c.if-coefficient-ge0.true

pub returns-else-coefficient-ge0 : goal.returns-else-coefficient-ge0
returns-else-coefficient-ge0 c = sign-down _ c.ranges.coefficient c.if-coefficient-ge0.false
