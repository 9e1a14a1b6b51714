-- `read_number` meets its contract: the first digit alone is a number so far.
use Rattle.std.proofs.Common.{ap, ◌-◌, ◌∙◌}
use Rattle.text.specs.Signs.{zero_digit}
use Rattle.text.proofs.ReadNumber.{start}
use Rattle.text.proofs.bytes.read_number.Goals as goal

pub loop-value-init : goal.loop-value-init
loop-value-init c = start _ _ _ (c.from-value.ensures ∙ ap (λ b. b - zero_digit) c.peek.ensures) c.requires.at_value c.requires.le_top
