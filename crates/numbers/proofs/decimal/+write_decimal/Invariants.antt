-- `write_decimal` ends: the number falls.
use Rattle.numbers.proofs.decimal.+write_decimal.Given as goal

abbrev pub decreases-write_decimal : goal.decreases-write_decimal
decreases-write_decimal l = l.n
