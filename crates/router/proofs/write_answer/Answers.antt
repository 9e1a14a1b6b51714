-- `write_answer` meets its contract: the margin is no larger than 2^62, so it is a number of 64 bits with a sign too.
use native.Mathlib.Omega.{arith}
use borrow.Author.Rules.{rules}
use mir.Syntax.{w64}
use mir.ValLaws.{to_z-of_z, to_z_pos}
use Rattle.router.proofs.Answering.{answer-written}
use Rattle.router.proofs.write_answer.Goals as goal

pub returns : goal.returns
returns c = answer-written c.args.answer.now c.requires.answer_bytes_in_bounds (to_z-of_z w64 c.args.found.value (search rules)) (to_z_pos w64 c.args.found.margin (omega (arith, c.requires.margin_le_largest_weight)))
    c.write_whole.ensures c.write_whole-2.ensures
