-- `write_whole` meets its contract: std's bytes of a number are those of the definition.
use mathlib.Core.Path.{◌∙◌, ap}
use native.Mathlib.Omega.{arith}
use mir.Syntax.{w64}
use mir.ValLaws.{to_z-of_z}
use Rattle.numbers.specs.Bytes.{whole_bytes, signed_bytes}
use Rattle.numbers.proofs.Writing.{part-sets}
use Rattle.numbers.proofs.Complement.{bytes-length, whole-bytes}
use Rattle.numbers.proofs.bytes.write_whole.Goals as goal

pub returns : goal.returns
returns c =
    let bytes = c.to_le_bytes.ensures ∙ whole-bytes _ ∙ ap (signed_bytes whole_bytes) (to_z-of_z w64 c.args.n c.ranges.n) in
    let long = bytes-length whole_bytes c.args.n in
    part-sets _ _ _ _ _ (c.copy_from_slice.ensures.after ∙ bytes) (omega (arith, long)) (omega (arith, long, c.requires))
