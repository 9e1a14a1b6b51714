-- `write_exponents` meets its contract: each exponent is the byte that stands for it in the word.
use mathlib.Core.Path.{◌≡◌, sym, ◌∙◌}
use Rattle.algebra.specs.Word.{exponents}
use Rattle.packed.specs.Packed.{exponent_bytes}
use Rattle.packed.proofs.WordAt.{word-bytes}
use Rattle.packed.proofs.Sizes.{exponent-bytes-are}
use Rattle.packed.proofs.writer.write_exponents.Goals as goal
use Rattle.packed.proofs.writer.write_exponents.Goals.{After-to_be_bytes}

-- the bytes that are written
bytes : (d : After-to_be_bytes) → d.to_be_bytes.result ≡ exponent_bytes (exponents d.args.pattern.0)
bytes d = d.to_be_bytes.ensures ∙ word-bytes d.args.pattern.0 ∙ sym (exponent-bytes-are (exponents d.args.pattern.0) d.requires.valid.low)

pub write_bytes-requires : goal.write_bytes-requires
write_bytes-requires c = rw (bytes (goal.at.write_bytes-requires c).After-to_be_bytes) c.requires.pattern_in_bounds

pub returns-clause-value : goal.returns-clause-value
returns-clause-value c = rw (bytes (goal.at.returns-clause-value c).After-to_be_bytes) at c.write_bytes.ensures.value

pub returns-clause-area_after : goal.returns-clause-area_after
returns-clause-area_after c = rw (bytes (goal.at.returns-clause-area_after c).After-to_be_bytes) at c.write_bytes.ensures.area_after
