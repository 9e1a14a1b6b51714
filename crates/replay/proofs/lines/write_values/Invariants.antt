-- `write_values` meets its contract: the values that were passed stand there in their digits.
use Rattle.std.proofs.Common.{◌≡◌, ◌+◌, ◌*◌, take}
use Rattle.std.proofs.lemmas.List.Edits.{sets}
use Rattle.replay.specs.Hex.{in_hex}
use Rattle.replay.proofs.lines.write_values.Given as goal

abbrev pub invariant-loop-v : goal.invariant-loop-v
invariant-loop-v g l =
    let p = g.T.Place in
    (l.place ≡ l.at + p.DIGITS * l.v-index) × (l.out ≡ sets l.initial.out l.at (in_hex p.DIGITS p.bits (take l.v-index l.values)))
