-- `value` meets its contract: what was read are the digits of the number so far.
use Rattle.std.proofs.Common.{◌≡◌, take, ◌<◌, ◌^◌}
use Rattle.replay.specs.Hex.{hex_digits}
use Rattle.replay.proofs.fields.value.Given as goal

abbrev pub invariant-loop-b : goal.invariant-loop-b
invariant-loop-b g l = (take l.b-index l.text ≡ hex_digits l.b-index l.word) × (l.word < 16 ^ l.b-index)
