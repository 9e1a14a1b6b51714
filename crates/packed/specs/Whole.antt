-- What an operation makes of the packed sum that it is given: a cut record and a damaged one are refused alike, at their place.
use Rattle.std.specs.Prelude.{ℕ}
use Rattle.answers.specs.Judge.{Judged}
use Rattle.numbers.specs.Item.{Item, judged_by, Fault, Fault.cut, Fault.bad}

-- which refusal a fault is: with the operation's own number, whatever the fault
abbrev pub fault_refusal : ℕ → Fault → ℕ
fault_refusal refusal cut = refusal
fault_refusal refusal bad = refusal

-- the checks go on with what was read
abbrev pub judged : {A : Type 0} → ℕ → Item Fault A → Judged A
judged refusal r = judged_by (fault_refusal refusal) r
