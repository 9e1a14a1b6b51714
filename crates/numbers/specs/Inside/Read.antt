-- What the readers' answer says.
use Rattle.std.specs.Prelude.{ℕ, Result, Ok, Err}
use Rattle.numbers.specs.declared.Fault as declared
use Rattle.numbers.specs.declared.Fault.TheVariants.{Cut, Bad}
use Rattle.numbers.specs.Item.{Item, Item.got, Item.stopped, Fault, Fault.cut, Fault.bad}

-- what was read, and the place after it; or a fault
abbrev pub Reading : Type 0
Reading = Result (ℕ × ℕ) declared.Fault

abbrev pub item_of : Reading → Item Fault ℕ
item_of (Ok (v, next)) = got v next
item_of (Err (Cut place)) = stopped cut place
item_of (Err (Bad place)) = stopped bad place

-- the same where the place after what was read is told beside it
abbrev pub read_from : Result ℕ declared.Fault → ℕ → Item Fault ℕ
read_from (Ok v) next = got v next
read_from (Err f) next = item_of (Err f)
