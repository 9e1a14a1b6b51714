-- What a reader of bytes answers, and how one item is read after another. Places count from the first byte of the input. Formats differ in what can be
-- at fault in them, and in nothing else that is said here: F is what can be.
use Rattle.std.specs.Prelude.{Bool, true, false, List, ℕ, leb, length}
use Rattle.answers.specs.Judge.{Judged, Judged.good, Judged.fails}

-- the answer about one item, which is 01's word for what is read
pub data Item (F A : Type 0) : Type 0 where
  -- what was read, and the place after it
  got : A → ℕ → Item F A
  -- what is at fault, and where
  stopped : F → ℕ → Item F A

-- the first fault met ends the reading
unfoldable pub and_then : {F A B : Type 0} → Item F A → (A → ℕ → Item F B) → Item F B
and_then (got a next) f = f a next
and_then (stopped what place) f = stopped what place

-- the reading goes on if the test holds
unfoldable pub provided : {F A : Type 0} → Bool → F → ℕ → Item F A → Item F A
provided true what place r = r
provided false what place r = stopped what place

-- f of what was read
unfoldable pub mapped : {F A B : Type 0} → (A → B) → Item F A → Item F B
mapped f (got a next) = got (f a) next
mapped f (stopped what place) = stopped what place

-- an item of another format, in which what can be at fault has other names
unfoldable pub renamed : {F G A : Type 0} → (F → G) → Item F A → Item G A
renamed g (got a next) = got a next
renamed g (stopped what place) = stopped (g what) place

-- all bytes of s: bytes left over are at fault, at the first of them
abbrev pub to_the_end : {F A : Type 0} → F → List ℕ → Item F A → Item F A
to_the_end what s r = and_then r (λ a end. provided (leb (length s) end) what end (got a end))

-- the checks of an operation go on with what was read; `refusal_of` says which refusal a fault is
abbrev pub judged_by : {F A : Type 0} → (F → ℕ) → Item F A → Judged A
judged_by refusal_of (got a next) = good a
judged_by refusal_of (stopped what place) = fails (refusal_of what) place

-- ---- What can be at fault in a number, and in the bytes of a sum.

pub data Fault : Type 0 where
  -- the bytes end inside or before an item: at the input's length
  cut : Fault
  -- an item is at fault
  bad : Fault
