-- A substitution list: a count, then for each pair a variable's number and a packed sum. It is read item by item, and the first fault met ends the reading.
-- Places count from the list's start.
use Rattle.std.specs.Prelude.{List, [], ◌∷◌, ◌++◌, ℕ, zero, suc, ltb, leb, length}
use Rattle.algebra.specs.Sum.{Sum}
use Rattle.answers.specs.Refusals.{LIST, VARIABLE}
use Rattle.answers.specs.Judge.{Judged}
use Rattle.numbers.specs.Item.{Item, Item.got, and_then, provided, mapped, renamed, to_the_end, judged_by, Fault, Fault.cut, Fault.bad}
use Rattle.numbers.specs.Number.{number_bytes, read_number}
use Rattle.packed.specs.Packed.{packed}
use Rattle.packed.specs.ReadSum.{read_sum}

-- the sum is put for the variable
pub record Pair : Type 0 where
  pub variable : ℕ
  pub sum : Sum

abbrev pub pair : ℕ → Sum → Pair
pair v S = record { variable = v; sum = S }

-- ---- How a list is written.

unfoldable pub pairs_bytes : List Pair → List ℕ
pairs_bytes [] = []
pairs_bytes (p ∷ ps) = number_bytes p.variable ++ (packed p.sum ++ pairs_bytes ps)

unfoldable pub list_bytes : List Pair → List ℕ
list_bytes ps = number_bytes (length ps) ++ pairs_bytes ps

-- ---- How it is read.

-- what can be at fault: an item, as it was read or for what it says, or bytes that are left over; or a number that is no variable's
pub data ListFault : Type 0 where
  item : Fault → ListFault
  unknown : ListFault

-- so many pairs, in n variables. A variable's number is judged before the sum is looked at
unfoldable pub read_pairs : ℕ → ℕ → List ℕ → ℕ → Item ListFault (List Pair)
read_pairs n zero s at = got [] at
read_pairs n (suc left) s at =
    and_then (renamed item (read_number s at)) (λ v next.
    provided (ltb v n) unknown at
    (and_then (renamed item (read_sum n s next)) (λ S end.
    mapped (λ rest. pair v S ∷ rest) (read_pairs n left s end))))

-- at most as many pairs as there are variables: a count above that is at fault at place 0
unfoldable pub read_list : ℕ → List ℕ → Item ListFault (List Pair)
read_list n s =
    and_then (renamed item (read_number s 0)) (λ count next.
    provided (leb count n) (item bad) 0
    (to_the_end (item bad) s (read_pairs n count s next)))

-- ---- How a fault is refused.

-- a list that ends too soon and a damaged one are refused alike
abbrev pub refusal_of : ListFault → ℕ
refusal_of (item cut) = LIST
refusal_of (item bad) = LIST
refusal_of unknown = VARIABLE

abbrev pub list_judged : {A : Type 0} → Item ListFault A → Judged A
list_judged r = judged_by refusal_of r
