-- Whole numbers up to 2^64 - 1 in groups of seven bits, low group first, in as few groups as will do. The high bit of a byte, 128, is set
-- while more groups follow. `more` is how many groups may follow this one.
use Rattle.std.specs.Prelude.{ℕ, zero, suc, ◌+◌, ◌-◌, ◌*◌, ◌/◌, ◌%◌, not, cond, ◌&&◌, List, [], ◌∷◌, eqb, ltb, length, get_or}
use Rattle.numbers.specs.Item.{Item, Item.got, Item.stopped, and_then, provided, mapped, Fault, Fault.cut, Fault.bad}

abbrev pub most_groups : ℕ
most_groups = 10

-- ---- Written.

unfoldable pub groups_of : ℕ → ℕ → List ℕ
groups_of zero n = n ∷ []
groups_of (suc more) n = cond (ltb n 128) (n ∷ []) ((128 + n % 128) ∷ groups_of more (n / 128))

unfoldable pub number_bytes : ℕ → List ℕ
number_bytes n = groups_of (most_groups - 1) n

-- ---- Read.

unfoldable pub read_byte : List ℕ → ℕ → Item Fault ℕ
read_byte s at = cond (ltb at (length s)) (got (get_or s at 0) (at + 1)) (stopped cut (length s))

-- the group at place `at` of a number that begins at place `first`, and the groups after it. Nine groups hold 63 bits, so a tenth is 1. A
-- last group of 0 that is not the first is not the shortest form.
unfoldable pub read_groups : ℕ → List ℕ → ℕ → ℕ → Item Fault ℕ
read_groups zero s first at = and_then (read_byte s at) (λ b next. provided (eqb b 1) bad first (got b next))
read_groups (suc more) s first at =
    and_then (read_byte s at) (λ b next.
    cond (ltb b 128)
    (provided (not (eqb b 0 && ltb first at)) bad first (got b next))
    (mapped (λ high. b - 128 + 128 * high) (read_groups more s first next)))

unfoldable pub read_number : List ℕ → ℕ → Item Fault ℕ
read_number s at = read_groups (most_groups - 1) s at at
