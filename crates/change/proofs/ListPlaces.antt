-- Every place that the reader of a list answers is near the list's start: only so many pairs are read, and each takes only so many bytes.
use mathlib.Core.List.{List}
use Prim.Native.Nat.{ℕ, zero, suc, ◌+◌, ◌*◌, ◌≤◌, ◌<◌}
use native.Mathlib.Omega.{arith}
use native.Mathlib.Nat.{mul-suc, mul-le-mul_left}
use lib.Dec.{ltb, leb, leb→le}
use lib.ListN.{length, get_or}
use Rattle.algebra.specs.Limits.{variables}
use Rattle.numbers.specs.Item.{Item.got, renamed, Fault.bad}
use Rattle.numbers.proofs.Items.{place_of, end-place, place-then, place-provided, place-mapped, place-renamed, renamed-from}
use Rattle.numbers.specs.Number.{most_groups, read_number}
use Rattle.packed.specs.Packed.{most_bytes}
use Rattle.packed.specs.ReadSum.{read_sum}
use Rattle.packed.proofs.Places.{number-place, sum-place}
use Rattle.change.specs.Pairs.{ListFault.item, ListFault.unknown, read_pairs, read_list}

-- ---- The list.

-- the most bytes that are looked at for one pair: a number, a sum, and one number more that is found at fault
abbrev most_pair : ℕ → ℕ
most_pair n = most_groups + most_bytes n + most_groups

module _ (s : List ℕ) (byte : (i : ℕ) → get_or s i 0 < 256) where
  pairs-place : (n left at : ℕ) → place_of (read_pairs n left s at) ≤ at + most_pair n * left
  unfolding read_pairs
  pairs-place n zero at = omega arith
  pairs-place n (suc left) at =
      let most = at + most_pair n * suc left in
      let grow = mul-suc (most_pair n) left in
      place-then most (renamed item (read_number s at)) _ (omega (arith, place-renamed item (read_number s at), number-place s byte at)) (λ v next r.
      place-provided unknown most (ltb v n) at _ (omega arith) (λ known.
      let i : place_of (read_sum n s next) ≤ at + most_pair n = omega (arith, end-place (number-place s byte at) (renamed-from item _ r), sum-place s byte n next) in
      place-then most (renamed item (read_sum n s next)) _ (omega (arith, place-renamed item (read_sum n s next), i)) (λ S end q.
      let j : place_of (read_pairs n left s end) ≤ most = omega (arith, end-place i (renamed-from item _ q), pairs-place n left end) in
      place-mapped most _ (read_pairs n left s end) j)))

  pub list-place : (n : ℕ) → place_of (read_list n s) ≤ most_groups + most_pair n * n
  unfolding read_list
  list-place n =
      let most = most_groups + most_pair n * n in
      let first : place_of (read_number s 0) ≤ most_groups = omega (arith, number-place s byte 0) in
      place-then most (renamed item (read_number s 0)) _ (omega (arith, place-renamed item (read_number s 0), first)) (λ count next r.
      place-provided (item bad) most (leb count n) 0 _ (omega arith) (λ few.
      let few_bytes = mul-le-mul_left (most_pair n) (leb→le count n few) in
      let i : place_of (read_pairs n count s next) ≤ most = omega (arith, end-place first (renamed-from item _ r), few_bytes, pairs-place n count next) in
      place-then most (read_pairs n count s next) _ i (λ ps end q. place-provided (item bad) most (leb (length s) end) end (got ps end) (end-place i q) (λ _. end-place i q))))

  -- the place of every answer fits in two bytes, as that of a packed sum does
  pub list-small : place_of (read_list variables s) < 65536
  list-small = omega (arith, list-place variables)
