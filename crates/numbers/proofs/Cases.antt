-- Numbers and codes at the ends of their ranges: one table, which the checker computes.
use mathlib.Core.Path.{◌≡◌, refl}
use mathlib.Core.List.{List, [], ◌∷◌, ◌++◌}
use Prim.Native.Nat.{ℕ, ◌-◌, ◌^◌}
use lib.IntN.{ℤ, pos, negsuc}
use lib.ListN.{length, replicate}
use Rattle.answers.proofs.Tables.{◌also◌}
use Rattle.answers.specs.Promised.{Each}
use Rattle.numbers.specs.Item.{Item, Item.got, Item.stopped, and_then, provided, mapped, Fault, Fault.cut, Fault.bad}
use Rattle.numbers.specs.Number.{groups_of, number_bytes, read_byte, read_groups, read_number}
use Rattle.numbers.specs.Code.{code, decode}

-- ---- A case says how a number is written and read, what is read at a place of some bytes, or a number's code and its groups.

pub data Case : Type 0 where
  written : ℕ → List ℕ → Case
  reads : List ℕ → ℕ → Item Fault ℕ → Case
  codes : ℤ → ℕ → ℕ → Case

abbrev pub Says : Case → Type 0
Says (written n bytes) = (number_bytes n ≡ bytes) × (read_number bytes 0 ≡ got n (length bytes))
Says (reads bytes at r) = read_number bytes at ≡ r
Says (codes z c groups) = (code z ≡ c) × (decode c ≡ z) × (length (number_bytes c) ≡ groups)

-- ---- The table.

-- bytes that say that more follow
more : ℕ → List ℕ
more n = replicate n 255

pub table : List Case
unfolding more
table =
    written 0 (0 ∷ [])
    ∷ written 127 (127 ∷ [])
    ∷ written 128 (128 ∷ 1 ∷ [])
    ∷ written (2 ^ 64 - 1) (more 9 ++ 1 ∷ [])
    -- a tenth group of 2 or 0, and one that says that more follow
    ∷ reads (5 ∷ more 9 ++ 2 ∷ []) 1 (stopped bad 1)
    ∷ reads (5 ∷ more 9 ++ 0 ∷ []) 1 (stopped bad 1)
    ∷ reads (5 ∷ more 9 ++ 129 ∷ 0 ∷ []) 1 (stopped bad 1)
    -- a last group of 0 is not the shortest form
    ∷ reads (5 ∷ 128 ∷ 0 ∷ []) 1 (stopped bad 1)
    -- the bytes end inside a number, or before it
    ∷ reads (5 ∷ more 9) 1 (stopped cut 10)
    ∷ reads (5 ∷ []) 1 (stopped cut 1)
    -- 0, 1 and -1; 2^62 in ten groups, -2^62 in nine; the ends of the range
    ∷ codes (pos 0) 0 1
    ∷ codes (pos 1) 2 1
    ∷ codes (negsuc 0) 1 1
    ∷ codes (pos (2 ^ 62)) (2 ^ 63) 10
    ∷ codes (negsuc (2 ^ 62 - 1)) (2 ^ 63 - 1) 9
    ∷ codes (pos (2 ^ 63 - 1)) (2 ^ 64 - 2) 10
    ∷ codes (negsuc (2 ^ 63 - 1)) (2 ^ 64 - 1) 10
    ∷ []

pub cases-hold : Each Says table
unfolding table and_then provided mapped groups_of number_bytes read_byte read_groups read_number code decode
cases-hold =
    (refl, refl) also (refl, refl) also (refl, refl) also (refl, refl)
    also refl also refl also refl also refl also refl also refl
    also (refl, refl, refl) also (refl, refl, refl) also (refl, refl, refl) also (refl, refl, refl) also (refl, refl, refl) also (refl, refl, refl) also (refl, refl, refl)
    also tt
