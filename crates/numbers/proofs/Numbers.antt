-- Whole numbers of 64 bits: what was written is read again, and what is read was written. Callers cite these.
use mathlib.Core.Path.{◌≡◌, ◌∙◌, ap}
use mathlib.Core.List.{List, [], ◌∷◌, ◌++◌, append_assoc}
use Prim.Native.Nat.{ℕ, ◌+◌, ◌-◌, ◌*◌, ◌/◌, ◌^◌, ◌≤◌, ◌<◌}
use native.Mathlib.Omega.{arith}
use native.Mathlib.Decide.{dec_lt}
use lib.ListN.{length, get_or, take, drop}
use lib.Seq.{drop_at, length-take-le, sets, sets-eq}
use Rattle.numbers.specs.Item.{Item.got, Item.stopped, mapped, Fault.cut, Fault.bad}
use Rattle.numbers.specs.Number.{most_groups, number_bytes, groups_of, read_number}
use Rattle.numbers.proofs.Groups.{groups-last, groups-next, groups-some, groups-length, groups-bytes, above, at_last, at_next, groups-cut, groups-bad, groups-inside, read-written, taken}

-- ---- The bytes of a number.

pub number-some : (n : ℕ) → 1 ≤ length (number_bytes n)
unfolding number_bytes
number-some n = groups-some 9 n

pub number-length : (n : ℕ) → length (number_bytes n) ≤ most_groups
unfolding number_bytes
number-length n = groups-length 9 n

pub number-bytes : (n : ℕ) → n < 2 ^ 64 → (i : ℕ) → get_or (number_bytes n) i 0 < 256
unfolding number_bytes
number-bytes n fits i = groups-bytes 9 n fits i

pub number-one : (n : ℕ) → n < 128 → number_bytes n ≡ n ∷ []
unfolding number_bytes
number-one n h = groups-last 9 n h

pub number-two : (n : ℕ) → n < 128 * 128 → length (number_bytes n) ≤ 2
unfolding number_bytes
number-two n h = go (dec_lt n 128)
  where
    go : Dec (n < 128) → length (groups_of 9 n) ≤ 2
    go (yes low) = rw (groups-last 9 n low) (omega arith)
    go (no high) = rw (groups-next 8 n (omega arith), groups-last 8 (n / 128) (omega arith)) (omega arith)

-- ---- What was written is read again.

pub number_read : (s : List ℕ) (at n : ℕ) (rest : List ℕ) → n < 2 ^ 64 → drop at s ≡ number_bytes n ++ rest → read_number s at ≡ got n (at + length (number_bytes n))
unfolding number_bytes read_number
number_read s at n rest fits e = read-written 9 n s at at rest fits (λ z. omega arith) (λ z. omega arith) e

pub write_read : (area : List ℕ) (at n : ℕ) → at + length (number_bytes n) ≤ length area → n < 2 ^ 64
    → read_number (sets area at (number_bytes n)) at ≡ got n (at + length (number_bytes n))
write_read area at n room fits =
    let d : drop at (sets area at (number_bytes n)) ≡ number_bytes n ++ drop (at + length (number_bytes n)) area =
    rw (sets-eq (number_bytes n) area at room, append_assoc) (drop_at (take at area) _ at (length-take-le at area (omega arith))) in
    number_read _ at n _ fits d

-- a byte below 128 is a whole number
pub number-byte : (s : List ℕ) (at : ℕ) → at < length s → get_or s at 0 < 128 → read_number s at ≡ got (get_or s at 0) (at + 1)
unfolding read_number
number-byte s at inside low = at_last s at at inside 8 low (λ late. omega arith)

-- and so are two, if the first says that another follows, and the second is neither 0 nor followed
pub number-pair : (s : List ℕ) (at : ℕ) → at + 1 < length s → 128 ≤ get_or s at 0 → 0 < get_or s (at + 1) 0 → get_or s (at + 1) 0 < 128
    → read_number s at ≡ got (get_or s at 0 - 128 + 128 * get_or s (at + 1) 0) (at + 2)
unfolding read_number mapped
number-pair s at inside follows some low =
    let end : at + 1 + 1 ≡ at + 2 = omega arith in
    at_next s at at (omega arith) 8 follows ∙ ap (above (get_or s at 0 - 128) 128) (at_last s at (at + 1) inside 7 low (λ late. some)) ∙ ap (got (get_or s at 0 - 128 + 128 * get_or s (at + 1) 0)) end

-- ---- What is read was written.

-- the bytes from `at` up to `next` are those of v
pub record Written (s : List ℕ) (at v next : ℕ) : Type 0 where
  pub bytes : drop at s ≡ number_bytes v ++ drop next s
  pub ends : next ≡ at + length (number_bytes v)
  pub small : v < 2 ^ 64

pub number-written : (s : List ℕ) (at v next : ℕ) → ((i : ℕ) → get_or s i 0 < 256) → read_number s at ≡ got v next → Written s at v next
unfolding number_bytes read_number
number-written s at v next byte e =
    let t = taken 9 s at at v next (omega arith) byte e in
    record { bytes = t.bytes; ends = t.ends; small = t.small }

-- ---- The places of the answers.

-- a number that was read ends inside the bytes
pub number-inside : (s : List ℕ) (at v next : ℕ) → read_number s at ≡ got v next → (at < next) × (next ≤ length s)
unfolding read_number
number-inside s at v next e = groups-inside s at 9 at v next e

-- a cut is at the end of the bytes, at most nine bytes on
pub number_cut : (s : List ℕ) (at p : ℕ) → read_number s at ≡ stopped cut p → (p ≡ length s) × (p ≤ at + 9)
unfolding read_number
number_cut s at p e = groups-cut s at 9 at p e

pub number-bad : (s : List ℕ) (at p : ℕ) → read_number s at ≡ stopped bad p → p ≡ at
unfolding read_number
number-bad s at p e = groups-bad s at 9 at p e
