-- Packed sums, faults and their places: one table, which the checker computes.
use mathlib.Core.Path.{◌≡◌, refl}
use mathlib.Core.List.{List, [], ◌∷◌, ◌++◌}
use Prim.Native.Nat.{ℕ, ◌+◌, ◌*◌, ◌-◌, ◌^◌}
use lib.IntN.{ℤ, pos, negsuc}
use lib.ListN.{length, take, replicate}
use Rattle.answers.proofs.Tables.{◌also◌}
use Rattle.answers.specs.Promised.{Each}
use Rattle.algebra.specs.Limits.{variables}
use Rattle.algebra.specs.Pattern.{degree, then_by, by_powers, order}
use Rattle.algebra.specs.Sum.{term, Sum, weight}
use Rattle.algebra.specs.Word.{word_of, fields_of, terms_by, word, exponents, terms, is_valid}
use Rattle.answers.specs.Refusals.{ROOM, SHAPE, SUM}
use Rattle.answers.specs.Answers.{Told, Told.done, Told.refused, outcome}
use Rattle.answers.specs.Areas.{written}
use Rattle.numbers.specs.Item.{Item, Item.got, Item.stopped, and_then, provided, mapped, Fault, Fault.cut, Fault.bad}
use Rattle.numbers.specs.Number.{groups_of, number_bytes, read_byte, read_groups, read_number}
use Rattle.numbers.specs.Code.{code, decode}
use Rattle.packed.specs.Packed.{exponent_bytes, term_bytes, bytes_of_terms, packed, most_bytes}
use Rattle.packed.specs.Judge.{weighs, follows}
use Rattle.packed.specs.ReadSum.{read_coefficient, read_exponents, read_term, read_terms, read_sum, read_whole}
use Rattle.packed.specs.Result.{held_into}
use Rattle.packed.specs.Unpack.{unpack}
use Rattle.packed.specs.Pack.{is_good, good_terms, pack}
use Rattle.packed.proofs.CaseBytes.{powers, two, square, heaviest}

-- ---- A case says how a sum is packed and read again, how bytes are read that are at fault, or what an operation answers.

pub data Case : Type 0 where
  packs : Sum → List ℕ → Case
  faulty : List ℕ → Item Fault Sum → Case
  -- packed bytes, the lengths of the two areas, the answer, and what is written to the areas
  unpacking : List ℕ → ℕ → ℕ → Told → List ℕ → List ℤ → Case
  -- count, words, coefficients, the length of the result area, the answer, and what is written to it
  packing : ℕ → List ℕ → List ℤ → ℕ → Told → List ℕ → Case

-- every place of an area holds 7 before
abbrev pub Says : Case → Type 0
Says (packs s bytes) = (packed s ≡ bytes) × (read_whole variables bytes ≡ got s (length bytes))
Says (faulty bytes item) = read_whole variables bytes ≡ item
Says (unpacking bytes m n t ws cs) = unpack bytes (replicate m 7) (replicate n (pos 7)) ≡ outcome t (written ws (replicate m 7), written cs (replicate n (pos 7)))
Says (packing count ws cs n t bytes) = pack count ws cs (replicate n 7) ≡ outcome t (written bytes (replicate n 7))

-- ---- Short names.

-- 2^62 as a coefficient
largest : ℤ
largest = pos (2 ^ 62)

-- all bytes but the last
without_last : List ℕ → List ℕ
without_last bytes = take (length bytes - 1) bytes

-- ---- The table.

pub table : List Case
unfolding largest without_last
table =
    packs [] (0 ∷ [])
    -- a² + 2ab, which is `(a+b)^2-b^2`
    ∷ packs
    (term (pos 1) (powers (2 ∷ [])) ∷ term (pos 2) (powers (1 ∷ 1 ∷ [])) ∷ [])
    square
    -- a^60, and the largest weight
    ∷ packs (term (pos 1) (powers (60 ∷ [])) ∷ []) (1 ∷ two 2 60 0)
    ∷ packs (term largest (powers []) ∷ []) (1 ∷ heaviest ++ powers [])
    ∷ packs (term (pos (2 ^ 62 - 1)) (powers (1 ∷ [])) ∷ term (negsuc 0) (powers []) ∷ []) (2 ∷ 254 ∷ replicate 7 255 ++ (127 ∷ powers (1 ∷ [])) ++ two 1 0 0)
    -- the bytes end before an item, or inside it
    ∷ faulty [] (stopped cut 0)
    ∷ faulty (1 ∷ without_last (two 2 0 0)) (stopped cut (1 + variables))
    ∷ faulty (1 ∷ 130 ∷ []) (stopped cut 2)
    -- a number not in its shortest form, a tenth group of 2 as the last byte there is, and one that says that more follow
    ∷ faulty (1 ∷ 130 ∷ 0 ∷ powers []) (stopped bad 1)
    ∷ faulty (1 ∷ replicate 9 128 ++ (2 ∷ [])) (stopped bad 1)
    ∷ faulty (1 ∷ replicate 9 128 ++ (129 ∷ 0 ∷ [])) (stopped bad 1)
    -- a count of 129, with nothing after it
    ∷ faulty (129 ∷ 1 ∷ []) (stopped bad 0)
    -- a coefficient 0, and a total above 2^62, judged before the exponents are looked at
    ∷ faulty (1 ∷ 0 ∷ []) (stopped bad 1)
    ∷ faulty (2 ∷ heaviest ++ powers (1 ∷ []) ++ (2 ∷ [])) (stopped bad (11 + variables))
    -- the code of -2^63
    ∷ faulty (1 ∷ replicate 9 255 ++ (1 ∷ powers [])) (stopped bad 1)
    -- exponents that add up to 61, at the exponent that makes them so; 1 and 2^64 - 1
    ∷ faulty (1 ∷ 2 ∷ 60 ∷ 1 ∷ []) (stopped bad 3)
    ∷ faulty (1 ∷ 2 ∷ 1 ∷ replicate 9 255 ++ (1 ∷ replicate (variables - 2) 0)) (stopped bad 3)
    -- a pattern that stands twice, and one too late; with a last exponent that is missing or too large that is the fault
    ∷ faulty (2 ∷ two 2 1 0 ++ two 2 1 0) (stopped bad (2 + variables))
    ∷ faulty (2 ∷ two 2 0 0 ++ two 2 1 0) (stopped bad (2 + variables))
    ∷ faulty (2 ∷ two 2 0 0 ++ without_last (two 2 1 0)) (stopped cut (2 + 2 * variables))
    ∷ faulty (2 ∷ two 2 1 0 ++ without_last (two 2 1 0)) (stopped cut (2 + 2 * variables))
    ∷ faulty (2 ∷ two 2 1 0 ++ without_last (two 2 1 0) ++ (60 ∷ [])) (stopped bad (2 + 2 * variables))
    -- bytes left over
    ∷ faulty (0 ∷ 0 ∷ []) (stopped bad 1)
    -- 3b - 1, in areas of 128 and 129 places, of which the others stay; ROOM comes before SUM; cut and damaged records are both SUM
    ∷ unpacking (2 ∷ two 6 0 1 ++ two 1 0 0) 128 129 (done 2) (2 ^ 48 ∷ 0 ∷ []) (pos 3 ∷ negsuc 0 ∷ [])
    ∷ unpacking (0 ∷ []) 128 128 (done 0) [] []
    ∷ unpacking [] 127 128 (refused ROOM 0) [] []
    ∷ unpacking [] 128 127 (refused ROOM 0) [] []
    ∷ unpacking [] 128 128 (refused SUM 0) [] []
    ∷ unpacking (1 ∷ two 2 0 0 ++ (0 ∷ [])) 128 128 (refused SUM (2 + variables)) [] []
    -- places beyond the count are not looked at; ROOM comes before SHAPE, SHAPE before SUM
    ∷ packing 2 (2 ^ 48 ∷ 0 ∷ 61 ∷ []) (pos 3 ∷ negsuc 0 ∷ pos 0 ∷ []) (most_bytes variables + 1) (done (1 + 2 * (1 + variables))) (2 ∷ two 6 0 1 ++ two 1 0 0)
    ∷ packing 0 [] [] (most_bytes variables) (done 1) (0 ∷ [])
    ∷ packing 129 [] [] (most_bytes variables - 1) (refused ROOM 0) []
    ∷ packing 129 (replicate 129 0) (replicate 129 (pos 1)) (most_bytes variables) (refused SHAPE 0) []
    ∷ packing 1 [] (pos 0 ∷ []) (most_bytes variables) (refused SHAPE 0) []
    ∷ packing 1 (0 ∷ []) [] (most_bytes variables) (refused SHAPE 0) []
    -- a bad term: a zero coefficient, a total above 2^62, -2^63, degree 61, wrong order
    ∷ packing 2 (1 ∷ 0 ∷ []) (pos 5 ∷ pos 0 ∷ []) (most_bytes variables) (refused SUM 1) []
    ∷ packing 2 (1 ∷ 0 ∷ []) (largest ∷ negsuc 0 ∷ []) (most_bytes variables) (refused SUM 1) []
    ∷ packing 1 (0 ∷ []) (negsuc (2 ^ 63 - 1) ∷ []) (most_bytes variables) (refused SUM 0) []
    ∷ packing 1 (61 ∷ []) (pos 5 ∷ []) (most_bytes variables) (refused SUM 0) []
    ∷ packing 2 (0 ∷ 1 ∷ []) (pos 5 ∷ pos 5 ∷ []) (most_bytes variables) (refused SUM 1) []
    ∷ []

pub cases-hold : Each Says table
unfolding table largest without_last and_then provided mapped groups_of number_bytes read_byte read_groups read_number code decode exponent_bytes term_bytes bytes_of_terms packed weighs follows degree then_by by_powers order weight read_coefficient read_exponents read_term read_terms read_sum read_whole held_into unpack is_good good_terms pack word_of fields_of terms_by word exponents terms is_valid
cases-hold =
    (refl, refl) also (refl, refl) also (refl, refl) also (refl, refl) also (refl, refl)
    also refl also refl also refl also refl also refl also refl also refl also refl also refl
    also refl also refl also refl also refl also refl also refl also refl also refl also refl
    also refl also refl also refl also refl also refl also refl
    also refl also refl also refl also refl also refl also refl
    also refl also refl also refl also refl also refl
    also tt
