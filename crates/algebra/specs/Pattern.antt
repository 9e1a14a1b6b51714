-- A power pattern is the list of its exponents, in the variables' order. Nothing here fixes how many variables there are.
-- (A `let` in a definition changes nothing: the checker computes what it binds only where it is needed.)
use Rattle.std.specs.Prelude.{Bool, true, false, ◌&&◌, List, [], ◌∷◌, eqb, get_or, set, replicate}
use Prim.Native.Nat.{ℕ, suc, ◌+◌, ◌-◌, compare, Ordering}

abbrev pub Pattern : Type 0
Pattern = List ℕ

-- no power of any of n variables
abbrev pub empty_pattern : ℕ → Pattern
empty_pattern n = replicate n 0

-- two patterns multiply by adding exponents; one that a pattern lacks counts as 0
unfoldable pub times : Pattern → Pattern → Pattern
times [] q = q
times (e ∷ p) [] = e ∷ p
times (e ∷ p) (f ∷ q) = (e + f) ∷ times p q

-- the total degree: the exponents added
unfoldable pub degree : Pattern → ℕ
degree [] = 0
degree (e ∷ p) = e + degree p

-- the power of variable v, and the pattern with one more of it, with one less (0 stays 0), and with none
abbrev pub exponent : ℕ → Pattern → ℕ
exponent v p = get_or p v 0

abbrev pub raised : ℕ → Pattern → Pattern
raised v p = set p v (suc (exponent v p))

abbrev pub lowered : ℕ → Pattern → Pattern
lowered v p = set p v (exponent v p - 1)

abbrev pub without : ℕ → Pattern → Pattern
without v p = set p v 0

-- two patterns are the same if all exponents are
unfoldable pub same : Pattern → Pattern → Bool
same [] [] = true
same [] (f ∷ q) = false
same (e ∷ p) [] = false
same (e ∷ p) (f ∷ q) = let rest = same p q in eqb e f && rest

-- ---- The term order. `lt` says that the first pattern stands before the second.

-- the first answer, and the second where the first is a tie
unfoldable pub then_by : Ordering → Ordering → Ordering
then_by Ordering.lt o = Ordering.lt
then_by Ordering.eq o = o
then_by Ordering.gt o = Ordering.gt

-- the larger power of a first, at equal powers the larger power of b, and so on (patterns of one sum are equally long)
unfoldable pub by_powers : Pattern → Pattern → Ordering
by_powers [] [] = Ordering.eq
by_powers [] (f ∷ q) = Ordering.gt
by_powers (e ∷ p) [] = Ordering.lt
by_powers (e ∷ p) (f ∷ q) = let rest = by_powers p q in then_by (compare f e) rest

-- the larger total degree first, at equal degree by the powers
unfoldable pub order : Pattern → Pattern → Ordering
order p q = let tie = by_powers p q in then_by (compare (degree q) (degree p)) tie
