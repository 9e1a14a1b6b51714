-- `write_letters` meets its contract: the bytes left are those of the letters left.
use mathlib.Core.List.{List}
use Prim.Native.Nat.{ℕ}
use Rattle.numbers.proofs.Writing.{Writing}
use Rattle.spelling.specs.Spelling.{more_powers}
use Rattle.spelling.specs.Inside.Code.{letters_from}
use Rattle.spelling.proofs.letters.write_letters.Given as goal

-- the bytes of the letters from variable v on, and of the letter of v
abbrev letters_left : ℕ → ℕ → List ℕ
letters_left w v = more_powers (letters_from w v)

abbrev pub invariant-loop-v : goal.invariant-loop-v
invariant-loop-v l = Writing l.initial.area l.at (letters_left l.pattern.0 l.from) l.area l.place (letters_left l.pattern.0 l.v)
