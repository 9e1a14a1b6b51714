-- Sums of one term at most: an integer, and a variable.
use mathlib.Core.Path.{◌≡◌, refl, sym}
use mathlib.Core.Bool.{true, false}
use mathlib.Core.List.{List, [], ◌∷◌}
use Prim.Native.Nat.{ℕ, ◌≤◌}
use native.Mathlib.Omega.{arith}
use lib.IntN.{ℤ, pos}
use lib.ListN.{length, set}
use Rattle.algebra.specs.Limits.{variables, most_terms}
use Rattle.algebra.specs.Pattern.{empty_pattern}
use Rattle.algebra.specs.Sum.{Term, term, is_zero}
use Rattle.algebra.specs.Collect.{insert, gather, keep, drop_zeros, collect}
use Rattle.algebra.specs.Arithmetic.{integer, variable}
use Rattle.algebra.specs.Word.{word}
use Rattle.algebra.proofs.Patterns.Laws.{empty-length, alone-length}
use Rattle.algebra.proofs.Patterns.Word.{word-empty}
use Rattle.sums.specs.Formed.{Formed.formed, formed_into}
use Rattle.sums.proofs.Storing.{stored-none, stored_next, stored-into}

integer-none : (n : ℕ) (c : ℤ) → is_zero c ≡ true → integer n c ≡ []
unfolding integer collect gather insert drop_zeros keep
integer-none n c zero = rw zero

integer-some : (n : ℕ) (c : ℤ) → is_zero c ≡ false → integer n c ≡ term c (empty_pattern n) ∷ []
unfolding integer collect gather insert drop_zeros keep
integer-some n c other = rw other

module _ (ws : List ℕ) (cs : List ℤ) where
  -- one term is stored
  pub one-term : most_terms ≤ length ws → most_terms ≤ length cs → (t : Term) → length t.pattern ≡ variables → (w : ℕ) (c : ℤ) → w ≡ word t.pattern → c ≡ t.coefficient
      → (formed 1, set ws 0 w, set cs 0 c) ≡ formed_into (formed (t ∷ [])) ws cs
  one-term words_room coefficients_room t long w c word_is coefficient-is =
      stored-into 1 (stored_next (stored-none ws cs) t 0 w c refl (omega arith) (omega arith) (word_is) coefficient-is) refl

  pub zero-formed : (c : ℤ) → is_zero c ≡ true → (formed 0, ws, cs) ≡ formed_into (formed (integer variables c)) ws cs
  zero-formed c zero = rw (integer-none variables c zero) (stored-into 0 (stored-none ws cs) refl)

  module _ (words_room : most_terms ≤ length ws) (coefficients_room : most_terms ≤ length cs) where
    pub integer-formed : (c d : ℤ) → is_zero c ≡ false → d ≡ c → (formed 1, set ws 0 0, set cs 0 d) ≡ formed_into (formed (integer variables c)) ws cs
    integer-formed c d other is =
        rw (integer-some variables c other)
        (one-term words_room coefficients_room (term c (empty_pattern variables)) (empty-length variables) 0 d (sym word-empty) is)

    pub variable-formed : (v w : ℕ) → w ≡ word (set (empty_pattern variables) v 1) → (formed 1, set ws 0 w, set cs 0 (pos 1)) ≡ formed_into (formed (variable variables v)) ws cs
    unfolding variable
    variable-formed v w is = one-term words_room coefficients_room (term (pos 1) (set (empty_pattern variables) v 1)) (alone-length variables v 1) w (pos 1) is refl
