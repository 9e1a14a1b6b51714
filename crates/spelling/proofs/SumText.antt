-- The text of the terms that two slices hold, from the front: zero, the first term, and one more of those after it. (The machine hands a coefficient on as it
-- holds it.)
use mathlib.Core.Path.{◌≡◌, sym, ap, ◌∙◌}
use mathlib.Core.List.{List, [], ◌∷◌, ◌++◌}
use Prim.Native.Nat.{ℕ, ◌+◌, ◌≤◌, ◌<◌}
use native.Mathlib.Omega.{arith}
use lib.IntN.{ℤ, pos}
use lib.ListN.{length, get_or, drop, drop_of_length-le}
use mir.Syntax.{w64}
use mir.Val.{SFits}
use mir.ValLaws.{to_z-of_z}
use Rattle.algebra.specs.Sum.{Term, term}
use Rattle.algebra.specs.Word.{exponents, terms}
use Rattle.numbers.proofs.Signs.{held}
use Rattle.packed.proofs.Front.{terms-length, terms-next}
use Rattle.text.specs.Signs.{zero_digit}
use Rattle.spelling.specs.Spelling.{first_text, next_text, more_terms, sum_text}

-- the term at a place, as it is handed on
abbrev pub handed : List ℕ → List ℤ → ℕ → Term
handed ws cs k = term (held (get_or cs k (pos 0))) (exponents (get_or ws k 0))

module _ (ws : List ℕ) (cs : List ℤ) (as_many : length cs ≡ length ws) where
  nothing-from : (k : ℕ) → length ws ≤ k → drop k (terms ws cs) ≡ []
  nothing-from k h =
      let short : length (terms ws cs) ≤ k = omega (arith, terms-length ws cs as_many) in
      drop_of_length-le (terms ws cs) short

  one_more : (k : ℕ) → k < length ws → SFits w64 (get_or cs k (pos 0)) → drop k (terms ws cs) ≡ handed ws cs k ∷ drop (k + 1) (terms ws cs)
  one_more k h fits =
      terms-next ws cs as_many k h
      ∙ ap (λ (z : ℤ). term z (exponents (get_or ws k 0)) ∷ drop (k + 1) (terms ws cs)) (sym (to_z-of_z w64 (get_or cs k (pos 0)) fits))

  pub zero-text : length ws ≡ 0 → sum_text (terms ws cs) ≡ zero_digit ∷ []
  unfolding sum_text
  zero-text none = ap sum_text (nothing-from 0 (omega arith))

  pub leading : 0 < length ws → SFits w64 (get_or cs 0 (pos 0)) → sum_text (terms ws cs) ≡ first_text (handed ws cs 0) ++ more_terms (drop 1 (terms ws cs))
  unfolding sum_text
  leading h fits = ap sum_text (one_more 0 h fits)

  pub further : (k : ℕ) → k < length ws → SFits w64 (get_or cs k (pos 0))
      → more_terms (drop k (terms ws cs)) ≡ next_text (handed ws cs k) ++ more_terms (drop (k + 1) (terms ws cs))
  unfolding more_terms
  further k h fits = ap more_terms (one_more k h fits)

  pub no-further : (k : ℕ) → length ws ≤ k → more_terms (drop k (terms ws cs)) ≡ []
  unfolding more_terms
  no-further k h = ap more_terms (nothing-from k h)
