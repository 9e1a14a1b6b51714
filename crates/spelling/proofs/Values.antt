-- The tree of a sum has the sum's value: so for any list of terms, and whatever the variables are given.
use mathlib.Core.Path.{◌≡◌, refl, sym, ◌∙◌, ap, ap₂}
use mathlib.Core.List.{List, [], ◌∷◌}
use Prim.Native.Nat.{ℕ, zero, suc}
use lib.Dec.{eqb}
use lib.IntN.{ℤ, pos, negsuc, neg_ℤ, nat_abs, one, ◌+ℤ◌, ◌*ℤ◌, pow, +ℤ_assoc, +ℤ_idr}
use lib.ListN.{get_or, drop}
use borrow.Author.Tests.{eqb-true}
use Rattle.algebra.specs.Pattern.{Pattern}
use Rattle.algebra.specs.Sum.{Term, Sum}
use Rattle.algebra.specs.Value.{total, pattern_value, term_value, value}
use Rattle.algebra.proofs.Numbers.Whole.{*ℤ-assoc, negℤ-*ℤ, one-*ℤ, *ℤ-oner}
use Rattle.text.specs.Tree as tree
use Rattle.text.specs.Tree.{Tree, tree_value}
use Rattle.text.proofs.Byte.{decide}
use Rattle.spelling.specs.Spelling.{Power, powers, letter_tree, power_tree, times_powers, factors_tree, signed_tree, term_tree, plus_terms, sum_tree}

one-pow : (e : ℕ) → pow (pos 1) e ≡ pos 1
unfolding pow one
one-pow zero = refl
one-pow (suc e) = ap (λ z. z *ℤ pos 1) (one-pow e)

nothing-value : (p : Pattern) → pattern_value p [] ≡ pos 1
unfolding pattern_value
nothing-value [] = refl
nothing-value (e ∷ p) = refl

none-value : (x : List ℤ) → pattern_value [] x ≡ pos 1
unfolding pattern_value
none-value x = refl

-- one power of a pattern, and the rest
value-next : (e : ℕ) (p : Pattern) (v : ℕ) (x : List ℤ) → pattern_value (e ∷ p) (drop v x) ≡ pow (get_or x v (pos 1)) e *ℤ pattern_value p (drop (suc v) x)
unfolding pattern_value
value-next e p zero [] = sym (ap₂ ◌*ℤ◌ (one-pow e) (nothing-value p))
value-next e p (suc v) [] = sym (ap₂ ◌*ℤ◌ (one-pow e) (nothing-value p))
value-next e p zero (a ∷ x) = refl
value-next e p (suc v) (a ∷ x) = value-next e p v x

module _ (x : List ℤ) where
  letter-value : (v e : ℕ) → tree_value (letter_tree v e) x ≡ pow (get_or x v (pos 1)) e
  unfolding letter_tree tree_value pow one
  letter-value v e = decide (eqb e 1) (λ is. rw (is, eqb-true e 1 is) (sym (one-*ℤ (get_or x v (pos 1))))) (λ is. rw is)

  -- letters after other factors
  powers-value : (p : Pattern) (v : ℕ) (t : Tree) → tree_value (times_powers t (powers v p)) x ≡ tree_value t x *ℤ pattern_value p (drop v x)
  unfolding powers times_powers tree_value pow one
  powers-value [] v t = sym (ap (λ z. tree_value t x *ℤ z) (none-value (drop v x)) ∙ *ℤ-oner (tree_value t x))
  powers-value (zero ∷ p) v t =
      powers-value p (suc v) t ∙ ap (λ z. tree_value t x *ℤ z) (sym (value-next 0 p v x ∙ one-*ℤ (pattern_value p (drop (suc v) x))))
  powers-value (suc e ∷ p) v t =
      powers-value p (suc v) (tree.Tree.times t (letter_tree v (suc e)))
      ∙ *ℤ-assoc (tree_value t x) (tree_value (letter_tree v (suc e)) x) (pattern_value p (drop (suc v) x))
      ∙ ap (λ z. tree_value t x *ℤ z) (ap (λ z. z *ℤ pattern_value p (drop (suc v) x)) (letter-value v (suc e)) ∙ sym (value-next (suc e) p v x))

  times-alike : (fs : List Power) (t u : Tree) → tree_value t x ≡ tree_value u x → tree_value (times_powers t fs) x ≡ tree_value (times_powers u fs) x
  unfolding times_powers tree_value
  times-alike [] t u e = e
  times-alike (f ∷ fs) t u e = times-alike fs (tree.Tree.times t (power_tree f)) (tree.Tree.times u (power_tree f)) (ap (λ z. z *ℤ tree_value (power_tree f) x) e)

  -- a coefficient 1 that is left out changes nothing
  factors-value : (c : ℕ) (fs : List Power) → tree_value (factors_tree c fs) x ≡ tree_value (times_powers (tree.Tree.number c) fs) x
  unfolding factors_tree times_powers tree_value
  factors-value c [] = refl
  factors-value c (f ∷ fs) =
      decide (eqb c 1)
      (λ is. rw (is, eqb-true c 1 is) (times-alike fs (power_tree f) (tree.Tree.times (tree.Tree.number 1) (power_tree f)) (sym (one-*ℤ (tree_value (power_tree f) x)))))
      (λ is. rw is)

  signed-value : (c : ℤ) (p : Pattern) → tree_value (signed_tree c (factors_tree (nat_abs c) (powers 0 p))) x ≡ c *ℤ pattern_value p x
  unfolding signed_tree tree_value
  signed-value (pos n) p = factors-value n (powers 0 p) ∙ powers-value p 0 (tree.Tree.number n)
  signed-value (negsuc n) p =
      ap neg_ℤ (factors-value (suc n) (powers 0 p) ∙ powers-value p 0 (tree.Tree.number (suc n))) ∙ sym (negℤ-*ℤ (pos (suc n)) (pattern_value p x))

  term-value : (t : Term) → tree_value (term_tree t) x ≡ term_value x t
  unfolding term_tree
  term-value t = signed-value t.coefficient t.pattern

  terms-value : (s : Sum) (t : Tree) → tree_value (plus_terms t s) x ≡ tree_value t x +ℤ value s x
  unfolding plus_terms tree_value value total
  terms-value [] t = sym (+ℤ_idr (tree_value t x))
  terms-value (u ∷ s) t =
      terms-value s (tree.Tree.plus t (term_tree u))
      ∙ ap (λ z. (tree_value t x +ℤ z) +ℤ value s x) (term-value u)
      ∙ +ℤ_assoc (tree_value t x) (term_value x u) (value s x)

pub text-value : (s : Sum) (x : List ℤ) → tree_value (sum_tree s) x ≡ value s x
unfolding sum_tree tree_value value total
text-value [] x = refl
text-value (t ∷ s) x = terms-value x s (term_tree t) ∙ ap (λ z. z +ℤ value s x) (term-value x t)
