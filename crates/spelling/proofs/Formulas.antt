-- What is written is a formula of the grammar, with the tree that is said of it.
use mathlib.Core.Path.{◌≡◌}
use mathlib.Core.List.{List, [], ◌∷◌, ◌++◌, append_assoc, append-nil}
use Prim.Native.Nat.{ℕ, zero, suc, ◌+◌, ◌≤◌}
use native.Mathlib.Omega.{arith}
use lib.Dec.{eqb}
use lib.IntN.{ℤ, pos, negsuc, nat_abs}
use lib.ListN.{length}
use Rattle.algebra.specs.Limits.{variables, largest_degree}
use Rattle.algebra.specs.Pattern.{Pattern, degree}
use Rattle.algebra.specs.Sum.{Term, Sum, weight}
use Rattle.algebra.specs.Accepted.{Accepted}
use Rattle.packed.proofs.Good.{Fit, weighs-light, Good, Good.more, accepted-good}
use Rattle.text.specs.Limits.{largest_number, largest_exponent}
use Rattle.text.specs.Letters.{Letter.names, letter_of, name_of}
use Rattle.text.specs.Signs.{times_sign}
use Rattle.text.specs.Tree as tree
use Rattle.text.specs.Tree.{Tree}
use Rattle.text.specs.Grammar.{Level.sum, Level.term, Level.factor, Is, Is.first, Is.minus, Is.plus, Is.less, Is.single, Is.times, Is.plain, Is.power, Is.number, Is.letter}
use Rattle.text.specs.Grammar.{Numeral.digit, Formula}
use Rattle.text.proofs.Byte.{decide, name-names}
use Rattle.text.proofs.Numerals.{decimal-numeral}
use Rattle.spelling.specs.Spelling.{Power, powers, letter_text, power_text, more_powers, factors_text, term_text, first_sign, next_sign, first_text, next_text, more_terms, sum_text}
use Rattle.spelling.specs.Spelling.{letter_tree, power_tree, times_powers, factors_tree, signed_tree, term_tree, plus_terms, sum_tree}
use Rattle.spelling.specs.Promised.{EachNamed, Named}

-- ---- Which powers stand in a pattern.

abbrev EachLow : List Power → Type 0
EachLow [] = Unit {0}
EachLow (f ∷ fs) = (f.exponent ≤ largest_exponent) × EachLow fs

powers-low : (v : ℕ) (p : Pattern) → degree p ≤ largest_degree → EachLow (powers v p)
unfolding powers degree
powers-low v [] h = tt
powers-low v (zero ∷ p) h = powers-low (suc v) p (omega arith)
powers-low v (suc e ∷ p) h = (omega arith, powers-low (suc v) p (omega arith))

powers-named : (v : ℕ) (p : Pattern) → v + length p ≤ variables → EachNamed (powers v p)
unfolding powers
powers-named v [] h = tt
powers-named v (zero ∷ p) h = powers-named (suc v) p (omega arith)
powers-named v (suc e ∷ p) h = (name-names v (omega arith), powers-named (suc v) p (omega arith))

-- today the reader knows all letters
pub all_named : (s : Sum) {before : Sum} → Good variables before s → Named s
all_named [] g = tt
all_named (t ∷ s) (more f g) = (powers-named 0 t.pattern (omega (arith, f.long)), all_named s g)

-- ---- Terms.

module _ {l : ℕ} where
  power-factor : (f : Power) → letter_of (name_of f.variable) ≡ names f.variable → f.exponent ≤ largest_exponent → Is factor l (power_text f) (power_tree f)
  unfolding letter_text letter_tree
  power-factor f named low =
      decide (eqb f.exponent 1)
      (λ e. rw e (plain (letter named)))
      (λ e. rw e (power (letter named) (decimal-numeral largest_exponent f.exponent low)))

  powers-term : {w : List ℕ} {t : Tree} (fs : List Power) → Is term l w t → EachNamed fs → EachLow fs → Is term l (w ++ more_powers fs) (times_powers t fs)
  unfolding more_powers times_powers
  powers-term [] d named low = rw append-nil d
  powers-term {w} {t} (f ∷ fs) d named low =
      rw append_assoc at (powers-term {w = w ++ (times_sign ∷ power_text f)} {t = tree.Tree.times t (power_tree f)} fs (times d (power-factor f named.0 low.0)) named.1 low.1)

  factors-term : (c : ℕ) (fs : List Power) → c ≤ largest_number → EachNamed fs → EachLow fs → Is term l (factors_text c fs) (factors_tree c fs)
  unfolding factors_text factors_tree
  factors-term c [] h named low = single (plain (number (decimal-numeral largest_number c h)))
  factors-term c (f ∷ fs) h named low =
      decide (eqb c 1)
      (λ e. rw e (powers-term fs (single (power-factor f named.0 low.0)) named.1 low.1))
      (λ e. rw e (powers-term (f ∷ fs) (single (plain (number (decimal-numeral largest_number c h)))) named low))

  -- ---- Signs.

  first_signed : (c : ℤ) {v : List ℕ} {u : Tree} → Is term l v u → Is sum l (first_sign c ++ v) (signed_tree c u)
  unfolding first_sign signed_tree
  first_signed (pos n) d = first d
  first_signed (negsuc n) d = minus d

  next-signed : (c : ℤ) {w v : List ℕ} {t u : Tree} → Is sum l w t → Is term l v u → Is sum l (w ++ (next_sign c ∷ v)) (tree.Tree.plus t (signed_tree c u))
  unfolding next_sign signed_tree
  next-signed (pos n) a d = plus a d
  next-signed (negsuc n) a d = less a d

  -- ---- Sums.

  module _ {n : ℕ} where
    term_is : {before : Sum} (t : Term) → Fit n before t → EachNamed (powers 0 t.pattern) → Is term l (term_text t) (factors_tree (nat_abs t.coefficient) (powers 0 t.pattern))
    unfolding term_text
    term_is {before} t f named =
        let light = weighs-light (weight before) t.coefficient f.light in
        factors-term (nat_abs t.coefficient) (powers 0 t.pattern) (omega arith) named (powers-low 0 t.pattern f.low)

    terms-sum : {w : List ℕ} {u : Tree} {before : Sum} (s : Sum) → Is sum l w u → Good n before s → Named s → Is sum l (w ++ more_terms s) (plus_terms u s)
    unfolding more_terms next_text plus_terms term_tree
    terms-sum [] d g named = rw append-nil d
    terms-sum {w = w} {u = u} {before = before} (t ∷ s) d (more f g) named =
        rw append_assoc at (terms-sum {w = ◌++◌ {A = ℕ} w (next_sign t.coefficient ∷ term_text t)} s (next-signed t.coefficient d (term_is t f named.0)) g named.1)

    sum_is : (s : Sum) → Good n [] s → Named s → Is sum l (sum_text s) (sum_tree s)
    unfolding sum_text first_text sum_tree term_tree
    sum_is [] g named = first (single (plain (number (digit {d = 0} (omega arith)))))
    sum_is (t ∷ s) (more f g) named = terms-sum s (first_signed t.coefficient (term_is t f named.0)) g named.1

-- in n variables
pub text-formula : (n : ℕ) (s : Sum) → Accepted n s → Named s → Formula (sum_text s) (sum_tree s)
text-formula n s a named = sum_is s (accepted-good n s a) named
