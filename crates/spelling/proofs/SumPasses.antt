-- The tree of an accepted sum passes: its formal degree and weight are the sum's own, and its last sum is the sum.
use mathlib.Core.Path.{◌≡◌, refl, sym, ap, subst}
use mathlib.Core.List.{[], ◌∷◌, ◌++◌, append-nil}
use Prim.Native.Nat.{◌≤◌}
use native.Mathlib.Omega.{arith}
use lib.IntN.{nat_abs}
use lib.ListN.{length-append}
use lib.Seq.{append_snoc}
use Rattle.algebra.specs.Limits.{variables, most_terms}
use Rattle.algebra.specs.Pattern.{degree}
use Rattle.algebra.specs.Sum.{Term, Sum, degree_of, weight}
use Rattle.algebra.specs.Collect.{insert, gather, keep, drop_zeros, collect}
use Rattle.algebra.specs.Arithmetic as arithmetic
use Rattle.algebra.specs.Arithmetic.{◌⊕◌, sum_spread}
use Rattle.algebra.specs.Accepted.{Accepted}
use Rattle.algebra.proofs.Sums.Occurs.{spread-length}
use Rattle.algebra.proofs.Sums.Ordered.{collect-fixed}
use Rattle.algebra.proofs.Sums.Results.{degree-next, weight-next}
use Rattle.packed.proofs.Good.{Fit, weighs-some, weighs-light, Good, Good.none, Good.more, accepted-good, good-accepted}
use Rattle.formula.specs.Table.{entry}
use Rattle.text.specs.Tree as tree
use Rattle.text.specs.Tree.{Tree}
use Rattle.spelling.specs.Spelling.{term_tree, plus_terms, sum_tree}
use Rattle.text.proofs.TreePasses.{Passing, Passing.number, Passing.plus, TreePassed, tree-passes}
use Rattle.spelling.proofs.TermPasses.{entry-is, term-passing}

-- ---- The first terms of a sum, and the next.

front-good : (s t : Sum) {before : Sum} → Good variables before (s ++ t) → Good variables before s
front-good [] t g = none
front-good (u ∷ s) t (more f g) = more f (front-good s t g)

front-accepted : (s t : Sum) → Accepted variables (s ++ t) → Accepted variables s
front-accepted s t a = good-accepted variables s (omega (arith, a.few, length-append s t)) (front-good s t (accepted-good variables (s ++ t) a))

fit-passing : (before : Sum) (t : Term) → Fit variables before t → Passing (term_tree t) (entry (degree t.pattern) (nat_abs t.coefficient) (t ∷ []))
fit-passing before t f =
    let light = weighs-light (weight before) t.coefficient f.light in
    term-passing t.coefficient t.pattern (weighs-some (weight before) t.coefficient f.light) (omega arith) f.long f.low

next-passing : (s : Sum) (t : Term) (rest : Sum) {before : Sum} → Good variables before (s ++ (t ∷ rest))
    → Passing (term_tree t) (entry (degree t.pattern) (nat_abs t.coefficient) (t ∷ []))
next-passing [] t rest {before} (more f g) = fit-passing before t f
next-passing (u ∷ s) t rest (more f g) = next-passing s t rest g

-- ---- One term after the other.

module _ (s : Sum) (t : Term) (a : Accepted variables (s ++ (t ∷ []))) where
  -- it is the last of the order
  added : s ⊕ (t ∷ []) ≡ s ++ (t ∷ [])
  unfolding ◌⊕◌
  added = collect-fixed variables (s ++ (t ∷ [])) a.is_ordered

  narrow : sum_spread s (t ∷ []) ≤ most_terms
  unfolding sum_spread
  narrow = omega (arith, spread-length (s ++ (t ∷ [])), a.few)

  plus-passing : {u v : Tree} → Passing u (entry (degree_of s) (weight s) s) → Passing v (entry (degree t.pattern) (nat_abs t.coefficient) (t ∷ []))
      → let r = s ++ (t ∷ []) in Passing (tree.Tree.plus u v) (entry (degree_of r) (weight r) r)
  plus-passing p q =
      subst (Passing _) (entry-is (sym (degree-next s t)) (sym (weight-next s t)) added)
      (plus p q (record { degree = omega (arith, degree-next s t, a.low); weight = omega (arith, weight-next s t, a.light); spread = narrow }))

terms-passing : (rest s : Sum) {u : Tree} → Accepted variables (s ++ rest) → Passing u (entry (degree_of s) (weight s) s)
    → let r = s ++ rest in Passing (plus_terms u rest) (entry (degree_of r) (weight r) r)
unfolding plus_terms
terms-passing [] s a p = rw append-nil p
terms-passing (t ∷ rest) s a p =
    let all = append_snoc s t rest in
    let accepted = subst (Accepted variables) (sym all) a in
    let next = plus-passing s t (front-accepted (s ++ (t ∷ [])) rest accepted) p (next-passing s t rest (accepted-good variables (s ++ (t ∷ rest)) a)) in
    subst (Passing _) (entry-is (ap degree_of all) (ap weight all) all) (terms-passing rest (s ++ (t ∷ [])) accepted next)

pub sum-passing : (s : Sum) → Accepted variables s → Passing (sum_tree s) (entry (degree_of s) (weight s) s)
unfolding sum_tree degree_of weight
sum-passing [] a = unfold arithmetic.integer collect gather insert drop_zeros keep in number {v = 0} (omega arith)
sum-passing (t ∷ s) a =
    let first = next-passing [] t s (accepted-good variables (t ∷ s) a) in
    terms-passing s (t ∷ []) a (subst (Passing _) (entry-is (omega arith) (omega arith) refl) first)

-- all nodes pass; of the last one the sum itself is kept, with its own degree and weight
pub text-passes : (s : Sum) → Accepted variables s → TreePassed (sum_tree s) (entry (degree_of s) (weight s) s)
text-passes s a = tree-passes (sum-passing s a)
