-- The tree of a term passes: its formal degree and weight are the term's own, and every product on the way has one pattern.
use mathlib.Core.Path.{◌≡◌, refl, sym, ◌∙◌, ap, ap₂, subst}
use mathlib.Core.Bool.{not}
use mathlib.Core.List.{List, [], ◌∷◌, ◌++◌, append-nil}
use Prim.Native.Nat.{ℕ, zero, suc, ◌+◌, ◌*◌, ◌-◌, ◌^◌, ◌≤◌, ◌<◌}
use native.Mathlib.Omega.{arith}
use native.Mathlib.Nat.{pow-zero, pow-suc}
use native.Mathlib.Numerals.{add-one}
use lib.Dec.{T, eqb}
use lib.IntN.{ℤ, pos, negsuc, nat_abs, neg_ℤ, ◌*ℤ◌}
use lib.ListN.{length, set, length-append, length-set, replicate-append-replicate}
use lib.Seq.{append_snoc}
use lib.Ieee.Fits.{and_i}
use borrow.Author.Tests.{eqb-true}
use Rattle.algebra.specs.Limits.{variables, largest_degree, largest_weight}
use Rattle.algebra.specs.Pattern.{Pattern, empty_pattern, times, degree}
use Rattle.algebra.specs.Inside.Filled.{filled}
use Rattle.algebra.specs.Sum.{Term, term, Sum, is_zero, ahead, in_order, no_zero}
use Rattle.algebra.specs.Collect.{insert, gather, keep, drop_zeros, collect}
use Rattle.algebra.specs.Arithmetic as arithmetic
use Rattle.algebra.specs.Arithmetic.{times_term, row, ◌⊗◌, product_spread, power_spread}
use Rattle.algebra.proofs.Numbers.Whole.{negℤ-*ℤ, one-*ℤ}
use Rattle.algebra.proofs.Patterns.Laws.{empty-times, empty-length, empty-degree, degree-append, filled-length, filled-all, filled_next}
use Rattle.sums.proofs.OneTerm.{term-product, term-spread, raised, power-term, power-narrow}
use Rattle.formula.specs.Table.{Entry, entry}
use Rattle.text.specs.Tree as tree
use Rattle.text.specs.Tree.{Tree}
use Rattle.text.proofs.Byte.{decide}
use Rattle.spelling.specs.Spelling.{Power, powers, letter_tree, power_tree, times_powers, factors_tree, signed_tree, term_tree}
use Rattle.text.proofs.TreePasses.{power_entry, Passing, Passing.number, Passing.letter, Passing.times as multiplied, Passing.raised as raised-to, Passing.minus}

pub entry-is : {d d' w w' : ℕ} {s s' : Sum} → d ≡ d' → w ≡ w' → s ≡ s' → entry d w s ≡ entry d' w' s'
entry-is a b c i = entry (a i) (b i) (c i)

one-pow : (k : ℕ) → 1 ^ k ≡ 1
one-pow zero = pow-zero 1
one-pow (suc k) = omega (arith, pow-suc 1 k, one-pow k)

-- ---- Patterns.

-- the power e of the variable v alone
abbrev only : ℕ → ℕ → Pattern
only v e = set (empty_pattern variables) v e

only-long : (v e : ℕ) → length (only v e) ≡ variables
only-long v e = length-set (empty_pattern variables) v e ∙ empty-length variables

only-times : (n v e f : ℕ) → times (set (empty_pattern n) v e) (set (empty_pattern n) v f) ≡ set (empty_pattern n) v (e + f)
unfolding times
only-times zero v e f = refl
only-times (suc n) zero e f = ap (λ p. (e + f) ∷ p) (empty-times n (empty_pattern n) (empty-length n))
only-times (suc n) (suc v) e f = ap (λ p. 0 ∷ p) (only-times n v e f)

filled-skip : (n : ℕ) (q : Pattern) → length q < n → filled n (q ++ (0 ∷ [])) ≡ filled n q
filled-skip n q h =
    let one_less : suc (n - length (q ++ (0 ∷ []))) ≡ n - length q = omega (arith, length-append q (0 ∷ [])) in
    append_snoc q 0 (empty_pattern (n - length (q ++ (0 ∷ [])))) ∙ ap (λ m. q ++ empty_pattern m) one_less

empty-filled : (n v : ℕ) → v ≤ n → filled n (empty_pattern v) ≡ empty_pattern n
empty-filled n v h =
    let all : v + (n - v) ≡ n = omega arith in
    ap (λ m. empty_pattern v ++ empty_pattern (n - m)) (empty-length v) ∙ replicate-append-replicate v (n - v) 0 ∙ ap empty_pattern all

only-filled : (n v e : ℕ) → v < n → set (empty_pattern n) v e ≡ filled n (empty_pattern v ++ (e ∷ []))
only-filled n v e h =
    let long : length (empty_pattern v) ≡ v = empty-length v in
    sym (empty-times n (set (empty_pattern n) v e) (length-set (empty_pattern n) v e ∙ empty-length n))
    ∙ ap₂ (λ p m. times p (set (empty_pattern n) m e)) (sym (empty-filled n v (omega arith))) (sym long)
    ∙ filled_next n (empty_pattern v) e (omega (arith, long))

empty-next : (v : ℕ) (p : Pattern) → empty_pattern (suc v) ++ p ≡ empty_pattern v ++ (0 ∷ p)
empty-next zero p = refl
empty-next (suc v) p = ap (λ q. 0 ∷ q) (empty-next v p)

-- ---- One term.

-- c times the pattern p
abbrev alone : ℕ → Pattern → Sum
alone c p = term (pos c) p ∷ []

some-not-zero : (c : ℕ) → 1 ≤ c → T (not (is_zero (pos c)))
some-not-zero zero h = absurd (omega arith)
some-not-zero (suc c) h = tt

in_order-one : (t : Term) → T (in_order (t ∷ []))
unfolding in_order ahead
in_order-one t = tt

alone-full : (c : ℕ) (p : Pattern) → 1 ≤ c → T (no_zero (alone c p))
unfolding no_zero
alone-full c p h = and_i (not (is_zero (pos c))) (no_zero []) (some-not-zero c h) tt

module _ (z : ℤ) (d : ℕ) (p q : Pattern) (hp : length p ≡ variables) (hq : length q ≡ variables) where
  alone-times : T (not (is_zero z)) → 1 ≤ d → (term z p ∷ []) ⊗ alone d q ≡ term (z *ℤ pos d) (times p q) ∷ []
  unfolding row
  alone-times h k = term-product (term z p) (alone d q) hp (hq, tt) (in_order-one (term (pos d) q)) h (alone-full d q k)

  alone-spread : product_spread (term z p ∷ []) (alone d q) ≡ 1
  alone-spread = term-spread (term z p) (alone d q) hp (hq, tt) (in_order-one (term (pos d) q))

-- ---- A power of a variable.

module _ (v : ℕ) where
  -- the letter itself
  abbrev unit : Term
  unit = term (pos 1) (only v 1)

  raised_is : (k : ℕ) → raised unit (only-long v 1) tt k ≡ term (pos 1) (only v (suc k))
  unfolding raised
  raised_is zero = refl
  raised_is (suc k) = ap (λ t. times_term t unit) (raised_is k) ∙ ap (term (pos 1)) (only-times variables v (suc k) 1 ∙ ap (only v) (add-one (suc k)))

  power-alone : (k : ℕ) → arithmetic.power variables (arithmetic.variable variables v) (suc k) ≡ alone 1 (only v (suc k))
  unfolding arithmetic.variable
  power-alone k = power-term unit (only-long v 1) tt k ∙ ap (λ t. t ∷ []) (raised_is k)

  narrow : (k : ℕ) → power_spread variables (arithmetic.variable variables v) (suc k) ≤ 1
  unfolding arithmetic.variable
  narrow k = power-narrow unit (only-long v 1) tt k

  raised-passing : (k : ℕ) → v < variables → suc k ≤ largest_degree → Passing (tree.Tree.raised (tree.Tree.letter v) (suc k)) (entry (suc k) 1 (alone 1 (only v (suc k))))
  raised-passing k inside low =
      let is : power_entry (entry 1 1 (arithmetic.variable variables v)) (suc k) ≡ entry (suc k) 1 (alone 1 (only v (suc k))) =
      entry-is (omega arith) (one-pow (suc k)) (power-alone k) in
      subst (Passing _) is
      (raised-to (letter inside) low (record { degree = omega arith; weight = omega (arith, one-pow (suc k)); spread = omega (arith, narrow k) }))

  power-passing : (k : ℕ) → v < variables → suc k ≤ largest_degree
      → Passing (letter_tree v (suc k)) (entry (suc k) 1 (alone 1 (only v (suc k))))
  unfolding letter_tree arithmetic.variable
  power-passing k inside low =
      decide (eqb (suc k) 1)
      (λ e. let z : k ≡ 0 = omega (arith, eqb-true (suc k) 1 e) in rw (e, z) (letter inside))
      (λ e. rw e (raised-passing k inside low))

-- ---- The powers of a pattern, one after the other.

module _ (c : ℕ) (some : 1 ≤ c) (light : c ≤ largest_weight) where
  times-passing : {t u : Tree} {d e : ℕ} (p q : Pattern) → length p ≡ variables → length q ≡ variables → d + e ≤ largest_degree
      → Passing t (entry d c (alone c p)) → Passing u (entry e 1 (alone 1 q)) → Passing (tree.Tree.times t u) (entry (d + e) c (alone c (times p q)))
  times-passing {d = d} {e = e} p q hp hq low a b =
      let one : c * 1 ≡ c = omega arith in
      let product = alone-times (pos c) 1 p q hp hq (some-not-zero c some) (omega arith) ∙ ap (λ (n : ℕ). alone n (times p q)) one in
      subst (Passing _) (entry-is refl one product)
      (multiplied a b (record { degree = low; weight = omega arith; spread = omega (arith, alone-spread (pos c) 1 p q hp hq) }))

  -- q has the exponents of the variables before v, which stand in t, and p those from v on
  powers-passing : (q p : Pattern) (v : ℕ) {t : Tree} → length q ≡ v → v + length p ≡ variables → degree q + degree p ≤ largest_degree
      → Passing t (entry (degree q) c (alone c (filled variables q))) → Passing (times_powers t (powers v p)) (entry (degree (q ++ p)) c (alone c (q ++ p)))
  unfolding powers times_powers degree
  powers-passing q [] v h k low a = rw append-nil (rw (filled-all variables q (omega arith)) at a)
  powers-passing q (zero ∷ p) v h k low a =
      let same : degree q ≡ degree (q ++ (0 ∷ [])) = omega (arith, degree-append q (0 ∷ [])) in
      let skipped = subst (Passing _) (entry-is same refl (ap (alone c) (sym (filled-skip variables q (omega arith))))) a in
      let all = append_snoc q 0 p in
      subst (Passing _) (entry-is (ap degree all) refl (ap (alone c) all))
      (powers-passing (q ++ (0 ∷ [])) p (suc v) (omega (arith, length-append q (0 ∷ []))) (omega arith) (omega arith) skipped)
  powers-passing q (suc e ∷ p) v h k low a =
      let added : degree q + suc e ≡ degree (q ++ (suc e ∷ [])) = omega (arith, degree-append q (suc e ∷ [])) in
      let next = ap (λ (m : ℕ). times (filled variables q) (only m (suc e))) (sym h) ∙ filled_next variables q (suc e) (omega arith) in
      let one_more = times-passing (filled variables q) (only v (suc e)) (filled-length variables q (omega arith)) (only-long v (suc e)) (omega arith) a (power-passing v e (omega arith) (omega arith)) in
      let all = append_snoc q (suc e) p in
      subst (Passing _) (entry-is (ap degree all) refl (ap (alone c) all))
      (powers-passing (q ++ (suc e ∷ [])) p (suc v) (omega (arith, length-append q (suc e ∷ []))) (omega arith) (omega arith)
      (subst (Passing _) (entry-is added refl (ap (alone c) next)) one_more))

-- the first power stands alone, and the others follow
abbrev Starts : List Power → Entry → Type 0
Starts [] e = Unit {0}
Starts (f ∷ fs) e = Passing (times_powers (power_tree f) fs) e

starts : (p : Pattern) (v : ℕ) → v + length p ≡ variables → degree p ≤ largest_degree → Starts (powers v p) (entry (degree p) 1 (alone 1 (empty_pattern v ++ p)))
unfolding powers degree
starts [] v k low = tt
starts (zero ∷ p) v k low =
    let same : degree p ≡ 0 + degree p = omega arith in
    subst (Starts (powers (suc v) p)) (entry-is same refl (ap (alone 1) (empty-next v p))) (starts p (suc v) (omega arith) (omega arith))
starts (suc e ∷ p) v k low =
    let q : Pattern = empty_pattern v ++ (suc e ∷ []) in
    let own : suc e ≡ degree q = omega (arith, degree-append (empty_pattern v) (suc e ∷ []), empty-degree v) in
    let first = subst (Passing _) (entry-is own refl (ap (alone 1) (only-filled variables v (suc e) (omega arith)))) (power-passing v e (omega arith) (omega arith)) in
    let rest = powers-passing 1 (omega arith) (omega arith) q p (suc v) (omega (arith, length-append (empty_pattern v) (suc e ∷ []), empty-length v)) (omega arith) (omega arith) first in
    let all = append_snoc (empty_pattern v) (suc e) p in
    let whole : degree (q ++ p) ≡ suc e + degree p = omega (arith, degree-append q p) in
    subst (Passing _) (entry-is whole refl (ap (alone 1) all)) rest

-- ---- A term.

module _ (c : ℕ) (some : 1 ≤ c) (light : c ≤ largest_weight) where
  -- 1 is not written where letters are
  pick : (fs : List Power) {e : Entry} → Passing (times_powers (tree.Tree.number c) fs) e → (c ≡ 1 → Starts fs e) → Passing (factors_tree c fs) e
  unfolding factors_tree
  pick [] a b = unfold times_powers in a
  pick (f ∷ fs) a b = decide (eqb c 1) (λ e. rw e (b (eqb-true c 1 e))) (λ e. rw e a)

  number-passing : Passing (tree.Tree.number c) (entry (degree []) c (alone c (filled variables [])))
  unfolding degree
  number-passing = subst (Passing _) (entry-is refl refl (alone-is c some)) (number light)
    where
      alone-is : (c : ℕ) → 1 ≤ c → arithmetic.integer variables (pos c) ≡ alone c (filled variables [])
      alone-is zero h = absurd (omega arith)
      alone-is (suc c) h = unfold arithmetic.integer collect gather insert drop_zeros keep in refl

  factors-passing : (p : Pattern) → length p ≡ variables → degree p ≤ largest_degree → Passing (factors_tree c (powers 0 p)) (entry (degree p) c (alone c p))
  factors-passing p long low =
      pick (powers 0 p)
      (powers-passing c some light [] p 0 refl (omega arith) (unfold degree in omega arith) number-passing)
      (λ e. subst (λ (k : ℕ). Starts (powers 0 p) (entry (degree p) k (alone k p))) (sym e) (starts p 0 (omega arith) low))

-- -1, times a term
minus_one : arithmetic.integer variables (negsuc 0) ≡ term (negsuc 0) (empty_pattern variables) ∷ []
unfolding arithmetic.integer collect gather insert drop_zeros keep
minus_one = refl

module _ (n : ℕ) (p : Pattern) (long : length p ≡ variables) where
  negated : arithmetic.integer variables (negsuc 0) ⊗ alone (suc n) p ≡ term (negsuc n) p ∷ []
  negated =
      ap (λ s. s ⊗ alone (suc n) p) minus_one
      ∙ alone-times (negsuc 0) (suc n) (empty_pattern variables) p (empty-length variables) long tt (omega arith)
      ∙ ap₂ (λ z q. term z q ∷ []) (negℤ-*ℤ (pos 1) (pos (suc n)) ∙ ap neg_ℤ (one-*ℤ (pos (suc n)))) (empty-times variables p long)

  negated-spread : product_spread (arithmetic.integer variables (negsuc 0)) (alone (suc n) p) ≡ 1
  negated-spread = ap (λ s. product_spread s (alone (suc n) p)) minus_one ∙ alone-spread (negsuc 0) (suc n) (empty_pattern variables) p (empty-length variables) long

pub term-passing : (c : ℤ) (p : Pattern) → T (not (is_zero c)) → nat_abs c ≤ largest_weight → length p ≡ variables → degree p ≤ largest_degree
    → Passing (term_tree (term c p)) (entry (degree p) (nat_abs c) (term c p ∷ []))
unfolding term_tree signed_tree
term-passing (pos zero) p some light long low = absurd some
term-passing (pos (suc n)) p some light long low = factors-passing (suc n) (omega arith) light p long low
term-passing (negsuc n) p some light long low =
    subst (Passing _) (entry-is (omega arith) (omega arith) (negated n p long))
    (minus (factors-passing (suc n) (omega arith) light p long low)
    (record { degree = omega arith; weight = omega arith; spread = omega (arith, negated-spread n p long) }))
