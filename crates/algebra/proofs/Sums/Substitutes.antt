-- Sums put for variables: the value is the value at the replaced variables, one pair is a case of all at once, and results are bounded as 01 counts them.
use mathlib.Core.Path.{◌≡◌, refl, sym, ◌∙◌, ap, ap₂}
use mathlib.Core.List.{List, [], ◌∷◌}
use Prim.Native.Nat.{ℕ, zero, suc, ◌+◌, ◌*◌, ◌≤◌, ◌<◌}
use native.Mathlib.Omega.{arith}
use native.Mathlib.Nat.{le_refl, le_trans, le-max_left, le-max_right, mul-le-mul_left}
use lib.Dec.{T}
use lib.IntN.{ℤ, pos, nat_abs, ◌+ℤ◌, ◌*ℤ◌, *ℤ_comm, pow, one}
use lib.ListN.{length, set, length-set}
use Rattle.algebra.specs.Pattern.{Pattern, times, degree, exponent, without}
use Rattle.algebra.specs.Sum.{term, Sum, ordered, degree_of, weight}
use Rattle.algebra.specs.Collect.{collect, spread}
use Rattle.algebra.specs.Arithmetic.{one_sum, row, power}
use Rattle.algebra.specs.Value.{total, pattern_value, value}
use Rattle.algebra.specs.Substitute.{rows, pair_factor, pair_rows, substitute, pair_degree, pair_weight, pair_spread, Put, kept, put, others, put_factor, put_all, replaced_from, replaced, only_put}
use Rattle.algebra.proofs.Numbers.Whole.{*ℤ-assoc, one-*ℤ, *ℤ-oner, *ℤ-left-comm}
use Rattle.algebra.proofs.Patterns.Laws.{times-length, times-degree}
use Rattle.algebra.proofs.Sums.Every.{Every, every_map, append-every, collect-every, row-every, Long, UpTo, degree-every, every-degree}
use Rattle.algebra.proofs.Sums.Ordered.{parts, collect-ordered}
use Rattle.algebra.proofs.Sums.Occurs.{collect-length}
use Rattle.algebra.proofs.Sums.Values.{collect-value, append-value, cons-value, unit-value, row-value, product_value, power-value}
use Rattle.algebra.proofs.Sums.Ring.{product-comm, unit-product}
use Rattle.algebra.proofs.Sums.Results.{unit-ordered, product-ordered, power-ordered, power-degree, collect-weight, append-weight, row-weight, power-weight}

-- ---- Values: it is enough to look at one pattern.

rows-value : (other : Pattern → Pattern) (factor : Pattern → Sum) (x y : List ℤ)
    → ((p : Pattern) → pattern_value (other p) x *ℤ value (factor p) x ≡ pattern_value p y) → (s : Sum) → value (rows other factor s) x ≡ value s y
unfolding rows
rows-value other factor x y h [] = unfold value total in refl
rows-value other factor x y h (t ∷ s) =
    append-value (row (term t.coefficient (other t.pattern)) (factor t.pattern)) (rows other factor s) x
    ∙ ap₂ ◌+ℤ◌
    (row-value (term t.coefficient (other t.pattern)) (factor t.pattern) x
    ∙ *ℤ-assoc t.coefficient (pattern_value (other t.pattern) x) (value (factor t.pattern) x) ∙ ap (λ z. t.coefficient *ℤ z) (h t.pattern))
    (rows-value other factor x y h s)
    ∙ sym (cons-value t s y)

put-pattern : (n : ℕ) (x : List ℤ) (ws : List Put) (p : Pattern) (y : List ℤ) → length ws ≤ length y
    → pattern_value (others ws p) y *ℤ value (put_factor n ws p) x ≡ pattern_value p (replaced_from x ws y)
unfolding others put_factor replaced_from pattern_value pow one
put-pattern n x [] p y h = ap (λ z. pattern_value p y *ℤ z) (unit-value n x) ∙ *ℤ-oner (pattern_value p y)
put-pattern n x (w ∷ ws) [] y h = ap (λ z. pos 1 *ℤ z) (unit-value n x)
put-pattern n x (w ∷ ws) (e ∷ p) [] h = absurd (omega arith)
put-pattern n x (kept ∷ ws) (e ∷ p) (a ∷ y) h =
    *ℤ-assoc (pow a e) (pattern_value (others ws p) y) (value (put_factor n ws p) x) ∙ ap (λ z. pow a e *ℤ z) (put-pattern n x ws p y (omega arith))
put-pattern n x (put S ∷ ws) (e ∷ p) (a ∷ y) h =
    ap₂ ◌*ℤ◌ (one-*ℤ (pattern_value (others ws p) y)) (product_value (power n S e) (put_factor n ws p) x ∙ ap (λ z. z *ℤ value (put_factor n ws p) x) (power-value n S e x))
    ∙ *ℤ-left-comm (pattern_value (others ws p) y) (pow (value S x) e) (value (put_factor n ws p) x)
    ∙ ap (λ z. pow (value S x) e *ℤ z) (put-pattern n x ws p y (omega arith))

-- all at once: the value at the values that the variables then stand for
pub put-value : (n : ℕ) (ws : List Put) (s : Sum) (x : List ℤ) → length ws ≤ length x → value (put_all n ws s) x ≡ value s (replaced ws x)
unfolding put_all
put-value n ws s x h = collect-value (rows (others ws) (put_factor n ws) s) x ∙ rows-value (others ws) (put_factor n ws) x (replaced ws x) (λ p. put-pattern n x ws p x h) s

pair-pattern : (v : ℕ) (z : ℤ) (p : Pattern) (x : List ℤ) → v < length x → pattern_value (without v p) x *ℤ pow z (exponent v p) ≡ pattern_value p (set x v z)
unfolding pattern_value pow one
pair-pattern v z [] x h = refl
pair-pattern v z (e ∷ p) [] h = absurd (omega arith)
pair-pattern zero z (e ∷ p) (a ∷ x) h = ap (λ w. w *ℤ pow z e) (one-*ℤ (pattern_value p x)) ∙ *ℤ_comm (pattern_value p x) (pow z e)
pair-pattern (suc v) z (e ∷ p) (a ∷ x) h =
    *ℤ-assoc (pow a e) (pattern_value (without v p) x) (pow z (exponent v p)) ∙ ap (λ w. pow a e *ℤ w) (pair-pattern v z p x (omega arith))

-- one pair: the value with the variable's value replaced
pub substitute-value : (n v : ℕ) (S s : Sum) (x : List ℤ) → v < length x → value (substitute n v S s) x ≡ value s (set x v (value S x))
unfolding substitute pair_rows
substitute-value n v S s x h =
    collect-value (rows (without v) (pair_factor n v S) s) x
    ∙ rows-value (without v) (pair_factor n v S) x (set x v (value S x)) (λ p. ap (λ z. pattern_value (without v p) x *ℤ z) (power-value n S (exponent v p) x) ∙ pair-pattern v (value S x) p x h) s

-- ---- One pair is a case of all at once.

others-only : (v : ℕ) (S : Sum) (p : Pattern) → without v p ≡ others (only_put v S) p
unfolding others only_put
others-only zero S [] = refl
others-only zero S (e ∷ p) = refl
others-only (suc v) S [] = refl
others-only (suc v) S (e ∷ p) = ap (λ q. e ∷ q) (others-only v S p)

factor-only : (n v : ℕ) (S : Sum) (p : Pattern) → T (ordered n S) → pair_factor n v S p ≡ put_factor n (only_put v S) p
unfolding put_factor only_put
factor-only n zero S [] h = unfold power in refl
factor-only n zero S (e ∷ p) h = sym (product-comm (power n S e) (one_sum n) ∙ unit-product n (power n S e) (power-ordered n S e h))
factor-only n (suc v) S [] h = unfold power in refl
factor-only n (suc v) S (e ∷ p) h = factor-only n v S p h

pub substitute-put : (n v : ℕ) (S s : Sum) → T (ordered n S) → substitute n v S s ≡ put_all n (only_put v S) s
unfolding substitute pair_rows put_all
substitute-put n v S s h i = collect (rows (λ p. others-only v S p i) (λ p. factor-only n v S p h i) s)

-- ---- Ordered.

rows-every : (P Q R : Pattern → Type 0) → ((p q : Pattern) → P p → Q q → R (times p q)) → (other : Pattern → Pattern) (factor : Pattern → Sum)
    → (s : Sum) → Every (λ p. (P (other p)) × (Every Q (factor p))) s → Every R (rows other factor s)
unfolding rows
rows-every P Q R H other factor [] h = tt
rows-every P Q R H other factor (t ∷ s) h =
    append-every R (row (term t.coefficient (other t.pattern)) (factor t.pattern)) (rows other factor s)
    (row-every P Q R H (term t.coefficient (other t.pattern)) (factor t.pattern) h.0.0 h.0.1) (rows-every P Q R H other factor s h.1)

pub substitute-ordered : (n v : ℕ) (S s : Sum) → T (ordered n S) → T (ordered n s) → T (ordered n (substitute n v S s))
unfolding substitute pair_rows
substitute-ordered n v S s h k =
    collect-ordered n (rows (without v) (pair_factor n v S) s)
    (rows-every (Long n) (Long n) (Long n) (times-length n) (without v) (pair_factor n v S) s
    (every_map (λ p l. (length-set p v 0 ∙ l, (parts n (power n S (exponent v p)) (power-ordered n S (exponent v p) h)).long)) s (parts n s k).long))

-- the sums that are put are ordered
abbrev pub EachOrdered : ℕ → List Put → Type 0
EachOrdered n [] = Unit {0}
EachOrdered n (kept ∷ ws) = EachOrdered n ws
EachOrdered n (put S ∷ ws) = T (ordered n S) × EachOrdered n ws

others-length : (ws : List Put) (p : Pattern) → length (others ws p) ≡ length p
unfolding others
others-length [] p = refl
others-length (w ∷ ws) [] = refl
others-length (kept ∷ ws) (e ∷ p) = ap suc (others-length ws p)
others-length (put S ∷ ws) (e ∷ p) = ap suc (others-length ws p)

factor-ordered : (n : ℕ) (ws : List Put) (p : Pattern) → EachOrdered n ws → T (ordered n (put_factor n ws p))
unfolding put_factor
factor-ordered n [] p h = unit-ordered n
factor-ordered n (w ∷ ws) [] h = unit-ordered n
factor-ordered n (kept ∷ ws) (e ∷ p) h = factor-ordered n ws p h
factor-ordered n (put S ∷ ws) (e ∷ p) h = product-ordered n (power n S e) (put_factor n ws p) (power-ordered n S e h.0) (factor-ordered n ws p h.1)

pub put-ordered : (n : ℕ) (ws : List Put) (s : Sum) → EachOrdered n ws → T (ordered n s) → T (ordered n (put_all n ws s))
unfolding put_all
put-ordered n ws s h k =
    collect-ordered n (rows (others ws) (put_factor n ws) s)
    (rows-every (Long n) (Long n) (Long n) (times-length n) (others ws) (put_factor n ws) s
    (every_map (λ p l. (others-length ws p ∙ l, (parts n (put_factor n ws p) (factor-ordered n ws p h)).long)) s (parts n s k).long))

-- ---- Degree, weight and number of terms of one pair.

pair-degrees : (n v : ℕ) (S s : Sum) (m : ℕ) → pair_degree v S s ≤ m → Every (UpTo m) (rows (without v) (pair_factor n v S) s)
unfolding pair_degree rows
pair-degrees n v S [] m h = tt
pair-degrees n v S (t ∷ s) m h =
    let other = degree (without v t.pattern) in
    let most = exponent v t.pattern * degree_of S in
    let here = le_trans (le-max_left (other + most) (pair_degree v S s)) h in
    let u = term t.coefficient (without v t.pattern) in
    append-every (UpTo m) (row u (pair_factor n v S t.pattern)) (rows (without v) (pair_factor n v S) s)
    (row-every (UpTo other) (UpTo most) (UpTo m) (λ p q a b. le_trans (times-degree other most p q a b) here) u (pair_factor n v S t.pattern)
    (le_refl other) (degree-every most (pair_factor n v S t.pattern) (power-degree n S (exponent v t.pattern))))
    (pair-degrees n v S s m (le_trans (le-max_right (other + most) (pair_degree v S s)) h))

pub substitute-degree : (n v : ℕ) (S s : Sum) → degree_of (substitute n v S s) ≤ pair_degree v S s
unfolding substitute pair_rows
substitute-degree n v S s =
    every-degree _ (collect (rows (without v) (pair_factor n v S) s)) (collect-every (UpTo (pair_degree v S s)) (rows (without v) (pair_factor n v S) s) (pair-degrees n v S s (pair_degree v S s) (le_refl _)))

pub pair-weights : (n v : ℕ) (S s : Sum) → weight (pair_rows n v S s) ≤ pair_weight v S s
unfolding pair_rows rows pair_weight weight
pair-weights n v S [] = omega arith
pair-weights n v S (t ∷ s) = omega (
  arith,
  append-weight (row (term t.coefficient (without v t.pattern)) (pair_factor n v S t.pattern)) (rows (without v) (pair_factor n v S) s),
  row-weight (term t.coefficient (without v t.pattern)) (pair_factor n v S t.pattern),
  mul-le-mul_left (nat_abs t.coefficient) (power-weight n S (exponent v t.pattern)),
  pair-weights n v S s,
)

pub substitute-weight : (n v : ℕ) (S s : Sum) → weight (substitute n v S s) ≤ pair_weight v S s
unfolding substitute
substitute-weight n v S s = le_trans (collect-weight (pair_rows n v S s)) (pair-weights n v S s)

pub substitute-length : (n v : ℕ) (S s : Sum) → length (substitute n v S s) ≤ pair_spread n v S s
unfolding substitute pair_spread
substitute-length n v S s = le_trans (collect-length (pair_rows n v S s)) (le-max_right _ (spread (pair_rows n v S s)))
