-- The last sum of nodes that have passed is what their formula means, and a formula means one sum.
use mathlib.Core.Path.{◌≡◌, refl, sym, ◌∙◌, ap, ap₂}
use mathlib.Core.List.{List, [], ◌∷◌, ◌++◌}
use Prim.Native.Nat.{ℕ, zero, suc, ◌-◌}
use lib.Dec.{T, ltb→lt}
use lib.IntN.{ℤ, pos, ◌+ℤ◌, ◌*ℤ◌, pow}
use lib.ListN.{length, get_or}
use Rattle.algebra.specs.Limits.{variables}
use Rattle.algebra.specs.Pattern.{Pattern}
use Rattle.algebra.specs.Sum.{Sum, ordered}
use Rattle.algebra.specs.Accepted.{Accepted}
use Rattle.algebra.specs.Arithmetic as arithmetic
use Rattle.algebra.specs.Value.{total, value, coefficient, splits, over_splits}
use Rattle.algebra.proofs.Sums.Values.{integer-value, variable-value, sum-value, product_value, power-value}
use Rattle.algebra.proofs.Sums.Coefficients.{integer-coefficient, unit-coefficient, variable-coefficient, sum-coefficient}
use Rattle.algebra.proofs.Sums.Splits.{product-coefficient, power-coefficient}
use Rattle.algebra.proofs.Sums.Ordered.{ordered-variables}
use Rattle.algebra.proofs.Sums.Equal.{ordered-equal}
use Rattle.nodes.specs.Node.{Kind, Kind.integer, Kind.variable, Kind.sum, Kind.product, Kind.power, is_node}
use Rattle.nodes.specs.Formal.{node_sum}
use Rattle.formula.specs.Table.{Entry, sums, entry_of}
use Rattle.formula.specs.Simplify.{last_sum}
use Rattle.formula.specs.Checks.{Passed, Passed.none, Passed.more}
use Rattle.formula.specs.Meaning.{each_node, last_node, node_value, formula_value, Coefficients, nowhere, repeated, node_coefficients, formula_coefficient, Means}
use Rattle.formula.proofs.Sound.{AllSound, sum_of, sound-accepted, sound-at}
use Rattle.formula.proofs.Passing.{passed-sound, passed_length}

-- ---- The sums of the nodes that have passed can be packed.

accepted-at : (es : List Entry) → AllSound es → (j : ℕ) → Accepted variables (get_or (sums es) j [])
accepted-at es all j = rw (sum_of es j) (sound-accepted (sound-at es all j))

pub last-accepted : {ks : List Kind} {es : List Entry} → Passed ks es → Accepted variables (last_sum es)
last-accepted {es = es} p = accepted-at es (passed-sound p) (length es - 1)

-- ---- The sums of the nodes, and what the nodes give, one beside the other.

data Along {A : Type 0} (P : Sum → A → Type 0) : List Entry → List A → Type 0 where
  end : Along P [] []
  next : {e : Entry} {a : A} {es : List Entry} {given : List A} → P e.sum a → Along P es given → Along P (e ∷ es) (a ∷ given)

each_more : {A : Type 0} (step : List A → Kind → A) (before : List A) (ks : List Kind) (k : Kind)
    → each_node step before (ks ++ (k ∷ [])) ≡ each_node step before ks ++ (step (each_node step before ks) k ∷ [])
unfolding each_node
each_more step before [] k = refl
each_more step before (j ∷ ks) k = each_more step (before ++ (step before j ∷ [])) ks k

-- P relates a sum to what is given for it, the zero sum to `nothing`
module _ {A : Type 0} (P : Sum → A → Type 0) (nothing : A) (at_zero : P [] nothing) where
  along-at : {es : List Entry} {given : List A} → Along P es given → (j : ℕ) → P (get_or (sums es) j []) (get_or given j nothing)
  along-at end j = at_zero
  along-at (next h r) zero = h
  along-at (next h r) (suc j) = along-at r j

  along-more : (e : Entry) {a : A} {es : List Entry} {given : List A} → Along P es given → P e.sum a → Along P (es ++ (e ∷ [])) (given ++ (a ∷ []))
  along-more e end p = next p end
  along-more e (next h r) p = next h (along-more e r p)

  -- a step keeps P, for sums that are accepted
  abbrev Keeps : (List A → Kind → A) → Type 0
  Keeps step =
      (ss : List Sum) (given : List A) → ((j : ℕ) → Accepted variables (get_or ss j [])) → ((j : ℕ) → P (get_or ss j []) (get_or given j nothing))
      → (i : ℕ) (k : Kind) → T (is_node i k) → P (node_sum ss k) (step given k)

  passed-along : (step : List A → Kind → A) → Keeps step → {ks : List Kind} {es : List Entry} → Passed ks es → Along P es (each_node step [] ks)
  unfolding each_node
  passed-along step keeps none = end
  passed-along step keeps (more {ks = ks} {before = before} {k = k} p q) =
      let r = passed-along step keeps p in
      let given = each_node step [] ks in
      rw (each_more step [] ks k)
      (along-more (entry_of before k) r (keeps (sums before) given (accepted-at before (passed-sound p)) (along-at r) (length before) k q.node))

  passed-last : (step : List A → Kind → A) → Keeps step → {ks : List Kind} {es : List Entry} → Passed ks es → P (last_sum es) (last_node nothing step ks)
  passed-last step keeps {ks} p = rw (passed_length p) (along-at (passed-along step keeps p) (length ks - 1))

-- ---- Values.

module _ (x : List ℤ) where
  abbrev HasValue : Sum → ℤ → Type 0
  HasValue s v = value s x ≡ v

  zero-value : HasValue [] (pos 0)
  unfolding value total
  zero-value = refl

  value_keeps : Keeps HasValue (pos 0) zero-value (node_value x)
  unfolding node_sum node_value
  value_keeps ss vs o h i (integer n) t = integer-value variables n x
  value_keeps ss vs o h i (variable v) t = variable-value variables v x (ltb→lt v variables t)
  value_keeps ss vs o h i (sum a b) t = sum-value (get_or ss a []) (get_or ss b []) x ∙ ap₂ ◌+ℤ◌ (h a) (h b)
  value_keeps ss vs o h i (product a b) t = product_value (get_or ss a []) (get_or ss b []) x ∙ ap₂ ◌*ℤ◌ (h a) (h b)
  value_keeps ss vs o h i (power a e) t = power-value variables (get_or ss a []) e x ∙ ap (λ z. pow z e) (h a)

-- ---- Coefficients.

abbrev HasCoefficients : Sum → Coefficients → Type 0
HasCoefficients s f = (r : Pattern) → coefficient s r ≡ f r

zero-coefficients : HasCoefficients [] nowhere
unfolding coefficient total
zero-coefficients r = refl

power-repeated : (s : Sum) (f : Coefficients) → T (ordered variables s) → HasCoefficients s f
    → (e : ℕ) → HasCoefficients (arithmetic.power variables s e) (repeated f e)
unfolding repeated
power-repeated s f o h zero r = unfold arithmetic.power in unit-coefficient variables r
power-repeated s f o h (suc e) r = power-coefficient variables s e o r ∙ (λ i. over_splits (λ p q. power-repeated s f o h e p i *ℤ h q i) (splits r))

coefficients-keep : Keeps HasCoefficients nowhere zero-coefficients node_coefficients
unfolding node_sum node_coefficients
coefficients-keep ss fs o h i (integer n) t r = integer-coefficient variables n r
coefficients-keep ss fs o h i (variable v) t r = variable-coefficient variables v r
coefficients-keep ss fs o h i (sum a b) t r = sum-coefficient (get_or ss a []) (get_or ss b []) r ∙ ap₂ ◌+ℤ◌ (h a r) (h b r)
coefficients-keep ss fs o h i (product a b) t r =
    product-coefficient variables (get_or ss a []) (get_or ss b []) (ordered-variables variables (get_or ss a []) (o a).is_ordered)
    (ordered-variables variables (get_or ss b []) (o b).is_ordered) r
    ∙ (λ j. over_splits (λ p q. h a p j *ℤ h b q j) (splits r))
coefficients-keep ss fs o h i (power a e) t r = power-repeated (get_or ss a []) (get_or fs a nowhere) (o a).is_ordered (h a) e r

-- ---- The sum that ordinary algebra gives a formula.

pub passed-means : {ks : List Kind} {es : List Entry} → Passed ks es → Means ks (last_sum es)
unfolding formula_value formula_coefficient
passed-means p =
    record {
      is_ordered = (last-accepted p).is_ordered;
      values = λ x. passed-last (HasValue x) (pos 0) (zero-value x) (node_value x) (value_keeps x) p;
      coefficients = passed-last HasCoefficients nowhere zero-coefficients node_coefficients coefficients-keep p;
    }

pub means-one : {ks : List Kind} {s t : Sum} → Means ks s → Means ks t → s ≡ t
means-one {s = s} {t = t} m n = ordered-equal variables s t m.is_ordered n.is_ordered (λ r h. m.coefficients r ∙ sym (n.coefficients r))
