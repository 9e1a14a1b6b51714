-- Nodes that have passed: their ordered sums are within the formal numbers, and those within the limits.
use mathlib.Core.Path.{◌≡◌, ◌∙◌, ap}
use mathlib.Core.List.{List, [], ◌∷◌, ◌++◌, map}
use Prim.Native.Nat.{ℕ, ◌+◌, ◌≤◌, ◌<◌}
use native.Mathlib.Omega.{arith}
use native.Mathlib.Decide.{dec_lt}
use native.Mathlib.Nat.{le_trans, mul_comm, mul-le-mul, mul-le-mul_left, mul-le-mul_right, pow-le-pow_left}
use lib.Dec.{T}
use lib.ListN.{length, get_or, length-append, get_or-append, get_or-eq_default, get_or-map}
use lib.Seq.{get_or_at}
use Rattle.algebra.specs.Limits.{variables, largest_degree, most_terms, largest_weight}
use Rattle.algebra.specs.Sum.{in_order, no_zero, in_variables, ordered, degree_of, weight}
use Rattle.algebra.specs.Accepted.{Accepted}
use Rattle.algebra.specs.Arithmetic as arithmetic
use Rattle.algebra.proofs.Sums.Results.{variable-ordered, integer-ordered, sum-ordered, product-ordered, power-ordered, sum-degree, product-degree, power-degree, integer-degree, variable-degree, integer-weight, variable-weight, sum-weight, product-weight, power-weight, integer-length, sum-length, product-length, power-length-any}
use Rattle.nodes.specs.Node.{Kind, Kind.integer, Kind.variable, Kind.sum, Kind.product, Kind.power, is_node}
use Rattle.nodes.specs.Formal.{formal_degree, formal_weight, node_spread, node_sum}
use Rattle.formula.specs.Table.{Entry, entry, degrees, weights, sums, entry_of}
use Rattle.nodes.proofs.Formally.{two-children, base-child}

pub record Sound (e : Entry) : Type 0 where
  pub is_ordered : T (ordered variables e.sum)
  pub lower : degree_of e.sum ≤ e.degree
  pub lighter : weight e.sum ≤ e.weight
  pub few : length e.sum ≤ most_terms
  pub low : e.degree ≤ largest_degree
  pub light : e.weight ≤ largest_weight

-- such a node's sum can be packed
pub sound-accepted : {e : Entry} → Sound e → Accepted variables e.sum
sound-accepted s = record { is_ordered = s.is_ordered; light = omega (arith, s.light, s.lighter); low = omega (arith, s.low, s.lower); few = s.few }

-- ---- The nodes before.

-- node j (one that is not there counts as the zero sum)
abbrev pub node_at : List Entry → ℕ → Entry
node_at es j = get_or es j (entry 0 0 [])

abbrev pub AllSound : List Entry → Type 0
AllSound es = (j : ℕ) → j < length es → Sound (node_at es j)

pub none-sound : AllSound []
none-sound j h = absurd (omega arith)

pub more-sound : (es : List Entry) (e : Entry) → AllSound es → Sound e → AllSound (es ++ (e ∷ []))
more-sound es e all s j h = go (dec_lt j (length es))
  where
    last : length (es ++ (e ∷ [])) ≡ length es + 1
    last = length-append es (e ∷ [])

    go : Dec (j < length es) → Sound (node_at (es ++ (e ∷ [])) j)
    go (yes k) = rw (get_or-append es (e ∷ []) (entry 0 0 []) j k) (all j k)
    go (no k) = rw (get_or_at es e [] (entry 0 0 []) j (omega (arith, h, last, k))) s

module _ (es : List Entry) (j : ℕ) where
  pub degree-of : get_or (degrees es) j 0 ≡ (node_at es j).degree
  degree-of = get_or-map (λ (e : Entry). e.degree) es j (entry 0 0 [])

  pub weight-of : get_or (weights es) j 0 ≡ (node_at es j).weight
  weight-of = get_or-map (λ (e : Entry). e.weight) es j (entry 0 0 [])

  pub sum_of : get_or (sums es) j [] ≡ (node_at es j).sum
  sum_of = get_or-map (λ (e : Entry). e.sum) es j (entry 0 0 [])

  own-degree-of : get_or (map degree_of (sums es)) j 0 ≡ degree_of (node_at es j).sum
  unfolding degree_of
  own-degree-of = get_or-map degree_of (sums es) j [] ∙ ap degree_of sum_of

  own-weight-of : get_or (map weight (sums es)) j 0 ≡ weight (node_at es j).sum
  unfolding weight
  own-weight-of = get_or-map weight (sums es) j [] ∙ ap weight sum_of

-- ---- A node whose children have passed, and that passes itself.

module _ (es : List Entry) (all : AllSound es) where
  ordered-kind : (k : Kind) → T (is_node (length es) k) → T (ordered variables (node_sum (sums es) k))
  unfolding node_sum
  ordered-kind (integer n) t = integer-ordered variables n
  ordered-kind (variable v) t = variable-ordered variables v
  ordered-kind (sum a b) t =
      let c = two-children (length es) a b t in
      rw (sum_of es a, sum_of es b) (sum-ordered variables (node_at es a).sum (node_at es b).sum (all a c.0).is_ordered (all b c.1).is_ordered)
  ordered-kind (product a b) t =
      let c = two-children (length es) a b t in
      rw (sum_of es a, sum_of es b) (product-ordered variables (node_at es a).sum (node_at es b).sum (all a c.0).is_ordered (all b c.1).is_ordered)
  ordered-kind (power a e) t =
      rw (sum_of es a) (power-ordered variables (node_at es a).sum e (all a (base-child (length es) a e t).0).is_ordered)

  lower-kind : (k : Kind) → T (is_node (length es) k) → degree_of (node_sum (sums es) k) ≤ formal_degree (degrees es) k
  unfolding node_sum formal_degree
  lower-kind (integer n) t = omega (arith, integer-degree variables n)
  lower-kind (variable v) t = variable-degree variables v
  lower-kind (sum a b) t =
      let c = two-children (length es) a b t in
      rw (sum_of es a, sum_of es b, degree-of es a, degree-of es b)
      (omega (arith, sum-degree (node_at es a).sum (node_at es b).sum, (all a c.0).lower, (all b c.1).lower))
  lower-kind (product a b) t =
      let c = two-children (length es) a b t in
      rw (sum_of es a, sum_of es b, degree-of es a, degree-of es b)
      (omega (arith, product-degree (node_at es a).sum (node_at es b).sum, (all a c.0).lower, (all b c.1).lower))
  lower-kind (power a e) t =
      let low = (all a (base-child (length es) a e t).0).lower in
      rw (sum_of es a, degree-of es a, mul_comm (node_at es a).degree e)
      (le_trans (power-degree variables (node_at es a).sum e) (mul-le-mul_left e low))

  lighter-kind : (k : Kind) → T (is_node (length es) k) → weight (node_sum (sums es) k) ≤ formal_weight (weights es) k
  unfolding node_sum formal_weight
  lighter-kind (integer n) t = integer-weight variables n
  lighter-kind (variable v) t = omega (arith, variable-weight variables v)
  lighter-kind (sum a b) t =
      let c = two-children (length es) a b t in
      rw (sum_of es a, sum_of es b, weight-of es a, weight-of es b)
      (omega (arith, sum-weight (node_at es a).sum (node_at es b).sum, (all a c.0).lighter, (all b c.1).lighter))
  lighter-kind (product a b) t =
      let c = two-children (length es) a b t in
      rw (sum_of es a, sum_of es b, weight-of es a, weight-of es b)
      (le_trans (product-weight (node_at es a).sum (node_at es b).sum) (mul-le-mul (all a c.0).lighter (all b c.1).lighter))
  lighter-kind (power a e) t =
      rw (sum_of es a, weight-of es a)
      (le_trans (power-weight variables (node_at es a).sum e) (pow-le-pow_left (all a (base-child (length es) a e t).0).lighter e))

  few-kind : (k : Kind) → T (is_node (length es) k) → node_spread (sums es) k ≤ most_terms → length (node_sum (sums es) k) ≤ most_terms
  unfolding node_sum node_spread
  few-kind (integer n) t h = omega (arith, integer-length variables n)
  few-kind (variable v) t h = unfold arithmetic.variable in omega arith
  few-kind (sum a b) t h = le_trans (sum-length (get_or (sums es) a []) (get_or (sums es) b [])) h
  few-kind (product a b) t h = le_trans (product-length (get_or (sums es) a []) (get_or (sums es) b [])) h
  few-kind (power a e) t h =
      let few = (all a (base-child (length es) a e t).0).few in
      let one = power-length-any variables (get_or (sums es) a []) e in
      let same : length (get_or (sums es) a []) ≡ length (node_at es a).sum = ap length (sum_of es a) in
      omega (arith, few, one, same, h)

  pub entry-sound : (k : Kind) → T (is_node (length es) k) → formal_degree (degrees es) k ≤ largest_degree → formal_weight (weights es) k ≤ largest_weight
      → node_spread (sums es) k ≤ most_terms → Sound (entry_of es k)
  entry-sound k t d w s =
      record {
        is_ordered = ordered-kind k t;
        lower = lower-kind k t;
        lighter = lighter-kind k t;
        few = few-kind k t s;
        low = d;
        light = w;
      }

-- ---- The degrees and the weights of the sums themselves.

-- larger numbers of the children give larger ones
module _ (ms ns : List ℕ) (below : (j : ℕ) → get_or ms j 0 ≤ get_or ns j 0) where
  degree-grows : (k : Kind) → formal_degree ms k ≤ formal_degree ns k
  unfolding formal_degree
  degree-grows (integer n) = omega arith
  degree-grows (variable v) = omega arith
  degree-grows (sum a b) = omega (arith, below a, below b)
  degree-grows (product a b) = omega (arith, below a, below b)
  degree-grows (power a e) = mul-le-mul_right e (below a)

  weight-grows : (k : Kind) → formal_weight ms k ≤ formal_weight ns k
  unfolding formal_weight
  weight-grows (integer n) = omega arith
  weight-grows (variable v) = omega arith
  weight-grows (sum a b) = omega (arith, below a, below b)
  weight-grows (product a b) = mul-le-mul (below a) (below b)
  weight-grows (power a e) = pow-le-pow_left (below a) e

zero-sound : Sound (entry 0 0 [])
unfolding ordered in_order no_zero in_variables weight degree_of
zero-sound = record { is_ordered = tt; lower = omega arith; lighter = omega arith; few = omega arith; low = omega arith; light = omega arith }

module _ (es : List Entry) (all : AllSound es) where
  pub sound-at : (j : ℕ) → Sound (node_at es j)
  sound-at j = go (dec_lt j (length es))
    where
      go : Dec (j < length es) → Sound (node_at es j)
      go (yes h) = all j h
      go (no h) = rw (get_or-eq_default es (entry 0 0 []) {n = j} (omega (arith, h))) zero-sound

  -- they are within the formal ones
  pub own-degree : (k : Kind) → formal_degree (map degree_of (sums es)) k ≤ formal_degree (degrees es) k
  own-degree = degree-grows (map degree_of (sums es)) (degrees es) (λ j. rw (own-degree-of es j, degree-of es j) (sound-at j).lower)

  pub own-weight : (k : Kind) → formal_weight (map weight (sums es)) k ≤ formal_weight (weights es) k
  own-weight = weight-grows (map weight (sums es)) (weights es) (λ j. rw (own-weight-of es j, weight-of es j) (sound-at j).lighter)
