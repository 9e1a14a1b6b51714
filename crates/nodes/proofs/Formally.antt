-- The formal degree and the formal weight, kind by kind, as the code computes them.
use mathlib.Core.Path.{◌≡◌, sym, ap, subst}
use mathlib.Core.Bool.{◌&&◌}
use mathlib.Core.List.{List}
use Prim.Native.Nat.{ℕ, ◌≤◌, ◌<◌}
use lib.Dec.{T, ltb, leb, ltb→lt, leb→le}
use lib.IntN.{pos}
use lib.ListN.{length, get_or, length-map, get_or-map}
use native.Mathlib.Omega.{arith}
use Rattle.algebra.specs.Limits.{largest_degree}
use lib.Ieee.Fits.{and_l, and_r}
use Rattle.nodes.specs.Node.{is_node}
use Rattle.nodes.specs.Formal.{formal_degree}
use Rattle.nodes.specs.Inside.Children.{EachAtMost}
use Rattle.nodes.specs.Inside.Code.{kind_of, formal_degrees, formal_weights}
use Rattle.nodes.specs.declared.Kind.{Kind}
use Rattle.nodes.specs.declared.Kind.TheVariants.{Integer, Power}
use Rattle.nodes.specs.declared.Node.{Node}

-- ---- The children of node n are before it.

module _ (n : ℕ) where
  pub two-children : (a b : ℕ) → T (ltb a n && ltb b n) → (a < n) × (b < n)
  two-children a b t = (ltb→lt a n (and_l (ltb a n) (ltb b n) t), ltb→lt b n (and_r (ltb a n) (ltb b n) t))

  pub base-child : (a e : ℕ) → T (ltb a n && leb e largest_degree) → (a < n) × (e ≤ largest_degree)
  base-child a e t = (ltb→lt a n (and_l (ltb a n) (leb e largest_degree) t), leb→le e largest_degree (and_r (ltb a n) (leb e largest_degree) t))

-- the same of the code's kinds
module _ (n : ℕ) {k : Kind} (node : T (is_node n (kind_of k))) where
  at-kind : {other : Kind} → k ≡ other → T (is_node n (kind_of other))
  at-kind e = subst (λ x. T (is_node n (kind_of x))) e node

  pub power-child : {a e : ℕ} → k ≡ Power a e → (a < n) × (e ≤ largest_degree)
  power-child {a} {e} p = base-child n a e (at-kind p)

-- a node's degree is that of the kind that was matched
pub degree-at : (ds : List ℕ) {k other : Kind} → k ≡ other → formal_degree ds (kind_of other) ≡ formal_degree ds (kind_of k)
degree-at ds e = ap (λ x. formal_degree ds (kind_of x)) (sym e)

-- ---- What the code reads of the nodes before.

-- what stands for a node where there is none
abbrev none : Node
none = record { degree = 0; weight = 0; kind = Integer (pos 0) }

pub degree_there : (before : List Node) (a : ℕ) → (get_or before a none).degree ≡ get_or (formal_degrees before) a 0
degree_there before a = sym (get_or-map (λ (n : Node). n.degree) before a none)

pub low_degree : (before : List Node) → EachAtMost largest_degree (formal_degrees before) → (a : ℕ) → a < length before → (get_or before a none).degree ≤ largest_degree
low_degree before low a h = rw (degree_there before a) (low a (omega (arith, length-map before (λ (n : Node). n.degree))))

pub weight_there : (before : List Node) (a : ℕ) → (get_or before a none).weight ≡ get_or (formal_weights before) a 0
weight_there before a = sym (get_or-map (λ (n : Node). n.weight) before a none)
