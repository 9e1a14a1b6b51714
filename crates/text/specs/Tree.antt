-- A typed formula as a tree; its nodes in the table's order, and its value.
use Rattle.std.specs.Prelude.{List, [], ◌∷◌, ◌++◌, ℕ, ◌+◌, ◌-◌, ℤ, pos, negsuc, neg_ℤ, ◌+ℤ◌, ◌*ℤ◌, get_or}
use Rattle.std.proofs.Math.IntN.{pow}
use Rattle.nodes.specs.Node.{Kind, Kind.integer, Kind.variable, Kind.sum, Kind.product, Kind.power}

pub data Tree : Type 0 where
  number : ℕ → Tree
  -- the variable that a letter names
  letter : ℕ → Tree
  plus : Tree → Tree → Tree
  times : Tree → Tree → Tree
  -- with its exponent
  raised : Tree → ℕ → Tree
  minus : Tree → Tree

-- how many nodes it has
unfoldable pub node_count : Tree → ℕ
node_count (number v) = 1
node_count (letter v) = 1
node_count (plus t u) = node_count t + node_count u + 1
node_count (times t u) = node_count t + node_count u + 1
node_count (raised t e) = node_count t + 1
node_count (minus t) = node_count t + 2

-- the index of a tree's own node, which is its last, if its first is node n
abbrev pub own : ℕ → Tree → ℕ
own n t = n + node_count t - 1

-- the nodes, if the first of them is node n: left operand, right operand, own node. A minus is integer -1 and the product of -1's node and the
-- term's
unfoldable pub nodes_of : ℕ → Tree → List Kind
nodes_of n (number v) = integer (pos v) ∷ []
nodes_of n (letter v) = variable v ∷ []
nodes_of n (plus t u) = nodes_of n t ++ (nodes_of (n + node_count t) u ++ (sum (own n t) (own (n + node_count t) u) ∷ []))
nodes_of n (times t u) = nodes_of n t ++ (nodes_of (n + node_count t) u ++ (product (own n t) (own (n + node_count t) u) ∷ []))
nodes_of n (raised t e) = nodes_of n t ++ (power (own n t) e ∷ [])
nodes_of n (minus t) = nodes_of n t ++ (integer (negsuc 0) ∷ product (n + node_count t) (own n t) ∷ [])

-- the value, where the variables have the values x. (A variable that is given none counts as 1.)
unfoldable pub tree_value : Tree → List ℤ → ℤ
tree_value (number v) x = pos v
tree_value (letter v) x = get_or x v (pos 1)
tree_value (plus t u) x = tree_value t x +ℤ tree_value u x
tree_value (times t u) x = tree_value t x *ℤ tree_value u x
tree_value (raised t e) x = pow (tree_value t x) e
tree_value (minus t) x = neg_ℤ (tree_value t x)
