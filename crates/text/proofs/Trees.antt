-- How many nodes a tree has.
use mathlib.Core.Path.{◌≡◌, refl}
use Prim.Native.Nat.{ℕ, ◌+◌, ◌≤◌}
use native.Mathlib.Omega.{arith}
use lib.ListN.{length, length-append}
use Rattle.text.specs.Tree.{Tree, Tree.number, Tree.letter, Tree.plus, Tree.times, Tree.raised, Tree.minus, node_count, nodes_of}

pub size-some : (t : Tree) → 1 ≤ node_count t
unfolding node_count
size-some (number v) = omega arith
size-some (letter v) = omega arith
size-some (plus t u) = omega arith
size-some (times t u) = omega arith
size-some (raised t e) = omega arith
size-some (minus t) = omega arith

pub nodes-length : (n : ℕ) (t : Tree) → length (nodes_of n t) ≡ node_count t
unfolding nodes_of node_count
nodes-length n (number v) = refl
nodes-length n (letter v) = refl
nodes-length n (plus t u) = simp (length-append, nodes-length n t, nodes-length (n + node_count t) u) (omega arith)
nodes-length n (times t u) = simp (length-append, nodes-length n t, nodes-length (n + node_count t) u) (omega arith)
nodes-length n (raised t e) = simp (length-append, nodes-length n t)
nodes-length n (minus t) = simp (length-append, nodes-length n t)
