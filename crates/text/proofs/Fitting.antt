-- The nodes of a typed formula are nodes: its table is refused for nothing but a degree, a weight or a spread.
use mathlib.Core.Path.{◌≡◌, refl, ◌∙◌, ap}
use mathlib.Core.Bool.{Bool, true, false, ◌&&◌}
use mathlib.Core.Logic.{◌⊎◌, inl, inr}
use mathlib.Core.List.{List, [], ◌∷◌, ◌++◌}
use Prim.Native.Nat.{ℕ, ◌+◌, ◌*◌, ◌≤◌}
use native.Mathlib.Nat.{add-zero}
use native.Mathlib.Omega.{arith}
use lib.Dec.{T, ltb, lt→ltb}
use lib.ListN.{length, length-append}
use Rattle.algebra.specs.Limits.{variables, most_nodes}
use Rattle.answers.specs.Refusals.{DEGREE, WEIGHT, SPREAD}
use Rattle.answers.specs.Judge.{Judged, Judged.good, Judged.fails, holding, and_then}
use Rattle.nodes.specs.Node.{Kind, table_of, is_node}
use Rattle.formula.specs.Table.{Entry, judge_node, judge_nodes, is_shape, judge_table}
use Rattle.formula.proofs.Passing.{table-length, node-judged, shape-judge}
use Rattle.formula.proofs.Simplifying.{nodes-shape}
use Rattle.text.specs.Limits.{largest_exponent}
use Rattle.text.specs.Tree as tree
use Rattle.text.specs.Tree.{Tree, node_count, own, nodes_of}
use Rattle.text.specs.Grammar.{Level, Is, Is.first, Is.minus, Is.plus, Is.less, Is.single, Is.times, Is.plain, Is.power, Is.number, Is.letter, Is.bracket}
use Rattle.text.specs.Grammar.{Formula}
use Rattle.text.proofs.Byte.{letter-variable}
use Rattle.text.proofs.Numerals.{numeral-within}
use Rattle.text.proofs.Table.{both-before, base-before}
use Rattle.text.proofs.Trees.{size-some, nodes-length}

-- ---- Nodes, from node i on.

abbrev pub Fits : ℕ → List Kind → Type 0
Fits i [] = Unit {0}
Fits i (k ∷ ks) = T (is_node i k) × Fits (i + 1) ks

fits-then : (i : ℕ) (ks js : List Kind) → Fits i ks → Fits (i + length ks) js → Fits i (ks ++ js)
fits-then i [] js a b = rw add-zero at b
fits-then i (k ∷ ks) js a b = let e : i + length (k ∷ ks) ≡ i + 1 + length ks = omega arith in (a.0, fits-then (i + 1) ks js a.1 (rw e at b))

-- a tree, and what stands after it
tree-then : (n : ℕ) (t : Tree) (js : List Kind) → Fits n (nodes_of n t) → Fits (n + node_count t) js → Fits n (nodes_of n t ++ js)
tree-then n t js a b = fits-then n (nodes_of n t) js a (rw (nodes-length n t) b)

module _ (n : ℕ) (t : Tree) where
  children : (u : Tree) → let i = n + node_count t + node_count u in T (ltb (own n t) i && ltb (own (n + node_count t) u) i)
  children u = both-before (n + node_count t + node_count u) (own n t) (own (n + node_count t) u) (omega (arith, size-some t)) (omega (arith, size-some u))

  -- two trees, and a node after them
  two-fit : (u : Tree) (k : Kind) → T (is_node (n + node_count t + node_count u) k) → Fits n (nodes_of n t) → Fits (n + node_count t) (nodes_of (n + node_count t) u)
      → Fits n (nodes_of n t ++ (nodes_of (n + node_count t) u ++ (k ∷ [])))
  two-fit u k h a b = tree-then n t (nodes_of (n + node_count t) u ++ (k ∷ [])) a (tree-then (n + node_count t) u (k ∷ []) b (h, tt))

  minus-fit : Fits n (nodes_of n t) → Fits n (nodes_of n (tree.Tree.minus t))
  unfolding nodes_of
  minus-fit a = tree-then n t _ a (tt, (both-before (n + node_count t + 1) (n + node_count t) (own n t) (omega arith) (omega arith), tt))

pub nodes-fit : {k : Level} {l : ℕ} {w : List ℕ} {t : Tree} → Is k l w t → (n : ℕ) → Fits n (nodes_of n t)
unfolding nodes_of
nodes-fit (first d) n = nodes-fit d n
nodes-fit (minus {t = t} d) n = minus-fit n t (nodes-fit d n)
nodes-fit (plus {t = t} {u = u} d c) n = two-fit n t u _ (children n t u) (nodes-fit d n) (nodes-fit c (n + node_count t))
nodes-fit (less {t = t} {u = u} d c) n =
    let v : Tree = tree.Tree.minus u in
    two-fit n t v _ (children n t v) (nodes-fit d n) (minus-fit (n + node_count t) u (nodes-fit c (n + node_count t)))
nodes-fit (single d) n = nodes-fit d n
nodes-fit (times {t = t} {u = u} d c) n = two-fit n t u _ (children n t u) (nodes-fit d n) (nodes-fit c (n + node_count t))
nodes-fit (plain d) n = nodes-fit d n
nodes-fit (power {t = t} {e = e} d m) n =
    let small = numeral-within largest_exponent (omega arith) m in
    tree-then n t _ (nodes-fit d n) (base-before (n + node_count t) (own n t) e (omega (arith, size-some t)) small, tt)
nodes-fit (number m) n = (tt, tt)
nodes-fit (letter {b = b} {v = v} e) n = (lt→ltb v variables (letter-variable b v e), tt)
nodes-fit (bracket d) n = nodes-fit d n

-- ---- How they are judged.

abbrev pub TooMuch : ℕ → Type 0
TooMuch refusal = (refusal ≡ DEGREE) ⊎ ((refusal ≡ WEIGHT) ⊎ (refusal ≡ SPREAD))

-- not refused, or only so
abbrev pub Passable : {A : Type 0} → Judged A → Type 0
Passable (good a) = Unit {0}
Passable (fails refusal p) = TooMuch refusal

passable-holding : {A : Type 0} (b : Bool) (refusal p : ℕ) (rest : Judged A) → TooMuch refusal → Passable rest → Passable (holding b refusal p rest)
unfolding holding
passable-holding true refusal p rest f g = g
passable-holding false refusal p rest f g = f

passable-then : {A B : Type 0} (g : Judged A) (f : A → Judged B) → Passable g → ((a : A) → Passable (f a)) → Passable (and_then g f)
unfolding and_then
passable-then (good a) f h k = k a
passable-then (fails refusal p) f h k = h

node-passable : (before : List Entry) (k : Kind) → Passable (judge_node before k)
unfolding judge_node
node-passable before k =
    passable-holding _ _ _ _ (inl refl) (passable-holding _ _ _ _ (inr (inl refl)) (passable-holding _ _ _ _ (inr (inr refl)) tt))

nodes-passable : (before : List Entry) (ks : List Kind) → Fits (length before) ks → Passable (judge_nodes before (table_of ks))
unfolding table_of
nodes-passable before [] f = unfold judge_nodes in tt
nodes-passable before (k ∷ ks) f =
    rw (node-judged before k (table_of ks) f.0)
    (passable-then (judge_node before k) _ (node-passable before k)
    (λ e. nodes-passable (before ++ (e ∷ [])) ks (rw (length-append before (e ∷ [])) f.1)))

pub formula-passable : {s : List ℕ} {t : Tree} → Formula s t → node_count t ≤ most_nodes → Passable (judge_table (table_of (nodes_of 0 t)))
formula-passable {t = t} d few =
    let shape = ap is_shape (table-length (nodes_of 0 t) ∙ ap (λ n. 3 * n) (nodes-length 0 t)) ∙ nodes-shape (node_count t) (size-some t) few in
    rw (shape-judge (table_of (nodes_of 0 t)) shape) (nodes-passable [] (nodes_of 0 t) (nodes-fit d 0))
