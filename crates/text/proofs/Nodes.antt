-- Nodes put to a table one after the other, and the nodes of a tree.
use mathlib.Core.Path.{◌≡◌, refl, sym, ◌∙◌, ap}
use mathlib.Core.List.{List, [], ◌∷◌, ◌++◌, map}
use Prim.Native.Nat.{ℕ, ◌+◌, ◌≤◌}
use native.Mathlib.Omega.{arith}
use lib.IntN.{ℤ}
use lib.ListN.{length, length-append}
use lib.Seq.{sets}
use Rattle.std.specs.List.{flat_map}
use Rattle.std.proofs.lemmas.List.{map-append, length-map}
use Rattle.algebra.specs.Limits.{most_nodes}
use Rattle.nodes.specs.Node.{Kind, numbers_of, table_of}
use Rattle.numbers.proofs.Writing.{sets-append}
use Rattle.text.specs.Tree.{Tree, node_count, nodes_of}
use Rattle.text.specs.Inside.Laid.{put_node, Laid}
use Rattle.text.proofs.Table.{put-within}
use Rattle.text.proofs.Trees.{nodes-length}

-- the rows of nodes, one after the other
pub rows-table : (ks : List Kind) → flat_map (λ x. x) (map numbers_of ks) ≡ table_of ks
unfolding table_of
rows-table [] = refl
rows-table (k ∷ ks) = ap (λ l. numbers_of k ++ l) (rows-table ks)

-- the nodes were put to the table c from node n on
abbrev Lays : List Kind → ℕ → List (List ℤ) → List (List ℤ) → Type 0
Lays ks n c d = n + length ks ≤ most_nodes → d ≡ sets c n (map numbers_of ks)

pub lays_one : (n : ℕ) (k : Kind) (c : List (List ℤ)) {d : List (List ℤ)} → d ≡ put_node c n k → Lays (k ∷ []) n c d
lays_one n k c e h = e ∙ put-within c n k (omega arith)

pub lays-append : (ks js : List Kind) (n m : ℕ) (c d e : List (List ℤ)) → m ≡ n + length ks → Lays ks n c d → Lays js m d e → Lays (ks ++ js) n c e
lays-append ks js n m c d e same f g h =
    let all = length-append ks js in
    let from : m ≡ n + length (map numbers_of ks) = omega (arith, length-map ks numbers_of) in
    let was : d ≡ sets c n (map numbers_of ks) = f (omega arith) in
    g (omega arith) ∙ rw (was, from, map-append) (sets-append c n (map numbers_of ks) (map numbers_of js))

-- a tree whose nodes are those of t, and more
pub laid_more : (t u : Tree) (ks : List Kind) (n m : ℕ) (c d e : List (List ℤ)) → m ≡ n + node_count t → nodes_of n u ≡ nodes_of n t ++ ks
    → Laid t n c d → Lays ks m d e → Laid u n c e
laid_more t u ks n m c d e same are f g h =
    let first = nodes-length n t in
    let all = sym (ap length are) ∙ nodes-length n u in
    rw are (lays-append (nodes_of n t) ks n m c d e (omega arith) (λ i. f (omega arith)) g (omega arith))
