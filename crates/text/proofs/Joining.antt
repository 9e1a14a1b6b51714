-- A typed formula, simplified: the sum has the value of the typed tree, and nothing is refused but for room, a degree, a weight or a spread.
use mathlib.Core.Path.{◌≡◌, refl, sym, ◌∙◌, ap, subst}
use mathlib.Core.Logic.{◌⊎◌, inl, inr}
use mathlib.Core.List.{List}
use Prim.Native.Nat.{ℕ, ◌*◌, ◌≤◌}
use native.Mathlib.Omega.{arith}
use lib.IntN.{ℤ}
use lib.ListN.{length, take}
use lib.Seq.{take_at}
use Rattle.algebra.specs.Limits.{most_nodes}
use Rattle.algebra.specs.Value.{value}
use Rattle.answers.specs.Refusals.{ROOM}
use Rattle.answers.specs.Answers.{Told.refused, outcome}
use Rattle.nodes.specs.Node.{table_of}
use Rattle.formula.specs.Table.{judge_table}
use Rattle.formula.specs.Meaning.{formula_value}
use Rattle.packed.specs.Result.{WorkAreas}
use Rattle.formula.specs.Simplify.{simplify}
use Rattle.formula.proofs.Tables.{table-one}
use Rattle.formula.proofs.Passing.{table-length, shape-judge, no-shape-judge, fault-judge}
use Rattle.formula.proofs.Simplifying.{simplify-refuses}
use Rattle.formula.specs.Promised.{Simplified, SimplifyRefuses, SimplifyRefuses.no_room, SimplifyRefuses.no_shape, SimplifyRefuses.at_node}
use Rattle.text.specs.Tree.{Tree, node_count, nodes_of, tree_value}
use Rattle.text.specs.Grammar.{Formula}
use Rattle.text.proofs.Trees.{nodes-length}
use Rattle.text.proofs.Meaning.{tree-value}
use Rattle.text.proofs.Fitting.{TooMuch, Passable, formula-passable}
use Rattle.text.specs.Promised.{Typed}

-- the table of a typed formula is what the area begins with: three numbers for each of its nodes
pub typed-table : {text : List ℕ} {table : List ℤ} {n : ℕ} {table' : List ℤ} (d : Typed text table n table')
    → take (3 * n) table' ≡ table_of (nodes_of 0 d.tree)
typed-table {n = n} d =
    let nodes = nodes_of 0 d.tree in
    let long : length (table_of nodes) ≡ 3 * n = omega (arith, table-length nodes, nodes-length 0 d.tree, d.many) in
    ap (take (3 * n)) d.table_is ∙ take_at (table_of nodes) _ (3 * n) long

-- a tree's table, and areas
module _ (t : Tree) (ws : List ℕ) (cs : List ℤ) (area : List ℕ) where
  pub typed-value : {n : ℕ} {areas : WorkAreas} (d : Simplified (table_of (nodes_of 0 t)) ws cs area n areas) (x : List ℤ) → value d.sum x ≡ tree_value t x
  typed-value d x = d.means.values x ∙ ap (λ ks. formula_value ks x) (sym (table-one (nodes_of 0 t) d.ks d.table_is)) ∙ tree-value t x

  pub typed-simplify : {text : List ℕ} {refusal p : ℕ} {areas : WorkAreas} → Formula text t → node_count t ≤ most_nodes
      → simplify (table_of (nodes_of 0 t)) ws cs area ≡ outcome (refused refusal p) areas → (refusal ≡ ROOM) ⊎ TooMuch refusal
  typed-simplify d few e = go (simplify-refuses (table_of (nodes_of 0 t)) ws cs area e) (formula-passable d few)
    where
      go : {refusal p : ℕ} {areas : WorkAreas} → SimplifyRefuses (table_of (nodes_of 0 t)) ws cs area refusal p areas → Passable (judge_table (table_of (nodes_of 0 t))) → (refusal ≡ ROOM) ⊎ TooMuch refusal
      go (no_room f) h = inl refl
      go (no_shape r s) h = inr (subst Passable (no-shape-judge (table_of (nodes_of 0 t)) s) h)
      go (at_node r s f) h = inr (subst Passable (shape-judge (table_of (nodes_of 0 t)) s ∙ fault-judge f) h)
