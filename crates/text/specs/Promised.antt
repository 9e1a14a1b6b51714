-- What is promised of reading a typed formula: when it is done, with which nodes, and when it is refused, and how.
use Rattle.std.specs.Prelude.{◌≡◌, List, ℕ, ◌≤◌, ◌<◌, ℤ, length}
use Rattle.algebra.specs.Limits.{most_nodes}
use Rattle.answers.specs.Refusals.{ROOM, TEXT, NODES}
use Rattle.answers.specs.Areas.{written}
use Rattle.nodes.specs.Node.{table_of}
use Rattle.text.specs.Limits.{longest_text, table_places}
use Rattle.text.specs.Tree.{Tree, node_count, nodes_of}
use Rattle.text.specs.Grammar.{Formula, Longest}

-- it is done: the text is a formula, and the nodes of its tree are in the table area
pub record Typed (text : List ℕ) (table : List ℤ) (n : ℕ) (table' : List ℤ) : Type 0 where
  pub tree : Tree
  pub room : table_places ≤ length table
  pub short : length text ≤ longest_text
  pub formula : Formula text tree
  pub few : node_count tree ≤ most_nodes
  pub many : n ≡ node_count tree
  pub table_is : table' ≡ written (table_of (nodes_of 0 tree)) table

-- it is refused: the refusal, its place, and the table area, which stays
pub data TextRefuses (text : List ℕ) (table : List ℤ) : ℕ → ℕ → List ℤ → Type 0 where
  no_room : length table < table_places → TextRefuses text table ROOM 0 table
  too_long : table_places ≤ length table → longest_text < length text → TextRefuses text table TEXT longest_text table
  no_formula : {p : ℕ} → table_places ≤ length table → length text ≤ longest_text → ((t : Tree) → Formula text t → ⊥) → Longest text p
      → TextRefuses text table TEXT p table
  too_many : {t : Tree} → table_places ≤ length table → length text ≤ longest_text → Formula text t → most_nodes < node_count t → TextRefuses text table NODES 0 table
