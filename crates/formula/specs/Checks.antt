-- Which nodes pass, and which check of a table fails first, as statements; Table.antt computes the same.
use Rattle.std.specs.Prelude.{◌≡◌, List, [], ◌∷◌, ◌++◌, ℕ, ◌≤◌, ◌<◌, T, ℤ, length}
use Rattle.algebra.specs.Limits.{largest_degree, most_terms, largest_weight}
use Rattle.answers.specs.Refusals.{NODE, DEGREE, WEIGHT, SPREAD}
use Rattle.nodes.specs.Node.{Kind, numbers_of, table_of, is_node}
use Rattle.nodes.specs.Formal.{formal_degree, formal_weight, node_spread}
use Rattle.formula.specs.Table.{Entry, degrees, weights, sums, entry_of}

-- the node k passes its checks after the nodes `before`
pub record Passes (before : List Entry) (k : Kind) : Type 0 where
  pub node : T (is_node (length before) k)
  pub degree : formal_degree (degrees before) k ≤ largest_degree
  pub weight : formal_weight (weights before) k ≤ largest_weight
  pub spread : node_spread (sums before) k ≤ most_terms

-- all nodes pass; what is kept of each
pub data Passed : List Kind → List Entry → Type 0 where
  none : Passed [] []
  more : {ks : List Kind} {before : List Entry} {k : Kind} → Passed ks before → Passes before k → Passed (ks ++ (k ∷ [])) (before ++ (entry_of before k ∷ []))

-- the first check that three numbers fail after the nodes `before`
pub data Fault (before : List Entry) : List ℤ → ℕ → Type 0 where
  -- they are those of no node
  node : {numbers : List ℤ} → ((k : Kind) → T (is_node (length before) k) → numbers_of k ≡ numbers → ⊥) → Fault before numbers NODE
  degree : (k : Kind) → T (is_node (length before) k) → largest_degree < formal_degree (degrees before) k → Fault before (numbers_of k) DEGREE
  weight : (k : Kind) → T (is_node (length before) k) → formal_degree (degrees before) k ≤ largest_degree → largest_weight < formal_weight (weights before) k
      → Fault before (numbers_of k) WEIGHT
  spread : (k : Kind) → T (is_node (length before) k) → formal_degree (degrees before) k ≤ largest_degree → formal_weight (weights before) k ≤ largest_weight
      → most_terms < node_spread (sums before) k → Fault before (numbers_of k) SPREAD

-- the first failing check of a table's nodes is the refusal `refusal`, at node p: all nodes before it pass (SHAPE comes before)
pub record FirstFault (table : List ℤ) (refusal p : ℕ) : Type 0 where
  pub ks : List Kind
  pub before : List Entry
  pub numbers : List ℤ
  pub rest : List ℤ
  pub table_is : table ≡ table_of ks ++ (numbers ++ rest)
  pub three : length numbers ≡ 3
  pub passed : Passed ks before
  pub at_node : length before ≡ p
  pub fault : Fault before numbers refusal
