-- What a table gives: SHAPE is checked first, then the nodes from 0 up, each by NODE, DEGREE, WEIGHT and SPREAD.
use Rattle.std.specs.Prelude.{Bool, ◌&&◌, List, [], ◌∷◌, ◌++◌, map, ℕ, ◌/◌, ◌%◌, eqb, leb, ℤ, length}
use Rattle.algebra.specs.Limits.{most_nodes}
use Rattle.algebra.specs.Sum.{Sum}
use Rattle.answers.specs.Refusals.{SHAPE}
use Rattle.answers.specs.Judge.{Judged, Judged.good, holding, and_then}
use Rattle.nodes.specs.Node.{Kind, read_node}
use Rattle.nodes.specs.Formal.{formal_degree, formal_weight, node_sum, check_node}

-- what is kept of a node that has passed: its formal degree, its formal weight and its ordered sum
pub record Entry : Type 0 where
  pub degree : ℕ
  pub weight : ℕ
  pub sum : Sum

abbrev pub entry : ℕ → ℕ → Sum → Entry
entry d w s = record { degree = d; weight = w; sum = s }

abbrev pub degrees : List Entry → List ℕ
degrees before = map (λ (e : Entry). e.degree) before

abbrev pub weights : List Entry → List ℕ
weights before = map (λ (e : Entry). e.weight) before

abbrev pub sums : List Entry → List Sum
sums before = map (λ (e : Entry). e.sum) before

-- `before` has the nodes before this one
abbrev pub entry_of : List Entry → Kind → Entry
entry_of before k = entry (formal_degree (degrees before) k) (formal_weight (weights before) k) (node_sum (sums before) k)

unfoldable pub judge_node : List Entry → Kind → Judged Entry
judge_node before k = check_node (length before) (degrees before) (weights before) (sums before) k (entry_of before k)

-- three numbers for each node (a table of another shape is refused before)
unfoldable pub judge_nodes : List Entry → List ℤ → Judged (List Entry)
judge_nodes before [] = good before
judge_nodes before (kind ∷ []) = good before
judge_nodes before (kind ∷ first ∷ []) = good before
judge_nodes before (kind ∷ first ∷ second ∷ rest) =
    and_then (read_node (length before) kind first second) (λ k.
    and_then (judge_node before k) (λ e.
    judge_nodes (before ++ (e ∷ [])) rest))

-- a table's length is 3 × (1..64)
unfoldable pub is_shape : ℕ → Bool
is_shape n = eqb (n % 3) 0 && (leb 1 (n / 3) && leb (n / 3) most_nodes)

-- SHAPE, then the nodes (SHAPE is about no node: its place is 0)
unfoldable pub judge_table : List ℤ → Judged (List Entry)
judge_table table = holding (is_shape (length table)) SHAPE 0 (judge_nodes [] table)
