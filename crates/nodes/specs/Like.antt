-- A node over ordered sums that are given, outside of a table: judged like a node, with degree and weight of the ordered sums.
use Rattle.std.specs.Prelude.{List, map, ℕ}
use Rattle.algebra.specs.Sum.{Sum, degree_of, weight}
use Rattle.answers.specs.Judge.{Judged}
use Rattle.nodes.specs.Node.{Kind}
use Rattle.nodes.specs.Formal.{node_sum, check_node}

-- ss has the ordered sums that its children name. A node of a table is judged by the formal degrees and weights of its children instead
-- (formula/specs/Table.antt)
unfoldable pub judge_like : ℕ → List Sum → Kind → Judged Sum
judge_like place ss k = check_node place (map degree_of ss) (map weight ss) ss k (node_sum ss k)
