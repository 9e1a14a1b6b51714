-- The operation on typed formulas: ROOM, TEXT, NODES. Done, it returns the number of nodes: three numbers for each are written into the table area, and
-- its other places stay. On refusal the area stays.
use Rattle.std.specs.Prelude.{List, ℕ, leb, ℤ, length}
use Rattle.algebra.specs.Limits.{most_nodes}
use Rattle.algebra.specs.Sum.{Sum}
use Rattle.answers.specs.Refusals.{ROOM, TEXT, NODES}
use Rattle.answers.specs.Answers.{Told.done, Told.refused, Outcome, outcome, check}
use Rattle.answers.specs.Areas.{written}
use Rattle.answers.specs.Judge.{Judged, Judged.good, Judged.fails, holding, and_then}
use Rattle.nodes.specs.Node.{table_of}
use Rattle.formula.specs.Simplify.{table_sum}
use Rattle.text.specs.Limits.{longest_text, table_places}
use Rattle.text.specs.Tree.{Tree, node_count, nodes_of}
use Rattle.text.specs.Reader.{read_whole}

-- the length first, then the reading, then the number of nodes
unfoldable pub judge_text : List ℕ → Judged Tree
judge_text text =
    holding (leb (length text) longest_text) TEXT longest_text
    (and_then (read_whole text) (λ t. holding (leb (node_count t) most_nodes) NODES 0 (good t)))

unfoldable pub table_into : Judged Tree → List ℤ → Outcome (List ℤ)
table_into (good t) table = outcome (done (node_count t)) (written (table_of (nodes_of 0 t)) table)
table_into (fails refusal place) table = outcome (refused refusal place) table

unfoldable pub read_formula : List ℕ → List ℤ → Outcome (List ℤ)
read_formula text table = check (leb table_places (length table)) ROOM 0 table (table_into (judge_text text) table)

-- the sum of a text, or the first refusal on the way: that of the text, or that of its table
unfoldable pub text_sum : List ℕ → Judged Sum
text_sum text = and_then (judge_text text) (λ t. table_sum (table_of (nodes_of 0 t)))
