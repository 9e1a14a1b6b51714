-- What the four readers of src/ ask, and what they answer: the place after what was read, the number of nodes so far, and the table with its nodes.
use Rattle.std.specs.Prelude.{◌≡◌, cond, List, map, slice_set, ℕ, ◌+◌, ◌-◌, ◌*◌, ◌≤◌, ◌<◌, ltb, eqb, ℤ, negsuc, length, Result, Ok, Err}
use Rattle.std.proofs.lemmas.List.Edits.{sets}
use Rattle.algebra.specs.Limits.{most_nodes}
use Rattle.answers.specs.Refusals.{TEXT}
use Rattle.answers.specs.Judge.{Judged, Judged.good, Judged.fails}
use Rattle.nodes.specs.Node.{Kind, Kind.integer, Kind.product, numbers_of}
use Rattle.text.specs.declared.laying.Layout.{Layout}
use Rattle.text.specs.Limits.{longest_text}
use Rattle.text.specs.Signs.{minus_sign}
use Rattle.text.specs.Tree.{Tree, node_count, nodes_of}
use Rattle.text.specs.Reader.{Span}

-- the table after node n was put into it: a node past the last place is left out, and counted all the same
unfoldable pub put_node : List (List ℤ) → ℕ → Kind → List (List ℤ)
put_node table n k = cond (ltb n most_nodes) (slice_set table n (numbers_of k)) table

-- reading at a place, after so many nodes: at most two for each byte before the place
pub record Ready (s : List ℕ) (at nodes : ℕ) : Type 0 where
  pub short : length s ≤ longest_text
  pub within : at ≤ length s
  pub few : nodes ≤ 2 * at

-- d is the table c with the nodes of the tree t put in from node n on, if there are places for all of them
abbrev pub Laid : Tree → ℕ → List (List ℤ) → List (List ℤ) → Type 0
Laid t n c d = n + node_count t ≤ most_nodes → d ≡ sets c n (map numbers_of (nodes_of n t))

-- what was read at a place, after n nodes
pub record Part (s : List ℕ) (at n : ℕ) (c : List (List ℤ)) (p : Span) (next count : ℕ) (d : List (List ℤ)) : Type 0 where
  pub next_is : p.next ≡ next
  pub count_is : count ≡ n + node_count p.tree
  pub laid : Laid p.tree n c d
  pub ahead : at < next
  pub within : next ≤ length s
  -- a part of k bytes has at most 2k - 1 nodes
  pub few : count + 1 + 2 * at ≤ n + 2 * next

-- what an answer of the code says, with the table before and after: that p was read, or that the reading is refused, with TEXT at the same place
abbrev pub Said : Judged Span → List ℕ → ℕ → Layout → Result ℕ ℕ → Layout → Type 0
Said (good p) s at a (Ok next) b = Part s at a.nodes a.rows p next b.nodes b.rows
Said (good p) s at a (Err place) b = ⊥
Said (fails refusal p) s at a (Ok next) b = ⊥
Said (fails refusal p) s at a (Err place) b = (refusal ≡ TEXT) × (p ≡ place)

pub record Reads (j : Judged Span) (s : List ℕ) (at : ℕ) (a : Layout) (r : Result ℕ ℕ) (b : Layout) : Type 0 where
  pub said : Said j s at a r b

-- ---- After a term whose own node is the last of `count`: the count and the table, with -1 and the product put in if the byte b before the term is a minus.

unfoldable pub signed_count : ℕ → ℕ → ℕ
signed_count b count = cond (eqb b minus_sign) (count + 2) count

unfoldable pub signed_table : ℕ → ℕ → List (List ℤ) → List (List ℤ)
signed_table b count table = cond (eqb b minus_sign) (put_node (put_node table count (integer (negsuc 0))) (count + 1) (product count (count - 1))) table
