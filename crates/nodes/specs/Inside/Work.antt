-- What the code keeps in the work areas: each node's terms in its part. ns has the number of terms of each node.
use Rattle.std.specs.Prelude.{◌≡◌, List, [], ◌∷◌, ◌++◌, map, ℕ, zero, suc, ◌+◌, ◌*◌, ◌≤◌, ◌<◌, T, ℤ, length, get_or, take, drop}
use Rattle.algebra.specs.Limits.{largest_degree, most_terms, largest_weight}
use Rattle.algebra.specs.Sum.{Sum, degree_of, weight}
use Rattle.algebra.specs.Held.{first_terms}
use Rattle.answers.specs.Areas.{written}
use Rattle.sums.specs.Held.{HeldSum}
use Rattle.sums.specs.Formed.{Formed, within, formed_into}
use Rattle.sums.specs.Part.{part}
use Rattle.nodes.specs.Node.{Kind, is_node}
use Rattle.nodes.specs.Formal.{formal_degree, formal_weight, node_spread, node_sum}

-- the terms in the part of node j
abbrev pub sum_at : List ℕ → List ℕ → List ℤ → ℕ → Sum
sum_at ns ws cs j = first_terms (get_or ns j 0) (part j ws) (part j cs)

-- those of the nodes before node i
unfoldable pub sums_at : ℕ → List ℕ → List ℕ → List ℤ → List Sum
sums_at zero ns ws cs = []
sums_at (suc i) ns ws cs = sums_at i ns ws cs ++ (sum_at ns ws cs i ∷ [])

-- the parts of the nodes before node i each hold an accepted sum
pub record Keeps (i : ℕ) (ns : List ℕ) (ws : List ℕ) (cs : List ℤ) : Type 0 where
  pub few : (j : ℕ) → j < i → get_or ns j 0 ≤ most_terms
  pub holds : (j : ℕ) → j < i → HeldSum (take (get_or ns j 0) (part j ws)) (take (get_or ns j 0) (part j cs))

-- the sum of a node, by the sums of the nodes before
abbrev pub node_formed : List Sum → Kind → Formed Sum
node_formed ss k = within (node_spread ss k) (node_sum ss k)

-- what forming node i, of kind k, asks. Degree and weight are judged by the formulas of the formal ones, at the degrees and weights of the sums themselves
pub record Ready (i : ℕ) (ns : List ℕ) (ws : List ℕ) (cs : List ℤ) (k : Kind) : Type 0 where
  pub node_is : T (is_node i k)
  pub counted : i ≤ length ns
  -- its own part is the last that is needed
  pub words_room : most_terms * i + most_terms ≤ length ws
  pub coefficients_room : most_terms * i + most_terms ≤ length cs
  pub keeps : Keeps i ns ws cs
  pub low : formal_degree (map degree_of (sums_at i ns ws cs)) k ≤ largest_degree
  pub light : formal_weight (map weight (sums_at i ns ws cs)) k ≤ largest_weight

-- a sum was formed into the part of node i: the code's answer, and the two areas before and after
pub record FormedAt (i : ℕ) (f : Formed Sum) (answer : Formed ℕ) (ws : List ℕ) (cs : List ℤ) (ws' : List ℕ) (cs' : List ℤ) : Type 0 where
  pub in_part : (answer, part i ws', part i cs') ≡ formed_into f (part i ws) (part i cs)
  pub words_before : take (most_terms * i) ws' ≡ take (most_terms * i) ws
  pub words_after : drop (most_terms * suc i) ws' ≡ drop (most_terms * suc i) ws
  pub coefficients_before : take (most_terms * i) cs' ≡ take (most_terms * i) cs
  pub coefficients_after : drop (most_terms * suc i) cs' ≡ drop (most_terms * suc i) cs

-- values were written to the first places of the part of node i, in one of the areas
pub record PutAt {A : Type 0} (i : ℕ) (values : List A) (area : List A) (area' : List A) : Type 0 where
  pub in_part : part i area' ≡ written values (part i area)
  pub before : take (most_terms * i) area' ≡ take (most_terms * i) area
  pub after : drop (most_terms * suc i) area' ≡ drop (most_terms * suc i) area
