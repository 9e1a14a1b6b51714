-- What a node is judged by: its formal degree, its formal weight and its spread, each from the children's; its ordered sum; and the checks.
use Rattle.std.specs.Prelude.{List, [], ℕ, ◌+◌, ◌*◌, ◌^◌, max, leb, nat_abs, get_or}
use Rattle.algebra.specs.Limits.{variables, largest_degree, most_terms, largest_weight}
use Rattle.algebra.specs.Sum.{Sum}
use Rattle.algebra.specs.Arithmetic as arithmetic
use Rattle.algebra.specs.Arithmetic.{◌⊕◌, ◌⊗◌, sum_spread, product_spread, power_spread}
use Rattle.answers.specs.Refusals.{DEGREE, WEIGHT, SPREAD}
use Rattle.answers.specs.Judge.{Judged, Judged.good, holding}
use Rattle.nodes.specs.Node.{Kind, Kind.integer, Kind.variable, Kind.sum, Kind.product, Kind.power}

-- ds has the formal degrees of the nodes before
unfoldable pub formal_degree : List ℕ → Kind → ℕ
formal_degree ds (integer n) = 0
formal_degree ds (variable v) = 1
formal_degree ds (sum a b) = max (get_or ds a 0) (get_or ds b 0)
formal_degree ds (product a b) = get_or ds a 0 + get_or ds b 0
formal_degree ds (power a e) = get_or ds a 0 * e

-- hs has their formal weights (0^0 is 1)
unfoldable pub formal_weight : List ℕ → Kind → ℕ
formal_weight hs (integer n) = nat_abs n
formal_weight hs (variable v) = 1
formal_weight hs (sum a b) = get_or hs a 0 + get_or hs b 0
formal_weight hs (product a b) = get_or hs a 0 * get_or hs b 0
formal_weight hs (power a e) = get_or hs a 0 ^ e

-- ss has their ordered sums. An integer and a variable are formed of no sums
unfoldable pub node_spread : List Sum → Kind → ℕ
node_spread ss (integer n) = 0
node_spread ss (variable v) = 0
node_spread ss (sum a b) = sum_spread (get_or ss a []) (get_or ss b [])
node_spread ss (product a b) = product_spread (get_or ss a []) (get_or ss b [])
node_spread ss (power a e) = power_spread variables (get_or ss a []) e

unfoldable pub node_sum : List Sum → Kind → Sum
node_sum ss (integer n) = arithmetic.integer variables n
node_sum ss (variable v) = arithmetic.variable variables v
node_sum ss (sum a b) = get_or ss a [] ⊕ get_or ss b []
node_sum ss (product a b) = get_or ss a [] ⊗ get_or ss b []
node_sum ss (power a e) = arithmetic.power variables (get_or ss a []) e

-- the three checks in turn, each told with this place; then something is found good
abbrev pub check_node : {A : Type 0} → ℕ → List ℕ → List ℕ → List Sum → Kind → A → Judged A
check_node place ds hs ss k found =
    holding (leb (formal_degree ds k) largest_degree) DEGREE place
    (holding (leb (formal_weight hs k) largest_weight) WEIGHT place
    (holding (leb (node_spread ss k) most_terms) SPREAD place
    (good found)))
