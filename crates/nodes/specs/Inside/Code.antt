-- The code's types, as the definitions say them.
use Rattle.std.specs.Prelude.{List, map, ℕ, Option, Some, None}
use Rattle.answers.specs.Refusals.{NODE}
use Rattle.answers.specs.Judge.{Judged, Judged.good, Judged.fails}
use Rattle.nodes.specs.declared.Kind as declared
use Rattle.nodes.specs.declared.Node.{Node}
use Rattle.nodes.specs.declared.Kind.TheVariants as code
use Rattle.nodes.specs.Node.{Kind, Kind.integer, Kind.variable, Kind.sum, Kind.product, Kind.power}

-- each case of the code's enum
abbrev pub kind_of : declared.Kind → Kind
kind_of (code.Integer n) = integer n
kind_of (code.Variable v) = variable v
kind_of (code.Sum a b) = sum a b
kind_of (code.Product a b) = product a b
kind_of (code.Power a e) = power a e

-- each case of the code's answer, about node i
abbrev pub found_of : ℕ → Option declared.Kind → Judged Kind
found_of i (Some k) = good (kind_of k)
found_of i None = fails NODE i

-- what is kept of nodes
abbrev pub formal_degrees : List Node → List ℕ
formal_degrees nodes = map (λ (n : Node). n.degree) nodes

abbrev pub formal_weights : List Node → List ℕ
formal_weights nodes = map (λ (n : Node). n.weight) nodes
