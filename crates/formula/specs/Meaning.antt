-- What a formula means: its value at every choice of whole numbers, and its coefficient at every pattern. Both go by the nodes, and know nothing of
-- sums. (At the end: the sum that has them.)
use Rattle.std.specs.Prelude.{◌≡◌, List, [], ◌∷◌, ◌++◌, ℕ, zero, suc, ◌-◌, T, ℤ, pos, ◌+ℤ◌, ◌*ℤ◌, length, get_or, set}
use Rattle.std.proofs.Math.IntN.{pow}
use Rattle.algebra.specs.Limits.{variables}
use Rattle.algebra.specs.Pattern.{Pattern, empty_pattern, same}
use Rattle.algebra.specs.Sum.{Sum, ordered}
use Rattle.algebra.specs.Value.{value, only_if, coefficient, splits, over_splits}
use Rattle.nodes.specs.Node.{Kind, Kind.integer, Kind.variable, Kind.sum, Kind.product, Kind.power}

-- what each node gives, by what the nodes before it gave
unfoldable pub each_node : {A : Type 0} → (List A → Kind → A) → List A → List Kind → List A
each_node step before [] = before
each_node step before (k ∷ ks) = each_node step (before ++ (step before k ∷ [])) ks

-- the last node's is the formula's
abbrev pub last_node : {A : Type 0} → A → (List A → Kind → A) → List Kind → A
last_node none step ks = get_or (each_node step [] ks) (length ks - 1) none

-- ---- The value, where the variables have the values x. (A variable that is given none counts as 1.)

unfoldable pub node_value : List ℤ → List ℤ → Kind → ℤ
node_value x vs (integer n) = n
node_value x vs (variable v) = get_or x v (pos 1)
node_value x vs (sum a b) = get_or vs a (pos 0) +ℤ get_or vs b (pos 0)
node_value x vs (product a b) = get_or vs a (pos 0) *ℤ get_or vs b (pos 0)
node_value x vs (power a e) = pow (get_or vs a (pos 0)) e

unfoldable pub formula_value : List Kind → List ℤ → ℤ
formula_value ks x = last_node (pos 0) (node_value x) ks

-- ---- The coefficients.

abbrev pub Coefficients : Type 0
Coefficients = Pattern → ℤ

abbrev pub nowhere : Coefficients
nowhere r = pos 0

-- n at the pattern p, and 0 elsewhere
abbrev pub only : ℤ → Pattern → Coefficients
only n p r = only_if (same r p) n

-- of a product: over all ways to split the pattern in two
abbrev pub split : Coefficients → Coefficients → Coefficients
split f g r = over_splits (λ p q. f p *ℤ g q) (splits r)

-- of a power: of a repeated product
unfoldable pub repeated : Coefficients → ℕ → Coefficients
repeated f zero = only (pos 1) (empty_pattern variables)
repeated f (suc e) = split (repeated f e) f

unfoldable pub node_coefficients : List Coefficients → Kind → Coefficients
node_coefficients fs (integer n) = only n (empty_pattern variables)
node_coefficients fs (variable v) = only (pos 1) (set (empty_pattern variables) v 1)
node_coefficients fs (sum a b) = λ r. get_or fs a nowhere r +ℤ get_or fs b nowhere r
node_coefficients fs (product a b) = split (get_or fs a nowhere) (get_or fs b nowhere)
node_coefficients fs (power a e) = repeated (get_or fs a nowhere) e

unfoldable pub formula_coefficient : List Kind → Coefficients
formula_coefficient ks = last_node nowhere node_coefficients ks

-- ---- The sum that ordinary algebra gives a formula.

pub record Means (ks : List Kind) (s : Sum) : Type 0 where
  pub is_ordered : T (ordered variables s)
  pub values : (x : List ℤ) → value s x ≡ formula_value ks x
  pub coefficients : (r : Pattern) → coefficient s r ≡ formula_coefficient ks r
