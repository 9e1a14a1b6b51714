-- What is promised of simplify: when it is done, with which sum, and when it is refused, and how.
use Rattle.std.specs.Prelude.{◌≡◌, true, false, List, ℕ, ◌≤◌, ◌<◌, ℤ, length}
use Rattle.algebra.specs.Limits.{variables, most_nodes}
use Rattle.algebra.specs.Sum.{Sum}
use Rattle.algebra.specs.Accepted.{Accepted}
use Rattle.answers.specs.Refusals.{ROOM, SHAPE}
use Rattle.answers.specs.Areas.{written}
use Rattle.packed.specs.Packed.{packed}
use Rattle.packed.specs.Result.{WorkAreas}
use Rattle.packed.specs.Promised.{WorkRoom, cleared_with}
use Rattle.nodes.specs.Node.{Kind, table_of}
use Rattle.formula.specs.Table.{Entry, is_shape}
use Rattle.formula.specs.Simplify.{last_sum}
use Rattle.formula.specs.Checks.{Passed, FirstFault}
use Rattle.formula.specs.Meaning.{Means}

-- it is done: every check passes, and the sum is what ordinary algebra gives the table's formula
pub record Simplified (table : List ℤ) (patterns : List ℕ) (coefficients : List ℤ) (result : List ℕ) (n : ℕ) (areas : WorkAreas) : Type 0 where
  pub ks : List Kind
  pub entries : List Entry
  pub sum : Sum
  pub room : WorkRoom patterns coefficients result
  pub table_is : table ≡ table_of ks
  pub some : 0 < length ks
  pub few : length ks ≤ most_nodes
  pub passed : Passed ks entries
  pub sum_is : sum ≡ last_sum entries
  pub means : Means ks sum
  pub accepted : Accepted variables sum
  pub many : n ≡ length (packed sum)
  pub areas_are : areas ≡ cleared_with patterns coefficients (written (packed sum) result)

-- it is refused: the refusal, its place, and the areas
pub data SimplifyRefuses (table : List ℤ) (patterns : List ℕ) (coefficients : List ℤ) (result : List ℕ) : ℕ → ℕ → WorkAreas → Type 0 where
  no_room : (WorkRoom patterns coefficients result → ⊥) → SimplifyRefuses table patterns coefficients result ROOM 0 (patterns, coefficients, result)
  no_shape : WorkRoom patterns coefficients result → is_shape (length table) ≡ false
      → SimplifyRefuses table patterns coefficients result SHAPE 0 (cleared_with patterns coefficients result)
  at_node : {refusal p : ℕ} → WorkRoom patterns coefficients result → is_shape (length table) ≡ true → FirstFault table refusal p
      → SimplifyRefuses table patterns coefficients result refusal p (cleared_with patterns coefficients result)
