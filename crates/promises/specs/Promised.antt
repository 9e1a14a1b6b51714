-- What is promised across the operations: whatever became packed bytes has the value of the sum that has them; and what becomes of a sum that is written and
-- typed in again.
use Rattle.std.specs.Prelude.{◌≡◌, List, ℕ, ◌*◌, ◌≤◌, ◌<◌, ℤ, length, take}
use Rattle.algebra.specs.Limits.{most_nodes}
use Rattle.algebra.specs.Sum.{Sum}
use Rattle.algebra.specs.Value.{value}
use Rattle.answers.specs.Refusals.{TEXT, NODES}
use Rattle.answers.specs.Answers.{Told.done, Told.refused, outcome}
use Rattle.answers.specs.Areas.{written}
use Rattle.packed.specs.Promised.{PackedSum, WorkRoom, cleared_with}
use Rattle.formula.specs.Simplify.{simplify}
use Rattle.text.specs.Limits.{longest_text}
use Rattle.text.specs.Tree.{Tree, node_count, tree_value}
use Rattle.text.specs.Grammar.{Formula}
use Rattle.text.specs.Text.{read_formula}
use Rattle.spelling.specs.Spelling.{sum_text, sum_tree}

-- a sum with these bytes, and with these values
pub record HasValues (bytes : List ℕ) (f : List ℤ → ℤ) : Type 0 where
  pub sum : Sum
  pub of_bytes : PackedSum bytes sum
  pub values : (x : List ℤ) → f x ≡ value sum x

-- the text is that of the sum in these bytes: a formula, whose tree has the sum's value everywhere, also where the text is longer than the reader takes
pub record Spells (bytes text : List ℕ) : Type 0 where
  pub sum : Sum
  pub of_bytes : PackedSum bytes sum
  pub text_is : text ≡ sum_text sum
  pub formula : Formula text (sum_tree sum)
  pub values : (x : List ℤ) → tree_value (sum_tree sum) x ≡ value sum x

-- a text that was written from packed bytes is typed in again, into a table area
pub data TypedAgain (bytes text : List ℕ) (table : List ℤ) : Type 0 where
  -- the reader takes it; and the simplifier takes its table, in any areas with room, and gives the same bytes
  taken : {n : ℕ} {table' : List ℤ} → length text ≤ longest_text → n ≤ most_nodes → read_formula text table ≡ outcome (done n) table'
      → ((patterns : List ℕ) (coefficients : List ℤ) (area : List ℕ) → WorkRoom patterns coefficients area
      → simplify (take (3 * n) table') patterns coefficients area ≡ outcome (done (length bytes)) (cleared_with patterns coefficients (written bytes area)))
      → TypedAgain bytes text table
  -- or it has more bytes, or needs more nodes, than the reader takes
  too_long : longest_text < length text → read_formula text table ≡ outcome (refused TEXT longest_text) table → TypedAgain bytes text table
  too_many : {t : Tree} → length text ≤ longest_text → Formula text t → most_nodes < node_count t → read_formula text table ≡ outcome (refused NODES 0) table
      → TypedAgain bytes text table
