-- What becomes a packed sum, and what it says: the value that it has at whole numbers.
use Rattle.std.specs.Prelude.{◌≡◌, List, ℕ, ◌*◌, ℤ, take}
use Rattle.algebra.specs.Limits.{variables}
use Rattle.algebra.specs.Sum.{Sum}
use Rattle.algebra.specs.Value.{value}
use Rattle.algebra.specs.Accepted.{Accepted}
use Rattle.answers.specs.Answers.{Told.done, outcome}
use Rattle.packed.specs.Packed.{packed}
use Rattle.packed.specs.Result.{WorkAreas}
use Rattle.nodes.specs.Node.{Kind, table_of}
use Rattle.formula.specs.Meaning.{formula_value}
use Rattle.formula.specs.Simplify.{simplify}
use Rattle.text.specs.Tree.{Tree, tree_value}
use Rattle.text.specs.Grammar.{Formula}
use Rattle.text.specs.Text.{read_formula}
use Rattle.spelling.specs.WriteText.{write_text}

-- simplifying the table is done, in some areas, and leaves these bytes in the result area
pub record Simplifies (table : List ℤ) (bytes : List ℕ) : Type 0 where
  pub words : List ℕ
  pub coefficients : List ℤ
  pub area : List ℕ
  pub count : ℕ
  pub areas : WorkAreas
  pub is_done : simplify table words coefficients area ≡ outcome (done count) areas
  pub bytes_are : take count areas.2 ≡ bytes

-- reading the text is done, in some table area, and leaves this table there
pub record ReadsAs (text : List ℕ) (table : List ℤ) : Type 0 where
  pub area : List ℤ
  pub count : ℕ
  pub area' : List ℤ
  pub is_done : read_formula text area ≡ outcome (done count) area'
  pub table_is : take (3 * count) area' ≡ table

-- writing the packed sum is done, in some text area, and leaves this text there
pub record WritesAs (bytes text : List ℕ) : Type 0 where
  pub area : List ℕ
  pub count : ℕ
  pub area' : List ℕ
  pub is_done : write_text bytes area ≡ outcome (done count) area'
  pub text_is : take count area' ≡ text

-- an accepted sum, a table of nodes, or a typed text becomes these bytes; each has its value
pub data Becomes (bytes : List ℕ) : (List ℤ → ℤ) → Type 0 where
  a_sum : (s : Sum) → Accepted variables s → packed s ≡ bytes → Becomes bytes (value s)
  a_table : (ks : List Kind) → Simplifies (table_of ks) bytes → Becomes bytes (formula_value ks)
  a_text : (text : List ℕ) (tree : Tree) (table : List ℤ) → Formula text tree → ReadsAs text table → Simplifies table bytes → Becomes bytes (tree_value tree)
