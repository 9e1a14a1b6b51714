-- What the code knows when all nodes are formed, for the contract of a private function.
use Rattle.std.specs.Prelude.{◌≡◌, List, ℕ, ◌-◌, ℤ, length, take}
use Rattle.algebra.specs.Held.{words_of, coefficients_of}
use Rattle.answers.specs.Answers.{Told, Told.done, Told.refused}
use Rattle.answers.specs.Judge.{Judged, Judged.good, Judged.fails}
use Rattle.sums.specs.Part.{part}
use Rattle.formula.specs.Table.{Entry}
use Rattle.formula.specs.Simplify.{last_sum}

-- the number of terms of the last node
abbrev pub terms_told : Judged (List Entry) → Told
terms_told (good nodes) = done (length (last_sum nodes))
terms_told (fails refusal node) = refused refusal node

-- the part of the last node holds its terms
pub record KeepsLast (judged : Judged (List Entry)) (ws : List ℕ) (cs : List ℤ) : Type 0 where
  pub words_are : (nodes : List Entry) → judged ≡ good nodes → take (length (last_sum nodes)) (part (length nodes - 1) ws) ≡ words_of (last_sum nodes)
  pub coefficients_are : (nodes : List Entry) → judged ≡ good nodes → take (length (last_sum nodes)) (part (length nodes - 1) cs) ≡ coefficients_of (last_sum nodes)
