-- Unpack: ROOM, SUM. It returns the number of terms; that many places of the two areas are written.
use Rattle.std.specs.Prelude.{◌&&◌, List, ℕ, leb, ℤ, length}
use Rattle.algebra.specs.Limits.{variables, most_terms}
use Rattle.answers.specs.Refusals.{ROOM, SUM}
use Rattle.answers.specs.Answers.{Outcome, check}
use Rattle.packed.specs.ReadSum.{read_whole}
use Rattle.packed.specs.Whole.{judged}
use Rattle.packed.specs.Result.{held_into}

unfoldable pub unpack : List ℕ → List ℕ → List ℤ → Outcome (List ℕ × List ℤ)
unpack bytes patterns coefficients =
    check (leb most_terms (length patterns) && leb most_terms (length coefficients)) ROOM 0 (patterns, coefficients)
    (held_into (judged SUM (read_whole variables bytes)) patterns coefficients)
