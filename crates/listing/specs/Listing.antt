-- What is printed of a typed formula. One newline at the end of the input is dropped.
use Rattle.std.specs.Prelude.{cond, List, [], ◌∷◌, ℕ, ◌+◌, eqb, leb, length}
use Rattle.algebra.specs.Limits.{variables}
use Rattle.algebra.specs.Sum.{Sum}
use Rattle.answers.specs.Refusals.{ROOM}
use Rattle.answers.specs.Answers.{Told.done, Outcome, outcome, check}
use Rattle.answers.specs.Areas.{written}
use Rattle.answers.specs.Judge.{Judged, Judged.good, Judged.fails}
use Rattle.text.specs.Limits.{longest_text}
use Rattle.text.specs.Text.{text_sum}
use Rattle.listing.specs.Lines.{newline, most_lines, sum_lines, refusal_line}

-- ---- What is printed.

unfoldable pub listed : Judged Sum → List ℕ
listed (good s) = sum_lines s
listed (fails refusal place) = refusal_line refusal place

unfoldable pub without_newline : List ℕ → List ℕ
without_newline [] = []
without_newline (b ∷ []) = cond (eqb b newline) [] (b ∷ [])
without_newline (b ∷ c ∷ rest) = b ∷ without_newline (c ∷ rest)

-- it is refused with ROOM only; else the answer is how many bytes the lines have, and the area begins with them
unfoldable pub list : List ℕ → List ℕ → Outcome (List ℕ)
list input area =
    let lines = listed (text_sum (without_newline input)) in
    check (leb (most_lines variables) (length area)) ROOM 0 area (outcome (done (length lines)) (written lines area))

-- no more of an input need be read: the longest text, and two bytes more, 1,026 in all
abbrev pub most_input : ℕ
most_input = longest_text + 2
