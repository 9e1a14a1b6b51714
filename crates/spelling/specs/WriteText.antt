-- A packed sum back as text: ROOM, SUM. Done, it returns the length of the text: that many bytes of the area are written, and its other places stay. On
-- refusal the area stays.
use Rattle.std.specs.Prelude.{List, ℕ, leb, length}
use Rattle.algebra.specs.Limits.{variables}
use Rattle.algebra.specs.Sum.{Sum}
use Rattle.answers.specs.Refusals.{ROOM, SUM}
use Rattle.answers.specs.Answers.{Told.done, Told.refused, Outcome, outcome, check}
use Rattle.answers.specs.Areas.{written}
use Rattle.answers.specs.Judge.{Judged, Judged.good, Judged.fails}
use Rattle.packed.specs.ReadSum.{read_whole}
use Rattle.packed.specs.Whole.{judged}
use Rattle.spelling.specs.Spelling.{sum_text}

-- what the area needs, whatever the sum. (No text of a packed sum is longer, which is `text-fits`.)
abbrev pub text_places : ℕ
text_places = 8192

unfoldable pub text_into : Judged Sum → List ℕ → Outcome (List ℕ)
text_into (good s) area = let text = sum_text s in outcome (done (length text)) (written text area)
text_into (fails refusal place) area = outcome (refused refusal place) area

unfoldable pub write_text : List ℕ → List ℕ → Outcome (List ℕ)
write_text bytes area = check (leb text_places (length area)) ROOM 0 area (text_into (judged SUM (read_whole variables bytes)) area)
