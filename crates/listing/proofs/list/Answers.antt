-- `list` meets its contract: ROOM, then the lines of the input without its last newline.
use mathlib.Core.Path.{◌≡◌, ◌∙◌, ap}
use mathlib.Core.List.{List}
use Prim.Native.Nat.{ℕ, ◌≤◌, ◌<◌}
use borrow.Author.Tests.{le-leb, lt-leb}
use lib.ListN.{length}
use Rattle.algebra.specs.Limits.{variables}
use Rattle.answers.specs.Refusals.{ROOM}
use Rattle.answers.specs.Answers.{Told.done, Told.refused, outcome}
use Rattle.answers.specs.Areas.{written}
use Rattle.text.specs.Text.{text_sum}
use Rattle.listing.specs.Lines.{most_lines}
use Rattle.listing.specs.Listing.{listed, without_newline, list}
use Rattle.listing.proofs.Newline.{stripped}
use Rattle.listing.proofs.list.Goals as goal

-- ---- ROOM.
module _ (input area : List ℕ) where
  without-room : length area < most_lines variables → outcome (refused ROOM 0) area ≡ list input area
  unfolding list
  without-room h = rw (lt-leb (most_lines variables) (length area) h)

  with-room : most_lines variables ≤ length area → {area' text : List ℕ} {n : ℕ} → text ≡ without_newline input → n ≡ length (listed (text_sum text))
      → area' ≡ written (listed (text_sum text)) area → outcome (done n) area' ≡ list input area
  unfolding list
  with-room h is there now = rw (le-leb (most_lines variables) (length area) h, there, now, is)

pub returns-then-area-lt-MOST_LINES : goal.returns-then-area-lt-MOST_LINES
returns-then-area-lt-MOST_LINES c = rw c.at.ensures (without-room _ _ c.if-area-lt-MOST_LINES.true)

pub returns : goal.returns
returns c =
    let text = ap (λ b. b.now) c.unwrap_or-text.ensures ∙ stripped _ _ c.strip_suffix.ensures.cases in
    with-room _ _ c.if-area-lt-MOST_LINES.false text c.list_text.ensures.value c.list_text.ensures.area_after
