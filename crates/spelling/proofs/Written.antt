-- Writing a packed sum as text, as its caller sees it: exactly when it is done, with which text, and exactly when it is refused, and how.
use mathlib.Core.Path.{◌≡◌, refl, sym, ◌∙◌, ap, subst}
use mathlib.Core.List.{List}
use Prim.Native.Nat.{ℕ, ◌≤◌, ◌<◌}
use native.Mathlib.Omega.{arith}
use native.Mathlib.Decide.{dec_lt}
use lib.ListN.{length, get_or}
use borrow.Author.Tests.{le-leb, lt-leb}
use Rattle.algebra.specs.Limits.{variables}
use Rattle.algebra.specs.Sum.{Sum}
use Rattle.algebra.specs.Accepted.{Accepted}
use Rattle.answers.specs.Refusals.{ROOM, SUM}
use Rattle.answers.specs.Answers.{Told, Told.done, Told.refused, Outcome, outcome}
use Rattle.answers.specs.Areas.{written}
use Rattle.packed.specs.Packed.{packed}
use Rattle.packed.specs.ReadSum.{read_whole}
use Rattle.packed.specs.Whole.{judged}
use Rattle.packed.specs.Promised.{PackedSum, AtFault}
use Rattle.packed.proofs.Results.{Reading, Reading.a_sum, Reading.a_fault, reading, sum-judged, fault-judged}
use Rattle.spelling.specs.Spelling.{sum_text}
use Rattle.spelling.specs.WriteText.{text_places, text_into, write_text}
use Rattle.spelling.specs.Promised.{TextWritten, WriteTextRefuses, WriteTextRefuses.no_room, WriteTextRefuses.at_sum}

module _ (bytes area : List ℕ) where
  without-room : length area < text_places → write_text bytes area ≡ outcome (refused ROOM 0) area
  unfolding write_text
  without-room short = rw (lt-leb text_places (length area) short)

  module _ (room : text_places ≤ length area) where
    with-room : write_text bytes area ≡ text_into (judged SUM (read_whole variables bytes)) area
    unfolding write_text
    with-room = rw (le-leb text_places (length area) room)

    at-fault : {p : ℕ} → AtFault (read_whole variables bytes) p → write_text bytes area ≡ outcome (refused SUM p) area
    unfolding text_into
    at-fault a = with-room ∙ ap (λ j. text_into j area) (fault-judged SUM a)

    -- the text of the sum that was given
    pub of-sum : {s : Sum} → PackedSum bytes s → write_text bytes area ≡ outcome (done (length (sum_text s))) (written (sum_text s) area)
    unfolding text_into
    of-sum p = with-room ∙ ap (λ j. text_into j area) (sum-judged p)

  pub refuses-write-text : {refusal p : ℕ} {area' : List ℕ} → WriteTextRefuses bytes area refusal p area' → write_text bytes area ≡ outcome (refused refusal p) area'
  refuses-write-text (no_room short) = without-room short
  refuses-write-text (at_sum room a) = at-fault room a

-- the packed bytes of every accepted sum are written
pub write-text-accepts : (s : Sum) (area : List ℕ) → Accepted variables s → text_places ≤ length area
    → write_text (packed s) area ≡ outcome (done (length (sum_text s))) (written (sum_text s) area)
write-text-accepts s area accepted room = of-sum (packed s) area room (record { accepted = accepted; bytes_are = refl })

-- ---- There are no other outcomes.

module _ (bytes : List ℕ) (byte : (i : ℕ) → get_or bytes i 0 < 256) (area : List ℕ) where
  -- what stands behind an answer, and behind an outcome
  abbrev Behind : Told → List ℕ → Type 0
  Behind (done n) area' = TextWritten bytes area n area'
  Behind (refused refusal p) area' = WriteTextRefuses bytes area refusal p area'

  abbrev Explains : Outcome (List ℕ) → Type 0
  Explains o = Behind o.answer o.areas

  refused-by : {refusal p : ℕ} {area' : List ℕ} → WriteTextRefuses bytes area refusal p area' → Explains (write_text bytes area)
  refused-by d = subst Explains (sym (refuses-write-text bytes area d)) d

  done-by : {s : Sum} → text_places ≤ length area → PackedSum bytes s → Explains (write_text bytes area)
  done-by {s} room p = subst Explains (sym (of-sum bytes area room p)) (record { sum = s; room = room; of_bytes = p; many = refl; area_is = refl })

  explained : Explains (write_text bytes area)
  explained = go (dec_lt (length area) text_places) (reading bytes byte)
    where
      go : Dec (length area < text_places) → Reading bytes → Explains (write_text bytes area)
      go (yes short) r = refused-by (no_room short)
      go (no long) (a_fault place a) = refused-by (at_sum (omega (arith, long)) a)
      go (no long) (a_sum s p) = done-by (omega (arith, long)) p

  pub write-text-means : {n : ℕ} {area' : List ℕ} → write_text bytes area ≡ outcome (done n) area' → TextWritten bytes area n area'
  write-text-means e = subst Explains e explained

  pub write-text-refuses : {refusal p : ℕ} {area' : List ℕ} → write_text bytes area ≡ outcome (refused refusal p) area' → WriteTextRefuses bytes area refusal p area'
  write-text-refuses e = subst Explains e explained
