-- The estimate, as its caller sees it: exactly when it is done, with what, and exactly when it is refused, and how.
use mathlib.Core.Path.{◌≡◌, refl, sym, ◌∙◌, ap, subst}
use mathlib.Core.List.{List}
use Prim.Native.Nat.{ℕ, ◌≤◌, ◌<◌}
use native.Mathlib.Omega.{arith}
use native.Mathlib.Decide.{dec_lt}
use borrow.Author.Tests.{le-leb, lt-leb}
use lib.IntN.{ℤ}
use lib.ListN.{length, get_or}
use Rattle.algebra.specs.Limits.{variables, largest_weight}
use Rattle.algebra.specs.Sum.{Sum}
use Rattle.algebra.specs.Accepted.{Accepted}
use Rattle.algebra.specs.Value.{value}
use Rattle.algebra.specs.Margin.{size, raised_by, margin}
use Rattle.answers.specs.Refusals.{ROOM, SUM}
use Rattle.answers.specs.Answers.{Told, Told.done, Told.refused, Outcome, outcome}
use Rattle.answers.specs.Areas.{written}
use Rattle.answers.specs.Judge.{Judged, Judged.good, Judged.fails}
use Rattle.answers.proofs.Judging.{then-good, then-fails}
use Rattle.packed.specs.Packed.{packed}
use Rattle.packed.specs.ReadSum.{read_whole}
use Rattle.packed.proofs.Results.{Reading, Reading.a_sum, Reading.a_fault, reading, fault-judged, sum-judged}
use Rattle.packed.specs.Promised.{PackedSum, AtFault}
use Rattle.estimates.specs.Range.{Estimate, judge_terms}
use Rattle.estimates.specs.Promised.{Given}
use Rattle.estimates.proofs.JudgeTerms.{Verdict, Verdict.not_long, Verdict.negative, Verdict.all_given, verdict, range-beyond, range-within, terms-not-long, terms-negative, terms-given}
use Rattle.router.specs.Estimate.{judge_estimate, answer_bytes, answer_of, answer_into, estimate}
use Rattle.router.specs.Promised.{Estimated, EstimateRefuses, EstimateRefuses.no_room, EstimateRefuses.at_sum, EstimateRefuses.at_length, EstimateRefuses.at_tolerance, EstimateRefuses.beyond}

-- ---- What is left in an area.

-- what is left in an area where the checks come to this
abbrev pub Leaves : Judged Estimate → List ℕ → Outcome (List ℕ) → Type 0
Leaves j area o = answer_into j area ≡ o

pub refused-leaves : {j : Judged Estimate} {refusal p : ℕ} (area : List ℕ) → j ≡ fails refusal p → Leaves j area (outcome (refused refusal p) area)
unfolding answer_into
refused-leaves area e = ap (λ j. answer_into j area) e

pub done-leaves : {j : Judged Estimate} {e : ℤ} {m : ℕ} (area : List ℕ) → j ≡ good (record { estimate = e; margin = m }) → Leaves j area (outcome (done answer_bytes) (written (answer_of e m) area))
unfolding answer_into
done-leaves area e = ap (λ j. answer_into j area) e

-- ---- The outcomes.

module _ (bytes readings tolerances area : List ℕ) where
  without-room : length area < answer_bytes → estimate bytes readings tolerances area ≡ outcome (refused ROOM 0) area
  unfolding estimate
  without-room short = rw (lt-leb answer_bytes (length area) short)

  module _ (room : answer_bytes ≤ length area) where
    with-room : estimate bytes readings tolerances area ≡ answer_into (judge_estimate bytes readings tolerances) area
    unfolding estimate
    with-room = rw (le-leb answer_bytes (length area) room)

    at-fault : {p : ℕ} → AtFault (read_whole variables bytes) p → estimate bytes readings tolerances area ≡ outcome (refused SUM p) area
    unfolding judge_estimate answer_into
    at-fault a = with-room ∙ ap (λ j. answer_into j area) (then-fails (λ s. judge_terms s readings tolerances) (fault-judged SUM a))

    -- the checks go on with the sum
    pub after-sum : {s : Sum} → PackedSum bytes s → estimate bytes readings tolerances area ≡ answer_into (judge_terms s readings tolerances) area
    unfolding judge_estimate
    after-sum p = with-room ∙ ap (λ j. answer_into j area) (then-good (λ s. judge_terms s readings tolerances) (sum-judged p))

  pub refuses-estimate : {refusal p : ℕ} {area' : List ℕ} → EstimateRefuses bytes readings tolerances area refusal p area' → estimate bytes readings tolerances area ≡ outcome (refused refusal p) area'
  refuses-estimate (no_room short) = without-room short
  refuses-estimate (at_sum room a) = at-fault room a
  refuses-estimate (at_length {s} room p short) = after-sum room p ∙ refused-leaves area (terms-not-long s readings tolerances short)
  refuses-estimate (at_tolerance {s} room p l first) = after-sum room p ∙ refused-leaves area (terms-negative s readings tolerances l first)
  refuses-estimate (beyond {s} room p g far) = after-sum room p ∙ refused-leaves area (terms-given s readings tolerances g ∙ range-beyond s _ _ far)

  pub all-passed : {s : Sum} {rs : List ℤ} {ts : List ℕ} → answer_bytes ≤ length area → PackedSum bytes s → Given readings tolerances rs ts → size s (raised_by rs ts) ≤ largest_weight
      → estimate bytes readings tolerances area ≡ outcome (done answer_bytes) (written (answer_of (value s rs) (margin s rs ts)) area)
  all-passed {s} room p g near = after-sum room p ∙ done-leaves area (terms-given s readings tolerances g ∙ range-within s _ _ near)

-- the packed bytes of an accepted sum are accepted, at readings whose tolerances are not negative, if the raised value is at most 2^62
pub estimate-accepts : (s : Sum) (readings tolerances area : List ℕ) {rs : List ℤ} {ts : List ℕ} → answer_bytes ≤ length area → Accepted variables s → Given readings tolerances rs ts
    → size s (raised_by rs ts) ≤ largest_weight
    → estimate (packed s) readings tolerances area ≡ outcome (done answer_bytes) (written (answer_of (value s rs) (margin s rs ts)) area)
estimate-accepts s readings tolerances area room accepted g near = all-passed (packed s) readings tolerances area room (record { accepted = accepted; bytes_are = refl }) g near

-- ---- There are no other outcomes.

module _ (bytes : List ℕ) (byte : (i : ℕ) → get_or bytes i 0 < 256) (readings tolerances area : List ℕ) where
  -- what stands behind an answer, and behind an outcome
  abbrev pub Behind : Told → List ℕ → Type 0
  Behind (done n) area' = Estimated bytes readings tolerances area n area'
  Behind (refused refusal p) area' = EstimateRefuses bytes readings tolerances area refusal p area'

  abbrev pub Explains : Outcome (List ℕ) → Type 0
  Explains o = Behind o.answer o.areas

  by-refusal : {refusal p : ℕ} {area' : List ℕ} → EstimateRefuses bytes readings tolerances area refusal p area' → Explains (estimate bytes readings tolerances area)
  by-refusal d = subst Explains (sym (refuses-estimate bytes readings tolerances area d)) d

  pub explained : Explains (estimate bytes readings tolerances area)
  explained = go (dec_lt (length area) answer_bytes) (reading bytes byte)
    where
      by-range : {s : Sum} {rs : List ℤ} {ts : List ℕ} → answer_bytes ≤ length area → PackedSum bytes s → Given readings tolerances rs ts
          → Dec (largest_weight < size s (raised_by rs ts)) → Explains (estimate bytes readings tolerances area)
      by-range room p g (yes far) = by-refusal (beyond room p g far)
      by-range {s} {rs} {ts} room p g (no near) =
          let h : size s (raised_by rs ts) ≤ largest_weight = omega (arith, near) in
          subst Explains (sym (all-passed bytes readings tolerances area room p g h)) (record {
            sum = s;
            rs = rs;
            ts = ts;
            room = room;
            of_bytes = p;
            given = g;
            within = h;
            number_is = refl;
            area_is = refl;
          })

      by-readings : {s : Sum} → answer_bytes ≤ length area → PackedSum bytes s → Verdict readings tolerances → Explains (estimate bytes readings tolerances area)
      by-readings room p (not_long short) = by-refusal (at_length room p short)
      by-readings room p (negative l v first) = by-refusal (at_tolerance room p l first)
      by-readings {s} room p (all_given rs ts g) = by-range room p g (dec_lt largest_weight (size s (raised_by rs ts)))

      go : Dec (length area < answer_bytes) → Reading bytes → Explains (estimate bytes readings tolerances area)
      go (yes short) r = by-refusal (no_room short)
      go (no long) (a_fault place a) = by-refusal (at_sum (omega (arith, long)) a)
      go (no long) (a_sum s p) = by-readings (omega (arith, long)) p (verdict readings tolerances)

  pub estimate-means : {n : ℕ} {area' : List ℕ} → estimate bytes readings tolerances area ≡ outcome (done n) area' → Estimated bytes readings tolerances area n area'
  estimate-means e = subst Explains e explained

  pub estimate-refuses : {refusal p : ℕ} {area' : List ℕ} → estimate bytes readings tolerances area ≡ outcome (refused refusal p) area'
      → EstimateRefuses bytes readings tolerances area refusal p area'
  estimate-refuses e = subst Explains e explained
