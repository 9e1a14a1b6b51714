-- `estimate_terms` meets its contract: lengths first, then the first negative tolerance, then the range; the answer is written last.
use mathlib.Core.Path.{◌≡◌, sym, ◌∙◌, ap}
use mathlib.Core.Logic.{inl, inr}
use native.Mathlib.Omega.{arith}
use Rattle.std.specs.Prelude.{Some, None}
use Rattle.std.proofs.lemmas.Result.{err_from_is_err_and}
use Rattle.algebra.specs.Word.{terms}
use Rattle.answers.specs.Answers.{Told.done, outcome}
use Rattle.estimates.specs.Range.{judge_terms}
use Rattle.router.specs.Estimate.{answer_bytes}
use Rattle.estimates.specs.Inside.Found.{found_of}
use Rattle.estimates.proofs.JudgeTerms.{terms-not-long, terms-negative, terms-given, range-margin, stops, passes, are-given}
use Rattle.router.proofs.Estimating.{refused-leaves, done-leaves}
use Rattle.estimates.specs.Promised.{RightLength}
use Rattle.router.proofs.estimate_terms.Goals as goal
use Rattle.router.proofs.estimate_terms.Goals.{After-before_negative-good, After-estimate_at}

-- both lengths are right
long : (d : After-before_negative-good) → RightLength d.args.readings.now d.args.tolerances.now
long d = record { readings_long = d.if-readings-ne-READING_BYTES.false; tolerances_long = d.if-tolerances-ne-READING_BYTES.false }

-- what was found is what the definition judges
judged : (d : After-estimate_at) → judge_terms (terms d.args.sum.patterns.now d.args.sum.coefficients.now) d.args.readings.now d.args.tolerances.now ≡ found_of d.estimate_at.result
judged d =
    terms-given _ _ _ (are-given ((record { readings_long = d.if-readings-ne-READING_BYTES.false; tolerances_long = d.if-tolerances-ne-READING_BYTES.false })) d.read_numbers.ensures d.read_numbers-2.ensures d.before_negative-good.ensures d.if-good-lt-VARIABLES.false) ∙ sym d.estimate_at.ensures

pub returns-then-readings-ne-READING_BYTES : goal.returns-then-readings-ne-READING_BYTES
returns-then-readings-ne-READING_BYTES c = rw c.at.ensures
    (sym (refused-leaves _ (terms-not-long _ _ _ (λ l. elim c.then-readings-ne-READING_BYTES.either [ inl not ↦ not l.readings_long | inr not ↦ not.1 l.tolerances_long ]))))

pub returns-then-good-lt-VARIABLES : goal.returns-then-good-lt-VARIABLES
returns-then-good-lt-VARIABLES c =
    let l = long (goal.at.returns-then-good-lt-VARIABLES c).After-before_negative-good in
    rw c.at-then-good-lt-VARIABLES.ensures
    (sym (refused-leaves _ (terms-negative _ _ _ l (stops l c.read_numbers.ensures c.read_numbers-2.ensures c.before_negative-good.ensures c.if-good-lt-VARIABLES.true))))

pub estimate_at-requires-clause-tolerances_value : goal.estimate_at-requires-clause-tolerances_value
estimate_at-requires-clause-tolerances_value c = passes (long (goal.at.estimate_at-requires-clause-tolerances_value c).After-before_negative-good) c.read_numbers.ensures c.read_numbers-2.ensures c.before_negative-good.ensures c.if-good-lt-VARIABLES.false

pub returns-in_err-found : goal.returns-in_err-found
returns-in_err-found c =
    let p = err_from_is_err_and c.from_residual.result c.from_residual.ensures.1 in
    let none : c.estimate_at.result ≡ None = grind arith in
    let is : c.in_err-found.field-0.0 ≡ c.at-2.result = grind arith in
    rw (p.1, p.2, is, c.at-2.ensures) (sym (refused-leaves _ (judged (goal.at.returns-in_err-found c).After-estimate_at ∙ ap found_of none)))

pub write_answer-requires-clause-margin_le_largest_weight : goal.write_answer-requires-clause-margin_le_largest_weight
write_answer-requires-clause-margin_le_largest_weight c =
    let some : c.estimate_at.result ≡ Some c.in_ok-found.found = grind arith in
    range-margin _ _ _ (sym c.estimate_at.ensures ∙ ap found_of some)

pub returns : goal.returns
returns c =
    let some : c.estimate_at.result ≡ Some c.in_ok-found.found = grind arith in
    ap (outcome (done answer_bytes)) c.write_answer.ensures
    ∙ sym (done-leaves _ (judged (goal.at.returns c).After-estimate_at ∙ ap found_of some))
