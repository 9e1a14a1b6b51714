-- `list_table` meets its contract: the terms that were formed are listed, or the refusal.
use mathlib.Core.Path.{sym, ◌∙◌, ap, ap₂}
use Prim.Native.Nat.{◌^◌, ◌<◌}
use native.Mathlib.Omega.{arith}
use borrow.Author.Rules.{rules}
use Rattle.algebra.specs.Limits.{variables}
use Rattle.algebra.specs.Word.{terms}
use Rattle.answers.specs.Refusals.{number}
use Rattle.listing.specs.Lines.{sum_lines}
use Rattle.listing.proofs.Widths.{sum-width, refusal-width}
use Rattle.listing.proofs.Answered.{listed-sum, listed-refusal, listed-as}
use Rattle.listing.proofs.list_table.Goals as goal

pub write_sum-requires-clause-sum_in_bounds : goal.write_sum-requires-clause-sum_in_bounds
write_sum-requires-clause-sum_in_bounds c =
    let t = c.in-Ok.ensures in
    rw (c.first.ensures.patterns, c.first.ensures.coefficients, t.terms_are) (omega (arith, sum-width variables t.sum t.accepted, c.requires))

pub write_refusal-requires : goal.write_refusal-requires
write_refusal-requires c =
    let small : number c.in-Err.refused.refusal < 2 ^ 64 = search rules in
    let near : c.in-Err.refused.place < 2 ^ 64 = search rules in
    omega (arith, refusal-width (number c.in-Err.refused.refusal) c.in-Err.refused.place small near, c.requires)

pub returns-in-Ok : goal.returns-in-Ok
returns-in-Ok c =
    let t = c.in-Ok.ensures in
    let is = listed-sum t.is ∙ ap sum_lines (sym (ap₂ terms c.first.ensures.patterns c.first.ensures.coefficients ∙ t.terms_are)) in
    let all = listed-as _ is (c.write_sum.ensures.value, c.write_sum.ensures.area_after) in
    record { value = all.0; area_after = all.1 }

pub returns-in-Err : goal.returns-in-Err
returns-in-Err c =
    let all = listed-as _ (listed-refusal c.in-Err.ensures) (c.write_refusal.ensures.value, c.write_refusal.ensures.area_after) in
    record { value = all.0; area_after = all.1 }
