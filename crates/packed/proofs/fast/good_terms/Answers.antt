use mathlib.Core.Path.{◌≡◌, ◌∙◌, ap}
use borrow.Author.Rules.{rules}
use Prim.Native.Nat.{◌<◌}
use native.Mathlib.Omega.{arith}
use lib.IntN.{pos, nat_abs}
use lib.ListN.{get_or}
use mir.Syntax.{w64}
use mir.ValLaws.{to_z-of_z}
use Rattle.packed.proofs.GoodTerms.{start, ended, Meeting, zero-stops, heavy-stops, high-stops, early-stops, again}
use Rattle.packed.proofs.fast.good_terms.Goals as goal
use Rattle.packed.proofs.fast.good_terms.Goals.{After-absolute-size, then-total-degree-2+else-pattern-last, else-total-degree-2}

-- the size of the next term is known
met : (d : After-absolute-size)
    → Meeting d.args.terms.patterns.now d.args.terms.coefficients.now d.loop-k.weight d.loop-k.degree d.loop-k.last d.loop-k.k d.absolute-size.result
met d =
    record {
      judging = d.loop-k.invariant;
      more = omega (arith, d.loop-k-test.true, d.len-k-end.ensures);
      is = d.absolute-size.ensures ∙ ap nat_abs (to_z-of_z w64 (get_or d.args.terms.coefficients.now d.loop-k.k (pos 0)) (search rules));
    }

pub loop-k-init : goal.loop-k-init
loop-k-init c = start _ _ c.requires

pub returns-then-size-eq0 : goal.returns-then-size-eq0
returns-then-size-eq0 c = zero-stops (met (goal.at.returns-then-size-eq0 c).After-absolute-size) c.if-size-eq0.true

pub returns-then-size-weight : goal.returns-then-size-weight
returns-then-size-weight c = heavy-stops (met (goal.at.returns-then-size-weight c).After-absolute-size) c.if-size-weight.true

pub returns-then-total-degree : goal.returns-then-total-degree
returns-then-total-degree c = high-stops (met (goal.at.returns-then-total-degree c).After-absolute-size) c.total-total.ensures c.if-total-degree.true

pub returns-then-pattern-last : goal.returns-then-pattern-last
returns-then-pattern-last c = early-stops (met (goal.at.returns-then-pattern-last c).After-absolute-size) c.total-total.ensures c.if-total-degree-2.true c.if-pattern-last.true

pub loop-k-preserved : goal.loop-k-preserved
loop-k-preserved c = let w = get_or c.args.terms.patterns.now c.loop-k.k 0 in
    let tie : c.total-total.result ≡ c.loop-k.degree → w < c.loop-k.last =
    elim c.if-total-degree-2.branch [ then-total-degree-2+else-pattern-last b ↦ λ e. b.if-pattern-last.false | else-total-degree-2 b ↦ λ e. absurd (b.if-total-degree-2.false e) ] in
    again (met (goal.at.loop-k-preserved c).After-absolute-size) c.total-total.ensures c.if-size-eq0.false c.if-size-weight.false (search rules) c.if-total-degree.false tie

pub returns : goal.returns
returns c = c.len.ensures ∙ ended c.loop-k.invariant (omega (arith, c.loop-k-test.false, c.len-k-end.ensures))
