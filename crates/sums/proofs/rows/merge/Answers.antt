use mathlib.Core.Path.{◌≡◌, sym, ◌∙◌, ap, ap₂, subst}
use Prim.Native.Nat.{◌-◌, ◌^◌, ◌<◌}
use borrow.Author.Rules.{rules}
use lib.IntN.{pos, ◌+ℤ◌, ◌*ℤ◌}
use lib.ListN.{get_or}
use mir.Syntax.{w64}
use mir.Val.{SFits, of_z, to_z}
use mir.ValLaws.{to_z-of_z}
use Rattle.algebra.specs.Inside.Standing.{standing}
use Rattle.sums.proofs.Standing.{there-is}
use Rattle.sums.proofs.Moving.{left-valid, value-fits}
use Rattle.sums.proofs.Ranking.{start, ended, next_fits, next-valid, new, sum_fits, known, passed}
use Rattle.sums.proofs.rows.merge.Goals as goal
use Rattle.sums.proofs.rows.merge.Goals.{After-d-1, After-e-1, After-next-1}

-- the two ranks that are added are numbers of 64 bits
rank-small : (d : After-next-1) → d.args.rank < 2 ^ 64
rank-small d = d.ranges.rank.fits

factor-small : (d : After-next-1) → get_or d.args.t.patterns.now (d.loop-j.j - 1) 0 < 2 ^ 64
factor-small d = search rules

-- the factor's coefficient that was read, as the machine holds it
read : (d : After-d-1)
    → let value = get_or d.args.t.coefficients.now (d.loop-j.j - 1) (pos 0) in
    to_z w64 (of_z w64 value) ≡ value
read d = to_z-of_z w64 _ (record { sfits = d.d-1.given })

-- the same, and the running sum's
read-2 : (d : After-e-1)
    → let value = get_or d.args.t.coefficients.now (d.loop-j.j - 1) (pos 0) in
    let other = get_or d.loop-j.coefficients (d.loop-j.i - 1) (pos 0) in
    (to_z w64 (of_z w64 value) ≡ value) × (to_z w64 (of_z w64 other) ≡ other)
read-2 d = (to_z-of_z w64 _ (record { sfits = d.d-in-Equal-1.given }), to_z-of_z w64 _ (record { sfits = d.e-1.given }))

pub overflow_sub-i : goal.overflow_sub-i
overflow_sub-i c = (there-is _ _ _ (sym c.last_stands.ensures ∙ ap standing c.in-Equal.is) (λ h. h)).0

pub overflow_sub-i-in-Greater : goal.overflow_sub-i-in-Greater
overflow_sub-i-in-Greater c = (there-is _ _ _ (sym c.last_stands.ensures ∙ ap standing c.in-Greater.is) (λ h. h)).0

pub overflow_mul-coefficients-in-Equal : goal.overflow_mul-coefficients-in-Equal
overflow_mul-coefficients-in-Equal c = rw (read-2 c).0 (value-fits c.loop-j.invariant.words c.loop-j-test.true)

-- the two coefficients together, as the machine adds them
both : (d : After-e-1)
    → let factor = to_z w64 (of_z w64 d.args.c) in
    let value = get_or d.args.t.coefficients.now (d.loop-j.j - 1) (pos 0) in
    let other = get_or d.loop-j.coefficients (d.loop-j.i - 1) (pos 0) in
    to_z w64 (of_z w64 (factor *ℤ to_z w64 (of_z w64 value))) +ℤ to_z w64 (of_z w64 other) ≡ factor *ℤ value +ℤ other
both d =
    ap₂ ◌+ℤ◌ (to_z-of_z w64 _ (overflow_mul-coefficients-in-Equal d) ∙ ap (λ z. to_z w64 (of_z w64 d.args.c) *ℤ z) (read-2 d).0) (read-2 d).1

pub loop-j-init : goal.loop-j-init
loop-j-init c = start (rw (to_z-of_z w64 c.args.c c.ranges.c) c.requires)

pub overflow_add-next : goal.overflow_add-next
overflow_add-next c = record { fits = next_fits c.loop-j.invariant c.loop-j-test.true (rank-small c) (factor-small c) }

pub last_stands-requires-clause-each_valid : goal.last_stands-requires-clause-each_valid
last_stands-requires-clause-each_valid c = left-valid c.loop-j.invariant.words

pub last_stands-requires-clause-valid : goal.last_stands-requires-clause-valid
last_stands-requires-clause-valid c = next-valid c.loop-j.invariant c.loop-j-test.true (rank-small c) (factor-small c)

pub overflow_mul-coefficients : goal.overflow_mul-coefficients
overflow_mul-coefficients c = rw (read c) (value-fits c.loop-j.invariant.words c.loop-j-test.true)

pub loop-j-preserved-in-Less : goal.loop-j-preserved-in-Less
loop-j-preserved-in-Less c = new c.loop-j.invariant c.loop-j-test.true (rank-small (goal.at.loop-j-preserved-in-Less c).After-next-1) (factor-small (goal.at.loop-j-preserved-in-Less c).After-next-1) (sym c.last_stands.ensures ∙ ap standing c.in-Less.is)
    (to_z-of_z w64 _ (overflow_mul-coefficients c) ∙ ap (λ z. to_z w64 (of_z w64 c.args.c) *ℤ z) (read c))

pub overflow_add-coefficients : goal.overflow_add-coefficients
overflow_add-coefficients c = subst (SFits w64) (sym (both c)) (sum_fits c.loop-j.invariant c.loop-j-test.true (rank-small (goal.at.overflow_add-coefficients c).After-next-1) (factor-small (goal.at.overflow_add-coefficients c).After-next-1) (there-is _ _ _ (sym c.last_stands.ensures ∙ ap standing c.in-Equal.is) (λ h. h)).0)

pub loop-j-preserved-in-Equal : goal.loop-j-preserved-in-Equal
loop-j-preserved-in-Equal c = known c.loop-j.invariant c.loop-j-test.true (rank-small (goal.at.loop-j-preserved-in-Equal c).After-next-1) (factor-small (goal.at.loop-j-preserved-in-Equal c).After-next-1) (there-is _ _ _ (sym c.last_stands.ensures ∙ ap standing c.in-Equal.is) (λ h. h)).0
    (sym c.last_stands.ensures ∙ ap standing c.in-Equal.is) (to_z-of_z w64 _ (overflow_add-coefficients c) ∙ both c)

pub loop-j-preserved : goal.loop-j-preserved
loop-j-preserved c = passed c.loop-j.invariant c.loop-j-test.true (rank-small (goal.at.loop-j-preserved c).After-next-1) (factor-small (goal.at.loop-j-preserved c).After-next-1) (there-is _ _ _ (sym c.last_stands.ensures ∙ ap standing c.in-Greater.is) (λ h. h)).0
    (sym c.last_stands.ensures ∙ ap standing c.in-Greater.is) (to_z-of_z w64 _ (record { sfits = c.e-in-Greater-1.given }))

pub returns : goal.returns
returns c = rw (to_z-of_z w64 c.args.c c.ranges.c) at (ended c.loop-j.invariant c.loop-j-test.false)
