use mathlib.Core.Path.{◌≡◌, ◌∙◌, ap}
use Prim.Native.Nat.{ℕ, ◌+◌, ◌^◌, ◌<◌, max}
use native.Mathlib.Omega.{arith}
use lib.IntN.{pos, nat_abs}
use lib.ListN.{get_or}
use mir.Syntax.{w64}
use mir.ValLaws.{to_z-of_z}
use Rattle.sums.proofs.Holding.{each-valid}
use Rattle.sums.proofs.Sizing.{start, fits, again}
use Rattle.sums.proofs.size_of.Goals as goal
use Rattle.sums.proofs.size_of.Goals.{After-unsigned_abs-weight}

-- the size of the term's coefficient, and that it can be added
size_is : (d : After-unsigned_abs-weight)
    → d.unsigned_abs-weight.result ≡ nat_abs (get_or d.args.s.coefficients.now d.loop-k.k (pos 0))
size_is d =
    let value = get_or d.args.s.coefficients.now d.loop-k.k (pos 0) in
    d.unsigned_abs-weight.ensures.value ∙ ap nat_abs (to_z-of_z w64 value record { sfits = d.c-1.given })

added : (d : After-unsigned_abs-weight) → d.loop-k.weight + d.unsigned_abs-weight.result < 2 ^ 64
added d = omega (arith, size_is d, fits d.loop-k.invariant d.loop-k-test.true)

pub loop-k-init : goal.loop-k-init
loop-k-init c = start c.requires.held c.requires.sc_bound

pub degree-requires : goal.degree-requires
degree-requires c = each-valid c.loop-k.invariant.held c.loop-k.k c.loop-k-test.true

pub overflow_add-weight : goal.overflow_add-weight
overflow_add-weight c = record { fits = added c }

pub loop-k-preserved : goal.loop-k-preserved
loop-k-preserved c = let larger = c.max-degree.ensures ∙ ap (max c.loop-k.degree) c.degree.ensures in
    again c.loop-k.invariant c.loop-k-test.true larger (ap (λ (i : ℕ). c.loop-k.weight + i) (size_is c))
