-- `raise` meets its contract: the product is formed in the areas that are lent for it, and copied.
use mathlib.Core.Path.{◌≡◌}
use Prim.Native.Nat.{◌≤◌}
use native.Mathlib.Omega.{arith}
use mathlib.Core.List.{◌++◌}
use lib.ListN.{take, drop}
use Rattle.answers.specs.Areas.{written}
use Rattle.algebra.specs.Limits.{most_terms}
use Rattle.algebra.specs.Arithmetic.{◌⊗◌, product_spread}
use Rattle.algebra.specs.Word.{terms}
use Rattle.algebra.specs.Held.{first_terms}
use Rattle.algebra.proofs.Sums.Results.{product-length}
use Rattle.sums.specs.Formed.{formed_of, within, product_of, formed_into}
use Rattle.std.proofs.Common.{rules}
use Rattle.pair.proofs.Copying.{copy-stops, copy-few, copy-formed}
use Rattle.pair.proofs.putting.raise.Goals as goal
use Rattle.pair.proofs.putting.raise.Goals.{After-product, In_ok-count}

-- what `product` answers, and how many terms that are
formed-own : (d : After-product)
    → let s = first_terms d.args.n d.args.wp.now d.args.wc.now in
    let t = terms d.args.put.patterns.now d.args.put.coefficients.now in
    (formed_of d.product.result, d.product.new.patterns, d.product.new.coefficients) ≡ formed_into (within (product_spread s t) (s ⊗ t)) d.args.patterns.now d.args.coefficients.now
unfolding product_of
formed-own d = rw (d.first.ensures.patterns, d.first.ensures.coefficients) at d.product.ensures

copied-few : (d : In_ok-count) → d.in_ok-count.count ≤ most_terms
unfolding product_of
copied-few d = copy-few _ _ _ _ d.product.result (rw (d.first.ensures.patterns, d.first.ensures.coefficients) at d.product.ensures) d.in_ok-count.was (product-length _ _)

pub returns-in_err-count : goal.returns-in_err-count
unfolding product_of
returns-in_err-count c = rw c.from_residual.ensures (copy-stops _ _ _ _ c.product.result (formed-own (goal.at.returns-in_err-count c).After-product) c.in_err-count.was _ _)

pub prove-unreachable-requires : goal.prove-unreachable-requires
prove-unreachable-requires c = let few = copied-few (goal.at.prove-unreachable-requires c).In_ok-count in omega (arith, few, c.if-prove.true)

pub returns : goal.returns
unfolding product_of
returns c =
    let words : c.copy_from_slice.new.self ++ drop c.in_ok-count.count c.args.wp.now ≡ written (take c.in_ok-count.count c.product.new.patterns) c.args.wp.now = search rules in
    let coefficients : c.copy_from_slice-2.new.self ++ drop c.in_ok-count.count c.args.wc.now ≡ written (take c.in_ok-count.count c.product.new.coefficients) c.args.wc.now = search rules in
    copy-formed _ _ _ _ c.product.result (formed-own (goal.at.returns c).After-product) c.in_ok-count.was _ _ words coefficients
