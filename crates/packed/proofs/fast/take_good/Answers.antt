-- `take_good` meets its contract: terms that were copied, and are good, are those that are read.
use mathlib.Core.Path.{◌∙◌, ap₂}
use mathlib.Core.List.{[]}
use native.Mathlib.Omega.{arith}
use borrow.Author.Rules.{rules}
use Rattle.packed.specs.Pack.{good_terms}
use Rattle.packed.proofs.Taking.{all_good}
use Rattle.packed.proofs.fast.take_good.Goals as goal

pub returns : goal.returns
returns c =
    let good = c.good_terms.ensures ∙ ap₂ (good_terms []) c.first.ensures.patterns c.first.ensures.coefficients in
    all_good c.in_ok-end.ensures (search rules) (search rules) (omega (arith, good, c.if-good_terms-count.false))
