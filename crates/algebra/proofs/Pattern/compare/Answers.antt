-- `Pattern::compare` meets its contract: the larger rank stands first.
use mathlib.Core.Path.{◌∙◌, ap₂}
use Rattle.std.specs.Ordering.{nat_cmp}
use Rattle.algebra.specs.Inside.Standing.{standing}
use Rattle.algebra.proofs.Patterns.Rank.{rank-order}
use Rattle.algebra.proofs.Patterns.Standing.{standing-says}
use Rattle.algebra.proofs.Pattern.compare.Goals as goal

pub returns : goal.returns
returns c = rank-order _ _ c.requires.valid c.requires.valid_2 (standing c.cmp.result)
    (standing-says _ _ _ (c.cmp.ensures ∙ ap₂ nat_cmp c.rank-theirs.ensures c.rank-mine.ensures))
