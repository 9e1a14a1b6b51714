-- `Pattern::of_rank` meets its contract: 255 × (2^56 − 1) + 255 is still below 2^64.
use mathlib.Core.Path.{refl}
use Rattle.algebra.specs.Inside.Rank.{word_at}
use Rattle.algebra.proofs.Pattern.of_rank.Goals as goal

pub returns : goal.returns
unfolding word_at
returns c = refl
