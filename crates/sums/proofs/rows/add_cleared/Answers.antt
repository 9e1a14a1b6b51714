-- `add_cleared` meets its contract: the pairs are added, and the places after the sum, or all places, are cleared.
use mathlib.Core.Path.{◌≡◌, ◌∙◌}
use Prim.Native.Nat.{◌≤◌}
use borrow.Author.Rules.{rules}
use lib.ListN.{length}
use Rattle.sums.specs.Formed.{formed_of}
use Rattle.sums.proofs.Pairing.{answer-holdable}
use Rattle.sums.proofs.AddingPairs.{can-add}
use Rattle.sums.proofs.Clearing.{number_of, number-unwrapped, number-inside, ranks-stand, cleared-into}
use Rattle.sums.proofs.rows.add_cleared.Goals as goal
use Rattle.sums.proofs.rows.add_cleared.Goals.{After-unwrap_or-all}

-- the number of terms that stand in the areas
number_is : (d : After-unwrap_or-all) → d.unwrap_or-all.result ≡ number_of (formed_of d.add_apart-formed.result)
number_is d = d.unwrap_or-all.ensures ∙ number-unwrapped d.add_apart-formed.result

inside : (d : After-unwrap_or-all)
    → (d.unwrap_or-all.result ≤ length d.add_apart-formed.new.ranks) × (d.unwrap_or-all.result ≤ length d.add_apart-formed.new.coefficients)
inside d = number-inside _ d.add_apart-formed.new.ranks d.add_apart-formed.ensures (number_is d)

pub offset_bounds-coefficients-all : goal.offset_bounds-coefficients-all
offset_bounds-coefficients-all c = let few = (inside (goal.at.offset_bounds-coefficients-all c).After-unwrap_or-all).1 in search rules

pub slice_bounds-fill-count-2 : goal.slice_bounds-fill-count-2
slice_bounds-fill-count-2 c = (inside (goal.at.slice_bounds-fill-count-2 c).After-unwrap_or-all).1

pub slice_bounds-fill-start-2 : goal.slice_bounds-fill-start-2
slice_bounds-fill-start-2 c = (inside (goal.at.slice_bounds-fill-start-2 c).After-unwrap_or-all).1

pub returns : goal.returns
returns c = cleared-into c.args.ranks.now c.args.coefficients.now c.add_apart-formed.new.ranks c.add_apart-formed.new.coefficients c.unwrap_or-all.result (number_is (goal.at.returns c).After-unwrap_or-all) c.add_apart-formed.auto.ranks c.add_apart-formed.auto.coefficients
    (search rules) (search rules) _ c.add_apart-formed.ensures
    (ranks-stand c.add_apart-formed.new.ranks c.add_apart-formed.ensures (λ i. (c.slice_known-2-1.given i).fits) (answer-holdable (can-add c.requires)))
