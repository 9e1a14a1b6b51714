-- Which pairs pass, and which check fails first, as statements; Substitute.antt computes the same.
use Rattle.std.specs.Prelude.{◌≡◌, List, [], ◌∷◌, ◌++◌, ℕ, ◌≤◌, ◌<◌, length}
use Rattle.algebra.specs.Limits.{variables, largest_degree, most_terms, largest_weight}
use Rattle.algebra.specs.Sum.{Sum}
use Rattle.algebra.specs.Substitute.{pair_degree, pair_weight, pair_spread}
use Rattle.answers.specs.Refusals.{DEGREE, WEIGHT, SPREAD}
use Rattle.change.specs.Pairs.{Pair}
use Rattle.change.specs.Substitute.{put_in}

-- the pair p passes its checks where it is applied to s
pub record Passes (p : Pair) (s : Sum) : Type 0 where
  pub degree : pair_degree p.variable p.sum s ≤ largest_degree
  pub weight : pair_weight p.variable p.sum s ≤ largest_weight
  pub spread : pair_spread variables p.variable p.sum s ≤ most_terms

-- all pairs pass, each on what the one before made, and s becomes t
pub data Applied : List Pair → Sum → Sum → Type 0 where
  none : {s : Sum} → Applied [] s s
  more : {p : Pair} {ps : List Pair} {s t : Sum} → Passes p s → Applied ps (put_in p s) t → Applied (p ∷ ps) s t

-- the first check that p fails where it is applied to s
pub data Fails (p : Pair) (s : Sum) : ℕ → Type 0 where
  degree : largest_degree < pair_degree p.variable p.sum s → Fails p s DEGREE
  weight : pair_degree p.variable p.sum s ≤ largest_degree → largest_weight < pair_weight p.variable p.sum s → Fails p s WEIGHT
  spread : pair_degree p.variable p.sum s ≤ largest_degree → pair_weight p.variable p.sum s ≤ largest_weight
      → most_terms < pair_spread variables p.variable p.sum s → Fails p s SPREAD

-- the first failing check of the pairs is `refusal`, at pair j: all pairs before it pass
pub record FirstFault (ps : List Pair) (s : Sum) (refusal j : ℕ) : Type 0 where
  pub passed : List Pair
  pub p : Pair
  pub rest : List Pair
  pub between : Sum
  pub pairs_are : ps ≡ passed ++ (p ∷ rest)
  pub applied : Applied passed s between
  pub at_pair : length passed ≡ j
  pub fails : Fails p between refusal
