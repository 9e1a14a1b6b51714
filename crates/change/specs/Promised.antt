-- What is promised of slope and substitute: when each is done, with which sum, and when it is refused, and how.
use Rattle.std.specs.Prelude.{◌≡◌, List, ℕ, suc, ◌≤◌, ◌<◌, ℤ, pos, ◌*ℤ◌, length}
use Rattle.algebra.specs.Limits.{variables, most_terms, largest_weight}
use Rattle.algebra.specs.Pattern.{Pattern, exponent, raised}
use Rattle.algebra.specs.Sum.{Sum, weight}
use Rattle.algebra.specs.Accepted.{Accepted}
use Rattle.algebra.specs.Slope.{slope}
use Rattle.algebra.specs.Value.{value, coefficient}
use Rattle.answers.specs.Refusals.{ROOM, WEIGHT, SPREAD, SUM, VARIABLE}
use Rattle.answers.specs.Areas.{written}
use Rattle.answers.specs.Promised.{Each}
use Rattle.packed.specs.Packed.{packed, most_bytes}
use Rattle.packed.specs.ReadSum.{read_whole}
use Rattle.packed.specs.Result.{WorkAreas}
use Rattle.packed.specs.Promised.{PackedSum, AtFault, WorkRoom, cleared_with}
use Rattle.numbers.specs.Item.{Item.got, Item.stopped}
use Rattle.change.specs.Pairs.{Pair, list_bytes, ListFault, read_list, refusal_of}
use Rattle.change.specs.Meaning.{before}
use Rattle.change.specs.Checks.{Applied, FirstFault}

-- ---- Slope.

-- it is done: every check passes, and the result is the slope of the sum that was given
pub record Sloped (bytes : List ℕ) (v : ℕ) (area : List ℕ) (n : ℕ) (area' : List ℕ) : Type 0 where
  pub sum : Sum
  pub result : Sum
  pub room : most_bytes variables ≤ length area
  pub accepted : Accepted variables sum
  pub bytes_are : bytes ≡ packed sum
  pub known : v < variables
  pub result_is : result ≡ slope v sum
  pub result_accepted : Accepted variables result
  -- the coefficient of each pattern is that of the pattern with one power of v more, times that power
  pub coefficients_are : (r : Pattern) → length r ≡ variables → coefficient result r ≡ pos (suc (exponent v r)) *ℤ coefficient sum (raised v r)
  pub many : n ≡ length (packed result)
  pub area_is : area' ≡ written (packed result) area

-- it is refused: the refusal, its place, and the area, which stays. (`wide` is never met: a sum has at most 128 terms, and its slope no more than the sum, which is `never-wide`.)
pub data SlopeRefuses (bytes : List ℕ) (v : ℕ) (area : List ℕ) : ℕ → ℕ → List ℕ → Type 0 where
  no_room : length area < most_bytes variables → SlopeRefuses bytes v area ROOM 0 area
  at_sum : {p : ℕ} → most_bytes variables ≤ length area → AtFault (read_whole variables bytes) p → SlopeRefuses bytes v area SUM p area
  no_variable : {s : Sum} → most_bytes variables ≤ length area → PackedSum bytes s → variables ≤ v → SlopeRefuses bytes v area VARIABLE 0 area
  heavy : {s : Sum} → most_bytes variables ≤ length area → PackedSum bytes s → v < variables → largest_weight < weight (slope v s) → SlopeRefuses bytes v area WEIGHT 0 area
  wide : {s : Sum} → most_bytes variables ≤ length area → PackedSum bytes s → v < variables → weight (slope v s) ≤ largest_weight
      → most_terms < length (slope v s) → SlopeRefuses bytes v area SPREAD 0 area

-- ---- Substitute.

-- what a list may hold: a variable, and an accepted sum
pub record GoodPair (n : ℕ) (p : Pair) : Type 0 where
  pub known : p.variable < n
  pub accepted : Accepted n p.sum

abbrev pub AllGood : ℕ → List Pair → Type 0
AllGood n ps = Each (GoodPair n) ps

-- it is done: both inputs are what packing gives, every pair passes, and the result's values are those of algebra
pub record Substituted (bytes list patterns : List ℕ) (coefficients : List ℤ) (area : List ℕ) (n : ℕ) (areas : WorkAreas) : Type 0 where
  pub sum : Sum
  pub ps : List Pair
  pub result : Sum
  pub room : WorkRoom patterns coefficients area
  pub bytes_are : bytes ≡ packed sum
  pub sum_accepted : Accepted variables sum
  pub list_is : list ≡ list_bytes ps
  pub few : length ps ≤ variables
  pub pairs_good : AllGood variables ps
  pub applied : Applied ps sum result
  pub accepted : Accepted variables result
  pub values : (x : List ℤ) → variables ≤ length x → value result x ≡ value sum (before ps x)
  pub many : n ≡ length (packed result)
  pub areas_are : areas ≡ cleared_with patterns coefficients (written (packed result) area)

-- it is refused: the refusal, its place, and the areas
pub data SubstituteRefuses (bytes list patterns : List ℕ) (coefficients : List ℤ) (area : List ℕ) : ℕ → ℕ → WorkAreas → Type 0 where
  no_room : (WorkRoom patterns coefficients area → ⊥) → SubstituteRefuses bytes list patterns coefficients area ROOM 0 (patterns, coefficients, area)
  -- the packed sum is cut or damaged
  at_sum : {p : ℕ} → WorkRoom patterns coefficients area → AtFault (read_whole variables bytes) p
      → SubstituteRefuses bytes list patterns coefficients area SUM p (cleared_with patterns coefficients area)
  -- the sum was read, and the list is at fault
  at_list : {s : Sum} {what : ListFault} {p : ℕ} → WorkRoom patterns coefficients area → PackedSum bytes s → read_list variables list ≡ stopped what p
      → SubstituteRefuses bytes list patterns coefficients area (refusal_of what) p (cleared_with patterns coefficients area)
  -- both were read, and a check of a pair fails
  at_pair : {s : Sum} {ps : List Pair} {last refusal j : ℕ} → WorkRoom patterns coefficients area → PackedSum bytes s
      → read_list variables list ≡ got ps last → FirstFault ps s refusal j
      → SubstituteRefuses bytes list patterns coefficients area refusal j (cleared_with patterns coefficients area)
