-- Slope, as its caller sees it: exactly when it is done, with which sum, and exactly when it is refused, and how.
use mathlib.Core.Path.{◌≡◌, refl, sym, ◌∙◌, ap, subst}
use mathlib.Core.List.{List}
use Prim.Native.Nat.{ℕ, ◌≤◌, ◌<◌}
use native.Mathlib.Omega.{arith}
use native.Mathlib.Nat.{le_trans}
use native.Mathlib.Decide.{dec_lt}
use borrow.Author.Tests.{lt-ltb, le-ltb, le-leb, lt-leb}
use lib.ListN.{length, get_or}
use Rattle.algebra.specs.Limits.{variables, most_terms, largest_weight}
use Rattle.algebra.specs.Sum.{Sum, weight}
use Rattle.algebra.specs.Accepted.{Accepted}
use Rattle.algebra.specs.Slope as algebra
use Rattle.algebra.proofs.Sums.Slopes.{slope-coefficient, slope-ordered, slope-degree, slope-length}
use Rattle.answers.specs.Refusals.{ROOM, WEIGHT, SPREAD, SUM, VARIABLE}
use Rattle.answers.specs.Answers.{Told, Told.done, Told.refused, Outcome, outcome}
use Rattle.answers.specs.Areas.{written}
use Rattle.answers.specs.Judge.{Judged.good, Judged.fails, holding, and_then}
use Rattle.packed.specs.Packed.{packed, most_bytes}
use Rattle.packed.specs.ReadSum.{read_whole}
use Rattle.packed.specs.Whole.{judged}
use Rattle.packed.specs.Result.{packed_into}
use Rattle.packed.proofs.Results.{Reading, Reading.a_sum, Reading.a_fault, reading, sum-given, sum-refused}
use Rattle.packed.specs.Promised.{PackedSum, AtFault}
use Rattle.change.specs.Slope.{judge_slope, slope}
use Rattle.change.specs.Promised.{Sloped, SlopeRefuses, SlopeRefuses.no_room, SlopeRefuses.at_sum, SlopeRefuses.no_variable, SlopeRefuses.heavy, SlopeRefuses.wide}

-- ---- The slope of an accepted sum is accepted, if it is light: its degree is no higher, and it has no more terms.

pub slope-accepted : (v : ℕ) (s : Sum) → Accepted variables s → weight (algebra.slope v s) ≤ largest_weight → Accepted variables (algebra.slope v s)
slope-accepted v s a light = record {
  is_ordered = slope-ordered variables v s a.is_ordered;
  light = light;
  low = le_trans (slope-degree v s) a.low;
  few = le_trans (slope-length v s) a.few;
}

-- ---- Check by check, of the sum that is given.

module _ (v : ℕ) (s : Sum) where
  pub judge-variable : variables ≤ v → judge_slope v s ≡ fails VARIABLE 0
  unfolding judge_slope holding
  judge-variable unknown = rw (le-ltb v variables unknown)

  module _ (known : v < variables) where
    pub judge-weight : largest_weight < weight (algebra.slope v s) → judge_slope v s ≡ fails WEIGHT 0
    unfolding judge_slope holding
    judge-weight above = rw (lt-ltb v variables known, lt-leb (weight (algebra.slope v s)) largest_weight above)

    module _ (light : weight (algebra.slope v s) ≤ largest_weight) where
      judge-spread : most_terms < length (algebra.slope v s) → judge_slope v s ≡ fails SPREAD 0
      unfolding judge_slope holding
      judge-spread above = rw (lt-ltb v variables known, le-leb (weight (algebra.slope v s)) largest_weight light, lt-leb (length (algebra.slope v s)) most_terms above)

      pub judge-good : length (algebra.slope v s) ≤ most_terms → judge_slope v s ≡ good (algebra.slope v s)
      unfolding judge_slope holding
      judge-good few = rw (lt-ltb v variables known, le-leb (weight (algebra.slope v s)) largest_weight light, le-leb (length (algebra.slope v s)) most_terms few)

-- a refusal, in the result area
pub judged-so : {refusal place : ℕ} (v : ℕ) (s : Sum) (area : List ℕ) → judge_slope v s ≡ fails refusal place → packed_into (judge_slope v s) area ≡ outcome (refused refusal place) area
unfolding packed_into
judged-so v s area e = ap (λ j. packed_into j area) e

-- every check passes
pub judged-good : (v : ℕ) (s : Sum) (area : List ℕ) → Accepted variables s → v < variables → weight (algebra.slope v s) ≤ largest_weight
    → packed_into (judge_slope v s) area ≡ packed_into (good (algebra.slope v s)) area
judged-good v s area accepted known light = ap (λ j. packed_into j area) (judge-good v s known light (slope-accepted v s accepted light).few)

-- ---- The outcomes.

module _ (bytes : List ℕ) (v : ℕ) (area : List ℕ) where
  without-room : length area < most_bytes variables → slope bytes v area ≡ outcome (refused ROOM 0) area
  unfolding slope
  without-room short = rw (lt-leb (most_bytes variables) (length area) short)

  with-room : most_bytes variables ≤ length area → slope bytes v area ≡ packed_into (and_then (judged SUM (read_whole variables bytes)) (judge_slope v)) area
  unfolding slope
  with-room room = rw (le-leb (most_bytes variables) (length area) room)

  module _ (room : most_bytes variables ≤ length area) where
    at-fault : {p : ℕ} → AtFault (read_whole variables bytes) p → slope bytes v area ≡ outcome (refused SUM p) area
    at-fault a = with-room room ∙ sum-refused bytes (judge_slope v) area a

    module _ {s : Sum} (p : PackedSum bytes s) where
      pub after-sum : slope bytes v area ≡ packed_into (judge_slope v s) area
      after-sum = with-room room ∙ sum-given bytes (judge_slope v) area p

      refused-so : {refusal place : ℕ} → judge_slope v s ≡ fails refusal place → slope bytes v area ≡ outcome (refused refusal place) area
      refused-so e = after-sum ∙ judged-so v s area e

      all-passed : v < variables → weight (algebra.slope v s) ≤ largest_weight → slope bytes v area ≡ packed_into (good (algebra.slope v s)) area
      all-passed known light = after-sum ∙ judged-good v s area p.accepted known light

  pub refuses-slope : {refusal p : ℕ} {area' : List ℕ} → SlopeRefuses bytes v area refusal p area' → slope bytes v area ≡ outcome (refused refusal p) area'
  refuses-slope (no_room short) = without-room short
  refuses-slope (at_sum room a) = at-fault room a
  refuses-slope (no_variable {s} room p unknown) = refused-so room p (judge-variable v s unknown)
  refuses-slope (heavy {s} room p known above) = refused-so room p (judge-weight v s known above)
  refuses-slope (wide {s} room p known light above) = refused-so room p (judge-spread v s known light above)

  pub never-wide : {p : ℕ} {area' : List ℕ} → SlopeRefuses bytes v area SPREAD p area' → ⊥
  never-wide (wide {s} room p known light above) = omega (arith, (slope-accepted v s p.accepted light).few)

-- the packed bytes of an accepted sum are accepted, if the slope is light
pub slope-accepts : (s : Sum) (v : ℕ) (area : List ℕ) → most_bytes variables ≤ length area → Accepted variables s → v < variables → weight (algebra.slope v s) ≤ largest_weight
    → let bytes = packed (algebra.slope v s) in slope (packed s) v area ≡ outcome (done (length bytes)) (written bytes area)
unfolding packed_into
slope-accepts s v area room accepted known light = all-passed (packed s) v area room (record { accepted = accepted; bytes_are = refl }) known light

-- ---- There are no other outcomes.

module _ (bytes : List ℕ) (byte : (i : ℕ) → get_or bytes i 0 < 256) (v : ℕ) (area : List ℕ) where
  -- what stands behind an answer, and behind an outcome
  abbrev Behind : Told → List ℕ → Type 0
  Behind (done n) area' = Sloped bytes v area n area'
  Behind (refused refusal p) area' = SlopeRefuses bytes v area refusal p area'

  abbrev Explains : Outcome (List ℕ) → Type 0
  Explains o = Behind o.answer o.areas

  refused-by : {refusal p : ℕ} {area' : List ℕ} → SlopeRefuses bytes v area refusal p area' → Explains (slope bytes v area)
  refused-by d = subst Explains (sym (refuses-slope bytes v area d)) d

  done-by : {s : Sum} → most_bytes variables ≤ length area → PackedSum bytes s → v < variables → weight (algebra.slope v s) ≤ largest_weight → Explains (slope bytes v area)
  unfolding packed_into
  done-by {s} room p known light = subst Explains (sym (all-passed bytes v area room p known light)) (record {
    sum = s;
    result = algebra.slope v s;
    room = room;
    accepted = p.accepted;
    bytes_are = p.bytes_are;
    known = known;
    result_is = refl;
    result_accepted = slope-accepted v s p.accepted light;
    coefficients_are = λ r long. slope-coefficient v s r (omega (arith, long));
    many = refl;
    area_is = refl;
  })

  explained : Explains (slope bytes v area)
  explained = go (dec_lt (length area) (most_bytes variables)) (reading bytes byte)
    where
      by-weight : {s : Sum} → most_bytes variables ≤ length area → PackedSum bytes s → v < variables
          → Dec (largest_weight < weight (algebra.slope v s)) → Explains (slope bytes v area)
      by-weight room p known (yes above) = refused-by (heavy room p known above)
      by-weight room p known (no light) = done-by room p known (omega (arith, light))

      by-variable : {s : Sum} → most_bytes variables ≤ length area → PackedSum bytes s → Dec (v < variables) → Explains (slope bytes v area)
      by-variable {s} room p (yes known) = by-weight room p known (dec_lt largest_weight (weight (algebra.slope v s)))
      by-variable room p (no unknown) = refused-by (no_variable room p (omega (arith, unknown)))

      go : Dec (length area < most_bytes variables) → Reading bytes → Explains (slope bytes v area)
      go (yes short) r = refused-by (no_room short)
      go (no long) (a_fault place a) = refused-by (at_sum (omega (arith, long)) a)
      go (no long) (a_sum s p) = by-variable (omega (arith, long)) p (dec_lt v variables)

  pub slope-means : {n : ℕ} {area' : List ℕ} → slope bytes v area ≡ outcome (done n) area' → Sloped bytes v area n area'
  slope-means e = subst Explains e explained

  pub slope-refuses : {refusal p : ℕ} {area' : List ℕ} → slope bytes v area ≡ outcome (refused refusal p) area' → SlopeRefuses bytes v area refusal p area'
  slope-refuses e = subst Explains e explained
