-- What the loop of `put` keeps: the power k of the sum that is put stands in two arrays, and the rows of the powers up to k, gathered, in two others; no spread
-- on the way was above 128.
use mathlib.Core.Path.{◌≡◌, refl, sym, ◌∙◌, ap, ap₂}
use mathlib.Core.List.{List, ◌++◌}
use Prim.Native.Nat.{ℕ, ◌+◌, ◌*◌, max, ◌≤◌, ◌<◌}
use native.Mathlib.Omega.{arith}
use native.Mathlib.Nat.{le_trans, le-max_left, le-max_right, max-le, mul-le-mul_right}
use native.Mathlib.Numerals.{add-one}
use lib.IntN.{ℤ, pos}
use lib.ListN.{length, take}
use Rattle.algebra.specs.Limits.{variables, largest_degree, most_terms, largest_weight}
use Rattle.algebra.specs.Sum.{Term, Sum, degree_of, weight}
use Rattle.algebra.specs.Collect.{gather, drop_zeros, collect, spread}
use Rattle.algebra.specs.Arithmetic.{integer, one_sum, pairs, ◌⊗◌, product_spread, power, power_spread}
use Rattle.algebra.specs.Substitute.{pair_rows, substitute, largest_power, pair_spread}
use Rattle.algebra.specs.Word.{terms}
use Rattle.algebra.specs.Held.{words_of, coefficients_of, first_terms}
use Rattle.algebra.proofs.Sums.Every.{Every, Long, UpTo, every-degree}
use Rattle.algebra.proofs.Sums.Ordered.{parts, gather-fixed}
use Rattle.algebra.proofs.Sums.Occurs.{spread-gather}
use Rattle.algebra.proofs.Sums.Ring.{power-suc}
use Rattle.algebra.proofs.Sums.Results.{unit-integer, power-degree, power-weight, power-ordered, gather-weight, append-weight}
use Rattle.algebra.proofs.Sums.Substitutes.{pair-weights}
use Rattle.answers.specs.Areas.{written}
use Rattle.sums.specs.Asked as Asked
use Rattle.sums.specs.Formed.{formed_of, Formed.formed, Formed.over, within, with_row, product_of, formed_into}
use Rattle.sums.specs.Rows.{Stands, Added}
use Rattle.std.specs.Prelude.{Option, Some, None}
use Rattle.sums.proofs.Holding.{Holdable, holdable}
use Rattle.sums.proofs.Forming.{within-yes}
use Rattle.sums.proofs.Answering.{number-refused, added-given, given, refused, over-into}
use Rattle.sums.proofs.Fronts.{Placed, placed-few, placed-is, placed-held, Front, front-written, front-is, front-held}
use Rattle.sums.proofs.Gathering.{gathered, placed-finished}
use Rattle.sums.proofs.Multiplying.{Factors, product-holdable, gather-rest, spread-rest}
use Rattle.sums.proofs.Raising.{heavier, spread-rises}
use Rattle.sums.proofs.One.{unit-holdable, pairs-unit}
use Rattle.pair.specs.Asked.{CanPut, Allowed}
use Rattle.pair.specs.Formed.{pair_of}
use Rattle.pair.specs.Rows.{part_at, rows_at, CanAddRows}
use Rattle.pair.proofs.Bounds.{power-low, power-light, rows-within, step-judged, step-narrow}
use Rattle.pair.proofs.TakingPart.{part-holdable}
use Rattle.pair.proofs.ByPower.{rows_long, rows_to, all-collected, all-spread, to-spread, to-weight, to-every}

-- ---- A pair that is given, and allowed.

-- the pair is refused: the answer is none, and the two areas that are lent stay
abbrev Refuses : ℕ → Sum → Sum → Type 0
Refuses v S s = (ps : List ℕ) (ds : List ℤ) → (over, ps, ds) ≡ formed_into (pair_of v S s) ps ds

module _ {v : ℕ} {sp : List ℕ} {sc : List ℤ} {fp : List ℕ} {fc : List ℤ} (g : CanPut v sp sc fp fc) (a : Allowed v sp sc fp fc) where
  abbrev S : Sum
  S = terms sp sc

  abbrev s : Sum
  s = terms fp fc

  abbrev at : ℕ → List Term
  at k = rows_at v k (power variables S k) s

  abbrev to : ℕ → List Term
  to k = rows_to variables v S s k

  power-long : (k : ℕ) → Every (Long variables) (power variables S k)
  power-long k = (parts variables (power variables S k) (power-ordered variables S k g.put.accepted.is_ordered)).long

  at_long : (k : ℕ) → Every (Long variables) (at k)
  at_long k = rows_long variables v k (power variables S k) s (power-long k) (holdable g.into.held).long

  at_low : (k : ℕ) → Every (UpTo largest_degree) (at k)
  at_low k = rows-within v S variables largest_degree k s a.low

  to-light : (k : ℕ) → k ≤ largest_power v s → weight (to k) ≤ largest_weight
  to-light k inside = omega (arith, to-weight variables v S s k inside, pair-weights variables v S s, a.light)

  to-holdable : (k : ℕ) → spread (to k) ≤ most_terms → Holdable (gather (to k))
  to-holdable k few = gathered (to k) (to-every variables v S (Long variables) s at_long k) (to-every variables v S (UpTo largest_degree) s at_low k) few

  -- the power k can be multiplied by the sum, if it is not the last
  factors : (k : ℕ) → k < largest_power v s → Holdable (power variables S k) → Factors (power variables S k) S
  factors k more first =
      let up : (k + 1) * degree_of S ≤ largest_power v s * degree_of S = mul-le-mul_right (degree_of S) (omega arith) in
      let light = le_trans (power-light v S s (parts variables s g.into.accepted.is_ordered).full (omega arith)) a.light in
      record {
        first = first;
        second = holdable g.put.held;
        low = omega (arith, power-degree variables S k, power-low v S s, a.low);
        light = heavier (weight S) (weight (power variables S k)) k (largest_power v s) (power-weight variables S k) more light;
      }

  -- what is refused on the way
  wide : most_terms < pair_spread variables v S s → Refuses v S s
  unfolding pair_of
  wide many ps ds = over-into (pair_spread variables v S s) (substitute variables v S s) ps ds many

  wide_rows : (k : ℕ) → k ≤ largest_power v s → most_terms < spread (to k) → Refuses v S s
  wide_rows k inside many =
      let most = le-max_right (power_spread variables S (largest_power v s)) (spread (pair_rows variables v S s)) in
      wide (unfold pair_spread in omega (arith, to-spread variables v S s k inside))

  wide-power : (k : ℕ) → k < largest_power v s → most_terms < product_spread (power variables S k) S → Refuses v S s
  wide-power k inside many =
      let most = le-max_left (power_spread variables S (largest_power v s)) (spread (pair_rows variables v S s)) in
      let rises = spread-rises variables S (k + 1) (largest_power v s) (omega arith) (omega arith) in
      wide (unfold pair_spread in omega (arith, step-judged variables S k, (holdable g.put.held).few))

-- ---- The loop, where it begins: the power k and its rows stand.

pub record Putting (v largest : ℕ) (sp : List ℕ) (sc : List ℤ) (fp : List ℕ) (fc : List ℤ) (gp : List ℕ) (gc : List ℤ) (wp : List ℕ) (wc : List ℤ)
    (n all k : ℕ) : Type 0 where
  pub given_pair : CanPut v sp sc fp fc
  pub allowed : Allowed v sp sc fp fc
  pub largest_is : largest ≡ largest_power v (terms fp fc)
  pub inside : k ≤ largest
  pub raised : Front (power variables (terms sp sc) k) wp wc n
  pub narrow : power_spread variables (terms sp sc) k ≤ most_terms
  pub so_far : Placed (gather (rows_to variables v (terms sp sc) (terms fp fc) k)) all gp gc
  pub words_room : most_terms + most_terms ≡ length gp
  pub coefficients_room : most_terms + most_terms ≡ length gc

-- the arrays that are lent to work in, and the first of the running sum's, keep their lengths
pub record Lent (gr pp : List ℕ) (pc : List ℤ) : Type 0 where
  pub running : most_terms + most_terms ≡ length gr
  pub part_words : most_terms ≡ length pp
  pub part_coefficients : most_terms ≡ length pc

-- And where the power k stands, and its rows are to be added to those before.
pub record Joining (v largest : ℕ) (sp : List ℕ) (sc : List ℤ) (fp : List ℕ) (fc : List ℤ) (gp : List ℕ) (gc : List ℤ) (wp : List ℕ) (wc : List ℤ)
    (n all k : ℕ) : Type 0 where
  pub given_pair : CanPut v sp sc fp fc
  pub allowed : Allowed v sp sc fp fc
  pub largest_is : largest ≡ largest_power v (terms fp fc)
  pub inside : k ≤ largest
  pub raised : Front (power variables (terms sp sc) k) wp wc n
  pub narrow : power_spread variables (terms sp sc) k ≤ most_terms
  pub before : List Term
  pub rows_are : rows_to variables v (terms sp sc) (terms fp fc) k ≡ rows_at v k (power variables (terms sp sc) k) (terms fp fc) ++ before
  pub so_far : Placed (gather before) all gp gc
  pub words_room : most_terms + most_terms ≡ length gp
  pub coefficients_room : most_terms + most_terms ≡ length gc

-- the power 0 is 1
first-power : (S : Sum) {ws : List ℕ} {cs : List ℤ} (ws₀ : List ℕ) (cs₀ : List ℤ) {n : ℕ}
    → (formed n, ws, cs) ≡ formed_into (formed (integer variables (pos 1))) ws₀ cs₀ → most_terms ≡ length ws → most_terms ≡ length cs
    → Front (power variables S 0) ws cs n
unfolding formed_into power
first-power S ws₀ cs₀ {n} told words_room coefficients_room =
    let is = unit-integer variables in
    let number : formed n ≡ formed (length (integer variables (pos 1))) = ap (λ x. x.0) told in
    let many : length (integer variables (pos 1)) ≡ n = cc in
    front-written ws₀ cs₀ (ap (λ x. x.1) told ∙ ap (λ s. written (words_of s) ws₀) is) (ap (λ x. x.2) told ∙ ap (λ s. written (coefficients_of s) cs₀) is)
    (ap length (sym is) ∙ many) unit-holdable words_room coefficients_room

pub start : {v largest : ℕ} {sp : List ℕ} {sc : List ℤ} {fp : List ℕ} {fc : List ℤ} {gp : List ℕ} {gc : List ℤ} {all : ℕ} (wp₀ : List ℕ) (wc₀ : List ℤ) {wp : List ℕ} {wc : List ℤ}
    → CanPut v sp sc fp fc → Allowed v sp sc fp fc → largest ≡ largest_power v (terms fp fc) → Stands (part_at v 0 (terms fp fc)) all gp gc → most_terms + most_terms ≡ length gp → most_terms + most_terms ≡ length gc
    → {n : ℕ} → (formed n, wp, wc) ≡ formed_into (formed (integer variables (pos 1))) wp₀ wc₀ → most_terms ≡ length wp → most_terms ≡ length wc
    → Putting v largest sp sc fp fc gp gc wp wc n all 0
unfolding power_spread rows_to power
start {v} {sp = sp} {sc} {fp} {fc} wp₀ wc₀ g a largest_is stands words_room coefficients_room told power-words-room power-coefficients-room =
    let held = part-holdable v 0 g.known (holdable g.into.held) in
    let part = part_at v 0 (terms fp fc) in
    let same : gather (pairs part (one_sum variables)) ≡ part = ap gather (pairs-unit variables part held.long) ∙ gather-fixed part held.strict in
    record {
      given_pair = g;
      allowed = a;
      largest_is = largest_is;
      inside = omega arith;
      raised = first-power (terms sp sc) wp₀ wc₀ told power-words-room power-coefficients-room;
      narrow = omega arith;
      so_far = rw same (record { stands = stands; holdable = held });
      words_room = words_room;
      coefficients_room = coefficients_room;
    }

-- ---- The rows of the power k are added.

module _ {v largest : ℕ} {sp : List ℕ} {sc : List ℤ} {fp : List ℕ} {fc : List ℤ} {gp : List ℕ} {gc : List ℤ} {wp : List ℕ} {wc : List ℤ} {n all k : ℕ}
    (j : Joining v largest sp sc fp fc gp gc wp wc n all k) where
  abbrev own : List Term
  own = rows_at v k (power variables (terms sp sc) k) (terms fp fc)

  abbrev whole : List Term
  whole = rows_to variables v (terms sp sc) (terms fp fc) k

  within-largest : k ≤ largest_power v (terms fp fc)
  within-largest = omega (arith, j.inside, j.largest_is)

  pub can-add : CanAddRows v k fp fc (take n wp) (take n wc) gp gc all
  can-add = record {
    known = j.given_pair.known;
    into = j.given_pair.into.held;
    factor = front-held j.raised;
    running = placed-held j.so_far;
    few = placed-few j.so_far;
    low = rw (front-is j.raised) (every-degree largest_degree own (at_low j.given_pair j.allowed k));
    light = rw (front-is j.raised, placed-is j.so_far)
        (omega (arith, gather-weight j.before, append-weight own j.before, ap weight j.rows_are, to-light j.given_pair j.allowed k within-largest));
    words_room = omega (arith, j.words_room);
    coefficients_room = omega (arith, j.coefficients_room);
  }

  joined : with_row (rows_at v k (first_terms n wp wc) (terms fp fc)) (first_terms all gp gc) ≡ within (spread whole) (gather whole)
  unfolding with_row
  joined =
      ap₂ (λ F l. with_row (rows_at v k F (terms fp fc)) l) (front-is j.raised) (placed-is j.so_far)
      ∙ ap₂ within (spread-rest own j.before ∙ ap spread (sym j.rows_are)) (gather-rest own j.before ∙ ap gather (sym j.rows_are))

  -- what `add_rows` answers
  module _ {gp' : List ℕ} {gc' : List ℤ} (r : Option ℕ)
      (told : Added (with_row (rows_at v k (first_terms n wp wc) (terms fp fc)) (first_terms all gp gc)) (formed_of r) gp' gc') where
    rows_told : Added (within (spread whole) (gather whole)) (formed_of r) gp' gc'
    rows_told = rw joined at told

    pub rows-stop : r ≡ None → Refuses v (terms sp sc) (terms fp fc)
    rows-stop none = wide_rows j.given_pair j.allowed k within-largest (number-refused (spread whole) (gather whole) r none rows_told.number_is)

    pub joins : {together : ℕ} → r ≡ Some together → length gp' ≡ length gp → length gc' ≡ length gc → Putting v largest sp sc fp fc gp' gc' wp wc n together k
    joins is same_words same_coefficients =
        let yes = added-given (spread whole) (gather whole) gp' gc' r is rows_told in
        record {
          given_pair = j.given_pair;
          allowed = j.allowed;
          largest_is = j.largest_is;
          inside = j.inside;
          raised = j.raised;
          narrow = j.narrow;
          so_far = record { stands = yes.1; holdable = to-holdable j.given_pair j.allowed k yes.0 };
          words_room = j.words_room ∙ sym same_words;
          coefficients_room = j.coefficients_room ∙ sym same_coefficients;
        }

-- ---- The next power, or the end.

module _ {v largest : ℕ} {sp : List ℕ} {sc : List ℤ} {fp : List ℕ} {fc : List ℤ} {gp : List ℕ} {gc : List ℤ} {wp : List ℕ} {wc : List ℤ} {n all k : ℕ}
    (p : Putting v largest sp sc fp fc gp gc wp wc n all k) where
  module _ (h : k < largest) where
    abbrev base : Sum
    base = terms sp sc

    abbrev raised-so-far : Sum
    raised-so-far = power variables base k

    more : k < largest_power v (terms fp fc)
    more = omega (arith, p.largest_is)

    both : Factors raised-so-far base
    both = factors p.given_pair p.allowed k more p.raised.holdable

    pub can-raise : Asked.Factors (take n wp) (take n wc) sp sc
    can-raise = record {
      first = front-held p.raised;
      second = p.given_pair.put.held;
      low = rw (front-is p.raised) both.low;
      light = rw (front-is p.raised) both.light;
    }

    -- what `raise` answers
    module _ {wp' : List ℕ} {wc' : List ℤ} (r : Option ℕ) (told : (formed_of r, wp', wc') ≡ formed_into (product_of (first_terms n wp wc) (terms sp sc)) wp wc) where
      power-told : (formed_of r, wp', wc') ≡ formed_into (within (product_spread raised-so-far base) (raised-so-far ⊗ base)) wp wc
      unfolding product_of
      power-told = told ∙ ap (λ l. formed_into (product_of l base) wp wc) (front-is p.raised)

      pub power-stop : r ≡ None → Refuses v (terms sp sc) (terms fp fc)
      power-stop none =
          wide-power p.given_pair p.allowed k more (refused (product_spread raised-so-far base) (raised-so-far ⊗ base) wp wc wp' wc' r none power-told)

      pub raises : {count : ℕ} → r ≡ Some count → length wp' ≡ length wp → length wc' ≡ length wc → Joining v largest sp sc fp fc gp gc wp' wc' count all (k + 1)
      raises is same_words same_coefficients =
          let g = given (product_spread raised-so-far base) (raised-so-far ⊗ base) wp wc wp' wc' r is power-told in
          let next : power variables base (k + 1) ≡ raised-so-far ⊗ base = ap (power variables base) (add-one k) ∙ power-suc variables base k p.given_pair.put.accepted.is_ordered in
          record {
            given_pair = p.given_pair;
            allowed = p.allowed;
            largest_is = p.largest_is;
            inside = omega arith;
            raised = rw next
                (front-written wp wc g.words_are g.coefficients_are g.many (product-holdable both g.few)
                (p.raised.words_room ∙ sym same_words) (p.raised.coefficients_room ∙ sym same_coefficients));
            narrow = omega (arith, step-narrow variables base k, p.narrow, g.few);
            before = rows_to variables v base (terms fp fc) k;
            rows_are = rw (add-one k) (unfold rows_to in refl);
            so_far = p.so_far;
            words_room = p.words_room;
            coefficients_room = p.coefficients_room;
          }

  -- at the largest power the rows of all terms are added
  pub ended : largest ≤ k → formed (drop_zeros (first_terms all gp gc)) ≡ pair_of v (terms sp sc) (terms fp fc)
  unfolding pair_of pair_spread
  ended h =
      let S = terms sp sc in
      let s = terms fp fc in
      let rows = rows_to variables v S s k in
      let at-end : k ≡ largest_power v s = omega (arith, p.inside, p.largest_is) in
      let reached : largest_power v s ≤ k = omega arith in
      let few : spread rows ≤ most_terms = omega (arith, spread-gather rows, p.so_far.holdable.few) in
      let steps : power_spread variables S (largest_power v s) ≤ most_terms = rw at-end at p.narrow in
      let together : spread (pair_rows variables v S s) ≤ most_terms = omega (arith, all-spread variables v S s k reached) in
      placed-finished rows p.so_far ∙ within-yes (spread rows) (collect rows) few ∙ ap formed (all-collected variables v S s k reached)
      ∙ sym
      (within-yes (max (power_spread variables S (largest_power v s)) (spread (pair_rows variables v S s))) (substitute variables v S s)
      (max-le steps together))
