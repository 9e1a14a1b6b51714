-- `judge_readings`, `judge_range` and `judge_terms`, check by check.
use mathlib.Core.Path.{◌≡◌, refl, sym, ◌∙◌, ap, ap₂}
use mathlib.Core.List.{List, [], ◌∷◌, map}
use Prim.Native.Nat.{ℕ, zero, suc, ◌≤◌, ◌<◌}
use native.Mathlib.Omega.{arith}
use native.Mathlib.Decide.{dec_lt, ℕ_discrete}
use borrow.Author.Tests.{le-leb, lt-leb, eq-eqb, ne_eqb}
use lib.IntN.{ℤ, pos}
use lib.ListN.{length, get_or, length-map}
use Rattle.algebra.specs.Limits.{variables, largest_weight}
use Rattle.algebra.specs.Sum.{Sum}
use Rattle.algebra.specs.Value.{value}
use Rattle.algebra.specs.Margin.{size, unsigned, raised_by, margin}
use Rattle.answers.specs.Refusals.{READING, RANGE}
use Rattle.answers.specs.Judge.{Judged.good, Judged.fails, holding}
use Rattle.answers.proofs.Judging.{then-good, then-fails, good-fails}
use Rattle.numbers.proofs.Complement.{AtHome}
use Rattle.estimates.specs.Readings.{reading_bytes, two_byte_numbers, spelled, before_negative, Readings, judge_readings}
use Rattle.estimates.specs.Range.{Estimate, judge_range, judge_terms}
use Rattle.estimates.specs.Promised.{RightLength, Given, FirstNegative}
use Rattle.estimates.proofs.Numbering.{spelled-length, numbers-length, numbers-back}
use Rattle.estimates.proofs.Tolerances.{at_most, first-negative, at_first, negative-inside, allowed-are, are-allowed}

-- ---- Readings and tolerances.

-- any readings of 16 bits, and any tolerances below 2^15, can be given, one for each variable
pub given-spelled : (rs : List ℤ) (ts : List ℕ) → length rs ≡ variables → length ts ≡ variables → ((i : ℕ) → AtHome 2 (get_or rs i (pos 0))) → ((i : ℕ) → get_or ts i 0 < 32768)
    → Given (spelled rs) (spelled (map pos ts)) rs ts
given-spelled rs ts many as_many home small = record {
  long = record {
    readings_long = spelled-length rs ∙ ap reading_bytes many;
    tolerances_long = spelled-length (map pos ts) ∙ ap reading_bytes (length-map ts _ ∙ as_many);
  };
  readings_are = numbers-back rs home;
  tolerances_are = numbers-back (map pos ts) (positive ts small);
}
  where
    positive : (ts : List ℕ) → ((i : ℕ) → get_or ts i 0 < 32768) → (i : ℕ) → AtHome 2 (get_or (map pos ts) i (pos 0))
    positive [] small i = omega arith
    positive (t ∷ ts) small zero = omega (arith, small 0)
    positive (t ∷ ts) small (suc i) = positive ts (λ k. small (suc k)) i

module _ (readings tolerances : List ℕ) where
  pub data Verdict : Type 0 where
    not_long : (RightLength readings tolerances → ⊥) → Verdict
    negative : RightLength readings tolerances → (v : ℕ) → FirstNegative (two_byte_numbers tolerances) v → Verdict
    all_given : (rs : List ℤ) (ts : List ℕ) → Given readings tolerances rs ts → Verdict

  abbrev HasLength : List ℕ → Type 0
  HasLength bytes = length bytes ≡ reading_bytes variables

  pub verdict : Verdict
  verdict = go (ℕ_discrete (length readings) (reading_bytes variables)) (ℕ_discrete (length tolerances) (reading_bytes variables))
    where
      signs : RightLength readings tolerances → Dec (before_negative (two_byte_numbers tolerances) ≡ length (two_byte_numbers tolerances)) → Verdict
      signs l (yes all) = all_given (two_byte_numbers readings) (unsigned (two_byte_numbers tolerances)) (record { long = l; readings_are = refl; tolerances_are = allowed-are (two_byte_numbers tolerances) all })
      signs l (no some) = negative l (before_negative (two_byte_numbers tolerances)) (first-negative (two_byte_numbers tolerances) (omega (arith, at_most (two_byte_numbers tolerances), some)))

      go : Dec (HasLength readings) → Dec (HasLength tolerances) → Verdict
      go (no r) t = not_long (λ l. r l.readings_long)
      go (yes r) (no t) = not_long (λ l. t l.tolerances_long)
      go (yes r) (yes t) = let l : RightLength readings tolerances = record { readings_long = r; tolerances_long = t } in signs l (ℕ_discrete (before_negative (two_byte_numbers tolerances)) (length (two_byte_numbers tolerances)))

  -- what judging says of each
  not-long-judge : (RightLength readings tolerances → ⊥) → judge_readings readings tolerances ≡ fails READING 0
  unfolding judge_readings holding
  not-long-judge short = go (ℕ_discrete (length readings) (reading_bytes variables)) (ℕ_discrete (length tolerances) (reading_bytes variables))
    where
      go : Dec (HasLength readings) → Dec (HasLength tolerances) → judge_readings readings tolerances ≡ fails READING 0
      go (no r) t = rw (ne_eqb (length readings) (reading_bytes variables) r)
      go (yes r) (no t) = rw (eq-eqb (length readings) (reading_bytes variables) r, ne_eqb (length tolerances) (reading_bytes variables) t)
      go (yes r) (yes t) = absurd (short (record { readings_long = r; tolerances_long = t }))

  module _ (l : RightLength readings tolerances) where
    negative-judge : {v : ℕ} → FirstNegative (two_byte_numbers tolerances) v → judge_readings readings tolerances ≡ fails READING v
    unfolding judge_readings holding
    negative-judge {v} first =
        let is = at_first (two_byte_numbers tolerances) v first in
        rw (
          eq-eqb (length readings) (reading_bytes variables) l.readings_long,
          eq-eqb (length tolerances) (reading_bytes variables) l.tolerances_long,
          ne_eqb (before_negative (two_byte_numbers tolerances)) (length (two_byte_numbers tolerances)) (λ e. omega (arith, e, is, negative-inside (two_byte_numbers tolerances) first)),
        )
        (ap (fails READING) is)

  given-judge : {rs : List ℤ} {ts : List ℕ} → Given readings tolerances rs ts → judge_readings readings tolerances ≡ good (record { readings = rs; tolerances = ts })
  unfolding judge_readings holding
  given-judge {rs} {ts} g =
      let all = are-allowed (two_byte_numbers tolerances) ts g.tolerances_are in
      rw (
        eq-eqb (length readings) (reading_bytes variables) g.long.readings_long,
        eq-eqb (length tolerances) (reading_bytes variables) g.long.tolerances_long,
        eq-eqb (before_negative (two_byte_numbers tolerances)) (length (two_byte_numbers tolerances)) all.0,
      )
      (ap₂ (λ (r : List ℤ) (t : List ℕ). good (record { readings = r; tolerances = t })) g.readings_are all.1)

-- ---- Check by check, of the sum that is given.

good-one : {A : Type 0} {x y : A} → good x ≡ good y → x ≡ y
good-one e = cc

-- at readings rs, within ts
module _ (s : Sum) (rs : List ℤ) (ts : List ℕ) where
  abbrev at : Readings
  at = record { readings = rs; tolerances = ts }

  pub range-beyond : largest_weight < size s (raised_by rs ts) → judge_range s at ≡ fails RANGE 0
  unfolding judge_range holding
  range-beyond far = rw (lt-leb (size s (raised_by rs ts)) largest_weight far)

  pub range-within : size s (raised_by rs ts) ≤ largest_weight → judge_range s at ≡ good (record { estimate = value s rs; margin = margin s rs ts })
  unfolding judge_range holding
  range-within near = rw (le-leb (size s (raised_by rs ts)) largest_weight near)

  -- no margin is larger than the raised value
  pub range-margin : {e : Estimate} → judge_range s at ≡ good e → e.margin ≤ largest_weight
  range-margin {e} good-is = go (dec_lt largest_weight (size s (raised_by rs ts)))
    where
      go : Dec (largest_weight < size s (raised_by rs ts)) → e.margin ≤ largest_weight
      go (yes far) = absurd (good-fails (sym good-is ∙ range-beyond far))
      go (no near) =
          let is = sym good-is ∙ range-within (omega (arith, near)) in
          let less : margin s rs ts ≤ size s (raised_by rs ts) = unfold margin in omega arith in
          omega (arith, near, less, ap (λ (x : Estimate). x.margin) (good-one is))

module _ (s : Sum) (readings tolerances : List ℕ) where
  pub terms-not-long : (RightLength readings tolerances → ⊥) → judge_terms s readings tolerances ≡ fails READING 0
  unfolding judge_terms
  terms-not-long short = then-fails (judge_range s) (not-long-judge readings tolerances short)

  pub terms-negative : {v : ℕ} → RightLength readings tolerances → FirstNegative (two_byte_numbers tolerances) v → judge_terms s readings tolerances ≡ fails READING v
  unfolding judge_terms
  terms-negative l first = then-fails (judge_range s) (negative-judge readings tolerances l first)

  -- the checks go on with the readings
  pub terms-given : {rs : List ℤ} {ts : List ℕ} → Given readings tolerances rs ts → judge_terms s readings tolerances ≡ judge_range s (record { readings = rs; tolerances = ts })
  unfolding judge_terms
  terms-given g = then-good (judge_range s) (given-judge readings tolerances g)

-- ---- Readings and tolerances, read into arrays.

module _ {readings tolerances : List ℕ} {rs ts : List ℤ} {good : ℕ} (l : RightLength readings tolerances) (rs-are : rs ≡ two_byte_numbers readings) (ts-are : ts ≡ two_byte_numbers tolerances) (good-is : good ≡ before_negative ts) where
  many : length ts ≡ variables
  many = ap length ts-are ∙ numbers-length variables tolerances l.tolerances_long

  pub stops : good < variables → FirstNegative (two_byte_numbers tolerances) good
  stops h = rw (good-is, ts-are) (first-negative (two_byte_numbers tolerances) (omega (arith, many, good-is, ap length ts-are, ap before_negative ts-are)))

  pub passes : variables ≤ good → before_negative ts ≡ length ts
  passes h = omega (arith, at_most ts, good-is, many)

  pub are-given : variables ≤ good → Given readings tolerances rs (unsigned ts)
  are-given h = record { long = l; readings_are = sym rs-are; tolerances_are = sym ts-are ∙ allowed-are ts (passes h) }
