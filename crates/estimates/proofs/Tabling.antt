-- What the loop keeps that fills a row of powers.
use mathlib.Core.Path.{◌≡◌, sym, ◌∙◌, subst}
use mathlib.Core.List.{List}
use Prim.Native.Nat.{ℕ, ◌+◌, ◌^◌, ◌≤◌, ◌<◌}
use native.Mathlib.Omega.{arith}
use native.Mathlib.Decide.{ℕ_discrete}
use native.Mathlib.Nat.{pow-zero}
use lib.IntN.{ℤ, pos, pow}
use lib.ListN.{length, set, length-set}
use lib.Seq.{get_or-set_same, get_or-set_other}
use Rattle.estimates.specs.declared.factors.Both.{Both}
use Rattle.estimates.specs.Inside.Held.{Holds}
use Rattle.estimates.specs.Inside.Parts.{Times}
use Rattle.estimates.specs.Inside.Powers.{PowerAt, Row}
use Rattle.estimates.proofs.Multiplying.{themselves, next-raised, next_power, no_power}

pub record Filling (b : ℕ) (a : ℤ) (size : ℕ) (row : List Both) (power : Both) (e : ℕ) : Type 0 where
  pub written : Row b a e row
  pub now_is : Holds power.most power.value (b ^ e) (pow a e)
  pub long : length row ≡ size

pub none_written : (b : ℕ) (a : ℤ) (row : List Both) (one : Both) {size : ℕ} → length row ≡ size → one.most ≡ 1 → one.value ≡ pos 1 → Filling b a size row one 0
none_written b a row one long most value = record {
  written = λ e some k. absurd (omega arith);
  now_is = rw (most, value, pow-zero b, no_power a) (themselves (omega arith));
  long = long;
}

module _ {b : ℕ} {a : ℤ} {size : ℕ} {row : List Both} {power : Both} {e : ℕ} (f : Filling b a size row power e) where
  -- the next power is formed, and written
  pub further : (factor : Both) {next : Both} → Holds factor.most factor.value b a → Times power factor next → e + 1 < size → Filling b a size (set row (e + 1) next) next (e + 1)
  further factor {next} itself times inside = record {
    written = λ k some h. powers-at k some h (ℕ_discrete k (e + 1));
    now_is = holds;
    long = length-set row (e + 1) next ∙ f.long;
  }
    where
      holds : Holds next.most next.value (b ^ (e + 1)) (pow a (e + 1))
      holds = rw (next-raised b e, next_power a e) at (times (b ^ e) b (pow a e) a f.now_is itself)

      powers-at : (k : ℕ) → 0 < k → k ≤ e + 1 → Dec (k ≡ e + 1) → PowerAt b a k (set row (e + 1) next)
      powers-at k some h (yes eq) =
          subst (λ (j : ℕ). PowerAt b a j (set row (e + 1) next)) (sym eq)
          (record {
            in_row = omega (arith, length-set row (e + 1) next, f.long);
            power = λ d. rw (get_or-set_same row (e + 1) next d (omega (arith, f.long))) holds;
          })
      powers-at k some h (no ne) =
          let old = f.written k some (omega (arith, ne)) in
          record {
            in_row = omega (arith, length-set row (e + 1) next, old.in_row);
            power = λ d. rw (get_or-set_other row (e + 1) k next d (λ eq. ne eq)) (old.power d);
          }
