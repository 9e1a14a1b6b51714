-- What an answer says when its bytes are read: the sum's value at the readings, and the margin.
use mathlib.Core.Path.{◌≡◌, sym, ◌∙◌, ap}
use mathlib.Core.List.{List, ◌++◌, append_assoc}
use Prim.Native.Nat.{ℕ, ◌+◌, ◌≤◌}
use native.Mathlib.Omega.{arith}
use native.Mathlib.Nat.{le_trans}
use lib.IntN.{ℤ, pos, nat_abs}
use lib.ListN.{length, take, drop, length-map}
use lib.Seq.{take_at, drop_at}
use Rattle.algebra.specs.Limits.{variables, largest_weight}
use Rattle.algebra.specs.Value.{value}
use Rattle.algebra.specs.Margin.{margin}
use Rattle.algebra.proofs.Sums.Margins.{estimate-raised}
use Rattle.numbers.specs.Bytes.{whole_bytes, signed_number, signed_bytes}
use Rattle.router.specs.Estimate.{estimate_in, margin_in}
use Rattle.numbers.proofs.Complement.{bytes-length, small-home, signed_back}
use Rattle.estimates.proofs.Numbering.{numbers-length}
use Rattle.estimates.specs.Promised.{Given}
use Rattle.router.specs.Promised.{Estimated}

-- two numbers of eight bytes, one after the other, and what follows them
module _ (y z : ℤ) (rest : List ℕ) where
  abbrev both : List ℕ
  both = (signed_bytes whole_bytes y ++ signed_bytes whole_bytes z) ++ rest

  apart : both ≡ signed_bytes whole_bytes y ++ (signed_bytes whole_bytes z ++ rest)
  apart = append_assoc (signed_bytes whole_bytes y) (signed_bytes whole_bytes z) rest

  back : (w : ℤ) → nat_abs w ≤ largest_weight → signed_number (signed_bytes whole_bytes w) ≡ w
  back w small = signed_back whole_bytes w (small-home whole_bytes w (omega arith))

  first_back : nat_abs y ≤ largest_weight → estimate_in both ≡ y
  first_back small =
      ap (λ l. signed_number (take whole_bytes l)) apart
      ∙ ap signed_number (take_at (signed_bytes whole_bytes y) (signed_bytes whole_bytes z ++ rest) whole_bytes (bytes-length whole_bytes y)) ∙ back y small

  second_back : nat_abs z ≤ largest_weight → margin_in both ≡ z
  second_back small =
      ap (λ l. signed_number (take whole_bytes (drop whole_bytes l))) apart
      ∙ ap (λ l. signed_number (take whole_bytes l)) (drop_at (signed_bytes whole_bytes y) (signed_bytes whole_bytes z ++ rest) whole_bytes (bytes-length whole_bytes y))
      ∙ ap signed_number (take_at (signed_bytes whole_bytes z) rest whole_bytes (bytes-length whole_bytes z)) ∙ back z small

-- as many tolerances as readings
pub given-long : {readings tolerances : List ℕ} {rs : List ℤ} {ts : List ℕ} → Given readings tolerances rs ts → length rs ≡ length ts
given-long {readings} {tolerances} {ts = ts} g =
    ap length (sym g.readings_are) ∙ numbers-length variables readings g.long.readings_long
    ∙ sym (sym (length-map ts _) ∙ ap length (sym g.tolerances_are) ∙ numbers-length variables tolerances g.long.tolerances_long)

module _ {bytes readings tolerances area : List ℕ} {n : ℕ} {area' : List ℕ} (d : Estimated bytes readings tolerances area n area') where
  small : nat_abs (value d.sum d.rs) + margin d.sum d.rs d.ts ≤ largest_weight
  small = le_trans (estimate-raised d.sum d.rs d.ts (given-long d.given)) d.within

  pub answer-estimate : estimate_in area' ≡ value d.sum d.rs
  answer-estimate = ap estimate_in d.area_is ∙ first_back (value d.sum d.rs) (pos (margin d.sum d.rs d.ts)) _ (omega (arith, small))

  pub answer-margin : margin_in area' ≡ pos (margin d.sum d.rs d.ts)
  answer-margin = ap margin_in d.area_is ∙ second_back (value d.sum d.rs) (pos (margin d.sum d.rs d.ts)) _ (omega (arith, small))
