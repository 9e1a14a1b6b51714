-- What `add_product_by` lends, and what it is told: the operands by ranks, and as many places of the running sum as it needs.
use mathlib.Core.Path.{◌≡◌, refl, ◌∙◌, ap}
use mathlib.Core.List.{List, ◌++◌}
use Prim.Native.Nat.{ℕ, ◌*◌, ◌≤◌}
use native.Mathlib.Omega.{arith}
use lib.IntN.{ℤ, pos}
use lib.ListN.{length, take, drop, length-take}
use lib.Seq.{take-take}
use Rattle.algebra.specs.Arithmetic.{pairs}
use Rattle.algebra.specs.Word.{terms}
use Rattle.algebra.specs.Inside.Rank.{word_at, words_at}
use Rattle.algebra.specs.Held.{first_terms}
use Rattle.answers.specs.Areas.{cleared}
use Rattle.sums.specs.Formed.{Formed, with_row}
use Rattle.sums.specs.Rows.{running_into, places_for, CanAddProduct}
use Rattle.sums.proofs.Holding.{map-take}
use Rattle.sums.proofs.Clearing.{lent-into}

-- the ranks of the operands are sr and tr; the code lends the places of the running sum from 0 to `end`
module _ {ks : List ℕ} {cs : List ℤ} {n : ℕ} {sp : List ℕ} {sc : List ℤ} {tp : List ℕ} {tc : List ℤ} (g : CanAddProduct ks cs n sp sc tp tc) (sr tr : List ℕ) (first : words_at sr ≡ sp) (second : words_at tr ≡ tp)
    {end : ℕ} (end_is : end ≡ places_for n (length sp * length tp)) where
  inside : (end ≤ length ks) × (end ≤ length cs)
  inside = (omega (arith, end_is, g.words_room), omega (arith, end_is, g.coefficients_room))

  enough : n ≤ end
  enough = omega (arith, end_is, g.few)

  running-lent : first_terms n (words_at (take end ks)) (take end cs) ≡ first_terms n (words_at ks) cs
  running-lent = rw (map-take word_at end ks, take-take n end (words_at ks) enough, take-take n end cs enough) refl

  -- what `add_cleared` requires
  pub can-lend : CanAddProduct (take end ks) (take end cs) n (words_at sr) sc (words_at tr) tc
  can-lend = rw (first, second) record {
    running = rw (map-take word_at end ks, take-take n end (words_at ks) enough, take-take n end cs enough) g.running;
    few = g.few;
    first = g.first;
    second = g.second;
    low = g.low;
    light = rw running-lent g.light;
    words_room = omega (arith, end_is, length-take end ks, inside.0);
    coefficients_room = omega (arith, end_is, length-take end cs, inside.1);
  }

  -- and what it answers
  pub lent-added : {answer : Formed ℕ} {ks' : List ℕ} {cs' : List ℤ}
      → (answer, ks', cs')
      ≡ running_into (with_row (pairs (terms (words_at sr) sc) (terms (words_at tr) tc)) (first_terms n (words_at (take end ks)) (take end cs))) (cleared 0 (length (take end ks)) (take end ks)) (cleared (pos 0) (length (take end cs)) (take end cs))
      → length ks' ≡ length (take end ks) → length cs' ≡ length (take end cs)
      → (answer, ks' ++ drop end ks, cs' ++ drop end cs)
      ≡ running_into (with_row (pairs (terms sp sc) (terms tp tc)) (first_terms n (words_at ks) cs)) (cleared 0 (places_for n (length sp * length tp)) ks) (cleared (pos 0) (places_for n (length sp * length tp)) cs)
  lent-added told same-ranks same_coefficients =
      lent-into _ ks cs inside.0 inside.1 (rw (running-lent, first, second) at told) same-ranks same_coefficients
      ∙ ap (λ (e : ℕ). running_into (with_row (pairs (terms sp sc) (terms tp tc)) (first_terms n (words_at ks) cs)) (cleared 0 e ks) (cleared (pos 0) e cs)) end_is
