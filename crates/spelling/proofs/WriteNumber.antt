-- A term that is not the first: its number, if it is written, and its letters leave one byte for the sign.
use mathlib.Core.Path.{◌≡◌, refl, sym, ◌∙◌, ap, subst}
use mathlib.Core.Bool.{true, false}
use mathlib.Core.List.{List, [], ◌∷◌, ◌++◌}
use Prim.Native.Nat.{ℕ, zero, suc, ◌+◌, ◌≤◌}
use native.Mathlib.Omega.{arith}
use native.Mathlib.Numerals.{add-one}
use lib.Dec.{eqb}
use lib.ListN.{length, get_or, length-append}
use lib.Seq.{sets, set-get_or}
use borrow.Author.Tests.{eq-eqb, ne_eqb, eqb-true, eqb-false}
use Rattle.algebra.specs.Pattern.{Pattern, degree}
use Rattle.numbers.specs.Decimal.{decimal}
use Rattle.numbers.proofs.Decimals.{decimal-last}
use Rattle.numbers.proofs.Writing.{Writing, start, left_as, next}
use Rattle.text.specs.Signs.{times_sign}
use Rattle.text.proofs.Byte.{decide}
use Rattle.spelling.specs.Spelling.{Power, powers, letter_text, more_powers, factors_text}
use Rattle.spelling.specs.Inside.Code.{is_left_out, after_number}
use Rattle.spelling.proofs.Factors.{one-unwritten, number-alone, number-first, one-joined}

-- ---- When a number is left out.

other-stays : (c : ℕ) → (c ≡ 1 → ⊥) → (fs : List Power) → is_left_out c fs ≡ false
unfolding is_left_out
other-stays c other [] = refl
other-stays c other (f ∷ fs) = ne_eqb c 1 other

none_stays : (c v : ℕ) (p : Pattern) → degree p ≡ 0 → is_left_out c (powers v p) ≡ false
unfolding powers is_left_out degree
none_stays c v [] z = refl
none_stays c v (zero ∷ p) z = none_stays c (suc v) p (omega (arith, z))
none_stays c v (suc e ∷ p) z = absurd (omega (arith, z))

one-goes : (c v : ℕ) (p : Pattern) → c ≡ 1 → (degree p ≡ 0 → ⊥) → is_left_out c (powers v p) ≡ true
unfolding powers is_left_out degree
one-goes c v [] is some = absurd (some refl)
one-goes c v (zero ∷ p) is some = one-goes c (suc v) p is (λ z. some (omega (arith, z)))
one-goes c v (suc e ∷ p) is some = eq-eqb c 1 is

-- ---- What `write_number` answers.

module _ (c at : ℕ) (area : List ℕ) (p : Pattern) where
  pub left_out : c ≡ 1 → (degree p ≡ 0 → ⊥) → (at, area) ≡ after_number c (powers 0 p) at area
  unfolding after_number
  left_out is some = rw (one-goes c 0 p is some)

  stays : is_left_out c (powers 0 p) ≡ false → {r : ℕ} {area' : List ℕ} → r ≡ at + 1 + length (decimal c) → area' ≡ sets area (at + 1) (decimal c)
      → (r, area') ≡ after_number c (powers 0 p) at area
  unfolding after_number
  stays e there now = rw (e, there, now)

  pub other-written : (c ≡ 1 → ⊥) → {r : ℕ} {area' : List ℕ} → r ≡ at + 1 + length (decimal c) → area' ≡ sets area (at + 1) (decimal c)
      → (r, area') ≡ after_number c (powers 0 p) at area
  other-written other = stays (other-stays c other (powers 0 p))

  pub alone-written : degree p ≡ 0 → {r : ℕ} {area' : List ℕ} → r ≡ at + 1 + length (decimal c) → area' ≡ sets area (at + 1) (decimal c)
      → (r, area') ≡ after_number c (powers 0 p) at area
  alone-written none = stays (none_stays c 0 p none)

-- ---- What is left after it: the letters. With them the run is one byte for the sign, and then the factors.

pub record Open (area : List ℕ) (at c : ℕ) (fs : List Power) (area' : List ℕ) (r : ℕ) : Type 0 where
  pub first : ℕ
  pub writing : Writing area at (first ∷ factors_text c fs) area' r (more_powers fs)

module _ (area : List ℕ) (at c : ℕ) where
  -- the number was written: what stood at the sign's place still does
  written-open : (fs : List Power) → factors_text c fs ≡ decimal c ++ more_powers fs → at + suc (length (factors_text c fs)) ≤ length area
      → Open area at c fs (sets area (at + 1) (decimal c)) (at + 1 + length (decimal c))
  written-open fs is room =
      let b : ℕ = get_or area at 0 in
      let kept : sets area (at + 1) (decimal c) ≡ sets area at (b ∷ decimal c) =
      ap (λ (i : ℕ). sets area i (decimal c)) (add-one at) ∙ ap (λ (l : List ℕ). sets l (suc at) (decimal c)) (sym (set-get_or area at 0)) in
      let there : at + 1 + length (decimal c) ≡ at + suc (length (decimal c)) = omega arith in
      let all : b ∷ factors_text c fs ≡ (b ∷ decimal c) ++ more_powers fs = ap (λ (l : List ℕ). b ∷ l) is in
      record { first = b; writing = next (b ∷ decimal c) (more_powers fs) all (start area at (b ∷ factors_text c fs) room) kept there }

  opens : (fs : List Power) → at + suc (length (factors_text c fs)) ≤ length area → let n = after_number c fs at area in Open area at c fs n.1 n.0
  unfolding after_number is_left_out
  opens [] room = written-open [] (number-alone c refl) room
  opens (f ∷ fs) room =
      decide (eqb c 1)
      (λ e. rw e (record {
        first = times_sign;
        writing = left_as (ap (λ (l : List ℕ). times_sign ∷ l) (one-unwritten c (eqb-true c 1 e) f fs refl) ∙ sym (one-joined f fs)) (start area at (times_sign ∷ factors_text c (f ∷ fs)) room);
      }))
      (λ e. rw e (written-open (f ∷ fs) (number-first c (eqb-false c 1 e) (f ∷ fs)) room))

  pub opened : (fs : List Power) → at + suc (length (factors_text c fs)) ≤ length area → {r : ℕ} {area' : List ℕ} → (r, area') ≡ after_number c fs at area → Open area at c fs area' r
  opened fs room is = subst (λ (n : ℕ × List ℕ). Open area at c fs n.1 n.0) (sym is) (opens fs room)

-- there is room for the number, whether it is written or not
pub number-within : (c : ℕ) (fs : List Power) → length (decimal c) ≤ length (factors_text c fs)
unfolding factors_text letter_text
number-within c [] = omega arith
number-within c (f ∷ fs) =
    decide (eqb c 1)
    (λ e. let one : length (decimal c) ≡ 1 = ap (length {A = ℕ}) (decimal-last c (omega (arith, eqb-true c 1 e))) in rw e (omega (arith, one)))
    (λ e. rw e (omega (arith, length-append (decimal c) (more_powers (f ∷ fs)))))
