-- The letters of a word's pattern from a variable on: the next of them, or none.
use mathlib.Core.Path.{◌≡◌, refl, sym, ◌∙◌, ap}
use mathlib.Core.List.{[], ◌∷◌, ◌++◌}
use Prim.Native.Nat.{ℕ, zero, suc, ◌+◌, ◌≤◌, ◌<◌}
use native.Mathlib.Omega.{arith}
use native.Mathlib.Numerals.{add-one}
use lib.ListN.{length, drop, drop_of_length-le}
use lib.Seq.{drop-cons}
use Rattle.algebra.specs.Limits.{variables, largest_degree}
use Rattle.algebra.specs.Pattern.{Pattern, exponent}
use Rattle.algebra.specs.Word.{exponents, Valid}
use Rattle.algebra.proofs.Patterns.Laws.{exponent-degree}
use Rattle.algebra.proofs.Patterns.Word.{exponents-length}
use Rattle.spelling.specs.Spelling.{powers, more_powers}
use Rattle.spelling.specs.Inside.Code.{letters_from, NoneBefore}
use Rattle.spelling.proofs.Factors.{joined-next}

-- the exponent at v, and those after it
cut_at : (w v : ℕ) → v < variables → drop v (exponents w) ≡ exponent v (exponents w) ∷ drop (v + 1) (exponents w)
cut_at w v h = rw add-one (drop-cons (exponents w) v 0 (rw (exponents-length w) h))

absent : (v e : ℕ) (p : Pattern) → e ≡ 0 → powers v (e ∷ p) ≡ powers (v + 1) p
unfolding powers
absent v e p z = rw (z, add-one)

present : (v e : ℕ) (p : Pattern) → 0 < e → powers v (e ∷ p) ≡ record { variable = v; exponent = e } ∷ powers (v + 1) p
unfolding powers
present v zero p some = absurd (omega arith)
present v (suc e) p some = rw add-one

-- an exponent of a valid word is within the limit
pub exponent-low : {w : ℕ} → Valid w → (v : ℕ) {e : ℕ} → e ≡ exponent v (exponents w) → e ≤ largest_degree
exponent-low {w} valid v is = omega (arith, is, exponent-degree v (exponents w), valid.low)

module _ (w v : ℕ) where
  module _ (h : v < variables) {e : ℕ} (is : e ≡ exponent v (exponents w)) where
    letter-absent : e ≡ 0 → letters_from w v ≡ letters_from w (v + 1)
    letter-absent z = ap (powers v) (cut_at w v h) ∙ absent v (exponent v (exponents w)) _ (sym is ∙ z)

    letter-present : 0 < e → letters_from w v ≡ record { variable = v; exponent = e } ∷ letters_from w (v + 1)
    letter-present some = ap (powers v) (cut_at w v h ∙ ap (λ (n : ℕ). n ∷ drop (v + 1) (exponents w)) (sym is)) ∙ present v e _ some

  -- what is written of the letters left: the letter of v, if it is one, and those after it
  pub letter-next : (h : v < variables) {e : ℕ} → e ≡ exponent v (exponents w)
      → more_powers (letters_from w v) ≡ more_powers (powers v (e ∷ [])) ++ more_powers (letters_from w (v + 1))
  letter-next h {e} is =
      ap (λ (p : Pattern). more_powers (powers v p)) (cut_at w v h ∙ ap (λ (n : ℕ). n ∷ drop (v + 1) (exponents w)) (sym is))
      ∙ joined-next v e (drop (v + 1) (exponents w))
      ∙ ap (λ (k : ℕ). more_powers (powers v (e ∷ [])) ++ more_powers (powers k (drop (v + 1) (exponents w)))) (sym (add-one v))

  pub no-letter : variables ≤ v → letters_from w v ≡ []
  unfolding powers
  no-letter h =
      let short : length (exponents w) ≤ v = rw (exponents-length w) h in
      ap (powers v) (drop_of_length-le (exponents w) short)

-- ---- The first letter.

none-before : (w v : ℕ) → v ≤ variables → NoneBefore w v → letters_from w v ≡ letters_from w 0
none-before w zero h none = refl
none-before w (suc v) h none =
    let here : letters_from w v ≡ letters_from w (suc v) = rw add-one at (letter-absent w v (omega (arith, h)) refl (none v (omega arith))) in
    sym here ∙ none-before w v (omega (arith, h)) (λ k l. none k (omega (arith, l)))

pub letters-begin : (w v : ℕ) → v < variables → NoneBefore w v → {e : ℕ} → e ≡ exponent v (exponents w) → 0 < exponent v (exponents w)
    → letters_from w 0 ≡ record { variable = v; exponent = e } ∷ letters_from w (v + 1)
letters-begin w v h none is some = sym (none-before w v (omega (arith, h)) none) ∙ letter-present w v h is (omega (arith, is, some))

pub no-letters : (w : ℕ) → NoneBefore w variables → letters_from w 0 ≡ []
no-letters w none = sym (none-before w variables (omega arith) none) ∙ no-letter w variables (omega arith)
