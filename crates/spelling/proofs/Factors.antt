-- What is written of a letter and of a term's factors, case by case.
use mathlib.Core.Path.{◌≡◌, refl, sym, ◌∙◌, ap}
use mathlib.Core.List.{List, [], ◌∷◌, ◌++◌, append_assoc, append-nil}
use Prim.Native.Nat.{ℕ, zero, suc, ◌+◌, ◌≤◌, ◌<◌}
use native.Mathlib.Omega.{arith}
use borrow.Author.Tests.{eq-eqb, ne_eqb}
use Rattle.algebra.specs.Pattern.{Pattern}
use Rattle.numbers.specs.Decimal.{decimal, zero_digit}
use Rattle.numbers.specs.Inside.Digits.{two_digits}
use Rattle.numbers.proofs.Decimals.{decimal-last, decimal-two}
use Rattle.text.specs.Signs.{times_sign, power_sign}
use Rattle.text.specs.Letters.{name_of}
use Rattle.spelling.specs.Spelling.{Power, powers, letter_text, power_text, more_powers, factors_text}

-- ---- A letter.

module _ (v e : ℕ) where
  pub letter-alone : e ≡ 1 → letter_text v e ≡ name_of v ∷ []
  unfolding letter_text
  letter-alone is = rw (eq-eqb e 1 is)

  pub letter-raised : (e ≡ 1 → ⊥) → letter_text v e ≡ name_of v ∷ power_sign ∷ decimal e
  unfolding letter_text
  letter-raised other = rw (ne_eqb e 1 other)

  pub letter-one-digit : (e ≡ 1 → ⊥) → e < 10 → letter_text v e ≡ name_of v ∷ power_sign ∷ (zero_digit + e) ∷ []
  letter-one-digit other h = letter-raised other ∙ ap (λ (l : List ℕ). name_of v ∷ power_sign ∷ l) (decimal-last e h)

  pub letter-two-digits : 10 ≤ e → e < 100 → letter_text v e ≡ name_of v ∷ power_sign ∷ two_digits e
  letter-two-digits h k = letter-raised (λ is. omega (arith, h, is)) ∙ ap (λ (l : List ℕ). name_of v ∷ power_sign ∷ l) (decimal-two e h k)

-- ---- Letters after other factors.

pub none_left : {fs : List Power} → fs ≡ [] → more_powers fs ≡ []
unfolding more_powers
none_left e = ap more_powers e

pub one-joined : (f : Power) (fs : List Power) → more_powers (f ∷ fs) ≡ times_sign ∷ (power_text f ++ more_powers fs)
unfolding more_powers
one-joined f fs = refl

-- the first of them is that of variable v, if it is one, and the others follow
module _ (v : ℕ) where
  pub joined-absent : (e : ℕ) → e ≡ 0 → more_powers (powers v (e ∷ [])) ≡ []
  unfolding powers more_powers
  joined-absent e z = rw z

  pub joined-present : (e : ℕ) → (e ≡ 0 → ⊥) → more_powers (powers v (e ∷ [])) ≡ times_sign ∷ letter_text v e
  unfolding powers more_powers
  joined-present zero some = absurd (some refl)
  joined-present (suc e) some = ap (λ (l : List ℕ). times_sign ∷ l) (append-nil (letter_text v (suc e)))

  pub joined-next : (e : ℕ) (p : Pattern) → more_powers (powers v (e ∷ p)) ≡ more_powers (powers v (e ∷ [])) ++ more_powers (powers (suc v) p)
  unfolding powers more_powers
  joined-next zero p = refl
  joined-next (suc e) p = ap (λ (l : List ℕ). times_sign ∷ l) (sym (append_assoc (letter_text v (suc e)) [] (more_powers (powers (suc v) p))))

-- ---- A coefficient and letters.

module _ (c : ℕ) where
  pub one-unwritten : c ≡ 1 → {fs : List Power} (f : Power) (rest : List Power) → fs ≡ f ∷ rest → factors_text c fs ≡ power_text f ++ more_powers rest
  unfolding factors_text
  one-unwritten is f rest e = rw (e, eq-eqb c 1 is)

  no-letters : factors_text c [] ≡ decimal c ++ more_powers []
  unfolding factors_text more_powers
  no-letters = sym (append-nil (decimal c))

  pub number-alone : {fs : List Power} → fs ≡ [] → factors_text c fs ≡ decimal c ++ more_powers fs
  number-alone e = rw e no-letters

  pub number-first : (c ≡ 1 → ⊥) → (fs : List Power) → factors_text c fs ≡ decimal c ++ more_powers fs
  unfolding factors_text
  number-first other [] = no-letters
  number-first other (f ∷ fs) = rw (ne_eqb c 1 other)
