-- What an answer of forming tells: the terms stand in the two areas, or the spread is above 128.
use mathlib.Core.Path.{◌≡◌, refl, sym, ◌∙◌, ap}
use mathlib.Core.List.{List}
use Prim.Native.Nat.{ℕ, ◌≤◌, ◌<◌}
use native.Mathlib.Omega.{arith}
use native.Mathlib.Decide.{dec_lt}
use lib.IntN.{ℤ}
use lib.ListN.{length, take}
use Rattle.algebra.specs.Limits.{most_terms}
use Rattle.algebra.specs.Sum.{Sum}
use Rattle.algebra.specs.Held.{words_of, coefficients_of}
use Rattle.answers.specs.Areas.{written}
use Rattle.sums.specs.Formed.{Formed, formed_of, Formed.formed, Formed.over, within, formed_into}
use Rattle.sums.specs.Rows.{Stands, counted, Added}
use Rattle.std.specs.Prelude.{Option, Some, None}
use Rattle.sums.proofs.Forming.{within-yes, within-no}

-- ---- The number alone.

module _ (spread : ℕ) (s : Sum) where
  number-given : {n : ℕ} → formed n ≡ counted (within spread s) → (spread ≤ most_terms) × (length s ≡ n)
  number-given {n} e = go (dec_lt most_terms spread)
    where
      go : Dec (most_terms < spread) → (spread ≤ most_terms) × (length s ≡ n)
      go (yes h) =
          let told : formed n ≡ over = e ∙ ap counted (within-no spread s h) in
          let z : ◌≡◌ {A = ℕ} 0 1 = cc in absurd (omega arith)
      go (no h) =
          let few : spread ≤ most_terms = omega arith in
          let told : formed n ≡ formed (length s) = e ∙ ap counted (within-yes spread s few) in
          (few, cc)

  over-many : over ≡ counted (within spread s) → most_terms < spread
  over-many e = go (dec_lt most_terms spread)
    where
      go : Dec (most_terms < spread) → most_terms < spread
      go (yes h) = h
      go (no h) =
          let told : over ≡ formed (length s) = e ∙ ap counted (within-yes spread s (omega arith)) in
          let z : ◌≡◌ {A = ℕ} 0 1 = cc in absurd (omega arith)

  pub number-refused : (r : Option ℕ) → r ≡ None → formed_of r ≡ counted (within spread s) → most_terms < spread
  number-refused r none e = over-many (sym (ap formed_of none) ∙ e)

-- ---- With areas that are the function's to write: nothing is said of their other places.

module _ (spread : ℕ) (s : Sum) (ws : List ℕ) (cs : List ℤ) where
  pub added-over : most_terms < spread → Added (within spread s) over ws cs
  added-over many =
      let no = within-no spread s many in
      record { number_is = ap counted (sym no); words_are = λ t e. absurd (never t (sym no ∙ e)); coefficients_are = λ t e. absurd (never t (sym no ∙ e)) }
    where
      never : (t : Sum) → over ≡ formed t → ⊥
      never t e = let z : ◌≡◌ {A = ℕ} 0 1 = cc in omega arith

  pub added-formed : spread ≤ most_terms → {n : ℕ} → Stands s n ws cs → Added (within spread s) (formed n) ws cs
  added-formed few {n} f =
      let yes = within-yes spread s few in
      record {
        number_is = ap formed f.number_is ∙ ap counted (sym yes);
        words_are = λ t e. same_words t (inside t (sym yes ∙ e));
        coefficients_are = λ t e. same_coefficients t (inside t (sym yes ∙ e));
      }
    where
      inside : (t : Sum) → formed s ≡ formed t → s ≡ t
      inside t e = cc

      same_words : (t : Sum) → s ≡ t → take (length t) ws ≡ words_of t
      same_words t e = rw (← e, ← f.number_is) f.words_are

      same_coefficients : (t : Sum) → s ≡ t → take (length t) cs ≡ coefficients_of t
      same_coefficients t e = rw (← e, ← f.number_is) f.coefficients_are

  pub added-given : (r : Option ℕ) {n : ℕ} → r ≡ Some n → Added (within spread s) (formed_of r) ws cs → (spread ≤ most_terms) × Stands s n ws cs
  added-given r {n} is a =
      let told = number-given spread s (ap formed_of (sym is) ∙ a.number_is) in
      let yes = within-yes spread s told.0 in (
        told.0,
        record {
          number_is = sym told.1;
          words_are = rw told.1 at (a.words_are s yes);
          coefficients_are = rw told.1 at (a.coefficients_are s yes);
        },
      )

-- ---- With areas that are lent: without a sum they stay.

module _ (spread : ℕ) (s : Sum) (ws₀ : List ℕ) (cs₀ : List ℤ) (ws : List ℕ) (cs : List ℤ) where
  -- the sum was formed, and has n terms
  pub record Known (n : ℕ) : Type 0 where
    pub few : spread ≤ most_terms
    pub many : length s ≡ n
    pub words_are : ws ≡ written (words_of s) ws₀
    pub coefficients_are : cs ≡ written (coefficients_of s) cs₀

  abbrev Answers : Formed ℕ → Type 0
  Answers r = (r, ws, cs) ≡ formed_into (within spread s) ws₀ cs₀

  number : (f : Formed Sum) → (formed_into f ws₀ cs₀).0 ≡ counted f
  unfolding formed_into
  number (formed t) = refl
  number over = refl

  pub given : (r : Option ℕ) {n : ℕ} → r ≡ Some n → Answers (formed_of r) → Known n
  unfolding formed_into
  given r is e =
      let told = number-given spread s (ap formed_of (sym is) ∙ ap (λ x. x.0) e ∙ number (within spread s)) in
      let all = e ∙ ap (λ x. formed_into x ws₀ cs₀) (within-yes spread s told.0) in
      record { few = told.0; many = told.1; words_are = ap (λ x. x.1) all; coefficients_are = ap (λ x. x.2) all }

  pub refused : (r : Option ℕ) → r ≡ None → Answers (formed_of r) → most_terms < spread
  refused r none e = number-refused spread s r none (ap (λ x. x.0) e ∙ number (within spread s))

-- a sum whose spread is above 128 is refused, and the areas stay
pub over-into : (spread : ℕ) (s : Sum) (ws : List ℕ) (cs : List ℤ) → most_terms < spread → (over, ws, cs) ≡ formed_into (within spread s) ws cs
unfolding formed_into
over-into spread s ws cs many = rw (within-no spread s many)
