-- A sum in the first places of two areas, and of two arrays that have just room for any.
use mathlib.Core.Path.{◌≡◌, sym, ◌∙◌, ap, ap₂}
use mathlib.Core.List.{List}
use Prim.Native.Nat.{ℕ, ◌≤◌}
use native.Mathlib.Omega.{arith}
use lib.IntN.{ℤ}
use lib.ListN.{length, take, drop, length-drop, length-append, length-map}
use lib.Seq.{length-take-le}
use Rattle.algebra.specs.Limits.{most_terms}
use Rattle.algebra.specs.Sum.{Sum}
use Rattle.algebra.specs.Word.{terms}
use Rattle.algebra.specs.Held.{words_of, coefficients_of, first_terms}
use Rattle.answers.specs.Areas.{written}
use Rattle.answers.proofs.Writes.{written-front}
use Rattle.sums.specs.Held.{Held}
use Rattle.sums.specs.Rows.{Stands}
use Rattle.sums.proofs.Holding.{Holdable, as_many, terms-many, holdable, spells, holds}

pub record Placed (s : Sum) (n : ℕ) (ws : List ℕ) (cs : List ℤ) : Type 0 where
  pub stands : Stands s n ws cs
  pub holdable : Holdable s

module _ {s : Sum} {n : ℕ} {ws : List ℕ} {cs : List ℤ} (p : Placed s n ws cs) where
  pub placed-few : n ≤ most_terms
  placed-few = omega (arith, p.stands.number_is, p.holdable.few)

  pub placed-is : first_terms n ws cs ≡ s
  placed-is = ap₂ terms p.stands.words_are p.stands.coefficients_are ∙ spells p.holdable

  pub placed-held : Held (take n ws) (take n cs)
  placed-held = rw (p.stands.words_are, p.stands.coefficients_are) (holds p.holdable)

-- a sum that was written there
pub placed-written : {s : Sum} (ws₀ : List ℕ) (cs₀ : List ℤ) {ws : List ℕ} {cs : List ℤ} {n : ℕ} → ws ≡ written (words_of s) ws₀ → cs ≡ written (coefficients_of s) cs₀ → length s ≡ n
    → Holdable s → Placed s n ws cs
placed-written {s} ws₀ cs₀ words coefficients many holdable = record {
  stands = record {
    number_is = sym many;
    words_are = (written-front (words_of s) ws₀ words (length-map s _ ∙ many)).0;
    coefficients_are = (written-front (coefficients_of s) cs₀ coefficients (length-map s _ ∙ many)).0;
  };
  holdable = holdable;
}

-- what is held there
pub held-placed : {n : ℕ} {ws : List ℕ} {cs : List ℤ} → n ≤ length ws → Held (take n ws) (take n cs) → Placed (first_terms n ws cs) n ws cs
held-placed {n} {ws} inside held = record {
  stands = record { number_is = sym (terms-many held ∙ length-take-le n ws inside); words_are = held.words_are; coefficients_are = held.coefficients_are };
  holdable = holdable held;
}

pub record Front (s : Sum) (ws : List ℕ) (cs : List ℤ) (n : ℕ) : Type 0 where
  pub words_are : take n ws ≡ words_of s
  pub coefficients_are : take n cs ≡ coefficients_of s
  pub many : length s ≡ n
  pub holdable : Holdable s
  pub words_room : most_terms ≡ length ws
  pub coefficients_room : most_terms ≡ length cs

-- it was written there
pub front-written : {s : Sum} (ws₀ : List ℕ) (cs₀ : List ℤ) {ws : List ℕ} {cs : List ℤ} {n : ℕ} → ws ≡ written (words_of s) ws₀ → cs ≡ written (coefficients_of s) cs₀ → length s ≡ n
    → Holdable s → most_terms ≡ length ws → most_terms ≡ length cs → Front s ws cs n
front-written {s} ws₀ cs₀ words coefficients many holdable words_room coefficients_room =
    let stands = (placed-written ws₀ cs₀ words coefficients many holdable).stands in
    record {
      words_are = stands.words_are;
      coefficients_are = stands.coefficients_are;
      many = many;
      holdable = holdable;
      words_room = words_room;
      coefficients_room = coefficients_room;
    }

-- a sum was copied there
pub front-copied : {tp : List ℕ} {tc : List ℤ} → Held tp tc → (ws₀ : List ℕ) (cs₀ : List ℤ) {ws : List ℕ} {cs : List ℤ} → ws ≡ written tp ws₀ → cs ≡ written tc cs₀
    → most_terms ≡ length ws₀ → most_terms ≡ length cs₀ → Front (terms tp tc) ws cs (length tp)
front-copied {tp} {tc} held ws₀ cs₀ words coefficients words_room coefficients_room =
    front-written ws₀ cs₀
    (words ∙ ap (λ l. written l ws₀) held.words_are)
    (coefficients ∙ ap (λ l. written l cs₀) held.coefficients_are)
    (terms-many held) (holdable held)
    (omega (arith, ap length words, length-append tp (drop (length tp) ws₀), length-drop (length tp) ws₀, held.few))
    (omega (arith, ap length coefficients, length-append tc (drop (length tc) cs₀), length-drop (length tc) cs₀, as_many held, held.few))

module _ {s : Sum} {ws : List ℕ} {cs : List ℤ} {n : ℕ} (f : Front s ws cs n) where
  pub front-placed : Placed s n ws cs
  front-placed = record { stands = record { number_is = sym f.many; words_are = f.words_are; coefficients_are = f.coefficients_are }; holdable = f.holdable }

  pub front-few : n ≤ most_terms
  front-few = placed-few front-placed

  pub front-is : first_terms n ws cs ≡ s
  front-is = placed-is front-placed

  pub front-held : Held (take n ws) (take n cs)
  front-held = placed-held front-placed
