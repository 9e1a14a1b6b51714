-- How the last of the first i patterns stands to another one, and that their words are valid.
use mathlib.Core.Path.{◌≡◌, sym, ◌∙◌, ap, subst}
use mathlib.Core.Bool.{cond}
use mathlib.Core.List.{List}
use Prim.Native.Nat.{ℕ, zero, suc, ◌-◌, ◌^◌, ◌≤◌, ◌<◌, Ordering}
use native.Mathlib.Omega.{arith}
use borrow.Author.Tests.{ne_eqb}
use lib.Dec.{T, eqb}
use lib.ListN.{length, get_or, take, length-map}
use lib.Seq.{length-take-le, get_or-take}
use Rattle.algebra.specs.Pattern.{Pattern, order}
use Rattle.algebra.specs.Sum.{is_before}
use Rattle.algebra.specs.Word.{exponents, Valid, EachValid}
use Rattle.algebra.specs.Inside.Rank.{word_at, words_at}
use Rattle.algebra.proofs.Numbers.Compare.{Says}
use Rattle.algebra.proofs.Patterns.Rank.{words-at, ranks-order}

-- where there is none, it counts as before
abbrev pub last_stands : ℕ → Pattern → Pattern → Ordering
last_stands i p q = cond (eqb i 0) Ordering.lt (order p q)

pub some-stands : (i : ℕ) (p q : Pattern) → (i ≡ 0 → ⊥) → last_stands i p q ≡ order p q
some-stands i p q some = rw (ne_eqb i 0 some)

-- in any other case there is one
pub there-is : (i : ℕ) (p q : Pattern) {o : Ordering} → last_stands i p q ≡ o → (T (is_before o) → ⊥) → (0 < i) × (order p q ≡ o)
there-is zero p q e f = absurd (f (subst (λ o. T (is_before o)) e tt))
there-is (suc i) p q e f = (omega arith, sym (some-stands (suc i) p q (λ z. omega arith)) ∙ e)

-- ---- The first places of a list of words.

module _ (ws : List ℕ) (n : ℕ) (inside : n ≤ length ws) (each : EachValid (take n ws)) where
  pub first-valid : (k : ℕ) → k < n → Valid (get_or ws k 0)
  first-valid k h = subst Valid (get_or-take n ws k 0 h) (each k (omega (arith, length-take-le n ws inside)))

  pub fewer-valid : (i : ℕ) → i ≤ n → EachValid (take i ws)
  fewer-valid i h k l =
      let less : k < i = omega (arith, length-take-le i ws (omega arith)) in
      subst Valid (sym (get_or-take i ws k 0 less)) (first-valid k (omega arith))

-- ---- Areas that hold ranks: the last of the first i ranks and another one compare as numbers.

module _ (ks : List ℕ) (i k : ℕ) (some : i ≡ 0 → ⊥) (inside : i ≤ length ks) (each : EachValid (take i (words_at ks))) (valid : Valid (word_at k)) (small : (j : ℕ) → get_or ks j 0 < 2 ^ 64) where
  pub last-stands : k < 2 ^ 64 → (o : Ordering) → Says o k (get_or ks (i - 1) 0) → o ≡ last_stands i (exponents (get_or (words_at ks) (i - 1) 0)) (exponents (word_at k))
  last-stands k-small o x =
      let is = words-at ks (i - 1) in
      let last-valid = subst Valid is (first-valid (words_at ks) i (omega (arith, length-map ks word_at)) each (i - 1) (omega arith)) in
      ranks-order (get_or ks (i - 1) 0) k (small (i - 1)) k-small last-valid valid o x
      ∙ ap (λ (w : ℕ). order (exponents w) (exponents (word_at k))) (sym is)
      ∙ sym (some-stands i (exponents (get_or (words_at ks) (i - 1) 0)) (exponents (word_at k)) some)
