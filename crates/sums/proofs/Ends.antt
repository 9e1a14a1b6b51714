-- The end of a sum that is held, its beginning, and what stands between two places: each is held again, and is no higher and no heavier than the whole.
-- So a row may begin and end anywhere.
use mathlib.Core.Path.{◌≡◌, sym, ◌∙◌, ap}
use mathlib.Core.List.{List, [], ◌∷◌}
use Prim.Native.Nat.{ℕ, zero, suc, ◌≤◌}
use native.Mathlib.Omega.{arith}
use native.Mathlib.Nat.{le_refl}
use lib.Dec.{T}
use lib.IntN.{ℤ}
use lib.ListN.{take, drop, length-take, length-drop, take-append-drop}
use Rattle.algebra.specs.Pattern.{Pattern}
use Rattle.algebra.specs.Sum.{Term, Sum, ahead, in_order, degree_of, weight}
use Rattle.algebra.specs.Word.{word, exponents, terms}
use Rattle.algebra.specs.Held.{words_of, coefficients_of}
use Rattle.algebra.proofs.Patterns.Held.{held-take, held-drop}
use Rattle.algebra.proofs.Sums.Every.{Every, UpTo, degree-every, every-degree}
use Rattle.algebra.proofs.Sums.Ordered.{order-cons, order-head, order-tail}
use Rattle.algebra.proofs.Sums.Results.{append-weight}
use Rattle.sums.specs.Held.{Held}
use Rattle.sums.proofs.Holding.{map-take, map-drop, as_many, Holdable, holdable, holds}
use Rattle.sums.proofs.Multiplying.{every_take, weight-take}

-- ---- A sum without its first terms, and its first terms alone.

every_drop : (P : Pattern → Type 0) (k : ℕ) (s : Sum) → Every P s → Every P (drop k s)
every_drop P zero s e = e
every_drop P (suc k) [] e = tt
every_drop P (suc k) (t ∷ s) e = every_drop P k s e.1

order-drop : (k : ℕ) (s : Sum) → T (in_order s) → T (in_order (drop k s))
order-drop zero s h = h
order-drop (suc k) [] h = h
order-drop (suc k) (t ∷ s) h = order-drop k s (order-tail t s h)

ahead-take : (p : Pattern) (k : ℕ) (s : Sum) → T (ahead p s) → T (ahead p (take k s))
unfolding ahead
ahead-take p zero s h = tt
ahead-take p (suc k) [] h = tt
ahead-take p (suc k) (t ∷ s) h = h

order-take : (k : ℕ) (s : Sum) → T (in_order s) → T (in_order (take k s))
unfolding in_order
order-take zero s h = tt
order-take (suc k) [] h = tt
order-take (suc k) (t ∷ s) h = order-cons t (take k s) (ahead-take t.pattern k s (order-head t s h)) (order-take k s (order-tail t s h))

module _ (k : ℕ) (s : Sum) where
  pub end-degree : degree_of (drop k s) ≤ degree_of s
  end-degree = every-degree (degree_of s) (drop k s) (every_drop (UpTo (degree_of s)) k s (degree-every (degree_of s) s (le_refl (degree_of s))))

  pub begin-degree : degree_of (take k s) ≤ degree_of s
  begin-degree = every-degree (degree_of s) (take k s) (every_take (UpTo (degree_of s)) k s (degree-every (degree_of s) s (le_refl (degree_of s))))

  pub end-weight : weight (drop k s) ≤ weight s
  end-weight = omega (arith, append-weight (take k s) (drop k s), ap weight (take-append-drop k s))

  module _ (h : Holdable s) where
    end-holdable : Holdable (drop k s)
    end-holdable = record {
      long = every_drop _ k s h.long;
      strict = order-drop k s h.strict;
      low = omega (arith, end-degree, h.low);
      few = omega (arith, length-drop k s, h.few);
    }

    begin-holdable : Holdable (take k s)
    begin-holdable = record {
      long = every_take _ k s h.long;
      strict = order-take k s h.strict;
      low = omega (arith, begin-degree, h.low);
      few = omega (arith, length-take k s, h.few);
    }

-- ---- The same of what two slices hold.

module _ {ws : List ℕ} {cs : List ℤ} (held : Held ws cs) (k : ℕ) where
  abbrev s : Sum
  s = terms ws cs

  -- its terms are those at the end
  pub end_is : terms (drop k ws) (drop k cs) ≡ drop k (terms ws cs)
  unfolding terms
  end_is = held-drop exponents k ws cs (as_many held)

  pub begin-is : terms (take k ws) (take k cs) ≡ take k (terms ws cs)
  unfolding terms
  begin-is = held-take exponents k ws cs

  pub end-held : Held (drop k ws) (drop k cs)
  end-held =
      let words : drop k ws ≡ words_of (drop k s) = ap (drop k) held.words_are ∙ sym (map-drop (λ (t : Term). word t.pattern) k s) in
      let coefficients : drop k cs ≡ coefficients_of (drop k s) = ap (drop k) held.coefficients_are ∙ sym (map-drop (λ (t : Term). t.coefficient) k s) in
      rw (words, coefficients) (holds (end-holdable k s (holdable held)))

  pub begin-held : Held (take k ws) (take k cs)
  begin-held =
      let words : take k ws ≡ words_of (take k s) = ap (take k) held.words_are ∙ sym (map-take (λ (t : Term). word t.pattern) k s) in
      let coefficients : take k cs ≡ coefficients_of (take k s) = ap (take k) held.coefficients_are ∙ sym (map-take (λ (t : Term). t.coefficient) k s) in
      rw (words, coefficients) (holds (begin-holdable k s (holdable held)))

  pub end_low : degree_of (terms (drop k ws) (drop k cs)) ≤ degree_of (terms ws cs)
  end_low = rw end_is (end-degree k s)

  pub end-light : weight (terms (drop k ws) (drop k cs)) ≤ weight (terms ws cs)
  end-light = rw end_is (end-weight k s)

  pub begin-low : degree_of (terms (take k ws) (take k cs)) ≤ degree_of (terms ws cs)
  begin-low = rw begin-is (begin-degree k s)

  pub begin-light : weight (terms (take k ws) (take k cs)) ≤ weight (terms ws cs)
  begin-light = rw begin-is (weight-take k s)

-- m terms from place k on
module _ {ws : List ℕ} {cs : List ℤ} (held : Held ws cs) (k m : ℕ) where
  pub between-held : Held (take m (drop k ws)) (take m (drop k cs))
  between-held = begin-held (end-held held k) m

  pub between-low : degree_of (terms (take m (drop k ws)) (take m (drop k cs))) ≤ degree_of (terms ws cs)
  between-low = omega (arith, begin-low (end-held held k) m, end_low held k)

  pub between-light : weight (terms (take m (drop k ws)) (take m (drop k cs))) ≤ weight (terms ws cs)
  between-light = omega (arith, begin-light (end-held held k) m, end-light held k)
