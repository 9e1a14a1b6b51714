-- What the loop of `finish` keeps: of the terms so far, those that have not cancelled are stored.
use mathlib.Core.Path.{◌≡◌, refl, sym, ◌∙◌, ap}
use mathlib.Core.Bool.{Bool, true, false}
use mathlib.Core.List.{List, [], ◌∷◌, ◌++◌, append-nil}
use Prim.Native.Nat.{ℕ, ◌+◌, ◌≤◌, ◌<◌}
use native.Mathlib.Omega.{arith}
use lib.IntN.{ℤ, pos}
use lib.ListN.{length, get_or, take, set, length-append}
use lib.Seq.{take_all}
use Rattle.algebra.specs.Sum.{Term, term, Sum, is_zero}
use Rattle.algebra.specs.Collect.{keep, drop_zeros}
use Rattle.algebra.specs.Word.{exponents, terms}
use Rattle.sums.specs.Formed.{Formed.formed, formed_into}
use Rattle.sums.specs.Held.{Held}
use Rattle.sums.proofs.Holding.{each-valid, terms-many, terms-next}
use Rattle.sums.proofs.Storing.{Stored, stored-none, stored_next, stored-into}

-- ---- Zeros dropped, term by term.

pub keep_append : (b : Bool) (t : Term) (s r : Sum) → keep b t (s ++ r) ≡ keep b t s ++ r
unfolding keep
keep_append true t s r = refl
keep_append false t s r = refl

drop-append : (s r : Sum) → drop_zeros (s ++ r) ≡ drop_zeros s ++ drop_zeros r
unfolding drop_zeros
drop-append [] r = refl
drop-append (t ∷ s) r = ap (keep (is_zero t.coefficient) t) (drop-append s r) ∙ keep_append (is_zero t.coefficient) t (drop_zeros s) (drop_zeros r)

-- a term that has cancelled, and one that has not
drop-zero : (s : Sum) (t : Term) → is_zero t.coefficient ≡ true → drop_zeros (s ++ (t ∷ [])) ≡ drop_zeros s
unfolding drop_zeros keep
drop-zero s t zero = drop-append s (t ∷ []) ∙ rw zero (append-nil (drop_zeros s))

drop-other : (s : Sum) (t : Term) → is_zero t.coefficient ≡ false → drop_zeros (s ++ (t ∷ [])) ≡ drop_zeros s ++ (t ∷ [])
unfolding drop_zeros keep
drop-other s t other = drop-append s (t ∷ []) ∙ rw other refl

-- ---- The loop.

pub record Finishing (ws : List ℕ) (cs : List ℤ) (ws₀ : List ℕ) (cs₀ : List ℤ) (patterns : List ℕ) (coefficients : List ℤ) (count k : ℕ) : Type 0 where
  pub stored : Stored ws₀ cs₀ (drop_zeros (take k (terms ws cs))) patterns coefficients
  pub many : length (drop_zeros (take k (terms ws cs))) ≡ count
  pub fewer : count ≤ k
  pub held : Held ws cs
  pub inside : k ≤ length ws
  pub words_room : length ws ≤ length ws₀
  pub coefficients_room : length ws ≤ length cs₀

pub start : (ws : List ℕ) (cs : List ℤ) (ws₀ : List ℕ) (cs₀ : List ℤ) → Held ws cs → length ws ≤ length ws₀ → length ws ≤ length cs₀ → Finishing ws cs ws₀ cs₀ ws₀ cs₀ 0 0
unfolding drop_zeros
start ws cs ws₀ cs₀ held words_room coefficients_room = record {
  stored = stored-none ws₀ cs₀;
  many = refl;
  fewer = omega arith;
  held = held;
  inside = omega arith;
  words_room = words_room;
  coefficients_room = coefficients_room;
}

module _ {ws : List ℕ} {cs : List ℤ} {ws₀ : List ℕ} {cs₀ : List ℤ} {patterns : List ℕ} {coefficients : List ℤ} {count k : ℕ}
    (f : Finishing ws cs ws₀ cs₀ patterns coefficients count k) where
  module _ (h : k < length ws) where
    pub skips : is_zero (get_or cs k (pos 0)) ≡ true → Finishing ws cs ws₀ cs₀ patterns coefficients count (k + 1)
    skips zero =
        let same = ap drop_zeros (terms-next f.held k h) ∙ drop-zero (take k (terms ws cs)) (term (get_or cs k (pos 0)) (exponents (get_or ws k 0))) zero in
        record {
          stored = rw same f.stored;
          many = ap length same ∙ f.many;
          fewer = omega (arith, f.fewer);
          held = f.held;
          inside = omega arith;
          words_room = f.words_room;
          coefficients_room = f.coefficients_room;
        }

    pub takes : is_zero (get_or cs k (pos 0)) ≡ false → Finishing ws cs ws₀ cs₀ (set patterns count (get_or ws k 0)) (set coefficients count (get_or cs k (pos 0))) (count + 1) (k + 1)
    takes other =
        let t = term (get_or cs k (pos 0)) (exponents (get_or ws k 0)) in
        let kept = drop_zeros (take k (terms ws cs)) in
        let more = ap drop_zeros (terms-next f.held k h) ∙ drop-other (take k (terms ws cs)) t other in
        let word = sym (each-valid f.held k h).is in
        record {
          stored = rw more
              (stored_next f.stored t count (get_or ws k 0) (get_or cs k (pos 0)) f.many
              (omega (arith, f.fewer, f.words_room)) (omega (arith, f.fewer, f.coefficients_room)) word refl);
          many = ap length more ∙ length-append kept (t ∷ []) ∙ ap (λ (n : ℕ). n + 1) f.many;
          fewer = omega (arith, f.fewer);
          held = f.held;
          inside = omega arith;
          words_room = f.words_room;
          coefficients_room = f.coefficients_room;
        }

  pub ended : length ws ≤ k → (formed count, patterns, coefficients) ≡ formed_into (formed (drop_zeros (terms ws cs))) ws₀ cs₀
  ended h =
      rw (take_all k (terms ws cs) (omega (arith, terms-many f.held))) at (stored-into count f.stored f.many)
