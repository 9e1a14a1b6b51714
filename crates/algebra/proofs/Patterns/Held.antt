-- Terms held in two lists, place by place, however a word is read: their number, parts of them, one of them, and the two lists again.
use mathlib.Core.Path.{◌≡◌, refl, ap, ap₂}
use mathlib.Core.List.{List, [], ◌∷◌, ◌++◌, map}
use Prim.Native.Nat.{ℕ, zero, suc, ◌<◌}
use native.Mathlib.Omega.{arith}
use lib.IntN.{ℤ, pos}
use lib.ListN.{length, get_or, take, drop}
use Rattle.algebra.specs.Pattern.{Pattern}
use Rattle.algebra.specs.Sum.{Term, term}
use Rattle.algebra.specs.Word.{terms_by}

module _ (read : ℕ → Pattern) where
  pub held-length : (ws : List ℕ) (cs : List ℤ) → length ws ≡ length cs → length (terms_by read ws cs) ≡ length ws
  unfolding terms_by
  held-length [] cs h = refl
  held-length (w ∷ ws) [] h = absurd (omega arith)
  held-length (w ∷ ws) (c ∷ cs) h = ap suc (held-length ws cs (omega arith))

  pub held-append : (ws : List ℕ) (cs : List ℤ) (ws' : List ℕ) (cs' : List ℤ) → length ws ≡ length cs
      → terms_by read (ws ++ ws') (cs ++ cs') ≡ terms_by read ws cs ++ terms_by read ws' cs'
  unfolding terms_by
  held-append [] [] ws' cs' h = refl
  held-append [] (c ∷ cs) ws' cs' h = absurd (omega arith)
  held-append (w ∷ ws) [] ws' cs' h = absurd (omega arith)
  held-append (w ∷ ws) (c ∷ cs) ws' cs' h = ap (λ l. term c (read w) ∷ l) (held-append ws cs ws' cs' (omega arith))

  pub held-take : (k : ℕ) (ws : List ℕ) (cs : List ℤ) → terms_by read (take k ws) (take k cs) ≡ take k (terms_by read ws cs)
  unfolding terms_by
  held-take zero ws cs = refl
  held-take (suc k) [] cs = refl
  held-take (suc k) (w ∷ ws) [] = refl
  held-take (suc k) (w ∷ ws) (c ∷ cs) = ap (λ l. term c (read w) ∷ l) (held-take k ws cs)

  pub held-drop : (k : ℕ) (ws : List ℕ) (cs : List ℤ) → length ws ≡ length cs → terms_by read (drop k ws) (drop k cs) ≡ drop k (terms_by read ws cs)
  unfolding terms_by
  held-drop zero ws cs h = refl
  held-drop (suc k) [] cs h = refl
  held-drop (suc k) (w ∷ ws) [] h = absurd (omega arith)
  held-drop (suc k) (w ∷ ws) (c ∷ cs) h = held-drop k ws cs (omega arith)

  pub held_at : (k : ℕ) (ws : List ℕ) (cs : List ℤ) (t : Term) → k < length ws → k < length cs → get_or (terms_by read ws cs) k t ≡ term (get_or cs k (pos 0)) (read (get_or ws k 0))
  unfolding terms_by
  held_at k [] cs t h l = absurd (omega arith)
  held_at k (w ∷ ws) [] t h l = absurd (omega arith)
  held_at zero (w ∷ ws) (c ∷ cs) t h l = refl
  held_at (suc k) (w ∷ ws) (c ∷ cs) t h l = held_at k ws cs t (omega arith) (omega arith)

  -- the coefficients again, and the words again if each is written as it was read
  pub held-coefficients : (ws : List ℕ) (cs : List ℤ) → length ws ≡ length cs → map (λ (t : Term). t.coefficient) (terms_by read ws cs) ≡ cs
  unfolding terms_by
  held-coefficients [] [] h = refl
  held-coefficients [] (c ∷ cs) h = absurd (omega arith)
  held-coefficients (w ∷ ws) [] h = absurd (omega arith)
  held-coefficients (w ∷ ws) (c ∷ cs) h = ap (λ l. c ∷ l) (held-coefficients ws cs (omega arith))

  pub held-words : (write : Pattern → ℕ) (ws : List ℕ) (cs : List ℤ) → length ws ≡ length cs
      → ((i : ℕ) → i < length ws → write (read (get_or ws i 0)) ≡ get_or ws i 0) → map (λ (t : Term). write t.pattern) (terms_by read ws cs) ≡ ws
  unfolding terms_by
  held-words write [] cs h again = refl
  held-words write (w ∷ ws) [] h again = absurd (omega arith)
  held-words write (w ∷ ws) (c ∷ cs) h again =
      ap₂ (λ (v : ℕ) (l : List ℕ). v ∷ l) (again 0 (omega arith)) (held-words write ws cs (omega arith) (λ i k. again (suc i) (omega arith)))
