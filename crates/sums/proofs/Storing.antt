-- Two areas that are written term by term, from the front: the words of the terms so far in one, their coefficients in the other.
use mathlib.Core.Path.{◌≡◌, refl, sym, ◌∙◌, ap, ap₂}
use mathlib.Core.List.{List, [], ◌∷◌, ◌++◌, map, map-append}
use Prim.Native.Nat.{ℕ, ◌<◌}
use native.Mathlib.Omega.{arith}
use lib.IntN.{ℤ}
use lib.ListN.{length, set, length-set, length-map}
use Rattle.algebra.specs.Sum.{Term, Sum}
use Rattle.algebra.specs.Held.{words_of, coefficients_of}
use Rattle.algebra.specs.Word.{word}
use Rattle.answers.specs.Areas.{written}
use Rattle.answers.proofs.Writes.{written_next}
use Rattle.sums.specs.Formed.{Formed.formed, formed_into}

pub record Stored (ws₀ : List ℕ) (cs₀ : List ℤ) (s : Sum) (ws : List ℕ) (cs : List ℤ) : Type 0 where
  pub words_are : ws ≡ written (words_of s) ws₀
  pub coefficients_are : cs ≡ written (coefficients_of s) cs₀
  pub same_words : length ws ≡ length ws₀
  pub same_coefficients : length cs ≡ length cs₀

pub stored-none : (ws : List ℕ) (cs : List ℤ) → Stored ws cs [] ws cs
stored-none ws cs = record { words_are = refl; coefficients_are = refl; same_words = refl; same_coefficients = refl }

-- one term more, in an area that holds f of each term
next : {A : Type 0} (f : Term → A) (s : Sum) (t : Term) (area₀ area : List A) (k : ℕ) (v : A) → area ≡ written (map f s) area₀ → length s ≡ k → k < length area₀ → v ≡ f t
    → set area k v ≡ written (map f (s ++ (t ∷ []))) area₀
next {A = A} f s t area₀ area k v are many room is =
    let long : length (map f s) ≡ k = length-map s f ∙ many in
    ap₂ (λ (l : List A) (x : A). set l k x) are is
    ∙ ap (λ (i : ℕ). set (written (map f s) area₀) i (f t)) (sym long)
    ∙ written_next (map f s) area₀ (f t) (omega arith)
    ∙ ap (λ (l : List A). written l area₀) (sym (map-append f s (t ∷ [])))

pub stored_next : {ws₀ : List ℕ} {cs₀ : List ℤ} {s : Sum} {ws : List ℕ} {cs : List ℤ} → Stored ws₀ cs₀ s ws cs
    → (t : Term) (k w : ℕ) (c : ℤ) → length s ≡ k → k < length ws₀ → k < length cs₀ → w ≡ word t.pattern → c ≡ t.coefficient
    → Stored ws₀ cs₀ (s ++ (t ∷ [])) (set ws k w) (set cs k c)
stored_next {ws₀} {cs₀} {s} {ws} {cs} d t k w c many words_room coefficients_room word_is coefficient-is = record {
  words_are = next (λ (u : Term). word u.pattern) s t ws₀ ws k w d.words_are many words_room word_is;
  coefficients_are = next (λ (u : Term). u.coefficient) s t cs₀ cs k c d.coefficients_are many coefficients_room coefficient-is;
  same_words = length-set ws k w ∙ d.same_words;
  same_coefficients = length-set cs k c ∙ d.same_coefficients;
}

-- what a function answers that has stored a sum
pub stored-into : {ws₀ : List ℕ} {cs₀ : List ℤ} {s : Sum} {ws : List ℕ} {cs : List ℤ} (n : ℕ) → Stored ws₀ cs₀ s ws cs → length s ≡ n
    → (formed n, ws, cs) ≡ formed_into (formed s) ws₀ cs₀
unfolding formed_into
stored-into n d many = rw (d.words_are, d.coefficients_are, many)
