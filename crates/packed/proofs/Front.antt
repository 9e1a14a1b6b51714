-- The terms in the first places of two areas: how many they are, and the one at a place.
use mathlib.Core.Path.{◌≡◌, sym, ◌∙◌, ap, ap₂}
use mathlib.Core.List.{List, ◌∷◌}
use Prim.Native.Nat.{ℕ, ◌+◌, ◌≤◌, ◌<◌}
use native.Mathlib.Numerals.{add-one}
use lib.IntN.{ℤ, pos}
use lib.ListN.{length, get_or, take, drop}
use lib.Seq.{drop-cons, length-take-le}
use Rattle.algebra.specs.Sum.{Term, term, Sum}
use Rattle.algebra.specs.Word.{word, exponents, terms, EachValid}
use Rattle.algebra.proofs.Patterns.Held.{held-length, held_at, held-words, held-coefficients}
use Rattle.algebra.specs.Held.{words_of, coefficients_of, first_terms}

-- the term at a place
abbrev pub at_place : List ℕ → List ℤ → ℕ → Term
at_place ws cs k = term (get_or cs k (pos 0)) (exponents (get_or ws k 0))

-- the terms of two lists
module _ (ws : List ℕ) (cs : List ℤ) (as_many : length cs ≡ length ws) where
  pub terms-length : length (terms ws cs) ≡ length ws
  unfolding terms
  terms-length = held-length exponents ws cs (sym as_many)

  pub terms-next : (k : ℕ) → k < length ws → drop k (terms ws cs) ≡ at_place ws cs k ∷ drop (k + 1) (terms ws cs)
  unfolding terms
  terms-next k h =
      let all = terms ws cs in
      let is : get_or all k (at_place ws cs k) ≡ at_place ws cs k = held_at exponents k ws cs (at_place ws cs k) h (rw as_many h) in
      drop-cons all k (at_place ws cs k) (rw terms-length h)
      ∙ ap₂ (λ (t : Term) (s : Sum). t ∷ s) is (ap (λ (i : ℕ). drop i all) (sym (add-one k)))

module _ (count : ℕ) (ws : List ℕ) (cs : List ℤ) (words : count ≤ length ws) (coefficients : count ≤ length cs) where
  pub front_length : length (first_terms count ws cs) ≡ count
  unfolding terms
  front_length =
      let many : length (take count ws) ≡ count = length-take-le count ws words in
      held-length exponents (take count ws) (take count cs) (many ∙ sym (length-take-le count cs coefficients)) ∙ many

  -- the words and the coefficients again
  alike : length (take count ws) ≡ length (take count cs)
  alike = length-take-le count ws words ∙ sym (length-take-le count cs coefficients)

  pub front-words : EachValid (take count ws) → words_of (first_terms count ws cs) ≡ take count ws
  unfolding terms
  front-words valid =
      held-words exponents word (take count ws) (take count cs) alike
      (λ i h. (valid i h).is)

  pub front-coefficients : coefficients_of (first_terms count ws cs) ≡ take count cs
  unfolding terms
  front-coefficients = held-coefficients exponents (take count ws) (take count cs) alike
