-- What two slices hold: each place's word is valid and its term is that of the sum; and a sum within the limits is held in its words and
-- coefficients.
use mathlib.Core.Path.{◌≡◌, refl, sym, ◌∙◌, ap, subst}
use mathlib.Core.List.{List, [], ◌∷◌, ◌++◌, map}
use Prim.Native.Nat.{ℕ, zero, suc, ◌+◌, ◌≤◌, ◌<◌}
use native.Mathlib.Omega.{arith}
use native.Mathlib.Numerals.{add-one}
use lib.Dec.{T}
use lib.IntN.{ℤ, pos, nat_abs}
use lib.ListN.{length, get_or, take, drop, length-map}
use lib.Seq.{take-suc}
use Rattle.algebra.specs.Limits.{variables, largest_degree, most_terms}
use Rattle.algebra.specs.Pattern.{Pattern, degree}
use Rattle.algebra.specs.Sum.{Term, term, Sum, in_order, degree_of, weight}
use Rattle.algebra.specs.Word.{word, exponents, terms, EachValid}
use Rattle.algebra.specs.Held.{words_of, coefficients_of}
use Rattle.algebra.specs.Accepted.{Accepted}
use Rattle.algebra.proofs.Patterns.Held.{held-length, held_at}
use Rattle.algebra.proofs.Sums.Held.{terms-long, terms-again}
use Rattle.algebra.proofs.Sums.Every.{Every, Long, UpTo, degree-every}
use Rattle.algebra.proofs.Sums.Ordered.{parts}
use Rattle.sums.specs.Held.{Held, HeldSum}

-- ---- One place of a list.

pub map_at : {A B : Type 0} (f : A → B) (l : List A) (k : ℕ) (d : A) (e : B) → k < length l → get_or (map f l) k e ≡ f (get_or l k d)
map_at f [] k d e h = absurd (omega arith)
map_at f (a ∷ l) zero d e h = refl
map_at f (a ∷ l) (suc k) d e h = map_at f l k d e (omega arith)

pub map-take : {A B : Type 0} (f : A → B) (i : ℕ) (l : List A) → map f (take i l) ≡ take i (map f l)
map-take f zero l = refl
map-take f (suc i) [] = refl
map-take f (suc i) (x ∷ l) = ap (λ r. f x ∷ r) (map-take f i l)

pub map-drop : {A B : Type 0} (f : A → B) (i : ℕ) (l : List A) → map f (drop i l) ≡ drop i (map f l)
map-drop f zero l = refl
map-drop f (suc i) [] = refl
map-drop f (suc i) (x ∷ l) = map-drop f i l

pub every-at : (P : Pattern → Type 0) (s : Sum) (k : ℕ) (d : Term) → k < length s → Every P s → P (get_or s k d).pattern
every-at P [] k d h e = absurd (omega arith)
every-at P (t ∷ s) zero d h e = e.0
every-at P (t ∷ s) (suc k) d h e = every-at P s k d (omega arith) e.1

-- no coefficient is larger than the weight
pub weight-at : (s : Sum) (k : ℕ) (d : Term) → k < length s → nat_abs (get_or s k d).coefficient ≤ weight s
unfolding weight
weight-at [] k d h = absurd (omega arith)
weight-at (t ∷ s) zero d h = omega arith
weight-at (t ∷ s) (suc k) d h = omega (arith, weight-at s k d (omega arith))

-- ---- Terms held in two lists.

module _ {ws : List ℕ} {cs : List ℤ} (held : Held ws cs) where
  pub as_many : length ws ≡ length cs
  as_many =
      ap length held.words_are ∙ length-map (terms ws cs) _
      ∙ sym (ap length held.coefficients_are ∙ length-map (terms ws cs) _)

  pub terms-many : length (terms ws cs) ≡ length ws
  unfolding terms
  terms-many = held-length exponents ws cs as_many

  module _ (k : ℕ) (h : k < length ws) where
    pub term-at : (d : Term) → get_or (terms ws cs) k d ≡ term (get_or cs k (pos 0)) (exponents (get_or ws k 0))
    unfolding terms
    term-at d = held_at exponents k ws cs d h (omega (arith, as_many))

    -- the term at this place, as any fact of it reads
    at_place : Term
    at_place = term (get_or cs k (pos 0)) (exponents (get_or ws k 0))

    -- one term more
    pub terms-next : take (k + 1) (terms ws cs) ≡ take k (terms ws cs) ++ (term (get_or cs k (pos 0)) (exponents (get_or ws k 0)) ∷ [])
    terms-next =
        ap (λ (i : ℕ). take i (terms ws cs)) (add-one k)
        ∙ take-suc (terms ws cs) k at_place (omega (arith, terms-many))
        ∙ ap (λ (t : Term). take k (terms ws cs) ++ (t ∷ [])) (term-at at_place)

    pub degree-at : degree (exponents (get_or ws k 0)) ≤ degree_of (terms ws cs)
    degree-at =
        subst (λ (t : Term). degree t.pattern ≤ degree_of (terms ws cs)) (term-at at_place)
        (every-at (UpTo (degree_of (terms ws cs))) (terms ws cs) k at_place (omega (arith, terms-many)) (degree-every _ (terms ws cs) (omega arith)))

    -- a coefficient is no larger than the weight
    pub size-at : nat_abs (get_or cs k (pos 0)) ≤ weight (terms ws cs)
    size-at =
        subst (λ (t : Term). nat_abs t.coefficient ≤ weight (terms ws cs)) (term-at at_place) (weight-at (terms ws cs) k at_place (omega (arith, terms-many)))

    word_is : word (exponents (get_or ws k 0)) ≡ get_or ws k 0
    word_is =
        sym
        (ap (λ (l : List ℕ). get_or l k 0) held.words_are
        ∙ map_at (λ (t : Term). word t.pattern) (terms ws cs) k at_place 0 (omega (arith, terms-many))
        ∙ ap (λ (t : Term). word t.pattern) (term-at at_place))

  pub each-valid : EachValid ws
  each-valid k h = record { is = word_is k h; low = omega (arith, degree-at k h, held.low) }

-- ---- A sum held in its words and coefficients.

-- what a sum has to be to be held
pub record Holdable (s : Sum) : Type 0 where
  pub long : Every (Long variables) s
  pub strict : T (in_order s)
  pub low : degree_of s ≤ largest_degree
  pub few : length s ≤ most_terms

module _ {s : Sum} (h : Holdable s) where
  pub spells : terms (words_of s) (coefficients_of s) ≡ s
  spells = terms-again s h.long (degree-every largest_degree s h.low)

  pub holds : Held (words_of s) (coefficients_of s)
  holds = record {
    words_are = ap words_of (sym spells);
    coefficients_are = ap coefficients_of (sym spells);
    strict = rw spells h.strict;
    low = rw spells h.low;
    few = omega (arith, h.few, length-map s (λ (t : Term). word t.pattern));
  }

-- an accepted sum is
pub accepted-holdable : {s : Sum} → Accepted variables s → Holdable s
accepted-holdable {s} a =
    let p = parts variables s a.is_ordered in
    record { long = p.long; strict = p.strict; low = a.low; few = a.few }

-- and its words and coefficients hold it
pub holds-sum : {s : Sum} → Accepted variables s → HeldSum (words_of s) (coefficients_of s)
holds-sum a = let h = accepted-holdable a in record { held = holds h; accepted = rw (spells h) a }

-- what is held is such a sum
pub holdable : {ws : List ℕ} {cs : List ℤ} → Held ws cs → Holdable (terms ws cs)
holdable {ws} {cs} held = record {
  long = terms-long ws cs;
  strict = held.strict;
  low = held.low;
  few = omega (arith, held.few, terms-many held);
}
