-- What the loops of `weigh` and `form` keep: the weight of the slopes of the terms so far, and those of them that are stored.
use mathlib.Core.Path.{◌≡◌, refl, sym, ◌∙◌, ap, ap₂}
use mathlib.Core.List.{List, [], ◌∷◌, ◌++◌, map, append-nil, map-append}
use Prim.Native.Nat.{ℕ, ◌+◌, ◌*◌, ◌≤◌, ◌<◌}
use native.Mathlib.Omega.{arith}
use native.Mathlib.Nat.{add-zero}
use borrow.Author.Tests.{eq-eqb, ne_eqb}
use lib.IntN.{ℤ, pos, nat_abs, ◌*ℤ◌}
use lib.ListN.{length, get_or, take, set, length-append, length-map, length-set}
use lib.Seq.{take_all, get_or-take, length-take-le}
use mir.Syntax.{w64}
use mir.Val.{SFits, to_z}
use mir.ValLaws.{to_z_pos}
use Rattle.algebra.specs.Limits.{variables, largest_degree, largest_weight}
use Rattle.algebra.specs.Pattern.{exponent, lowered}
use Rattle.algebra.specs.Sum.{Term, term, Sum, weight}
use Rattle.algebra.specs.Collect.{keep}
use Rattle.algebra.specs.Slope.{slope_term, slope}
use Rattle.algebra.specs.Word.{word, exponents, terms}
use Rattle.algebra.specs.Held.{words_of, coefficients_of, first_terms}
use Rattle.algebra.proofs.Numbers.Absolute.{abs-mul}
use Rattle.algebra.proofs.Patterns.Laws.{exponent-degree}
use Rattle.algebra.proofs.Patterns.Word.{exponents-length}
use Rattle.algebra.proofs.Sums.Results.{append-weight}
use Rattle.algebra.proofs.Sums.SlopeTerms.{lacks, slope_terms, slope-terms, slope-weighs}
use Rattle.answers.specs.Areas.{written}
use Rattle.answers.proofs.Writes.{getD-written}
use Rattle.answers.proofs.Signed.{fits-abs}
use Rattle.sums.specs.Held.{HeldSum}
use Rattle.sums.proofs.Finishing.{keep_append}
use Rattle.sums.proofs.Holding.{map_at, weight-at, as_many, each-valid, term-at, terms-many, terms-next}
use Rattle.sums.proofs.Storing.{Stored, stored-none, stored_next}
use Rattle.weights.specs.Capped.{capped}
use Rattle.weights.proofs.Weighing.{capped-plus, capped-plus-right}

-- ---- Slopes, term by term.

slopes-append : (v : ℕ) (s r : Sum) → slope_terms v (s ++ r) ≡ slope_terms v s ++ slope_terms v r
unfolding slope_terms
slopes-append v [] r = refl
slopes-append v (t ∷ s) r = ap (keep (lacks v t) (slope_term v t)) (slopes-append v s r) ∙ keep_append (lacks v t) (slope_term v t) (slope_terms v s) (slope_terms v r)

module _ (v : ℕ) (s : Sum) (t : Term) where
  -- a term without v, and one with it
  slopes-skip : exponent v t.pattern ≡ 0 → slope_terms v (s ++ (t ∷ [])) ≡ slope_terms v s
  unfolding slope_terms keep
  slopes-skip none = slopes-append v s (t ∷ []) ∙ rw (eq-eqb (exponent v t.pattern) 0 none) (append-nil (slope_terms v s))

  slopes-take : (exponent v t.pattern ≡ 0 → ⊥) → slope_terms v (s ++ (t ∷ [])) ≡ slope_terms v s ++ (slope_term v t ∷ [])
  unfolding slope_terms keep
  slopes-take some = slopes-append v s (t ∷ []) ∙ rw (ne_eqb (exponent v t.pattern) 0 some) refl

  weight-next : weight (map (slope_term v) (s ++ (t ∷ []))) ≡ weight (map (slope_term v) s) + nat_abs t.coefficient * exponent v t.pattern
  unfolding weight
  weight-next =
      ap weight (map-append (slope_term v) s (t ∷ [])) ∙ append-weight (map (slope_term v) s) (slope_term v t ∷ [])
      ∙ ap (λ (m : ℕ). weight (map (slope_term v) s) + m) (add-zero (nat_abs (slope_term v t).coefficient) ∙ abs-mul t.coefficient (pos (exponent v t.pattern)))

-- ---- The loop of `weigh`.

pub record Weighing (v : ℕ) (ws : List ℕ) (cs : List ℤ) (w k : ℕ) : Type 0 where
  pub so_far : w ≡ capped (weight (map (slope_term v) (take k (terms ws cs))))
  pub sum : HeldSum ws cs
  pub inside : k ≤ length ws

pub weigh-start : (v : ℕ) (ws : List ℕ) (cs : List ℤ) → HeldSum ws cs → Weighing v ws cs 0 0
unfolding weight
weigh-start v ws cs sum = record { so_far = omega arith; sum = sum; inside = omega arith }

module _ {v : ℕ} {ws : List ℕ} {cs : List ℤ} {w k : ℕ} (r : Weighing v ws cs w k) where
  pub weigh-again : (size power product next : ℕ) → k < length ws → size ≡ nat_abs (get_or cs k (pos 0)) → power ≡ exponent v (exponents (get_or ws k 0))
      → product ≡ capped (size * power) → next ≡ capped (w + product) → Weighing v ws cs next (k + 1)
  weigh-again size power product next h size_is power_is product_is next_is =
      let before = weight (map (slope_term v) (take k (terms ws cs))) in
      record {
        so_far = next_is ∙ ap (λ (m : ℕ). capped (w + m)) product_is ∙ capped-plus-right w (size * power)
            ∙ ap (λ (m : ℕ). capped (m + size * power)) r.so_far ∙ capped-plus before (size * power)
            ∙ ap capped
            (ap₂ (λ (m n : ℕ). before + m * n) size_is power_is ∙ sym (weight-next v (take k (terms ws cs)) (term (get_or cs k (pos 0)) (exponents (get_or ws k 0))))
            ∙ ap (λ (l : Sum). weight (map (slope_term v) l)) (sym (terms-next r.sum.held k h)));
        sum = r.sum;
        inside = omega arith;
      }

  pub weigh-ended : length ws ≤ k → w ≡ capped (weight (slope v (terms ws cs)))
  weigh-ended h =
      r.so_far ∙ ap (λ (l : Sum). capped (weight (map (slope_term v) l))) (take_all k (terms ws cs) (omega (arith, terms-many r.sum.held)))
      ∙ ap capped (sym (slope-weighs variables v (terms ws cs) r.sum.accepted.is_ordered))

-- ---- The loop of `form`.

pub record Sloping (v : ℕ) (ws : List ℕ) (cs : List ℤ) (ws₀ : List ℕ) (cs₀ : List ℤ) (patterns : List ℕ) (coefficients : List ℤ) (count k : ℕ) : Type 0 where
  pub stored : Stored ws₀ cs₀ (slope_terms v (take k (terms ws cs))) patterns coefficients
  pub many : length (slope_terms v (take k (terms ws cs))) ≡ count
  pub fewer : count ≤ k
  pub sum : HeldSum ws cs
  pub light : weight (slope v (terms ws cs)) ≤ largest_weight
  pub inside : k ≤ length ws
  pub words_room : length ws ≤ length ws₀
  pub coefficients_room : length cs ≤ length cs₀

pub form-start : (v n : ℕ) (ws₀ : List ℕ) (cs₀ : List ℤ) → HeldSum (take n ws₀) (take n cs₀) → weight (slope v (first_terms n ws₀ cs₀)) ≤ largest_weight
    → n ≤ length ws₀ → n ≤ length cs₀ → Sloping v (take n ws₀) (take n cs₀) ws₀ cs₀ ws₀ cs₀ 0 0
unfolding slope_terms
form-start v n ws₀ cs₀ sum light words_room coefficients_room = record {
  stored = stored-none ws₀ cs₀;
  many = refl;
  fewer = omega arith;
  sum = sum;
  light = light;
  inside = omega arith;
  words_room = omega (arith, length-take-le n ws₀ words_room);
  coefficients_room = omega (arith, length-take-le n cs₀ coefficients_room);
}

module _ {v : ℕ} {ws : List ℕ} {cs : List ℤ} {ws₀ : List ℕ} {cs₀ : List ℤ} {patterns : List ℕ} {coefficients : List ℤ} {count k : ℕ}
    (f : Sloping v ws cs ws₀ cs₀ patterns coefficients count k) where
  module _ (h : k < length ws) where
    pub form-skips : exponent v (exponents (get_or ws k 0)) ≡ 0 → Sloping v ws cs ws₀ cs₀ patterns coefficients count (k + 1)
    form-skips none =
        let same = ap (slope_terms v) (terms-next f.sum.held k h) ∙ slopes-skip v (take k (terms ws cs)) (term (get_or cs k (pos 0)) (exponents (get_or ws k 0))) none in
        record {
          stored = rw same f.stored;
          many = ap length same ∙ f.many;
          fewer = omega (arith, f.fewer);
          sum = f.sum;
          light = f.light;
          inside = omega arith;
          words_room = f.words_room;
          coefficients_room = f.coefficients_room;
        }

    -- the power is small, and the coefficient of the slope is no larger than the weight of the slope
    pub power_small : exponent v (exponents (get_or ws k 0)) ≤ largest_degree
    power_small = omega (arith, exponent-degree v (exponents (get_or ws k 0)), (each-valid f.sum.held k h).low)

    -- the product that the machine forms
    pub slope-is : {z : ℤ} (power : ℕ) → z ≡ get_or cs k (pos 0) → power ≡ exponent v (exponents (get_or ws k 0))
        → z *ℤ to_z w64 power ≡ get_or cs k (pos 0) *ℤ pos (exponent v (exponents (get_or ws k 0)))
    slope-is power read is = ap₂ ◌*ℤ◌ read (to_z_pos w64 power (omega (arith, power_small)) ∙ ap pos is)

    pub slope-fits : SFits w64 (get_or cs k (pos 0) *ℤ pos (exponent v (exponents (get_or ws k 0))))
    slope-fits =
        let s = terms ws cs in
        let t = term (get_or cs k (pos 0)) (exponents (get_or ws k 0)) in
        let many = terms-many f.sum.held in
        let at-k : get_or (map (slope_term v) s) k t ≡ slope_term v t = map_at (slope_term v) s k t t (omega arith) ∙ ap (slope_term v) (term-at f.sum.held k h t) in
        let size = weight-at (map (slope_term v) s) k t (omega (arith, length-map s (slope_term v))) in
        fits-abs (get_or cs k (pos 0) *ℤ pos (exponent v (exponents (get_or ws k 0))))
        (omega (arith, ap (λ (u : Term). nat_abs u.coefficient) at-k, size, f.light, slope-weighs variables v s f.sum.accepted.is_ordered))

    pub form-takes : (p : ℕ) (d : ℤ) → (exponent v (exponents (get_or ws k 0)) ≡ 0 → ⊥) → p ≡ word (lowered v (exponents (get_or ws k 0)))
        → d ≡ get_or cs k (pos 0) *ℤ pos (exponent v (exponents (get_or ws k 0)))
        → Sloping v ws cs ws₀ cs₀ (set patterns count p) (set coefficients count d) (count + 1) (k + 1)
    form-takes p d some word_is coefficient-is =
        let e = exponents (get_or ws k 0) in
        let t = term (get_or cs k (pos 0)) e in
        let so_far = slope_terms v (take k (terms ws cs)) in
        let more = ap (slope_terms v) (terms-next f.sum.held k h) ∙ slopes-take v (take k (terms ws cs)) t some in
        let long : length (lowered v e) ≡ variables = length-set e v _ ∙ exponents-length (get_or ws k 0) in
        record {
          stored = rw more
              (stored_next f.stored (slope_term v t) count p d f.many
              (omega (arith, f.fewer, f.words_room)) (omega (arith, f.fewer, f.coefficients_room, as_many f.sum.held))
              (word_is) coefficient-is);
          many = ap length more ∙ length-append so_far (slope_term v t ∷ []) ∙ ap (λ (n : ℕ). n + 1) f.many;
          fewer = omega (arith, f.fewer);
          sum = f.sum;
          light = f.light;
          inside = omega arith;
          words_room = f.words_room;
          coefficients_room = f.coefficients_room;
        }

  -- at the end the whole slope is stored
  module _ (h : length ws ≤ k) where
    whole : slope_terms v (take k (terms ws cs)) ≡ slope v (terms ws cs)
    whole =
        ap (slope_terms v) (take_all k (terms ws cs) (omega (arith, terms-many f.sum.held)))
        ∙ sym (slope-terms variables v (terms ws cs) f.sum.accepted.is_ordered)

    pub form-count : count ≡ length (slope v (terms ws cs))
    form-count = sym f.many ∙ ap length whole

    pub form-words : patterns ≡ written (words_of (slope v (terms ws cs))) ws₀
    form-words = rw whole at f.stored.words_are

    pub form-coefficients : coefficients ≡ written (coefficients_of (slope v (terms ws cs))) cs₀
    form-coefficients = rw whole at f.stored.coefficients_are

-- ---- The slope takes the places of the sum: what is not read yet stands there still.

module _ {v n : ℕ} {ws₀ : List ℕ} {cs₀ : List ℤ} {patterns : List ℕ} {coefficients : List ℤ} {count k : ℕ}
    (f : Sloping v (take n ws₀) (take n cs₀) ws₀ cs₀ patterns coefficients count k) (h : k < n) where
  abbrev so_far : Sum
  so_far = slope_terms v (take k (first_terms n ws₀ cs₀))

  pub word-here : get_or patterns k 0 ≡ get_or (take n ws₀) k 0
  word-here =
      ap (λ (l : List ℕ). get_or l k 0) f.stored.words_are
      ∙ getD-written (words_of so_far) ws₀ k 0 (omega (arith, length-map so_far (λ (u : Term). word u.pattern), f.many, f.fewer))
      ∙ sym (get_or-take n ws₀ k 0 h)

  pub coefficient-here : get_or coefficients k (pos 0) ≡ get_or (take n cs₀) k (pos 0)
  coefficient-here =
      ap (λ (l : List ℤ). get_or l k (pos 0)) f.stored.coefficients_are
      ∙ getD-written (coefficients_of so_far) cs₀ k (pos 0) (omega (arith, length-map so_far (λ (u : Term). u.coefficient), f.many, f.fewer))
      ∙ sym (get_or-take n cs₀ k (pos 0) h)
