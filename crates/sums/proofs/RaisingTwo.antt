-- What the loop of `raise` keeps: the coefficients of the k-th power of two terms stand in the first places; and what it answers.
use mathlib.Core.Path.{◌≡◌, refl, sym, ◌∙◌, ap, ap₂}
use mathlib.Core.List.{List, [], ◌∷◌}
use Prim.Native.Nat.{ℕ, ◌+◌, ◌*◌, ◌^◌, ◌≤◌, ◌<◌}
use native.Mathlib.Omega.{arith}
use native.Mathlib.Nat.{pow-le-pow_left, pow-le-pow_right}
use lib.Dec.{T, ltb, ltb→lt, nltb→le}
use mathlib.Core.Bool.{Bool, true, false, not}
use lib.IntN.{ℤ, pos, nat_abs}
use lib.ListN.{length, get_or, take, set, length-map}
use Rattle.algebra.specs.Limits.{variables, most_terms, largest_weight}
use Rattle.algebra.specs.Sum.{Term, term, Sum, ordered, weight}
use Rattle.algebra.specs.Arithmetic.{power, power_spread}
use Rattle.algebra.specs.Word.{word, exponents, terms_by, terms}
use Rattle.algebra.specs.Held.{words_of, coefficients_of}
use Rattle.algebra.proofs.Sums.Held.{terms-long}
use Rattle.algebra.proofs.Sums.Ordered.{whole}
use Rattle.algebra.proofs.Sums.Results.{power-weight}
use Rattle.answers.specs.Areas.{written}
use Rattle.answers.proofs.Writes.{written-front, written_over}
use Rattle.sums.specs.Asked.{Base}
use Rattle.sums.specs.Binomial.{stepped, sizes, mixed}
use Rattle.sums.specs.Formed.{Formed.formed, power_of, formed_into}
use Rattle.sums.proofs.Holding.{as_many, each-valid}
use Rattle.sums.proofs.Forming.{within-yes}
use Rattle.sums.proofs.Raising.{heavier}
use Rattle.sums.proofs.TwoTerms.{two-coefficients, two-words, two-spread, two-length, some-x, some-y}

sizes-weight : (s : Sum) → sizes (coefficients_of s) ≡ weight s
unfolding sizes weight
sizes-weight [] = refl
sizes-weight (t ∷ s) = ap (λ (n : ℕ). nat_abs t.coefficient + n) (sizes-weight s)

-- an exponent above 62 makes any sum of two terms too heavy
few-powers : (w e : ℕ) → 2 ≤ w → w ^ e ≤ largest_weight → e ≤ 62
few-powers w e h light = go (ltb 62 e) (ltb→lt 62 e) (nltb→le 62 e)
  where
    go : (b : Bool) → (T b → 62 < e) → (T (not b) → e ≤ 62) → e ≤ 62
    go true f g =
        let least : 2 ^ 63 ≤ 2 ^ e = pow-le-pow_right (omega arith) (f tt) in
        let most : 2 ^ e ≤ w ^ e = pow-le-pow_left h e in
        absurd (omega (arith, least, most))
    go false f g = g tt

both-set : (values area : List ℤ) → length values ≡ 2 → 2 ≤ length area → set (set area 0 (get_or values 0 (pos 0))) 1 (get_or values 1 (pos 0)) ≡ written values area
both-set (c ∷ d ∷ []) (a ∷ b ∷ area) h k = refl
both-set [] area h k = absurd (omega arith)
both-set (c ∷ []) area h k = absurd (omega arith)
both-set (c ∷ d ∷ b ∷ values) area h k = absurd (omega arith)
both-set (c ∷ d ∷ []) [] h k = absurd (omega arith)
both-set (c ∷ d ∷ []) (a ∷ []) h k = absurd (omega arith)

spelled : (ws : List ℕ) (cs : List ℤ) → length ws ≡ 2 → length cs ≡ 2
    → terms ws cs ≡ term (get_or cs 0 (pos 0)) (exponents (get_or ws 0 0)) ∷ term (get_or cs 1 (pos 0)) (exponents (get_or ws 1 0)) ∷ []
unfolding terms terms_by
spelled (v ∷ w ∷ []) (c ∷ d ∷ []) h k = refl
spelled [] cs h k = absurd (omega arith)
spelled (v ∷ []) cs h k = absurd (omega arith)
spelled (v ∷ w ∷ u ∷ ws) cs h k = absurd (omega arith)
spelled (v ∷ w ∷ []) [] h k = absurd (omega arith)
spelled (v ∷ w ∷ []) (c ∷ []) h k = absurd (omega arith)
spelled (v ∷ w ∷ []) (c ∷ d ∷ b ∷ cs) h k = absurd (omega arith)

module _ {sp : List ℕ} {sc : List ℤ} {e : ℕ} (base : Base sp sc e) (two : length sp ≡ 2) where
  abbrev s : Sum
  s = terms sp sc

  abbrev x : Term
  x = term (get_or sc 0 (pos 0)) (exponents (get_or sp 0 0))

  abbrev y : Term
  y = term (get_or sc 1 (pos 0)) (exponents (get_or sp 1 0))

  pub as-two : length sc ≡ 2
  as-two = sym (as_many base.held) ∙ two

  sum_is : s ≡ x ∷ y ∷ []
  sum_is = spelled sp sc two as-two

  two-ordered : T (ordered variables (x ∷ y ∷ []))
  two-ordered = rw sum_is at (whole variables s (record { strict = base.held.strict; full = base.full; long = terms-long sp sc }))

  weight_is : weight s ≡ nat_abs (get_or sc 0 (pos 0)) + nat_abs (get_or sc 1 (pos 0))
  unfolding weight
  weight_is = ap weight sum_is ∙ omega arith

  pub few : e ≤ 62
  few = few-powers (weight s) e (omega (arith, weight_is, some-x x y two-ordered, some-y x y two-ordered)) base.light

  -- ---- The coefficients of a power stand in the first places.

  pub record Raised (cs₀ cs : List ℤ) (k : ℕ) : Type 0 where
    pub so_far : cs ≡ written (coefficients_of (power variables s k)) cs₀
    pub same : length cs ≡ length cs₀
    pub some : 1 ≤ k
    pub inside : k ≤ e
    pub room : most_terms ≤ length cs₀

  many : (k : ℕ) → 1 ≤ k → length (coefficients_of (power variables s k)) ≡ k + 1
  many k h = length-map (power variables s k) (λ (t : Term). t.coefficient) ∙ rw sum_is (two-length x y two-ordered k h)

  pub begun : (cs : List ℤ) → most_terms ≤ length cs → {c d : ℤ} → c ≡ get_or sc 0 (pos 0) → d ≡ get_or sc 1 (pos 0) → set (set cs 0 c) 1 d ≡ written sc cs
  begun cs room first second = ap₂ (λ (c d : ℤ). set (set cs 0 c) 1 d) first second ∙ both-set sc cs as-two (omega arith)

  -- the first power is the sum itself
  pub start : (area : List ℤ) {cs : List ℤ} → 1 ≤ e → most_terms ≤ length cs → cs ≡ written sc area → Raised cs cs 1
  unfolding power
  start area {cs} some room is = record {
    so_far = is ∙ sym (written_over sc sc area (omega arith)) ∙ ap₂ written base.held.coefficients_are (sym is);
    same = refl;
    some = omega arith;
    inside = some;
    room = room;
  }

  module _ {cs₀ cs : List ℤ} {k : ℕ} (r : Raised cs₀ cs k) where
    front : take (k + 1) cs ≡ coefficients_of (power variables s k)
    front = (written-front (coefficients_of (power variables s k)) cs₀ r.so_far (many k r.some)).0

    pub step_room : k < e → k + 1 < length cs
    step_room more = omega (arith, few, r.room, r.same)

    pub step-light : k < e → sizes (take (k + 1) cs) * (nat_abs (get_or sc 0 (pos 0)) + nat_abs (get_or sc 1 (pos 0))) ≤ largest_weight
    step-light more =
        rw (front, sizes-weight (power variables s k), ← weight_is) (heavier (weight s) (weight (power variables s k)) k e (power-weight variables s k) more base.light)

    pub again : k < e → {cs' : List ℤ} → cs' ≡ written (stepped (get_or sc 0 (pos 0)) (get_or sc 1 (pos 0)) (pos 0) (take (k + 1) cs)) cs → length cs' ≡ length cs → Raised cs₀ cs' (k + 1)
    again more {cs'} is same =
        let next : stepped (get_or sc 0 (pos 0)) (get_or sc 1 (pos 0)) (pos 0) (take (k + 1) cs) ≡ coefficients_of (power variables s (k + 1)) =
        ap (stepped (get_or sc 0 (pos 0)) (get_or sc 1 (pos 0)) (pos 0)) front ∙ sym (rw sum_is (two-coefficients x y two-ordered k r.some))
        in
        record {
          so_far =
              is ∙ ap₂ written next r.so_far
              ∙ written_over (coefficients_of (power variables s (k + 1))) (coefficients_of (power variables s k)) cs₀ (omega (arith, many k r.some, many (k + 1) (omega arith)));
          same = same ∙ r.same;
          some = omega arith;
          inside = omega arith;
          room = r.room;
        }

  -- ---- The words.

  word_is : (i : ℕ) → i < length sp → word (exponents (get_or sp i 0)) ≡ get_or sp i 0
  word_is i h = (each-valid base.held i h).is

  pub answered : {cs₀ cs : List ℤ} {k : ℕ} → Raised cs₀ cs k → e ≤ k → (ds : List ℕ) (area : List ℤ) {ps : List ℕ} → ps ≡ written (mixed (get_or sp 0 0) (get_or sp 1 0) e 0) ds
      → cs₀ ≡ written sc area → (formed (e + 1), ps, cs) ≡ formed_into (power_of s e) ds area
  unfolding power_of formed_into
  answered {cs₀} {cs} {k} r h ds area {ps} words first =
      let at-end : k ≡ e = omega (arith, r.inside) in
      let some : 1 ≤ e = omega (arith, r.some) in
      let all = power variables s e in
      let long : length (coefficients_of all) ≡ e + 1 = many e some in
      let narrow : power_spread variables s e ≤ e + 1 = rw sum_is (two-spread x y two-ordered e some) in
      let words_are : words_of all ≡ mixed (get_or sp 0 0) (get_or sp 1 0) e 0 =
      rw sum_is (two-words x y two-ordered e some) ∙ ap₂ (λ (p q : ℕ). mixed p q e 0) (word_is 0 (omega (arith, two))) (word_is 1 (omega (arith, two)))
      in
      let coefficients_are : cs ≡ written (coefficients_of all) area =
      r.so_far ∙ ap₂ (λ (i : ℕ) (l : List ℤ). written (coefficients_of (power variables s i)) l) at-end first
      ∙ written_over (coefficients_of all) sc area (omega (arith, long, as-two))
      in
      rw (within-yes (power_spread variables s e) all (omega (arith, narrow, few)), words, coefficients_are, words_are)
      (ap (λ (n : ℕ). (formed n, written (mixed (get_or sp 0 0) (get_or sp 1 0) e 0) ds, written (coefficients_of all) area)) (sym (sym (length-map all (λ (t : Term). t.coefficient)) ∙ long)))

pub record Runs (sp : List ℕ) (sc : List ℤ) (e : ℕ) (cs₀ cs : List ℤ) (k : ℕ) : Type 0 where
  pub base : Base sp sc e
  pub two : length sp ≡ 2
  pub raised : Raised base two cs₀ cs k
