-- A sum of one term: its product with another sum is a row, and its powers have one term again.
use mathlib.Core.Path.{◌≡◌, refl, sym, ◌∙◌, ap}
use mathlib.Core.Bool.{not}
use mathlib.Core.List.{List, [], ◌∷◌, append-nil}
use Prim.Native.Nat.{ℕ, zero, suc, ◌+◌, ◌*◌, ◌-◌, ◌^◌, ◌≤◌, ◌<◌}
use native.Mathlib.Omega.{arith}
use native.Mathlib.Nat.{suc-mul, max-le, mul-le-mul_left}
use native.Mathlib.Numerals.{add-one}
use lib.Dec.{T}
use lib.IntN.{ℤ, pos, one, nat_abs, ◌*ℤ◌, pow}
use lib.ListN.{length, get_or, set}
use mir.Syntax.{w64}
use mir.Val.{SFits}
use Rattle.algebra.specs.Limits.{variables, largest_weight}
use Rattle.algebra.specs.Pattern.{degree}
use Rattle.algebra.specs.Sum.{Term, term, Sum, is_zero, ahead, in_order, no_zero, weight}
use Rattle.algebra.specs.Collect.{gather, drop_zeros, collect}
use Rattle.algebra.specs.Arithmetic.{times_term, row, pairs, ◌⊗◌, product_spread, power, power_spread}
use Rattle.algebra.specs.Word.{word, exponents, word_of, field_size, terms_by, terms}
use Rattle.algebra.proofs.Numbers.Absolute.{abs-mul, abs-pow, times-some}
use lib.Ieee.Fits.{and_i}
use Rattle.algebra.proofs.Numbers.Whole.{one-*ℤ}
use Rattle.algebra.proofs.Patterns.Fields.{word-times, word-most}
use Rattle.algebra.proofs.Patterns.Laws.{times-length}
use Rattle.algebra.proofs.Patterns.Word.{exponents-length}
use Rattle.algebra.proofs.Sums.Every.{Every, Long}
use Rattle.algebra.proofs.Sums.Occurs.{spread-gather}
use Rattle.algebra.proofs.Sums.Ordered.{full-head, full-tail, row-order, gather-fixed, drop-fixed}
use Rattle.answers.proofs.Signed.{fits-abs}
use Rattle.sums.specs.Asked.{Room, Base}
use Rattle.sums.specs.Formed.{Formed.formed, power_of, formed_into}
use Rattle.sums.proofs.Forming.{within-yes}
use Rattle.sums.proofs.Holding.{as_many, degree-at, each-valid}
use Rattle.sums.proofs.MakeRow.{row-length}
use Rattle.sums.proofs.Raising.{heavier}
use Rattle.sums.proofs.Single.{one-term}

-- ---- The row of one term.

row-full : (u : Term) (t : Sum) → T (not (is_zero u.coefficient)) → T (no_zero t) → T (no_zero (row u t))
unfolding row no_zero
row-full u [] h f = tt
row-full u (v ∷ t) h f =
    and_i (not (is_zero (u.coefficient *ℤ v.coefficient))) (no_zero (row u t)) (times-some u.coefficient v.coefficient h (full-head v t f)) (row-full u t h (full-tail v t f))

module _ (u : Term) (t : Sum) (long : length u.pattern ≡ variables) (each : Every (Long variables) t) (k : T (in_order t)) where
  gathered : gather (pairs (u ∷ []) t) ≡ row u t
  unfolding pairs
  gathered = ap gather (append-nil (row u t)) ∙ gather-fixed (row u t) (row-order variables u t long each k)

  pub term-product : T (not (is_zero u.coefficient)) → T (no_zero t) → (u ∷ []) ⊗ t ≡ row u t
  unfolding ◌⊗◌ collect
  term-product h f = ap drop_zeros gathered ∙ drop-fixed (row u t) (row-full u t h f)

  pub term-spread : product_spread (u ∷ []) t ≡ length t
  unfolding product_spread
  term-spread = spread-gather (pairs (u ∷ []) t) ∙ ap length gathered ∙ row-length u t

-- ---- The powers of one term.

module _ (u : Term) (long : length u.pattern ≡ variables) (some : T (not (is_zero u.coefficient))) where
  -- the power of one exponent more
  unfoldable pub raised : ℕ → Term
  raised zero = u
  raised (suc k) = times_term (raised k) u

  raised_long : (k : ℕ) → length (raised k).pattern ≡ variables
  unfolding raised
  raised_long zero = long
  raised_long (suc k) = times-length variables (raised k).pattern u.pattern (raised_long k) long

  raised-some : (k : ℕ) → T (not (is_zero (raised k).coefficient))
  unfolding raised
  raised-some zero = some
  raised-some (suc k) = times-some (raised k).coefficient u.coefficient (raised-some k) some

  own-order : T (in_order (u ∷ []))
  unfolding in_order ahead
  own-order = tt

  own-full : T (no_zero (u ∷ []))
  unfolding no_zero
  own-full = and_i (not (is_zero u.coefficient)) (no_zero []) some tt

  pub power-term : (k : ℕ) → power variables (u ∷ []) (suc k) ≡ raised k ∷ []
  unfolding power row raised
  power-term zero = refl
  power-term (suc k) = ap (λ s. s ⊗ (u ∷ [])) (power-term k) ∙ term-product (raised k) (u ∷ []) (raised_long k) (long, tt) own-order (raised-some k) own-full

  pub power-narrow : (k : ℕ) → power_spread variables (u ∷ []) (suc k) ≤ 1
  unfolding power_spread
  power-narrow zero = omega arith
  power-narrow (suc k) =
      max-le (power-narrow k) (omega (arith, ap (λ s. product_spread s (u ∷ [])) (power-term k), term-spread (raised k) (u ∷ []) (raised_long k) (long, tt) own-order))

  coefficient-is : (k : ℕ) → (raised k).coefficient ≡ pow u.coefficient (suc k)
  unfolding pow one raised
  coefficient-is zero = sym (one-*ℤ u.coefficient)
  coefficient-is (suc k) = ap (λ z. z *ℤ u.coefficient) (coefficient-is k)

  word-raised : (k : ℕ) → word (raised k).pattern ≡ suc k * word u.pattern
  unfolding word raised
  word-raised zero = omega arith
  word-raised (suc k) =
      word-times field_size (raised k).pattern u.pattern (raised_long k ∙ sym long) ∙ ap (λ (n : ℕ). n + word_of field_size u.pattern) (word-raised k) ∙ sym (suc-mul (suc k) (word_of field_size u.pattern))

-- ---- A base of one term, held in two slices.

-- a word of a base, as often as the exponent says, is a machine word
pub word_small : {sp : List ℕ} {sc : List ℤ} {e : ℕ} → Base sp sc e → (i : ℕ) → i < length sp → e * get_or sp i 0 < 2 ^ 64
unfolding word
word_small {sp} {sc} {e} base i h =
    let w = get_or sp i 0 in
    let most = word-most field_size (omega arith) 7 (exponents w) (omega (arith, exponents-length w)) in
    let is : word_of field_size (exponents w) ≡ w = (each-valid base.held i h).is in
    let at_most : w ≤ degree (exponents w) * field_size ^ 7 = omega (arith, most, is) in
    let as-often = mul-le-mul_left e at_most in
    let low = mul-le-mul_left e (degree-at base.held i h) in
    omega (arith, as-often, low, base.low)

spelled : (ws : List ℕ) (cs : List ℤ) → length ws ≡ 1 → length cs ≡ 1 → terms ws cs ≡ term (get_or cs 0 (pos 0)) (exponents (get_or ws 0 0)) ∷ []
unfolding terms terms_by
spelled (w ∷ []) (c ∷ []) h k = refl
spelled [] cs h k = absurd (omega arith)
spelled (v ∷ w ∷ ws) cs h k = absurd (omega arith)
spelled (w ∷ []) [] h k = absurd (omega arith)
spelled (w ∷ []) (c ∷ d ∷ cs) h k = absurd (omega arith)

module _ {sp : List ℕ} {sc : List ℤ} {e : ℕ} (base : Base sp sc e) (single : length sp ≡ 1) where
  pub as_one : length sc ≡ 1
  as_one = sym (as_many base.held) ∙ single

  abbrev c : ℤ
  c = get_or sc 0 (pos 0)

  abbrev u : Term
  u = term c (exponents (get_or sp 0 0))

  sum_is : terms sp sc ≡ u ∷ []
  sum_is = spelled sp sc single as_one

  u-long : length u.pattern ≡ variables
  u-long = exponents-length (get_or sp 0 0)

  u-some : T (not (is_zero c))
  u-some = full-head u [] (rw sum_is at base.full)

  weight_is : weight (terms sp sc) ≡ nat_abs c
  unfolding weight
  weight_is = ap weight sum_is ∙ omega arith

  -- one factor more fits a word
  pub next_fits : (k : ℕ) → k < e → SFits w64 (pow c k *ℤ c)
  next_fits k more =
      let light : nat_abs (pow c k) * nat_abs c ≤ largest_weight =
      heavier (nat_abs c) (nat_abs (pow c k)) k e (omega (arith, abs-pow c k)) more (rw weight_is at base.light) in
      fits-abs (pow c k *ℤ c) (omega (arith, abs-mul (pow c k) c))

  pub first-power : c ≡ pow c 1
  unfolding pow one
  first-power = sym (one-*ℤ c)

  pub next_power : (k : ℕ) → pow c k *ℤ c ≡ pow c (k + 1)
  unfolding pow
  next_power k = ap (pow c) (sym (add-one k))

  pub answered : 1 ≤ e → (ws : List ℕ) (cs : List ℤ) → Room ws cs → {z : ℤ} → z ≡ pow c e → (formed 1, set ws 0 (e * get_or sp 0 0), set cs 0 z) ≡ formed_into (power_of (terms sp sc) e) ws cs
  unfolding power_of
  answered some ws cs room {z} is =
      let e-is : suc (e - 1) ≡ e = omega arith in
      let t : Term = raised u u-long u-some (e - 1) in
      let power_is : power variables (terms sp sc) e ≡ t ∷ [] =
      ap (λ s. power variables s e) sum_is ∙ ap (power variables (u ∷ [])) (sym e-is) ∙ power-term u u-long u-some (e - 1) in
      let narrow : power_spread variables (terms sp sc) e ≤ 1 = rw (sum_is, ← e-is) (power-narrow u u-long u-some (e - 1)) in
      let word_is : e * get_or sp 0 0 ≡ word t.pattern =
      sym (word-raised u u-long u-some (e - 1) ∙ ap (λ (n : ℕ). n * word (exponents (get_or sp 0 0))) e-is ∙ ap (λ (n : ℕ). e * n) (each-valid base.held 0 (omega (arith, single))).is) in
      let z-is : z ≡ t.coefficient = is ∙ ap (pow c) (sym e-is) ∙ sym (coefficient-is u u-long u-some (e - 1)) in
      one-term ws cs room.words room.coefficients t (raised_long u u-long u-some (e - 1)) (e * get_or sp 0 0) z word_is z-is
      ∙ ap (λ f. formed_into f ws cs) (sym (within-yes (power_spread variables (terms sp sc) e) (power variables (terms sp sc) e) (omega (arith, narrow)) ∙ ap formed power_is))

-- what the loop of `raise` keeps
pub record Raises (sp : List ℕ) (sc : List ℤ) (e : ℕ) (p : ℤ) (k : ℕ) : Type 0 where
  pub base : Base sp sc e
  pub single : length sp ≡ 1
  pub power_is : p ≡ pow (get_or sc 0 (pos 0)) k
  pub some : 1 ≤ k
  pub inside : k ≤ e
