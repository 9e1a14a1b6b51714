-- Words and ranks: there and back, ranks add up where words do, and they compare as numbers.
use mathlib.Core.Path.{◌≡◌, refl, sym, ◌∙◌, ap, ap₂, subst}
use mathlib.Core.List.{List, [], ◌∷◌, map}
use Prim.Native.Nat.{ℕ, zero, suc, ◌+◌, ◌*◌, ◌/◌, ◌%◌, ◌^◌, ◌≤◌, ◌<◌, compare, Ordering}
use native.Mathlib.Omega.{arith}
use native.Mathlib.Decide.{dec_lt}
use lib.Arith.{digits_lt}
use lib.Pow.{shr_lt, split, high, low}
use lib.ListN.{get_or, set}
use Rattle.algebra.specs.Limits.{largest_degree}
use Rattle.algebra.specs.Pattern.{degree, times, then_by, order}
use Rattle.algebra.specs.Word.{word, exponents, Valid, EachValid}
use Rattle.algebra.specs.Inside.Rank.{rank_of, word_at, words_at}
use Rattle.algebra.proofs.Numbers.Compare.{Says, compare-says, compare-is}
use Rattle.algebra.proofs.Patterns.Word.{valid-degree, valid-most, quotient-small, word-product, product-valid, word-order}

-- ---- One word.

pub word-at-zero : word_at 0 ≡ 0
unfolding word_at
word-at-zero = omega arith

-- of the degree d and the quotient q
word-parts : (d q : ℕ) → q < 2 ^ 56 → word_at (d * 2 ^ 56 + q) ≡ 255 * q + d
unfolding word_at
word-parts d q small = ap₂ (λ (l h : ℕ). 255 * l + h) (low d 56 small) (high d 56 small)

pub word-at-rank : (w : ℕ) → Valid w → word_at (rank_of w) ≡ w
unfolding rank_of
word-at-rank w valid = word-parts (degree (exponents w)) (w / 255) (quotient-small w valid) ∙ divided (valid-degree w valid)
  where
    divided : {d : ℕ} → w % 255 ≡ d → 255 * (w / 255) + d ≡ w
    divided e = omega arith

-- the highest byte is not 255: the word would have the remainder 0, and so be 0
below-255 : (q h w d : ℕ) → w ≡ 255 * q + h → h < 256 → w % 255 ≡ d → (d ≡ 0 → w ≡ 0) → h < 255
below-255 q h w d is small rest none = go (dec_lt h 255)
  where
    go : Dec (h < 255) → h < 255
    go (yes less) = less
    go (no more) = let zero : d ≡ 0 = omega arith in absurd (omega (arith, none zero))

parts-back : (q h w d : ℕ) → w ≡ 255 * q + h → h < 255 → w % 255 ≡ d → (d ≡ h) × (w / 255 ≡ q)
parts-back q h w d is small rest = (omega arith, omega arith)

-- a number of 64 bits whose word is valid is the rank of that word
pub rank-of-word : (k : ℕ) → k < 2 ^ 64 → Valid (word_at k) → rank_of (word_at k) ≡ k
rank-of-word k small valid =
    let w = word_at k in
    let d = degree (exponents w) in
    let q = k % 2 ^ 56 in
    let h = k / 2 ^ 56 in
    let is : w ≡ 255 * q + h = unfold word_at in refl in
    let less = below-255 q h w d is (shr_lt 8 56 small) (valid-degree w valid) (nothing w d (valid-most w valid)) in
    let back = parts-back q h w d is less (valid-degree w valid) in
    let rank : rank_of w ≡ d * 2 ^ 56 + w / 255 = unfold rank_of in refl in
    rank ∙ ap₂ (λ (i j : ℕ). i * 2 ^ 56 + j) back.0 back.1 ∙ split k 56
  where
    nothing : (w d : ℕ) → w ≤ d * 2 ^ 56 → d ≡ 0 → w ≡ 0
    nothing w d most e = omega (arith, ap (λ (i : ℕ). i * 2 ^ 56) e)

-- ---- The order.

module _ (v w : ℕ) (a : Valid v) (b : Valid w) where
  abbrev m : ℕ
  m = rank_of v

  abbrev n : ℕ
  n = rank_of w

  first : rank_of v ≡ degree (exponents v) * 2 ^ 56 + v / 255
  unfolding rank_of
  first = refl

  second : rank_of w ≡ degree (exponents w) * 2 ^ 56 + w / 255
  unfolding rank_of
  second = refl

  -- at equal degrees the words stand to each other as the ranks do
  words : (o : Ordering) → degree (exponents w) ≡ degree (exponents v) → Says o n m → Says o w v
  words Ordering.lt e x = omega (arith, first, second, e, valid-degree v a, valid-degree w b)
  words Ordering.eq e x = omega (arith, first, second, e, valid-degree v a, valid-degree w b)
  words Ordering.gt e x = omega (arith, first, second, e, valid-degree v a, valid-degree w b)

  by-degree : (d o : Ordering) → Says d (degree (exponents w)) (degree (exponents v)) → Says o n m → then_by d (compare w v) ≡ o
  unfolding then_by
  by-degree Ordering.lt o y x = sym (compare-is Ordering.lt n m (omega (arith, first, second, y, quotient-small w b))) ∙ compare-is o n m x
  by-degree Ordering.eq o y x = compare-is o w v (words o y x)
  by-degree Ordering.gt o y x = sym (compare-is Ordering.gt n m (omega (arith, first, second, y, quotient-small v a))) ∙ compare-is o n m x

  -- the larger rank stands first
  pub rank-order : (o : Ordering) → Says o (rank_of w) (rank_of v) → o ≡ order (exponents v) (exponents w)
  rank-order o x =
      sym (by-degree (compare (degree (exponents w)) (degree (exponents v))) o (compare-says (degree (exponents w)) (degree (exponents v))) x)
      ∙ sym (word-order v w a b)

-- ---- Two numbers of 64 bits that are ranks.

quotients : (v w : ℕ) {c d : ℕ} → v % 255 ≡ c → w % 255 ≡ d → c + d ≤ largest_degree → v / 255 + w / 255 ≡ (v + w) / 255
quotients v w e f h = omega arith

together : (v w : ℕ) {c d : ℕ} → v % 255 ≡ c → w % 255 ≡ d → 255 * (v / 255 + w / 255) + (c + d) ≡ v + w
together v w e f = omega arith

regrouped : (M a b c d : ℕ) → a * M + c + (b * M + d) ≡ (a + b) * M + (c + d)
regrouped M a b c d = omega arith

module _ (j k : ℕ) (first : j < 2 ^ 64) (second : k < 2 ^ 64) (a : Valid (word_at j)) (b : Valid (word_at k)) where
  pub ranks-order : (o : Ordering) → Says o k j → o ≡ order (exponents (word_at j)) (exponents (word_at k))
  ranks-order o x =
      rank-order (word_at j) (word_at k) a b o
      (subst (λ (n : ℕ). Says o n (rank_of (word_at j))) (sym (rank-of-word k second b)) (subst (Says o k) (sym (rank-of-word j first a)) x))

  module _ (few : degree (exponents (word_at j)) + degree (exponents (word_at k)) ≤ largest_degree) where
    -- the degrees add up, and the quotients
    abbrev both : ℕ
    both = degree (exponents (word_at j)) + degree (exponents (word_at k))

    quotient : word_at j / 255 + word_at k / 255 ≡ (word_at j + word_at k) / 255
    quotient = quotients (word_at j) (word_at k) (valid-degree (word_at j) a) (valid-degree (word_at k) b) few

    quotient_fits : word_at j / 255 + word_at k / 255 < 2 ^ 56
    quotient_fits =
        rw (quotient, ← word-product (word_at j) (word_at k) a b)
        (quotient-small (word (times (exponents (word_at j)) (exponents (word_at k)))) (product-valid (word_at j) (word_at k) a b few))

    sum_is : j + k ≡ both * 2 ^ 56 + (word_at j / 255 + word_at k / 255)
    unfolding rank_of
    sum_is =
        ap₂ ◌+◌ (sym (rank-of-word j first a)) (sym (rank-of-word k second b))
        ∙ regrouped (2 ^ 56) (degree (exponents (word_at j))) (degree (exponents (word_at k))) (word_at j / 255) (word_at k / 255)

    pub ranks-fit : j + k < 2 ^ 64
    ranks-fit = rw sum_is (digits_lt {q = both} {m = 256} (omega (arith, few)) quotient_fits)

    -- the ranks' sum is the rank of the product
    pub rank-product : word_at (j + k) ≡ word (times (exponents (word_at j)) (exponents (word_at k)))
    rank-product =
        ap word_at sum_is ∙ word-parts both (word_at j / 255 + word_at k / 255) quotient_fits
        ∙ together (word_at j) (word_at k) (valid-degree (word_at j) a) (valid-degree (word_at k) b)
        ∙ sym (word-product (word_at j) (word_at k) a b)

-- ---- Lists of ranks.

pub words-at : (ks : List ℕ) (i : ℕ) → get_or (words_at ks) i 0 ≡ word_at (get_or ks i 0)
words-at [] i = sym word-at-zero
words-at (k ∷ ks) zero = refl
words-at (k ∷ ks) (suc i) = words-at ks i

pub words-set : (ks : List ℕ) (i k : ℕ) → words_at (set ks i k) ≡ set (words_at ks) i (word_at k)
words-set [] i k = refl
words-set (x ∷ ks) zero k = refl
words-set (x ∷ ks) (suc i) k = ap (λ l. word_at x ∷ l) (words-set ks i k)

-- the words of the ranks of valid words are these
pub words-again : (ws : List ℕ) → EachValid ws → words_at (map rank_of ws) ≡ ws
words-again [] each = refl
words-again (w ∷ ws) each = ap₂ ◌∷◌ (word-at-rank w (each 0 (omega arith))) (words-again ws (λ k h. each (suc k) (omega arith)))
