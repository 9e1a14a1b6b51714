-- What the loops keep that form a term: what was multiplied so far, times the powers of the variables that are left, is the whole term; once at the
-- readings, and once raised.
use mathlib.Core.Path.{◌≡◌, refl, sym, ◌∙◌, ap, ap₂}
use mathlib.Core.List.{List, [], ◌∷◌}
use Prim.Native.Nat.{ℕ, ◌+◌, ◌*◌, ◌^◌, ◌≤◌, ◌<◌}
use native.Mathlib.Omega.{arith}
use native.Mathlib.Nat.{le_refl, le_trans, mul_assoc, mul-one}
use native.Mathlib.Numerals.{add-one}
use lib.IntN.{ℤ, pos, nat_abs, ◌*ℤ◌, pow}
use lib.ListN.{length, get_or, drop, drop_of_length-le}
use lib.Seq.{drop-cons}
use Rattle.algebra.specs.Limits.{variables}
use Rattle.algebra.specs.Pattern.{Pattern, exponent}
use Rattle.algebra.specs.Value.{pattern_value}
use Rattle.algebra.specs.Margin.{pattern_size}
use Rattle.algebra.proofs.Numbers.Whole.{*ℤ-assoc, *ℤ-oner}
use Rattle.estimates.specs.declared.factors.Both.{Both}
use Rattle.estimates.specs.Inside.Held.{Covers, Holds}
use Rattle.estimates.specs.Inside.Powers.{Multiplies, Rows, TimesAt, Uses}
use Rattle.estimates.proofs.Multiplying.{themselves, no-times}

-- m and n are the products so far, however large
pub record Forming (c : ℤ) (p : Pattern) (x : List ℤ) (y : List ℕ) (most : ℕ) (product : ℤ) (v : ℕ) : Type 0 where
  pub m : ℕ
  pub n : ℤ
  pub holds : Holds most product m n
  pub size_is : m * pattern_size (drop v p) (drop v y) ≡ nat_abs c * pattern_size p y
  pub value_is : n *ℤ pattern_value (drop v p) (drop v x) ≡ c *ℤ pattern_value p x
  pub inside : v ≤ variables

-- what multiplies for the patterns of all words does it for one of them
pub alone : {post post' : Both → ℕ → ℕ → Both → Type 0} {x : List ℤ} {y : List ℕ} {ws : List ℕ} {w : ℕ} → Multiplies post x y ws → (k : ℕ) → k < length ws → w ≡ get_or ws k 0
    → ((a result : Both) (v e : ℕ) → post' a v e result → post a v e result) → Multiplies post' x y (w ∷ [])
alone {w = w} m k h is by = record {
  readings_long = m.readings_long;
  raised_long = m.raised_long;
  times = λ a result j v e one inside some low answers.
      let first : j ≡ 0 = omega arith in
      m.times a result k v e h inside some (rw (first, is) at low) (by a result v e answers);
}

-- so does a table that has the powers up to a pattern that has all exponents
pub by_table : {post : Both → ℕ → ℕ → Both → Type 0} {x : List ℤ} {y : List ℕ} {ws : List ℕ} (used : Pattern) (rows : List (List Both)) → Covers x y → Rows x y used rows → Uses used ws
    → ((a result : Both) (v e : ℕ) → post a v e result → TimesAt a (get_or rows v []) e result) → Multiplies post x y ws
by_table used table covers rows uses at = record {
  readings_long = covers.readings_long;
  raised_long = covers.raised_long;
  times = λ a result k v e h inside some low answers.
      let power = rows v inside e some (le_trans low (uses k h v)) in
      λ m n holds. at a result v e answers a power.in_row m _ n _ holds (power.power a);
}

-- ---- The powers from variable v on.

-- the first of what is left
first-left : {A : Type 0} (l : List A) (v : ℕ) (d : A) → v < length l → drop v l ≡ get_or l v d ∷ drop (v + 1) l
first-left l v d h = rw add-one (drop-cons l v d h)

module _ (p : Pattern) (v : ℕ) (h : v < length p) where
  value-next : (x : List ℤ) → v < length x
      → pattern_value (drop v p) (drop v x) ≡ pow (get_or x v (pos 0)) (exponent v p) *ℤ pattern_value (drop (v + 1) p) (drop (v + 1) x)
  unfolding pattern_value
  value-next x k = ap₂ pattern_value (first-left p v 0 h) (first-left x v (pos 0) k)

  size-next : (y : List ℕ) → v < length y → pattern_size (drop v p) (drop v y) ≡ get_or y v 0 ^ exponent v p * pattern_size (drop (v + 1) p) (drop (v + 1) y)
  unfolding pattern_size
  size-next y k = ap₂ pattern_size (first-left p v 0 h) (first-left y v 0 k)

-- ---- The loop.

pub start : {c : ℤ} {p : Pattern} {x : List ℤ} {y : List ℕ} {a : ℕ} → a ≡ nat_abs c → Forming c p x y a c 0
start {c} a-is = record {
  m = nat_abs c;
  n = c;
  holds = rw a-is (themselves (le_refl (nat_abs c)));
  size_is = refl;
  value_is = refl;
  inside = omega arith;
}

module _ {c : ℤ} {p : Pattern} {x : List ℤ} {y : List ℕ} {most : ℕ} {product : ℤ} {v : ℕ} (f : Forming c p x y most product v) where
  module _ (long : length p ≡ variables) where
    module _ (x_long : length x ≡ variables) (y_long : length y ≡ variables) (h : v < variables) {e : ℕ} (e-is : e ≡ exponent v p) where
      abbrev r : ℤ
      r = get_or x v (pos 0)

      abbrev b : ℕ
      b = get_or y v 0

      -- the power of v is multiplied, however that is done
      pub again : {most' : ℕ} {product' : ℤ} → Holds most' product' (f.m * b ^ e) (f.n *ℤ pow r e) → Forming c p x y most' product' (v + 1)
      again holds =
          let value-left = pattern_value (drop (v + 1) p) (drop (v + 1) x) in
          let size-left = pattern_size (drop (v + 1) p) (drop (v + 1) y) in
          let here : v < length p = omega arith in
          record {
            m = f.m * b ^ e;
            n = f.n *ℤ pow r e;
            holds = holds;
            size_is =
                mul_assoc f.m (b ^ e) size-left ∙ ap (λ (i : ℕ). f.m * (b ^ i * size-left)) e-is
                ∙ ap (λ (i : ℕ). f.m * i) (sym (size-next p v here y (omega (arith, y_long)))) ∙ f.size_is;
            value_is =
                *ℤ-assoc f.n (pow r e) value-left ∙ ap (λ (i : ℕ). f.n *ℤ (pow r i *ℤ value-left)) e-is
                ∙ ap (λ z. f.n *ℤ z) (sym (value-next p v here x (omega (arith, x_long)))) ∙ f.value_is;
            inside = omega arith;
          }

      -- power 0: nothing is multiplied
      pub skipped : e ≡ 0 → Forming c p x y most product (v + 1)
      skipped none = again (rw none (no-times b r f.m f.n f.holds))

    pub ended : variables ≤ v → Holds most product (nat_abs c * pattern_size p y) (c *ℤ pattern_value p x)
    unfolding pattern_size pattern_value
    ended h =
        let all : length p ≤ v = omega arith in
        let over = drop_of_length-le p all in
        rw (
          sym f.size_is ∙ ap (λ q. f.m * pattern_size q (drop v y)) over ∙ mul-one f.m,
          sym f.value_is ∙ ap (λ q. f.n *ℤ pattern_value q (drop v x)) over ∙ *ℤ-oner f.n,
        ) f.holds
