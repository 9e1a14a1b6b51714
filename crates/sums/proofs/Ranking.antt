-- Areas that hold ranks. What the loop of `merge` keeps of them is `Moving` of their words.
use mathlib.Core.Path.{◌≡◌, refl, sym, ◌∙◌, ap, ap₂, subst}
use mathlib.Core.List.{List, [], ◌∷◌, ◌++◌, map, map-append}
use Prim.Native.Nat.{Ordering}
use Prim.Native.Nat.{ℕ, zero, suc, ◌+◌, ◌-◌, ◌^◌, ◌≤◌, ◌<◌}
use native.Mathlib.Omega.{arith}
use lib.IntN.{ℤ, pos, ◌+ℤ◌, ◌*ℤ◌}
use lib.ListN.{length, get_or, take, drop, set, length-map}
use mir.Syntax.{w64}
use mir.Val.{SFits}
use Rattle.algebra.specs.Limits.{largest_degree}
use Rattle.algebra.specs.Pattern.{times, degree}
use Rattle.algebra.specs.Word.{word, exponents, Valid, EachValid}
use Rattle.algebra.specs.Inside.Rank.{rank_of, word_at, words_at}
use Rattle.algebra.proofs.Patterns.Rank.{rank-of-word, ranks-fit, rank-product, words-at, words-set, words-again}
use Rattle.answers.specs.Areas.{written}
use Rattle.answers.proofs.Writes.{written-front}
use Rattle.sums.specs.Held.{Held}
use Rattle.sums.specs.Rows.{CanMerge, joined, closed, Gapped}
use Rattle.sums.proofs.Holding.{map-take, map-drop, each-valid}
use Rattle.sums.proofs.Standing.{last_stands}
use Rattle.sums.proofs.Moving as moving
use Rattle.sums.proofs.Moving.{Moving}

-- ---- Lists of ranks.

-- the ranks of valid words, in the first places of an area
pub ranked-words : (ws ks₀ : List ℕ) {ks : List ℕ} {count : ℕ} → EachValid ws → ks ≡ written (map rank_of ws) ks₀ → length ws ≡ count → words_at (take count ks) ≡ ws
ranked-words ws ks₀ each is many = ap words_at (written-front (map rank_of ws) ks₀ is (length-map ws rank_of ∙ many)).0 ∙ words-again ws each

-- those of terms that are held
pub ranked-held : {ws : List ℕ} {cs : List ℤ} → Held ws cs → (ks₀ : List ℕ) {ks : List ℕ} → ks ≡ written (map rank_of ws) ks₀ → words_at (take (length ws) ks) ≡ ws
ranked-held {ws} held ks₀ is = ranked-words ws ks₀ (each-valid held) is refl

-- numbers of 64 bits whose words are valid are the ranks of these
pub front-ranks : (n : ℕ) (ks : List ℕ) → ((i : ℕ) → get_or ks i 0 < 2 ^ 64) → EachValid (take n (words_at ks)) → take n ks ≡ map rank_of (take n (words_at ks))
front-ranks zero ks small each = refl
front-ranks (suc n) [] small each = refl
front-ranks (suc n) (k ∷ ks) small each =
    ap₂ ◌∷◌ (sym (rank-of-word k (small 0) (each 0 (omega arith)))) (front-ranks n ks (λ i. small (suc i)) (λ i h. each (suc i) (omega arith)))

-- a gap is closed among the words where it is among the ranks
pub words-closed : (from to end : ℕ) (ks : List ℕ) (n : ℕ) (ks' : List ℕ) → take n ks' ≡ closed from to end ks → take n (words_at ks') ≡ closed from to end (words_at ks)
words-closed from to end ks n ks' e =
    sym (map-take word_at n ks') ∙ ap words_at e ∙ map-append word_at (take from ks) (take (end - to) (drop to ks))
    ∙ ap₂ ◌++◌ (map-take word_at from ks) (map-take word_at (end - to) (drop to ks) ∙ ap (take (end - to)) (map-drop word_at to ks))

-- ---- The loop of `merge`.

pub record Ranking (ks₀ : List ℕ) (cs₀ : List ℤ) (n r : ℕ) (c : ℤ) (tr : List ℕ) (tc : List ℤ) (ks : List ℕ) (cs : List ℤ) (i j k : ℕ) : Type 0 where
  pub words : Moving (words_at ks₀) cs₀ n (word_at r) c (words_at tr) tc (words_at ks) cs i j k
  -- as many words as ranks
  pub first_many : length (words_at ks₀) ≡ length ks₀
  pub many : length (words_at ks) ≡ length ks
  pub row_many : length (words_at tr) ≡ length tr

module _ {ks₀ : List ℕ} {cs₀ : List ℤ} {n r : ℕ} {c : ℤ} {tr : List ℕ} {tc : List ℤ} where
  ranking : {ks : List ℕ} {cs : List ℤ} {i j k : ℕ} → Moving (words_at ks₀) cs₀ n (word_at r) c (words_at tr) tc (words_at ks) cs i j k → Ranking ks₀ cs₀ n r c tr tc ks cs i j k
  ranking {ks} m = record { words = m; first_many = length-map ks₀ word_at; many = length-map ks word_at; row_many = length-map tr word_at }

  pub start : CanMerge (words_at ks₀) cs₀ n (word_at r) c (words_at tr) tc → Ranking ks₀ cs₀ n r c tr tc ks₀ cs₀ n (length tr) (n + length tr)
  start g =
      ranking (subst (λ (m : ℕ). Moving (words_at ks₀) cs₀ n (word_at r) c (words_at tr) tc (words_at ks₀) cs₀ n m (n + m)) (length-map tr word_at) (moving.start g))

module _ {ks₀ : List ℕ} {cs₀ : List ℤ} {n r : ℕ} {c : ℤ} {tr : List ℕ} {tc : List ℤ} {ks : List ℕ} {cs : List ℤ} {i j k : ℕ} (v : Ranking ks₀ cs₀ n r c tr tc ks cs i j k) where
  pub ended : j ≤ 0 → Gapped (joined c (word_at r) (words_at tr) tc n (words_at ks₀) cs₀) (words_at ks) cs i k (n + length tr)
  ended h =
      subst (λ (m : ℕ). Gapped (joined c (word_at r) (words_at tr) tc n (words_at ks₀) cs₀) (words_at ks) cs i k (n + m)) v.row_many (moving.ended v.words h)

  -- one rank more was written
  put : {w : ℕ} {cs' : List ℤ} {i' j' : ℕ} → Moving (words_at ks₀) cs₀ n (word_at r) c (words_at tr) tc (set (words_at ks) (k - 1) w) cs' i' j' (k - 1) → (x : ℕ) → word_at x ≡ w
      → Ranking ks₀ cs₀ n r c tr tc (set ks (k - 1) x) cs' i' j' (k - 1)
  put {cs' = cs'} {i'} {j'} m x is =
      ranking
      (subst (λ (ws : List ℕ). Moving (words_at ks₀) cs₀ n (word_at r) c (words_at tr) tc ws cs' i' j' (k - 1))
      (sym (words-set ks (k - 1) x ∙ ap (set (words_at ks) (k - 1)) is)) m)

  -- the row's next rank
  module _ (more : 0 < j) (small : r < 2 ^ 64) (factor-small : get_or tr (j - 1) 0 < 2 ^ 64) where
    abbrev f : ℕ
    f = get_or tr (j - 1) 0

    factor-is : get_or (words_at tr) (j - 1) 0 ≡ word_at f
    factor-is = words-at tr (j - 1)

    factor-valid : Valid (word_at f)
    factor-valid = subst Valid factor-is (moving.factor-valid v.words more)

    low : degree (exponents (word_at r)) + degree (exponents (word_at f)) ≤ largest_degree
    low = subst (λ (w : ℕ). degree (exponents (word_at r)) + degree (exponents w) ≤ largest_degree) factor-is (moving.factor-low v.words more)

    pub next_fits : r + get_or tr (j - 1) 0 < 2 ^ 64
    next_fits = ranks-fit r f small factor-small v.words.can.valid factor-valid low

    -- it is that of the product
    pub next_is : word_at (r + get_or tr (j - 1) 0) ≡ word (times (exponents (word_at r)) (exponents (get_or (words_at tr) (j - 1) 0)))
    next_is =
        rank-product r f small factor-small v.words.can.valid factor-valid low ∙ ap (λ (w : ℕ). word (times (exponents (word_at r)) (exponents w))) (sym factor-is)

    pub next-valid : Valid (word_at (r + get_or tr (j - 1) 0))
    next-valid = moving.next-valid v.words more next_is

    pub new : last_stands i (exponents (get_or (words_at ks) (i - 1) 0)) (exponents (word_at (r + get_or tr (j - 1) 0))) ≡ Ordering.lt → {z : ℤ} → z ≡ c *ℤ get_or tc (j - 1) (pos 0)
        → Ranking ks₀ cs₀ n r c tr tc (set ks (k - 1) (r + get_or tr (j - 1) 0)) (set cs (k - 1) z) i (j - 1) (k - 1)
    new e is = put (moving.new v.words more next_is e is) (r + f) refl

    module _ (some : 0 < i) where
      pub sum_fits : SFits w64 (c *ℤ get_or tc (j - 1) (pos 0) +ℤ get_or cs (i - 1) (pos 0))
      sum_fits = moving.sum_fits v.words more next_is some

      pub known : last_stands i (exponents (get_or (words_at ks) (i - 1) 0)) (exponents (word_at (r + get_or tr (j - 1) 0))) ≡ Ordering.eq → {z : ℤ} → z ≡ c *ℤ get_or tc (j - 1) (pos 0) +ℤ get_or cs (i - 1) (pos 0)
          → Ranking ks₀ cs₀ n r c tr tc (set ks (k - 1) (r + get_or tr (j - 1) 0)) (set cs (k - 1) z) (i - 1) (j - 1) (k - 1)
      known e is = put (moving.known v.words more next_is some e is) (r + f) refl

      pub passed : last_stands i (exponents (get_or (words_at ks) (i - 1) 0)) (exponents (word_at (r + get_or tr (j - 1) 0))) ≡ Ordering.gt → {z : ℤ} → z ≡ get_or cs (i - 1) (pos 0)
          → Ranking ks₀ cs₀ n r c tr tc (set ks (k - 1) (get_or ks (i - 1) 0)) (set cs (k - 1) z) (i - 1) j (k - 1)
      passed e is = put (moving.passed v.words more next_is some e is) (get_or ks (i - 1) 0) (sym (words-at ks (i - 1)))
