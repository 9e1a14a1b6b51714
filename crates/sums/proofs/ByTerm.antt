-- A product by one term: its row, without what is 0. What the loop of `multiply_by_term` keeps is `Finishing` of that row.
use mathlib.Core.Path.{◌≡◌, sym, ◌∙◌, ap}
use mathlib.Core.Bool.{true, false}
use mathlib.Core.List.{List, [], ◌∷◌, append-nil}
use Prim.Native.Nat.{ℕ, ◌+◌, ◌≤◌, ◌<◌}
use native.Mathlib.Omega.{arith}
use native.Mathlib.Nat.{mul-le-mul_right}
use lib.IntN.{ℤ, pos, ◌*ℤ◌}
use lib.ListN.{length, get_or, set, length-map}
use lib.Seq.{take_all}
use mir.Syntax.{w64}
use mir.Val.{SFits}
use Rattle.algebra.specs.Limits.{largest_degree, most_terms}
use Rattle.algebra.specs.Pattern.{times, degree}
use Rattle.algebra.specs.Sum.{Term, term, Sum, is_zero, weight}
use Rattle.algebra.specs.Collect.{gather, drop_zeros, collect, spread}
use Rattle.algebra.specs.Arithmetic.{row, pairs, ◌⊗◌, product_spread}
use Rattle.algebra.specs.Word.{word, exponents, terms, Valid}
use Rattle.algebra.specs.Held.{words_of, coefficients_of}
use Rattle.algebra.proofs.Patterns.Word.{exponents-length}
use Rattle.algebra.proofs.Sums.Ordered.{gather-fixed}
use Rattle.algebra.proofs.Sums.Occurs.{spread-gather}
use Rattle.sums.specs.Asked.{RoomOf, Factors}
use Rattle.sums.specs.Formed.{Formed.formed, within, product_of, formed_into}
use Rattle.sums.specs.Rows.{HasTerm}
use Rattle.sums.proofs.Holding.{map_at, as_many, terms-many, terms-next, degree-at, size-at, each-valid, Holdable, spells, holds, holdable}
use Rattle.sums.proofs.Forming.{within-yes}
use Rattle.sums.proofs.MakeRow.{row-length, row-term, low-enough, product-fits}
use Rattle.sums.proofs.Multiplying.{row-held}
use Rattle.sums.proofs.Merging.{none}
use Rattle.sums.proofs.Finishing as finishing
use Rattle.sums.proofs.Finishing.{Finishing}

abbrev row_of : ℕ → ℤ → List ℕ → List ℤ → Sum
row_of w c tp tc = row (term c (exponents w)) (terms tp tc)

module _ {w : ℕ} {c : ℤ} {tp : List ℕ} {tc : List ℤ} (g : HasTerm w c tp tc) where
  row-holdable : Holdable (row_of w c tp tc)
  row-holdable = row-held (term c (exponents w)) (exponents-length w) (holdable g.factor) g.low

  row_many : length (words_of (row_of w c tp tc)) ≡ length tp
  row_many = length-map (row_of w c tp tc) _ ∙ row-length (term c (exponents w)) (terms tp tc) ∙ terms-many g.factor

  -- one term of it
  module _ (k : ℕ) (h : k < length tp) where
    abbrev next : List ℕ
    next = times (exponents w) (exponents (get_or tp k 0))

    next_is : get_or (row_of w c tp tc) k none ≡ term (c *ℤ get_or tc k (pos 0)) next
    next_is = row-term g.factor k h w c none

    inside : k < length (row_of w c tp tc)
    inside = omega (arith, row-length (term c (exponents w)) (terms tp tc), terms-many g.factor)

    coefficient-is : get_or (coefficients_of (row_of w c tp tc)) k (pos 0) ≡ c *ℤ get_or tc k (pos 0)
    coefficient-is = map_at (λ (t : Term). t.coefficient) (row_of w c tp tc) k none (pos 0) inside ∙ ap (λ (t : Term). t.coefficient) next_is

    word_is : get_or (words_of (row_of w c tp tc)) k 0 ≡ word next
    word_is =
        map_at (λ (t : Term). word t.pattern) (row_of w c tp tc) k none 0 inside ∙ ap (λ (t : Term). word t.pattern) next_is

    pub value-fits : SFits w64 (c *ℤ get_or tc k (pos 0))
    value-fits = product-fits g.factor k h c (omega (arith, g.light))

    pub can-multiply : (Valid w) × ((Valid (get_or tp k 0)) × (degree (exponents w) + degree (exponents (get_or tp k 0)) ≤ largest_degree))
    can-multiply = (g.valid, (each-valid g.factor k h, low-enough g.factor k h w g.low))

-- ---- The loop.

pub record ByTerm (w : ℕ) (c : ℤ) (tp : List ℕ) (tc : List ℤ) (ws₀ : List ℕ) (cs₀ : List ℤ) (ws : List ℕ) (cs : List ℤ) (count k : ℕ) : Type 0 where
  pub has : HasTerm w c tp tc
  pub so_far : Finishing (words_of (row (term c (exponents w)) (terms tp tc))) (coefficients_of (row (term c (exponents w)) (terms tp tc))) ws₀ cs₀ ws cs count k
  pub many : length (words_of (row (term c (exponents w)) (terms tp tc))) ≡ length tp
  pub as_many : length tp ≡ length tc

module _ {w : ℕ} {c : ℤ} {tp : List ℕ} {tc : List ℤ} {ws₀ : List ℕ} {cs₀ : List ℤ} where
  by-term : HasTerm w c tp tc → {ws : List ℕ} {cs : List ℤ} {count k : ℕ} → Finishing (words_of (row_of w c tp tc)) (coefficients_of (row_of w c tp tc)) ws₀ cs₀ ws cs count k
      → ByTerm w c tp tc ws₀ cs₀ ws cs count k
  by-term g f = record { has = g; so_far = f; many = row_many g; as_many = as_many g.factor }

  pub start : HasTerm w c tp tc → RoomOf (length tp) ws₀ cs₀ → ByTerm w c tp tc ws₀ cs₀ ws₀ cs₀ 0 0
  start g room =
      by-term g
      (finishing.start _ _ ws₀ cs₀ (holds (row-holdable g)) (omega (arith, row_many g, g.factor.few, room.words)) (omega (arith, row_many g, g.factor.few, room.coefficients)))

  module _ {ws : List ℕ} {cs : List ℤ} {count k : ℕ} (b : ByTerm w c tp tc ws₀ cs₀ ws cs count k) where
    module _ (h : k < length tp) where
      row_inside : k < length (words_of (row_of w c tp tc))
      row_inside = omega (arith, b.many)

      pub skips : is_zero (c *ℤ get_or tc k (pos 0)) ≡ true → ByTerm w c tp tc ws₀ cs₀ ws cs count (k + 1)
      skips zero = by-term b.has (finishing.skips b.so_far row_inside (ap is_zero (coefficient-is b.has k h) ∙ zero))

      pub takes : is_zero (c *ℤ get_or tc k (pos 0)) ≡ false → {x : ℕ} → x ≡ word (times (exponents w) (exponents (get_or tp k 0))) → {z : ℤ} → z ≡ c *ℤ get_or tc k (pos 0)
          → ByTerm w c tp tc ws₀ cs₀ (set ws count x) (set cs count z) (count + 1) (k + 1)
      takes other x-is z-is =
          by-term b.has
          (rw (x-is ∙ sym (word_is b.has k h), z-is ∙ sym (coefficient-is b.has k h))
          (finishing.takes b.so_far row_inside (ap is_zero (coefficient-is b.has k h) ∙ other)))

    pub ended : length tp ≤ k → (formed count, ws, cs) ≡ formed_into (formed (drop_zeros (row (term c (exponents w)) (terms tp tc)))) ws₀ cs₀
    ended h = finishing.ended b.so_far (omega (arith, b.many)) ∙ ap (λ (s : Sum). formed_into (formed (drop_zeros s)) ws₀ cs₀) (spells (row-holdable b.has))

-- ---- A sum of one term, and the product by it.

module _ {sp : List ℕ} {sc : List ℤ} {tp : List ℕ} {tc : List ℤ} (g : Factors sp sc tp tc) (one : length sp ≡ 1) where
  first : 0 < length sp
  first = omega arith

  pub has-term : HasTerm (get_or sp 0 0) (get_or sc 0 (pos 0)) tp tc
  has-term = record {
    factor = g.second;
    valid = each-valid g.first 0 first;
    low = omega (arith, degree-at g.first 0 first, g.low);
    light = omega (arith, mul-le-mul_right (weight (terms tp tc)) (size-at g.first 0 first), g.light);
  }

  abbrev u : Term
  u = term (get_or sc 0 (pos 0)) (exponents (get_or sp 0 0))

  abbrev t : Sum
  t = terms tp tc

  alone : terms sp sc ≡ u ∷ []
  alone = sym (take_all 1 (terms sp sc) (omega (arith, terms-many g.first))) ∙ terms-next g.first 0 first

  pub by_one : formed (drop_zeros (row (term (get_or sc 0 (pos 0)) (exponents (get_or sp 0 0))) (terms tp tc))) ≡ product_of (terms sp sc) (terms tp tc)
  unfolding product_of product_spread ◌⊗◌ collect pairs
  by_one =
      let held = row-holdable has-term in
      let gathered : gather (row u t) ≡ row u t = gather-fixed (row u t) held.strict in
      let few : spread (row u t) ≤ most_terms = omega (arith, spread-gather (row u t), ap length gathered, held.few) in
      sym
      (ap (λ (s : Sum). product_of s t) alone ∙ ap (λ (l : Sum). within (spread l) (drop_zeros (gather l))) (append-nil (row u t))
      ∙ within-yes (spread (row u t)) (drop_zeros (gather (row u t))) few ∙ ap (λ (l : Sum). formed (drop_zeros l)) gathered)
