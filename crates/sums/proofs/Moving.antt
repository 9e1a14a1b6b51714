-- What the loop keeps that merges a row into the areas of a running sum: what was merged stands behind, and what is left of the sum where it was.
use mathlib.Core.Path.{◌≡◌, refl, sym, ◌∙◌, ap, ap₂, subst}
use mathlib.Core.List.{List, ◌∷◌, ◌++◌, map, map-append}
use Prim.Native.Nat.{Ordering}
use Prim.Native.Nat.{ℕ, zero, suc, ◌+◌, ◌-◌, ◌≤◌, ◌<◌}
use native.Mathlib.Omega.{arith}
use lib.IntN.{ℤ, pos, nat_abs, ◌+ℤ◌, ◌*ℤ◌}
use lib.ListN.{length, get_or, take, set}
use lib.Seq.{length-take-le, get_or-take, take-take}
use mir.Syntax.{w64}
use mir.Val.{SFits}
use Rattle.algebra.specs.Limits.{variables, largest_degree}
use Rattle.algebra.specs.Pattern.{Pattern, times, degree}
use Rattle.algebra.specs.Sum.{Term, term, Sum, weight}
use Rattle.algebra.specs.Arithmetic.{row}
use Rattle.algebra.specs.Word.{word, exponents, terms, Valid, EachValid}
use Rattle.algebra.specs.Held.{words_of, coefficients_of, first_terms}
use Rattle.algebra.proofs.Numbers.Absolute.{abs-add}
use Rattle.algebra.proofs.Patterns.Laws.{times-length, degree-times}
use Rattle.algebra.proofs.Patterns.Word.{exponents-length, exponents-word, product-valid}
use Rattle.answers.proofs.Signed.{fits-abs}
use Rattle.sums.specs.Held.{Held}
use Rattle.sums.specs.Rows.{CanMerge, joined, closed, Gapped}
use Rattle.sums.proofs.Holding.{map-take, as_many, terms-many, term-at, size-at, each-valid, holdable}
use Rattle.sums.proofs.Standing.{last_stands, there-is, fewer-valid}
use Rattle.sums.proofs.MakeRow.{row-length, row-term, low-enough, product-size, product-fits}
use Rattle.sums.proofs.Multiplying.{row-held}
use Rattle.sums.proofs.Merging as merging
use Rattle.sums.proofs.Merging.{none, Merging, goes_in, adds-up, moves}
use Rattle.sums.proofs.Backwards as backwards
use Rattle.sums.proofs.Backwards.{Backwards, kept, front_kept, behind}

-- ---- Words and coefficients of terms.

coefficient-of : {t : Term} {c : ℤ} {p : Pattern} → t ≡ term c p → c ≡ t.coefficient
coefficient-of e = sym (ap (λ (u : Term). u.coefficient) e)

-- the terms that are left in the first places of an area, and those that were merged behind them, are all
all-stands : {A : Type 0} (f : Term → A) {area₀ area : List A} {m k : ℕ} (running merged : Sum) (n i : ℕ) → Backwards area₀ m area k (map f merged) → i ≤ k
    → take n area₀ ≡ map f running → i ≤ n → {all : Sum} → all ≡ take i running ++ merged → closed i k m area ≡ map f all
all-stands f {area₀} running merged n i b room held inside all =
    ap₂ ◌++◌ (front_kept b i room ∙ sym (take-take i n area₀ inside) ∙ ap (take i) held ∙ sym (map-take f i running)) (behind b)
    ∙ sym (ap (map f) all ∙ map-append f (take i running) merged)

-- the code compares the patterns of the terms: `now` has the last of them where `ws` has it
last-pattern : (ws : List ℕ) (n : ℕ) {cs : List ℤ} → Held (take n ws) cs → n ≤ length ws → (i : ℕ) → i ≤ n → (now : List ℕ) → (0 < i → get_or now (i - 1) 0 ≡ get_or ws (i - 1) 0) → (q : Pattern)
    → last_stands i (get_or (terms (take n ws) cs) (i - 1) none).pattern q ≡ last_stands i (exponents (get_or now (i - 1) 0)) q
last-pattern ws n held enough zero inside now kept q = refl
last-pattern ws n held enough (suc i) inside now kept q =
    ap (λ p. last_stands (suc i) p q)
    (ap (λ (t : Term). t.pattern) (term-at held (suc i - 1) (omega (arith, length-take-le n ws enough)) none)
    ∙ ap exponents (get_or-take n ws (suc i - 1) 0 (omega arith) ∙ sym (kept (omega arith))))

-- ---- The loop.

-- the row that is merged
abbrev row_of : ℤ → ℕ → List ℕ → List ℤ → Sum
row_of c w tp tc = row (term c (exponents w)) (terms tp tc)

pub record Moving (ws₀ : List ℕ) (cs₀ : List ℤ) (n w : ℕ) (c : ℤ) (tp : List ℕ) (tc : List ℤ) (ws : List ℕ) (cs : List ℤ) (i j k : ℕ) : Type 0 where
  pub can : CanMerge ws₀ cs₀ n w c tp tc
  pub merged : Sum
  pub merging : Merging (first_terms n ws₀ cs₀) (row_of c w tp tc) i j merged
  pub words : Backwards ws₀ (n + length tp) ws k (words_of merged)
  pub coefficients : Backwards cs₀ (n + length tp) cs k (coefficients_of merged)
  pub inside : i ≤ n
  pub row_inside : j ≤ length tp
  pub row_coefficients : j ≤ length tc
  -- what is left has places before
  pub room : i + j ≤ k

module _ {ws₀ : List ℕ} {cs₀ : List ℤ} {n w : ℕ} {c : ℤ} {tp : List ℕ} {tc : List ℤ} (g : CanMerge ws₀ cs₀ n w c tp tc) where
  enough : n ≤ length ws₀
  enough = omega (arith, g.words_room)

  running-many : length (first_terms n ws₀ cs₀) ≡ n
  running-many = terms-many g.running ∙ length-take-le n ws₀ enough

  row_many : length (row_of c w tp tc) ≡ length tp
  row_many = row-length (term c (exponents w)) (terms tp tc) ∙ terms-many g.factor

  -- the bounds follow from the rest
  moving : {ws : List ℕ} {cs : List ℤ} {i j k : ℕ} {merged : Sum} → Merging (first_terms n ws₀ cs₀) (row_of c w tp tc) i j merged
      → Backwards ws₀ (n + length tp) ws k (words_of merged) → Backwards cs₀ (n + length tp) cs k (coefficients_of merged) → i + j ≤ k
      → Moving ws₀ cs₀ n w c tp tc ws cs i j k
  moving {merged = merged} m b d room = record {
    can = g;
    merged = merged;
    merging = m;
    words = b;
    coefficients = d;
    inside = omega (arith, m.inside, running-many);
    row_inside = omega (arith, m.row_inside, row_many);
    row_coefficients = omega (arith, m.row_inside, row_many, as_many g.factor);
    room = room;
  }

  pub start : Moving ws₀ cs₀ n w c tp tc ws₀ cs₀ n (length tp) (n + length tp)
  start =
      let held = row-held (term c (exponents w)) (exponents-length w) (holdable g.factor) g.low in
      moving (merging.start (first_terms n ws₀ cs₀) (row_of c w tp tc) running-many row_many g.running.strict held.strict)
      (backwards.start ws₀ (n + length tp) g.words_room) (backwards.start cs₀ (n + length tp) g.coefficients_room) (omega arith)

module _ {ws₀ : List ℕ} {cs₀ : List ℤ} {n w : ℕ} {c : ℤ} {tp : List ℕ} {tc : List ℤ} {ws : List ℕ} {cs : List ℤ} {i j k : ℕ} (v : Moving ws₀ cs₀ n w c tp tc ws cs i j k) where
  -- what is left of the sum has valid words
  pub left-valid : EachValid (take i ws)
  left-valid =
      subst EachValid (sym (front_kept v.words i (omega (arith, v.room)))) (fewer-valid ws₀ n (enough v.can) (each-valid v.can.running) i v.inside)

  -- at the end all of the sum that is left stands where it was
  pub ended : j ≤ 0 → Gapped (joined c w tp tc n ws₀ cs₀) ws cs i k (n + length tp)
  ended h =
      let s = first_terms n ws₀ cs₀ in
      let all = merging.ended v.merging h in
      let before : i ≤ k = omega (arith, v.room) in
      let held = v.can.running in
      record {
        words_are = all-stands (λ (t : Term). word t.pattern) s v.merged n i v.words before held.words_are v.inside all;
        coefficients_are = all-stands (λ (t : Term). t.coefficient) s v.merged n i v.coefficients before held.coefficients_are v.inside all;
        some = before;
        inside = omega (arith, v.words.place);
      }

  module _ (more : 0 < j) where
    next-inside : j - 1 < length tp
    next-inside = omega (arith, v.row_inside)

    -- the row's next term: its pattern, and its coefficient
    abbrev next : Pattern
    next = times (exponents w) (exponents (get_or tp (j - 1) 0))

    abbrev value : ℤ
    value = c *ℤ get_or tc (j - 1) (pos 0)

    next_is : get_or (row_of c w tp tc) (j - 1) none ≡ term value next
    next_is = row-term v.can.factor (j - 1) next-inside w c none

    next-long : length next ≡ variables
    next-long = times-length variables (exponents w) (exponents (get_or tp (j - 1) 0)) (exponents-length w) (exponents-length (get_or tp (j - 1) 0))

    pub factor-valid : Valid (get_or tp (j - 1) 0)
    factor-valid = each-valid v.can.factor (j - 1) next-inside

    pub factor-low : degree (exponents w) + degree (exponents (get_or tp (j - 1) 0)) ≤ largest_degree
    factor-low = low-enough v.can.factor (j - 1) next-inside w v.can.low

    pub value-fits : SFits w64 (c *ℤ get_or tc (j - 1) (pos 0))
    value-fits = product-fits v.can.factor (j - 1) next-inside c (omega (arith, v.can.light))

    -- x is the pattern's word
    module _ {x : ℕ} (is : x ≡ word (times (exponents w) (exponents (get_or tp (j - 1) 0)))) where
      spelled : exponents x ≡ next
      spelled = ap exponents is ∙ exponents-word next next-long (omega (arith, factor-low, degree-times (exponents w) (exponents (get_or tp (j - 1) 0))))

      pub next-valid : Valid x
      next-valid = subst Valid (sym is) (product-valid w (get_or tp (j - 1) 0) v.can.valid factor-valid factor-low)

      next_word : x ≡ word (get_or (row_of c w tp tc) (j - 1) none).pattern
      next_word = is ∙ sym (ap (λ (t : Term). word t.pattern) next_is)

      -- the patterns that the code compares are those of the terms
      abbrev last : Pattern
      last = exponents (get_or ws (i - 1) 0)

      stand : last_stands i (get_or (first_terms n ws₀ cs₀) (i - 1) none).pattern (get_or (row_of c w tp tc) (j - 1) none).pattern ≡ last_stands i last (exponents x)
      stand =
          last-pattern ws₀ n v.can.running (enough v.can) i v.inside ws (λ some. kept v.words (i - 1) 0 (omega (arith, v.room))) _
          ∙ ap (last_stands i last) (ap (λ (t : Term). t.pattern) next_is ∙ sym spelled)

      -- a term more is merged, and written in both areas
      put : {t : Term} {i' j' : ℕ} → Merging (first_terms n ws₀ cs₀) (row_of c w tp tc) i' j' (t ∷ v.merged) → i' + j' < i + j → {y : ℕ} → y ≡ word t.pattern → {z : ℤ} → z ≡ t.coefficient
          → Moving ws₀ cs₀ n w c tp tc (set ws (k - 1) y) (set cs (k - 1) z) i' j' (k - 1)
      put m fewer word_is coefficient-is =
          let some : 0 < k = omega (arith, v.room) in
          moving v.can m (backwards.again v.words some _ word_is) (backwards.again v.coefficients some _ coefficient-is) (omega (arith, v.room))

      pub new : last_stands i (exponents (get_or ws (i - 1) 0)) (exponents x) ≡ Ordering.lt → {z : ℤ} → z ≡ c *ℤ get_or tc (j - 1) (pos 0)
          → Moving ws₀ cs₀ n w c tp tc (set ws (k - 1) x) (set cs (k - 1) z) i (j - 1) (k - 1)
      new e z-is = put (goes_in v.merging more (stand ∙ e)) (omega arith) next_word (z-is ∙ coefficient-of next_is)

      -- in the other two cases there is a last term
      module _ (some : 0 < i) where
        last-inside : i - 1 < length (take n ws₀)
        last-inside = omega (arith, length-take-le n ws₀ (enough v.can), v.inside)

        last-coefficient : get_or (take n cs₀) (i - 1) (pos 0) ≡ get_or cs (i - 1) (pos 0)
        last-coefficient =
            get_or-take n cs₀ (i - 1) (pos 0) (omega (arith, v.inside)) ∙ sym (kept v.coefficients (i - 1) (pos 0) (omega (arith, v.room)))

        last_word : get_or (take n ws₀) (i - 1) 0 ≡ get_or ws (i - 1) 0
        last_word = get_or-take n ws₀ (i - 1) 0 (omega (arith, v.inside)) ∙ sym (kept v.words (i - 1) 0 (omega (arith, v.room)))

        last_is : get_or (first_terms n ws₀ cs₀) (i - 1) none ≡ term (get_or cs (i - 1) (pos 0)) last
        last_is = term-at v.can.running (i - 1) last-inside none ∙ ap₂ (λ (z : ℤ) (y : ℕ). term z (exponents y)) last-coefficient last_word

        last-valid : Valid (get_or ws (i - 1) 0)
        last-valid = subst Valid last_word (each-valid v.can.running (i - 1) last-inside)

        last-size : nat_abs (get_or cs (i - 1) (pos 0)) ≤ weight (first_terms n ws₀ cs₀)
        last-size = subst (λ (z : ℤ). nat_abs z ≤ weight (first_terms n ws₀ cs₀)) last-coefficient (size-at v.can.running (i - 1) last-inside)

        pub sum_fits : SFits w64 (c *ℤ get_or tc (j - 1) (pos 0) +ℤ get_or cs (i - 1) (pos 0))
        sum_fits =
            let d = get_or cs (i - 1) (pos 0) in
            fits-abs (value +ℤ d) (omega (arith, abs-add value d, product-size v.can.factor (j - 1) next-inside c, last-size, v.can.light))

        pub known : last_stands i (exponents (get_or ws (i - 1) 0)) (exponents x) ≡ Ordering.eq → {z : ℤ} → z ≡ c *ℤ get_or tc (j - 1) (pos 0) +ℤ get_or cs (i - 1) (pos 0)
            → Moving ws₀ cs₀ n w c tp tc (set ws (k - 1) x) (set cs (k - 1) z) (i - 1) (j - 1) (k - 1)
        known e z-is =
            put (adds-up v.merging more some (there-is i _ _ (stand ∙ e) (λ h. h)).1) (omega arith) next_word
            (z-is ∙ ap₂ ◌+ℤ◌ (coefficient-of next_is) (coefficient-of last_is))

        pub passed : last_stands i (exponents (get_or ws (i - 1) 0)) (exponents x) ≡ Ordering.gt → {z : ℤ} → z ≡ get_or cs (i - 1) (pos 0)
            → Moving ws₀ cs₀ n w c tp tc (set ws (k - 1) (get_or ws (i - 1) 0)) (set cs (k - 1) z) (i - 1) j (k - 1)
        passed e z-is =
            put (moves v.merging more some (there-is i _ _ (stand ∙ e) (λ h. h)).1) (omega arith)
            (sym (ap (λ (t : Term). word t.pattern) last_is ∙ last-valid.is)) (z-is ∙ coefficient-of last_is)
