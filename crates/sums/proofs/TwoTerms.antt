-- The powers of a sum of two terms, by Pascal's rule: what meets adds up, and nothing cancels.
use mathlib.Core.Path.{◌≡◌, refl, sym, ◌∙◌, ap, ap₂}
use mathlib.Core.Bool.{Bool, true, false, not, ◌||◌}
use mathlib.Core.List.{List, [], ◌∷◌, map}
use Prim.Native.Nat.{Ordering}
use Prim.Native.Nat.{ℕ, zero, suc, ◌+◌, ◌*◌, ◌≤◌, ◌<◌}
use native.Mathlib.Omega.{arith}
use native.Mathlib.Numerals.{add-one}
use native.Mathlib.Nat.{max-le}
use lib.Dec.{T}
use lib.IntN.{ℤ, pos, negsuc, nat_abs, ◌+ℤ◌, ◌*ℤ◌, +ℤ_assoc, +ℤ_idl, +ℤ_idr, *ℤ_comm, *ℤ-zero}
use lib.ListN.{length, length-map}
use Rattle.algebra.specs.Limits.{variables}
use Rattle.algebra.specs.Pattern.{Pattern, times, same, order}
use Rattle.algebra.specs.Sum.{Term, term, Sum, is_zero, ahead, in_order, no_zero, ordered}
use Rattle.algebra.specs.Collect.{occurs}
use Rattle.algebra.specs.Arithmetic.{times_term, row, pairs, ◌⊗◌, product_spread, power, power_spread}
use Rattle.algebra.specs.Word.{word, field_size}
use Rattle.algebra.specs.Held.{words_of, coefficients_of}
use Rattle.algebra.specs.Value.{total}
use Rattle.algebra.proofs.Numbers.Absolute.{abs-mul}
use Rattle.algebra.proofs.Numbers.Whole.{*ℤ-assoc, +ℤ-*ℤ, one-*ℤ, +ℤ-left-comm}
use lib.Ieee.Fits.{and_i}
use Rattle.algebra.proofs.Patterns.Laws.{times-comm, times-assoc, times-length}
use Rattle.algebra.proofs.Patterns.Fields.{word-times}
use Rattle.algebra.proofs.Patterns.Order.{order-times}
use Rattle.algebra.proofs.Sums.Every.{Every, Long}
use Rattle.algebra.proofs.Sums.Total.{Additive, total-plus, total_ext, pairs-total}
use Rattle.algebra.proofs.Sums.Equal.{collect-equal}
use Rattle.algebra.proofs.Sums.Occurs.{occurs-cons, spread-gather}
use Rattle.algebra.proofs.Sums.Spreads.{same-spread}
use Rattle.algebra.proofs.Sums.Ordered.{Parts, parts, whole, before-is, is-before, order-cons, order-head, full-head, full-tail, gather-fixed, collect-fixed}
use Rattle.sums.specs.Binomial.{stepped, mixed}

-- ---- A term that counts b + 1 times.

abbrev Counted : Type 0
Counted = ℕ × Term

abbrev many : Counted → Term
many g = term (pos (suc g.0) *ℤ g.1.coefficient) g.1.pattern

-- c other than 0
abbrev Some : ℤ → Type 0
Some c = 0 < nat_abs c

some-full : (c : ℤ) → Some c → T (not (is_zero c))
some-full (pos zero) h = absurd (omega arith)
some-full (pos (suc n)) h = tt
some-full (negsuc n) h = tt

some-times : (c d : ℤ) → Some c → Some d → Some (c *ℤ d)
some-times c d h k = rw (abs-mul c d) (product (nat_abs c) (nat_abs d) h k)
  where
    product : (a b : ℕ) → 0 < a → 0 < b → 0 < a * b
    product (suc a) (suc b) h k = omega arith
    product zero b h k = absurd (omega arith)
    product (suc a) zero h k = absurd (omega arith)

none-times : (c : ℤ) → pos 0 *ℤ c ≡ pos 0
none-times c = *ℤ_comm (pos 0) c ∙ *ℤ-zero c

term-eq : (c d : ℤ) (p q : Pattern) → c ≡ d → p ≡ q → term c p ≡ term d q
term-eq c d p q e f = ap₂ term e f

times-swap : (m x y : Term) → times_term (times_term m x) y ≡ times_term (times_term m y) x
times-swap m x y =
    term-eq _ _ _ _
    (*ℤ-assoc m.coefficient x.coefficient y.coefficient ∙ ap (λ c. m.coefficient *ℤ c) (*ℤ_comm x.coefficient y.coefficient) ∙ sym (*ℤ-assoc m.coefficient y.coefficient x.coefficient))
    (times-assoc m.pattern x.pattern y.pattern ∙ ap (times m.pattern) (times-comm x.pattern y.pattern) ∙ sym (times-assoc m.pattern y.pattern x.pattern))

-- ---- The terms of a power times x + y. Of two neighbours, the first times y is the second times x.

module _ (n : ℕ) (x y : Term) where
  after : Counted → List Counted → List Counted
  after g [] = (g.0, times_term g.1 y) ∷ []
  after g (h ∷ l) = (suc (g.0 + h.0), times_term g.1 y) ∷ after h l

  record Good (g : Counted) : Type 0 where
    pub some : Some g.1.coefficient
    pub long : length g.1.pattern ≡ n

  record Next (g h : Counted) : Type 0 where
    pub meets : times_term g.1 y ≡ times_term h.1 x
    pub before : order g.1.pattern h.1.pattern ≡ Ordering.lt
    pub good : Good h

  abbrev Rising : Counted → List Counted → Type 0
  Rising g [] = Unit {0}
  Rising g (h ∷ l) = Next g h × Rising h l

  module _ (some-x : Some x.coefficient) (long-x : length x.pattern ≡ n) (some-y : Some y.coefficient) (long-y : length y.pattern ≡ n)
      (before-y : order x.pattern y.pattern ≡ Ordering.lt) where
    good-x : (b : ℕ) (g : Counted) → Good g → Good (b, times_term g.1 x)
    good-x b g G = record { some = some-times g.1.coefficient x.coefficient G.some some-x; long = times-length n g.1.pattern x.pattern G.long long-x }

    good-y : (b : ℕ) (g : Counted) → Good g → Good (b, times_term g.1 y)
    good-y b g G = record { some = some-times g.1.coefficient y.coefficient G.some some-y; long = times-length n g.1.pattern y.pattern G.long long-y }

    -- a term stands before another as long as both are multiplied by the same
    kept : (p q r : Pattern) → length p ≡ n → length q ≡ n → length r ≡ n → order p q ≡ Ordering.lt → order (times p r) (times q r) ≡ Ordering.lt
    kept p q r h k l o = ap₂ order (times-comm p r) (times-comm q r) ∙ order-times r p q (h ∙ sym k) (l ∙ sym h) ∙ o

    rises : (a g : Counted) (l : List Counted) → ((b : ℕ) → Next a (b, times_term g.1 y)) → Good g → Rising g l → Rising a (after g l)
    unfolding after
    rises a g [] N G R = (N g.0, tt)
    rises a g (h ∷ l) N G R =
        let H : Good h = R.0.good in (
          N (suc (g.0 + h.0)),
          rises (suc (g.0 + h.0), times_term g.1 y) h l (λ b. record {
            meets = ap (λ t. times_term t y) R.0.meets ∙ times-swap h.1 x y;
            before = kept g.1.pattern h.1.pattern y.pattern G.long H.long long-y R.0.before;
            good = good-y b h H;
          }) H R.1,
        )

    rises-all : (g : Counted) (l : List Counted) → Good g → Rising g l → Rising (g.0, times_term g.1 x) (after g l)
    rises-all g l G R = rises (g.0, times_term g.1 x) g l (λ b. record {
      meets = times-swap g.1 x y;
      before = order-times g.1.pattern x.pattern y.pattern (long-x ∙ sym long-y) (G.long ∙ sym long-x) ∙ before-y;
      good = good-y b g G;
    }) G R

    -- ---- In order, without zeros.

    spelled-ahead : (g : Counted) (l : List Counted) → Rising g l → T (ahead g.1.pattern (map many l))
    unfolding ahead
    spelled-ahead g [] R = tt
    spelled-ahead g (h ∷ l) R = is-before _ R.0.before

    spelled-order : (g : Counted) (l : List Counted) → Rising g l → T (in_order (map many (g ∷ l)))
    spelled-order g [] R = order-cons (many g) [] (unfold ahead in tt) (unfold in_order in tt)
    spelled-order g (h ∷ l) R = order-cons (many g) (map many (h ∷ l)) (spelled-ahead g (h ∷ l) R) (spelled-order h l R.1)

    many-full : (g : Counted) → Good g → T (not (is_zero (many g).coefficient))
    many-full g G = some-full (many g).coefficient (some-times (pos (suc g.0)) g.1.coefficient one-or-more G.some)
      where
        one-or-more : 0 < suc g.0
        one-or-more = omega arith

    spelled-full : (g : Counted) (l : List Counted) → Good g → Rising g l → T (no_zero (map many (g ∷ l)))
    unfolding no_zero
    spelled-full g [] G R = and_i (not (is_zero (many g).coefficient)) true (many-full g G) tt
    spelled-full g (h ∷ l) G R = and_i (not (is_zero (many g).coefficient)) (no_zero (map many (h ∷ l))) (many-full g G) (spelled-full h l R.0.good R.1)

    spelled-long : (g : Counted) (l : List Counted) → Good g → Rising g l → Every (Long n) (map many (g ∷ l))
    spelled-long g [] G R = (G.long, tt)
    spelled-long g (h ∷ l) G R = (G.long, spelled-long h l R.0.good R.1)

    spelled-ordered : (g : Counted) (l : List Counted) → Good g → Rising g l → T (ordered n (map many (g ∷ l)))
    spelled-ordered g l G R = whole n _ (record { strict = spelled-order g l R; full = spelled-full g l G R; long = spelled-long g l G R })

    -- ---- All pairs add up to it.

    module _ (f : Term → ℤ) (A : Additive f) where
      by : Term → List Counted → ℤ
      by u l = total (λ t. f (times_term t u)) (map many l)

      moved : (g : Counted) (u : Term) → f (times_term (many g) u) ≡ f (many (g.0, times_term g.1 u))
      moved g u = ap (λ c. f (term c (times g.1.pattern u.pattern))) (*ℤ-assoc (pos (suc g.0)) g.1.coefficient u.coefficient)

      -- two counts of one term
      both : (a b : ℕ) (t : Term) → f (many (suc (a + b), t)) ≡ f (many (a, t)) +ℤ f (many (b, t))
      both a b t =
          let count : pos (suc (suc (a + b))) ≡ pos (suc a) +ℤ pos (suc b) = ap pos (omega arith) in
          ap (λ c. f (term c t.pattern)) (ap (λ k. k *ℤ t.coefficient) count ∙ +ℤ-*ℤ (pos (suc a)) (pos (suc b)) t.coefficient)
          ∙ A.plus (pos (suc a) *ℤ t.coefficient) (pos (suc b) *ℤ t.coefficient) t.pattern

      after-total : (g : Counted) (l : List Counted) → Rising g l → total f (map many (after g l)) ≡ f (times_term (many g) y) +ℤ (by x l +ℤ by y l)
      unfolding after total by
      after-total g [] R = ap (λ z. z +ℤ pos 0) (sym (moved g y))
      after-total g (h ∷ l) R =
          ap₂ ◌+ℤ◌
          (both g.0 h.0 (times_term g.1 y) ∙ ap₂ ◌+ℤ◌ (sym (moved g y)) (ap (λ t. f (many (h.0, t))) R.0.meets ∙ sym (moved h x)))
          (after-total h l R.1)
          ∙ shuffle (f (times_term (many g) y)) (f (times_term (many h) x)) (f (times_term (many h) y)) (by x l) (by y l)
        where
          shuffle : (a b c d e : ℤ) → (a +ℤ b) +ℤ (c +ℤ (d +ℤ e)) ≡ a +ℤ ((b +ℤ d) +ℤ (c +ℤ e))
          shuffle a b c d e = +ℤ_assoc a b (c +ℤ (d +ℤ e)) ∙ ap (λ z. a +ℤ z) (ap (λ z. b +ℤ z) (+ℤ-left-comm c d e) ∙ sym (+ℤ_assoc b d (c +ℤ e)))

      -- the same for the whole power
      grown-total : (g : Counted) (l : List Counted) → Rising g l
          → total f (map many ((g.0, times_term g.1 x) ∷ after g l)) ≡ total f (pairs (map many (g ∷ l)) (x ∷ y ∷ []))
      unfolding total by
      grown-total g l R =
          ap₂ ◌+ℤ◌ (sym (moved g x)) (after-total g l R) ∙ sym (+ℤ_assoc (f (times_term (many g) x)) (f (times_term (many g) y)) (by x l +ℤ by y l))
          ∙ ap₂ ◌+ℤ◌ (ap (λ z. f (times_term (many g) x) +ℤ z) (sym (+ℤ_idr (f (times_term (many g) y))))) (apart l)
          ∙ sym (pairs-total f (map many (g ∷ l)) (x ∷ y ∷ []))
        where
          apart : (l : List Counted) → by x l +ℤ by y l ≡ total (λ u. total (λ v. f (times_term u v)) (x ∷ y ∷ [])) (map many l)
          apart l =
              sym (total-plus (λ t. f (times_term t x)) (λ t. f (times_term t y)) (map many l))
              ∙ total_ext (λ t. ap (λ z. f (times_term t x) +ℤ z) (sym (+ℤ_idr (f (times_term t y))))) (map many l)

    grown-product : (g : Counted) (l : List Counted) → Good g → Rising g l
        → map many (g ∷ l) ⊗ (x ∷ y ∷ []) ≡ map many ((g.0, times_term g.1 x) ∷ after g l)
    unfolding ◌⊗◌
    grown-product g l G R =
        collect-equal (pairs (map many (g ∷ l)) (x ∷ y ∷ [])) (map many ((g.0, times_term g.1 x) ∷ after g l)) (λ f A. sym (grown-total f A g l R))
        ∙ collect-fixed n _ (spelled-ordered (g.0, times_term g.1 x) (after g l) (good-x g.0 g G) (rises-all g l G R))

    -- ---- And they have no more patterns.

    any : Pattern → Term → List Counted → Bool
    any r u [] = false
    any r u (h ∷ l) = same r (times h.1.pattern u.pattern) || any r u l

    after-occurs : (r : Pattern) (g : Counted) (l : List Counted) → Rising g l
        → occurs r (map many (after g l)) ≡ same r (times g.1.pattern y.pattern) || (any r x l || any r y l)
    unfolding after any
    after-occurs r g [] R = unfold occurs in refl
    after-occurs r g (h ∷ l) R =
        occurs-cons r _ (map many (after h l)) ∙ ap (λ b. same r (times g.1.pattern y.pattern) || b) (after-occurs r h l R.1)
        ∙ twice (same r (times g.1.pattern y.pattern)) (same r (times h.1.pattern y.pattern)) (any r x l) (any r y l)
        ∙ ap (λ t. same r (times g.1.pattern y.pattern) || ((same r t.pattern || any r x l) || (same r (times h.1.pattern y.pattern) || any r y l))) R.0.meets
      where
        twice : (a c d e : Bool) → a || (c || (d || e)) ≡ a || ((a || d) || (c || e))
        twice true c d e = refl
        twice false true true e = refl
        twice false true false e = refl
        twice false false d e = refl

    spread-out : (a b c d : Bool) → a || (b || (c || d)) ≡ (a || c) || (b || d)
    spread-out true b c d = refl
    spread-out false true true d = refl
    spread-out false true false d = refl
    spread-out false false c d = refl

    pairs-any : (r : Pattern) (l : List Counted) → occurs r (pairs (map many l) (x ∷ y ∷ [])) ≡ any r x l || any r y l
    unfolding pairs row any
    pairs-any r [] = unfold occurs in refl
    pairs-any r (h ∷ l) =
        occurs-cons r _ _ ∙ ap (λ b. same r (times h.1.pattern x.pattern) || b) (occurs-cons r _ _ ∙ ap (λ b. same r (times h.1.pattern y.pattern) || b) (pairs-any r l))
        ∙ spread-out (same r (times h.1.pattern x.pattern)) (same r (times h.1.pattern y.pattern)) (any r x l) (any r y l)

    grown-spread : (g : Counted) (l : List Counted) → Good g → Rising g l → product_spread (map many (g ∷ l)) (x ∷ y ∷ []) ≡ length (after g l) + 1
    unfolding product_spread any
    grown-spread g l G R =
        same-spread (pairs (map many (g ∷ l)) (x ∷ y ∷ [])) (map many grown) (λ r. pairs-any r (g ∷ l) ∙ sym (again r))
        ∙ spread-gather (map many grown) ∙ ap length (gather-fixed (map many grown) (spelled-order (g.0, times_term g.1 x) (after g l) (rises-all g l G R))) ∙ counted
      where
        grown : List Counted
        grown = (g.0, times_term g.1 x) ∷ after g l

        again : (r : Pattern) → occurs r (map many grown) ≡ any r x (g ∷ l) || any r y (g ∷ l)
        again r =
            occurs-cons r _ (map many (after g l)) ∙ ap (λ b. same r (times g.1.pattern x.pattern) || b) (after-occurs r g l R)
            ∙ spread-out (same r (times g.1.pattern x.pattern)) (same r (times g.1.pattern y.pattern)) (any r x l) (any r y l)

        counted : length (map many grown) ≡ length (after g l) + 1
        counted = length-map grown many ∙ omega arith

    -- ---- The powers, from the first on.

    lead : ℕ → Counted
    lead zero = (0, x)
    lead (suc k) = ((lead k).0, times_term (lead k).1 x)

    rest : ℕ → List Counted
    rest zero = (0, y) ∷ []
    rest (suc k) = after (lead k) (rest k)

    lead-good : (k : ℕ) → Good (lead k)
    unfolding lead
    lead-good zero = record { some = some-x; long = long-x }
    lead-good (suc k) = good-x (lead k).0 (lead k) (lead-good k)

    rest-rises : (k : ℕ) → Rising (lead k) (rest k)
    unfolding lead rest
    rest-rises zero = (record { meets = commutes; before = before-y; good = record { some = some-y; long = long-y } }, tt)
      where
        commutes : times_term x y ≡ times_term y x
        commutes = term-eq _ _ _ _ (*ℤ_comm x.coefficient y.coefficient) (times-comm x.pattern y.pattern)
    rest-rises (suc k) = rises-all (lead k) (rest k) (lead-good k) (rest-rises k)

    after-length : (g : Counted) (l : List Counted) → length (after g l) ≡ length l + 1
    unfolding after
    after-length g [] = refl
    after-length g (h ∷ l) = omega (arith, after-length h l)

    rest-length : (k : ℕ) → length (rest k) ≡ k + 1
    unfolding rest
    rest-length zero = refl
    rest-length (suc k) = omega (arith, after-length (lead k) (rest k), rest-length k)

    abbrev two : Sum
    two = x ∷ y ∷ []

    power_is : (k : ℕ) → power n two (suc k) ≡ map many (lead k ∷ rest k)
    unfolding power
    power_is zero = unfold lead rest in ap₂ (λ c d. term c x.pattern ∷ term d y.pattern ∷ []) (sym (one-*ℤ x.coefficient)) (sym (one-*ℤ y.coefficient))
    power_is (suc k) = ap (λ s. s ⊗ two) (power_is k) ∙ grown-product (lead k) (rest k) (lead-good k) (rest-rises k) ∙ unfold lead rest in refl

    power-length : (k : ℕ) → length (power n two (suc k)) ≡ k + 2
    power-length k = ap length (power_is k) ∙ length-map (lead k ∷ rest k) many ∙ omega (arith, rest-length k)

    spread_is : (k : ℕ) → power_spread n two (suc k) ≤ k + 2
    unfolding power_spread
    spread_is zero = omega arith
    spread_is (suc k) =
        max-le (omega (arith, spread_is k))
        (omega (arith, ap (λ s. product_spread s two) (power_is k) ∙ grown-spread (lead k) (rest k) (lead-good k) (rest-rises k), after-length (lead k) (rest k), rest-length k))

    -- ---- Its coefficients.

    after-stepped : (g : Counted) (l : List Counted) → Rising g l
        → coefficients_of (map many (after g l)) ≡ stepped x.coefficient y.coefficient (many g).coefficient (coefficients_of (map many l))
    unfolding after stepped
    after-stepped g [] R = ap (λ c. c ∷ []) (sym (*ℤ-assoc (pos (suc g.0)) g.1.coefficient y.coefficient))
    after-stepped g (h ∷ l) R = ap₂ ◌∷◌ (sums-up) (after-stepped h l R.1)
      where
        sums-up : pos (suc (suc (g.0 + h.0))) *ℤ (g.1.coefficient *ℤ y.coefficient) ≡ (many g).coefficient *ℤ y.coefficient +ℤ (many h).coefficient *ℤ x.coefficient
        sums-up =
            let count : pos (suc (suc (g.0 + h.0))) ≡ pos (suc g.0) +ℤ pos (suc h.0) = ap pos (omega arith) in
            ap (λ k. k *ℤ (g.1.coefficient *ℤ y.coefficient)) count ∙ +ℤ-*ℤ (pos (suc g.0)) (pos (suc h.0)) (g.1.coefficient *ℤ y.coefficient)
            ∙ ap₂ ◌+ℤ◌ (sym (*ℤ-assoc (pos (suc g.0)) g.1.coefficient y.coefficient))
            (ap (λ t. pos (suc h.0) *ℤ t.coefficient) R.0.meets ∙ sym (*ℤ-assoc (pos (suc h.0)) h.1.coefficient x.coefficient))

    coefficients-next : (k : ℕ) → coefficients_of (power n two (suc (suc k))) ≡ stepped x.coefficient y.coefficient (pos 0) (coefficients_of (power n two (suc k)))
    coefficients-next k = ap coefficients_of (power_is (suc k)) ∙ unfold lead rest in start ∙ sym (ap (λ s. stepped x.coefficient y.coefficient (pos 0) (coefficients_of s)) (power_is k))
      where
        start : coefficients_of (map many (lead (suc k) ∷ rest (suc k))) ≡ stepped x.coefficient y.coefficient (pos 0) (coefficients_of (map many (lead k ∷ rest k)))
        start = unfold stepped lead rest in ap₂ ◌∷◌ (sym (*ℤ-assoc (pos (suc (lead k).0)) (lead k).1.coefficient x.coefficient) ∙ sym (ap (λ z. z +ℤ (many (lead k)).coefficient *ℤ x.coefficient) (none-times y.coefficient) ∙ +ℤ_idl ((many (lead k)).coefficient *ℤ x.coefficient))) (after-stepped (lead k) (rest k) (rest-rises k))

    -- ---- Its words.

    module _ (all : n ≡ variables) where
      abbrev word_in : Term → ℕ
      word_in t = word t.pattern

      product-word : (g : Counted) (u : Term) → Good g → length u.pattern ≡ n → word_in (times_term g.1 u) ≡ word_in g.1 + word_in u
      unfolding word
      product-word g u G h = word-times field_size g.1.pattern u.pattern (G.long ∙ sym h)

      lead-word : (k : ℕ) → word_in (lead k).1 ≡ suc k * word_in x
      unfolding lead
      lead-word zero = omega arith
      lead-word (suc k) = omega (arith, product-word (lead k) x (lead-good k) long-x, lead-word k)

      words-mixed : (g : Counted) (l : List Counted) (m k : ℕ) → length l ≡ m → Good g → word_in g.1 ≡ m * word_in x + k * word_in y → Rising g l
          → words_of (map many (g ∷ l)) ≡ mixed (word_in x) (word_in y) m k
      unfolding mixed
      words-mixed g [] zero k many-left G here R = ap (λ (w : ℕ). w ∷ []) (omega arith)
      words-mixed g [] (suc m) k many-left G here R = absurd (omega arith)
      words-mixed g (h ∷ l) zero k many-left G here R = absurd (omega arith)
      words-mixed g (h ∷ l) (suc m) k many-left G here R =
          let same_word : word_in g.1 + word_in y ≡ word_in h.1 + word_in x = sym (product-word g y G long-y) ∙ ap word_in R.0.meets ∙ product-word h x R.0.good long-x in
          ap₂ (λ (w : ℕ) (ws : List ℕ). w ∷ ws) here (words-mixed h l m (suc k) (omega arith) R.0.good (omega (arith, same_word, here)) R.1)

      words_are : (k : ℕ) → words_of (power n two (suc k)) ≡ mixed (word_in x) (word_in y) (suc k) 0
      words_are k = ap words_of (power_is k) ∙ words-mixed (lead k) (rest k) (suc k) 0 (omega (arith, rest-length k)) (lead-good k) (omega (arith, lead-word k)) (rest-rises k)

-- ---- For a sum of two terms, from the first power on.

full-some : (c : ℤ) → T (not (is_zero c)) → Some c
full-some (pos zero) h = absurd h
full-some (pos (suc n)) h = omega arith
full-some (negsuc n) h = omega arith

module _ (x y : Term) (good : T (ordered variables (x ∷ y ∷ []))) where
  P : Parts variables (x ∷ y ∷ [])
  P = parts variables (x ∷ y ∷ []) good

  pub some-x : 0 < nat_abs x.coefficient
  some-x = full-some x.coefficient (full-head x (y ∷ []) P.full)

  pub some-y : 0 < nat_abs y.coefficient
  some-y = full-some y.coefficient (full-head y [] (full-tail x (y ∷ []) P.full))

  before-y : order x.pattern y.pattern ≡ Ordering.lt
  unfolding ahead
  before-y = before-is (order x.pattern y.pattern) (order-head x (y ∷ []) P.strict)

  pub two-coefficients : (k : ℕ) → 1 ≤ k → coefficients_of (power variables (x ∷ y ∷ []) (k + 1)) ≡ stepped x.coefficient y.coefficient (pos 0) (coefficients_of (power variables (x ∷ y ∷ []) k))
  two-coefficients zero h = absurd (omega arith)
  two-coefficients (suc k) h = rw (add-one (suc k)) (coefficients-next variables x y some-x P.long.0 some-y P.long.1.0 before-y k)

  pub two-words : (k : ℕ) → 1 ≤ k → words_of (power variables (x ∷ y ∷ []) k) ≡ mixed (word x.pattern) (word y.pattern) k 0
  two-words zero h = absurd (omega arith)
  two-words (suc k) h = words_are variables x y some-x P.long.0 some-y P.long.1.0 before-y refl k

  pub two-spread : (k : ℕ) → 1 ≤ k → power_spread variables (x ∷ y ∷ []) k ≤ k + 1
  two-spread zero h = absurd (omega arith)
  two-spread (suc k) h = omega (arith, spread_is variables x y some-x P.long.0 some-y P.long.1.0 before-y k)

  pub two-length : (k : ℕ) → 1 ≤ k → length (power variables (x ∷ y ∷ []) k) ≡ k + 1
  two-length zero h = absurd (omega arith)
  two-length (suc k) h = omega (arith, power-length variables x y some-x P.long.0 some-y P.long.1.0 before-y k)
