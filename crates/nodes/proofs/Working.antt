-- A node's sum, formed of earlier sums that are kept in the parts of the work areas.
use mathlib.Core.Path.{◌≡◌, refl, sym, ◌∙◌, ap, ap₂, subst}
use mathlib.Core.List.{List, [], ◌∷◌, ◌++◌, map}
use Prim.Native.Nat.{ℕ, zero, suc, ◌+◌, ◌*◌, ◌^◌, ◌≤◌, ◌<◌}
use native.Mathlib.Omega.{arith}
use native.Mathlib.Numerals.{add-one}
use native.Mathlib.Decide.{dec_lt}
use lib.IntN.{ℤ}
use lib.ListN.{length, get_or, take, length-append, get_or-append, get_or-map}
use lib.Seq.{get_or_at}
use borrow.Rule.Slice.PartMut.{mid_of, put_mid}
use Rattle.algebra.specs.Limits.{variables, largest_degree, most_terms, largest_weight}
use Rattle.algebra.specs.Sum.{Sum, degree_of, weight}
use Rattle.algebra.specs.Arithmetic as arithmetic
use Rattle.algebra.specs.Word.{terms}
use Rattle.algebra.proofs.Sums.Ordered.{parts}
use Rattle.sums.specs.Held.{HeldSum}
use Rattle.sums.specs.Asked.{Addends, Factors, Base}
use Rattle.sums.specs.Formed.{Formed, Formed.formed, within, formed_into, sum_of, product_of, power_of}
use Rattle.nodes.specs.declared.Kind as code
use Rattle.nodes.specs.Node.{Kind, Kind.integer, Kind.variable, Kind.sum, Kind.product, Kind.power}
use Rattle.nodes.specs.Inside.Code.{kind_of}
use Rattle.nodes.specs.Formal.{formal_degree, formal_weight, node_spread, node_sum}
use Rattle.sums.specs.Part.{part}
use Rattle.nodes.specs.Inside.Work.{sum_at, sums_at, node_formed, FormedAt, Ready}
use Rattle.nodes.proofs.Formally.{two-children, base-child}
use Rattle.sums.proofs.Parts.{span, lent, part_length, part-put, before-put, after-put}

-- ---- The sums that are kept.

module _ (ns : List ℕ) (ws : List ℕ) (cs : List ℤ) where
  pub sums-length : (i : ℕ) → length (sums_at i ns ws cs) ≡ i
  unfolding sums_at
  sums-length zero = refl
  sums-length (suc i) = length-append (sums_at i ns ws cs) (sum_at ns ws cs i ∷ []) ∙ ap (λ (n : ℕ). n + 1) (sums-length i) ∙ add-one i

  pub sum-there : (i j : ℕ) → j < i → get_or (sums_at i ns ws cs) j [] ≡ sum_at ns ws cs j
  unfolding sums_at
  sum-there zero j h = absurd (omega arith)
  sum-there (suc i) j h = go (dec_lt j i) (sum-there i j)
    where
      go : Dec (j < i) → (j < i → get_or (sums_at i ns ws cs) j [] ≡ sum_at ns ws cs j) → get_or (sums_at i ns ws cs ++ (sum_at ns ws cs i ∷ [])) j [] ≡ sum_at ns ws cs j
      go (yes l) ih = get_or-append (sums_at i ns ws cs) (sum_at ns ws cs i ∷ []) [] j (omega (arith, sums-length i)) ∙ ih l
      go (no l) ih =
          let last : j ≡ i = omega arith in
          get_or_at (sums_at i ns ws cs) (sum_at ns ws cs i) [] [] j (sums-length i ∙ sym last) ∙ ap (sum_at ns ws cs) (sym last)

-- ---- A sum formed into a part that is lent.

module _ (i : ℕ) (f : Formed Sum) (ws : List ℕ) (cs : List ℤ) (room-w : most_terms * suc i ≤ length ws) (room-c : most_terms * suc i ≤ length cs) where
  pub formed-at : {g : Formed Sum} → g ≡ f → (answer : Formed ℕ) (ps : List ℕ) (ds : List ℤ)
      → length ps ≡ length (mid_of (most_terms * i) (span i) ws)
      → length ds ≡ length (mid_of (most_terms * i) (span i) cs)
      → (answer, ps, ds) ≡ formed_into g (mid_of (most_terms * i) (span i) ws) (mid_of (most_terms * i) (span i) cs)
      → FormedAt i f answer ws cs (put_mid (most_terms * i) (span i) ws ps) (put_mid (most_terms * i) (span i) cs ds)
  formed-at {g} is answer ps ds lp ld e =
      let many : length ps ≡ most_terms = lp ∙ ap length (lent i ws) ∙ part_length i ws room-w in
      let as_many : length ds ≡ most_terms = ld ∙ ap length (lent i cs) ∙ part_length i cs room-c in
      record {
        in_part =
            ap₂ (λ (p : List ℕ) (d : List ℤ). (answer, p, d)) (part-put i ws room-w ps many) (part-put i cs room-c ds as_many)
            ∙ e
            ∙ ap₂ (formed_into g) (lent i ws) (lent i cs)
            ∙ ap (λ h. formed_into h (part i ws) (part i cs)) is;
        words_before = before-put i ws room-w ps many;
        words_after = after-put i ws room-w ps many;
        coefficients_before = before-put i cs room-c ds as_many;
        coefficients_after = after-put i cs room-c ds as_many;
      }

-- ---- Earlier nodes as operands.

-- two nodes of a list as addends, and as factors
module _ (ss : List Sum) (a b : ℕ) {s t : Sum} (is : s ≡ get_or ss a []) (is' : t ≡ get_or ss b []) where
  pub addends-light : formal_weight (map weight ss) (sum a b) ≤ largest_weight → weight s + weight t ≤ largest_weight
  unfolding formal_weight weight
  addends-light h =
      subst (λ (n : ℕ). n ≤ largest_weight) (ap₂ ◌+◌ (get_or-map weight ss a [] ∙ ap weight (sym is)) (get_or-map weight ss b [] ∙ ap weight (sym is'))) h

  pub addends-formed : sum_of s t ≡ node_formed ss (sum a b)
  unfolding sum_of node_spread node_sum
  addends-formed = ap₂ sum_of is is'

  pub factors-low : formal_degree (map degree_of ss) (product a b) ≤ largest_degree → degree_of s + degree_of t ≤ largest_degree
  unfolding formal_degree degree_of
  factors-low h =
      subst (λ (n : ℕ). n ≤ largest_degree) (ap₂ ◌+◌ (get_or-map degree_of ss a [] ∙ ap degree_of (sym is)) (get_or-map degree_of ss b [] ∙ ap degree_of (sym is'))) h

  pub factors-light : formal_weight (map weight ss) (product a b) ≤ largest_weight → weight s * weight t ≤ largest_weight
  unfolding formal_weight weight
  factors-light h =
      subst (λ (n : ℕ). n ≤ largest_weight) (ap₂ ◌*◌ (get_or-map weight ss a [] ∙ ap weight (sym is)) (get_or-map weight ss b [] ∙ ap weight (sym is'))) h

  pub factors-formed : product_of s t ≡ node_formed ss (product a b)
  unfolding product_of node_spread node_sum
  factors-formed = ap₂ product_of is is'

-- a node of a list as the base of a power
module _ (ss : List Sum) (a e : ℕ) {s : Sum} (is : s ≡ get_or ss a []) where
  pub base-low : formal_degree (map degree_of ss) (power a e) ≤ largest_degree → degree_of s * e ≤ largest_degree
  unfolding formal_degree degree_of
  base-low h = subst (λ (n : ℕ). n * e ≤ largest_degree) (get_or-map degree_of ss a [] ∙ ap degree_of (sym is)) h

  pub base-light : formal_weight (map weight ss) (power a e) ≤ largest_weight → weight s ^ e ≤ largest_weight
  unfolding formal_weight weight
  base-light h = subst (λ (n : ℕ). n ^ e ≤ largest_weight) (get_or-map weight ss a [] ∙ ap weight (sym is)) h

  pub base-formed : power_of s e ≡ node_formed ss (power a e)
  unfolding power_of node_spread node_sum
  base-formed = ap (λ t. power_of t e) is

-- the terms of node a, in two slices
module _ {i : ℕ} {ns : List ℕ} {ws : List ℕ} {cs : List ℤ} {k : Kind} (r : Ready i ns ws cs k) {a : ℕ} (before : a < i) {sp : List ℕ} {sc : List ℤ}
    (words : sp ≡ take (get_or ns a 0) (part a ws)) (coefficients : sc ≡ take (get_or ns a 0) (part a cs)) where
  operand_held : HeldSum sp sc
  operand_held = rw (words, coefficients) (r.keeps.holds a before)

  operand_is : terms sp sc ≡ get_or (sums_at i ns ws cs) a []
  operand_is = ap₂ terms words coefficients ∙ sym (sum-there ns ws cs i a before)

-- as the base of a power
module _ {i a e : ℕ} {ns : List ℕ} {ws : List ℕ} {cs : List ℤ} (r : Ready i ns ws cs (power a e)) {sp : List ℕ} {sc : List ℤ}
    (words : sp ≡ take (get_or ns a 0) (part a ws)) (coefficients : sc ≡ take (get_or ns a 0) (part a cs)) where
  there : a < i
  there = (base-child i a e r.node_is).0

  is : terms sp sc ≡ get_or (sums_at i ns ws cs) a []
  is = operand_is r there words coefficients

  pub base_asked : Base sp sc e
  base_asked =
      let h = operand_held r there words coefficients in
      record {
        held = h.held;
        full = (parts variables (terms sp sc) h.accepted.is_ordered).full;
        low = base-low (sums_at i ns ws cs) a e is r.low;
        light = base-light (sums_at i ns ws cs) a e is r.light;
      }

  pub base_formed : power_of (terms sp sc) e ≡ node_formed (sums_at i ns ws cs) (power a e)
  base_formed = base-formed (sums_at i ns ws cs) a e is

-- two of them as addends, and as factors
module _ {i a b : ℕ} {ns : List ℕ} {ws : List ℕ} {cs : List ℤ} {sp tp : List ℕ} {sc tc : List ℤ}
    (words : sp ≡ take (get_or ns a 0) (part a ws)) (coefficients : sc ≡ take (get_or ns a 0) (part a cs))
    (words' : tp ≡ take (get_or ns b 0) (part b ws)) (coefficients' : tc ≡ take (get_or ns b 0) (part b cs)) where
  -- of any node of the two, what they are
  module _ {k : Kind} (r : Ready i ns ws cs k) (children : (a < i) × (b < i)) where
    first_is : terms sp sc ≡ get_or (sums_at i ns ws cs) a []
    first_is = operand_is r children.0 words coefficients

    second_is : terms tp tc ≡ get_or (sums_at i ns ws cs) b []
    second_is = operand_is r children.1 words' coefficients'

  module _ (r : Ready i ns ws cs (sum a b)) where
    addends : (a < i) × (b < i)
    addends = two-children i a b r.node_is

    pub addends_asked : Addends sp sc tp tc
    addends_asked = record {
      first = operand_held r addends.0 words coefficients;
      second = operand_held r addends.1 words' coefficients';
      light = addends-light (sums_at i ns ws cs) a b (first_is r addends) (second_is r addends) r.light;
    }

    pub addends_formed : sum_of (terms sp sc) (terms tp tc) ≡ node_formed (sums_at i ns ws cs) (sum a b)
    addends_formed = addends-formed (sums_at i ns ws cs) a b (first_is r addends) (second_is r addends)

  module _ (r : Ready i ns ws cs (product a b)) where
    factors : (a < i) × (b < i)
    factors = two-children i a b r.node_is

    pub factors_asked : Factors sp sc tp tc
    factors_asked = record {
      first = (operand_held r factors.0 words coefficients).held;
      second = (operand_held r factors.1 words' coefficients').held;
      low = factors-low (sums_at i ns ws cs) a b (first_is r factors) (second_is r factors) r.low;
      light = factors-light (sums_at i ns ws cs) a b (first_is r factors) (second_is r factors) r.light;
    }

    pub factors_formed : product_of (terms sp sc) (terms tp tc) ≡ node_formed (sums_at i ns ws cs) (product a b)
    factors_formed = factors-formed (sums_at i ns ws cs) a b (first_is r factors) (second_is r factors)

-- what was formed, by another name
pub renamed : {i : ℕ} {f g : Formed Sum} {answer : Formed ℕ} {ws ws' : List ℕ} {cs cs' : List ℤ} → g ≡ f → FormedAt i g answer ws cs ws' cs' → FormedAt i f answer ws cs ws' cs'
renamed {i} {f} {g} {answer} {ws} {ws'} {cs} {cs'} e h = subst (λ (x : Formed Sum). FormedAt i x answer ws cs ws' cs') e h

-- ---- The kind that was matched.

module _ {k other : code.Kind} (e : k ≡ other) where
  pub ready-as : {i : ℕ} {ns : List ℕ} {ws : List ℕ} {cs : List ℤ} → Ready i ns ws cs (kind_of k) → Ready i ns ws cs (kind_of other)
  ready-as {i} {ns} {ws} {cs} r = subst (λ (x : code.Kind). Ready i ns ws cs (kind_of x)) e r

  pub formed-as : (ss : List Sum) → node_formed ss (kind_of other) ≡ node_formed ss (kind_of k)
  formed-as ss = ap (λ (x : code.Kind). node_formed ss (kind_of x)) (sym e)

-- an integer and a variable are formed of no sums
pub integer-formed : (ss : List Sum) {z n : ℤ} → z ≡ n → formed (arithmetic.integer variables z) ≡ node_formed ss (integer n)
unfolding within node_spread node_sum
integer-formed ss e = ap (λ (x : ℤ). formed (arithmetic.integer variables x)) e

pub variable-formed : (ss : List Sum) (v : ℕ) → formed (arithmetic.variable variables v) ≡ node_formed ss (variable v)
unfolding within node_spread node_sum
variable-formed ss v = refl
