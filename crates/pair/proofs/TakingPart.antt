-- The terms with one power of v, without it: they are in order and can be held as the sum is. And what the loop of `take_part` keeps.
use mathlib.Core.Path.{◌≡◌, refl, sym, ◌∙◌, ap}
use mathlib.Core.List.{List, [], ◌∷◌, ◌++◌, append-nil}
use Prim.Native.Nat.{Ordering}
use Prim.Native.Nat.{ℕ, ◌+◌, ◌≤◌, ◌<◌}
use native.Mathlib.Omega.{arith}
use native.Mathlib.Decide.{ℕ_discrete}
use borrow.Author.Tests.{eq-eqb, ne_eqb}
use lib.Dec.{T}
use lib.IntN.{ℤ, pos}
use lib.ListN.{length, get_or, take, set, length-set, length-append}
use lib.Seq.{take_all}
use Rattle.algebra.specs.Limits.{variables, largest_degree, most_terms}
use Rattle.algebra.specs.Pattern.{Pattern, exponent, without, order}
use Rattle.algebra.specs.Sum.{Term, term, Sum, ahead, in_order}
use Rattle.algebra.specs.Word.{word, exponents, terms, Valid}
use Rattle.algebra.proofs.Patterns.Laws.{without-degree}
use Rattle.algebra.proofs.Patterns.Order.{order-without}
use Rattle.algebra.proofs.Patterns.Word.{exponents-length}
use Rattle.algebra.proofs.Sums.Every.{Every, Long, UpTo, degree-every, every-degree}
use Rattle.algebra.proofs.Sums.Ordered.{before-is, is-before, ahead-trans, order-cons, order-head, order-tail}
use Rattle.sums.specs.Held.{Held}
use Rattle.sums.specs.Rows.{Stands}
use Rattle.sums.proofs.Holding.{Holdable, holdable, each-valid, terms-many, terms-next}
use Rattle.sums.proofs.Fronts.{Placed, placed-written}
use Rattle.sums.proofs.Storing.{Stored, stored-none, stored_next}
use Rattle.pair.specs.Rows.{part_at}

-- ---- Term by term.

-- a term without v
abbrev pub rest : ℕ → Term → Term
rest v t = term t.coefficient (without v t.pattern)

module _ (v k : ℕ) where
  part_none : part_at v k [] ≡ []
  unfolding part_at
  part_none = refl

  pub part-this : (t : Term) (s : Sum) → exponent v t.pattern ≡ k → part_at v k (t ∷ s) ≡ rest v t ∷ part_at v k s
  unfolding part_at
  part-this t s is = rw (eq-eqb (exponent v t.pattern) k is)

  pub part-other : (t : Term) (s : Sum) → (exponent v t.pattern ≡ k → ⊥) → part_at v k (t ∷ s) ≡ part_at v k s
  unfolding part_at
  part-other t s other = rw (ne_eqb (exponent v t.pattern) k other)

  part-append : (s r : Sum) → part_at v k (s ++ r) ≡ part_at v k s ++ part_at v k r
  part-append [] r = unfold part_at in refl
  part-append (t ∷ s) r = go (ℕ_discrete (exponent v t.pattern) k) (part-append s r)
    where
      go : Dec (exponent v t.pattern ≡ k) → part_at v k (s ++ r) ≡ part_at v k s ++ part_at v k r → part_at v k (t ∷ (s ++ r)) ≡ part_at v k (t ∷ s) ++ part_at v k r
      go (yes is) ih = part-this t (s ++ r) is ∙ ap (λ l. rest v t ∷ l) ih ∙ ap (λ l. l ++ part_at v k r) (sym (part-this t s is))
      go (no other) ih = part-other t (s ++ r) other ∙ ih ∙ ap (λ l. l ++ part_at v k r) (sym (part-other t s other))

  -- a term more at the end
  next-this : (s : Sum) (t : Term) → exponent v t.pattern ≡ k → part_at v k (s ++ (t ∷ [])) ≡ part_at v k s ++ (rest v t ∷ [])
  next-this s t is = part-append s (t ∷ []) ∙ ap (λ l. part_at v k s ++ l) (part-this t [] is ∙ ap (λ l. rest v t ∷ l) part_none)

  next-other : (s : Sum) (t : Term) → (exponent v t.pattern ≡ k → ⊥) → part_at v k (s ++ (t ∷ [])) ≡ part_at v k s
  next-other s t other = part-append s (t ∷ []) ∙ ap (λ l. part_at v k s ++ l) (part-other t [] other ∙ part_none) ∙ append-nil (part_at v k s)

  -- what holds of each of these terms; Q is what is known of the patterns
  pub part-every : (P Q : Pattern → Type 0) → ((p : Pattern) → Q p → exponent v p ≡ k → P (without v p)) → (s : Sum) → Every Q s → Every P (part_at v k s)
  part-every P Q h [] q = unfold part_at in tt
  part-every P Q h (t ∷ s) q = go (ℕ_discrete (exponent v t.pattern) k) (part-every P Q h s q.1)
    where
      go : Dec (exponent v t.pattern ≡ k) → Every P (part_at v k s) → Every P (part_at v k (t ∷ s))
      go (yes is) later = rw (part-this t s is) (h t.pattern q.0 is, later)
      go (no other) later = rw (part-other t s other) later

  part-few : (s : Sum) → length (part_at v k s) ≤ length s
  part-few [] = unfold part_at in omega arith
  part-few (t ∷ s) = go (ℕ_discrete (exponent v t.pattern) k) (part-few s)
    where
      go : Dec (exponent v t.pattern ≡ k) → length (part_at v k s) ≤ length s → length (part_at v k (t ∷ s)) ≤ length (t ∷ s)
      go (yes is) ih = rw (part-this t s is) (omega arith)
      go (no other) ih = rw (part-other t s other) (omega arith)

  pub part-long : (n : ℕ) (s : Sum) → Every (Long n) s → Every (Long n) (part_at v k s)
  part-long n s long = part-every (Long n) (Long n) (λ p h is. length-set p v 0 ∙ h) s long

-- ---- They stay in order.

module _ (n v k : ℕ) (inside : v < n) where
  part-ahead : (p : Pattern) (s : Sum) → exponent v p ≡ k → length p ≡ n → Every (Long n) s → T (in_order s) → T (ahead p s) → T (ahead (without v p) (part_at v k s))
  unfolding ahead
  part-ahead p [] has long h o a = unfold part_at in tt
  part-ahead p (t ∷ s) has long h o a =
      let before : order p t.pattern ≡ Ordering.lt = before-is (order p t.pattern) a in
      go (ℕ_discrete (exponent v t.pattern) k) before (part-ahead p s has long h.1 (order-tail t s o) (ahead-trans p t.pattern s before (order-head t s o)))
    where
      go : Dec (exponent v t.pattern ≡ k) → order p t.pattern ≡ Ordering.lt → T (ahead (without v p) (part_at v k s)) → T (ahead (without v p) (part_at v k (t ∷ s)))
      go (yes is) before later =
          rw (part-this v k t s is)
          (unfold ahead in is-before (order (without v p) (without v t.pattern)) (order-without n v p t.pattern long h.0 inside (has ∙ sym is) ∙ before))
      go (no other) before later = rw (part-other v k t s other) later

  part-strict : (s : Sum) → Every (Long n) s → T (in_order s) → T (in_order (part_at v k s))
  part-strict [] h o = unfold part_at in o
  part-strict (t ∷ s) h o = go (ℕ_discrete (exponent v t.pattern) k) (part-strict s h.1 (order-tail t s o))
    where
      go : Dec (exponent v t.pattern ≡ k) → T (in_order (part_at v k s)) → T (in_order (part_at v k (t ∷ s)))
      go (yes is) later =
          rw (part-this v k t s is)
          (order-cons (rest v t) (part_at v k s) (part-ahead t.pattern s is h.0 h.1 (order-tail t s o) (order-head t s o)) later)
      go (no other) later = rw (part-other v k t s other) later

pub part-holdable : (v k : ℕ) → v < variables → {s : Sum} → Holdable s → Holdable (part_at v k s)
part-holdable v k known {s} h = record {
  long = part-long v k variables s h.long;
  strict = part-strict variables v k known s h.long h.strict;
  low = every-degree largest_degree (part_at v k s)
      (part-every v k (UpTo largest_degree) (UpTo largest_degree) (λ p low is. omega (arith, without-degree v p)) s (degree-every largest_degree s h.low));
  few = omega (arith, part-few v k s, h.few);
}

-- where they stand they can be held
pub part_placed : (v k : ℕ) → v < variables → {fp : List ℕ} {fc : List ℤ} → Held fp fc → {m : ℕ} {ws : List ℕ} {cs : List ℤ} → Stands (part_at v k (terms fp fc)) m ws cs
    → Placed (part_at v k (terms fp fc)) m ws cs
part_placed v k known into stands = record { stands = stands; holdable = part-holdable v k known (holdable into) }

-- ---- The loop: of the terms so far, those with the power k are stored.

pub record Taking (v k : ℕ) (fp : List ℕ) (fc : List ℤ) (ws₀ : List ℕ) (cs₀ : List ℤ) (ws : List ℕ) (cs : List ℤ) (count i : ℕ) : Type 0 where
  pub stored : Stored ws₀ cs₀ (part_at v k (take i (terms fp fc))) ws cs
  pub many : length (part_at v k (take i (terms fp fc))) ≡ count
  pub fewer : count ≤ i
  pub known : v < variables
  pub into : Held fp fc
  pub inside : i ≤ length fp
  pub words_room : most_terms ≤ length ws₀
  pub coefficients_room : most_terms ≤ length cs₀

pub start : (v k : ℕ) (fp : List ℕ) (fc : List ℤ) (ws : List ℕ) (cs : List ℤ) → v < variables → Held fp fc → most_terms ≤ length ws → most_terms ≤ length cs → Taking v k fp fc ws cs ws cs 0 0
unfolding part_at
start v k fp fc ws cs known into words_room coefficients_room = record {
  stored = stored-none ws cs;
  many = refl;
  fewer = omega arith;
  known = known;
  into = into;
  inside = omega arith;
  words_room = words_room;
  coefficients_room = coefficients_room;
}

module _ {v k : ℕ} {fp : List ℕ} {fc : List ℤ} {ws₀ : List ℕ} {cs₀ : List ℤ} {ws : List ℕ} {cs : List ℤ} {count i : ℕ} (f : Taking v k fp fc ws₀ cs₀ ws cs count i) where
  -- the i-th term; e is its power of v
  module _ (h : i < length fp) {e : ℕ} (power_is : e ≡ exponent v (exponents (get_or fp i 0))) where
    abbrev t : Term
    t = term (get_or fc i (pos 0)) (exponents (get_or fp i 0))

    abbrev before : Sum
    before = take i (terms fp fc)

    pub skips : (e ≡ k → ⊥) → Taking v k fp fc ws₀ cs₀ ws cs count (i + 1)
    skips other =
        let same = ap (part_at v k) (terms-next f.into i h) ∙ next-other v k before t (λ is. other (power_is ∙ is)) in
        record {
          stored = rw same f.stored;
          many = ap length same ∙ f.many;
          fewer = omega (arith, f.fewer);
          known = f.known;
          into = f.into;
          inside = omega arith;
          words_room = f.words_room;
          coefficients_room = f.coefficients_room;
        }

    pub takes : e ≡ k → {w : ℕ} → w ≡ word (without v (exponents (get_or fp i 0))) → Taking v k fp fc ws₀ cs₀ (set ws count w) (set cs count (get_or fc i (pos 0))) (count + 1) (i + 1)
    takes this {w} word_is =
        let more = ap (part_at v k) (terms-next f.into i h) ∙ next-this v k before t (sym power_is ∙ this) in
        let long : length (without v t.pattern) ≡ variables = length-set t.pattern v 0 ∙ exponents-length (get_or fp i 0) in
        record {
          stored = rw more
              (stored_next f.stored (rest v t) count w (get_or fc i (pos 0)) f.many
              (omega (arith, f.fewer, f.words_room, f.into.few)) (omega (arith, f.fewer, f.coefficients_room, f.into.few))
              (word_is) refl);
          many = ap length more ∙ length-append (part_at v k before) (rest v t ∷ []) ∙ ap (λ (n : ℕ). n + 1) f.many;
          fewer = omega (arith, f.fewer);
          known = f.known;
          into = f.into;
          inside = omega arith;
          words_room = f.words_room;
          coefficients_room = f.coefficients_room;
        }

  pub next-valid : i < length fp → Valid (get_or fp i 0)
  next-valid h = each-valid f.into i h

  -- after the last term all of them stand in the areas
  pub ended : length fp ≤ i → Stands (part_at v k (terms fp fc)) count ws cs
  ended h =
      let all : part_at v k (take i (terms fp fc)) ≡ part_at v k (terms fp fc) = ap (part_at v k) (take_all i (terms fp fc) (omega (arith, terms-many f.into))) in
      let stored = rw all at f.stored in
      (placed-written ws₀ cs₀ stored.words_are stored.coefficients_are (ap length (sym all) ∙ f.many) (part-holdable v k f.known (holdable f.into))).stands
