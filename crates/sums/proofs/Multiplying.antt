-- Products of sums: their rows, and what `multiply_in` forms of them.
use mathlib.Core.Path.{◌≡◌, refl, sym, ◌∙◌, ap, ap₂, subst}
use mathlib.Core.List.{List, [], ◌∷◌, ◌++◌, append_assoc, append-nil}
use Prim.Native.Nat.{ℕ, zero, suc, ◌+◌, ◌*◌, ◌≤◌}
use native.Mathlib.Omega.{arith}
use native.Mathlib.Nat.{le_refl}
use lib.IntN.{ℤ}
use lib.ListN.{length, take, drop, length-append, length-map, take-append-drop}
use Rattle.algebra.specs.Limits.{variables, largest_degree, most_terms, largest_weight}
use Rattle.algebra.specs.Pattern.{Pattern, degree}
use Rattle.algebra.specs.Sum.{Term, Sum, in_order, degree_of, weight}
use Rattle.algebra.specs.Collect.{insert, gather, drop_zeros, spread}
use Rattle.algebra.specs.Arithmetic.{row, pairs, ◌⊗◌, product_spread}
use Rattle.algebra.specs.Word.{terms, terms_by}
use Rattle.algebra.specs.Inside.Rank.{word_at, words_at}
use Rattle.algebra.specs.Held.{first_terms}
use Rattle.algebra.proofs.Patterns.Laws.{times-length, times-degree}
use Rattle.algebra.proofs.Sums.Every.{Every, collect-every, row-every, pairs-every, Long, UpTo, degree-every, every-degree}
use Rattle.algebra.proofs.Sums.Ordered.{row-order, gather-order, gather-fixed, collect-order}
use Rattle.algebra.proofs.Sums.Ring.{product-comm}
use Rattle.algebra.proofs.Sums.Occurs.{spread-gather}
use Rattle.algebra.proofs.Sums.Spreads.{product-spread-comm}
use Rattle.algebra.proofs.Sums.Results.{append-weight, product-degree, product-length}
use Rattle.sums.specs.Asked as asked
use Rattle.sums.specs.Formed.{formed_of, Formed.formed, Formed.over, within, product_of, with_row, formed_into}
use Rattle.sums.specs.Rows.{RoomFor, CanAdd, Added}
use Rattle.std.specs.Prelude.{Option, Some, None}
use Rattle.sums.proofs.Holding.{Holdable, holdable, holds}
use Rattle.sums.proofs.Answering.{number-refused, added-given, over-into}
use Rattle.sums.proofs.Fronts.{Placed}
use Rattle.sums.proofs.Gathering.{gathered-placed, placed-finished}
use Rattle.sums.proofs.MakeRow.{row-length}

-- ---- Parts of a sum.

pub every_take : (P : Pattern → Type 0) (k : ℕ) (s : Sum) → Every P s → Every P (take k s)
every_take P zero s e = tt
every_take P (suc k) [] e = tt
every_take P (suc k) (t ∷ s) e = (e.0, every_take P k s e.1)

pub weight-take : (k : ℕ) (s : Sum) → weight (take k s) ≤ weight s
weight-take k s = omega (arith, append-weight (take k s) (drop k s), ap weight (take-append-drop k s))

pub pairs-append : (s r t : Sum) → pairs (s ++ r) t ≡ pairs s t ++ pairs r t
unfolding pairs
pairs-append [] r t = refl
pairs-append (u ∷ s) r t = ap (λ l. row u t ++ l) (pairs-append s r t) ∙ sym (append_assoc (row u t) (pairs s t) (pairs r t))

pub pairs-length : (s t : Sum) → length (pairs s t) ≡ length s * length t
unfolding pairs
pairs-length [] t = omega arith
pairs-length (u ∷ s) t = omega (arith, length-append (row u t) (pairs s t), row-length u t, pairs-length s t)

-- ---- A list that goes on with a gathered one.

pub gather-rest : (l m : List Term) → gather (l ++ gather m) ≡ gather (l ++ m)
unfolding gather
gather-rest [] m = gather-fixed (gather m) (gather-order m)
gather-rest (t ∷ l) m = ap (insert t) (gather-rest l m)

pub spread-rest : (l m : List Term) → spread (l ++ gather m) ≡ spread (l ++ m)
spread-rest l m = spread-gather (l ++ gather m) ∙ ap length (gather-rest l m) ∙ sym (spread-gather (l ++ m))

-- ---- No rows.

pub holdable-none : Holdable []
holdable-none = record { long = tt; strict = unfold in_order in tt; low = unfold degree_of in omega arith; few = omega arith }

-- a row of a sum that can be held can be held, if no degree becomes too high
pub row-held : (u : Term) {t : Sum} → length u.pattern ≡ variables → Holdable t → degree u.pattern + degree_of t ≤ largest_degree → Holdable (row u t)
row-held u {t} long second high = record {
  long = row-every (Long variables) (Long variables) (Long variables) (times-length variables) u t long second.long;
  strict = row-order variables u t long second.long second.strict;
  low = every-degree largest_degree (row u t)
      (row-every (UpTo (degree u.pattern)) (UpTo (degree_of t)) (UpTo largest_degree)
      (λ p q a b. omega (arith, times-degree (degree u.pattern) (degree_of t) p q a b, high)) u t (le_refl _) (degree-every _ t (le_refl _)));
  few = omega (arith, row-length u t, second.few);
}

-- ---- Two factors, and the rows of the first, or of the part l of it.

pub record Factors (s t : Sum) : Type 0 where
  pub first : Holdable s
  pub second : Holdable t
  pub low : degree_of s + degree_of t ≤ largest_degree
  pub light : weight s * weight t ≤ largest_weight

module _ {s t : Sum} (f : Factors s t) where
  pub rows_long : (l : Sum) → Every (Long variables) l → Every (Long variables) (pairs l t)
  rows_long l long = pairs-every (Long variables) (Long variables) (Long variables) (times-length variables) l t long f.second.long

  pub rows-low : (l : Sum) → Every (UpTo (degree_of s)) l → Every (UpTo largest_degree) (pairs l t)
  rows-low l low =
      pairs-every (UpTo (degree_of s)) (UpTo (degree_of t)) (UpTo largest_degree) (λ p q a b. omega (arith, times-degree (degree_of s) (degree_of t) p q a b, f.low)) l t
      low (degree-every _ t (le_refl _))

  pub all-long : Every (Long variables) (pairs s t)
  all-long = rows_long s f.first.long

  pub all-low : Every (UpTo largest_degree) (pairs s t)
  all-low = rows-low s (degree-every _ s (le_refl _))

-- ---- The product of two sums.

pub product_turned : (s t : Sum) → product_of s t ≡ product_of t s
unfolding product_of
product_turned s t = ap₂ within (product-spread-comm s t) (product-comm s t)

pub product-holdable : {s t : Sum} → Factors s t → product_spread s t ≤ most_terms → Holdable (s ⊗ t)
unfolding ◌⊗◌
product-holdable {s} {t} f few = record {
  long = collect-every (Long variables) (pairs s t) (all-long f);
  strict = collect-order (pairs s t);
  low = unfold ◌⊗◌ in omega (arith, product-degree s t, f.low);
  few = unfold ◌⊗◌ in omega (arith, product-length s t);
}

-- ---- All pairs added to nothing, for `multiply_in`.

nothing : (ws : List ℕ) (cs : List ℤ) → first_terms 0 ws cs ≡ []
unfolding terms terms_by
nothing ws cs = refl

-- the ranks of both operands stand in sr and tr, and the running sum, which is empty, in ks and cs
module _ {sp : List ℕ} {sc : List ℤ} {tp : List ℕ} {tc : List ℤ} (g : asked.Factors sp sc tp tc) (sr tr : List ℕ) (first : words_at sr ≡ sp) (second : words_at tr ≡ tp) (ks : List ℕ) (cs : List ℤ) where
  abbrev s : Sum
  s = terms sp sc

  abbrev t : Sum
  t = terms tp tc

  factors : Factors (terms sp sc) (terms tp tc)
  factors = record { first = holdable g.first; second = holdable g.second; low = g.low; light = g.light }

  pub can-add : RoomFor 0 (length sp) (length tp) (length ks) → RoomFor 0 (length sp) (length tp) (length cs) → CanAdd (words_at ks) cs 0 (words_at sr) sc (words_at tr) tc
  unfolding weight
  can-add words_room coefficients_room = rw (first, second) record {
    running = holds holdable-none;
    few = omega arith;
    first = g.first;
    second = g.second;
    low = g.low;
    light = omega (arith, g.light, ap weight (nothing (words_at ks) cs));
    words_room = rw (length-map ks word_at) words_room;
    coefficients_room = coefficients_room;
  }

  -- what is answered
  module _ (r : Option ℕ) (ks' : List ℕ) {cs' : List ℤ} (a : Added (with_row (pairs (terms (words_at sr) sc) (terms (words_at tr) tc)) (first_terms 0 (words_at ks) cs)) (formed_of r) (words_at ks') cs') where
    told : Added (within (spread (pairs s t)) (gather (pairs s t))) (formed_of r) (words_at ks') cs'
    unfolding with_row
    told =
        let all = ap (λ l. pairs s t ++ l) (nothing (words_at ks) cs) ∙ append-nil (pairs s t) in
        subst (λ l. Added (within (spread l) (gather l)) (formed_of r) (words_at ks') cs') all (rw (first, second) at a)

    pub stops : r ≡ None → (ps : List ℕ) (ds : List ℤ) → (over, ps, ds) ≡ formed_into (product_of (terms sp sc) (terms tp tc)) ps ds
    unfolding product_of product_spread
    stops none ps ds = over-into (spread (pairs s t)) (s ⊗ t) ps ds (number-refused (spread (pairs s t)) (gather (pairs s t)) r none told.number_is)

    pub multiplied : {all : ℕ} → r ≡ Some all → Placed (gather (pairs (terms sp sc) (terms tp tc))) all (words_at ks') cs'
    multiplied is =
        let yes = added-given (spread (pairs s t)) (gather (pairs s t)) (words_at ks') cs' r is told in
        gathered-placed (pairs s t) (all-long factors) (all-low factors) yes.0 yes.1

-- without what has cancelled it is the product
pub ended : (s t : Sum) {ws : List ℕ} {cs : List ℤ} {all : ℕ} → Placed (gather (pairs s t)) all ws cs → formed (drop_zeros (first_terms all ws cs)) ≡ product_of s t
unfolding product_of product_spread ◌⊗◌
ended s t p = placed-finished (pairs s t) p
