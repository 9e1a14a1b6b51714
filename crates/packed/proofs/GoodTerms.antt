-- What the loop of `good_terms` keeps: how many terms are good is the number of those so far and how many of the others are good after them.
use mathlib.Core.Path.{◌≡◌, refl, sym, ◌∙◌, ap, ap₂}
use mathlib.Core.List.{List, [], ◌∷◌}
use Prim.Native.Nat.{ℕ, suc, ◌+◌, ◌-◌, ◌^◌, ◌≤◌, ◌<◌, Ordering}
use native.Mathlib.Omega.{arith}
use lib.Dec.{T, le→leb}
use lib.IntN.{ℤ, pos, nat_abs}
use lib.ListN.{length, get_or, drop, drop_of_length-le}
use lib.Seq.{drop-cons}
use native.Mathlib.Numerals.{add-one}
use Rattle.algebra.specs.Limits.{variables, largest_degree, largest_weight}
use Rattle.algebra.specs.Pattern.{degree, then_by}
use Rattle.algebra.specs.Sum.{Term, term, Sum, is_before, weight}
use Rattle.algebra.specs.Word.{exponents, Valid}
use Rattle.algebra.proofs.Numbers.Absolute.{no_size, some_size}
use Rattle.algebra.proofs.Numbers.Compare.{Says, compare-says}
use lib.Ieee.Bits.{is_true}
use Rattle.algebra.proofs.Numbers.Test.{false-is}
use Rattle.algebra.proofs.Patterns.Word.{exponents-length, test-valid, low-decides, quotient-small, word-order}
use Rattle.packed.specs.Judge.{follows}
use Rattle.packed.specs.Pack.{is_good, good_terms}
use Rattle.packed.proofs.Good.{Fit, weighs-some, weighs-light, weighs_is, fit-good, good-fit}

-- ---- Steps of the definition.

none_left : (before : Sum) (cs : List ℤ) → good_terms before [] cs ≡ 0
unfolding good_terms
none_left before cs = refl

module _ (before : Sum) (w : ℕ) (c : ℤ) (ws : List ℕ) (cs : List ℤ) where
  good-next : T (is_good before w c) → good_terms before (w ∷ ws) (c ∷ cs) ≡ suc (good_terms (term c (exponents w) ∷ before) ws cs)
  unfolding good_terms
  good-next h = rw (is_true (is_good before w c) h)

  bad-next : (T (is_good before w c) → ⊥) → good_terms before (w ∷ ws) (c ∷ cs) ≡ 0
  unfolding good_terms
  bad-next h = rw (false-is (is_good before w c) h)

weight-cons : (t : Term) (before : Sum) → weight (t ∷ before) ≡ nat_abs t.coefficient + weight before
unfolding weight
weight-cons t before = refl

weight-none : weight [] ≡ 0
unfolding weight
weight-none = refl

-- ---- The pattern before, by its degree and its word: they decide which words may follow.

-- a comparison that is made first, and at a tie a second one
module _ {m n u v : ℕ} where
  before-says : (o o' : Ordering) → Says o m n → Says o' u v → T (is_before (then_by o o')) → (m ≤ n) × (m ≡ n → u < v)
  unfolding then_by
  before-says Ordering.lt o' h k t = (omega arith, λ e. omega arith)
  before-says Ordering.eq Ordering.lt h k t = (omega arith, λ e. k)
  before-says Ordering.eq Ordering.eq h k t = absurd t
  before-says Ordering.eq Ordering.gt h k t = absurd t
  before-says Ordering.gt o' h k t = absurd t

  says-before : (o o' : Ordering) → Says o m n → Says o' u v → m ≤ n → (m ≡ n → u < v) → T (is_before (then_by o o'))
  unfolding then_by
  says-before Ordering.lt o' h k low tie = tt
  says-before Ordering.eq Ordering.lt h k low tie = tt
  says-before Ordering.eq Ordering.eq h k low tie = absurd (omega (arith, tie h))
  says-before Ordering.eq Ordering.gt h k low tie = absurd (omega (arith, tie h))
  says-before Ordering.gt o' h k low tie = absurd (omega arith)

pub record Latest (before : Sum) (d last : ℕ) : Type 0 where
  pub most : d ≤ largest_degree
  pub passes : (w : ℕ) → Valid w → T (follows before (exponents w)) → (degree (exponents w) ≤ d) × (degree (exponents w) ≡ d → w < last)
  pub follow : (w : ℕ) → Valid w → degree (exponents w) ≤ d → (degree (exponents w) ≡ d → w < last) → T (follows before (exponents w))

-- at first each word of a pattern may follow: none is the largest
latest-none : Latest [] largest_degree 18446744073709551615
unfolding follows
latest-none = record {
  most = omega arith;
  passes = λ w valid t. (valid.low, λ e. omega (arith, quotient-small w valid));
  follow = λ w valid low tie. tt;
}

latest-some : (before : Sum) (c : ℤ) (v d : ℕ) → Valid v → d ≡ degree (exponents v) → Latest (term c (exponents v) ∷ before) d v
unfolding follows
latest-some before c v d is e = record {
  most = omega (arith, is.low);
  passes = λ w valid t.
      let says = before-says _ _ (compare-says (degree (exponents w)) (degree (exponents v))) (compare-says w v) (rw (word-order v w is valid) at t) in
      (omega (arith, says.0), λ tie. says.1 (tie ∙ e));
  follow = λ w valid low tie.
      rw (word-order v w is valid)
      (says-before _ _ (compare-says (degree (exponents w)) (degree (exponents v))) (compare-says w v) (omega arith) (λ same. tie (same ∙ sym e)));
}

-- ---- The loop.

pub record Judging (ws : List ℕ) (cs : List ℤ) (total d last k : ℕ) : Type 0 where
  -- the terms so far, the last of them first
  pub before : Sum
  pub left : good_terms [] ws cs ≡ k + good_terms before (drop k ws) (drop k cs)
  pub weighed : total ≡ weight before
  pub light : total ≤ largest_weight
  pub latest : Latest before d last
  pub inside : k ≤ length ws
  pub as_many : length cs ≡ length ws

pub start : (ws : List ℕ) (cs : List ℤ) → length cs ≡ length ws → Judging ws cs 0 largest_degree 18446744073709551615 0
start ws cs as_many = record {
  before = [];
  left = omega arith;
  weighed = sym weight-none;
  light = omega arith;
  latest = latest-none;
  inside = omega arith;
  as_many = as_many;
}

pub ended : {ws : List ℕ} {cs : List ℤ} {total d last k : ℕ} → Judging ws cs total d last k → length ws ≤ k → length ws ≡ good_terms [] ws cs
ended {ws} {cs} {total} {d} {last} {k} j h =
    let no_more : good_terms j.before (drop k ws) (drop k cs) ≡ 0 =
    ap (λ l. good_terms j.before l (drop k cs)) (drop_of_length-le ws h) ∙ none_left j.before (drop k cs) in
    omega (arith, j.left, j.inside)

-- ---- One more term is met.

pub record Meeting (ws : List ℕ) (cs : List ℤ) (total d last k size : ℕ) : Type 0 where
  pub judging : Judging ws cs total d last k
  pub more : k < length ws
  -- `size` is what the code has for its absolute coefficient
  pub is : size ≡ nat_abs (get_or cs k (pos 0))

module _ {ws : List ℕ} {cs : List ℤ} {total d last k size : ℕ} (m : Meeting ws cs total d last k size) where
  abbrev before : Sum
  before = m.judging.before

  abbrev c : ℤ
  c = get_or cs k (pos 0)

  abbrev w : ℕ
  w = get_or ws k 0

  -- what is left after it
  abbrev words_left : List ℕ
  words_left = drop (k + 1) ws

  abbrev coefficients-left : List ℤ
  coefficients-left = drop (k + 1) cs

  next : good_terms before (drop k ws) (drop k cs) ≡ good_terms before (w ∷ words_left) (c ∷ coefficients-left)
  next =
      rw add-one (ap₂ (good_terms before) (drop-cons ws k 0 m.more) (drop-cons cs k (pos 0) (omega (arith, m.more, m.judging.as_many))))

  stops : (Valid (get_or ws k 0) → Fit variables before (term (get_or cs k (pos 0)) (exponents (get_or ws k 0))) → ⊥) → k ≡ good_terms [] ws cs
  stops h =
      let bad = bad-next before w c words_left coefficients-left (λ good. let f = good-fit before w c good in h f.0 f.1) in
      let none_more : good_terms before (drop k ws) (drop k cs) ≡ 0 = next ∙ bad in
      omega (arith, m.judging.left)

  pub zero-stops : size ≡ 0 → k ≡ good_terms [] ws cs
  zero-stops h = stops (λ valid f. no_size c (sym m.is ∙ h) (weighs-some (weight before) c f.light))

  pub heavy-stops : largest_weight - total < size → k ≡ good_terms [] ws cs
  heavy-stops h = stops (λ valid f. absurd (omega (arith, m.judging.weighed, m.is, weighs-light (weight before) c f.light)))

  module _ {n : ℕ} (total-is : n ≡ degree (exponents (get_or ws k 0))) where
    pub high-stops : d < n → k ≡ good_terms [] ws cs
    high-stops h = stops (λ valid f. absurd (omega (arith, total-is, (m.judging.latest.passes w valid f.after).0)))

    pub early-stops : n ≡ d → last ≤ get_or ws k 0 → k ≡ good_terms [] ws cs
    early-stops e h = stops (λ valid f. absurd (omega (arith, (m.judging.latest.passes w valid f.after).1 (sym total-is ∙ e))))

    pub again : (size ≡ 0 → ⊥) → size ≤ largest_weight - total → get_or ws k 0 < 2 ^ 64 → n ≤ d → (n ≡ d → get_or ws k 0 < last)
        → Judging ws cs (total + size) n (get_or ws k 0) (k + 1)
    again some light small low tie =
        let j = m.judging in
        let t = term c (exponents w) in
        let valid : Valid w = test-valid w (rw (low-decides w small) (le→leb (degree (exponents w)) largest_degree (omega (arith, total-is, j.latest.most)))) in
        let fit : Fit variables before t = record {
          light = weighs_is (weight before) c (some_size c (λ e. some (m.is ∙ e))) (omega (arith, j.weighed, j.light, m.is));
          low = valid.low;
          after = j.latest.follow w valid (omega (arith, total-is)) (λ e. tie (total-is ∙ e));
          long = exponents-length w;
        } in
        let one_more : good_terms before (drop k ws) (drop k cs) ≡ suc (good_terms (t ∷ before) words_left coefficients-left) =
        next ∙ good-next before w c words_left coefficients-left (fit-good before w c valid fit) in
        record {
          before = t ∷ before;
          left = omega (arith, j.left);
          weighed = omega (arith, j.weighed, m.is, weight-cons t before);
          light = omega (arith, j.light);
          latest = latest-some before c w n valid total-is;
          inside = omega (arith, m.more);
          as_many = j.as_many;
        }
