-- A sum, or a product with a node of one term: the operands are read where they stand, and what they give is formed in two arrays and put into the part of node i.
use mathlib.Core.Path.{◌≡◌, refl, sym, ◌∙◌, ap}
use mathlib.Core.List.{List, [], ◌++◌, map}
use Prim.Native.Nat.{ℕ, suc, ◌+◌, ◌*◌, ◌-◌, ◌≤◌}
use native.Mathlib.Omega.{arith}
use native.Mathlib.Nat.{add_comm, mul_comm}
use borrow.Author.Tests.{lt-ltb}
use borrow.Rule.Slice.PartMut.{put_mid}
use lib.IntN.{ℤ, pos}
use lib.ListN.{length, get_or, take, drop, length-map}
use lib.Seq.{length-take-le, drop_at, take-append-add}
use Rattle.std.proofs.lemmas.List.{drop-take}
use Rattle.std.proofs.lemmas.Slice.{take-put_mid_below, drop-put_mid}
use Rattle.algebra.specs.Limits.{most_terms}
use Rattle.algebra.specs.Sum.{term, Sum, degree_of, weight}
use Rattle.algebra.specs.Collect.{drop_zeros}
use Rattle.algebra.specs.Arithmetic.{row, ◌⊕◌, sum_spread, ◌⊗◌, product_spread}
use Rattle.algebra.specs.Word.{exponents, terms}
use Rattle.algebra.specs.Held.{words_of, coefficients_of}
use Rattle.algebra.proofs.Sums.Results.{sum-length, product-length}
use Rattle.answers.specs.Areas.{written}
use Rattle.answers.proofs.Writes.{written-front}
use Rattle.std.specs.Prelude.{Option, Some, None}
use Rattle.sums.specs.Asked.{Factors}
use Rattle.sums.specs.Formed.{Formed, formed_of, Formed.formed, Formed.over, within, formed_into, sum_of, product_of}
use Rattle.sums.specs.Part.{part}
use Rattle.sums.proofs.Forming.{within-yes, within-no}
use Rattle.sums.proofs.Answering.{Known, given, refused}
use Rattle.sums.proofs.ByTerm.{by_one}
use Rattle.sums.proofs.Multiplying.{product_turned}
use Rattle.nodes.specs.Node.{Kind.product}
use Rattle.nodes.specs.Formal.{formal_degree, formal_weight}
use Rattle.nodes.specs.Inside.Work.{sums_at, node_formed, FormedAt, Ready, PutAt}
use Rattle.nodes.proofs.Formally.{two-children}
use Rattle.nodes.proofs.Working.{factors-formed}

-- ---- The product does not depend on the order of its operands.

degree-turned : (ds : List ℕ) (a b : ℕ) → formal_degree ds (product a b) ≡ formal_degree ds (product b a)
unfolding formal_degree
degree-turned ds a b = add_comm (get_or ds a 0) (get_or ds b 0)

weight-turned : (hs : List ℕ) (a b : ℕ) → formal_weight hs (product a b) ≡ formal_weight hs (product b a)
unfolding formal_weight
weight-turned hs a b = mul_comm (get_or hs a 0) (get_or hs b 0)

pub ready_turned : {i a b : ℕ} {ns : List ℕ} {ws : List ℕ} {cs : List ℤ} → Ready i ns ws cs (product a b) → Ready i ns ws cs (product b a)
ready_turned {i} {a} {b} {ns} {ws} {cs} r =
    let h = two-children i a b r.node_is in
    record {
      node_is = rw (lt-ltb b i h.1, lt-ltb a i h.0) tt;
      counted = r.counted;
      words_room = r.words_room;
      coefficients_room = r.coefficients_room;
      keeps = r.keeps;
      low = omega (arith, r.low, degree-turned (map degree_of (sums_at i ns ws cs)) a b);
      light = omega (arith, r.light, weight-turned (map weight (sums_at i ns ws cs)) a b);
    }

pub formed-turned : (ss : List Sum) (a b : ℕ) → node_formed ss (product b a) ≡ node_formed ss (product a b)
formed-turned ss a b = sym (factors-formed ss b a refl refl) ∙ product_turned (get_or ss b []) (get_or ss a []) ∙ factors-formed ss a b refl refl

-- ---- A sum that was formed in two arrays, and put into the part of node i: ps and ds are the arrays before, ps' and ds' after.

pub record Made (f : Formed Sum) (ps : List ℕ) (ds : List ℤ) (ps' : List ℕ) (ds' : List ℤ) (answer : Option ℕ) : Type 0 where
  pub spread : ℕ
  pub made : Sum
  pub small : length made ≤ spread
  pub is : within spread made ≡ f
  pub told : (formed_of answer, ps', ds') ≡ formed_into (within spread made) ps ds

module _ {ps : List ℕ} {ds : List ℤ} {ps' : List ℕ} {ds' : List ℤ} (answer : Option ℕ) where
  pub sum_made : (s t : Sum) {f : Formed Sum} → sum_of s t ≡ f → (formed_of answer, ps', ds') ≡ formed_into (sum_of s t) ps ds → Made f ps ds ps' ds' answer
  unfolding sum_of
  sum_made s t is e = record { spread = sum_spread s t; made = s ⊕ t; small = sum-length s t; is = is; told = e }

  product-made : (s t : Sum) {f : Formed Sum} → product_of s t ≡ f → (formed_of answer, ps', ds') ≡ formed_into (product_of s t) ps ds → Made f ps ds ps' ds' answer
  unfolding product_of
  product-made s t is e = record { spread = product_spread s t; made = s ⊗ t; small = product-length s t; is = is; told = e }

  -- the first operand has one term
  pub term_made : {sp tp : List ℕ} {sc tc : List ℤ} → Factors sp sc tp tc → length sp ≡ 1 → {z : ℤ} → z ≡ get_or sc 0 (pos 0) → {f : Formed Sum} → product_of (terms sp sc) (terms tp tc) ≡ f
      → (formed_of answer, ps', ds') ≡ formed_into (formed (drop_zeros (row (term z (exponents (get_or sp 0 0))) (terms tp tc)))) ps ds
      → Made f ps ds ps' ds' answer
  term_made {sp} {tp} {sc} {tc} g alone c-is is e =
      product-made (terms sp sc) (terms tp tc) is
      (e
      ∙ ap (λ (z : ℤ). formed_into (formed (drop_zeros (row (term z (exponents (get_or sp 0 0))) (terms tp tc)))) ps ds) c-is
      ∙ ap (λ (x : Formed Sum). formed_into x ps ds) (by_one g alone))

module _ {f : Formed Sum} {ps : List ℕ} {ds : List ℤ} {ps' : List ℕ} {ds' : List ℤ} {answer : Option ℕ} (m : Made f ps ds ps' ds' answer) where
  -- a refusal leaves the areas
  pub put-none : (i : ℕ) (ws : List ℕ) (cs : List ℤ) → answer ≡ None → FormedAt i f over ws cs ws cs
  unfolding formed_into
  put-none i ws cs other =
      let none : f ≡ over = sym m.is ∙ within-no m.spread m.made (refused m.spread m.made ps ds ps' ds' answer other m.told) in
      record { in_part = rw none refl; words_before = refl; words_after = refl; coefficients_before = refl; coefficients_after = refl }

  module _ {n : ℕ} (some : answer ≡ Some n) where
    there : Known m.spread m.made ps ds ps' ds' n
    there = given m.spread m.made ps ds ps' ds' answer some m.told

    words-front : (take n ps' ≡ words_of m.made) × (n ≤ length ps')
    words-front = written-front (words_of m.made) ps there.words_are (length-map m.made _ ∙ there.many)

    coefficients-front : (take n ds' ≡ coefficients_of m.made) × (n ≤ length ds')
    coefficients-front = written-front (coefficients_of m.made) ds there.coefficients_are (length-map m.made _ ∙ there.many)

    pub few : n ≤ most_terms
    few = omega (arith, there.few, there.many, m.small)

    pub in_words : n ≤ length ps'
    in_words = words-front.1

    pub in_coefficients : n ≤ length ds'
    in_coefficients = coefficients-front.1

    pub put-formed : (i : ℕ) {ws : List ℕ} {cs : List ℤ} {ws' : List ℕ} {cs' : List ℤ} → PutAt i (take n ps') ws ws' → PutAt i (take n ds') cs cs' → FormedAt i f (formed n) ws cs ws' cs'
    unfolding formed_into
    put-formed i words coefficients =
        let all : f ≡ formed m.made = sym m.is ∙ within-yes m.spread m.made there.few in
        record {
          in_part = rw (all, words.in_part, coefficients.in_part, words-front.0, coefficients-front.0, there.many) refl;
          words_before = words.before;
          words_after = words.after;
          coefficients_before = coefficients.before;
          coefficients_after = coefficients.after;
        }

-- ---- Values that were copied to the first places of a part.

module _ {A : Type 0} where
  -- the first places of a slice that begins at place a
  put_front : (a k m : ℕ) (xs ys : List A) → a ≤ length xs → length ys ≡ k → take (k + m) (drop a (put_mid a k xs ys)) ≡ written ys (take (k + m) (drop a xs))
  put_front a k m xs ys inside many =
      ap (take (k + m)) (drop_at (take a xs) (ys ++ drop k (drop a xs)) a (length-take-le a xs inside))
      ∙ ap (λ (n : ℕ). take (n + m) (ys ++ drop k (drop a xs))) (sym many)
      ∙ take-append-add ys (drop k (drop a xs)) m
      ∙ ap (λ l. ys ++ l) (sym (drop-take k m (drop a xs)))
      ∙ ap (λ (n : ℕ). ys ++ drop n (take (k + m) (drop a xs))) (sym many)

  pub put-at : (i count : ℕ) (values xs : List A) → most_terms * i + most_terms ≤ length xs → count ≤ most_terms → length values ≡ count → {ys : List A} → ys ≡ values
      → PutAt i values xs (put_mid (most_terms * i) (most_terms * i + count - most_terms * i) xs ys)
  put-at i count values xs room few many {ys} e =
      let a = most_terms * i in
      let k = most_terms * i + count - most_terms * i in
      let long : length ys ≡ k = omega (arith, ap length e, many) in
      let all : most_terms ≡ k + (most_terms - count) = omega arith in
      record {
        in_part =
            ap (λ (n : ℕ). take n (drop a (put_mid a k xs ys))) all
            ∙ put_front a k (most_terms - count) xs ys (omega arith) long
            ∙ ap (λ (n : ℕ). written ys (take n (drop a xs))) (sym all)
            ∙ ap (λ l. written l (part i xs)) e;
        before = take-put_mid_below a k xs ys a (omega arith) (omega arith);
        after = drop-put_mid a k xs ys (most_terms * suc i) (omega arith) (omega arith) long;
      }
