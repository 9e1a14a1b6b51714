-- What the loop of `merge` keeps: what was done stands in the first places of the two areas.
use mathlib.Core.Path.{◌≡◌, refl, sym, ◌∙◌, ap, ap₂}
use mathlib.Core.Bool.{true, false}
use mathlib.Core.List.{List, [], ◌∷◌, ◌++◌}
use Prim.Native.Nat.{Ordering}
use Prim.Native.Nat.{ℕ, ◌+◌, ◌≤◌, ◌<◌}
use native.Mathlib.Omega.{arith}
use lib.Dec.{T}
use lib.IntN.{ℤ, pos, ◌+ℤ◌}
use lib.ListN.{length, get_or, set, length-append}
use mir.Syntax.{w64}
use mir.Val.{SFits}
use Rattle.algebra.specs.Limits.{variables, most_terms}
use Rattle.algebra.specs.Pattern.{order}
use Rattle.algebra.specs.Sum.{Term, term, Sum, is_zero, no_zero}
use Rattle.algebra.specs.Arithmetic.{◌⊕◌, sum_spread}
use Rattle.algebra.specs.Word.{word, terms}
use Rattle.algebra.proofs.Numbers.Absolute.{abs-add}
use Rattle.algebra.proofs.Sums.Ordered.{parts}
use Rattle.algebra.proofs.Sums.Results.{sum-length}
use Rattle.answers.proofs.Signed.{fits-abs}
use Rattle.sums.specs.Held.{Held, HeldSum}
use Rattle.sums.specs.Asked.{Addends}
use Rattle.sums.specs.Formed.{Formed.formed, formed_into}
use Rattle.sums.specs.Adding.{next_stands}
use Rattle.sums.proofs.Holding.{as_many, terms-many, term-at, size-at, each-valid}
use Rattle.sums.proofs.Merging.{none}
use Rattle.sums.proofs.Storing.{Stored, stored-none, stored_next, stored-into}
use Rattle.sums.proofs.Nexts.{next-first, next-second, next_both}
use Rattle.sums.proofs.Joining.{Joining, start, bounded, ended, takes_first, takes-second, takes-both, drops-both}

-- ---- The terms of an operand, as they are read.

full : {ws : List ℕ} {cs : List ℤ} → HeldSum ws cs → T (no_zero (terms ws cs))
full {ws} {cs} h = (parts variables (terms ws cs) h.accepted.is_ordered).full

module _ {ws : List ℕ} {cs : List ℤ} (held : Held ws cs) (x : ℕ) (h : x < length ws) where
  word_at : get_or ws x 0 ≡ word (get_or (terms ws cs) x none).pattern
  word_at =
      let w = get_or ws x 0 in
      sym (each-valid held x h).is ∙ ap (λ (u : Term). word u.pattern) (sym (term-at held x h none))

  coefficient-at : get_or cs x (pos 0) ≡ (get_or (terms ws cs) x none).coefficient
  coefficient-at = ap (λ (u : Term). u.coefficient) (sym (term-at held x h none))

-- ---- The loop.

pub record Merges (sp : List ℕ) (sc : List ℤ) (tp : List ℕ) (tc : List ℤ) (ws₀ : List ℕ) (cs₀ : List ℤ) (ws : List ℕ) (cs : List ℤ) (x y k : ℕ) : Type 0 where
  pub addends : Addends sp sc tp tc
  pub done : Sum
  pub joining : Joining (terms sp sc) (terms tp tc) x y done
  pub stored : Stored ws₀ cs₀ done ws cs
  pub many : length done ≡ k
  -- where the loop is, and how much room there is
  pub first_inside : x ≤ length sp
  pub second_inside : y ≤ length tp
  pub fewer : k ≤ sum_spread (terms sp sc) (terms tp tc)
  pub words_room : sum_spread (terms sp sc) (terms tp tc) ≤ length ws
  pub coefficients_room : sum_spread (terms sp sc) (terms tp tc) ≤ length cs
  pub first_few : length sp ≤ most_terms
  pub second_few : length tp ≤ most_terms
  pub first_same : length sp ≡ length sc
  pub second_same : length tp ≡ length tc

module _ {sp : List ℕ} {sc : List ℤ} {tp : List ℕ} {tc : List ℤ} {ws₀ : List ℕ} {cs₀ : List ℤ} (addends : Addends sp sc tp tc)
    (words_room : sum_spread (terms sp sc) (terms tp tc) ≤ length ws₀) (coefficients_room : sum_spread (terms sp sc) (terms tp tc) ≤ length cs₀) where
  built : {ws : List ℕ} {cs : List ℤ} {x y k : ℕ} (done : Sum) → Joining (terms sp sc) (terms tp tc) x y done → Stored ws₀ cs₀ done ws cs → length done ≡ k
      → Merges sp sc tp tc ws₀ cs₀ ws cs x y k
  built done joining stored many =
      let one = addends.first.held in
      let two = addends.second.held in
      record {
        addends = addends;
        done = done;
        joining = joining;
        stored = stored;
        many = many;
        first_inside = omega (arith, joining.first, terms-many one);
        second_inside = omega (arith, joining.second, terms-many two);
        fewer = omega (arith, bounded joining, many, sum-length (terms sp sc) (terms tp tc));
        words_room = omega (arith, words_room, stored.same_words);
        coefficients_room = omega (arith, coefficients_room, stored.same_coefficients);
        first_few = one.few;
        second_few = two.few;
        first_same = as_many one;
        second_same = as_many two;
      }

  pub begin : Merges sp sc tp tc ws₀ cs₀ ws₀ cs₀ 0 0 0
  begin = built [] (start (terms sp sc) (terms tp tc)) (stored-none ws₀ cs₀) refl

module _ {sp : List ℕ} {sc : List ℤ} {tp : List ℕ} {tc : List ℤ} {ws₀ : List ℕ} {cs₀ : List ℤ} {ws : List ℕ} {cs : List ℤ} {x y k : ℕ} (l : Merges sp sc tp tc ws₀ cs₀ ws cs x y k) where
  abbrev s : Sum
  s = terms sp sc

  abbrev t : Sum
  t = terms tp tc

  abbrev u : Term
  u = get_or (terms sp sc) x none

  abbrev v : Term
  v = get_or (terms tp tc) y none

  one : Held sp sc
  one = l.addends.first.held

  two : Held tp tc
  two = l.addends.second.held

  -- what was done goes on, with the areas that are given
  on : {ws' : List ℕ} {cs' : List ℤ} {x' y' k' : ℕ} (done : Sum) → Joining s t x' y' done → Stored ws₀ cs₀ done ws' cs' → length done ≡ k' → Merges sp sc tp tc ws₀ cs₀ ws' cs' x' y' k'
  on =
      built l.addends (omega (arith, l.words_room, l.stored.same_words)) (omega (arith, l.coefficients_room, l.stored.same_coefficients))

  -- one term more
  fewer-done : {x' y' : ℕ} (w : Term) → Joining s t x' y' (l.done ++ (w ∷ [])) → k < sum_spread s t
  fewer-done w j = omega (arith, bounded j, length-append l.done (w ∷ []), l.many, sum-length s t)

  puts : {x' y' : ℕ} (w : Term) → Joining s t x' y' (l.done ++ (w ∷ [])) → {v : ℕ} {c : ℤ} → v ≡ word w.pattern → c ≡ w.coefficient
      → Merges sp sc tp tc ws₀ cs₀ (set ws k v) (set cs k c) x' y' (k + 1)
  puts w j {v} {c} word_is is =
      let f = fewer-done w j in
      on (l.done ++ (w ∷ [])) j
      (stored_next l.stored w k v c l.many (omega (arith, l.words_room, l.stored.same_words)) (omega (arith, l.coefficients_room, l.stored.same_coefficients)) word_is is)
      (length-append l.done (w ∷ []) ∙ ap (λ (z : ℕ). z + 1) l.many)

  module _ (left : x + y < length sp + length tp) where
    module _ (e : next_stands x sp y tp ≡ Ordering.lt) where
      join_first : (x < length sp) × Joining s t (x + 1) y (l.done ++ (u ∷ []))
      join_first =
          let c = next-first one two x y l.first_inside l.second_inside left e in (
            c.0,
            takes_first one.strict (full l.addends.first) two.strict (full l.addends.second) l.joining (omega (arith, c.0, terms-many one)) (λ g. c.1 (omega (arith, terms-many two))),
          )

      pub may-first : (x < length sp) × (k < sum_spread (terms sp sc) (terms tp tc))
      may-first = (join_first.0, fewer-done _ join_first.1)

      pub steps_first : {c : ℤ} → c ≡ get_or sc x (pos 0) → Merges sp sc tp tc ws₀ cs₀ (set ws k (get_or sp x 0)) (set cs k c) (x + 1) y (k + 1)
      steps_first is = let h = join_first.0 in puts u join_first.1 (word_at one x h) (is ∙ coefficient-at one x h)

    module _ (e : next_stands x sp y tp ≡ Ordering.gt) where
      join-second : (y < length tp) × Joining s t x (y + 1) (l.done ++ (v ∷ []))
      join-second =
          let c = next-second one two x y l.first_inside l.second_inside left e in (
            c.0,
            takes-second one.strict (full l.addends.first) two.strict (full l.addends.second) l.joining (omega (arith, c.0, terms-many two)) (λ h. c.1 (omega (arith, terms-many one))),
          )

      pub may-second : (y < length tp) × (k < sum_spread (terms sp sc) (terms tp tc))
      may-second = (join-second.0, fewer-done _ join-second.1)

      pub steps-second : {c : ℤ} → c ≡ get_or tc y (pos 0) → Merges sp sc tp tc ws₀ cs₀ (set ws k (get_or tp y 0)) (set cs k c) x (y + 1) (k + 1)
      steps-second is = let h = join-second.0 in puts v join-second.1 (word_at two y h) (is ∙ coefficient-at two y h)

    module _ (e : next_stands x sp y tp ≡ Ordering.eq) where
      abbrev c : ℤ
      c = get_or sc x (pos 0)

      abbrev d : ℤ
      d = get_or tc y (pos 0)

      case-both : ((x < length sp) × (y < length tp)) × (order u.pattern v.pattern ≡ Ordering.eq)
      case-both = next_both one two x y l.first_inside l.second_inside left e

      pub there : (x < length sp) × (y < length tp)
      there = case-both.0

      -- the two coefficients together fit a word
      pub both-fit : SFits w64 (get_or sc x (pos 0) +ℤ get_or tc y (pos 0))
      both-fit = fits-abs (c +ℤ d) (omega (arith, abs-add c d, size-at one x there.0, size-at two y there.1, l.addends.light))

      sum_is : u.coefficient +ℤ v.coefficient ≡ c +ℤ d
      sum_is = sym (ap₂ ◌+ℤ◌ (coefficient-at one x there.0) (coefficient-at two y there.1))

      inside-s : x < length s
      inside-s = omega (arith, terms-many one, there.0)

      inside-t : y < length t
      inside-t = omega (arith, terms-many two, there.1)

      pub steps-none : is_zero (get_or sc x (pos 0) +ℤ get_or tc y (pos 0)) ≡ true → Merges sp sc tp tc ws₀ cs₀ ws cs (x + 1) (y + 1) k
      steps-none cancels =
          on l.done
          (drops-both one.strict (full l.addends.first) two.strict (full l.addends.second) l.joining inside-t inside-s case-both.1 (ap is_zero sum_is ∙ cancels))
          l.stored l.many

      module _ (other : is_zero (get_or sc x (pos 0) +ℤ get_or tc y (pos 0)) ≡ false) where
        join-both : Joining s t (x + 1) (y + 1) (l.done ++ (term (u.coefficient +ℤ v.coefficient) u.pattern ∷ []))
        join-both = takes-both one.strict (full l.addends.first) two.strict (full l.addends.second) l.joining inside-t inside-s case-both.1 (ap is_zero sum_is ∙ other)

        pub may-both : k < sum_spread (terms sp sc) (terms tp tc)
        may-both = fewer-done _ join-both

        pub steps-both : {z : ℤ} → z ≡ get_or sc x (pos 0) +ℤ get_or tc y (pos 0) → Merges sp sc tp tc ws₀ cs₀ (set ws k (get_or sp x 0)) (set cs k z) (x + 1) (y + 1) (k + 1)
        steps-both is = puts _ join-both (word_at one x there.0) (is ∙ sym sum_is)

  pub finally : length sp + length tp ≤ x + y → (formed k, ws, cs) ≡ formed_into (formed (terms sp sc ⊕ terms tp tc)) ws₀ cs₀
  finally h =
      stored-into k l.stored l.many ∙ ap (λ (r : Sum). formed_into (formed r) ws₀ cs₀) (ended l.joining (omega (arith, terms-many one, terms-many two)))
