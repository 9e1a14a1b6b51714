-- What the loop over the pairs keeps: what the pairs before made stands in the first places of the two areas, and the pairs from pair j on decide.
use mathlib.Core.Path.{◌≡◌, refl, sym, ◌∙◌, ap, ap₂}
use mathlib.Core.List.{List, ◌∷◌}
use Prim.Native.Nat.{ℕ, suc, ◌+◌, ◌*◌, ◌-◌, ◌≤◌, ◌<◌}
use native.Mathlib.Omega.{arith}
use native.Mathlib.Numerals.{add-one}
use lib.IntN.{ℤ}
use lib.ListN.{length, get_or, take, drop, length-map, drop_of_length-le}
use lib.Seq.{length-take-le, drop-cons}
use Rattle.algebra.specs.Limits.{variables, most_terms, work_places}
use Rattle.algebra.specs.Sum.{Sum}
use Rattle.algebra.specs.Accepted.{Accepted}
use Rattle.algebra.specs.Word.{terms}
use Rattle.algebra.specs.Held.{words_of, coefficients_of, first_terms}
use Rattle.answers.specs.Answers.{Told.done, Told.refused, outcome}
use Rattle.answers.specs.Areas.{written}
use Rattle.answers.specs.Judge.{Judged, Judged.good, and_then}
use Rattle.answers.proofs.Judging.{then-good}
use Rattle.answers.proofs.Writes.{written-front}
use Rattle.packed.specs.Result.{held_into}
use Rattle.sums.specs.Asked.{Room}
use Rattle.sums.specs.Part.{part}
use Rattle.sums.proofs.Holding.{terms-many, spells, accepted-holdable, holds-sum}
use Rattle.sums.proofs.Parts.{lent-front}
use Rattle.pair.specs.Asked.{CanPut}
use Rattle.change.specs.Pairs.{Pair, pair}
use Rattle.change.specs.Substitute.{judge_pair, judge_pairs}
use Rattle.change.specs.declared.lists.Entry.{Entry}
use Rattle.change.specs.Inside.Kept.{pair_at, pairs_from, KeptAt, Kept, CanApply, HoldsGood}
use Rattle.change.proofs.Passing.{judge-passes}
use Rattle.change.proofs.Meaning.{after-accepted}
use Rattle.change.proofs.Told.{ToldAt, stands-good, done-stands, refused-so}

module _ (es : List Entry) (ws : List ℕ) (cs : List ℤ) where
  -- what the pairs from pair j on make of s, and what all of them make of a sum of n terms
  abbrev judged_from : ℕ → Sum → Judged Sum
  judged_from j s = judge_pairs j (pairs_from j (drop j es) ws cs) s

  abbrev pub judged_all : ℕ → List ℕ → List ℤ → Judged Sum
  judged_all n fp fc = judge_pairs 0 (pairs_from 0 es ws cs) (first_terms n fp fc)

  -- pair j is next
  judged-next : (j : ℕ) (e : Entry) → drop j es ≡ e ∷ drop (suc j) es → (s : Sum) → judged_from j s ≡ and_then (judge_pair j (pair_at e ws cs j) s) (judged_from (suc j))
  judged-next j e is s = rw is (unfold pairs_from judge_pairs in refl)

  -- no pair is left
  judged-none : (j : ℕ) → length es ≤ j → (s : Sum) → judged_from j s ≡ good s
  judged-none j h s = rw (drop_of_length-le es h) (unfold pairs_from judge_pairs in refl)

  pub record Applying (fp₀ : List ℕ) (fc₀ : List ℤ) (n₀ : ℕ) (fp : List ℕ) (fc : List ℤ) (next-patterns : List ℕ) (next-coefficients : List ℤ) (n j : ℕ) : Type 0 where
    pub can : CanApply es ws cs fp fc n
    pub kept : Kept j (drop j es) ws cs
    pub so_far : judged_all n₀ fp₀ fc₀ ≡ judged_from j (first_terms n fp fc)
    pub inside : j ≤ length es
    pub room : Room fp fc
    pub same_words : length fp ≡ length fp₀
    pub same_coefficients : length fc ≡ length fc₀
    pub next_words_room : most_terms ≡ length next-patterns
    pub next_coefficients_room : most_terms ≡ length next-coefficients

  pub start : {fp : List ℕ} {fc : List ℤ} {n : ℕ} {next-patterns : List ℕ} {next-coefficients : List ℤ} → CanApply es ws cs fp fc n → Room fp fc
      → most_terms ≡ length next-patterns → most_terms ≡ length next-coefficients → Applying fp fc n fp fc next-patterns next-coefficients n 0
  start can room next_words_room next_coefficients_room = record {
    can = can;
    kept = can.kept;
    so_far = refl;
    inside = omega arith;
    room = room;
    same_words = refl;
    same_coefficients = refl;
    next_words_room = next_words_room;
    next_coefficients_room = next_coefficients_room;
  }

module _ {es : List Entry} {ws : List ℕ} {cs : List ℤ} {fp₀ : List ℕ} {fc₀ : List ℤ} {n₀ : ℕ}
    {fp : List ℕ} {fc : List ℤ} {next-patterns : List ℕ} {next-coefficients : List ℤ} {n j : ℕ}
    (a : Applying es ws cs fp₀ fc₀ n₀ fp fc next-patterns next-coefficients n j) where
  abbrev s : Sum
  s = first_terms n fp fc

  pub ended : length es ≤ j → HoldsGood (judged_all es ws cs n₀ fp₀ fc₀) (done n) fp fc
  ended h =
      let held = a.can.sum.held in
      stands-good
      (record {
        sum = s;
        is_good = a.so_far ∙ judged-none es ws cs j h s;
        many = terms-many held ∙ length-take-le n fp (omega (arith, a.can.few, a.room.words));
        words_are = held.words_are;
        coefficients_are = held.coefficients_are;
      })

  -- the next pair
  module _ (h : j < length es) where
    abbrev e : Entry
    e = get_or es j (record { variable = 0; terms = 0 })

    abbrev p : Pair
    p = pair_at e ws cs j

    left : drop j es ≡ e ∷ drop (suc j) es
    left = drop-cons es j _ h

    both : KeptAt e ws cs j × Kept (suc j) (drop (suc j) es) ws cs
    both = unfold Kept in (rw left at a.kept)

    kept : KeptAt e ws cs j
    kept = both.0

    -- where its terms end
    pub last-place : most_terms * j + e.terms ≤ work_places
    last-place = omega (arith, kept.few, a.can.inside)

    -- its terms, and those of the sum, as the code lends them
    abbrev count : ℕ
    count = most_terms * j + e.terms - most_terms * j

    abbrev sp : List ℕ
    sp = take count (drop (most_terms * j) ws)

    abbrev sc : List ℤ
    sc = take count (drop (most_terms * j) cs)

    words-lent : sp ≡ take e.terms (part j ws)
    words-lent = lent-front j e.terms kept.few ws

    coefficients-lent : sc ≡ take e.terms (part j cs)
    coefficients-lent = lent-front j e.terms kept.few cs

    pub given : CanPut e.variable sp sc (take n fp) (take n fc)
    given = record { known = kept.known; put = rw (words-lent, coefficients-lent) kept.sum; into = a.can.sum }

    -- what `apply_pair` answers
    module _ {ps : List ℕ} {ds : List ℤ} where
      pub stops : {refusal place : ℕ}
          → outcome (refused refusal place) (ps, ds) ≡ held_into (judge_pair j (pair e.variable (terms sp sc)) (first_terms n fp fc)) next-patterns next-coefficients
          → HoldsGood (judged_all es ws cs n₀ fp₀ fc₀) (refused refusal place) fp fc
      stops tells =
          rw (a.so_far ∙ judged-next es ws cs j e left s)
          (refused-so (judge_pair j p s) (judged_from es ws cs (suc j)) next-patterns next-coefficients (rw (words-lent, coefficients-lent) at tells) fp fc)

      module _ {m : ℕ} (tells : outcome (done m) (ps, ds) ≡ held_into (judge_pair j (pair e.variable (terms sp sc)) (first_terms n fp fc)) next-patterns next-coefficients) where
        made : ToldAt (judge_pair j p s) ps ds m
        made = done-stands (judge_pair j p s) next-patterns next-coefficients (rw (words-lent, coefficients-lent) at tells)

        made-accepted : Accepted variables made.sum
        made-accepted =
            let q = judge-passes j p s made.is_good in
            rw q.1 (after-accepted (record { known = kept.known; accepted = kept.sum.accepted }) a.can.sum.accepted q.0)

        pub made-few : m ≤ most_terms
        made-few = omega (arith, made.many, made-accepted.few)

        pub again : {fp' : List ℕ} {fc' : List ℤ} → fp' ≡ written (take m ps) fp → fc' ≡ written (take m ds) fc → length fp' ≡ length fp → length fc' ≡ length fc
            → length ps ≡ length next-patterns → length ds ≡ length next-coefficients → Applying es ws cs fp₀ fc₀ n₀ fp' fc' ps ds m (j + 1)
        again {fp'} {fc'} words coefficients words-stay coefficients_stay same-next-words same-next-coefficients =
            let t = made.sum in
            let as-words = words ∙ ap (λ l. written l fp) made.words_are in
            let as-coefficients = coefficients ∙ ap (λ l. written l fc) made.coefficients_are in
            let front-words = (written-front (words_of t) fp as-words (length-map t _ ∙ made.many)).0 in
            let front-coefficients = (written-front (coefficients_of t) fc as-coefficients (length-map t _ ∙ made.many)).0 in
            let stands : first_terms m fp' fc' ≡ t = ap₂ terms front-words front-coefficients ∙ spells (accepted-holdable made-accepted) in
            record {
              can = record {
                inside = a.can.inside;
                words_room = a.can.words_room;
                coefficients_room = a.can.coefficients_room;
                kept = a.can.kept;
                few = made-few;
                sum = rw (front-words, front-coefficients) (holds-sum made-accepted);
              };
              kept = rw (add-one j) both.1;
              so_far =
                  rw (add-one j, stands)
                  (a.so_far ∙ judged-next es ws cs j e left s ∙ then-good (judged_from es ws cs (suc j)) made.is_good);
              inside = omega arith;
              room = record { words = omega (arith, words-stay, a.room.words); coefficients = omega (arith, coefficients_stay, a.room.coefficients) };
              same_words = words-stay ∙ a.same_words;
              same_coefficients = coefficients_stay ∙ a.same_coefficients;
              next_words_room = a.next_words_room ∙ sym same-next-words;
              next_coefficients_room = a.next_coefficients_room ∙ sym same-next-coefficients;
            }
