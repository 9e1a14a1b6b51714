-- Pairs kept in entries and in the parts of two areas: one pair more comes into the next part, and those before it stay.
use mathlib.Core.Path.{◌≡◌, refl, sym, ◌∙◌, ap, ap₂, subst}
use mathlib.Core.List.{List, [], ◌∷◌, ◌++◌}
use Prim.Native.Nat.{ℕ, suc, ◌+◌, ◌*◌, ◌≤◌, ◌<◌}
use native.Mathlib.Omega.{arith}
use native.Mathlib.Nat.{add-zero}
use lib.IntN.{ℤ}
use lib.ListN.{length, take, drop, set, length-map}
use lib.Seq.{take-suc-set, length-take-le}
use borrow.Rule.Slice.PartMut.{mid_of, put_mid}
use Rattle.algebra.specs.Limits.{variables, most_terms, work_places}
use Rattle.algebra.specs.Sum.{Sum}
use Rattle.algebra.specs.Accepted.{Accepted}
use Rattle.algebra.specs.Word.{terms}
use Rattle.algebra.specs.Held.{words_of, coefficients_of}
use Rattle.answers.specs.Areas.{written}
use Rattle.answers.proofs.Writes.{written-front}
use Rattle.sums.specs.Part.{part}
use Rattle.sums.proofs.Holding.{spells, accepted-holdable, holds-sum}
use Rattle.sums.proofs.Parts.{span, lent, part_length, part-put, before-put, after-put, part-before, drop-further}
use Rattle.change.specs.Pairs.{Pair, pair}
use Rattle.change.specs.declared.lists.Entry.{Entry}
use Rattle.change.specs.Inside.Kept.{pair_at, pairs_from, KeptAt, Kept}

-- ---- The pairs from one on: their number, and that the last of them stands behind the others.

module _ (ws : List ℕ) (cs : List ℤ) where
  pub pairs-many : (j : ℕ) (es : List Entry) → length (pairs_from j es ws cs) ≡ length es
  unfolding pairs_from
  pairs-many j [] = refl
  pairs-many j (e ∷ es) = ap suc (pairs-many (suc j) es)

  pairs-last : (j : ℕ) (es : List Entry) (e : Entry) → pairs_from j (es ++ (e ∷ [])) ws cs ≡ pairs_from j es ws cs ++ (pair_at e ws cs (j + length es) ∷ [])
  unfolding pairs_from
  pairs-last j [] e = ap (λ (i : ℕ). pair_at e ws cs i ∷ []) (sym (add-zero j))
  pairs-last j (f ∷ es) e =
      let same : suc j + length es ≡ j + suc (length es) = omega arith in
      ap (λ l. pair_at f ws cs j ∷ l) (pairs-last (suc j) es e ∙ ap (λ (i : ℕ). pairs_from (suc j) es ws cs ++ (pair_at e ws cs i ∷ [])) same)

  kept-last : (j : ℕ) (es : List Entry) (e : Entry) → Kept j es ws cs → KeptAt e ws cs (j + length es) → Kept j (es ++ (e ∷ [])) ws cs
  unfolding Kept
  kept-last j [] e before last = (subst (KeptAt e ws cs) (add-zero j) last, tt)
  kept-last j (f ∷ es) e before last =
      let same : j + suc (length es) ≡ suc j + length es = omega arith in
      (before.0, kept-last (suc j) es e before.1 (subst (KeptAt e ws cs) same last))

-- ---- Areas that are alike in a part keep the same there.

module _ (ws : List ℕ) (cs : List ℤ) (ws' : List ℕ) (cs' : List ℤ) where
  record Same (i : ℕ) : Type 0 where
    words_are : part i ws' ≡ part i ws
    coefficients_are : part i cs' ≡ part i cs

  kept_same : (j : ℕ) (es : List Entry) → ((i : ℕ) → i < j + length es → Same i) → Kept j es ws cs → Kept j es ws' cs'
  unfolding Kept
  kept_same j [] m k = tt
  kept_same j (e ∷ es) m k =
      let here = m j (omega arith) in (
        record { known = k.0.known; few = k.0.few; sum = rw (here.words_are, here.coefficients_are) k.0.sum },
        kept_same (suc j) es (λ i h. m i (omega arith)) k.1,
      )

  pairs-same : (j : ℕ) (es : List Entry) → ((i : ℕ) → i < j + length es → Same i) → pairs_from j es ws' cs' ≡ pairs_from j es ws cs
  unfolding pairs_from
  pairs-same j [] m = refl
  pairs-same j (e ∷ es) m =
      let here = m j (omega arith) in
      let pair_same : pair_at e ws' cs' j ≡ pair_at e ws cs j = rw (here.words_are, here.coefficients_are) in
      ap₂ (λ (p : Pair) (l : List Pair). p ∷ l) pair_same (pairs-same (suc j) es (λ i h. m i (omega arith)))

-- ---- A sum that was read into the parts that are lent for pair j.

-- what stays past the places for work
pub stays_put : {A : Type 0} (j : ℕ) (xs₀ xs ys : List A) → most_terms * suc j ≤ work_places → work_places ≤ length xs → length ys ≡ length (mid_of (most_terms * j) (span j) xs)
    → drop work_places xs ≡ drop work_places xs₀ → drop work_places (put_mid (most_terms * j) (span j) xs ys) ≡ drop work_places xs₀
stays_put j xs₀ xs ys inside room same stay =
    let fits : most_terms * suc j ≤ length xs = omega arith in
    let many : length ys ≡ most_terms = same ∙ ap length (lent j xs) ∙ part_length j xs fits in
    drop-further (most_terms * suc j) work_places (put_mid (most_terms * j) (span j) xs ys) xs inside (after-put j xs fits ys many) ∙ stay

module _ {A : Type 0} (j : ℕ) (xs ys : List A) (room : most_terms * suc j ≤ length xs) (same : length ys ≡ length (mid_of (most_terms * j) (span j) xs)) where
  as_long : length ys ≡ most_terms
  as_long = same ∙ ap length (lent j xs) ∙ part_length j xs room

  -- the values in the part, and the parts before
  part-front : (values : List A) {n : ℕ} → ys ≡ written values (mid_of (most_terms * j) (span j) xs) → length values ≡ n
      → take n (part j (put_mid (most_terms * j) (span j) xs ys)) ≡ values
  part-front values {n} are many = ap (take n) (part-put j xs room ys as_long) ∙ (written-front values (mid_of (most_terms * j) (span j) xs) are many).0

  part_stays : (i : ℕ) → i < j → part i (put_mid (most_terms * j) (span j) xs ys) ≡ part i xs
  part_stays i h = part-before j i (put_mid (most_terms * j) (span j) xs ys) xs h (before-put j xs room ys as_long)

-- one pair more: its entry is the next one, and its terms are in the next part
module _ (es : List Entry) (ws : List ℕ) (cs : List ℤ) (j : ℕ) (room : j < length es)
    (room-w : most_terms * suc j ≤ length ws) (room-c : most_terms * suc j ≤ length cs)
    (e : Entry) (S : Sum) (ps : List ℕ) (ds : List ℤ)
    (lp : length ps ≡ length (mid_of (most_terms * j) (span j) ws)) (ld : length ds ≡ length (mid_of (most_terms * j) (span j) cs))
    (many : length S ≡ e.terms) (words_are : ps ≡ written (words_of S) (mid_of (most_terms * j) (span j) ws))
    (coefficients_are : ds ≡ written (coefficients_of S) (mid_of (most_terms * j) (span j) cs))
    (known : e.variable < variables) (accepted : Accepted variables S) where
  abbrev ws' : List ℕ
  ws' = put_mid (most_terms * j) (span j) ws ps

  abbrev cs' : List ℤ
  cs' = put_mid (most_terms * j) (span j) cs ds

  words_stand : take e.terms (part j ws') ≡ words_of S
  words_stand = part-front j ws ps room-w lp (words_of S) words_are (length-map S _ ∙ many)

  coefficients_stand : take e.terms (part j cs') ≡ coefficients_of S
  coefficients_stand = part-front j cs ds room-c ld (coefficients_of S) coefficients_are (length-map S _ ∙ many)

  last-pair : pair_at e ws' cs' j ≡ pair e.variable S
  last-pair = ap (pair e.variable) (ap₂ terms words_stand coefficients_stand ∙ spells (accepted-holdable accepted))

  last-kept : KeptAt e ws' cs' j
  last-kept = record { known = known; few = omega (arith, many, accepted.few); sum = rw (words_stand, coefficients_stand) (holds-sum accepted) }

  entries-next : take (suc j) (set es j e) ≡ take j es ++ (e ∷ [])
  entries-next = take-suc-set es j e room

  entries-many : length (take j es) ≡ j
  entries-many = length-take-le j es (omega arith)

  before_same : (i : ℕ) → i < 0 + length (take j es) → Same ws cs ws' cs' i
  before_same i h = record {
    words_are = part_stays j ws ps room-w lp i (omega (arith, entries-many));
    coefficients_are = part_stays j cs ds room-c ld i (omega (arith, entries-many));
  }

  pub kept_next : Kept 0 (take j es) ws cs → Kept 0 (take (suc j) (set es j e)) ws' cs'
  kept_next k =
      let here : 0 + length (take j es) ≡ j = omega (arith, entries-many) in
      rw entries-next (kept-last ws' cs' 0 (take j es) e (kept_same ws cs ws' cs' 0 (take j es) before_same k) (rw here last-kept))

  pub pairs_next : pairs_from 0 (take (suc j) (set es j e)) ws' cs' ≡ pairs_from 0 (take j es) ws cs ++ (pair e.variable S ∷ [])
  pairs_next =
      let here : 0 + length (take j es) ≡ j = omega (arith, entries-many) in
      ap (λ l. pairs_from 0 l ws' cs') entries-next ∙ pairs-last ws' cs' 0 (take j es) e
      ∙ ap₂ (λ (l : List Pair) (q : Pair). l ++ (q ∷ [])) (pairs-same ws cs ws' cs' 0 (take j es) before_same) (ap (pair_at e ws' cs') here ∙ last-pair)
