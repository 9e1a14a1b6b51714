-- What `add_row` asks of `merge_row`, by ranks, what it answers, and what a caller knows of the two areas then.
use mathlib.Core.Path.{◌≡◌, refl, sym, ◌∙◌, ap}
use mathlib.Core.List.{List, ◌++◌, map}
use Prim.Native.Nat.{ℕ, ◌+◌, ◌≤◌}
use native.Mathlib.Omega.{arith}
use lib.IntN.{ℤ, pos}
use lib.ListN.{length, take, drop, length-append, length-map, length-replicate, replicate}
use lib.Seq.{length-take-le}
use Rattle.algebra.specs.Limits.{variables, largest_degree, most_terms}
use Rattle.algebra.specs.Sum.{Term, term, Sum}
use Rattle.algebra.specs.Arithmetic.{row}
use Rattle.algebra.specs.Word.{word, exponents, terms}
use Rattle.algebra.specs.Inside.Rank.{rank_of, word_at, words_at}
use Rattle.algebra.specs.Held.{words_of, coefficients_of, first_terms}
use Rattle.algebra.proofs.Patterns.Word.{exponents-length}
use Rattle.algebra.proofs.Patterns.Rank.{word-at-rank}
use Rattle.algebra.proofs.Sums.Every.{append-every, Long, UpTo, degree-every}
use Rattle.algebra.proofs.Sums.Occurs.{spread-gather, spread-length}
use Rattle.answers.specs.Areas.{written, cleared}
use Rattle.answers.proofs.Writes.{written-front, drop-written}
use Rattle.sums.specs.Rows.{CanMerge, joined, joined_into, Stands}
use Rattle.sums.proofs.Holding.{map-take, terms-many, each-valid, Holdable, holdable}
use Rattle.sums.proofs.Fronts.{Placed}
use Rattle.sums.proofs.Gathering.{gathered-placed}
use Rattle.sums.proofs.MakeRow.{row-length}
use Rattle.sums.proofs.Multiplying.{row-held}
use Rattle.sums.proofs.Ranking.{ranked-words, ranked-held}

module _ {ws : List ℕ} {cs : List ℤ} {n w : ℕ} {c : ℤ} {tp : List ℕ} {tc : List ℤ} (g : CanMerge ws cs n w c tp tc) where
  -- ---- The row and the running sum together.

  abbrev row_of : Sum
  row_of = row (term c (exponents w)) (terms tp tc)

  abbrev running : Sum
  running = first_terms n ws cs

  row-holdable : Holdable row_of
  row-holdable = row-held (term c (exponents w)) (exponents-length w) (holdable g.factor) g.low

  running-long : length (take n ws) ≡ n
  running-long = length-take-le n ws (omega (arith, g.words_room))

  coefficients-long : length (take n cs) ≡ n
  coefficients-long = length-take-le n cs (omega (arith, g.coefficients_room))

  -- they have no more terms than the two have
  pub joined-many : length (joined c w tp tc n ws cs) ≤ n + length tp
  joined-many = omega (
    arith,
    spread-gather (row_of ++ running),
    spread-length (row_of ++ running),
    length-append row_of running,
    row-length (term c (exponents w)) (terms tp tc),
    terms-many g.factor,
    terms-many g.running,
    running-long,
  )

  -- ---- The same by ranks: ks and ds hold the running sum, and kt the row's factor, whose rank is r.

  module _ (ks₀ : List ℕ) {ks : List ℕ} (ks-are : ks ≡ written (map rank_of (take n ws)) ks₀) (ds₀ : List ℤ) {ds : List ℤ} (ds-are : ds ≡ written (take n cs) ds₀) (kt₀ : List ℕ) {kt : List ℕ} (kt-are : kt ≡ written (map rank_of tp) kt₀)
      {r : ℕ} (r-is : r ≡ rank_of w) where
    words_are : take n (words_at ks) ≡ take n ws
    words_are = sym (map-take word_at n ks) ∙ ranked-words (take n ws) ks₀ (each-valid g.running) ks-are running-long

    coefficients_are : take n ds ≡ take n cs
    coefficients_are = (written-front (take n cs) ds₀ ds-are coefficients-long).0

    factor-is : words_at (take (length tp) kt) ≡ tp
    factor-is = ranked-held g.factor kt₀ kt-are

    word_is : word_at r ≡ w
    word_is = ap word_at r-is ∙ word-at-rank w g.valid

    pub ranks-merge : most_terms + most_terms ≤ length ks → most_terms + most_terms ≤ length ds → CanMerge (words_at ks) ds n (word_at r) c (words_at (take (length tp) kt)) tc
    ranks-merge ranks-room coefficients_room = record {
      running = rw (words_are, coefficients_are) g.running;
      few = g.few;
      factor = rw factor-is g.factor;
      valid = rw word_is g.valid;
      low = rw (word_is, factor-is) g.low;
      light = rw (words_are, coefficients_are, factor-is) g.light;
      words_room = omega (arith, length-map ks word_at, ap length factor-is, g.few, g.factor.few);
      coefficients_room = omega (arith, ap length factor-is, g.few, g.factor.few);
    }

    pub ranks-joined : joined c (word_at r) (words_at (take (length tp) kt)) tc n (words_at ks) ds ≡ joined c w tp tc n ws cs
    ranks-joined = rw (words_are, coefficients_are, factor-is, word_is) refl

  -- ---- What is put back is what the contract says.

  pub put_back : {all : ℕ} (ks : List ℕ) {ds : List ℤ} → Stands (joined c w tp tc n ws cs) all (words_at ks) ds → {ws' : List ℕ} {cs' : List ℤ}
      → ws' ≡ written (words_at (take all ks)) (cleared 0 (n + length tp) ws) → cs' ≡ written (take all ds) (cleared (pos 0) (n + length tp) cs)
      → (all, ws', cs') ≡ joined_into c w tp tc n ws cs
  unfolding joined_into
  put_back {all} ks stands words coefficients =
      let spelled : words_at (take all ks) ≡ words_of (joined c w tp tc n ws cs) = map-take word_at all ks ∙ stands.words_are in
      rw (stands.number_is, words, coefficients, spelled, stands.coefficients_are) refl

  -- ---- What a caller knows of the answer r and of the two areas then.

  module _ {r : ℕ} {ws' : List ℕ} {cs' : List ℤ} (told : (r, ws', cs') ≡ joined_into c w tp tc n ws cs) where
    words-told : ws' ≡ written (words_of (joined c w tp tc n ws cs)) (cleared 0 (n + length tp) ws)
    unfolding joined_into
    words-told = ap (λ x. x.1) told

    coefficients-told : cs' ≡ written (coefficients_of (joined c w tp tc n ws cs)) (cleared (pos 0) (n + length tp) cs)
    unfolding joined_into
    coefficients-told = ap (λ x. x.2) told

    number-told : r ≡ length (joined c w tp tc n ws cs)
    unfolding joined_into
    number-told = ap (λ x. x.0) told

    -- the terms stand in the first places
    pub row-stands : Stands (joined c w tp tc n ws cs) r ws' cs'
    row-stands = record {
      number_is = number-told;
      words_are = (written-front (words_of (joined c w tp tc n ws cs)) (cleared 0 (n + length tp) ws) words-told (length-map (joined c w tp tc n ws cs) _ ∙ sym number-told)).0;
      coefficients_are = (written-front (coefficients_of (joined c w tp tc n ws cs)) (cleared (pos 0) (n + length tp) cs) coefficients-told (length-map (joined c w tp tc n ws cs) _ ∙ sym number-told)).0;
    }

    pub row-few : r ≤ n + length tp
    row-few = omega (arith, number-told, joined-many)

    -- and are held, if they are not too many
    pub row-placed : r ≤ most_terms → Placed (joined c w tp tc n ws cs) r ws' cs'
    row-placed few =
        gathered-placed (row_of ++ running)
        (append-every (Long variables) row_of running row-holdable.long (holdable g.running).long)
        (append-every (UpTo largest_degree) row_of running (degree-every largest_degree row_of row-holdable.low) (degree-every largest_degree running g.running.low))
        (omega (arith, spread-gather (row_of ++ running), number-told)) row-stands

    -- the places after them are 0 up to the last that the merge touched, and the others stay
    pub row-cleared : (drop r ws' ≡ drop r (cleared 0 (n + length tp) ws)) × (drop r cs' ≡ drop r (cleared (pos 0) (n + length tp) cs))
    row-cleared = (
      ap (drop r) words-told ∙ drop-written (words_of (joined c w tp tc n ws cs)) (cleared 0 (n + length tp) ws) r (omega (arith, length-map (joined c w tp tc n ws cs) (λ (t : Term). word t.pattern), number-told)),
      ap (drop r) coefficients-told ∙ drop-written (coefficients_of (joined c w tp tc n ws cs)) (cleared (pos 0) (n + length tp) cs) r (omega (arith, length-map (joined c w tp tc n ws cs) (λ (t : Term). t.coefficient), number-told)),
    )

    stays : {A : Type 0} (zero : A) (values area : List A) {area' : List A} → area' ≡ written values (cleared zero (n + length tp) area) → length values ≤ n + length tp
        → drop (n + length tp) area' ≡ drop (n + length tp) area
    stays zero values area is few =
        let end = n + length tp in
        ap (drop end) is ∙ drop-written values (cleared zero end area) end few
        ∙ drop-written (replicate end zero) area end (omega (arith, length-replicate end zero))

    pub row_stays : (drop (n + length tp) ws' ≡ drop (n + length tp) ws) × (drop (n + length tp) cs' ≡ drop (n + length tp) cs)
    row_stays = (
      stays 0 (words_of (joined c w tp tc n ws cs)) ws words-told (omega (arith, length-map (joined c w tp tc n ws cs) (λ (t : Term). word t.pattern), joined-many)),
      stays (pos 0) (coefficients_of (joined c w tp tc n ws cs)) cs coefficients-told (omega (arith, length-map (joined c w tp tc n ws cs) (λ (t : Term). t.coefficient), joined-many)),
    )
