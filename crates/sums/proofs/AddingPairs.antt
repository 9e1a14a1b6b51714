-- All pairs of two sums go into a running sum, straight or formed apart: what `add_straight` and `add_apart` ask of what they call, and what they are told.
use mathlib.Core.Path.{◌≡◌, refl, sym, ◌∙◌, ap, ap₂}
use mathlib.Core.List.{List, [], ◌∷◌, ◌++◌, append-nil}
use Prim.Native.Nat.{ℕ, ◌+◌, ◌*◌, ◌≤◌, ◌<◌}
use native.Mathlib.Omega.{arith}
use native.Mathlib.Decide.{dec_lt}
use lib.IntN.{ℤ, pos}
use lib.ListN.{length, take, length-map}
use Rattle.algebra.specs.Limits.{variables, most_terms}
use Rattle.algebra.specs.Sum.{Term, Sum, weight}
use Rattle.algebra.specs.Collect.{gather, spread}
use Rattle.algebra.specs.Arithmetic.{pairs}
use Rattle.algebra.specs.Value.{coefficient_in, coefficient}
use Rattle.algebra.specs.Word.{word, terms, terms_by}
use Rattle.algebra.specs.Inside.Rank.{word_at, words_at}
use Rattle.algebra.specs.Held.{first_terms}
use Rattle.algebra.proofs.Sums.Equal.{coefficient-additive, gather-equal}
use Rattle.algebra.proofs.Sums.Occurs.{spread-gather, spread-length}
use Rattle.algebra.proofs.Sums.Ring.{comm-total}
use Rattle.algebra.proofs.Sums.Spreads.{append-spread, gather_turned, spread-rises, pairs-occurs}
use Rattle.algebra.proofs.Sums.Results.{gather-weight, pairs-weight}
use Rattle.sums.specs.Asked.{Factors}
use Rattle.sums.specs.Formed.{Formed, formed_of, Formed.over, within, with_row}
use Rattle.sums.specs.Rows.{RoomFor, CanAdd, Added, places_for, CanAddProduct}
use Rattle.std.specs.Prelude.{Option, Some, None}
use Rattle.sums.proofs.Holding.{map-take, holds, terms-many}
use Rattle.sums.proofs.Answering.{number-refused, added-over}
use Rattle.sums.proofs.Fronts.{Placed, placed-is, placed-held}
use Rattle.sums.proofs.Multiplying.{gather-rest, pairs-length, holdable-none, multiplied}
use Rattle.sums.proofs.Pairing.{all_fit, each_fits}
use Rattle.sums.proofs.One.{unit-degree, unit-held, unit-is, pairs-unit}

-- ---- Rows before a running sum.

-- gathered first, they add the same
apart : (l r : List Term) → with_row (gather l) r ≡ with_row l r
unfolding with_row
apart l r = ap₂ within (spread-gather (gather l ++ r) ∙ ap length same ∙ sym (spread-gather (l ++ r))) same
  where
    same : gather (gather l ++ r) ≡ gather (l ++ r)
    same = gather_turned (gather l) r ∙ gather-rest r l ∙ gather_turned r l

-- of two sums either may come first
turned : (s t r : Sum) → with_row (pairs s t) r ≡ with_row (pairs t s) r
turned s t r = sym (apart (pairs s t) r) ∙ ap (λ l. with_row l r) same ∙ apart (pairs t s) r
  where
    same : gather (pairs s t) ≡ gather (pairs t s)
    same = gather-equal (pairs s t) (pairs t s) (λ q. pairs-occurs q s t) (λ q. unfold coefficient in comm-total (coefficient_in q) (coefficient-additive q) s t)

-- too many patterns alone are too many with a running sum
wider : (l r : List Term) → spread l ≤ spread (l ++ r)
wider l r = omega (arith, spread-rises r l, append-spread l r)

-- ---- What is asked.

-- the places have room for all pairs, or for any running sum and a row
room_for : (n rows row : ℕ) {places : ℕ} → places_for n (rows * row) ≤ places → row ≤ most_terms → RoomFor n rows row places
room_for n rows row {places} room few = go (dec_lt (n + rows * row) (most_terms + most_terms))
  where
    go : Dec (n + rows * row < most_terms + most_terms) → RoomFor n rows row places
    go (yes less) = all_fit n rows row places (omega arith)
    go (no most) = each_fits n rows row places (omega arith)

module _ {ks : List ℕ} {cs : List ℤ} {n : ℕ} {sp : List ℕ} {sc : List ℤ} {tp : List ℕ} {tc : List ℤ} (g : CanAddProduct ks cs n sp sc tp tc) where
  pub can-add : CanAdd (words_at ks) cs n sp sc tp tc
  can-add = record {
    running = g.running;
    few = g.few;
    first = g.first;
    second = g.second;
    low = g.low;
    light = g.light;
    words_room = room_for n (length sp) (length tp) (omega (arith, g.words_room, length-map ks word_at)) g.second.few;
    coefficients_room = room_for n (length sp) (length tp) g.coefficients_room g.second.few;
  }

-- ---- Straight, with the other sum first.

module _ {ks : List ℕ} {cs : List ℤ} {n : ℕ} {sp : List ℕ} {sc : List ℤ} {tp : List ℕ} {tc : List ℤ} (g : CanAddProduct ks cs n sp sc tp tc) where
  pub other-added : {answer : Formed ℕ} {ws' : List ℕ} {cs' : List ℤ} → Added (with_row (pairs (terms tp tc) (terms sp sc)) (first_terms n (words_at ks) cs)) answer ws' cs'
      → Added (with_row (pairs (terms sp sc) (terms tp tc)) (first_terms n (words_at ks) cs)) answer ws' cs'
  other-added told = rw (turned (terms sp sc) (terms tp tc) (first_terms n (words_at ks) cs)) told

-- ---- Apart: the pairs are formed in two other areas, with nothing before them.

-- there is room for any running sum and a row
pub record Spare (hr : List ℕ) (hc : List ℤ) : Type 0 where
  pub ranks : most_terms + most_terms ≤ length hr
  pub coefficients : most_terms + most_terms ≤ length hc

-- they stand in the first places of hr and hc
pub record Apart (ks : List ℕ) (cs : List ℤ) (n : ℕ) (sp : List ℕ) (sc : List ℤ) (tp : List ℕ) (tc : List ℤ) (hr : List ℕ) (hc : List ℤ) (together : ℕ) : Type 0 where
  pub asked : CanAddProduct ks cs n sp sc tp tc
  pub placed : Placed (gather (pairs (terms sp sc) (terms tp tc))) together (words_at hr) hc

module _ (sr tr : List ℕ) {ks : List ℕ} {cs : List ℤ} {n : ℕ} {sc : List ℤ} {tc : List ℤ} (g : CanAddProduct ks cs n (words_at sr) sc (words_at tr) tc) {hr₀ : List ℕ} {hc₀ : List ℤ}
    (spare : Spare hr₀ hc₀) where
  factors : Factors (words_at sr) sc (words_at tr) tc
  factors = record { first = g.first; second = g.second; low = g.low; light = omega (arith, g.light) }

  pub can-form : CanAddProduct hr₀ hc₀ 0 (words_at sr) sc (words_at tr) tc
  unfolding weight terms terms_by
  can-form = record {
    running = holds holdable-none;
    few = omega arith;
    first = g.first;
    second = g.second;
    low = g.low;
    light = omega (arith, g.light);
    words_room = omega (arith, spare.ranks);
    coefficients_room = omega (arith, spare.coefficients);
  }

  module _ (r : Option ℕ) (hr : List ℕ) {hc : List ℤ}
      (told : Added (with_row (pairs (terms (words_at sr) sc) (terms (words_at tr) tc)) (first_terms 0 (words_at hr₀) hc₀)) (formed_of r) (words_at hr) hc) where
    pub formed-apart : {together : ℕ} → r ≡ Some together → Apart ks cs n (words_at sr) sc (words_at tr) tc hr hc together
    formed-apart is = record { asked = g; placed = multiplied factors sr tr refl refl hr₀ hc₀ r hr told is }

    -- too many alone, they are too many
    pub apart-over : r ≡ None → Added (with_row (pairs (terms (words_at sr) sc) (terms (words_at tr) tc)) (first_terms n (words_at ks) cs)) over (words_at ks) cs
    unfolding with_row terms terms_by
    apart-over none =
        let all = pairs (terms (words_at sr) sc) (terms (words_at tr) tc) in
        let running = first_terms n (words_at ks) cs in
        let many = number-refused (spread (all ++ [])) (gather (all ++ [])) r none told.number_is in
        added-over (spread (all ++ running)) (gather (all ++ running)) (words_at ks) cs (omega (arith, many, ap spread (append-nil all), wider all running))

-- then they are one row, with the factor 1
module _ {ks : List ℕ} {cs : List ℤ} {n : ℕ} {sp : List ℕ} {sc : List ℤ} {tp : List ℕ} {tc : List ℤ} {hr : List ℕ} {hc : List ℤ} {together : ℕ} (a : Apart ks cs n sp sc tp tc hr hc together) where
  abbrev all : List Term
  all = pairs (terms sp sc) (terms tp tc)

  apart-lent : terms (words_at (take together hr)) (take together hc) ≡ gather all
  apart-lent = rw (map-take word_at together hr) (placed-is a.placed)

  -- they are no more than all pairs
  apart-few : length (words_at (take together hr)) ≤ length sp * length tp
  apart-few =
      omega (
        arith,
        ap length (map-take word_at together hr),
        ap length a.placed.stands.words_are,
        length-map (gather all) (λ (t : Term). word t.pattern),
        spread-gather all,
        spread-length all,
        pairs-length (terms sp sc) (terms tp tc),
        ap₂ (λ (x y : ℕ). x * y) (terms-many a.asked.first) (terms-many a.asked.second),
      )

  pub can-join : CanAddProduct ks cs n (words_at (take together hr)) (take together hc) (words_at (0 ∷ [])) (pos 1 ∷ [])
  unfolding weight
  can-join = record {
    running = a.asked.running;
    few = a.asked.few;
    first = rw (map-take word_at together hr) (placed-held a.placed);
    second = unit-held;
    low = rw (apart-lent, unit-is) (omega (arith, unit-degree, a.placed.holdable.low));
    light = rw (apart-lent, unit-is) (omega (arith, gather-weight all, pairs-weight (terms sp sc) (terms tp tc), a.asked.light));
    words_room = omega (arith, a.asked.words_room, apart-few);
    coefficients_room = omega (arith, a.asked.coefficients_room, apart-few);
  }

  pub apart-added : {answer : Formed ℕ} {ws' : List ℕ} {cs' : List ℤ}
      → Added (with_row (pairs (terms (words_at (take together hr)) (take together hc)) (terms (words_at (0 ∷ [])) (pos 1 ∷ []))) (first_terms n (words_at ks) cs)) answer ws' cs'
      → Added (with_row (pairs (terms sp sc) (terms tp tc)) (first_terms n (words_at ks) cs)) answer ws' cs'
  apart-added told = rw (apart-lent, unit-is, pairs-unit variables (gather all) a.placed.holdable.long, apart all (first_terms n (words_at ks) cs)) at told
