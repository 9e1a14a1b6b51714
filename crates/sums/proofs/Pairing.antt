-- What the loop of `add_pairs` keeps: the running sum is what it was, with the rows so far, gathered.
use mathlib.Core.Path.{◌≡◌, refl, sym, ◌∙◌, ap, subst}
use mathlib.Core.Logic.{◌⊎◌, inl, inr, ⊎_elim}
use mathlib.Core.Bool.{Bool, true, false, ◌||◌, or-true}
use mathlib.Core.List.{List, [], ◌∷◌, ◌++◌, append_assoc, append-nil}
use Prim.Native.Nat.{ℕ, ◌+◌, ◌*◌, ◌≤◌, ◌<◌}
use native.Mathlib.Omega.{arith}
use native.Mathlib.Nat.{le_refl, mul-le-mul_right}
use borrow.Author.Tests.{le-leb}
use lib.Dec.{T, leb, leb→le}
use lib.IntN.{ℤ, pos, nat_abs}
use lib.ListN.{length, get_or, take, drop, length-append, length-take, take-append-drop}
use lib.Seq.{take_all}
use Rattle.algebra.specs.Limits.{variables, largest_degree, most_terms, largest_weight}
use Rattle.algebra.specs.Sum.{Term, term, Sum, weight}
use Rattle.algebra.specs.Collect.{gather, spread}
use Rattle.algebra.specs.Arithmetic.{row, pairs}
use Rattle.algebra.specs.Word.{exponents, terms}
use Rattle.algebra.specs.Held.{first_terms}
use Rattle.algebra.proofs.Sums.Every.{Every, append-every, Long, UpTo, degree-every}
use Rattle.algebra.proofs.Sums.Ordered.{gather-fixed}
use Rattle.algebra.proofs.Sums.Occurs.{spread-gather, spread-length}
use Rattle.algebra.proofs.Sums.Spreads.{gather_turned, spread-rises}
use Rattle.algebra.proofs.Sums.Results.{gather-weight, append-weight, pairs-weight}
use Rattle.sums.specs.Formed.{Formed.formed, Formed.over, with_row}
use Rattle.sums.specs.Rows.{CanMerge, joined, Stands, RoomFor, CanAdd, Added}
use Rattle.sums.proofs.Holding.{Holdable, terms-many, terms-next, degree-at, each-valid, holdable}
use Rattle.sums.proofs.Forming.{within-formed}
use Rattle.sums.proofs.Answering.{added-over, added-formed}
use Rattle.sums.proofs.Fronts.{Placed, placed-few, placed-is, placed-held, held-placed}
use Rattle.sums.proofs.Gathering.{gathered, gathered-placed}
use Rattle.sums.proofs.Multiplying.{every_take, weight-take, pairs-append, pairs-length, gather-rest, Factors, rows_long, rows-low, all-long, all-low}

-- ---- Room.

module _ (n rows m places : ℕ) where
  pub all_fit : n + rows * m ≤ places → RoomFor n rows m places
  all_fit h = rw (le-leb (n + rows * m) places h) tt

  pub each_fits : most_terms + m ≤ places → RoomFor n rows m places
  each_fits h = rw (le-leb (most_terms + m) places h, or-true (leb (n + rows * m) places)) tt

  module _ (room : RoomFor n rows m places) where
    room-is : (n + rows * m ≤ places) ⊎ (most_terms + m ≤ places)
    room-is = go (leb (n + rows * m) places) (leb→le (n + rows * m) places) room
      where
        go : (b : Bool) → (T b → n + rows * m ≤ places) → T (b || leb (most_terms + m) places) → (n + rows * m ≤ places) ⊎ (most_terms + m ≤ places)
        go true fits r = inl (fits tt)
        go false fits r = inr (leb→le (most_terms + m) places r)

    running-room : n ≤ most_terms → n ≤ places
    running-room few = ⊎_elim (λ all_fit. omega arith) (λ each_fits. omega arith) room-is

    -- for the row after k rows
    row_room : (all k : ℕ) → all ≤ n + k * m → all ≤ most_terms → k < rows → all + m ≤ places
    row_room all k many few inside =
        let one_more : (k + 1) * m ≤ rows * m = mul-le-mul_right m (omega arith) in
        ⊎_elim (λ all_fit. omega arith) (λ each_fits. omega arith) room-is

-- ---- The rows of the first k terms of s, and the running sum r as it was.

pub record Addable (s t r : Sum) : Type 0 where
  pub factors : Factors s t
  pub running : Holdable r
  pub light : weight s * weight t + weight r ≤ largest_weight

abbrev pub upto : Sum → Sum → Sum → ℕ → List Term
upto s t r k = pairs (take k s) t ++ r

-- a list goes behind another one, before what follows
goes-behind : (l m r : List Term) → gather (l ++ (m ++ r)) ≡ gather ((m ++ l) ++ r)
goes-behind l m r =
    gather_turned l (m ++ r) ∙ ap gather (append_assoc m r l)
    ∙ sym (gather-rest m (r ++ l)) ∙ ap (λ x. gather (m ++ x)) (gather_turned r l) ∙ gather-rest m (l ++ r)
    ∙ ap gather (sym (append_assoc m l r))

module _ {s t r : Sum} (a : Addable s t r) where
  upto-long : (k : ℕ) → Every (Long variables) (upto s t r k)
  upto-long k =
      append-every (Long variables) (pairs (take k s) t) r (rows_long a.factors (take k s) (every_take _ k s a.factors.first.long)) a.running.long

  upto-low : (k : ℕ) → Every (UpTo largest_degree) (upto s t r k)
  upto-low k =
      append-every (UpTo largest_degree) (pairs (take k s) t) r (rows-low a.factors (take k s) (every_take _ k s (degree-every _ s (le_refl _))))
      (degree-every largest_degree r a.running.low)

  -- too many patterns with some rows are too many with all
  upto-spread : (k : ℕ) → spread (upto s t r k) ≤ spread (pairs s t ++ r)
  upto-spread k =
      let done = pairs (take k s) t in
      let left = pairs (drop k s) t in
      let parts : done ++ left ≡ pairs s t = sym (pairs-append (take k s) (drop k s) t) ∙ ap (λ l. pairs l t) (take-append-drop k s) in
      let all : gather (left ++ (done ++ r)) ≡ gather (pairs s t ++ r) = goes-behind left done r ∙ ap (λ l. gather (l ++ r)) parts in
      omega (arith, spread-rises left (done ++ r), spread-gather (left ++ (done ++ r)), spread-gather (pairs s t ++ r), ap length all)

  -- with each row come no more terms than it has
  upto-many : (k : ℕ) → length (gather (upto s t r k)) ≤ length r + k * length t
  upto-many k =
      let few : length (take k s) ≤ k = omega (arith, length-take k s) in
      omega (
        arith,
        spread-gather (upto s t r k),
        spread-length (upto s t r k),
        length-append (pairs (take k s) t) r,
        pairs-length (take k s) t,
        mul-le-mul_right (length t) few,
      )

  -- the next row
  module _ (k : ℕ) (u : Term) (here : take (k + 1) s ≡ take k s ++ (u ∷ [])) where
    taken : upto s t r (k + 1) ≡ (pairs (take k s) t ++ row u t) ++ r
    unfolding pairs
    taken = ap (λ l. pairs l t ++ r) here ∙ ap (λ l. l ++ r) (pairs-append (take k s) (u ∷ []) t ∙ ap (λ l. pairs (take k s) t ++ l) (append-nil (row u t)))

    -- the row and the running sum weigh no more than all rows and the running sum as it was
    row-light : nat_abs u.coefficient * weight t + weight (gather (upto s t r k)) ≤ largest_weight
    unfolding weight
    row-light =
        let next : weight (take k s) + nat_abs u.coefficient ≤ weight s = omega (arith, ap weight here, append-weight (take k s) (u ∷ []), weight-take (k + 1) s) in
        omega (
          arith,
          gather-weight (upto s t r k),
          append-weight (pairs (take k s) t) r,
          pairs-weight (take k s) t,
          mul-le-mul_right (weight t) next,
          a.light,
        )

    pub row-joins : gather (row u t ++ gather (upto s t r k)) ≡ gather (upto s t r (k + 1))
    row-joins = gather-rest (row u t) (upto s t r k) ∙ goes-behind (row u t) (pairs (take k s) t) r ∙ ap gather (sym taken)

-- ---- The loop.

pub record Pairing (ws₀ : List ℕ) (cs₀ : List ℤ) (n : ℕ) (sp : List ℕ) (sc : List ℤ) (tp : List ℕ) (tc : List ℤ) (ws : List ℕ) (cs : List ℤ) (all k : ℕ) : Type 0 where
  pub can : CanAdd ws₀ cs₀ n sp sc tp tc
  pub so_far : Placed (gather (upto (terms sp sc) (terms tp tc) (first_terms n ws₀ cs₀) k)) all ws cs
  pub same_words : length ws ≡ length ws₀
  pub same_coefficients : length cs ≡ length cs₀

module _ {ws₀ : List ℕ} {cs₀ : List ℤ} {n : ℕ} {sp : List ℕ} {sc : List ℤ} {tp : List ℕ} {tc : List ℤ} (g : CanAdd ws₀ cs₀ n sp sc tp tc) where
  addable : Addable (terms sp sc) (terms tp tc) (first_terms n ws₀ cs₀)
  addable = record {
    factors = record { first = holdable g.first; second = holdable g.second; low = g.low; light = omega (arith, g.light) };
    running = holdable g.running;
    light = g.light;
  }

  enough : n ≤ length ws₀
  enough = running-room n (length sp) (length tp) (length ws₀) g.words_room g.few

  running-many : length (first_terms n ws₀ cs₀) ≡ n
  running-many = sym (held-placed enough g.running).stands.number_is

  -- a sum that is answered can be held
  pub answer-holdable : (s : Sum) → with_row (pairs (terms sp sc) (terms tp tc)) (first_terms n ws₀ cs₀) ≡ formed s → Holdable s
  unfolding with_row
  answer-holdable s is =
      let f = addable.factors in
      let l = pairs (terms sp sc) (terms tp tc) in
      let r = first_terms n ws₀ cs₀ in
      let yes = within-formed (spread (l ++ r)) (gather (l ++ r)) is in
      subst Holdable yes.1
      (gathered (l ++ r) (append-every (Long variables) l r (all-long f) addable.running.long)
      (append-every (UpTo largest_degree) l r (all-low f) (degree-every largest_degree r addable.running.low)) yes.0)

  pub start : Pairing ws₀ cs₀ n sp sc tp tc ws₀ cs₀ n 0
  unfolding pairs
  start = record {
    can = g;
    so_far = rw (gather-fixed (first_terms n ws₀ cs₀) g.running.strict) (held-placed enough g.running);
    same_words = refl;
    same_coefficients = refl;
  }

module _ {ws₀ : List ℕ} {cs₀ : List ℤ} {n : ℕ} {sp : List ℕ} {sc : List ℤ} {tp : List ℕ} {tc : List ℤ} {ws : List ℕ} {cs : List ℤ} {all k : ℕ}
    (p : Pairing ws₀ cs₀ n sp sc tp tc ws cs all k) where
  abbrev s : Sum
  s = terms sp sc

  abbrev t : Sum
  t = terms tp tc

  abbrev r : Sum
  r = first_terms n ws₀ cs₀

  module _ (h : k < length sp) where
    -- the next row is that of the k-th term
    abbrev u : Term
    u = term (get_or sc k (pos 0)) (exponents (get_or sp k 0))

    here : take (k + 1) s ≡ take k s ++ (u ∷ [])
    here = terms-next p.can.first k h

    -- the running sum before it
    before : first_terms all ws cs ≡ gather (upto s t r k)
    before = placed-is p.so_far

    room : (places : ℕ) → RoomFor n (length sp) (length tp) places → all + length tp ≤ places
    room places enough-room =
        let many = rw (terms-many p.can.second, running-many p.can) at (upto-many (addable p.can) k) in
        row_room n (length sp) (length tp) places enough-room all k (omega (arith, many, p.so_far.stands.number_is)) (placed-few p.so_far) h

    -- what `merge_row` requires
    pub can-merge : CanMerge ws cs all (get_or sp k 0) (get_or sc k (pos 0)) tp tc
    can-merge = record {
      running = placed-held p.so_far;
      few = placed-few p.so_far;
      factor = p.can.second;
      valid = each-valid p.can.first k h;
      low = omega (arith, degree-at p.can.first k h, p.can.low);
      light = rw before (omega (arith, row-light (addable p.can) k u here));
      words_room = omega (arith, room (length ws₀) p.can.words_room, p.same_words);
      coefficients_room = omega (arith, room (length cs₀) p.can.coefficients_room, p.same_coefficients);
    }

    -- and what it answers: x terms
    module _ {x : ℕ} {ws' : List ℕ} {cs' : List ℤ} (told : Stands (joined (get_or sc k (pos 0)) (get_or sp k 0) tp tc all ws cs) x ws' cs') where
      stands : Stands (gather (upto s t r (k + 1))) x ws' cs'
      stands =
          subst (λ (l : Sum). Stands l x ws' cs') (ap (λ (l : Sum). gather (row u t ++ l)) before ∙ row-joins (addable p.can) k u here) told

      many : x ≡ spread (upto s t r (k + 1))
      many = stands.number_is ∙ sym (spread-gather (upto s t r (k + 1)))

      pub stops : most_terms < x → Added (with_row (pairs (terms sp sc) (terms tp tc)) (first_terms n ws₀ cs₀)) over ws' cs'
      unfolding with_row
      stops too = added-over (spread (pairs s t ++ r)) (gather (pairs s t ++ r)) ws' cs' (omega (arith, many, upto-spread (addable p.can) (k + 1)))

      pub again : x ≤ most_terms → length ws' ≡ length ws → length cs' ≡ length cs → Pairing ws₀ cs₀ n sp sc tp tc ws' cs' x (k + 1)
      again few words coefficients = record {
        can = p.can;
        so_far = gathered-placed (upto s t r (k + 1)) (upto-long (addable p.can) (k + 1)) (upto-low (addable p.can) (k + 1)) (omega (arith, many)) stands;
        same_words = words ∙ p.same_words;
        same_coefficients = coefficients ∙ p.same_coefficients;
      }

  -- after the last term's row all rows are added
  pub ended : length sp ≤ k → Added (with_row (pairs (terms sp sc) (terms tp tc)) (first_terms n ws₀ cs₀)) (formed all) ws cs
  unfolding with_row
  ended h =
      let last = subst (λ (l : Sum). Placed (gather (pairs l t ++ r)) all ws cs) (take_all k s (omega (arith, terms-many p.can.first))) p.so_far in
      added-formed (spread (pairs s t ++ r)) (gather (pairs s t ++ r)) ws cs (omega (arith, spread-gather (pairs s t ++ r), last.holdable.few)) last.stands
