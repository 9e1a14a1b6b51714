-- What the loop of `read_pairs` keeps: the pairs so far, in their parts; and what the readers of a list leave behind.
use mathlib.Core.Path.{◌≡◌, refl, sym, ◌∙◌, ap}
use mathlib.Core.List.{List, [], ◌∷◌, ◌++◌, append-nil, append_assoc}
use Prim.Native.Nat.{ℕ, suc, ◌+◌, ◌*◌, ◌-◌, ◌≤◌, ◌<◌}
use native.Mathlib.Omega.{arith}
use native.Mathlib.Numerals.{add-one}
use lib.Dec.{ltb, ltb→lt, lt→ltb}
use lib.IntN.{ℤ}
use lib.ListN.{length, get_or, take, drop, set, length-set}
use lib.Seq.{length-take-le}
use borrow.Rule.Slice.PartMut.{mid_of, put_mid, same_len_mid}
use Rattle.algebra.specs.Limits.{variables, most_terms, work_places}
use Rattle.algebra.specs.Accepted.{Accepted}
use Rattle.numbers.specs.Item.{Item, Item.got, Item.stopped, mapped}
use Rattle.numbers.specs.Number.{read_number}
use Rattle.packed.specs.ReadSum.{read_sum}
use Rattle.packed.proofs.Trip.{sum-written}
use Rattle.packed.proofs.Taking.{ReadAt}
use Rattle.sums.proofs.Parts.{span}
use Rattle.change.specs.Pairs.{Pair, pair, ListFault, ListFault.item, ListFault.unknown, read_pairs}
use Rattle.change.specs.declared.lists.Entry.{Entry}
use Rattle.change.specs.Inside.Kept.{listed_of, of_item, pairs_from, Kept, KeepsRead, Leaves}
use Rattle.numbers.proofs.Items.{never, then-got, provided-yes, mapped-got, mapped-mapped, From, carry, Alike, Alike.both, alike-provided, alike-mapped, alike-shown, renamed-got}
use Rattle.std.specs.Prelude.{Err}
use Rattle.numbers.specs.declared.Fault as declared
use Rattle.numbers.specs.Inside.Read.{item_of}
use Rattle.change.proofs.Reading.{item-stops}
use Rattle.change.proofs.Keeping.{pairs-many, stays_put, kept_next, pairs_next}

-- ---- What a reader of pairs answers and leaves, where it read so.

-- nothing is kept where nothing was read
none_kept : {answer : Item ListFault ℕ} {read : Item ListFault (List Pair)} (es : List Entry) (ws : List ℕ) (cs : List ℤ) → Alike answer read → KeepsRead read es ws cs
none_kept es ws cs both = record { kept = λ ps next e. absurd (never e); pairs_are = λ ps next e. absurd (never e) }

pub leaves-fault : {read : Item ListFault (List Pair)} {answer told : Item ListFault ℕ} (ws₀ : List ℕ) (cs₀ : List ℤ) (es : List Entry) (ws : List ℕ) (cs : List ℤ) → answer ≡ told → Alike told read
    → drop work_places ws ≡ drop work_places ws₀ → drop work_places cs ≡ drop work_places cs₀ → Leaves read answer ws₀ cs₀ es ws cs
leaves-fault ws₀ cs₀ es ws cs is a words coefficients =
    record { says = is ∙ alike-shown length a; keeps = none_kept es ws cs a; words_stay = words; coefficients_stay = coefficients }

-- what was read is all there is
pub leaves_all : {read whole : Item ListFault (List Pair)} {n end : ℕ} (ws₀ : List ℕ) (cs₀ : List ℤ) (es : List Entry) (ws : List ℕ) (cs : List ℤ)
    → whole ≡ read → From length read n end → KeepsRead read es ws cs
    → drop work_places ws ≡ drop work_places ws₀ → drop work_places cs ≡ drop work_places cs₀ → Leaves whole (got n end) ws₀ cs₀ es ws cs
leaves_all {n = n} {end = end} ws₀ cs₀ es ws cs same from keeps words coefficients = record {
  says = ap (λ (m : ℕ). got m end) (sym from.shown) ∙ sym (mapped-got length (same ∙ from.is));
  keeps = rw same keeps;
  words_stay = words;
  coefficients_stay = coefficients;
}

-- what was read is kept
read_kept : {read : Item ListFault (List Pair)} {es : List Entry} {ws : List ℕ} {cs : List ℤ} {j place : ℕ} (pairs : List Pair) → length pairs ≡ j → read ≡ got pairs place
    → Kept 0 (take j es) ws cs → pairs_from 0 (take j es) ws cs ≡ pairs → KeepsRead read es ws cs
read_kept {read} {es} {ws} {cs} {j} {place} pairs many is kept are = record {
  kept = λ ps next e. rw (same ps next e) kept;
  pairs_are = λ ps next e. rw (same ps next e) are ∙ carry (λ qs n. pairs ≡ qs) (sym is ∙ e) refl;
}
  where
    same : (ps : List Pair) (next : ℕ) → read ≡ got ps next → length ps ≡ j
    same ps next e = carry (λ qs n. length qs ≡ j) (sym is ∙ e) many

-- ---- The loop.

pub record Taking (s : List ℕ) (at count : ℕ) (es₀ : List Entry) (ws₀ : List ℕ) (cs₀ : List ℤ) (place j : ℕ) (es : List Entry) (ws : List ℕ) (cs : List ℤ) : Type 0 where
  pub so_far : read_pairs variables count s at ≡ mapped (λ rest. pairs_from 0 (take j es) ws cs ++ rest) (read_pairs variables (count - j) s place)
  pub kept : Kept 0 (take j es) ws cs
  pub inside : j ≤ count
  pub few : count ≤ variables
  pub entries_room : variables ≤ length es₀
  pub words_room : work_places ≤ length ws₀
  pub coefficients_room : work_places ≤ length cs₀
  pub same_entries : length es ≡ length es₀
  pub same_words : length ws ≡ length ws₀
  pub same_coefficients : length cs ≡ length cs₀
  pub words_stay : drop work_places ws ≡ drop work_places ws₀
  pub coefficients_stay : drop work_places cs ≡ drop work_places cs₀

pub start : (s : List ℕ) (at count : ℕ) (es : List Entry) (ws : List ℕ) (cs : List ℤ)
    → count ≤ variables → variables ≤ length es → work_places ≤ length ws → work_places ≤ length cs
    → Taking s at count es ws cs at 0 es ws cs
unfolding pairs_from Kept
start s at count es ws cs few entries_room words_room coefficients_room =
    let all : count - 0 ≡ count = omega arith in
    record {
      so_far = rw all (as_read (read_pairs variables count s at));
      kept = tt;
      inside = omega arith;
      few = few;
      entries_room = entries_room;
      words_room = words_room;
      coefficients_room = coefficients_room;
      same_entries = refl;
      same_words = refl;
      same_coefficients = refl;
      words_stay = refl;
      coefficients_stay = refl;
    }
  where
    as_read : (r : Item ListFault (List Pair)) → r ≡ mapped (λ rest. rest) r
    as_read (got ps next) = unfold mapped in refl
    as_read (stopped what place) = unfold mapped in refl

module _ {s : List ℕ} {at count : ℕ} {es₀ : List Entry} {ws₀ : List ℕ} {cs₀ : List ℤ} {place j : ℕ} {es : List Entry} {ws : List ℕ} {cs : List ℤ}
    (t : Taking s at count es₀ ws₀ cs₀ place j es ws cs) where
  -- a fault of the next pair is that of all
  fault-so : {answer : Item ListFault ℕ} → Alike answer (read_pairs variables (count - j) s place) → Alike answer (read_pairs variables count s at)
  fault-so a = rw t.so_far (alike-mapped (λ rest. pairs_from 0 (take j es) ws cs ++ rest) a)

  -- it is answered, with the areas as they are
  pub stops-here : {answer told : Item ListFault ℕ} → answer ≡ told → Alike told (read_pairs variables count s at) → Leaves (read_pairs variables count s at) answer ws₀ cs₀ es ws cs
  stops-here is a = leaves-fault ws₀ cs₀ es ws cs is a t.words_stay t.coefficients_stay

  module _ (h : j < count) where
    in-work : most_terms * suc j ≤ work_places
    in-work = omega (arith, t.few)

    -- or after a part of each was lent
    module _ (ps : List ℕ) (ds : List ℤ) (lp : length ps ≡ length (mid_of (most_terms * j) (span j) ws)) (ld : length ds ≡ length (mid_of (most_terms * j) (span j) cs)) where
      words_after : drop work_places (put_mid (most_terms * j) (span j) ws ps) ≡ drop work_places ws₀
      words_after = stays_put j ws₀ ws ps in-work (omega (arith, t.words_room, t.same_words)) lp t.words_stay

      coefficients_after : drop work_places (put_mid (most_terms * j) (span j) cs ds) ≡ drop work_places cs₀
      coefficients_after = stays_put j cs₀ cs ds in-work (omega (arith, t.coefficients_room, t.same_coefficients)) ld t.coefficients_stay

      pub stops-lent : {answer told : Item ListFault ℕ} → answer ≡ told → Alike told (read_pairs variables count s at)
          → Leaves (read_pairs variables count s at) answer ws₀ cs₀ es (put_mid (most_terms * j) (span j) ws ps) (put_mid (most_terms * j) (span j) cs ds)
      stops-lent is a = leaves-fault ws₀ cs₀ es (put_mid (most_terms * j) (span j) ws ps) (put_mid (most_terms * j) (span j) cs ds) is a words_after coefficients_after

    left : count - j ≡ suc (count - (j + 1))
    left = omega arith

    -- the number that comes next is at fault
    pub number-stops : (f : declared.Fault) → Alike (item_of (Err f)) (read_number s place) → Alike (listed_of (Err (of_item f))) (read_pairs variables count s at)
    unfolding read_pairs
    number-stops f a = fault-so (rw left (item-stops _ f a))

    module _ {v next : ℕ} (number : read_number s place ≡ got v next) where
      pub variable-stops : variables ≤ v → Alike {A = ℕ} (stopped unknown place) (read_pairs variables count s at)
      unfolding read_pairs
      variable-stops above = fault-so (rw (left, then-got _ (renamed-got item number)) (alike-provided unknown place _ (ltb v variables) (λ k. omega (arith, ltb→lt v variables k))))

      module _ (known : v < variables) where
        -- the sum after it is at fault
        pub sum-stops : (f : declared.Fault) → Alike (item_of (Err f)) (read_sum variables s next) → Alike (listed_of (Err (of_item f))) (read_pairs variables count s at)
        unfolding read_pairs
        sum-stops f a = fault-so (rw (left, then-got _ (renamed-got item number), provided-yes unknown place _ (ltb v variables) (lt→ltb v variables known)) (item-stops _ f a))

        -- one pair more
        module _ (byte : (i : ℕ) → get_or s i 0 < 256) {n end : ℕ} {ps : List ℕ} {ds : List ℤ}
            (lp : length ps ≡ length (mid_of (most_terms * j) (span j) ws)) (ld : length ds ≡ length (mid_of (most_terms * j) (span j) cs))
            (r : ReadAt (read_sum variables s next) (mid_of (most_terms * j) (span j) ws) (mid_of (most_terms * j) (span j) cs) ps ds n end) where
          p : Pair
          p = pair v r.sum

          abbrev entry : Entry
          entry = record { variable = v; terms = n }

          room : j < length es
          room = omega (arith, t.few, t.entries_room, t.same_entries)

          room-w : most_terms * suc j ≤ length ws
          room-w = omega (arith, in-work, t.words_room, t.same_words)

          room-c : most_terms * suc j ≤ length cs
          room-c = omega (arith, in-work, t.coefficients_room, t.same_coefficients)

          accepted : Accepted variables r.sum
          accepted = (sum-written s byte variables r.sum next end r.read).accepted

          pairs_are : pairs_from 0 (take (j + 1) (set es j entry)) (put_mid (most_terms * j) (span j) ws ps) (put_mid (most_terms * j) (span j) cs ds)
              ≡ pairs_from 0 (take j es) ws cs ++ (p ∷ [])
          unfolding p
          pairs_are =
              rw (add-one j)
              (pairs_next es ws cs j room room-w room-c entry r.sum ps ds lp ld r.many r.words_are r.coefficients_are known accepted)

          step : read_pairs variables (count - j) s place ≡ mapped (λ rest. p ∷ rest) (read_pairs variables (count - (j + 1)) s end)
          unfolding read_pairs p
          step = rw left (then-got _ (renamed-got item number) ∙ provided-yes unknown place _ (ltb v variables) (lt→ltb v variables known) ∙ then-got _ (renamed-got item r.read))

          pub again : Taking s at count es₀ ws₀ cs₀ end (j + 1) (set es j entry) (put_mid (most_terms * j) (span j) ws ps) (put_mid (most_terms * j) (span j) cs ds)
          again = record {
            so_far =
                t.so_far
                ∙ ap (mapped (λ rest. pairs_from 0 (take j es) ws cs ++ rest)) step
                ∙ mapped-mapped (λ rest. p ∷ rest) (λ rest. pairs_from 0 (take j es) ws cs ++ rest) (read_pairs variables (count - (j + 1)) s end)
                ∙ (λ i. mapped (λ rest. joined rest i) (read_pairs variables (count - (j + 1)) s end));
            kept = rw (add-one j)
                (kept_next es ws cs j room room-w room-c entry r.sum ps ds lp ld r.many r.words_are r.coefficients_are known accepted t.kept);
            inside = omega arith;
            few = t.few;
            entries_room = t.entries_room;
            words_room = t.words_room;
            coefficients_room = t.coefficients_room;
            same_entries = length-set es j _ ∙ t.same_entries;
            same_words = same_len_mid (most_terms * j) (span j) ws ps lp ∙ t.same_words;
            same_coefficients = same_len_mid (most_terms * j) (span j) cs ds ld ∙ t.same_coefficients;
            words_stay = words_after ps ds lp ld;
            coefficients_stay = coefficients_after ps ds lp ld;
          }
            where
              joined : (rest : List Pair) → pairs_from 0 (take j es) ws cs ++ (p ∷ rest)
                  ≡ pairs_from 0 (take (j + 1) (set es j entry)) (put_mid (most_terms * j) (span j) ws ps) (put_mid (most_terms * j) (span j) cs ds) ++ rest
              joined rest = sym (append_assoc (pairs_from 0 (take j es) ws cs) (p ∷ []) rest) ∙ ap (λ l. l ++ rest) (sym pairs_are)

  -- all pairs are read
  pub ended : count ≤ j → Leaves (read_pairs variables count s at) (got count place) ws₀ cs₀ es ws cs
  unfolding read_pairs mapped
  ended h =
      let all : j ≡ count = omega (arith, t.inside) in
      let none : count - j ≡ 0 = omega arith in
      let pairs = pairs_from 0 (take j es) ws cs in
      let many : length pairs ≡ j = pairs-many ws cs 0 (take j es) ∙ length-take-le j es (omega (arith, t.few, t.entries_room, t.same_entries)) in
      let read : read_pairs variables count s at ≡ got pairs place =
      t.so_far ∙ ap (λ (m : ℕ). mapped (λ rest. pairs ++ rest) (read_pairs variables m s place)) none ∙ ap (λ l. got l place) (append-nil pairs) in
      record {
        says = sym (ap (mapped length) read ∙ ap (λ (m : ℕ). got m place) (many ∙ all));
        keeps = read_kept pairs many read t.kept refl;
        words_stay = t.words_stay;
        coefficients_stay = t.coefficients_stay;
      }
