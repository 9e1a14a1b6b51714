-- A list is read exactly from the bytes of its pairs: at most as many as there are variables, each with a variable's number and an accepted sum.
use mathlib.Core.Path.{◌≡◌, refl, sym, ◌∙◌, ap, subst}
use mathlib.Core.List.{List, [], ◌∷◌, ◌++◌, append_assoc, append-nil}
use Prim.Native.Nat.{ℕ, zero, suc, ◌+◌, ◌^◌, ◌≤◌, ◌<◌}
use native.Mathlib.Omega.{arith}
use native.Mathlib.Nat.{zero-add}
use lib.Dec.{ltb, leb, ltb→lt, lt→ltb, leb→le, le→leb}
use lib.ListN.{length, get_or, drop, length-append, drop_of_length-le}
use Rattle.numbers.specs.Number.{number_bytes, read_number}
use Rattle.numbers.proofs.Numbers.{number_read, number_cut}
use Rattle.packed.specs.Packed.{packed}
use Rattle.packed.specs.ReadSum.{read_sum}
use Rattle.packed.proofs.Trip.{after, sum-read, BytesAt, stands-none, stands-both, number-stands, sum-written}
use Rattle.packed.proofs.Places.{sum-cut}
use Rattle.numbers.specs.Item.{Item.got, Item.stopped, renamed, Fault.cut, Fault.bad}
use Rattle.change.specs.Pairs.{Pair, pair, pairs_bytes, list_bytes, ListFault.item, ListFault.unknown, read_pairs, read_list}
use Rattle.change.specs.Promised.{AllGood}
use Rattle.numbers.proofs.Items.{then-got, provided-yes, mapped-got, renamed-got, through, passed, came_from, carry, renamed-from, FaultAt, fault-then, fault-mapped, fault-provided, fault-none, fault-renamed}
use Rattle.change.proofs.Reading.{item-one, bad-item, no_item}

-- ---- What was written is read again. A number takes at most 64 bits, so there are not more variables than that tells.

module _ (s : List ℕ) (n : ℕ) (small : n < 2 ^ 64) where
  pairs-read : (ps : List Pair) (at : ℕ) (rest : List ℕ) → AllGood n ps → drop at s ≡ pairs_bytes ps ++ rest
      → read_pairs n (length ps) s at ≡ got ps (at + length (pairs_bytes ps))
  unfolding read_pairs pairs_bytes
  pairs-read [] at rest g e = ap (got []) (omega arith)
  pairs-read (p ∷ ps) at rest g e =
      let v = number_bytes p.variable in
      let S = packed p.sum in
      let e' : drop at s ≡ v ++ (S ++ (pairs_bytes ps ++ rest)) = e ∙ append_assoc v (S ++ pairs_bytes ps) rest ∙ ap (λ l. v ++ l) (append_assoc S (pairs_bytes ps) rest) in
      let next = after s at v (S ++ (pairs_bytes ps ++ rest)) e' in
      let i = pairs-read ps (at + length v + length S) rest g.1 (after s (at + length v) S (pairs_bytes ps ++ rest) next) in
      then-got _ (renamed-got item (number_read s at p.variable (S ++ (pairs_bytes ps ++ rest)) (omega (arith, g.0.known)) e'))
      ∙ provided-yes unknown at _ (ltb p.variable n) (lt→ltb p.variable n g.0.known)
      ∙ then-got _ (renamed-got item (sum-read s n p.sum (at + length v) (pairs_bytes ps ++ rest) g.0.accepted next))
      ∙ mapped-got (λ l. pair p.variable p.sum ∷ l) i
      ∙ ap (got (p ∷ ps)) (omega (arith, length-append v (S ++ pairs_bytes ps), length-append S (pairs_bytes ps)))

pub list_read : (n : ℕ) (ps : List Pair) → n < 2 ^ 64 → length ps ≤ n → AllGood n ps → read_list n (list_bytes ps) ≡ got ps (length (list_bytes ps))
unfolding read_list list_bytes
list_read n ps small few g =
    let s = list_bytes ps in
    let count = number_bytes (length ps) in
    let end : 0 + length count + length (pairs_bytes ps) ≡ length s = omega (arith, length-append count (pairs_bytes ps)) in
    let i = pairs-read s n small ps (0 + length count) [] g (after s 0 count (pairs_bytes ps) refl ∙ sym (append-nil (pairs_bytes ps))) in
    then-got _ (renamed-got item (number_read s 0 (length ps) (pairs_bytes ps) (omega (arith, small, few)) refl))
    ∙ provided-yes (item bad) 0 _ (leb (length ps) n) (le→leb (length ps) n few)
    ∙ then-got _ (i ∙ ap (got ps) end)
    ∙ provided-yes (item bad) (length s) _ (leb (length s) (length s)) (le→leb (length s) (length s) (omega arith))

-- ---- What is read was written.

module _ (s : List ℕ) (byte : (i : ℕ) → get_or s i 0 < 256) where
  record Pairs (n left at : ℕ) (ps : List Pair) (end : ℕ) : Type 0 where
    good : AllGood n ps
    many : length ps ≡ left
    stands : BytesAt s at (pairs_bytes ps) end

  pairs-written : (n left : ℕ) (ps : List Pair) (at end : ℕ) → read_pairs n left s at ≡ got ps end → Pairs n left at ps end
  unfolding read_pairs pairs_bytes
  pairs-written n zero ps at end e = carry (Pairs n zero at) e record { good = tt; many = refl; stands = stands-none s at }
  pairs-written n (suc left) ps at end e =
      let number = through _ _ _ _ e in
      let known = passed _ _ _ _ _ _ number.second in
      let sum = through _ _ _ _ known.1 in
      let rest = came_from _ _ _ _ sum.second in
      let w = sum-written s byte n sum.value number.next sum.next (renamed-from item _ sum.first) in
      let i = pairs-written n left rest.value sum.next end rest.is in
      subst (λ ps. Pairs n (suc left) at ps end) rest.shown
      record {
        good = (record { known = ltb→lt number.value n known.0; accepted = w.accepted }, i.good);
        many = ap suc i.many;
        stands = stands-both (number-stands s byte (renamed-from item _ number.first)) (stands-both w.stands i.stands);
      }

  pub record Written (n : ℕ) (ps : List Pair) (end : ℕ) : Type 0 where
    pub bytes_are : s ≡ list_bytes ps
    pub few : length ps ≤ n
    pub good : AllGood n ps
    pub ends : end ≡ length s

  pub list_written : (n : ℕ) (ps : List Pair) (end : ℕ) → read_list n s ≡ got ps end → Written n ps end
  unfolding read_list list_bytes
  list_written n ps end e =
      let count = through _ _ _ _ e in
      let few = passed _ _ _ _ _ _ count.second in
      let read = through _ _ _ _ few.1 in
      let last = passed _ _ _ _ _ _ read.second in
      let whole : read_pairs n count.value s count.next ≡ got ps end = read.first ∙ last.1 in
      let reached : length s ≤ end = carry (λ _ m. length s ≤ m) last.1 (leb→le (length s) read.next last.0) in
      let w = pairs-written n count.value ps count.next end whole in
      let all = stands-both (number-stands s byte (renamed-from item _ count.first)) w.stands in
      let none : drop end s ≡ [] = drop_of_length-le s reached in
      let is : s ≡ number_bytes count.value ++ pairs_bytes ps = all.bytes_are ∙ ap (λ l. (number_bytes count.value ++ pairs_bytes ps) ++ l) none ∙ append-nil _ in
      record {
        bytes_are = rw w.many is;
        few = omega (arith, w.many, leb→le count.value n few.0);
        good = w.good;
        ends = all.ends ∙ zero-add (length (number_bytes count.value ++ pairs_bytes ps)) ∙ ap length (sym is);
      }

-- ---- A list that ends too soon is refused at its length.

module _ (s : List ℕ) (n : ℕ) where
  number-end : (at : ℕ) → FaultAt (item cut) (length s) (renamed item (read_number s at))
  number-end at = fault-renamed (length s) item item-one (read_number s at) (λ p e. (number_cut s at p e).0)

  pairs_end : (left at : ℕ) → FaultAt (item cut) (length s) (read_pairs n left s at)
  unfolding read_pairs
  pairs_end zero at = fault-none (length s) [] at
  pairs_end (suc left) at =
      fault-then (length s) (renamed item (read_number s at)) _ (number-end at)
      (λ v next. fault-provided (length s) no_item (ltb v n) at _
      (fault-then (length s) (renamed item (read_sum n s next)) _ (fault-renamed (length s) item item-one (read_sum n s next) (λ p e. sum-cut s n next p e))
      (λ S end. fault-mapped (length s) _ (read_pairs n left s end) (pairs_end left end))))

  pub list-end : {p : ℕ} → read_list n s ≡ stopped (item cut) p → p ≡ length s
  unfolding read_list
  list-end {p} =
      fault-then (length s) (renamed item (read_number s 0)) _ (number-end 0)
      (λ count next. fault-provided (length s) bad-item (leb count n) 0 _
      (fault-then (length s) (read_pairs n count s next) _ (pairs_end count next)
      (λ ps end. fault-provided (length s) bad-item (leb (length s) end) end _ (fault-none (length s) ps end)))) p
