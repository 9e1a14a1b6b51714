-- What `read_list` answers, check by check: the count, its pairs, and that nothing is left over.
use mathlib.Core.Path.{◌≡◌, sym, ◌∙◌}
use mathlib.Core.List.{List}
use Prim.Native.Nat.{ℕ, ◌≤◌, ◌<◌}
use native.Mathlib.Omega.{arith}
use lib.Dec.{leb, leb→le, le→leb}
use lib.ListN.{length}
use Rattle.algebra.specs.Limits.{variables}
use Rattle.numbers.specs.Item.{Item, Item.got, Item.stopped, mapped, to_the_end, Fault.bad}
use Rattle.numbers.specs.Number.{read_number}
use Rattle.change.specs.Pairs.{Pair, ListFault, ListFault.item, read_pairs, read_list}
use Rattle.std.specs.Prelude.{Err}
use Rattle.numbers.specs.declared.Fault as declared
use Rattle.numbers.specs.Inside.Read.{item_of}
use Rattle.change.specs.Inside.Kept.{listed_of, of_item}
use Rattle.change.specs.declared.lists.ListFault as code
use Rattle.change.specs.declared.lists.ListFault.TheVariants.{Ended, Damaged, Unknown}
use Rattle.numbers.proofs.Items.{then-got, provided-yes, renamed-got, From, came_from, Alike, Alike.both, alike_then, alike-provided}
use Rattle.change.proofs.Reading.{item-stops}

-- ---- What reading the pairs answered.

-- a fault is the one that was met
met : {what : ListFault} {place : ℕ} (read : Item ListFault (List Pair)) → stopped what place ≡ mapped length read → Alike {A = ℕ} (stopped what place) read
unfolding mapped
met (got ps end) e = let z : ◌≡◌ {A = ℕ} 0 1 = cc in absurd (omega arith)
met (stopped what place) e = rw e both

pub pairs-stopped : (f : code.ListFault) (read : Item ListFault (List Pair)) → listed_of (Err f) ≡ mapped length read → Alike (listed_of (Err f)) read
pairs-stopped (Ended place) read e = met read e
pairs-stopped (Damaged place) read e = met read e
pairs-stopped (Unknown place) read e = met read e

-- or pairs, and the place after them
pub pairs-read : {n end : ℕ} (read : Item ListFault (List Pair)) → got n end ≡ mapped length read → From length read n end
pairs-read read e = came_from length read _ _ (sym e)

-- ---- The whole list.

module _ (s : List ℕ) where
  pub count-stops : (f : declared.Fault) → Alike (item_of (Err f)) (read_number s 0) → Alike (listed_of (Err (of_item f))) (read_list variables s)
  unfolding read_list
  count-stops f a = item-stops _ f a

  module _ {count next : ℕ} (number : read_number s 0 ≡ got count next) where
    pub many-stop : variables < count → Alike {A = ℕ} (stopped (item bad) 0) (read_list variables s)
    unfolding read_list
    many-stop above = rw (then-got _ (renamed-got item number)) (alike-provided (item bad) 0 _ (leb count variables) (λ k. omega (arith, leb→le count variables k)))

    module _ (few : count ≤ variables) where
      list_is : read_list variables s ≡ to_the_end (item bad) s (read_pairs variables count s next)
      unfolding read_list
      list_is = then-got _ (renamed-got item number) ∙ provided-yes (item bad) 0 _ (leb count variables) (le→leb count variables few)

      pub pairs-stop : {x : Item ListFault ℕ} → Alike x (read_pairs variables count s next) → Alike x (read_list variables s)
      pairs-stop a = rw list_is (alike_then _ a)

      module _ {n end : ℕ} (from : From length (read_pairs variables count s next) n end) where
        pub left_over : end < length s → Alike {A = ℕ} (stopped (item bad) end) (read_list variables s)
        left_over more = rw (list_is, then-got _ from.is) (alike-provided (item bad) end _ (leb (length s) end) (λ k. omega (arith, leb→le (length s) end k)))

        pub all_read : length s ≤ end → read_list variables s ≡ read_pairs variables count s next
        all_read all = list_is ∙ then-got _ from.is ∙ provided-yes (item bad) end _ (leb (length s) end) (le→leb (length s) end all) ∙ sym from.is
