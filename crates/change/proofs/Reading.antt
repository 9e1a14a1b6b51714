-- An item of a list: its fault is the list's.
use mathlib.Core.Path.{◌≡◌}
use Prim.Native.Nat.{ℕ}
use native.Mathlib.Omega.{arith}
use Rattle.numbers.specs.Item.{Item, and_then, renamed, Fault, Fault.cut, Fault.bad}
use Rattle.std.specs.Prelude.{Err}
use Rattle.numbers.specs.declared.Fault as declared
use Rattle.numbers.specs.declared.Fault.TheVariants.{Cut, Bad}
use Rattle.numbers.specs.Inside.Read.{item_of}
use Rattle.numbers.proofs.Items.{Alike, Alike.both}
use Rattle.change.specs.Pairs.{ListFault, ListFault.item, ListFault.unknown}
use Rattle.change.specs.Inside.Kept.{listed_of, of_item}

pub item-stops : {B C : Type 0} (g : B → ℕ → Item ListFault C) (f : declared.Fault) {y : Item Fault B} → Alike (item_of (Err f)) y
    → Alike (listed_of (Err (of_item f))) (and_then (renamed item y) g)
unfolding and_then renamed
item-stops g (Cut place) both = both
item-stops g (Bad place) both = both

-- ---- Faults of a list that are none of another kind.

pub item-one : (what : Fault) → item what ≡ item cut → what ≡ cut
item-one what e = cc

pub bad-item : item bad ≡ item cut → ⊥
bad-item e = let z : ◌≡◌ {A = ℕ} 0 1 = cc in omega arith

pub no_item : unknown ≡ item cut → ⊥
no_item e = let z : ◌≡◌ {A = ℕ} 0 1 = cc in omega arith
