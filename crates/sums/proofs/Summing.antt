-- The sum of two sums in slices: it is refused where its spread is above 128, and otherwise there is room for it.
use mathlib.Core.Path.{◌≡◌, refl, ap}
use mathlib.Core.Bool.{true, false}
use mathlib.Core.List.{List}
use Prim.Native.Nat.{ℕ, ◌+◌, ◌≤◌}
use native.Mathlib.Omega.{arith}
use lib.Dec.{leb, leb→le}
use lib.IntN.{ℤ}
use lib.ListN.{length}
use Rattle.algebra.specs.Limits.{most_terms}
use Rattle.algebra.specs.Sum.{Sum}
use Rattle.algebra.specs.Arithmetic.{◌⊕◌, sum_spread}
use Rattle.algebra.specs.Word.{terms}
use Rattle.sums.specs.Asked.{RoomOf, Addends}
use Rattle.sums.specs.Formed.{Formed, Formed.formed, Formed.over, within, sum_of, formed_into}
use Rattle.sums.proofs.Counts.{spread-below}

-- what the test of the spread tells
module _ (s t : Sum) where
  pub over-told : leb (sum_spread s t) most_terms ≡ false → over ≡ sum_of s t
  unfolding sum_of within
  over-told e = rw e refl

  pub formed-told : leb (sum_spread s t) most_terms ≡ true → formed (s ⊕ t) ≡ sum_of s t
  unfolding sum_of within
  formed-told e = rw e refl

-- nothing is formed, and the areas stay
pub stays : {f : Formed Sum} (ws : List ℕ) (cs : List ℤ) → over ≡ f → (over, ws, cs) ≡ formed_into f ws cs
unfolding formed_into
stays ws cs e = ap (λ (x : Formed Sum). formed_into x ws cs) e

-- there is room for as many terms as the spread counts
pub spread-room : {sp : List ℕ} {sc : List ℤ} {tp : List ℕ} {tc : List ℤ} {ws : List ℕ} {cs : List ℤ} → Addends sp sc tp tc → RoomOf (length sp + length tp) ws cs
    → leb (sum_spread (terms sp sc) (terms tp tc)) most_terms ≡ true
    → (sum_spread (terms sp sc) (terms tp tc) ≤ length ws) × (sum_spread (terms sp sc) (terms tp tc) ≤ length cs)
spread-room {sp} {sc} {tp} {tc} a room e =
    let few = leb→le (sum_spread (terms sp sc) (terms tp tc)) most_terms (rw e tt) in
    let below = spread-below a.first.held a.second.held in
    (omega (arith, few, below, room.words), omega (arith, few, below, room.coefficients))
