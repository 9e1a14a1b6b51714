-- A list that is walked from the front, by what is left of it after k items.
use mathlib.Core.Path.{◌≡◌, sym, ◌∙◌, ap}
use mathlib.Core.List.{List, ◌∷◌}
use mathlib.Core.Logic.{◌⊎◌, inl, inr}
use Prim.Native.Nat.{ℕ, ◌+◌, ◌≤◌, ◌<◌}
use native.Mathlib.Omega.{arith}
use lib.ListN.{length, get_or, drop, length-drop}
use Rattle.std.proofs.lemmas.List.{drop_more}

pub record Left {A : Type 0} (xs : List A) (k : ℕ) (left : List A) : Type 0 where
  pub is : left ≡ drop k xs

module _ {A : Type 0} {xs : List A} {k : ℕ} {left : List A} (l : Left xs k left) where
  -- there is one more
  module _ {x : A} {after : List A} (next : left ≡ x ∷ after) where
    pub more : k < length xs
    more = omega (arith, ap length l.is, ap length next, length-drop k xs)

    parts : (d : A) → x ∷ after ≡ get_or xs k d ∷ drop (k + 1) xs
    parts d = sym next ∙ l.is ∙ drop_more xs k d more

    pub item-is : (d : A) → x ≡ get_or xs k d
    item-is d = let e : x ∷ after ≡ get_or xs k d ∷ drop (k + 1) xs = parts d in cc

    pub walked : {many : ℕ} → many ≡ k + 1 → Left xs many after
    walked is = rw is record { is = let e : x ∷ after ≡ get_or xs k x ∷ drop (k + 1) xs = parts x in cc }

  -- there is none
  pub none-left : length left ≡ 0 → length xs ≤ k
  none-left none = omega (arith, ap length l.is, none, length-drop k xs)

-- two lists of one length are walked in step, and either has no more
pub all-walked : {A B S T : Type 0} {P : S → Type 0} {Q : T → Type 0} {xs : List A} {ys : List B} {k : ℕ} {left : List A} {other : List B} → Left xs k left → Left ys k other → length xs ≡ length ys
    → ((u : S) × (length left ≡ 0 × P u)) ⊎ ((u : T) × (length other ≡ 0 × Q u)) → length xs ≤ k
all-walked l o same (inl e) = none-left l e.1.0
all-walked l o same (inr e) = omega (arith, none-left o e.1.0, same)
