-- A list that grows at its end, as one value for each node does: it has m places, of which the first n are as before.
use mathlib.Core.Path.{◌≡◌, refl, ◌∙◌}
use mathlib.Core.List.{List, [], ◌∷◌, ◌++◌}
use Prim.Native.Nat.{ℕ, ◌+◌, ◌≤◌, ◌<◌}
use native.Mathlib.Omega.{arith}
use lib.ListN.{length, get_or, length-append, get_or-append}

-- (`none` is what stands past the end)
module _ {A : Type 0} (none : A) where
  pub record Kept (n m : ℕ) (before after : List A) : Type 0 where
    pub long : length after ≡ m
    pub same : (j : ℕ) → j < n → get_or after j none ≡ get_or before j none

  pub kept-all : {n : ℕ} {before : List A} → length before ≡ n → Kept n n before before
  kept-all h = record { long = h; same = λ j k. refl }

  pub kept_more : {n m : ℕ} {before vs : List A} (v : A) → Kept n m before vs → n ≤ m → Kept n (m + 1) before (vs ++ (v ∷ []))
  kept_more {vs = vs} v a h = record {
    long = omega (arith, length-append vs (v ∷ []), a.long);
    same = λ j k. get_or-append vs (v ∷ []) none j (omega (arith, a.long)) ∙ a.same j k;
  }

  pub kept_then : {n m l : ℕ} {before vs ws : List A} → Kept n m before vs → Kept m l vs ws → n ≤ m → Kept n l before ws
  kept_then a b h = record { long = b.long; same = λ j k. b.same j (omega arith) ∙ a.same j k }
