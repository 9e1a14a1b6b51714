-- A sum is formed where its spread is at most 128, and is refused where it is more.
use mathlib.Core.Path.{◌≡◌, sym, ◌∙◌}
use Prim.Native.Nat.{ℕ, ◌≤◌, ◌<◌}
use native.Mathlib.Omega.{arith}
use native.Mathlib.Decide.{dec_lt}
use borrow.Author.Tests.{le-leb, lt-leb}
use Rattle.algebra.specs.Limits.{most_terms}
use Rattle.algebra.specs.Sum.{Sum}
use Rattle.sums.specs.Formed.{Formed.formed, Formed.over, within}

module _ (spread : ℕ) (s : Sum) where
  pub within-yes : spread ≤ most_terms → within spread s ≡ formed s
  unfolding within
  within-yes few = rw (le-leb spread most_terms few)

  pub within-no : most_terms < spread → within spread s ≡ over
  unfolding within
  within-no many = rw (lt-leb spread most_terms many)

  -- a sum that was formed is this one
  pub within-formed : {t : Sum} → within spread s ≡ formed t → (spread ≤ most_terms) × (s ≡ t)
  within-formed {t} e = go (dec_lt most_terms spread)
    where
      go : Dec (most_terms < spread) → (spread ≤ most_terms) × (s ≡ t)
      go (yes many) =
          let told : over ≡ formed t = sym (within-no many) ∙ e in
          let z : ◌≡◌ {A = ℕ} 0 1 = cc in absurd (omega arith)
      go (no few) =
          let told : formed s ≡ formed t = sym (within-yes (omega arith)) ∙ e in
          (omega arith, cc)
