-- Checks, one after the other: the first that fails gives its refusal and its place.
use Rattle.std.specs.Prelude.{Bool, true, false, ℕ}

pub data Judged (A : Type 0) : Type 0 where
  good : A → Judged A
  -- the refusal's number, and its place
  fails : ℕ → ℕ → Judged A

-- a check: if it holds, the rest decides
unfoldable pub holding : {A : Type 0} → Bool → ℕ → ℕ → Judged A → Judged A
holding true refusal place rest = rest
holding false refusal place rest = fails refusal place

-- the next checks, on what was found good
unfoldable pub and_then : {A B : Type 0} → Judged A → (A → Judged B) → Judged B
and_then (good a) f = f a
and_then (fails refusal place) f = fails refusal place
