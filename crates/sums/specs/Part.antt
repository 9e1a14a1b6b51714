-- The part of a work area that keeps the terms of a node, or of a pair.
use Rattle.std.specs.Prelude.{List, ℕ, ◌*◌, take, drop}
use Rattle.algebra.specs.Limits.{most_terms}

-- it starts at 128 × its index
abbrev pub part : {A : Type 0} → ℕ → List A → List A
part i area = take most_terms (drop (most_terms * i) area)
