-- What a lent area holds after something was written to it.
use Rattle.std.specs.Prelude.{List, ◌++◌, ℕ, length, drop, replicate}

-- the values stand in the first places, and the other places stay
abbrev pub written : {A : Type 0} → List A → List A → List A
written values area = values ++ drop (length values) area

-- the first places, so many as `count` says, are zero, and the other places stay
abbrev pub cleared : {A : Type 0} → A → ℕ → List A → List A
cleared zero count area = written (replicate count zero) area
