-- What the code asks of the degrees and of the weights of the nodes before.
use Rattle.std.specs.Prelude.{List, ℕ, ◌≤◌, ◌<◌, length, get_or}

-- each is at most a limit
abbrev pub EachAtMost : ℕ → List ℕ → Type 0
EachAtMost limit ns = (k : ℕ) → k < length ns → get_or ns k 0 ≤ limit
