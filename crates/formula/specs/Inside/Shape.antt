-- What the code knows of a table's length, for the contract of a private function.
use Rattle.std.specs.Prelude.{◌≡◌, ℕ, ◌*◌, ◌≤◌}
use Rattle.algebra.specs.Limits.{most_nodes}

-- a table of so many nodes, three numbers each
pub record Shaped (n nodes : ℕ) : Type 0 where
  pub three_each : n ≡ 3 * nodes
  pub some : 1 ≤ nodes
  pub few : nodes ≤ most_nodes
