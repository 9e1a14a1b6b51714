-- One node put to a table, as the code puts it.
use mathlib.Core.Path.{◌≡◌}
use mathlib.Core.Bool.{◌&&◌}
use mathlib.Core.List.{List}
use Prim.Native.Nat.{ℕ, ◌≤◌, ◌<◌}
use lib.Dec.{T, ltb, leb, lt→ltb, le→leb}
use lib.IntN.{ℤ}
use lib.ListN.{set}
use lib.Ieee.Fits.{and_i}
use borrow.Author.Tests.{lt-ltb}
use Rattle.algebra.specs.Limits.{largest_degree, most_nodes}
use Rattle.nodes.specs.Node.{Kind, numbers_of}
use Rattle.text.specs.Inside.Laid.{put_node}

module _ (table : List (List ℤ)) (n : ℕ) (k : Kind) where
  pub put-within : n < most_nodes → put_node table n k ≡ set table n (numbers_of k)
  unfolding put_node
  put-within h = rw (lt-ltb n most_nodes h)

-- the children of node n are before it
pub both-before : (n a b : ℕ) → a < n → b < n → T (ltb a n && ltb b n)
both-before n a b h k = and_i (ltb a n) (ltb b n) (lt→ltb a n h) (lt→ltb b n k)

pub base-before : (n a e : ℕ) → a < n → e ≤ largest_degree → T (ltb a n && leb e largest_degree)
base-before n a e h k = and_i (ltb a n) (leb e largest_degree) (lt→ltb a n h) (le→leb e largest_degree k)
