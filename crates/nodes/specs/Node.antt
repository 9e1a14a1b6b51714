-- A formula is a list of nodes, the last of which is the formula. A node is of one of five kinds, each with its own data; its children are earlier
-- nodes, named by their index.
use Rattle.std.specs.Prelude.{Bool, true, false, cond, ◌&&◌, List, [], ◌∷◌, ◌++◌, ℕ, suc, eqb, ltb, leb, ℤ, pos, negsuc, nat_abs}
use Rattle.algebra.specs.Limits.{variables, largest_degree}
use Rattle.algebra.specs.Sum.{is_zero}
use Rattle.answers.specs.Refusals.{NODE}
use Rattle.answers.specs.Judge.{Judged, Judged.good, Judged.fails, holding}

pub data Kind : Type 0 where
  integer : ℤ → Kind
  variable : ℕ → Kind
  sum : ℕ → ℕ → Kind
  product : ℕ → ℕ → Kind
  -- the base, and the exponent
  power : ℕ → ℕ → Kind

-- ---- The table: three numbers for each node, kind, first and second.

abbrev pub numbers_of : Kind → List ℤ
numbers_of (integer n) = pos 0 ∷ n ∷ pos 0 ∷ []
numbers_of (variable v) = pos 1 ∷ pos v ∷ pos 0 ∷ []
numbers_of (sum a b) = pos 2 ∷ pos a ∷ pos b ∷ []
numbers_of (product a b) = pos 3 ∷ pos a ∷ pos b ∷ []
numbers_of (power a e) = pos 4 ∷ pos a ∷ pos e ∷ []

unfoldable pub table_of : List Kind → List ℤ
table_of [] = []
table_of (k ∷ ks) = numbers_of k ++ table_of ks

-- node i may be this: its children are earlier nodes, its variable is one of a to h, its exponent at most 60
abbrev pub is_node : ℕ → Kind → Bool
is_node i (integer n) = true
is_node i (variable v) = ltb v variables
is_node i (sum a b) = ltb a i && ltb b i
is_node i (product a b) = ltb a i && ltb b i
is_node i (power a e) = ltb a i && leb e largest_degree

-- ---- Node i is read from its three numbers.

-- the number is at least 0 and below the limit
unfoldable pub is_in : ℕ → ℤ → Bool
is_in limit (pos n) = ltb n limit
is_in limit (negsuc n) = false

-- the number is that of this kind
unfoldable pub is_kind : ℕ → ℤ → Bool
is_kind kind (pos n) = eqb n kind
is_kind kind (negsuc n) = false

-- a fixed 0 is 0, a variable one of a to h, a child an earlier node, an exponent 0 to 60. There is no other kind
unfoldable pub read_node : ℕ → ℤ → ℤ → ℤ → Judged Kind
read_node i kind first second =
    cond (is_kind 0 kind) (holding (is_zero second) NODE i (good (integer first)))
    (cond (is_kind 1 kind) (holding (is_in variables first && is_zero second) NODE i (good (variable (nat_abs first))))
    (cond (is_kind 2 kind) (holding (is_in i first && is_in i second) NODE i (good (sum (nat_abs first) (nat_abs second))))
    (cond (is_kind 3 kind) (holding (is_in i first && is_in i second) NODE i (good (product (nat_abs first) (nat_abs second))))
    (cond (is_kind 4 kind) (holding (is_in i first && is_in (suc largest_degree) second) NODE i (good (power (nat_abs first) (nat_abs second))))
    (fails NODE i)))))
