-- Formula tables at their limits, beside the cases of document 01 (which are in `promises`): one table, which the checker computes.
use mathlib.Core.Path.{◌≡◌, refl}
use mathlib.Core.List.{List, [], ◌∷◌, ◌++◌}
use Prim.Native.Nat.{ℕ, ◌-◌, ◌^◌}
use lib.IntN.{ℤ, pos, negsuc}
use lib.ListN.{replicate}
use Rattle.answers.proofs.Tables.{◌also◌}
use Rattle.answers.specs.Promised.{Each}
use Rattle.algebra.specs.Limits.{variables}
use Rattle.algebra.specs.Pattern.{times, degree, same, then_by, by_powers, order}
use Rattle.algebra.specs.Collect.{settle, insert, gather, keep, drop_zeros, collect, occurs, count_new, spread}
use Rattle.algebra.specs.Arithmetic as arithmetic
use Rattle.algebra.specs.Arithmetic.{row, pairs, ◌⊕◌, sum_spread, ◌⊗◌, product_spread, power_spread}
use Rattle.answers.specs.Refusals.{SHAPE, NODE, DEGREE, WEIGHT, SPREAD}
use Rattle.numbers.specs.Number.{groups_of, number_bytes}
use Rattle.numbers.specs.Code.{code}
use Rattle.packed.proofs.CaseBytes.{powers, two, heaviest}
use Rattle.packed.specs.Packed.{exponent_bytes, term_bytes, bytes_of_terms, packed}
use Rattle.answers.specs.Judge.{Judged, Judged.good, Judged.fails, holding, and_then}
use Rattle.nodes.specs.Node.{Kind, Kind.integer, Kind.variable, Kind.sum, Kind.product, Kind.power, table_of, is_in, is_kind, read_node}
use Rattle.nodes.specs.Formal.{formal_degree, formal_weight, node_spread, node_sum}
use Rattle.formula.specs.Table.{Entry, judge_node, judge_nodes, is_shape, judge_table}
use Rattle.formula.specs.Simplify.{last_sum}

-- ---- A case is a table, with the packed bytes of its formula's sum, or the refusal and its node (0 for SHAPE).

pub record Case : Type 0 where
  pub numbers : List ℤ
  pub gives : Judged (List ℕ)

abbrev pub bytes_of : Judged (List Entry) → Judged (List ℕ)
bytes_of (good nodes) = good (packed (last_sum nodes))
bytes_of (fails refusal node) = fails refusal node

abbrev pub Says : Case → Type 0
Says c = bytes_of (judge_table c.numbers) ≡ c.gives

-- ---- Short names.

-- nodes that have the packed bytes
packs : List Kind → List ℕ → Case
unfolding table_of
packs ks bytes = record { numbers = table_of ks; gives = good bytes }

-- nodes, of which one is refused
stops : List Kind → ℕ → ℕ → Case
unfolding table_of
stops ks refusal node = record { numbers = table_of ks; gives = fails refusal node }

-- numbers that are not three for each of 1 to 64 nodes
unshaped : List ℤ → Case
unshaped numbers = record { numbers = numbers; gives = fails SHAPE 0 }

-- three numbers after nodes are those of no node; a good node follows, which does not use it
broken : List Kind → ℕ → ℤ → ℤ → ℤ → Case
unfolding table_of
broken ks node kind first second = record { numbers = table_of ks ++ (kind ∷ first ∷ second ∷ table_of (integer (pos 1) ∷ [])); gives = fails NODE node }

a : Kind
a = variable 0

b : Kind
b = variable 1

minus_one : Kind
minus_one = integer (negsuc 0)

-- a-a
nothing : List Kind
unfolding a minus_one
nothing = a ∷ a ∷ minus_one ∷ product 2 1 ∷ sum 0 3 ∷ []

-- a^60
tall : List Kind
unfolding a
tall = a ∷ power 0 60 ∷ []

-- (1+a)^m*(1+b)^n
rectangle : ℕ → ℕ → List Kind
unfolding a b
rectangle m n = integer (pos 1) ∷ a ∷ sum 0 1 ∷ power 2 m ∷ b ∷ sum 0 4 ∷ power 5 n ∷ product 3 6 ∷ []

-- the number 1, so many times
ones : ℕ → List Kind
ones n = replicate n (integer (pos 1))

largest : ℕ
largest = 2 ^ 62

-- ---- The table.

pub table : List Case
unfolding packs stops unshaped broken a b minus_one nothing tall rectangle ones largest table_of
table =
    -- a+a with one node for a
    packs (a ∷ sum 0 0 ∷ []) (1 ∷ two 4 1 0)
    -- 2^62 and -2^62, and -2^63, which is no bad node
    ∷ packs (integer (pos largest) ∷ []) (1 ∷ heaviest ++ powers [])
    ∷ packs (integer (negsuc (largest - 1)) ∷ []) (1 ∷ replicate 8 255 ++ (127 ∷ powers []))
    ∷ stops (integer (negsuc (2 ^ 63 - 1)) ∷ []) WEIGHT 0
    -- (2^61-2^61)*2 and 0^0*2^62+1: the weights are formal, that of zero here 2^62, and that of 0^0 is 1
    ∷ stops (integer (pos (2 ^ 61)) ∷ minus_one ∷ product 1 0 ∷ sum 0 2 ∷ integer (pos 2) ∷ product 3 4 ∷ []) WEIGHT 5
    ∷ stops (integer (pos 0) ∷ power 0 0 ∷ integer (pos largest) ∷ product 1 2 ∷ integer (pos 1) ∷ sum 3 4 ∷ []) WEIGHT 5
    -- (a-a)*a^60: the degree is formal, that of zero here 1
    ∷ stops (nothing ++ (a ∷ power 5 60 ∷ product 4 6 ∷ [])) DEGREE 7
    -- (1+a)^7*(1+b)^15 has 128 patterns (it is then taken 0 times), and (1+a)^2*(1+b)^42 has 129
    ∷ packs (rectangle 7 15 ++ (integer (pos 0) ∷ product 7 8 ∷ [])) (0 ∷ [])
    ∷ stops (rectangle 2 42) SPREAD 7
    -- tables of 0, 1, 192 and 195 numbers, and one of 4 with no such kind
    ∷ unshaped []
    ∷ unshaped (pos 0 ∷ [])
    ∷ packs (ones 64) (1 ∷ two 2 0 0)
    ∷ unshaped (table_of (ones 65))
    ∷ unshaped (pos 5 ∷ pos 0 ∷ pos 0 ∷ pos 0 ∷ [])
    -- no such kind, a fixed 0 that is 1, a variable too many, exponent 61
    ∷ broken [] 0 (pos 5) (pos 0) (pos 0)
    ∷ broken [] 0 (negsuc 0) (pos 0) (pos 0)
    ∷ broken [] 0 (pos 0) (pos 1) (pos 1)
    ∷ broken [] 0 (pos 1) (pos 0) (pos 1)
    ∷ broken [] 0 (pos 1) (pos variables) (pos 0)
    ∷ broken (a ∷ []) 1 (pos 4) (pos 0) (pos 61)
    -- a child that is the node itself, and one below 0
    ∷ broken (a ∷ []) 1 (pos 2) (pos 0) (pos 1)
    ∷ broken (a ∷ []) 1 (pos 3) (negsuc 0) (pos 0)
    ∷ broken (a ∷ []) 1 (pos 4) (pos 1) (pos 2)
    -- the first fault counts: the degree at node 2, and not the kind at node 3
    ∷ record { numbers = table_of (tall ++ (product 1 0 ∷ [])) ++ (pos 5 ∷ pos 0 ∷ pos 0 ∷ []); gives = fails DEGREE 2 }
    ∷ []

pub cases-hold : Each Says table
unfolding table packs stops unshaped broken a b minus_one nothing tall rectangle ones largest table_of is_in is_kind read_node holding and_then judge_node judge_nodes is_shape judge_table formal_degree formal_weight node_spread node_sum times degree same then_by by_powers order settle insert gather keep drop_zeros collect occurs count_new spread arithmetic.integer arithmetic.variable row pairs ◌⊕◌ sum_spread ◌⊗◌ product_spread arithmetic.power power_spread groups_of number_bytes code exponent_bytes term_bytes bytes_of_terms packed
cases-hold =
    refl
    also refl also refl also refl
    also refl also refl
    also refl
    also refl also refl
    also refl also refl also refl also refl also refl
    also refl also refl also refl also refl also refl also refl
    also refl also refl also refl also refl
    also tt
