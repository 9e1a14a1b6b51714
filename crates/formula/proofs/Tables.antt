-- A table is that of one list of nodes only: the nodes are read back from it.
use mathlib.Core.Path.{◌≡◌, refl, sym, ◌∙◌, ap}
use mathlib.Core.List.{List, [], ◌∷◌}
use Prim.Native.Nat.{ℕ, zero, suc}
use lib.IntN.{ℤ, nat_abs}
use Rattle.nodes.specs.Node.{Kind, Kind.integer, Kind.variable, Kind.sum, Kind.product, Kind.power, table_of}

-- the node with these numbers, if there is one
spelt : ℕ → ℤ → ℤ → Kind
spelt zero first second = integer first
spelt (suc zero) first second = variable (nat_abs first)
spelt (suc (suc zero)) first second = sum (nat_abs first) (nat_abs second)
spelt (suc (suc (suc zero))) first second = product (nat_abs first) (nat_abs second)
spelt (suc (suc (suc (suc kind)))) first second = power (nat_abs first) (nat_abs second)

nodes_of : List ℤ → List Kind
nodes_of [] = []
nodes_of (kind ∷ []) = []
nodes_of (kind ∷ first ∷ []) = []
nodes_of (kind ∷ first ∷ second ∷ rest) = spelt (nat_abs kind) first second ∷ nodes_of rest

nodes-back : (ks : List Kind) → nodes_of (table_of ks) ≡ ks
unfolding table_of nodes_of spelt
nodes-back [] = refl
nodes-back (integer n ∷ ks) = ap (λ l. integer n ∷ l) (nodes-back ks)
nodes-back (variable v ∷ ks) = ap (λ l. variable v ∷ l) (nodes-back ks)
nodes-back (sum a b ∷ ks) = ap (λ l. sum a b ∷ l) (nodes-back ks)
nodes-back (product a b ∷ ks) = ap (λ l. product a b ∷ l) (nodes-back ks)
nodes-back (power a e ∷ ks) = ap (λ l. power a e ∷ l) (nodes-back ks)

pub table-one : (ks js : List Kind) → table_of ks ≡ table_of js → ks ≡ js
table-one ks js e = sym (nodes-back ks) ∙ ap nodes_of e ∙ nodes-back js
