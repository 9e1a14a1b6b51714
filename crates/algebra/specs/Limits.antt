-- The numbers of document 01, each once. The code's constants are proved equal to them.
use Rattle.std.specs.Prelude.{ℕ, ◌*◌, ◌^◌}

-- the variables a to h
abbrev pub variables : ℕ
variables = 8

abbrev pub largest_degree : ℕ
largest_degree = 60

abbrev pub most_terms : ℕ
most_terms = 128

abbrev pub largest_weight : ℕ
largest_weight = 2 ^ 62

abbrev pub most_nodes : ℕ
most_nodes = 64

-- the places of a work area: 128 for each node, 8,192 in all
abbrev pub work_places : ℕ
work_places = most_terms * most_nodes
