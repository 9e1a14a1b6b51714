-- The limits of a typed formula.
use Rattle.std.specs.Prelude.{ℕ, ◌*◌}
use Rattle.algebra.specs.Limits.{largest_degree, largest_weight, most_nodes}

-- in bytes
abbrev pub longest_text : ℕ
longest_text = 1024

-- how deep brackets may nest
abbrev pub deepest : ℕ
deepest = 16

-- 01's own words: numbers up to 2^62, exponents up to 60
abbrev pub largest_number : ℕ
largest_number = largest_weight

abbrev pub largest_exponent : ℕ
largest_exponent = largest_degree

-- what the table area needs: three places for each node, 192 in all
abbrev pub table_places : ℕ
table_places = 3 * most_nodes
