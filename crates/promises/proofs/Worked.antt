-- Demand 3, worked once from the typed formula on: where a is from 9 to 11 and b from 1 to 5, (a+b)^2-b^2 lies in 89..231.
use mathlib.Core.Path.{◌≡◌, refl}
use mathlib.Core.List.{List, [], ◌∷◌}
use Prim.Native.Nat.{ℕ, ◌*◌}
use native.Mathlib.Omega.{arith}
use lib.IntN.{ℤ, pos, pow, one, ◌+ℤ◌, ◌-ℤ◌}
use lib.ListN.{length, replicate, length-replicate}
use lib.Signed.{◌≤ℤ◌}
use Rattle.algebra.specs.Limits.{variables, work_places}
use Rattle.algebra.specs.Pattern as pattern
use Rattle.algebra.specs.Pattern.{degree, same, then_by, by_powers, order}
use Rattle.algebra.specs.Sum.{term, Sum, degree_of, weight}
use Rattle.algebra.specs.Collect.{settle, insert, gather, keep, drop_zeros, collect, occurs, count_new, spread}
use Rattle.algebra.specs.Arithmetic as arithmetic
use Rattle.algebra.specs.Arithmetic.{row, pairs, ◌⊕◌, sum_spread, ◌⊗◌, product_spread, power_spread}
use Rattle.algebra.specs.Value.{total, pattern_value, value}
use Rattle.algebra.specs.Margin as algebra
use Rattle.algebra.specs.Margin.{pattern_size, unsigned, raised_by, margin, Within, Within.none, Within.more}
use Rattle.algebra.proofs.Numbers.Whole.{between-abs}
use Rattle.answers.specs.Answers.{Told.done, outcome}
use Rattle.answers.specs.Areas.{written}
use Rattle.answers.specs.Judge.{holding, and_then}
use Rattle.answers.specs.Quoted.{quoted}
use Rattle.answers.proofs.Writes.{written-front}
use Rattle.numbers.specs.Item as item
use Rattle.numbers.specs.Number.{groups_of, number_bytes, read_byte, read_groups, read_number}
use Rattle.numbers.specs.Code.{code, decode}
use Rattle.packed.specs.Packed.{exponent_bytes, term_bytes, bytes_of_terms, packed, most_bytes}
use Rattle.packed.specs.Judge.{weighs, follows}
use Rattle.packed.specs.ReadSum as packed-sum
use Rattle.packed.specs.ReadSum.{read_coefficient, read_exponents, read_terms}
use Rattle.packed.specs.Result.{packed_into}
use Rattle.packed.specs.Promised.{cleared_with}
use Rattle.packed.proofs.Working.{worked, with-room}
use Rattle.nodes.specs.Node.{table_of, is_in, is_kind, read_node}
use Rattle.nodes.specs.Formal.{formal_degree, formal_weight, node_spread, node_sum}
use Rattle.formula.specs.Table.{judge_node, judge_nodes, is_shape, judge_table}
use Rattle.formula.specs.Simplify.{table_sum, simplify}
use Rattle.text.specs.Signs.{is_digit}
use Rattle.text.specs.Letters.{letter_of}
use Rattle.text.specs.Tree.{Tree, Tree.letter, Tree.plus, Tree.raised, Tree.minus, node_count, nodes_of, tree_value}
use Rattle.text.specs.Grammar.{Formula}
use Rattle.text.specs.Reader.{takes, more_digits, digits_at, read_atom, read_exponent, read_factor, read_more, is_times, read_term, is_sign, signed, after_minus, read_sum, in_brackets, read_whole}
use Rattle.text.proofs.Formulas.{formula-read}
use Rattle.text.proofs.Typing.{typed-accepts}
use Rattle.numbers.specs.Bytes.{plain_number, signed_number, plain_bytes, signed_bytes}
use Rattle.estimates.specs.Readings.{two_byte_numbers, spelled, before_negative, judge_readings}
use Rattle.estimates.specs.Range.{judge_range, judge_terms}
use Rattle.router.specs.Estimate.{judge_estimate, answer_of, answer_into, estimate}
use Rattle.router.specs.Cases.{in_bytes}
use Rattle.promises.specs.Becomes.{Simplifies, ReadsAs, Becomes, Becomes.a_text}
use Rattle.promises.proofs.Margins.{demand-3}

abbrev tree : Tree
tree = plus (raised (plus (letter 0) (letter 1)) 2) (minus (raised (letter 1) 2))

abbrev table : List ℤ
table = table_of (nodes_of 0 tree)

-- a² + 2ab
abbrev sum : Sum
sum = term (pos 1) (2 ∷ 0 ∷ 0 ∷ 0 ∷ 0 ∷ 0 ∷ 0 ∷ 0 ∷ []) ∷ term (pos 2) (1 ∷ 1 ∷ 0 ∷ 0 ∷ 0 ∷ 0 ∷ 0 ∷ 0 ∷ []) ∷ []

-- ---- From the text to the bytes.

is-formula : Formula (quoted "(a+b)^2-b^2") tree
unfolding quoted read_whole in_brackets read_sum after_minus signed is_sign read_term is_times read_more read_factor read_exponent read_atom digits_at more_digits takes letter_of is_digit holding and_then
is-formula = formula-read (quoted "(a+b)^2-b^2") tree refl

-- the areas that are lent: they hold zeros
abbrev table_area : List ℤ
table_area = replicate 192 (pos 0)

abbrev patterns : List ℕ
patterns = replicate work_places 0

abbrev coefficients : List ℤ
coefficients = replicate work_places (pos 0)

abbrev result : List ℕ
result = replicate (most_bytes variables) 0

table-long : length table ≡ 3 * node_count tree
unfolding table_of nodes_of node_count
table-long = refl

is_read : ReadsAs (quoted "(a+b)^2-b^2") table
is_read = record {
  area = table_area;
  count = node_count tree;
  area' = written table table_area;
  is_done = typed-accepts (quoted "(a+b)^2-b^2") table_area (record {
    tree = tree;
    room = omega (arith, length-replicate {A = ℤ} 192 (pos 0));
    short = unfold quoted in omega arith;
    formula = is-formula;
    few = unfold node_count in omega arith;
    many = refl;
    table_is = refl;
  });
  table_is = (written-front table table_area refl table-long).0;
}

is-simplified : Simplifies table (packed sum)
unfolding table_sum simplify worked packed_into judge_table is_shape judge_nodes judge_node holding and_then table_of nodes_of node_count is_in is_kind read_node formal_degree formal_weight node_spread node_sum pattern.times degree same then_by by_powers order degree_of weight settle insert gather keep drop_zeros collect occurs count_new spread arithmetic.integer arithmetic.variable row pairs ◌⊕◌ sum_spread ◌⊗◌ product_spread arithmetic.power power_spread
is-simplified = record {
  words = patterns;
  coefficients = coefficients;
  area = result;
  count = length (packed sum);
  areas = cleared_with patterns coefficients (written (packed sum) result);
  is_done = with-room (table_sum table) patterns coefficients result (record {
    patterns_room = omega (arith, length-replicate {A = ℕ} work_places 0);
    coefficients_room = omega (arith, length-replicate {A = ℤ} work_places (pos 0));
    result_room = omega (arith, length-replicate {A = ℕ} (most_bytes variables) 0);
  });
  bytes_are = (written-front (packed sum) result refl refl).0;
}

becomes : Becomes (packed sum) (tree_value tree)
becomes = a_text (quoted "(a+b)^2-b^2") tree table is-formula is_read is-simplified

-- ---- The estimate: a = 10 within 1, b = 3 within 2.

abbrev readings : List ℕ
readings = in_bytes (pos 10 ∷ pos 3 ∷ [])

abbrev tolerances : List ℕ
tolerances = in_bytes (pos 1 ∷ pos 2 ∷ [])

abbrev answer : List ℕ
answer = answer_of (pos 160) 71

is-estimated : estimate (packed sum) readings tolerances (replicate 16 0) ≡ outcome (done 16) answer
unfolding estimate answer_into judge_estimate judge_terms judge_range judge_readings holding and_then spelled two_byte_numbers before_negative plain_number signed_number plain_bytes signed_bytes packed groups_of number_bytes code exponent_bytes term_bytes bytes_of_terms item.and_then item.provided item.mapped read_byte read_groups read_number decode weighs follows read_coefficient read_exponents packed-sum.read_term read_terms packed-sum.read_sum packed-sum.read_whole degree then_by by_powers order weight total pattern_value value pattern_size algebra.size unsigned raised_by margin pow one
is-estimated = refl

-- a from 9 to 11, b from 1 to 5
pub lies : (x y : ℤ) → pos 9 ≤ℤ x → x ≤ℤ pos 11 → pos 1 ≤ℤ y → y ≤ℤ pos 5
    → (pos 89 ≤ℤ (pow (x +ℤ y) 2 -ℤ pow y 2)) × ((pow (x +ℤ y) 2 -ℤ pow y 2) ≤ℤ pos 231)
unfolding tree_value spelled two_byte_numbers unsigned plain_number signed_number plain_bytes signed_bytes
lies x y low high low' high' =
    demand-3 (packed sum) readings tolerances (replicate 16 0) is-estimated becomes
    {x = x ∷ y ∷ pos 0 ∷ pos 0 ∷ pos 0 ∷ pos 0 ∷ pos 0 ∷ pos 0 ∷ []}
    (more (between-abs x (pos 10) 1 low high) (more (between-abs y (pos 3) 2 low' high')
    (more (omega arith) (more (omega arith) (more (omega arith) (more (omega arith) (more (omega arith) (more (omega arith) none))))))))
