-- Document 01's cases hold: the checker computes each.
use mathlib.Core.Path.{refl}
use Prim.Native.Nat.{ℕ}
use lib.IntN.{one, pow}
use Rattle.algebra.specs.Pattern as pattern
use Rattle.algebra.specs.Pattern.{degree, same, then_by, by_powers, order}
use Rattle.algebra.specs.Sum.{degree_of, weight}
use Rattle.algebra.specs.Collect.{settle, insert, gather, keep, drop_zeros, collect, occurs, count_new, spread}
use Rattle.algebra.specs.Arithmetic as arithmetic
use Rattle.algebra.specs.Arithmetic.{row, pairs, ◌⊕◌, sum_spread, ◌⊗◌, product_spread, power_spread}
use Rattle.algebra.specs.Slope as algebra-slope
use Rattle.algebra.specs.Substitute as algebra-substitute
use Rattle.algebra.specs.Substitute.{rows, pair_rows, pair_degree, pair_weight, largest_power, pair_spread}
use Rattle.algebra.specs.Value.{total, pattern_value, value}
use Rattle.algebra.specs.Margin as algebra
use Rattle.algebra.specs.Margin.{pattern_size, unsigned, raised_by, margin}
use Rattle.answers.specs.Judge.{holding, and_then}
use Rattle.answers.specs.Quoted.{quoted}
use Rattle.answers.proofs.Tables.{◌also◌}
use Rattle.answers.specs.Promised.{Each}
use Rattle.numbers.specs.Item as item
use Rattle.numbers.specs.Number.{groups_of, number_bytes, read_byte, read_groups, read_number}
use Rattle.numbers.specs.Code.{code, decode}
use Rattle.packed.specs.Packed.{exponent_bytes, term_bytes, bytes_of_terms, packed}
use Rattle.packed.specs.Judge.{weighs, follows}
use Rattle.packed.specs.ReadSum as packed-sum
use Rattle.packed.specs.ReadSum.{read_coefficient, read_exponents, read_terms}
use Rattle.nodes.specs.Node.{table_of, is_in, is_kind, read_node}
use Rattle.nodes.specs.Formal.{formal_degree, formal_weight, node_spread, node_sum}
use Rattle.formula.specs.Table.{judge_node, judge_nodes, is_shape, judge_table}
use Rattle.formula.specs.Simplify.{table_sum}
use Rattle.text.specs.Signs.{is_digit}
use Rattle.text.specs.Letters.{letter_of}
use Rattle.text.specs.Tree.{node_count, nodes_of}
use Rattle.text.specs.Reader.{takes, more_digits, digits_at, read_atom, read_exponent, read_factor, read_more, is_times, read_term, is_sign, signed, after_minus, read_sum, in_brackets, read_whole}
use Rattle.text.specs.Text.{judge_text, text_sum}
use Rattle.change.specs.Slope.{judge_slope}
use Rattle.change.specs.Pairs.{read_pairs, read_list}
use Rattle.change.specs.Substitute.{judge_pair, judge_pairs, judge_substitute}
use Rattle.numbers.specs.Bytes.{plain_number, signed_number, plain_bytes, signed_bytes}
use Rattle.estimates.specs.Readings.{two_byte_numbers, spelled, before_negative, judge_readings}
use Rattle.estimates.specs.Range.{judge_range, judge_terms}
use Rattle.router.specs.Estimate.{judge_estimate}
use Rattle.promises.specs.Cases.{made, Says, cases, further}

-- every definition that the cases compute with
computing : ℕ
unfolding made spelled quoted text_sum table_sum judge_text read_whole in_brackets read_sum after_minus signed is_sign read_term is_times read_more read_factor read_exponent read_atom digits_at more_digits takes letter_of is_digit node_count nodes_of judge_table is_shape judge_nodes judge_node holding and_then table_of is_in is_kind read_node formal_degree formal_weight node_spread node_sum pattern.times degree same then_by by_powers order degree_of weight settle insert gather keep drop_zeros collect occurs count_new spread arithmetic.integer arithmetic.variable row pairs ◌⊕◌ sum_spread ◌⊗◌ product_spread arithmetic.power power_spread algebra-slope.slope rows pair_rows algebra-substitute.substitute pair_degree pair_weight largest_power pair_spread total pattern_value value pattern_size algebra.size unsigned raised_by margin pow one item.and_then item.provided item.mapped groups_of number_bytes read_byte read_groups read_number code decode exponent_bytes term_bytes bytes_of_terms packed weighs follows read_coefficient read_exponents packed-sum.read_term read_terms packed-sum.read_sum packed-sum.read_whole judge_slope item.renamed read_pairs read_list judge_pair judge_pairs judge_substitute plain_number signed_number plain_bytes signed_bytes two_byte_numbers before_negative judge_readings judge_range judge_terms judge_estimate
computing = 0

pub cases-hold : Each Says cases × Each Says further
unfolding computing cases further
cases-hold = (
  refl also refl
      also refl
      also refl also refl
      also refl also refl
      also refl also refl also refl also refl
      also refl also (refl, (refl, refl))
      also refl
      also refl also refl
      also refl also refl also refl
      also refl also refl
      also tt,
  refl also refl
      also refl also refl
      also refl
      also refl
      also refl also refl also refl also refl also refl
      also tt,
)
