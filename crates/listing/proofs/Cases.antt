-- Cases of document 01 about what is printed: one table, which the checker computes.
use mathlib.Core.Path.{◌≡◌, refl}
use mathlib.Core.List.{List, [], ◌∷◌}
use Prim.Native.String.{String}
use Rattle.answers.proofs.Tables.{◌also◌}
use Rattle.answers.specs.Promised.{Each}
use Rattle.algebra.specs.Pattern.{times, degree, same, then_by, by_powers, order}
use Rattle.algebra.specs.Collect.{settle, insert, gather, keep, drop_zeros, collect, occurs, count_new, spread}
use Rattle.algebra.specs.Arithmetic as arithmetic
use Rattle.algebra.specs.Arithmetic.{row, pairs, ◌⊕◌, sum_spread, ◌⊗◌, product_spread, power_spread}
use Rattle.answers.specs.Judge.{holding, and_then}
use Rattle.nodes.specs.Node.{table_of, is_in, is_kind, read_node}
use Rattle.nodes.specs.Formal.{formal_degree, formal_weight, node_spread, node_sum}
use Rattle.formula.specs.Table.{judge_node, judge_nodes, is_shape, judge_table}
use Rattle.answers.specs.Quoted.{quoted}
use Rattle.text.specs.Signs.{is_digit}
use Rattle.text.specs.Letters.{letter_of}
use Rattle.text.specs.Tree.{node_count, nodes_of}
use Rattle.text.specs.Reader.{takes, more_digits, digits_at, read_atom, read_exponent, read_factor, read_more, is_times, read_term, is_sign, signed, after_minus, read_sum, in_brackets, read_whole}
use Rattle.text.specs.Text.{judge_text, text_sum}
use Rattle.numbers.specs.Decimal.{digits_of, decimal, signed_decimal}
use Rattle.listing.specs.Lines.{numbered, exponents_line, term_line, term_lines, sum_lines, refusal_line}
use Rattle.formula.specs.Simplify.{table_sum}
use Rattle.listing.specs.Listing.{listed, without_newline}

-- ---- A case is an input, with what is printed.

pub record Case : Type 0 where
  pub input : String
  pub lines : String

abbrev pub Says : Case → Type 0
Says c = listed (text_sum (without_newline (quoted c.input))) ≡ quoted c.lines

prints : String → String → Case
prints input lines = record { input = input; lines = lines }

pub table : List Case
unfolding prints
table =
    prints "(a+b)^2-b^2\n" "terms 2\n1 2 0 0 0 0 0 0 0\n2 1 1 0 0 0 0 0 0\n"
    ∷ prints "-12*h^60" "terms 1\n-12 0 0 0 0 0 0 0 60\n"
    ∷ prints "a-a\n" "terms 0\n"
    -- one newline is dropped, and no other byte
    ∷ prints "a\n\n" "refused 12 at 1\n"
    ∷ prints "\n" "refused 12 at 0\n"
    ∷ prints "" "refused 12 at 0\n"
    ∷ prints "a^60*a\n" "refused 4 at 3\n"
    ∷ prints "4611686018427387904+1-1\n" "refused 5 at 2\n"
    ∷ []

pub cases-hold : Each Says table
unfolding table prints quoted without_newline text_sum table_sum listed sum_lines refusal_line numbered term_lines term_line exponents_line signed_decimal decimal digits_of judge_text read_whole in_brackets read_sum after_minus signed is_sign read_term is_times read_more read_factor read_exponent read_atom digits_at more_digits takes letter_of is_digit node_count nodes_of judge_table is_shape judge_nodes judge_node holding and_then table_of is_in is_kind read_node formal_degree formal_weight node_spread node_sum times degree same then_by by_powers order settle insert gather keep drop_zeros collect occurs count_new spread arithmetic.integer arithmetic.variable row pairs ◌⊕◌ sum_spread ◌⊗◌ product_spread arithmetic.power power_spread
cases-hold = refl also refl also refl also refl also refl also refl also refl also refl also tt
