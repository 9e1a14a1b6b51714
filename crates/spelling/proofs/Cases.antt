-- Typed formulas, and how their sums are written: one table, which the checker computes.
use mathlib.Core.Path.{◌≡◌, refl}
use mathlib.Core.List.{List, [], ◌∷◌}
use Prim.Native.Nat.{ℕ, ◌-◌, ◌^◌}
use Prim.Native.String.{String}
use native.Mathlib.Omega.{arith}
use lib.IntN.{ℤ, pos, negsuc}
use Rattle.answers.specs.Promised.{Each}
use Rattle.answers.proofs.Tables.{◌also◌}
use Rattle.algebra.specs.Limits.{variables}
use Rattle.algebra.specs.Inside.Filled.{filled}
use Rattle.algebra.specs.Pattern.{times, degree, same, then_by, by_powers, order}
use Rattle.algebra.specs.Sum.{term}
use Rattle.algebra.specs.Collect.{settle, insert, gather, keep, drop_zeros, collect, occurs, count_new, spread}
use Rattle.algebra.specs.Arithmetic as arithmetic
use Rattle.algebra.specs.Arithmetic.{row, pairs, ◌⊕◌, sum_spread, ◌⊗◌, product_spread, power_spread}
use Rattle.answers.specs.Judge.{Judged.good, holding, and_then}
use Rattle.answers.specs.Quoted.{quoted}
use Rattle.nodes.specs.Node.{table_of, is_in, is_kind, read_node}
use Rattle.nodes.specs.Formal.{formal_degree, formal_weight, node_spread, node_sum}
use Rattle.formula.specs.Table.{judge_node, judge_nodes, is_shape, judge_table}
use Rattle.formula.specs.Simplify.{table_sum}
use Rattle.text.specs.Signs.{is_digit}
use Rattle.text.specs.Letters.{letter_of, name_of}
use Rattle.text.specs.Tree.{node_count, nodes_of}
use Rattle.text.specs.Reader.{takes, more_digits, digits_at, read_atom, read_exponent, read_factor, read_more, is_times, read_term, is_sign, signed, after_minus, read_sum, in_brackets, read_whole}
use Rattle.text.specs.Text.{judge_text, text_sum}
use Rattle.numbers.specs.Decimal.{digits_of, decimal}
use Rattle.spelling.specs.Spelling.{powers, letter_text, more_powers, factors_text, term_text, first_sign, next_sign, first_text, next_text, more_terms, sum_text}
use Rattle.numbers.proofs.Decimals.{decimal-few}

-- ---- A case is a typed formula, with the text of its sum.

pub record Case : Type 0 where
  pub typed : String
  pub text : String

abbrev pub Says : Case → Type 0
Says c = and_then (text_sum (quoted c.typed)) (λ s. good (sum_text s)) ≡ good (quoted c.text)

becomes : String → String → Case
becomes typed text = record { typed = typed; text = text }

-- written as it was typed
stays : String → Case
stays text = record { typed = text; text = text }

pub table : List Case
unfolding becomes stays
table =
    becomes "(a+b)^2-b^2" "a^2+2*a*b"
    ∷ becomes "a-a" "0"
    -- 1 is written only alone
    ∷ stays "1"
    ∷ stays "-1"
    ∷ becomes "1*a" "a"
    ∷ becomes "0-a^1" "-a"
    ∷ becomes "1-a" "-a+1"
    -- a minus, before the first term as between two
    ∷ becomes "b-2*a" "-2*a+b"
    ∷ stays "a^2-2*a-1"
    -- the largest exponent; all letters
    ∷ stays "a^60"
    ∷ stays "10*a^10*b"
    ∷ becomes "h*g*f*e*d*c*b*a" "a*b*c*d*e*f*g*h"
    ∷ []

pub cases-hold : Each Says table
unfolding table becomes stays quoted sum_text more_terms next_text first_text next_sign first_sign term_text factors_text more_powers letter_text powers name_of decimal digits_of text_sum table_sum judge_text read_whole in_brackets read_sum after_minus signed is_sign read_term is_times read_more read_factor read_exponent read_atom digits_at more_digits takes letter_of is_digit node_count nodes_of judge_table is_shape judge_nodes judge_node holding and_then table_of is_in is_kind read_node formal_degree formal_weight node_spread node_sum times degree same then_by by_powers order settle insert gather keep drop_zeros collect occurs count_new spread arithmetic.integer arithmetic.variable row pairs ◌⊕◌ sum_spread ◌⊗◌ product_spread arithmetic.power power_spread
cases-hold =
    refl
    also refl also refl also refl also refl also refl also refl
    also refl also refl
    also refl also refl also refl
    also tt

-- ---- The largest numbers, alone and with a letter. (`decimal` computes for small numbers only, so it is opened by a law here.)

-- a coefficient and the exponents of the first letters, with the text of this one term
pub record OneTerm : Type 0 where
  pub coefficient : ℤ
  pub exponents : List ℕ
  pub text : String

abbrev pub SaysOne : OneTerm → Type 0
SaysOne c = sum_text (term c.coefficient (filled variables c.exponents) ∷ []) ≡ quoted c.text

writes : ℤ → List ℕ → String → OneTerm
writes c es text = record { coefficient = c; exponents = es; text = text }

pub large : List OneTerm
unfolding writes
large =
    writes (pos (2 ^ 62)) [] "4611686018427387904"
    ∷ writes (negsuc (2 ^ 62 - 1)) [] "-4611686018427387904"
    ∷ writes (pos (2 ^ 62)) (1 ∷ []) "4611686018427387904*a"
    ∷ writes (negsuc (2 ^ 62 - 1)) (0 ∷ 60 ∷ []) "-4611686018427387904*b^60"
    ∷ []

largest : decimal (2 ^ 62) ≡ quoted "4611686018427387904"
unfolding digits_of quoted
largest = decimal-few 18 (2 ^ 62) (omega arith)

sixty : decimal 60 ≡ quoted "60"
unfolding decimal digits_of quoted
sixty = refl

pub large-hold : Each SaysOne large
unfolding large writes sum_text more_terms first_text first_sign term_text factors_text more_powers letter_text powers name_of quoted
large-hold = rw largest refl also rw largest refl also rw largest refl also rw (largest, sixty) refl also tt
