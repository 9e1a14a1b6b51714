-- The number that a C host gets, and what it tells: some cases of each operation in one table, which the checker computes.
use mathlib.Core.Path.{◌≡◌, refl}
use mathlib.Core.List.{List, [], ◌∷◌, ◌++◌}
use Prim.Native.Nat.{ℕ, ◌+◌, ◌-◌, ◌*◌, ◌^◌}
use Prim.Native.String.{String}
use lib.IntN.{ℤ, pos}
use lib.ListN.{length, take, replicate}
use Rattle.algebra.specs.Limits.{variables, most_terms, work_places}
use Rattle.algebra.specs.Pattern.{times, degree, same, then_by, by_powers, order}
use Rattle.algebra.specs.Sum.{degree_of, weight}
use Rattle.algebra.specs.Word.{word_of, fields_of, terms_by, word, exponents, terms, is_valid}
use Rattle.algebra.specs.Collect.{settle, insert, gather, keep, drop_zeros, collect, occurs, count_new, spread}
use Rattle.algebra.specs.Arithmetic as arithmetic
use Rattle.algebra.specs.Arithmetic.{row, pairs, ◌⊕◌, sum_spread, ◌⊗◌, product_spread, power_spread}
use Rattle.algebra.specs.Slope as algebra-slope
use Rattle.algebra.specs.Substitute as algebra-substitute
use Rattle.algebra.specs.Substitute.{rows, pair_rows, pair_degree, pair_weight, largest_power, pair_spread}
use Rattle.answers.specs.Refusals.{ROOM, SHAPE, DEGREE, SUM, LIST, VARIABLE, TEXT}
use Rattle.answers.specs.Answers.{Told, Told.done, Told.refused, Outcome}
use Rattle.answers.specs.Host.{hosted, wide_unit, heard}
use Rattle.answers.specs.Judge.{holding, and_then}
use Rattle.answers.specs.Quoted.{quoted}
use Rattle.answers.proofs.Tables.{◌also◌}
use Rattle.answers.specs.Promised.{Each}
use Rattle.numbers.specs.Item as item
use Rattle.numbers.specs.Number.{groups_of, number_bytes, read_byte, read_groups, read_number}
use Rattle.numbers.specs.Code.{code, decode}
use Rattle.numbers.specs.Decimal.{digits_of, decimal}
use Rattle.packed.specs.Packed.{exponent_bytes, term_bytes, bytes_of_terms, packed, most_bytes}
use Rattle.packed.proofs.CaseBytes.{square}
use Rattle.packed.specs.Judge.{weighs, follows}
use Rattle.packed.specs.ReadSum.{read_coefficient, read_exponents, read_term, read_terms, read_sum, read_whole}
use Rattle.packed.specs.Result.{held_into, packed_into}
use Rattle.packed.specs.Unpack.{unpack}
use Rattle.packed.specs.Pack.{is_good, good_terms, pack}
use Rattle.nodes.specs.Node.{Kind, Kind.variable, Kind.product, Kind.power, table_of, is_in, is_kind, read_node}
use Rattle.nodes.specs.Formal.{formal_degree, formal_weight, node_spread, node_sum}
use Rattle.formula.specs.Table.{judge_node, judge_nodes, is_shape, judge_table}
use Rattle.formula.specs.Simplify.{table_sum, simplify}
use Rattle.text.specs.Limits.{table_places}
use Rattle.text.specs.Signs.{is_digit}
use Rattle.text.specs.Letters.{letter_of, name_of}
use Rattle.text.specs.Tree.{node_count, nodes_of}
use Rattle.text.specs.Reader as reader
use Rattle.text.specs.Text.{judge_text, table_into, read_formula}
use Rattle.spelling.specs.Spelling as spelling
use Rattle.spelling.specs.WriteText.{text_places, text_into, write_text}
use Rattle.change.specs.Slope.{judge_slope, slope}
use Rattle.change.specs.Pairs.{read_pairs, read_list}
use Rattle.change.specs.Substitute.{judge_pair, judge_pairs, judge_substitute, substitute}

-- ---- A case is a call with its number, and what that tells. The lent areas have just the places that they need, or so many as the case says.

pub data Case : Type 0 where
  -- a text, and the places of the table area
  texts : String → ℕ → ℕ → Told → Case
  -- the nodes of a table
  simplifies : List Kind → ℕ → Told → Case
  -- packed bytes
  unpacks : List ℕ → ℕ → Told → Case
  -- a count, words and coefficients
  packs : ℕ → List ℕ → List ℤ → ℕ → Told → Case
  -- packed bytes, and a variable's number
  slopes : List ℕ → ℕ → ℕ → Told → Case
  -- packed bytes, and a list
  puts : List ℕ → List ℕ → ℕ → Told → Case
  -- packed bytes, and the places of the text area
  writes : List ℕ → ℕ → ℕ → Told → Case

abbrev pub Gets : {Areas : Type 0} → Outcome Areas → ℕ → Told → Type 0
Gets o number t = ((hosted wide_unit o).0 ≡ number) × (heard number ≡ t)

abbrev pub words : ℕ → List ℕ
words n = replicate n 7

abbrev pub coefficients : ℕ → List ℤ
coefficients n = replicate n (pos 7)

abbrev pub Says : Case → Type 0
Says (texts text places number t) = Gets (read_formula (quoted text) (coefficients places)) number t
Says (simplifies ks number t) = Gets (simplify (table_of ks) (words work_places) (coefficients work_places) (words (most_bytes variables))) number t
Says (unpacks bytes number t) = Gets (unpack bytes (words most_terms) (coefficients most_terms)) number t
Says (packs count ws cs number t) = Gets (pack count ws cs (words (most_bytes variables))) number t
Says (slopes bytes v number t) = Gets (slope bytes v (words (most_bytes variables))) number t
Says (puts bytes list number t) = Gets (substitute bytes list (words work_places) (coefficients work_places) (words (most_bytes variables))) number t
Says (writes bytes places number t) = Gets (write_text bytes (words places)) number t

-- ---- Short names.

-- how many bytes a sum of one term takes whose code has one byte, and all but one of those of a² + 2ab
abbrev one_term : ℕ
one_term = 2 + variables

abbrev less_one : ℕ
less_one = length square - 1

-- ---- The table.

pub table : List Case
table =
    texts "a^60*a" table_places 4 (done 4)
    ∷ texts "a^61" table_places (12 * 2 ^ 32 + 3) (refused TEXT 3)
    ∷ texts "a" 191 (2 ^ 32) (refused ROOM 0)
    -- a^60*a: the node that is refused is the fourth
    ∷ simplifies (variable 0 ∷ power 0 60 ∷ []) one_term (done one_term)
    ∷ simplifies (variable 0 ∷ power 0 60 ∷ variable 0 ∷ product 1 2 ∷ []) (4 * 2 ^ 32 + 3) (refused DEGREE 3)
    ∷ simplifies [] (2 * 2 ^ 32) (refused SHAPE 0)
    -- a sum, and the same without its last byte
    ∷ unpacks square 2 (done 2)
    ∷ unpacks (take less_one square) (7 * 2 ^ 32 + less_one) (refused SUM less_one)
    ∷ unpacks [] (7 * 2 ^ 32) (refused SUM 0)
    ∷ packs 1 (1 ∷ []) (pos 5 ∷ []) one_term (done one_term)
    ∷ packs 2 (1 ∷ 0 ∷ []) (pos 5 ∷ pos 0 ∷ []) (7 * 2 ^ 32 + 1) (refused SUM 1)
    ∷ packs (2 ^ 64 - 1) [] [] (2 * 2 ^ 32) (refused SHAPE 0)
    ∷ slopes square 0 (length square) (done (length square))
    ∷ slopes square variables (9 * 2 ^ 32) (refused VARIABLE 0)
    -- b := 0; a variable too many in a list; a byte left over
    ∷ puts square (1 ∷ 1 ∷ 0 ∷ []) one_term (done one_term)
    ∷ puts square (1 ∷ variables ∷ []) (9 * 2 ^ 32 + 1) (refused VARIABLE 1)
    ∷ puts square (1 ∷ 1 ∷ 0 ∷ 5 ∷ []) (8 * 2 ^ 32 + 3) (refused LIST 3)
    -- a^2+2*a*b has nine bytes; the sum without its last byte; a place too few
    ∷ writes square text_places 9 (done 9)
    ∷ writes (take less_one square) text_places (7 * 2 ^ 32 + less_one) (refused SUM less_one)
    ∷ writes square 8191 (2 ^ 32) (refused ROOM 0)
    ∷ []

pub cases-hold : Each Says table
unfolding table quoted times degree same then_by by_powers order degree_of weight word_of fields_of terms_by word exponents terms is_valid settle insert gather keep drop_zeros collect occurs count_new spread row pairs ◌⊕◌ sum_spread ◌⊗◌ product_spread arithmetic.variable arithmetic.power power_spread algebra-slope.slope rows pair_rows algebra-substitute.substitute pair_degree pair_weight largest_power pair_spread holding and_then item.and_then item.provided item.mapped groups_of number_bytes read_byte read_groups read_number code decode exponent_bytes term_bytes bytes_of_terms packed weighs follows read_coefficient read_exponents read_term read_terms read_sum read_whole held_into packed_into unpack is_good good_terms pack table_of is_in is_kind read_node formal_degree formal_weight node_spread node_sum judge_node judge_nodes is_shape judge_table table_sum simplify is_digit letter_of node_count nodes_of reader.takes reader.more_digits reader.digits_at reader.read_atom reader.read_exponent reader.read_factor reader.read_more reader.is_times reader.read_term reader.is_sign reader.signed reader.after_minus reader.read_sum reader.in_brackets reader.read_whole judge_text table_into read_formula judge_slope slope item.renamed read_pairs read_list judge_pair judge_pairs judge_substitute substitute name_of digits_of decimal spelling.powers spelling.letter_text spelling.more_powers spelling.factors_text spelling.term_text spelling.first_sign spelling.next_sign spelling.first_text spelling.next_text spelling.more_terms spelling.sum_text text_into write_text
cases-hold =
    (refl, refl) also (refl, refl) also (refl, refl)
    also (refl, refl) also (refl, refl) also (refl, refl)
    also (refl, refl) also (refl, refl) also (refl, refl)
    also (refl, refl) also (refl, refl) also (refl, refl)
    also (refl, refl) also (refl, refl)
    also (refl, refl) also (refl, refl) also (refl, refl)
    also (refl, refl) also (refl, refl) also (refl, refl)
    also tt
