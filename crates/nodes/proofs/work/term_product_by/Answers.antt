-- `term_product_by` meets its contract: its operands are the sums of two earlier nodes, where they stand, and what they give is put into the part of node i.
use mathlib.Core.Path.{refl, ◌∙◌}
use native.Mathlib.Omega.{arith}
use lib.IntN.{pos}
use lib.ListN.{get_or}
use mir.Syntax.{w64}
use mir.ValLaws.{to_z-of_z}
use borrow.Author.Rules.{rules}
use Rattle.std.specs.Prelude.{Some}
use Rattle.sums.proofs.ByTerm.{has-term}
use Rattle.nodes.proofs.Working.{factors_asked, factors_formed}
use Rattle.nodes.proofs.Putting.{term_made, few, in_words, in_coefficients, put-formed}
use Rattle.nodes.proofs.work.term_product_by.Goals as goal

pub multiply_by_term-count-requires-clause-has_term : goal.multiply_by_term-count-requires-clause-has_term
multiply_by_term-count-requires-clause-has_term g c =
    let s = c.terms_of-s.ensures in
    let t = c.terms_of-t.ensures in
    let factors = factors_asked s.patterns s.coefficients t.patterns t.coefficients c.requires.ready in
    rw (to_z-of_z w64 (get_or c.terms_of-s.result.coefficients.now 0 (pos 0)) (search rules)) (has-term factors (s.many_patterns ∙ c.requires.one_term))

pub put_terms-requires : goal.put_terms-requires
put_terms-requires g c =
    let s = c.terms_of-s.ensures in
    let t = c.terms_of-t.ensures in
    let factors = factors_asked s.patterns s.coefficients t.patterns t.coefficients c.requires.ready in
    let is = factors_formed s.patterns s.coefficients t.patterns t.coefficients c.requires.ready in
    let made = term_made (Some c.multiply_by_term-count.result) factors (s.many_patterns ∙ c.requires.one_term) (to_z-of_z w64 _ (search rules)) is c.multiply_by_term-count.ensures in
    record {
      words_room = omega arith;
      coefficients_room = omega arith;
      count_le_most_terms = few made refl;
      count_in_sp = in_words made refl;
      count_in_sc = in_coefficients made refl;
    }

pub returns : goal.returns
returns g c =
    let s = c.terms_of-s.ensures in
    let t = c.terms_of-t.ensures in
    let factors = factors_asked s.patterns s.coefficients t.patterns t.coefficients c.requires.ready in
    let is = factors_formed s.patterns s.coefficients t.patterns t.coefficients c.requires.ready in
    let made = term_made (Some c.multiply_by_term-count.result) factors (s.many_patterns ∙ c.requires.one_term) (to_z-of_z w64 _ (search rules)) is c.multiply_by_term-count.ensures in
    put-formed made refl c.args.i c.put_terms.ensures.words_put c.put_terms.ensures.coefficients_put
