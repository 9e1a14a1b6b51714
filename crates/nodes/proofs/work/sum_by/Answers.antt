-- `sum_by` meets its contract: its operands are the sums of two earlier nodes, where they stand, and what they give is put into the part of node i.
use native.Mathlib.Omega.{arith}
use Rattle.nodes.proofs.Working.{addends_asked, addends_formed}
use Rattle.nodes.proofs.Putting.{sum_made, put-none, few, in_words, in_coefficients, put-formed}
use Rattle.nodes.proofs.work.sum_by.Goals as goal

pub sum-requires-clause-addends : goal.sum-requires-clause-addends
sum-requires-clause-addends g c =
    let s = c.terms_of-s.ensures in
    let t = c.terms_of-t.ensures in
    addends_asked s.patterns s.coefficients t.patterns t.coefficients c.requires.ready

pub returns-in_err-count : goal.returns-in_err-count
returns-in_err-count g c =
    let s = c.terms_of-s.ensures in
    let t = c.terms_of-t.ensures in
    let is = addends_formed s.patterns s.coefficients t.patterns t.coefficients c.requires.ready in
    rw c.from_residual.ensures (put-none (sum_made c.sum.result _ _ is c.sum.ensures) c.args.i _ _ c.in_err-count.was)

pub put_terms-requires : goal.put_terms-requires
put_terms-requires g c =
    let s = c.terms_of-s.ensures in
    let t = c.terms_of-t.ensures in
    let is = addends_formed s.patterns s.coefficients t.patterns t.coefficients c.requires.ready in
    let made = sum_made c.sum.result _ _ is c.sum.ensures in
    record {
      words_room = omega arith;
      coefficients_room = omega arith;
      count_le_most_terms = few made c.in_ok-count.was;
      count_in_sp = in_words made c.in_ok-count.was;
      count_in_sc = in_coefficients made c.in_ok-count.was;
    }

pub returns : goal.returns
returns g c =
    let s = c.terms_of-s.ensures in
    let t = c.terms_of-t.ensures in
    let is = addends_formed s.patterns s.coefficients t.patterns t.coefficients c.requires.ready in
    put-formed (sum_made c.sum.result _ _ is c.sum.ensures) c.in_ok-count.was c.args.i c.put_terms.ensures.words_put c.put_terms.ensures.coefficients_put
