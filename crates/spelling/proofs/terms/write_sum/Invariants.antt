-- `write_sum` meets its contract: after the first term, the bytes left are those of the terms left.
use lib.ListN.{drop}
use Rattle.algebra.specs.Word.{terms}
use Rattle.numbers.proofs.Writing.{Writing}
use Rattle.spelling.specs.Spelling.{more_terms}
use Rattle.spelling.proofs.terms.write_sum.Given as goal

abbrev pub invariant-loop-k : goal.invariant-loop-k
invariant-loop-k l =
    let s = terms l.sum.patterns.now l.sum.coefficients.now in
    Writing l.initial.area l.initial.place (more_terms (drop 1 s)) l.area l.place (more_terms (drop l.k s))
