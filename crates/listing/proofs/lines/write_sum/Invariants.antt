-- `write_sum` meets its contract: after the first line, the bytes left are the lines of the terms left.
use Rattle.std.specs.Iterator.Adapters.{zip_first, zip_second}
use Rattle.std.specs.Slice.Iter.{iter_rest}
use Rattle.algebra.specs.Word.{terms}
use Rattle.numbers.proofs.Writing.{Writing}
use Rattle.listing.specs.Lines.{term_lines}
use Rattle.listing.proofs.lines.write_sum.Given as goal

abbrev pub invariant-loop-pattern : goal.invariant-loop-pattern
invariant-loop-pattern l = Writing l.initial.area l.initial.place (term_lines (terms l.fn.sum.patterns.now l.fn.sum.coefficients.now)) l.area l.place
    (term_lines (terms (iter_rest (zip_first l.pattern-iterator)) (iter_rest (zip_second l.pattern-iterator))))
