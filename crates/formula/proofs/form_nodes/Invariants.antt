-- What the loop of `form_nodes` keeps.
use Rattle.std.specs.Iterator.Adapters.{enumerate_source, enumerate_count}
use Rattle.std.specs.Slice.Iter.{chunks_exact_rest, chunks_exact_size}
use Rattle.std.specs.Prelude.{◌≡◌}
use Rattle.formula.proofs.Building.{Building}
use Rattle.formula.proofs.form_nodes.Given as goal

abbrev pub invariant-loop-i : goal.invariant-loop-i
invariant-loop-i l = record {
  built : Building l.table l.initial.patterns l.initial.coefficients l.patterns l.coefficients l.nodes l.counts (enumerate_count l.i-iterator) (chunks_exact_rest (enumerate_source l.i-iterator));
  by_three : chunks_exact_size (enumerate_source l.i-iterator) ≡ 3;
}
