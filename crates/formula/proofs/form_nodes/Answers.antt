-- `form_nodes` meets its contract: the loop keeps `Building`.
use mathlib.Core.Path.{◌≡◌, sym, ◌∙◌, ap}
use mathlib.Core.List.{◌++◌}
use native.Mathlib.Omega.{arith}
use lib.ListN.{length}
use lib.Seq.{length-take-le}
use borrow.Author.Rules.{rules}
use Rattle.std.proofs.lemmas.Result.{err_from_is_err_and}
use Rattle.std.specs.Iterator.Adapters.{enumerate_source, enumerate_count}
use Rattle.std.specs.Slice.Iter.{chunks_exact_rest, chunks_exact_size}
use Rattle.algebra.specs.Limits.{most_nodes}
use Prim.Native.Nat.{◌<◌}
use Rattle.nodes.specs.Inside.Code.{kind_of, found_of}
use Rattle.weights.proofs.Weighing.{capped-light, capped-heavy}
use Rattle.formula.proofs.Building.{Building, Next, Allowed, read_held, missing, start, degrees-low, weights-light, keeps, in-nodes, no_node, node-is, few-nodes, high, heavy, sums-low, sums-light, over, again, ended}
use Rattle.formula.proofs.form_nodes.Goals as goal
use Rattle.formula.proofs.form_nodes.Goals.{Else-node-gt-LARGEST_WEIGHT, In-Some, In_ok-kind}

-- what is known before node i
built : (d : In-Some) → Building d.args.table.now d.args.patterns.now d.args.coefficients.now d.loop-i.patterns d.loop-i.coefficients d.loop-i.nodes d.loop-i.counts d.in-Some.i (d.in-Some.numbers.now ++ chunks_exact_rest (enumerate_source d.next.new.self))
built d = rw (d.in-Some.ensures.steps.1, ← d.in-Some.ensures.steps.0.1.0) d.loop-i.invariant.built

three : (d : In-Some) → length d.in-Some.numbers.now ≡ 3
three d = d.in-Some.ensures.steps.0.1.1 ∙ d.loop-i.invariant.by_three

here : (d : In-Some) → d.in-Some.i < most_nodes
here d = in-nodes _ _ (built d) (three d)

-- the node that was read
next : (d : In_ok-kind) → Building d.args.table.now d.args.patterns.now d.args.coefficients.now d.loop-i.patterns d.loop-i.coefficients d.loop-i.nodes d.loop-i.counts d.in-Some.i (d.in-Some.numbers.now ++ chunks_exact_rest (enumerate_source d.next.new.self)) → length d.in-Some.numbers.now ≡ 3 → Next d.args.table.now d.args.patterns.now d.args.coefficients.now d.loop-i.patterns d.loop-i.coefficients d.loop-i.nodes d.loop-i.counts d.in-Some.i d.in-Some.numbers.now (chunks_exact_rest (enumerate_source d.next.new.self)) (kind_of d.in_ok-kind.kind)
next d b h =
    let read = read_held d.in-Some.i d.in-Some.numbers.now (search rules) (search rules) (search rules) d.read_node-read.ensures in
    record { built = b; three = h; read = sym read ∙ ap (found_of d.in-Some.i) d.in_ok-kind.ensures.ok_part }

-- its formal degree and weight are allowed
allowed : (d : Else-node-gt-LARGEST_WEIGHT) → Next d.args.table.now d.args.patterns.now d.args.coefficients.now d.loop-i.patterns d.loop-i.coefficients d.loop-i.nodes d.loop-i.counts d.in-Some.i d.in-Some.numbers.now (chunks_exact_rest (enumerate_source d.next.new.self)) (kind_of d.in_ok-kind.kind) → Allowed d.args.table.now d.args.patterns.now d.args.coefficients.now d.loop-i.patterns d.loop-i.coefficients d.loop-i.nodes d.loop-i.counts d.in-Some.i d.in-Some.numbers.now (chunks_exact_rest (enumerate_source d.next.new.self)) (kind_of d.in_ok-kind.kind)
allowed d n =
    let made = d.make_node-node.ensures in
    record {
      next = n;
      low = omega (arith, made.0, d.if-node-gt-LARGEST_DEGREE.false);
      light = omega (arith, capped-light _ _ made.1 d.if-node-gt-LARGEST_WEIGHT.false, d.if-node-gt-LARGEST_WEIGHT.false);
    }

pub loop-i-init : goal.loop-i-init
loop-i-init c =
    let items = c.into_iter-i-iterator.ensures.into_iter_gives in
    let source = ap enumerate_source items ∙ c.enumerate-i-items.ensures.source in
    record {
      built =
          start _ _ _ _ _ c.requires.shape c.requires.patterns_room c.requires.coefficients_room (search rules) (search rules) (ap enumerate_count items ∙ c.enumerate-i-items.ensures.count)
          (ap chunks_exact_rest source ∙ c.chunks_exact.ensures.rest);
      by_three = ap chunks_exact_size source ∙ c.chunks_exact.ensures.size;
    }

pub returns-in_err-kind : goal.returns-in_err-kind
returns-in_err-kind c =
    let at = goal.at.returns-in_err-kind c in
    let read = read_held c.in-Some.i c.in-Some.numbers.now (search rules) (search rules) (search rules) c.read_node-read.ensures in
    let m = missing c.read_node-read.result c.in_err-kind.ensures.value in
    let e = no_node _ _ (built at.In-Some) (three at.In-Some) (sym read ∙ ap (found_of c.in-Some.i) m.0) in
    let p = err_from_is_err_and c.from_residual.result c.from_residual.ensures.1 in
    record { result_value = rw (p.1, p.2, m.1, c.at.ensures) e.told_is; keeps_last = e.keeps_last; patterns_unchanged = e.words-stay; coefficients_unchanged = e.coefficients_stay }

pub slice_bounds-nodes-end : goal.slice_bounds-nodes-end
slice_bounds-nodes-end c = omega (arith, here (goal.at.slice_bounds-nodes-end c).In-Some, c.loop-i.invariant.built.nodes_long)

pub slice_bounds-make_node-end : goal.slice_bounds-make_node-end
slice_bounds-make_node-end c = sym (length-take-le c.in-Some.i c.loop-i.nodes (omega (arith, here (goal.at.slice_bounds-make_node-end c).In-Some, c.loop-i.invariant.built.nodes_long)))

pub make_node-node-requires : goal.make_node-node-requires
make_node-node-requires c =
    let at = goal.at.make_node-node-requires c in
    let n = next at.In_ok-kind (built at.In-Some) (three at.In-Some) in
    let many = length-take-le c.in-Some.i c.loop-i.nodes (omega (arith, few-nodes n, n.built.nodes_long)) in
    record { node = rw many (node-is n); low = degrees-low n.built; light = weights-light n.built }

pub returns-then-node-gt-LARGEST_DEGREE : goal.returns-then-node-gt-LARGEST_DEGREE
returns-then-node-gt-LARGEST_DEGREE c =
    let at = goal.at.returns-then-node-gt-LARGEST_DEGREE c in
    let n = next at.In_ok-kind (built at.In-Some) (three at.In-Some) in
    let e = high n (omega (arith, c.make_node-node.ensures.0, c.if-node-gt-LARGEST_DEGREE.true)) in
    record { result_value = rw c.at-then-node-gt-LARGEST_DEGREE.ensures e.told_is; keeps_last = e.keeps_last; patterns_unchanged = e.words-stay; coefficients_unchanged = e.coefficients_stay }

pub returns-then-node-gt-LARGEST_WEIGHT : goal.returns-then-node-gt-LARGEST_WEIGHT
returns-then-node-gt-LARGEST_WEIGHT c =
    let at = goal.at.returns-then-node-gt-LARGEST_WEIGHT c in
    let n = next at.In_ok-kind (built at.In-Some) (three at.In-Some) in
    let made = c.make_node-node.ensures in
    let e = heavy n (omega (arith, made.0, c.if-node-gt-LARGEST_DEGREE.false)) (capped-heavy _ _ made.1 c.if-node-gt-LARGEST_WEIGHT.true) in
    record { result_value = rw c.at-then-node-gt-LARGEST_WEIGHT.ensures e.told_is; keeps_last = e.keeps_last; patterns_unchanged = e.words-stay; coefficients_unchanged = e.coefficients_stay }

pub form-formed-requires : goal.form-formed-requires
form-formed-requires c =
    let at = goal.at.form-formed-requires c in
    let a = allowed at.Else-node-gt-LARGEST_WEIGHT (next at.In_ok-kind (built at.In-Some) (three at.In-Some)) in
    let b = a.next.built in
    let few = few-nodes a.next in
    record {
      node_is = node-is a.next;
      counted = omega (arith, few, b.counts_long);
      words_room = omega (arith, few, b.words_room);
      coefficients_room = omega (arith, few, b.coefficients_room);
      keeps = keeps b;
      low = sums-low a;
      light = sums-light a;
    }

pub returns-in_err-count : goal.returns-in_err-count
returns-in_err-count c =
    let at = goal.at.returns-in_err-count c in
    let a = allowed at.Else-node-gt-LARGEST_WEIGHT (next at.In_ok-kind (built at.In-Some) (three at.In-Some)) in
    let m = missing c.form-formed.result c.in_err-count.ensures.value in
    let e = over a c.form-formed.result c.form-formed.ensures m.0 in
    let p = err_from_is_err_and c.from_residual-in_err-count.result c.from_residual-in_err-count.ensures.1 in
    record { result_value = rw (p.1, p.2, m.1, c.at-in-loop-i.ensures) e.told_is; keeps_last = e.keeps_last; patterns_unchanged = e.words-stay; coefficients_unchanged = e.coefficients_stay }

pub offset_bounds-counts-i : goal.offset_bounds-counts-i
offset_bounds-counts-i c = record { fits = omega (arith, here (goal.at.offset_bounds-counts-i c).In-Some) }

pub bounds-counts-i : goal.bounds-counts-i
bounds-counts-i c = here (goal.at.bounds-counts-i c).In-Some

pub offset_bounds-nodes-i : goal.offset_bounds-nodes-i
offset_bounds-nodes-i c = record { fits = omega (arith, here (goal.at.offset_bounds-nodes-i c).In-Some) }

pub bounds-nodes-i : goal.bounds-nodes-i
bounds-nodes-i c = here (goal.at.bounds-nodes-i c).In-Some

pub loop-i-preserved : goal.loop-i-preserved
loop-i-preserved c =
    let at = goal.at.loop-i-preserved c in
    let a = allowed at.Else-node-gt-LARGEST_WEIGHT (next at.In_ok-kind (built at.In-Some) (three at.In-Some)) in
    let made = c.make_node-node.ensures in
    let more = again a c.form-formed.result c.form-formed.ensures c.make_node-node.result c.in_ok-count.ensures.ok_part c.form-formed.auto.patterns c.form-formed.auto.coefficients made.0
    (capped-light _ _ made.1 c.if-node-gt-LARGEST_WEIGHT.false) in
    let steps = c.in-Some.ensures.steps in
    record { built = rw (steps.2, ← steps.1) more; by_three = steps.0.0 ∙ c.loop-i.invariant.by_three }

pub returns : goal.returns
returns c =
    let steps = c.in-None.ensures.steps in
    let e = ended c.loop-i.invariant.built (omega (arith, c.loop-i.invariant.by_three, steps.0.1.0)) in
    record { result_value = e.told_is; keeps_last = e.keeps_last; patterns_unchanged = e.words-stay; coefficients_unchanged = e.coefficients_stay }
