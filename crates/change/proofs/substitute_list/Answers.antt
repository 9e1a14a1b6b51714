-- `substitute_list` meets its contract: the sum, the list, the pairs, and the result is written.
use mathlib.Core.Path.{◌≡◌, sym, ◌∙◌, ap}
use native.Mathlib.Omega.{arith}
use lib.Seq.{length-take-le}
use Rattle.numbers.specs.Item.{Item.got}
use Rattle.answers.proofs.Refusing.{was-ok, was-err}
use Rattle.std.proofs.lemmas.Result.{err_from_is_err_and}
use Rattle.numbers.specs.Inside.Read.{item_of}
use Rattle.packed.specs.Inside.Held.{read_count}
use Rattle.packed.proofs.Results.{count-refused, rest-refused, rest-taken}
use Rattle.sums.proofs.First.{first-valid}
use Rattle.change.proofs.Given.{first-room, first-result, SumGiven, given}
use Rattle.change.proofs.Answering.{Kept-list, kept-list, bad_sum, bad-list, can-apply, bad-pair, Made, made}
use Rattle.change.proofs.substitute_list.Goals as goal
use Rattle.change.proofs.substitute_list.Goals.{In_ok-number, In_ok-take_whole, In_ok-pairs, In_ok-count}

-- the count that was read
counted : (d : In_ok-number) → read_count d.args.bytes.now 0 ≡ got d.in_ok-number.number d.in_ok-number.next
counted d = sym d.read_count.ensures.value ∙ ap item_of (was-ok _ d.read_count.result d.map_err.result d.map_err.ensures.cases d.in_ok-number.was)

-- the sum that was given, in the first places of two arrays
held : (d : In_ok-take_whole) → read_count d.args.bytes.now 0 ≡ got d.in_ok-number.number d.in_ok-number.next
    → SumGiven d.args.bytes.now d.take_whole.new.patterns d.take_whole.new.coefficients d.in_ok-number.number
held d k = given _ _ (rest-taken _ k _ _ (λ i. (d.type_inv.bytes i).fits) d.in_ok-take_whole.ensures)

-- the list that was read, its pairs in entries and in parts of the work areas
listed : (d : In_ok-pairs) → Kept-list d.args.list.now d.read_list.new.entries d.read_list.new.patterns d.read_list.new.coefficients d.in_ok-pairs.pairs
listed d = kept-list _ (λ i. (d.type_inv.list i).fits) d.in_ok-pairs.ensures.says d.in_ok-pairs.ensures.keeps

-- what the pairs made, in the arrays of the sum
result : (d : In_ok-count)
    → (g : SumGiven d.args.bytes.now d.take_whole.new.patterns d.take_whole.new.coefficients d.in_ok-number.number)
    → (l : Kept-list d.args.list.now d.read_list.new.entries d.read_list.new.patterns d.read_list.new.coefficients d.in_ok-pairs.pairs)
    → Made _ _ d.args.res.now g l d.apply_pairs.new.fp d.apply_pairs.new.fc d.in_ok-count.count
result d g l =
    made _ _ _ g l (rw d.first_pairs.ensures at d.in_ok-count.ensures)
    (sym (d.apply_pairs.auto.fp ∙ d.take_whole.auto.patterns)) (sym (d.apply_pairs.auto.fc ∙ d.take_whole.auto.coefficients))

pub returns-in_err-number-clause-res_after : goal.returns-in_err-number-clause-res_after
returns-in_err-number-clause-res_after c =
    let p = err_from_is_err_and c.from_residual.result c.from_residual.ensures.1 in
    let was = was-err _ c.read_count.result c.map_err.result c.map_err.ensures.cases c.in_err-number.was in
    rw (p.1, p.2) (bad_sum _ _ _ (count-refused _ was.0 (sym (ap item_of was.1) ∙ c.read_count.ensures.value) was.2))

pub returns-in_err-take_whole-clause-res_after : goal.returns-in_err-take_whole-clause-res_after
returns-in_err-take_whole-clause-res_after c =
    let p = err_from_is_err_and c.from_residual-in_err-take_whole.result c.from_residual-in_err-take_whole.ensures.1 in
    rw (p.1, p.2) (bad_sum _ _ _ (rest-refused _ (counted (goal.at.returns-in_err-take_whole-clause-res_after c).In_ok-number) _ _ c.in_err-take_whole.ensures))

pub returns-in_err-pairs-clause-res_after : goal.returns-in_err-pairs-clause-res_after
returns-in_err-pairs-clause-res_after c =
    let at = goal.at.returns-in_err-pairs-clause-res_after c in
    let p = err_from_is_err_and c.from_residual-in_err-pairs.result c.from_residual-in_err-pairs.ensures.1 in
    rw p.1 (bad-list _ _ _ (held at.In_ok-take_whole (counted at.In_ok-number)) _ c.in_err-pairs.ensures.says p.2)

pub first_pairs-requires : goal.first_pairs-requires
first_pairs-requires c = let l = listed (goal.at.first_pairs-requires c).In_ok-pairs in omega (arith, l.few, c.read_list.auto.entries)

pub apply_pairs-requires-clause-can_apply : goal.apply_pairs-requires-clause-can_apply
apply_pairs-requires-clause-can_apply c =
    let at = goal.at.apply_pairs-requires-clause-can_apply c in
    let l = listed at.In_ok-pairs in
    rw c.first_pairs.ensures
    (can-apply (held at.In_ok-take_whole (counted at.In_ok-number)) l (omega (arith, l.few, c.read_list.auto.entries))
    (omega (arith, c.read_list.auto.patterns, c.requires.patterns_room)) (omega (arith, c.read_list.auto.coefficients, c.requires.coefficients_room)))

pub returns-in_err-count-clause-res_after : goal.returns-in_err-count-clause-res_after
returns-in_err-count-clause-res_after c =
    let at = goal.at.returns-in_err-count-clause-res_after c in
    let p = err_from_is_err_and c.from_residual-in_err-count.result c.from_residual-in_err-count.ensures.1 in
    rw (p.1, p.2) (bad-pair _ _ _ (held at.In_ok-take_whole (counted at.In_ok-number)) (listed at.In_ok-pairs) (rw c.first_pairs.ensures at c.in_err-count.ensures.says))

pub write_sum-requires-clause-each_valid : goal.write_sum-requires-clause-each_valid
write_sum-requires-clause-each_valid c =
    let at = goal.at.write_sum-requires-clause-each_valid c in
    let m = result at.In_ok-count (held at.In_ok-take_whole (counted at.In_ok-number)) (listed at.In_ok-pairs) in
    rw c.first.ensures.patterns (first-valid m.first)

pub write_sum-requires-clause-room : goal.write_sum-requires-clause-room
write_sum-requires-clause-room c =
    let at = goal.at.write_sum-requires-clause-room c in
    let m = result at.In_ok-count (held at.In_ok-take_whole (counted at.In_ok-number)) (listed at.In_ok-pairs) in
    rw (c.first.ensures.patterns, c.first.ensures.coefficients) (first-room m.first c.args.res.now c.requires.room)

pub returns-clause-res_after : goal.returns-clause-res_after
returns-clause-res_after c =
    let at = goal.at.returns-clause-res_after c in
    let m = result at.In_ok-count (held at.In_ok-take_whole (counted at.In_ok-number)) (listed at.In_ok-pairs) in
    let wrote = rw (c.first.ensures.patterns, c.first.ensures.coefficients) at c.write_sum.ensures in
    first-result m.first _ c.requires.room wrote.value wrote.area_after ∙ m.judged
