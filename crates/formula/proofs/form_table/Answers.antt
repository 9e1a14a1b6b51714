-- `form_table` meets its contract: SHAPE, then the nodes, and the last one's sum is written from its part.
use mathlib.Core.Path.{◌≡◌, sym, ◌∙◌}
use mathlib.Core.Bool.{true}
use native.Mathlib.Omega.{arith}
use lib.ListN.{length}
use Rattle.std.proofs.lemmas.Result.{err_from_is_err_and}
use Rattle.formula.specs.Table.{is_shape}
use Rattle.formula.proofs.Simplifying.{shape-says}
use Rattle.formula.proofs.Answering.{no_shape, node-refused, Formed, formed, in-work, in-part, as-many, valid, has_room, all-written}
use Rattle.formula.proofs.form_table.Goals as goal
use Rattle.formula.proofs.form_table.Goals.{Else-not-is_shape, In_ok-count}

shaped : (d : Else-not-is_shape) → is_shape (length d.args.table.now) ≡ true
shaped d = sym d.is_shape.ensures ∙ d.if-not-is_shape.false

-- the sum of the last node, in the areas after `form_nodes`
last : (d : In_ok-count) → is_shape (length d.args.table.now) ≡ true → Formed d.args.table.now d.form_nodes.new.patterns d.form_nodes.new.coefficients d.in_ok-count.count
last d shape = formed _ _ _ shape d.in_ok-count.was d.form_nodes.ensures.result_value d.form_nodes.ensures.keeps_last

pub returns-then-not-is_shape-clause-res_after : goal.returns-then-not-is_shape-clause-res_after
returns-then-not-is_shape-clause-res_after c = rw c.at.ensures (no_shape _ _ (sym c.is_shape.ensures ∙ c.if-not-is_shape.true))

pub form_nodes-requires-clause-shape : goal.form_nodes-requires-clause-shape
form_nodes-requires-clause-shape c = shape-says _ (shaped (goal.at.form_nodes-requires-clause-shape c).Else-not-is_shape)

pub returns-in_err-count-clause-res_after : goal.returns-in_err-count-clause-res_after
returns-in_err-count-clause-res_after c =
    let p = err_from_is_err_and c.from_residual.result c.from_residual.ensures.1 in
    rw (p.1, p.2) (node-refused _ _ (shaped (goal.at.returns-in_err-count-clause-res_after c).Else-not-is_shape) c.in_err-count.was c.form_nodes.ensures.result_value)

pub overflow_sub-start : goal.overflow_sub-start
overflow_sub-start c = (shape-says _ (shaped (goal.at.overflow_sub-start c).Else-not-is_shape)).some

pub overflow_mul-start : goal.overflow_mul-start
overflow_mul-start c =
    let at = goal.at.overflow_mul-start c in
    let f = last at.In_ok-count (shaped at.Else-not-is_shape) in
    record { fits = omega (arith, in-work f) }

pub overflow_add-end : goal.overflow_add-end
overflow_add-end c =
    let at = goal.at.overflow_add-end c in
    let f = last at.In_ok-count (shaped at.Else-not-is_shape) in
    record { fits = omega (arith, in-work f, in-part f) }

pub offset_bounds-patterns-start : goal.offset_bounds-patterns-start
offset_bounds-patterns-start c =
    let at = goal.at.offset_bounds-patterns-start c in
    let f = last at.In_ok-count (shaped at.Else-not-is_shape) in
    record { fits = omega (arith, in-work f) }

pub slice_bounds-sum-end : goal.slice_bounds-sum-end
slice_bounds-sum-end c =
    let at = goal.at.slice_bounds-sum-end c in
    let f = last at.In_ok-count (shaped at.Else-not-is_shape) in
    omega (arith, in-work f, in-part f, c.form_nodes.auto.patterns, c.requires.patterns_room)

pub offset_bounds-coefficients-start : goal.offset_bounds-coefficients-start
offset_bounds-coefficients-start c =
    let at = goal.at.offset_bounds-coefficients-start c in
    let f = last at.In_ok-count (shaped at.Else-not-is_shape) in
    record { fits = omega (arith, in-work f) }

pub slice_bounds-sum-end-2 : goal.slice_bounds-sum-end-2
slice_bounds-sum-end-2 c =
    let at = goal.at.slice_bounds-sum-end-2 c in
    let f = last at.In_ok-count (shaped at.Else-not-is_shape) in
    omega (arith, in-work f, in-part f, c.form_nodes.auto.coefficients, c.requires.coefficients_room)

pub write_sum-length-requires : goal.write_sum-length-requires
write_sum-length-requires c =
    let at = goal.at.write_sum-length-requires c in
    let f = last at.In_ok-count (shaped at.Else-not-is_shape) in
    record { as_many = as-many f; each_valid = valid f; room = has_room f c.args.res.now c.requires.res_room }

pub returns-clause-res_after : goal.returns-clause-res_after
returns-clause-res_after c =
    let at = goal.at.returns-clause-res_after c in
    let f = last at.In_ok-count (shaped at.Else-not-is_shape) in
    all-written f _ c.requires.res_room c.write_sum-length.ensures.value c.write_sum-length.ensures.area_after
