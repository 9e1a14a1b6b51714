-- `form` meets its contract: the refusal of the table, or the terms of its sum; packed bytes are always unpacked.
use mathlib.Core.Path.{sym}
use borrow.Author.Rules.{rules}
use lib.IntN.{pos}
use lib.ListN.{replicate}
use lib.Seq.{length-take-le}
use Rattle.std.proofs.lemmas.Result.{err_from_is_err_and}
use Rattle.algebra.specs.Limits.{variables, work_places}
use Rattle.packed.specs.Packed.{most_bytes}
use Rattle.packed.specs.Promised.{WorkRoom}
use Rattle.listing.proofs.Answered.{Simple, simplified, not-simplified, unpacked}
use Rattle.listing.proofs.form.Goals as goal
use Rattle.listing.proofs.form.Goals.{In_ok-length}

-- its own areas are long enough
room : WorkRoom (replicate work_places 0) (replicate work_places (pos 0)) (replicate (most_bytes variables) 0)
room = record { patterns_room = search rules; coefficients_room = search rules; result_room = search rules }

-- what simplify gave
worked : (d : In_ok-length) → Simple d.args.table.now d.in_ok-length.length d.simplify.new.res
worked d = simplified _ _ _ _ room d.in_ok-length.ensures

pub returns-in_err-length : goal.returns-in_err-length
returns-in_err-length c =
    let p = err_from_is_err_and c.from_residual.result c.from_residual.ensures.1 in
    rw (p.1, p.2) (not-simplified _ _ _ _ room c.in_err-length.ensures)

pub slice_bounds-bytes-end : goal.slice_bounds-bytes-end
slice_bounds-bytes-end c = (worked c).short

pub slice_bounds-unpack-end : goal.slice_bounds-unpack-end
slice_bounds-unpack-end c = sym (length-take-le _ _ (worked (goal.at.slice_bounds-unpack-end c).In_ok-length).short)

pub returns : goal.returns
returns c =
    let all = worked (goal.at.returns c).In_ok-length in
    unpacked _ _ _ c.requires.patterns_room c.requires.coefficients_room all.packs all.is _ c.unpack.ensures
