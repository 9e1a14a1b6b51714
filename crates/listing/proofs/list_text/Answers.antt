-- `list_text` meets its contract: the table that was read is listed, or the refusal.
use mathlib.Core.Path.{sym, ap}
use Prim.Native.Nat.{◌^◌, ◌<◌, ◌≤◌}
use native.Mathlib.Omega.{arith}
use borrow.Author.Rules.{rules}
use lib.IntN.{pos}
use lib.ListN.{length, replicate}
use lib.Seq.{length-take-le}
use Rattle.answers.specs.Refusals.{number}
use Rattle.text.specs.Limits.{table_places}
use Rattle.listing.specs.Listing.{listed}
use Rattle.listing.proofs.Widths.{refusal-width}
use Rattle.listing.proofs.Answered.{Typed, typed, not-typed, listed-refusal, listed-as}
use Rattle.listing.proofs.list_text.Goals as goal
use Rattle.listing.proofs.list_text.Goals.{In-Ok}

-- its own table is long enough
room : table_places ≤ length (replicate table_places (pos 0))
room = search rules

-- what was read
formed : (d : In-Ok) → Typed d.args.text.now d.in-Ok.nodes d.read_formula.new.table
formed d = typed _ _ room d.in-Ok.ensures

pub overflow_mul-table : goal.overflow_mul-table
overflow_mul-table c = let h = (formed c).short in search rules

pub slice_bounds-table-end : goal.slice_bounds-table-end
slice_bounds-table-end c = (formed c).short

pub slice_bounds-list_table-end : goal.slice_bounds-list_table-end
slice_bounds-list_table-end c = sym (length-take-le _ _ (formed (goal.at.slice_bounds-list_table-end c).In-Ok).short)

pub write_refusal-requires : goal.write_refusal-requires
write_refusal-requires c =
    let small : number c.in-Err.refused.refusal < 2 ^ 64 = search rules in
    let near : c.in-Err.refused.place < 2 ^ 64 = search rules in
    omega (arith, refusal-width (number c.in-Err.refused.refusal) c.in-Err.refused.place small near, c.requires)

pub returns-in-Ok : goal.returns-in-Ok
returns-in-Ok c =
    let d = (goal.at.returns-in-Ok c).In-Ok in
    let all = listed-as _ (ap listed (formed d).is) (c.list_table.ensures.value, c.list_table.ensures.area_after) in
    record { value = all.0; area_after = all.1 }

pub returns-in-Err : goal.returns-in-Err
returns-in-Err c =
    let all = listed-as _ (listed-refusal (not-typed _ _ room c.in-Err.ensures)) (c.write_refusal.ensures.value, c.write_refusal.ensures.area_after) in
    record { value = all.0; area_after = all.1 }
