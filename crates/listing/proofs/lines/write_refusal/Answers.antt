-- `write_refusal` meets its contract: the number, the place, and the newline, one after the other.
use mathlib.Core.Path.{◌≡◌, refl, sym, ap}
use mathlib.Core.List.{List, [], ◌∷◌, ◌++◌}
use Prim.Native.Nat.{ℕ, ◌+◌, ◌≤◌}
use lib.ListN.{length}
use lib.Seq.{sets}
use borrow.Author.Rules.{rules}
use Rattle.numbers.proofs.Writing.{Writing, has_room, next}
use Rattle.answers.specs.Quoted.{quoted}
use Rattle.answers.specs.Refusals.{number}
use Rattle.listing.specs.Lines.{newline, numbered, refusal_line}
use Rattle.numbers.proofs.Writing.{first, left_as, byte-room, completed}
use Rattle.listing.proofs.lines.write_refusal.Goals as goal
use Rattle.listing.proofs.lines.write_refusal.Goals.{After-write_numbered-end, After-write_numbered-told}

-- after the number of the refusal, n
module _ (area : List ℕ) (number place : ℕ) {n : ℕ} (is : n ≡ number) (room : length (refusal_line number place) ≤ length area) where
  begun : Writing area 0 (refusal_line number place) area 0 (numbered "refused " n ++ (numbered " at " place ++ (newline ∷ [])))
  unfolding refusal_line
  begun = left_as (ap (λ (k : ℕ). numbered "refused " k ++ (numbered " at " place ++ (newline ∷ []))) (sym is)) (first area (refusal_line number place) room)

  module _ {area' : List ℕ} {told : ℕ} (there : told ≡ 0 + length (numbered "refused " n)) (now : area' ≡ sets area 0 (numbered "refused " n)) where
    numbering : Writing area 0 (refusal_line number place) area' told (numbered " at " place ++ (newline ∷ []))
    numbering = next (numbered "refused " n) (numbered " at " place ++ (newline ∷ [])) refl begun now there

-- the number is written
told : (d : After-write_numbered-told) → Writing d.args.area.now 0 (refusal_line (number d.args.refused.refusal) d.args.refused.place) d.write_numbered-told.new.area d.write_numbered-told.result
    (numbered " at " d.args.refused.place ++ (newline ∷ []))
unfolding numbered quoted
told d = numbering _ _ _ d.number.ensures d.requires d.write_numbered-told.ensures.value d.write_numbered-told.ensures.area_after

-- the place is written
placed : (d : After-write_numbered-end)
    → Writing d.args.area.now 0 (refusal_line (number d.args.refused.refusal) d.args.refused.place) d.write_numbered-told.new.area d.write_numbered-told.result (numbered " at " d.args.refused.place ++ (newline ∷ []))
    → Writing d.args.area.now 0 (refusal_line (number d.args.refused.refusal) d.args.refused.place) d.write_numbered-end.new.area d.write_numbered-end.result (newline ∷ [])
unfolding numbered quoted
placed d w = next (numbered " at " d.args.refused.place) (newline ∷ []) refl w d.write_numbered-end.ensures.area_after d.write_numbered-end.ensures.value

pub write_numbered-told-requires : goal.write_numbered-told-requires
unfolding numbered quoted
write_numbered-told-requires c = has_room (numbered "refused " c.number.result) _ refl (begun c.args.area.now _ c.args.refused.place c.number.ensures c.requires)

pub write_numbered-end-requires : goal.write_numbered-end-requires
unfolding numbered quoted
write_numbered-end-requires c = has_room (numbered " at " c.args.refused.place) (newline ∷ []) refl (told (goal.at.write_numbered-end-requires c).After-write_numbered-told)

pub bounds-area-end : goal.bounds-area-end
bounds-area-end c = let d = goal.at.bounds-area-end c in byte-room (placed d.After-write_numbered-end (told d.After-write_numbered-told)) newline [] refl

pub overflow_add-result : goal.overflow_add-result
overflow_add-result c =
    let d = goal.at.overflow_add-result c in
    let h = byte-room (placed d.After-write_numbered-end (told d.After-write_numbered-told)) newline [] refl in
    search rules

pub returns : goal.returns
returns c =
    let d = goal.at.returns c in
    let all = completed (placed d.After-write_numbered-end (told d.After-write_numbered-told)) refl refl in
    record { value = all.0; area_after = all.1 }
