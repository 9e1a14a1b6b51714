-- `write_term` meets its contract: the exponents are written after the coefficient.
use mathlib.Core.Path.{refl, sym, ap}
use mathlib.Core.List.{List, ◌++◌}
use Prim.Native.Nat.{ℕ, ◌+◌, ◌≤◌}
use lib.IntN.{ℤ}
use lib.ListN.{length}
use mir.Syntax.{w64}
use mir.Val.{SFits}
use mir.ValLaws.{to_z-of_z}
use Rattle.algebra.specs.Pattern.{Pattern}
use Rattle.algebra.specs.Sum.{term}
use Rattle.algebra.specs.Word.{exponents}
use Rattle.numbers.proofs.Signs.{held}
use Rattle.numbers.proofs.Writing.{Writing, start, has_room, next}
use Rattle.numbers.specs.Decimal.{signed_decimal}
use Rattle.listing.specs.Lines.{exponents_line, term_line}
use Rattle.numbers.proofs.Writing.{left_as, finished}
use Rattle.listing.proofs.lines.write_term.Goals as goal
use Rattle.listing.proofs.lines.write_term.Goals.{After-write_signed-after}

-- nothing is written yet; the machine hands the coefficient on as it holds it
begun : (area : List ℕ) (at : ℕ) (z : ℤ) (p : Pattern) → SFits w64 z → at + length (term_line (term z p)) ≤ length area
    → Writing area at (term_line (term z p)) area at (signed_decimal (held z) ++ exponents_line p)
unfolding term_line
begun area at z p f room =
    left_as (ap (λ (y : ℤ). signed_decimal y ++ exponents_line p) (sym (to_z-of_z w64 z f))) (start area at (signed_decimal z ++ exponents_line p) room)

-- the coefficient is written
valued : (d : After-write_signed-after) → let p = exponents d.args.pattern.0 in
    Writing d.args.area.now d.args.at (term_line (term d.args.coefficient p)) d.write_signed-after.new.area d.write_signed-after.result (exponents_line p)
valued d =
    let p = exponents d.args.pattern.0 in
    next (signed_decimal (held d.args.coefficient)) (exponents_line p) refl
    (begun d.args.area.now d.args.at d.args.coefficient p d.ranges.coefficient d.requires)
    d.write_signed-after.ensures.area_after
    d.write_signed-after.ensures.value

pub write_signed-after-requires : goal.write_signed-after-requires
write_signed-after-requires c = let p = exponents c.args.pattern.0 in
    has_room (signed_decimal (held c.args.coefficient)) (exponents_line p) refl (begun c.args.area.now c.args.at c.args.coefficient p c.ranges.coefficient c.requires)

pub write_exponents-requires : goal.write_exponents-requires
write_exponents-requires c = (valued (goal.at.write_exponents-requires c).After-write_signed-after).room

pub returns : goal.returns
returns c =
    let all = finished (valued (goal.at.returns c).After-write_signed-after) c.write_exponents.ensures.value c.write_exponents.ensures.area_after in record { value = all.0; area_after = all.1 }
