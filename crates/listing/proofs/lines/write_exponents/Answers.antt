use mathlib.Core.Path.{◌≡◌, refl, sym, ap, ◌∙◌}
use mathlib.Core.List.{List, [], ◌∷◌, ◌++◌}
use Prim.Native.Nat.{ℕ, ◌+◌, ◌≤◌, ◌<◌}
use native.Mathlib.Numerals.{add-one}
use lib.ListN.{length, drop, set, drop_of_length-le}
use lib.Seq.{drop-cons, sets}
use Rattle.algebra.specs.Limits.{variables}
use Rattle.algebra.specs.Pattern.{exponent}
use Rattle.algebra.specs.Word.{exponents}
use Rattle.algebra.proofs.Patterns.Word.{exponents-length}
use Rattle.numbers.proofs.Writing.{Writing, has_room, next}
use Rattle.numbers.specs.Decimal.{decimal}
use Rattle.listing.specs.Lines.{newline, blank, exponents_line}
use Rattle.numbers.proofs.Writing.{left_as, byte-room, byte, finished}
use Rattle.listing.proofs.lines.write_exponents.Goals as goal

-- the bytes of the exponents from variable v on
abbrev line_from : ℕ → ℕ → List ℕ
line_from w v = exponents_line (drop v (exponents w))

one_more : (w v : ℕ) → v < variables → line_from w v ≡ blank ∷ (decimal (exponent v (exponents w)) ++ line_from w (v + 1))
unfolding exponents_line
one_more w v h = rw add-one (ap exponents_line (drop-cons (exponents w) v 0 (rw (exponents-length w) h)))

no_more : (w v : ℕ) → variables ≤ v → line_from w v ≡ newline ∷ []
unfolding exponents_line
no_more w v h =
    let short : length (exponents w) ≤ v = rw (exponents-length w) h in
    ap exponents_line (drop_of_length-le (exponents w) short)

-- after the blank
module _ {area₀ : List ℕ} {at : ℕ} {all area : List ℕ} {place : ℕ} (w v e : ℕ) (writing : Writing area₀ at all area place (line_from w v))
    (h : v < variables) (is : e ≡ exponent v (exponents w)) where
  blanked : Writing area₀ at all (set area place blank) (place + 1) (decimal e ++ line_from w (v + 1))
  blanked = byte writing blank (decimal e ++ line_from w (v + 1)) (one_more w v h ∙ ap (λ (n : ℕ). blank ∷ (decimal n ++ line_from w (v + 1))) (sym is))

  room : place + 1 + length (decimal e) ≤ length (set area place blank)
  room = has_room (decimal e) (line_from w (v + 1)) refl blanked

  again : {area' : List ℕ} {place' : ℕ} → place' ≡ place + 1 + length (decimal e) → area' ≡ sets (set area place blank) (place + 1) (decimal e)
      → Writing area₀ at all area' place' (line_from w (v + 1))
  again there now = next (decimal e) (line_from w (v + 1)) refl blanked now there

pub bounds-area-place : goal.bounds-area-place
bounds-area-place c = byte-room c.loop-v.invariant _ _ (one_more _ _ c.loop-v-test.true)

pub write_decimal-place-requires : goal.write_decimal-place-requires
write_decimal-place-requires c = room _ _ _ c.loop-v.invariant c.loop-v-test.true c.exponent.ensures

pub loop-v-preserved : goal.loop-v-preserved
loop-v-preserved c = again _ _ _ c.loop-v.invariant c.loop-v-test.true c.exponent.ensures c.write_decimal-place.ensures.value c.write_decimal-place.ensures.area_after

pub bounds-area-place-2 : goal.bounds-area-place-2
bounds-area-place-2 c = byte-room c.loop-v.invariant _ _ (no_more _ _ c.loop-v-test.false)

pub returns : goal.returns
returns c =
    let all = finished (left_as (no_more _ _ c.loop-v-test.false) c.loop-v.invariant) refl refl in record { value = all.0; area_after = all.1 }
