use mathlib.Core.Path.{◌≡◌, refl, sym, ap, ap₂, ◌∙◌}
use mathlib.Core.List.{List, [], ◌∷◌, ◌++◌}
use mathlib.Core.Logic.{◌⊎◌, inl, inr}
use Prim.Native.Nat.{ℕ, ◌≤◌}
use native.Mathlib.Omega.{arith}
use borrow.Author.Rules.{rules}
use lib.IntN.{ℤ}
use lib.ListN.{length}
use mir.Syntax.{w64}
use mir.Val.{SFits}
use mir.ValLaws.{to_z-of_z}
use Rattle.std.proofs.lemmas.Slice.Zip.{either_empty_from_Zip}
use Rattle.std.specs.Iterator.Adapters.{zip_first, zip_second}
use Rattle.std.specs.Slice.Iter.{iter_rest}
use Rattle.algebra.specs.Sum.{term}
use Rattle.algebra.specs.Word.{exponents, terms_by, terms}
use Rattle.algebra.proofs.Patterns.Held.{held-length}
use Rattle.numbers.proofs.Signs.{held}
use Rattle.answers.specs.Quoted.{quoted}
use Rattle.listing.specs.Lines.{newline, numbered, term_line, term_lines, sum_lines}
use Rattle.numbers.proofs.Writing.{Writing, start, first, left_as, has_room, next, joined, byte-room, byte, completed}
use Rattle.listing.proofs.lines.write_sum.Goals as goal
use Rattle.listing.proofs.lines.write_sum.Goals.{After-write_numbered-first, In-Some, In-None}

-- the terms of two lists, from the front; the machine hands a coefficient on as it holds it
first-term : {ws ws' : List ℕ} {cs cs' : List ℤ} {w : ℕ} {z : ℤ} → (ws ≡ w ∷ ws') × (cs ≡ z ∷ cs') → SFits w64 z → terms ws cs ≡ term (held z) (exponents w) ∷ terms ws' cs'
unfolding terms terms_by
first-term {ws' = ws'} {cs' = cs'} {w = w} {z = z} e fits =
    rw (e.0, e.1) (ap (λ (y : ℤ). term y (exponents w) ∷ terms ws' cs') (sym (to_z-of_z w64 z fits)))

no-term : (ws : List ℕ) (cs : List ℤ) → (ws ≡ []) ⊎ (cs ≡ []) → terms ws cs ≡ []
unfolding terms terms_by
no-term ws cs (inl e) = rw e
no-term [] cs (inr e) = refl
no-term (w ∷ ws) cs (inr e) = rw e

-- the first line is to be written
begun : (ws : List ℕ) (cs : List ℤ) → length ws ≡ length cs → {n : ℕ} → n ≡ length ws → (area : List ℕ) → length (sum_lines (terms ws cs)) ≤ length area
    → Writing area 0 (sum_lines (terms ws cs)) area 0 (numbered "terms " n ++ (newline ∷ term_lines (terms ws cs)))
unfolding sum_lines terms
begun ws cs many is area room =
    left_as (ap (λ (n : ℕ). numbered "terms " n ++ (newline ∷ term_lines (terms ws cs))) (held-length exponents ws cs many ∙ sym is)) (first area (sum_lines (terms ws cs)) room)

-- the number of terms is written
counted : (d : After-write_numbered-first) → let s = terms d.args.sum.patterns.now d.args.sum.coefficients.now in
    Writing d.args.area.now 0 (sum_lines s) d.write_numbered-first.new.area d.write_numbered-first.result (newline ∷ term_lines s)
unfolding numbered quoted
counted d =
    next (numbered "terms " d.len.result) _ refl (begun _ _ d.requires.as_many d.len.ensures d.args.area.now d.requires.sum_in_bounds)
    d.write_numbered-first.ensures.area_after
    d.write_numbered-first.ensures.value

pub write_numbered-first-requires : goal.write_numbered-first-requires
unfolding numbered quoted
write_numbered-first-requires c = has_room (numbered "terms " c.len.result) _ refl (begun _ _ c.requires.as_many c.len.ensures c.args.area.now c.requires.sum_in_bounds)

pub bounds-area-first : goal.bounds-area-first
bounds-area-first c = byte-room (counted (goal.at.bounds-area-first c).After-write_numbered-first) newline _ refl

pub overflow_add-place : goal.overflow_add-place
overflow_add-place c = let h = byte-room (counted (goal.at.overflow_add-place c).After-write_numbered-first) newline _ refl in search rules

-- the line of the next term is due
due : (d : In-Some) → SFits w64 d.in-Some.field-0-1.now
    → term_lines (terms (iter_rest (zip_first d.loop-pattern.pattern-iterator)) (iter_rest (zip_second d.loop-pattern.pattern-iterator)))
    ≡ term_line (term (held d.in-Some.field-0-1.now) (exponents d.in-Some.field-0-0.now)) ++ term_lines (terms (iter_rest (zip_first d.next.new.self)) (iter_rest (zip_second d.next.new.self)))
unfolding term_lines
due d fits = ap term_lines (first-term d.in-Some.ensures.steps fits)

-- all lines are written
lined : (d : In-None) → let s = terms d.args.sum.patterns.now d.args.sum.coefficients.now in
    Writing d.args.area.now 0 (sum_lines s) d.write_numbered-first.new.area d.write_numbered-first.result (newline ∷ term_lines s)
    → Writing d.args.area.now 0 (sum_lines s) d.loop-pattern.area d.loop-pattern.place []
unfolding term_lines
lined d w = joined (byte w newline _ refl) (left_as (ap term_lines (no-term _ _ (either_empty_from_Zip d.loop-pattern.pattern-iterator d.next.new.self _ d.in-None.is d.next.ensures.steps))) d.loop-pattern.invariant)

pub loop-pattern-init : goal.loop-pattern-init
loop-pattern-init c =
    let w = byte (counted (goal.at.loop-pattern-init c).After-write_numbered-first) newline _ refl in
    let words : c.args.sum.patterns.now ≡ iter_rest (zip_first c.into_iter-pattern-iterator.result) = search rules in
    let coefficients : c.args.sum.coefficients.now ≡ iter_rest (zip_second c.into_iter-pattern-iterator.result) = search rules in
    left_as (ap₂ (λ (ws : List ℕ) (cs : List ℤ). term_lines (terms ws cs)) words coefficients) (start _ _ _ w.room)

pub write_term-place-requires : goal.write_term-place-requires
write_term-place-requires c = has_room (term_line (term (held c.in-Some.field-0-1.now) (exponents c.in-Some.field-0-0.now))) _ (due (goal.at.write_term-place-requires c).In-Some (search rules)) c.loop-pattern.invariant

pub loop-pattern-preserved : goal.loop-pattern-preserved
loop-pattern-preserved c = next _ _ (due (goal.at.loop-pattern-preserved c).In-Some (search rules)) c.loop-pattern.invariant c.write_term-place.ensures.area_after c.write_term-place.ensures.value

pub returns : goal.returns
returns c =
    let done = completed (lined c (counted (goal.at.returns c).After-write_numbered-first)) {place' = c.loop-pattern.place} (omega arith) refl in
    record { value = done.0; area_after = done.1 }
