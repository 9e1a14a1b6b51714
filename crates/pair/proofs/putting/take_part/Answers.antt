use mathlib.Core.Path.{◌≡◌}
use Prim.Native.Nat.{ℕ, ◌<◌}
use lib.IntN.{ℤ, pos}
use lib.ListN.{length, get_or, length-append}
use mir.Syntax.{w64}
use mir.Val.{of_z, to_z}
use Rattle.std.proofs.Common.{rules}
use Rattle.std.proofs.lemmas.Slice.Zip.{zip_turn}
use Rattle.pair.proofs.TakingPart.{start, next-valid, skips, takes}
use Rattle.pair.proofs.putting.take_part.Goals as goal
use Rattle.pair.proofs.putting.take_part.Goals.{In-Some}

-- the next term stands behind those so far
turn : (d : In-Some) → (length d.loop-word.yielded < length d.args.s.patterns.now) × (length d.loop-word.yielded < length d.args.s.coefficients.now)
    × ((z : ℕ) → d.in-Some.word.now ≡ get_or d.args.s.patterns.now (length d.loop-word.yielded) z) × ((z : ℤ) → d.in-Some.c.now ≡ get_or d.args.s.coefficients.now (length d.loop-word.yielded) z)
turn d =
    zip_turn d.args.s.patterns.now d.args.s.coefficients.now d.loop-word.yielded d.into_iter-word-iterator.result d.loop-word.word-iterator d.next.new.self d.next.result
    (search rules) (search rules) d.loop-word.yielded_by (d.in-Some.word, d.in-Some.c) d.in-Some.is d.next.ensures.steps

pub loop-word-init : goal.loop-word-init
loop-word-init c = start _ _ _ _ _ _ c.requires.known c.requires.held c.requires.room.words c.requires.room.coefficients

pub without-requires-clause-valid : goal.without-requires-clause-valid
without-requires-clause-valid c =
    let at = turn (goal.at.without-requires-clause-valid c).In-Some in
    rw (at.2 0) (next-valid c.loop-word.invariant at.0)

pub loop-word-preserved-then-exponent-k : goal.loop-word-preserved-then-exponent-k
loop-word-preserved-then-exponent-k c =
    let at = turn (goal.at.loop-word-preserved-then-exponent-k c).In-Some in
    let read : to_z w64 (of_z w64 c.in-Some.c.now) ≡ c.in-Some.c.now = search rules in
    rw (length-append c.loop-word.yielded _, read, at.3 (pos 0))
    (takes c.loop-word.invariant at.0 (rw (at.2 0) at c.exponent.ensures) c.if-exponent-k.true (rw (at.2 0) at c.without.ensures))

pub loop-word-preserved : goal.loop-word-preserved
loop-word-preserved c =
    let at = turn (goal.at.loop-word-preserved c).In-Some in
    rw (length-append c.loop-word.yielded _) (skips c.loop-word.invariant at.0 (rw (at.2 0) at c.exponent.ensures) c.if-exponent-k.false)
