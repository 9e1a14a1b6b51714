use mathlib.Core.Path.{sym, ◌∙◌}
use Prim.Native.Nat.{◌<◌}
use native.Mathlib.Omega.{arith}
use lib.IntN.{pos}
use lib.ListN.{length, get_or, length-map}
use mir.Syntax.{w64}
use mir.ValLaws.{to_z-of_z}
use Rattle.algebra.specs.Inside.Rank.{word_at}
use Rattle.algebra.proofs.Numbers.Signed.{zero_bits, nonzero-bits}
use Rattle.algebra.proofs.Patterns.Rank.{words-at}
use Rattle.sums.proofs.Finishing.{start, skips, takes, ended}
use Rattle.sums.proofs.rows.finish.Goals as goal
use Rattle.sums.proofs.rows.finish.Goals.{After-of_rank}

-- there is a place for one more term
room : (d : After-of_rank) → (d.loop-k.count < length d.loop-k.patterns) × (d.loop-k.count < length d.loop-k.coefficients)
room d =
    let many = length-map d.args.running.patterns.now word_at in
    (omega (arith, d.loop-k.invariant.held.few, many, d.loop-k-test.true, d.loop-k.invariant.fewer, d.loop-k.invariant.words_room, d.loop-k.invariant.stored.same_words), omega (arith, d.loop-k.invariant.held.few, many, d.loop-k-test.true, d.loop-k.invariant.fewer, d.loop-k.invariant.coefficients_room, d.loop-k.invariant.stored.same_coefficients))

pub loop-k-init : goal.loop-k-init
loop-k-init c = start _ _ _ _ c.requires.held (omega (arith, c.requires.held.few, c.requires.room.words)) (omega (arith, c.requires.held.few, c.requires.room.coefficients))

pub loop-k-preserved-then-c-eq0 : goal.loop-k-preserved-then-c-eq0
loop-k-preserved-then-c-eq0 c = let value = get_or c.args.running.coefficients.now c.loop-k.k (pos 0) in
    skips c.loop-k.invariant (omega (arith, length-map c.args.running.patterns.now word_at)) (zero_bits value (record { sfits = c.c-1.given }) c.if-c-eq0.true)

pub loop-k-preserved : goal.loop-k-preserved
loop-k-preserved c = let value = get_or c.args.running.coefficients.now c.loop-k.k (pos 0) in
    rw (c.of_rank.ensures ∙ sym (words-at c.args.running.patterns.now c.loop-k.k), to_z-of_z w64 value (record { sfits = c.c-1.given }))
    (takes c.loop-k.invariant (omega (arith, length-map c.args.running.patterns.now word_at)) (nonzero-bits value c.if-c-eq0.false))

pub returns : goal.returns
returns c = ended c.loop-k.invariant (omega (arith, length-map c.args.running.patterns.now word_at))
