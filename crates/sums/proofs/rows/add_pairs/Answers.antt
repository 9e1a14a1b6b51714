use mathlib.Core.Path.{◌≡◌, sym, ◌∙◌, ap}
use Prim.Native.Nat.{◌<◌}
use native.Mathlib.Omega.{arith}
use mathlib.Core.List.{[], ◌∷◌}
use borrow.Author.Rules.{rules}
use lib.IntN.{pos}
use lib.ListN.{length, get_or, length-append, length-map}
use mir.Syntax.{w64}
use mir.ValLaws.{to_z-of_z}
use Rattle.algebra.specs.Inside.Rank.{word_at, words_at}
use Rattle.algebra.proofs.Patterns.Rank.{words-at}
use Rattle.sums.proofs.Holding.{as_many}
use Rattle.sums.proofs.Walking.{more, item-is, walked, all-walked}
use Rattle.sums.proofs.Pairing.{start, can-merge, stops, again, ended}
use Rattle.sums.proofs.rows.add_pairs.Goals as goal
use Rattle.sums.proofs.rows.add_pairs.Goals.{In-Some}

-- there is one more row, and what was read of it
inside : (d : In-Some) → length d.loop-rank.yielded < length (words_at d.args.s.patterns.now)
inside d = omega (arith, length-map d.args.s.patterns.now word_at, more d.loop-rank.invariant.1 d.in-Some.ensures.steps.0)

word_is : (d : In-Some) → word_at d.in-Some.rank.now ≡ get_or (words_at d.args.s.patterns.now) (length d.loop-rank.yielded) 0
word_is d = ap word_at (item-is d.loop-rank.invariant.1 d.in-Some.ensures.steps.0 0) ∙ sym (words-at d.args.s.patterns.now (length d.loop-rank.yielded))

c_is : (d : In-Some) → d.in-Some.c.now ≡ get_or d.args.s.coefficients.now (length d.loop-rank.yielded) (pos 0)
c_is d = item-is d.loop-rank.invariant.2 d.in-Some.ensures.steps.1 (pos 0)

pub loop-rank-init : goal.loop-rank-init
loop-rank-init c = (start c.requires, record { is = search rules }, record { is = search rules })

pub merge_row-all-requires : goal.merge_row-all-requires
merge_row-all-requires c =
    let d = (goal.at.merge_row-all-requires c).In-Some in
    rw (to_z-of_z w64 c.in-Some.c.now (search rules), c_is d, word_is d) (can-merge c.loop-rank.invariant.0 (inside d))

pub returns-then-all-gt-MOST_TERMS : goal.returns-then-all-gt-MOST_TERMS
returns-then-all-gt-MOST_TERMS c =
    let d = (goal.at.returns-then-all-gt-MOST_TERMS c).In-Some in
    stops c.loop-rank.invariant.0 (inside d) (rw (to_z-of_z w64 c.in-Some.c.now (search rules), c_is d, word_is d) at c.merge_row-all.ensures) c.if-all-gt-MOST_TERMS.true

pub loop-rank-preserved : goal.loop-rank-preserved
loop-rank-preserved c =
    let d = (goal.at.loop-rank-preserved c).In-Some in
    let many = length-append c.loop-rank.yielded ((c.in-Some.rank, c.in-Some.c) ∷ []) in
    let told = rw (to_z-of_z w64 c.in-Some.c.now (search rules), c_is d, word_is d) at c.merge_row-all.ensures in
    let same = length-map c.merge_row-all.new.ranks word_at ∙ c.merge_row-all.auto.ranks ∙ sym (length-map c.loop-rank.ranks word_at) in (
      rw many (again c.loop-rank.invariant.0 (inside d) told c.if-all-gt-MOST_TERMS.false same c.merge_row-all.auto.coefficients),
      walked c.loop-rank.invariant.1 c.in-Some.ensures.steps.0 many,
      walked c.loop-rank.invariant.2 c.in-Some.ensures.steps.1 many,
    )

pub returns : goal.returns
returns c =
    let long = length-map c.args.s.patterns.now word_at in
    ended c.loop-rank.invariant.0 (omega (arith, long, all-walked c.loop-rank.invariant.1 c.loop-rank.invariant.2 (sym long ∙ as_many c.requires.first) c.in-None.ensures.steps))
