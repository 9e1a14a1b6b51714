use mathlib.Core.Path.{◌≡◌, refl, ◌∙◌, ap}
use borrow.Author.Rules.{rules}
use Rattle.numbers.proofs.Items.{ok-read}
use Rattle.numbers.proofs.Numbers.{number-inside}
use Rattle.packed.proofs.CopyTerms.{start, again, stops, ended}
use Rattle.packed.proofs.ReadItems.{number_is}
use Rattle.packed.proofs.fast.copy_terms.Goals as goal

pub loop-k-init : goal.loop-k-init
loop-k-init c = (start _ _ _ _ _ c.requires.count_in_bounds c.requires.count_in_bounds_2, refl)

pub returns-in_err-c : goal.returns-in_err-c
returns-in_err-c c = rw c.from_residual.ensures (stops c.loop-k.invariant.0)

pub word-requires : goal.word-requires
word-requires c = rw c.item.ensures.bytes (number-inside _ _ _ _ (ok-read c.item.result c.in_ok-c.ensures.value c.item.ensures.item)).1

pub returns-in_err-patterns : goal.returns-in_err-patterns
returns-in_err-patterns c = rw c.from_residual-in_err-patterns.ensures (stops c.loop-k.invariant.0)

pub loop-k-preserved : goal.loop-k-preserved
loop-k-preserved c =
    let word = c.in_ok-patterns.ensures.word in
    let same : c.item.new.self.bytes.now ≡ c.args.bytes.now = ap (λ b. b.now) c.item.ensures.bytes ∙ c.loop-k.invariant.1 in
    let code = ok-read c.item.result c.in_ok-c.ensures.value (rw c.loop-k.invariant.1 at c.item.ensures.item) in
    let value = number_is c.in_ok-c.c (search rules) c.decode.ensures in (
      rw word.2 (again c.loop-k.invariant.0 (λ i. (c.type_inv.bytes i).fits) c.loop-k-test.true code (rw same at word.0) (rw same at word.1) value),
      ap (λ b. b.now) c.word.ensures.bytes ∙ same,
    )

pub returns : goal.returns
returns c = ended c.loop-k.invariant.0 c.loop-k-test.false
