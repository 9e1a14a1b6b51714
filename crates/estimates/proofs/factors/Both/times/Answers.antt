-- `times` meets its contract: the product at the readings is formed only where the raised one is allowed, and fits then.
use borrow.Author.Rules.{rules}
use mir.Syntax.{w64}
use mir.ValLaws.{to_z-of_z}
use Rattle.estimates.proofs.Multiplying.{kept, sound_of, too_large, product-fits, multiplied}
use Rattle.estimates.proofs.factors.Both.times.Goals as goal

pub returns-then-product-gt-LARGEST_WEIGHT : goal.returns-then-product-gt-LARGEST_WEIGHT
returns-then-product-gt-LARGEST_WEIGHT c = rw (to_z-of_z w64 c.args.self.value (search rules)) (λ m m' n n' h h'. too_large h h' c.product-product.ensures c.if-product-gt-LARGEST_WEIGHT.true)

pub overflow_mul-value : goal.overflow_mul-value
overflow_mul-value c =
    let a = c.args.self in
    let b = c.args.other in
    rw (to_z-of_z w64 a.value (search rules), to_z-of_z w64 b.value (search rules))
    (product-fits (kept a.most a.value a.sound).holds (kept b.most b.value b.sound).holds c.product-product.ensures c.if-product-gt-LARGEST_WEIGHT.false)

pub invariant_of-result-2 : goal.invariant_of-result-2
invariant_of-result-2 c =
    let a = c.args.self in
    let b = c.args.other in
    let h = (kept a.most a.value a.sound).holds in
    let h' = (kept b.most b.value b.sound).holds in
    let fits = product-fits h h' c.product-product.ensures c.if-product-gt-LARGEST_WEIGHT.false in
    rw (to_z-of_z w64 a.value (search rules), to_z-of_z w64 b.value (search rules), to_z-of_z w64 _ fits)
    (record { sound = sound_of (multiplied h h' c.product-product.ensures c.if-product-gt-LARGEST_WEIGHT.false) })

pub returns : goal.returns
returns c =
    let a = c.args.self in
    let b = c.args.other in
    let fits = product-fits (kept a.most a.value a.sound).holds (kept b.most b.value b.sound).holds c.product-product.ensures c.if-product-gt-LARGEST_WEIGHT.false in
    rw (to_z-of_z w64 a.value (search rules), to_z-of_z w64 b.value (search rules), to_z-of_z w64 _ fits)
    (λ m m' n n' h h'. multiplied h h' c.product-product.ensures c.if-product-gt-LARGEST_WEIGHT.false)
