-- The four readers meet their contracts: each does if the next one does.
use Rattle.std.proofs.Common.{◌≡◌, sym, ◌∙◌, ap, true, suc, ◌-◌, arith, rules, Some, None, refl}
use borrow.Author.Tests.{eq-eqb, ne_eqb}
use mir.Syntax.{w64}
use mir.ValLaws.{to_z_pos}
use Rattle.answers.proofs.Judging.{then-good, then-fails}
use Rattle.text.specs.Limits.{largest_number, largest_exponent}
use Rattle.text.specs.Signs.{close_bracket, power_sign, times_sign}
use Rattle.text.specs.Reader.{byte_at, is_times}
use Rattle.text.specs.Inside.Code.{letter_is}
use Rattle.text.proofs.Byte.{inside, letter-above}
use Rattle.text.proofs.Digits.{digits-reach}
use Rattle.text.proofs.Table.{base-before}
use Rattle.text.proofs.Growing.{number-part, letter-part, raised-part, moved}
use Rattle.text.proofs.Branches.{none_left, opened, closed, unclosed, number_read, letter-read, no_power, no-exponent, exponent, factor-is, term_is, sum_is}
use Rattle.text.proofs.Told.{told, faults, answered, failed}
use Rattle.text.proofs.Operands
use Rattle.text.proofs.Operands.{chain-stops, goes_on}
use Rattle.text.proofs.Loops.{term-start, term-again, sum-start, sum-again}
use Rattle.text.proofs.Rules.{digit_test}
use Rattle.text.proofs.readers.+grammar.Goals as goal

-- ---- An atom: a sum in brackets.

pub read_atom-returns-then-levels-eq0 : goal.read_atom-returns-then-levels-eq0
read_atom-returns-then-levels-eq0 t c = failed refl (none_left _ _ c.peek-b.ensures c.if-b-eq40.true c.if-levels-eq0.true)

pub read_atom-returns-in_err-next : goal.read_atom-returns-in_err-next
read_atom-returns-in_err-next t c =
    let deep : c.args.levels ≡ suc (c.args.levels - 1) = omega (arith, c.if-levels-eq0.false) in
    let bracket = opened _ _ c.peek-b.ensures c.if-b-eq40.true deep in
    failed c.from_residual.ensures.1 (bracket ∙ then-fails _ (faults c.read_sum.ensures c.in_err-next.was))

pub read_atom-returns-then-peek-ne41 : goal.read_atom-returns-then-peek-ne41
read_atom-returns-then-peek-ne41 t c =
    let deep : c.args.levels ≡ suc (c.args.levels - 1) = omega (arith, c.if-levels-eq0.false) in
    let bracket = opened _ _ c.peek-b.ensures c.if-b-eq40.true deep in
    let s = told c.read_sum.ensures c.in_ok-next.was in
    failed refl (bracket ∙ then-good _ s.is ∙ unclosed _ _ c.peek.ensures _ c.if-peek-ne41.true)

pub read_atom-returns-then-b-eq40 : goal.read_atom-returns-then-b-eq40
read_atom-returns-then-b-eq40 t c =
    let deep : c.args.levels ≡ suc (c.args.levels - 1) = omega (arith, c.if-levels-eq0.false) in
    let bracket = opened _ _ c.peek-b.ensures c.if-b-eq40.true deep in
    let s = told c.read_sum.ensures c.in_ok-next.was in
    let h = inside c.args.text.now c.in_ok-next.next close_bracket (sym c.peek.ensures ∙ c.if-peek-ne41.false) (omega arith) in
    answered (bracket ∙ then-good _ s.is ∙ closed _ _ c.peek.ensures _ c.if-peek-ne41.false) (moved s.part (omega arith) (omega arith) (omega arith))

-- ---- An atom: a number.

pub read_atom-returns-then-is_ascii_digit : goal.read_atom-returns-then-is_ascii_digit
read_atom-returns-then-is_ascii_digit t c =
    let digit = digit_test c.peek-b.result c.is_ascii_digit.ensures.value c.if-is_ascii_digit.true in
    let r = digits-reach largest_number _ _ (c.read_number-number.ensures.value_is, c.read_number-number.ensures.next_is) (rw c.peek-b.ensures at digit) (omega arith) in
    let put = rw (to_z_pos w64 c.read_number-number.result.value (omega (arith, r.within))) at c.put.ensures.rows_are in
    answered (number_read _ _ c.peek-b.ensures _ digit (c.read_number-number.ensures.value_is, c.read_number-number.ensures.next_is))
    (rw c.put.ensures.one_more (number-part _ _ _ _ (omega arith) r.within _ put))

-- ---- An atom: a letter. The byte is no bracket and no digit.

pub read_atom-returns-in_err-v : goal.read_atom-returns-in_err-v
read_atom-returns-in_err-v t c =
    let none = digit_test c.peek-b.result c.is_ascii_digit.ensures.value c.if-is_ascii_digit.false in
    let nothing : c.letter_of.result ≡ None = grind arith in
    let place : c.in_err-v.field-0.0 ≡ c.args.at = grind arith in
    failed (rw place at c.from_residual-in_err-v.ensures.1) (letter-read _ _ c.peek-b.ensures _ c.if-b-eq40.false none (sym c.letter_of.ensures ∙ ap letter_is nothing))

pub read_atom-returns : goal.read_atom-returns
read_atom-returns t c =
    let none = digit_test c.peek-b.result c.is_ascii_digit.ensures.value c.if-is_ascii_digit.false in
    let named : c.letter_of.result ≡ Some c.in_ok-v.v = grind arith in
    let names = sym c.letter_of.ensures ∙ ap letter_is named in
    let above = letter-above _ _ names in
    let h = inside c.args.text.now _ _ (sym c.peek-b.ensures) (omega arith) in
    answered (letter-read _ _ c.peek-b.ensures _ c.if-b-eq40.false none names)
    (rw c.put-2.ensures.one_more (letter-part _ _ _ _ (omega arith) (omega arith) _ c.put-2.ensures.rows_are))

-- ---- A factor.

pub read_factor-returns-in_err-next : goal.read_factor-returns-in_err-next
read_factor-returns-in_err-next t c =
    failed c.from_residual.ensures.1 (factor-is _ _ _ ∙ then-fails _ (faults c.read_atom.ensures c.in_err-next.was))

pub read_factor-returns-then-peek-ne94 : goal.read_factor-returns-then-peek-ne94
read_factor-returns-then-peek-ne94 t c =
    let a = told c.read_atom.ensures c.in_ok-next.was in
    answered (factor-is _ _ _ ∙ then-good _ a.is ∙ no_power _ _ _ c.peek.ensures (ne_eqb _ power_sign c.if-peek-ne94.true)) a.part

pub read_factor-returns-then-not-is_ascii_digit : goal.read_factor-returns-then-not-is_ascii_digit
read_factor-returns-then-not-is_ascii_digit t c =
    let a = told c.read_atom.ensures c.in_ok-next.was in
    let none = rw c.peek-2.ensures at (digit_test c.peek-2.result c.is_ascii_digit.ensures.value c.if-not-is_ascii_digit.true) in
    failed refl (factor-is _ _ _ ∙ then-good _ a.is ∙ no-exponent _ _ _ c.peek.ensures c.if-peek-ne94.false none)

pub read_factor-last-base-requires : goal.read_factor-last-base-requires
read_factor-last-base-requires t c = (told c.read_atom.ensures c.in_ok-next.was).some

pub read_factor-put-requires-clause-at_place : goal.read_factor-put-requires-clause-at_place
read_factor-put-requires-clause-at_place t c =
    let a = told c.read_atom.ensures c.in_ok-next.was in
    let digit = rw c.peek-2.ensures at (digit_test c.peek-2.result c.is_ascii_digit.ensures.value c.if-not-is_ascii_digit.false) in
    let r = digits-reach largest_exponent _ _ (c.read_number-exponent.ensures.value_is, c.read_number-exponent.ensures.next_is) digit (omega arith) in
    base-before c.read_atom.new.table.nodes c.last-base.result c.read_number-exponent.result.value (omega (arith, a.some)) (omega arith)

pub read_factor-returns : goal.read_factor-returns
read_factor-returns t c =
    let a = told c.read_atom.ensures c.in_ok-next.was in
    let digit = rw c.peek-2.ensures at (digit_test c.peek-2.result c.is_ascii_digit.ensures.value c.if-not-is_ascii_digit.false) in
    let r = digits-reach largest_exponent _ _ (c.read_number-exponent.ensures.value_is, c.read_number-exponent.ensures.next_is) digit (omega arith) in
    answered
    (factor-is _ _ _ ∙ then-good _ a.is ∙ exponent _ _ _ c.peek.ensures c.if-peek-ne94.false digit (c.read_number-exponent.ensures.value_is, c.read_number-exponent.ensures.next_is))
    (rw c.put.ensures.one_more (raised-part a.part _ (omega arith) r.within (rw c.last-base.ensures at c.put.ensures.rows_are)))

-- ---- A term: factors with * between them.

pub read_term-returns-in_err-next : goal.read_term-returns-in_err-next
read_term-returns-in_err-next t c =
    failed c.from_residual.ensures.1 (term_is _ _ _ ∙ then-fails _ (faults c.read_factor.ensures c.in_err-next.was))

pub read_term-loop-table-init : goal.read_term-loop-table-init
read_term-loop-table-init t c = term-start _ _ _ (told c.read_factor.ensures c.in_ok-next.was)

pub read_term-returns-in_err-next-2 : goal.read_term-returns-in_err-next-2
unfolding is_times
read_term-returns-in_err-next-2 t c =
    let joint : is_times (byte_at c.args.text.now c.loop-table.next) ≡ true = rw (← c.peek.ensures) (eq-eqb _ times_sign c.loop-table-test.true) in
    failed c.from_residual-in_err-next-2.ensures.1
    (goes_on _ _ c.loop-table.invariant.chain joint ∙ then-fails _ (faults c.read_factor-in-loop-table.ensures c.in_err-next-2.was))

pub read_term-loop-table-preserved : goal.read_term-loop-table-preserved
unfolding is_times
read_term-loop-table-preserved t c =
    let joint : is_times (byte_at c.args.text.now c.loop-table.next) ≡ true = rw (← c.peek.ensures) (eq-eqb _ times_sign c.loop-table-test.true) in
    rw c.put.ensures.one_more (term-again _ _ _ c.loop-table.invariant joint (told c.read_factor-in-loop-table.ensures c.in_ok-next-2.was)
    (rw (c.last-left.ensures, c.last-right.ensures) at c.put.ensures.rows_are))

pub read_term-returns : goal.read_term-returns
unfolding is_times
read_term-returns t c =
    let l = c.loop-table.invariant in
    answered (chain-stops _ _ l.chain (rw (← c.peek.ensures) (ne_eqb _ times_sign c.loop-table-test.false))) l.part

-- ---- A sum: terms with + or - between them.

pub read_sum-returns-in_err-next : goal.read_sum-returns-in_err-next
read_sum-returns-in_err-next t c =
    let read = rw c.after_minus.ensures at c.read_term.ensures in
    failed c.from_residual.ensures.1 (sum_is _ _ _ ∙ then-fails _ (faults read c.in_err-next.was))

pub read_sum-put_sign-requires-clause-some : goal.read_sum-put_sign-requires-clause-some
read_sum-put_sign-requires-clause-some t c = (told c.read_term.ensures c.in_ok-next.was).some

pub read_sum-loop-at-init : goal.read_sum-loop-at-init
read_sum-loop-at-init t c =
    let read = rw c.after_minus.ensures at c.read_term.ensures in
    sum-start _ _ _ (told read c.in_ok-next.was) c.peek.ensures c.put_sign.ensures.nodes_are c.put_sign.ensures.rows_are

pub read_sum-returns-then-not-is_sign : goal.read_sum-returns-then-not-is_sign
read_sum-returns-then-not-is_sign t c =
    let l = c.loop-at.invariant in
    let none = rw c.peek-sign.ensures at (sym c.is_sign.ensures ∙ c.if-not-is_sign.true) in
    answered (chain-stops _ _ l.chain none) l.part

pub read_sum-read_term-requires-in-loop-at : goal.read_sum-read_term-requires-in-loop-at
read_sum-read_term-requires-in-loop-at t c =
    let l = c.loop-at.invariant in
    let joint = rw c.peek-sign.ensures at (sym c.is_sign.ensures ∙ c.if-not-is_sign.false) in
    let h = Operands.inside _ _ l.chain joint in
    search rules

pub read_sum-returns-in_err-next-2 : goal.read_sum-returns-in_err-next-2
read_sum-returns-in_err-next-2 t c =
    let joint = rw c.peek-sign.ensures at (sym c.is_sign.ensures ∙ c.if-not-is_sign.false) in
    failed c.from_residual-in_err-next-2.ensures.1
    (goes_on _ _ c.loop-at.invariant.chain joint ∙ then-fails _ (faults c.read_term-in-loop-at.ensures c.in_err-next-2.was))

pub read_sum-loop-at-preserved : goal.read_sum-loop-at-preserved
read_sum-loop-at-preserved t c =
    let joint = rw c.peek-sign.ensures at (sym c.is_sign.ensures ∙ c.if-not-is_sign.false) in
    let signs = c.put_sign-in-loop-at.ensures in
    rw c.put.ensures.one_more (sum-again _ _ _ c.loop-at.invariant joint (told c.read_term-in-loop-at.ensures c.in_ok-next-2.was) c.peek-sign.ensures
    signs.nodes_are signs.rows_are (rw (c.last-left.ensures, c.last-right.ensures) at c.put.ensures.rows_are))
