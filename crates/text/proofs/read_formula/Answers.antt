-- `read_formula` meets its contract: check by check, and the table that was laid out is copied.
use Rattle.std.proofs.Common.{◌≡◌, arith, rules, ◌∙◌, refl}
use Rattle.std.proofs.lemmas.Result.{err_from_is_err_and}
use Rattle.answers.specs.declared.Refusal.TheVariants.{Text}
use Rattle.answers.proofs.Refusing.{was-ok, was-err}
use Rattle.text.proofs.Branches.{no-sum, more_left, all_read}
use Rattle.text.proofs.Told.{told, faults}
use Rattle.text.proofs.Answering.{no_room, too_long, no_formula, too_many, all_done, stands}
use Rattle.text.proofs.read_formula.Goals as goal

pub returns-then-table-lt-TABLE_PLACES : goal.returns-then-table-lt-TABLE_PLACES
returns-then-table-lt-TABLE_PLACES c = rw c.at.ensures (no_room _ _ c.if-table-lt-TABLE_PLACES.true)

pub returns-then-text-gt-LONGEST_TEXT : goal.returns-then-text-gt-LONGEST_TEXT
returns-then-text-gt-LONGEST_TEXT c =
    rw c.at-then-text-gt-LONGEST_TEXT.ensures (too_long _ _ c.if-table-lt-TABLE_PLACES.false c.if-text-gt-LONGEST_TEXT.true)

pub returns-in_err-next : goal.returns-in_err-next
returns-in_err-next c = let p = err_from_is_err_and c.from_residual.result c.from_residual.ensures.1 in
    let was = was-err _ c.read_sum-read.result c.map_err.result c.map_err.ensures.cases c.in_err-next.was in
    let z : c.in_err-next.field-0.0 ≡ record { refusal = Text; place = was.0 } = search (rules, was.2) in
    rw (p.1, p.2, z) (no_formula _ _ c.if-table-lt-TABLE_PLACES.false c.if-text-gt-LONGEST_TEXT.false (no-sum _ (faults c.read_sum-read.ensures was.1)))

pub returns-then-next-text : goal.returns-then-next-text
returns-then-next-text c = let s = told c.read_sum-read.ensures (was-ok _ c.read_sum-read.result c.map_err.result c.map_err.ensures.cases c.in_ok-next.was) in
    rw c.at-then-next-text.ensures
    (no_formula _ _ c.if-table-lt-TABLE_PLACES.false c.if-text-gt-LONGEST_TEXT.false (more_left _ s.is c.if-next-text.true))

pub returns-then-layout-gt-MOST_NODES : goal.returns-then-layout-gt-MOST_NODES
returns-then-layout-gt-MOST_NODES c = let s = told c.read_sum-read.ensures (was-ok _ c.read_sum-read.result c.map_err.result c.map_err.ensures.cases c.in_ok-next.was) in
    rw c.at-then-layout-gt-MOST_NODES.ensures
    (too_many _ _ c.if-table-lt-TABLE_PLACES.false c.if-text-gt-LONGEST_TEXT.false (all_read _ s.is c.if-next-text.false)
    (omega (arith, s.part.count_is, c.new-layout.ensures.none)))

pub returns : goal.returns
returns c = let s = told c.read_sum-read.ensures (was-ok _ c.read_sum-read.result c.map_err.result c.map_err.ensures.cases c.in_ok-next.was) in
    let l = stands _ _ _ c.new-layout.ensures.rows c.new-layout.ensures.none s.part c.if-layout-gt-MOST_NODES.false in
    let is = c.as_flattened-written.ensures.value ∙ l.front in
    all_done _ _ c.if-table-lt-TABLE_PLACES.false c.if-text-gt-LONGEST_TEXT.false (all_read _ s.is c.if-next-text.false) l.many
    c.if-layout-gt-MOST_NODES.false (rw (c.copy_from_slice.ensures.after, is) refl)
