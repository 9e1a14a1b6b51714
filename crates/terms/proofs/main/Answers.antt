-- `main` is safe: there is room for the lines, and what is printed stands within them.
use mathlib.Core.Path.{sym}
use borrow.Author.Rules.{rules}
use lib.Seq.{length-take-le}
use Rattle.listing.proofs.Answered.{list-done, list-within}
use Rattle.terms.proofs.main.Goals as goal

pub unwrap-end-requires : goal.unwrap-end-requires
unwrap-end-requires c = list-done _ _ (search rules) _ c.list.ensures

pub slice_bounds-lines-end : goal.slice_bounds-lines-end
slice_bounds-lines-end c = list-within _ _ _ c.list.ensures c.unwrap-end.ensures

pub slice_bounds-write_all-end : goal.slice_bounds-write_all-end
slice_bounds-write_all-end c = sym (length-take-le _ _ (list-within _ _ _ c.list.ensures c.unwrap-end.ensures))
