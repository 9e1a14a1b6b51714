-- `put_terms` meets its contract: what is written are the first places of the part of node i.
use lib.Seq.{length-take-le}
use Rattle.nodes.proofs.Putting.{put-at}
use Rattle.nodes.proofs.work.put_terms.Goals as goal

pub returns-clause-words_put : goal.returns-clause-words_put
returns-clause-words_put c = put-at c.args.i c.args.count _ c.args.patterns.now c.requires.words_room c.requires.count_le_most_terms (length-take-le c.args.count c.args.sp.now c.requires.count_in_sp) c.copy_from_slice.ensures.after

pub returns-clause-coefficients_put : goal.returns-clause-coefficients_put
returns-clause-coefficients_put c = put-at c.args.i c.args.count _ c.args.coefficients.now c.requires.coefficients_room c.requires.count_le_most_terms (length-take-le c.args.count c.args.sc.now c.requires.count_in_sc) c.copy_from_slice-2.ensures.after
