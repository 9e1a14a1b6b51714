-- `terms_of` meets its contract: the first places of the node's part are lent.
use Rattle.sums.proofs.Parts.{lent-front}
use Rattle.nodes.proofs.work.terms_of.Goals as goal

pub returns-clause-patterns : goal.returns-clause-patterns
returns-clause-patterns c = lent-front c.args.node c.args.n c.requires.n_le_most_terms c.args.patterns.now

pub returns-clause-coefficients : goal.returns-clause-coefficients
returns-clause-coefficients c = lent-front c.args.node c.args.n c.requires.n_le_most_terms c.args.coefficients.now
