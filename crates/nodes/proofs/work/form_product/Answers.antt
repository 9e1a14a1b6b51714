-- `form_product` meets its contract: the operands may be turned.
use Rattle.nodes.proofs.Working.{renamed}
use Rattle.nodes.proofs.Putting.{ready_turned, formed-turned}
use Rattle.nodes.proofs.work.form_product.Goals as goal

pub term_product-requires-then-counts-b-eq1-clause-ready : goal.term_product-requires-then-counts-b-eq1-clause-ready
term_product-requires-then-counts-b-eq1-clause-ready c = ready_turned c.requires

pub returns-then-counts-b-eq1 : goal.returns-then-counts-b-eq1
returns-then-counts-b-eq1 c = renamed (formed-turned _ _ _) c.term_product-then-counts-b-eq1.ensures
