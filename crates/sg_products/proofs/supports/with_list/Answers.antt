use Rattle.sg_products.proofs.Growing.{has_pushed}
use Rattle.sg_products.proofs.supports.with_list.Goals as goal

pub returns-clause-has : goal.returns-clause-has
returns-clause-has c = has_pushed c.args.es c.args.e.now c.push.new.self c.in_ok-list.list c.in_ok-push.ensures.ok c.in_ok-list.ensures
