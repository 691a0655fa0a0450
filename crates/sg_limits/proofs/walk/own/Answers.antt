use Rattle.sg_limits.proofs.Walking.{no_items}
use Rattle.sg_limits.proofs.walk.own.Goals as goal

pub returns-in-Anywhere : goal.returns-in-Anywhere
returns-in-Anywhere c = rw c.in-Anywhere.is (no_items c.args.found)

pub returns-in-Divides : goal.returns-in-Divides
returns-in-Divides c = rw c.in-Divides.is c.divisor.ensures

pub returns-in-Body : goal.returns-in-Body
returns-in-Body c = rw c.in-Body.is c.body.ensures
