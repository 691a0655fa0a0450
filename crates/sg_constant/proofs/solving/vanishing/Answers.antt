use Rattle.sg_constant.proofs.Conditioned.{size_at}
use Rattle.sg_constant.proofs.Solved.{null_of, vanish_of}
use Rattle.sg_constant.proofs.solving.vanishing.Goals as goal

pub rows-requires : goal.rows-requires
rows-requires g c = c.requires.fits

pub null_basis-requires : goal.null_basis-requires
null_basis-requires g c = size_at g.F.Field.val c.args.n c.in_ok-conditions.conditions (c.in_ok-conditions.ensures.value.sized c.args.n c.requires.sized)

pub returns-clause-null : goal.returns-clause-null
returns-clause-null g c = null_of g.F.Field.val c.args.n c.args.list.now c.in_ok-conditions.conditions c.in_ok-basis.basis c.in_ok-conditions.ensures.value c.in_ok-basis.ensures.sized c.in_ok-basis.ensures.form c.in_ok-basis.ensures.complete

pub returns-clause-vanish : goal.returns-clause-vanish
returns-clause-vanish g c = vanish_of g.F.Field.val c.args.list.now c.in_ok-conditions.conditions c.in_ok-basis.basis c.in_ok-conditions.ensures.value c.in_ok-basis.ensures.sound
