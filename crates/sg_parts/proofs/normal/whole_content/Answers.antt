use Rattle.std.proofs.Common.{◌∙◌, ap, ◌^◌, ◌<◌, pos}
use Rattle.std.specs.Int.{w128}
use Rattle.std.proofs.lemmas.Int.{to_z_pos}
use Rattle.sg_parts.proofs.NormalForms.{content_small, content_fits}
use Rattle.sg_parts.proofs.normal.whole_content.Goals as goal

pub overflow_cast-result : goal.overflow_cast-result
overflow_cast-result c = rw c.content.ensures (content_fits c.args.plane.now c.requires)

pub returns : goal.returns
returns c =
    let small : c.content.result < 2 ^ 127 = rw c.content.ensures (content_small c.args.plane.now c.requires) in
    to_z_pos w128 c.content.result small ∙ ap pos c.content.ensures
