use Rattle.std.proofs.Common.{◌≡◌, cond, map, ap, ◌∙◌, rules}
use Rattle.sg_expr.specs.Tree.{tree_of}
use Rattle.sg_spec.specs.Canonical.{total_tree, turned}
use Rattle.sg_canonical.specs.Signs.{signed_of, turned_if}
use Rattle.sg_canonical.proofs.Turned.{grouped-total}
use Rattle.sg_canonical.proofs.element.grouped.Goals as goal

pub returns : goal.returns
returns c =
    let total : total_tree (map (λ s. turned_if c.args.minus (signed_of s)) c.args.ss.now) ≡ total_tree (cond c.args.minus (map turned (map signed_of c.args.ss.now)) (map signed_of c.args.ss.now)) =
    ap total_tree (grouped-total c.args.minus c.args.ss.now) in
    search rules
