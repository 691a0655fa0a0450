use Rattle.std.proofs.Common.{◌<◌, sym, ◌∙◌, map, true≢false, below_more, arith}
use Rattle.std.proofs.lemmas.List.{length-map}
use Rattle.sg_expr.specs.Tree.{tree_of}
use Rattle.sg_build.proofs.PlacedParts.{item-found, item-tree, contains-place}
use Rattle.sg_build.proofs.placing.item_of.Goals as goal

pub loop-i-preserved : goal.loop-i-preserved
loop-i-preserved g c =
    below_more _ _ c.loop-i.invariant
    (λ h. true≢false (sym (c.same.ensures.equal.1 (item-tree c.args.gens.now c.loop-i.i c.index-gens-i.result (tree_of c.args.e.now) c.loop-i-test.true c.index-gens-i.is h)) ∙ c.if-same.false))

pub unreachable-requires : goal.unreachable-requires
unreachable-requires g c =
    let r = contains-place (map tree_of c.args.gens.now) (tree_of c.args.e.now) c.requires.listed in
    let l = r.1 in
    let m = length-map c.args.gens.now tree_of in
    let n : r.0 < c.loop-i.i = omega (arith, l, m) in
    c.loop-i.invariant r.0 n r.2

pub returns-then-same : goal.returns-then-same
returns-then-same g c =
    item-found c.args.gens.now c.args.items.now c.loop-i.i c.index-gens-i.result (tree_of c.args.e.now) c.index-items-i.result c.loop-i-test.true c.index-gens-i.is
    (c.same.ensures.equal.0 c.if-same.true) c.index-items-i.is
