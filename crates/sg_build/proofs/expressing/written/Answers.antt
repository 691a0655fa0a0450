use Rattle.std.proofs.Common.{map, length}
use Rattle.sg_canonical.specs.Parts.{part_at}
use Rattle.sg_tower.specs.Terms.{term_of}
use Rattle.sg_build.proofs.FlatParts.{wide-enough, all-written, part-sized}
use Rattle.sg_build.proofs.expressing.written.Goals as goal

pub push_parts-requires : goal.push_parts-requires
push_parts-requires g c k t l =
    wide-enough (g.K.Letters.form g.K.Field.vars) g.K.Field.val (length (g.T.Tower.reading g.K.Field.vars g.K.Field.val c.args.tower.now).formal.products) (length c.args.prods.now)
    (g.T.Tower.reading g.K.Field.vars g.K.Field.val c.args.tower.now).formal.sums c.as_slice.result.now c.in_ok-terms.terms c.requires.one_each c.as_slice.ensures c.in_ok-terms.ensures.value.sized k t l

pub element_tree-requires-clause-sized : goal.element_tree-requires-clause-sized
element_tree-requires-clause-sized g c k q l =
    let W = g.K.Letters.form g.K.Field.vars in
    let f = (g.T.Tower.reading g.K.Field.vars g.K.Field.val c.args.tower.now).formal in
    part-sized W g.K.Field.val (length f.products) (length c.args.sums.now) f.sums c.in_ok-terms.terms c.as_slice-2.result.now c.requires.one_sum_each c.in_ok-terms.ensures.value.sized
    (all-written W g.K.Field.val (length f.products) (length c.args.prods.now) c.as_slice.result.now c.in_ok-terms.terms c.new-parts.result c.push_parts.new.out c.as_slice-2.result.now c.requires.one_each c.as_slice.ensures c.new-parts.ensures c.as_slice-2.ensures c.in_ok-push_parts.ensures.parts)
    k q l

pub returns-clause-tree : goal.returns-clause-tree
returns-clause-tree g c =
    let W = g.K.Letters.form g.K.Field.vars in
    let f = (g.T.Tower.reading g.K.Field.vars g.K.Field.val c.args.tower.now).formal in
    record {
      terms = map (term_of g.K.Field.val) c.in_ok-terms.terms;
      written = map (part_at 0) c.as_slice-2.result.now;
      flat = c.in_ok-terms.ensures.value;
      each = all-written W g.K.Field.val (length f.products) (length c.args.prods.now) c.as_slice.result.now c.in_ok-terms.terms c.new-parts.result c.push_parts.new.out c.as_slice-2.result.now c.requires.one_each c.as_slice.ensures c.new-parts.ensures c.as_slice-2.ensures c.in_ok-push_parts.ensures.parts;
      form = c.in_ok-t.ensures.tree;
    }
