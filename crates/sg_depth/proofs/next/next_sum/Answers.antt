use Rattle.std.proofs.Common.{sym, ap, ◌∙◌, inl, inr}
use Rattle.sg_spec.specs.Tree.{sum_from}
use Rattle.sg_expr.specs.Tree.{tree_of}
use Rattle.sg_depth.proofs.Calls.{read-is, over-read, is-no-sum}
use Rattle.sg_depth.proofs.next.next_sum.Goals as goal

pub fate_of-requires-clause-next : goal.fate_of-requires-clause-next
fate_of-requires-clause-next g c =
    read-is c.args.built.now.facts.now (g.T.Tower.reading g.F.Field.vars g.F.Field.val c.args.built.now.tower) c.args.built.now.free_gens c.args.built.now.known c.requires.state.0 c.requires.state.1 c.len.result c.get-sum.result.now c.len.ensures c.get-sum.ensures
    ∙ ap tree_of c.in-Sum.is ∙ ap (λ b. sum_from c.in-Sum.from (tree_of b)) (sym c.deref.ensures)

pub fate_of-requires-clause-same : goal.fate_of-requires-clause-same
fate_of-requires-clause-same g c = ap tree_of c.in-Sum.is ∙ ap (λ b. sum_from c.in-Sum.from (tree_of b)) (sym c.deref.ensures)

pub unreachable-requires : goal.unreachable-requires
unreachable-requires g c =
    let is = is-no-sum c.args.built.now.facts.now (g.T.Tower.reading g.F.Field.vars g.F.Field.val c.args.built.now.tower) c.args.built.now.free_gens c.args.built.now.known c.requires.state.0 c.requires.state.1 c.len.result c.get-sum.result.now c.len.ensures c.get-sum.ensures in
    elim c.in-Add.is [ inl a ↦ is _ a.2 | inr b ↦ elim b [ inl a ↦ is _ a.2 | inr e ↦ elim e [ inl a ↦ is _ a.2 | inr a ↦ is _ a.2 ] ] ]

pub unreachable-requires-in-Num : goal.unreachable-requires-in-Num
unreachable-requires-in-Num g c =
    let is = is-no-sum c.args.built.now.facts.now (g.T.Tower.reading g.F.Field.vars g.F.Field.val c.args.built.now.tower) c.args.built.now.free_gens c.args.built.now.known c.requires.state.0 c.requires.state.1 c.len.result c.get-sum.result.now c.len.ensures c.get-sum.ensures in
    elim c.in-Num.is [ inl a ↦ is _ a.1 | inr b ↦ elim b [ inl a ↦ is _ a | inr e ↦ elim e [ inl a ↦ is _ a | inr f ↦ elim f [ inl a ↦ is _ a.1 | inr a ↦ is _ a.2 ] ] ] ]
