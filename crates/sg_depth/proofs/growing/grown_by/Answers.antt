use Rattle.std.proofs.Common.{ap, ap₂, ◌+◌, ◌∙◌, ◌∷◌, [], ◌++◌}
use Rattle.sg_depth.proofs.Grown.{own-is, last-inside, raised-same}
use Rattle.sg_depth.proofs.growing.grown_by.Goals as goal

pub generator-requires : goal.generator-requires
generator-requires g c = last-inside (g.T.Tower.reading g.F.Field.vars g.F.Field.val c.args.tower) c.args.beta _ (c.products.result + c.sums.result) (raised-same (g.T.Tower.reading g.F.Field.vars g.F.Field.val) c.args.tower c.new-tower.result.below c.args.beta c.new-tower.result.beta c.new-tower.ensures.below c.new-tower.ensures.beta) (ap₂ ◌+◌ c.products.ensures.count c.sums.ensures.count)

pub returns-clause-grown : goal.returns-clause-grown
returns-clause-grown g c = record {
  reading_is = (raised-same (g.T.Tower.reading g.F.Field.vars g.F.Field.val) c.args.tower c.new-tower.result.below c.args.beta c.new-tower.result.beta c.new-tower.ensures.below c.new-tower.ensures.beta);
  places_are = c.in_ok-push.ensures.ok ∙ ap (λ n. c.args.free_gens ++ n ∷ []) c.len.ensures;
  own = c.in_ok-own.own;
  known_are = c.in_ok-push-2.ensures.ok ∙ ap (λ xs. xs ++ c.in_ok-own.own ∷ []) c.in_ok-raised.ensures.value;
  own_is = own-is (g.T.Tower.reading g.F.Field.vars g.F.Field.val c.args.tower) c.args.beta _ (c.products.result + c.sums.result) c.in_ok-own.own (raised-same (g.T.Tower.reading g.F.Field.vars g.F.Field.val) c.args.tower c.new-tower.result.below c.args.beta c.new-tower.result.beta c.new-tower.ensures.below c.new-tower.ensures.beta) (ap₂ ◌+◌ c.products.ensures.count c.sums.ensures.count) c.in_ok-own.ensures.value;
}
