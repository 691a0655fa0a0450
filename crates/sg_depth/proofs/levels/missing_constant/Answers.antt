use Rattle.std.proofs.Common.{sym, ◌∙◌, subst, ◌≡◌, map}
use Rattle.std.proofs.lemmas.List.{length-map}
use Rattle.sg_spec.specs.Tree.{Tree}
use Rattle.sg_spec.specs.Worth.{HasWorth}
use Rattle.sg_algebra.proofs.Value.{Value}
use Rattle.sg_expr.specs.Tree.{tree_of}
use Rattle.sg_build.specs.Letters.{letter, HasNoLetter}
use Rattle.sg_depth.proofs.Calls.{next-inside, next-letter}
use Rattle.sg_depth.proofs.Constants.{has-value, places-inside, one-each, never-none, constant-is}
use Rattle.sg_depth.proofs.levels.missing_constant.Goals as goal

pub start_values-requires-clause-inside : goal.start_values-requires-clause-inside
start_values-requires-clause-inside g c =
    places-inside c.args.built.now.facts.now (g.T.Tower.reading g.F.Field.vars g.F.Field.val c.args.built.now.tower) c.args.built.now.free_gens c.args.built.now.known c.requires.state.0 c.requires.state.1

pub start_value-requires-clause-no_letter : goal.start_value-requires-clause-no_letter
start_value-requires-clause-no_letter g c =
    subst (λ (t : Tree). HasNoLetter g.F.Field.vars t) c.requires.next (next-letter c.args.built.now.facts.now (g.T.Tower.reading g.F.Field.vars g.F.Field.val c.args.built.now.tower) c.args.built.now.free_gens c.args.built.now.known c.requires.state.0 c.requires.state.1)

pub start_value-requires-clause-has : goal.start_value-requires-clause-has
start_value-requires-clause-has g c =
    subst (λ (t : Tree). (v : Value g.F.Field.vars) × HasWorth (letter g.F.Field.vars) t c.args.built.now.facts.now.start v) c.requires.next (has-value c.args.built.now.facts.now c.requires.state.1.state.sound _ (next-inside c.args.built.now.facts.now (g.T.Tower.reading g.F.Field.vars g.F.Field.val c.args.built.now.tower) c.args.built.now.free_gens c.args.built.now.known c.requires.state.0 c.requires.state.1))

pub start_of_element-requires : goal.start_of_element-requires
start_of_element-requires g c =
    record {
      one_each = sym (length-map c.in_ok-gens.gens g.F.Field.val) ∙ one-each c.args.built.now.facts.now (g.T.Tower.reading g.F.Field.vars g.F.Field.val c.args.built.now.tower) c.args.built.now.free_gens c.args.built.now.known c.requires.state.0 c.requires.state.1 (map g.F.Field.val c.in_ok-gens.gens) c.in_ok-gens.ensures.values;
    }

pub unreachable-requires : goal.unreachable-requires
unreachable-requires g c =
    never-none c.args.built.now.facts.now (g.T.Tower.reading g.F.Field.vars g.F.Field.val c.args.built.now.tower) c.args.built.now.free_gens c.args.built.now.known c.requires.state.0 c.requires.state.1 (map g.F.Field.val c.in_ok-gens.gens) c.in_ok-gens.ensures.values
    c.args.y.now c.requires.regular (rw c.in-None.is at c.in_ok-start_of_element.ensures.none)

pub returns-clause-constant : goal.returns-clause-constant
returns-clause-constant g c =
    constant-is c.args.built.now.facts.now (g.T.Tower.reading g.F.Field.vars g.F.Field.val c.args.built.now.tower) c.args.built.now.free_gens c.args.built.now.known c.requires.state.0 c.requires.state.1 (map g.F.Field.val c.in_ok-gens.gens) c.in_ok-gens.ensures.values
    c.args.y.now (tree_of c.args.sum.now) (g.F.Field.val c.in_ok-target.target) (g.F.Field.val c.in-Some.found) _ c.in_ok-target.ensures.value (rw c.in-Some.is at c.in_ok-start_of_element.ensures.some) c.in_ok-c-in-Some.ensures.value
