use Rattle.std.proofs.Common.{sym, ◌∙◌, map}
use Rattle.std.proofs.lemmas.List.{length-map}
use Rattle.sg_num.specs.Value.{number}
use Rattle.sg_nested.proofs.Starting.{one-each, never-none, value-is}
use Rattle.sg_nested.proofs.total.value_at_start.Goals as goal

pub start_of_element-requires : goal.start_of_element-requires
start_of_element-requires g c = record {
  one_each = sym (length-map c.in_ok-gens.gens number) ∙ one-each c.args.built.now.facts.now (g.T.Tower.reading 0 number c.args.built.now.tower) c.args.built.now.free_gens c.args.built.now.known c.requires.stands.sound c.requires.stands.stands (map number c.in_ok-gens.gens) c.in_ok-gens.ensures.values;
}

pub unreachable-requires : goal.unreachable-requires
unreachable-requires g c =
    never-none c.args.built.now.facts.now (g.T.Tower.reading 0 number c.args.built.now.tower) c.args.built.now.free_gens c.args.built.now.known c.requires.stands.sound c.requires.stands.stands (map number c.in_ok-gens.gens) c.in_ok-gens.ensures.values
    c.args.g.now c.requires.regular (rw c.in-None.is at c.in_ok-start_of_element.ensures.none)

pub returns-clause-value : goal.returns-clause-value
returns-clause-value g c =
    value-is c.args.built.now.facts.now (g.T.Tower.reading 0 number c.args.built.now.tower) c.args.built.now.free_gens c.args.built.now.known c.requires.stands.sound c.requires.stands.stands (map number c.in_ok-gens.gens) c.in_ok-gens.ensures.values
    c.args.g.now (number c.in-Some.found) (rw c.in-Some.is at c.in_ok-start_of_element.ensures.some)
