use Rattle.std.proofs.Common.{IsTrue, rules, FitsSigned}
use Rattle.std.proofs.lemmas.Int.{to_z-of_z}
use Rattle.std.specs.Int.{w128}
use Rattle.sg_plain.proofs.quartic.Quartic.is_difference_of.Goals as goal

pub returns-clause-yes : goal.returns-clause-yes
returns-clause-yes c = λ t.
    let fits-1 : FitsSigned w128 c.args.self.constant = search rules in
    let fits-2 : FitsSigned w128 c.args.self.linear = search rules in
    let fits-3 : FitsSigned w128 c.args.self.square = search rules in
    let fits-4 : FitsSigned w128 c.args.self.cube = search rules in
    let fits-5 : FitsSigned w128 c.args.self.fourth = search rules in
    let fits-6 : FitsSigned w128 c.args.other.constant = search rules in
    let fits-7 : FitsSigned w128 c.args.other.linear = search rules in
    let fits-8 : FitsSigned w128 c.args.other.square = search rules in
    let fits-9 : FitsSigned w128 c.args.other.cube = search rules in
    let fits-10 : FitsSigned w128 c.args.other.fourth = search rules in
    record {
      constant = (simp to_z-of_z at c.is_sum.ensures).0 (search rules);
      linear = (simp to_z-of_z at c.is_sum-2.ensures).0 (search rules);
      square = (simp to_z-of_z at c.is_sum-3.ensures).0 (search rules);
      cube = (simp to_z-of_z at c.is_sum-4.ensures).0 (search rules);
      fourth = search rules;
    }

pub returns-then-not-is_sum-clause-no : goal.returns-then-not-is_sum-clause-no
returns-then-not-is_sum-clause-no c = λ d.
    let fits-1 : FitsSigned w128 c.args.self.constant = search rules in
    let fits-6 : FitsSigned w128 c.args.other.constant = search rules in
    let fits-7 : FitsSigned w128 c.args.other.linear = search rules in
    let fits-8 : FitsSigned w128 c.args.other.square = search rules in
    let fits-9 : FitsSigned w128 c.args.other.cube = search rules in
    let fits-10 : FitsSigned w128 c.args.other.fourth = search rules in
    let is : IsTrue c.is_sum.result = (simp to_z-of_z at c.is_sum.ensures).1 d.constant in
    search rules

pub returns-then-not-is_sum-2-clause-no : goal.returns-then-not-is_sum-2-clause-no
returns-then-not-is_sum-2-clause-no c = λ d.
    let fits-1 : FitsSigned w128 c.args.self.linear = search rules in
    let fits-6 : FitsSigned w128 c.args.other.constant = search rules in
    let fits-7 : FitsSigned w128 c.args.other.linear = search rules in
    let fits-8 : FitsSigned w128 c.args.other.square = search rules in
    let fits-9 : FitsSigned w128 c.args.other.cube = search rules in
    let fits-10 : FitsSigned w128 c.args.other.fourth = search rules in
    let is : IsTrue c.is_sum-2.result = (simp to_z-of_z at c.is_sum-2.ensures).1 d.linear in
    search rules

pub returns-then-not-is_sum-3-clause-no : goal.returns-then-not-is_sum-3-clause-no
returns-then-not-is_sum-3-clause-no c = λ d.
    let fits-1 : FitsSigned w128 c.args.self.square = search rules in
    let fits-6 : FitsSigned w128 c.args.other.constant = search rules in
    let fits-7 : FitsSigned w128 c.args.other.linear = search rules in
    let fits-8 : FitsSigned w128 c.args.other.square = search rules in
    let fits-9 : FitsSigned w128 c.args.other.cube = search rules in
    let fits-10 : FitsSigned w128 c.args.other.fourth = search rules in
    let is : IsTrue c.is_sum-3.result = (simp to_z-of_z at c.is_sum-3.ensures).1 d.square in
    search rules

pub returns-then-not-is_sum-4-clause-no : goal.returns-then-not-is_sum-4-clause-no
returns-then-not-is_sum-4-clause-no c = λ d.
    let fits-1 : FitsSigned w128 c.args.self.cube = search rules in
    let fits-6 : FitsSigned w128 c.args.other.constant = search rules in
    let fits-7 : FitsSigned w128 c.args.other.linear = search rules in
    let fits-8 : FitsSigned w128 c.args.other.square = search rules in
    let fits-9 : FitsSigned w128 c.args.other.cube = search rules in
    let fits-10 : FitsSigned w128 c.args.other.fourth = search rules in
    let is : IsTrue c.is_sum-4.result = (simp to_z-of_z at c.is_sum-4.ensures).1 d.cube in
    search rules
