use Rattle.std.proofs.Common.{◌≡◌, ◌∙◌, sym, subst, map, get_or, List, ℤ}
use Rattle.sg_algebra.proofs.Lists.{each_map}
use Rattle.sg_algebra.proofs.Value.{zero_value}
use Rattle.sg_algebra.proofs.ValueField.{ValueF}
use Rattle.sg_ratfun.specs.Fractions.{ratio}
use Rattle.sg_laurent.proofs.Gathering.{each_at}
use Rattle.sg_products.proofs.Raising.{powers_ne}
use Rattle.sg_products.proofs.Slicing.{state_lowered}
use Rattle.sg_products.proofs.solve.lowered.Goals as goal

pub solve_first-requires : goal.solve_first-requires
solve_first-requires g c z = powers_ne (ValueF _) (map (ratio g.F.Field.val) c.args.alphas.now) c.as_slice-e.result.now (each_map (λ x. ¬ (x ≡ zero_value)) (ratio g.F.Field.val) c.args.alphas.now c.requires.some) (sym c.in_ok-a.ensures.value ∙ z)

pub returns-clause-value : goal.returns-clause-value
returns-clause-value g c =
    let at = subst (λ (z : List ℤ). z ≡ get_or c.args.es.now c.args.i z) (sym c.as_slice-e.ensures) c.get-list.ensures in
    state_lowered g.F.Field.val c.args.alphas.now c.requires.some c.requires.free c.args.fs.now c.args.es.now c.args.i c.as_slice-e.result.now c.args.rows.now c.in_ok-ls.ls (ratio g.F.Field.val c.in_ok-a.a) c.in_ok-inner.inner c.in_ok-new.new
    c.requires.inside at (each_at _ c.args.es.now c.args.i c.as_slice-e.result.now c.requires.inside at c.requires.fit) c.requires.before c.in_ok-ls.ensures.value c.in_ok-a.ensures.value c.in_ok-inner.ensures.basis c.in_ok-new.ensures.value
