use Rattle.std.proofs.Common.{◌*◌, ◌-◌, ◌<◌, ℕ, [], map, length, get_or, ◌∙◌, arith}
use Rattle.sg_algebra.proofs.Rows.{Builds}
use Rattle.sg_algebra.proofs.Polynomial.{coefficient}
use Rattle.sg_num.specs.Value.{number}
use Rattle.sg_dispersion_theory.proofs.ValueRows.{table_of_arrays}
use Rattle.sg_spread.proofs.certificate.dependences.Goals as goal

pub returns-clause-basis : goal.returns-clause-basis
returns-clause-basis c = record {
  rows = c.in_ok-all.all;
  is = table_of_arrays number (length c.args.a.now - 1) (length c.args.b.now - 1) (map number c.args.a.now) (map number c.args.b.now) (length c.args.rows.now) c.args.rows.now c.in_ok-all.all
      c.requires.powers (c.in_ok-all.ensures.size ∙ c.requires.size) built;
  sized = λ i h. c.in_ok-basis.ensures.sized i h ∙ c.len.ensures;
  sound = λ j h i. c.in_ok-basis.ensures.sound j h i;
  form = c.in_ok-basis.ensures.form;
  complete = λ f past null. c.in_ok-basis.ensures.complete f (λ k h. past k (rw c.len.ensures at h)) null;
}
  where
    built : (p : ℕ) → p < (length c.args.a.now - 1) * (length c.args.b.now - 1) → Builds number (λ t. coefficient (map number (get_or c.args.rows.now t [])) p) (length c.args.rows.now) (get_or c.in_ok-all.all p [])
    built p h = let e = c.as_slice.ensures in rw e at (c.in_ok-all.ensures.rows p (omega (arith, c.requires.size)))
