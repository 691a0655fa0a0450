use Rattle.std.proofs.Common.{◌≡◌, sym, subst, ℤ, pos, ◌+ℤ◌, ◌*ℤ◌, rules, arith, FitsSigned}
use Rattle.std.specs.Int.{w128, saturate_to_bits}
use Rattle.std.proofs.lemmas.Int.{ints, to_z-of_z}
use Rattle.sg_roots.specs.Signs.{reach, StandsFor}
use Rattle.sg_roots.proofs.Lowered.{stands_on, clamped}
use Rattle.sg_roots.proofs.signs.lowered.Goals as goal

pub returns : goal.returns
returns c v s =
    let fh : FitsSigned w128 c.args.h = search rules in
    let fx : FitsSigned w128 c.args.x = search rules in
    let fc : FitsSigned w128 c.args.c = search rules in
    let fp : FitsSigned w128 c.saturating_mul.result = search rules in
    let fs : FitsSigned w128 c.saturating_add.result = search rules in
    let e : c.saturating_mul.result ≡ saturate_to_bits 127 (c.args.h *ℤ c.args.x) = simp to_z-of_z at c.saturating_mul.ensures in
    let g : c.saturating_add.result ≡ saturate_to_bits 127 (c.saturating_mul.result +ℤ c.args.c) = simp to_z-of_z at c.saturating_add.ensures in
    subst (λ (y : ℤ). StandsFor y (c.args.c +ℤ c.args.x *ℤ v)) (sym (to_z-of_z w128 c.saturating_add.result fs))
    (stands_on (pos reach) c.args.c (omega (arith, ints)) (omega (arith, ints)) (omega (arith, ints)) c.args.h v c.args.x c.saturating_mul.result c.saturating_add.result c.requires.far
    (clamped (c.args.h *ℤ c.args.x) c.saturating_mul.result e) (clamped (c.saturating_mul.result +ℤ c.args.c) c.saturating_add.result g) s)
