use Rattle.std.proofs.Common.{◌≡◌, pos, negsuc, ◌*ℤ◌, [], ◌∷◌, ◌∙◌, sym, subst, rules, FitsSigned}
use Rattle.std.proofs.lemmas.Int.{to_z-of_z}
use Rattle.std.specs.Int.{w128}
use Rattle.sg_plain.specs.Plain.{dot}
use Rattle.sg_plain.proofs.quartic.Quartic.interpolated.Goals as goal

pub returns : goal.returns
returns c = λ p q r s t i.
    let fits-1 : FitsSigned w128 c.coefficient.result = search rules in
    let fits-2 : FitsSigned w128 c.coefficient-2.result = search rules in
    let fits-3 : FitsSigned w128 c.coefficient-3.result = search rules in
    let fits-4 : FitsSigned w128 c.coefficient-4.result = search rules in
    let fits-5 : FitsSigned w128 c.coefficient-5.result = search rules in
    record {
      constant = subst (λ z. pos 24 *ℤ z ≡ dot (pos 24 ∷ pos 0 ∷ pos 0 ∷ pos 0 ∷ pos 0 ∷ []) c.args.values.now) (sym
          (to_z-of_z w128 c.coefficient.result fits-1 ∙ c.coefficient.ensures.value p i.constant)) i.constant;
      linear = subst (λ z. pos 24 *ℤ z ≡ dot (negsuc 49 ∷ pos 96 ∷ negsuc 71 ∷ pos 32 ∷ negsuc 5 ∷ []) c.args.values.now) (sym
          (to_z-of_z w128 c.coefficient-2.result fits-2 ∙ c.coefficient-2.ensures.value q i.linear)) i.linear;
      square = subst (λ z. pos 24 *ℤ z ≡ dot (pos 35 ∷ negsuc 103 ∷ pos 114 ∷ negsuc 55 ∷ pos 11 ∷ []) c.args.values.now) (sym
          (to_z-of_z w128 c.coefficient-3.result fits-3 ∙ c.coefficient-3.ensures.value r i.square)) i.square;
      cube = subst (λ z. pos 24 *ℤ z ≡ dot (negsuc 9 ∷ pos 36 ∷ negsuc 47 ∷ pos 28 ∷ negsuc 5 ∷ []) c.args.values.now) (sym
          (to_z-of_z w128 c.coefficient-4.result fits-4 ∙ c.coefficient-4.ensures.value s i.cube)) i.cube;
      fourth = subst (λ z. pos 24 *ℤ z ≡ dot (pos 1 ∷ negsuc 3 ∷ pos 6 ∷ negsuc 3 ∷ pos 1 ∷ []) c.args.values.now) (sym
          (to_z-of_z w128 c.coefficient-5.result fits-5 ∙ c.coefficient-5.ensures.value t i.fourth)) i.fourth;
    }
