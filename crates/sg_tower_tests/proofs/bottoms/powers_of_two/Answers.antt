use Rattle.std.proofs.Common.{◌≡◌, ℕ, suc, refl, sym, ap, ◌∙◌, inl, inr, List, [], ◌∷◌, ◌++◌, map, length, arith}
use Rattle.sg_algebra.proofs.Ring.{nat}
use Rattle.sg_algebra.proofs.Value.{Value, zero_value}
use Rattle.sg_algebra.proofs.ValueField.{ValueR}
use Rattle.sg_algebra.proofs.Embedding.{constant_value, constant_value_zero, numeral_ne}
use Rattle.sg_tower_theory.proofs.Formal.{IndependentFactors}
use Rattle.sg_ratfun.specs.Fractions.{ratio}
use Rattle.sg_bottom.specs.Factors.{HasZero, AreNonzero}
use Rattle.sg_num.specs.Value.{number}
use Rattle.sg_bottom.proofs.ConstantFactor.{two_free}
use Rattle.sg_tower_tests.proofs.bottoms.powers_of_two.Goals as goal

module _ {K : Type 0} {d : ℕ} (v : K → Value d) (old αs : List (List K × List K)) (α : List K × List K) (c : Value d) (none : old ≡ []) (one : αs ≡ old ++ α ∷ []) (two : c ≡ nat (ValueR d) 2) (q : ratio v α ≡ constant_value d c) where
  list_is : αs ≡ α ∷ []
  list_is = one ∙ ap (λ (xs : List (List K × List K)). xs ++ α ∷ []) none

  factor_is : ratio v α ≡ constant_value d (nat (ValueR d) 2)
  factor_is = q ∙ ap (constant_value d) two

  two_nonzero : AreNonzero v αs
  two_nonzero = rw list_is some
    where
      some : HasZero v (α ∷ []) → ⊥
      some (inl z) = numeral_ne d 2 (omega arith) (constant_value_zero d (nat (ValueR d) 2) (sym factor_is ∙ z))
      some (inr n) = n

  two_alone : IndependentFactors (map (ratio v) αs)
  two_alone = rw (list_is, factor_is) (two_free d)

pub new-requires-clause-nonzero : goal.new-requires-clause-nonzero
new-requires-clause-nonzero c = two_nonzero number c.new-alphas.result _ c.in_ok-two.two (number c.whole.result) c.new-alphas.ensures c.in_ok-push.ensures.ok c.whole.ensures.as_number c.in_ok-two.ensures.value

pub new-requires-clause-free : goal.new-requires-clause-free
new-requires-clause-free c = two_alone number c.new-alphas.result _ c.in_ok-two.two (number c.whole.result) c.new-alphas.ensures c.in_ok-push.ensures.ok c.whole.ensures.as_number c.in_ok-two.ensures.value
