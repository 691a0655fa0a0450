-- One place further.
--   polynomial-moves     a polynomial in one more sum that has a value one place further has it, shifted, here
--   moves                the same for the elements of a tower, where its products and sums follow their equations
use Rattle.std.proofs.Common.{◌≡◌, ℕ, zero, suc, ℤ, pos, ◌+ℤ◌, refl, sym, ap, ◌∙◌, subst, List, [], ◌∷◌, length}
use Rattle.sg_algebra.specs.Ring.{Ring, Hom}
use Rattle.sg_algebra.specs.Coefficients.{Each, eval}
use Rattle.sg_algebra.proofs.Solver.{ring, by, reads}
use Rattle.sg_algebra.proofs.PolynomialRing.{PolyR}
use Rattle.sg_algebra.proofs.Shift.{twist, twistH}
use Rattle.sg_algebra.proofs.Value.{Value, ◌+ᵛ◌, ◌-ᵛ◌, ◌*ᵛ◌, ◌/ᵛ◌, inv_value, zero_value, one_value}
use Rattle.sg_algebra.proofs.ValueField.{ValueR, ValueF}
use Rattle.sg_algebra.proofs.Place.{Pairwise}
use Rattle.sg_tower_theory.proofs.ShiftValue.{shift_valueH}
use Rattle.sg_tower_theory.proofs.Products.{Some, LaurentsD, LaurentsR, lift, unit_lift, shift}
use Rattle.sg_tower_theory.proofs.Nested.{NestedR, Shape, tower}
use Rattle.sg_tower_theory.proofs.Formal.{Formal, Element, shifted, base, base_shift, factors, factors_some}
use Rattle.sg_value_theory.proofs.Evaluation.{Evaluation, evaluation_of}
use Rattle.sg_value_theory.proofs.Elements.{Point, IsQuotientAt, IsPolynomialAt, HasLaurent, HasIn, FollowsProducts, FollowsIn, Follows, HasElement}
use Rattle.sg_value_theory.proofs.Quotients.{quotients, quotient-over}
use Rattle.sg_value_theory.proofs.Polynomials.{raised-constant, at_same, at_add, at_mul, at_zero}
use Rattle.sg_value_theory.proofs.NextPlace.{quotient-moves}
use Rattle.sg_value_theory.proofs.LaurentMoving.{laurent-moves}
use Rattle.sg_value_theory.proofs.Evaluations.{laurent_laws, laurent-lifted, evaluation_in}

module _ (E : Ring) (σ : Hom E E) (β : E.A) {d : ℕ} (V V' : Evaluation E d) (moves : (x : E.A) (v : Value d) → V'.Has x v → V.Has (σ.on x) v)
    (t t' b : Value d) (grows : V.Has β b) (next : t' ≡ t +ᵛ b) where
  open E use {A, O, I}

  point-has : IsPolynomialAt E V.Has t (β ∷ I ∷ []) t'
  point-has = record {
    coefficients = β ∷ I ∷ [];
    values = b ∷ one_value ∷ [];
    same = (PolyR E).rfl;
    each = (grows, (V.one_has, tt));
    value = by (ValueR d) (t' ∷ t ∷ b ∷ []) next (search reads depth 16) refl;
  }

  list-moves : (cs : List A) (vs : List (Value d)) → Pairwise V'.Has cs vs → IsPolynomialAt E V.Has t (twist E σ β cs) (eval (ValueR d) vs t')
  list-moves [] [] h = at_zero E V t
  list-moves [] (v ∷ vs) h = absurd h
  list-moves (c ∷ cs) [] h = absurd h
  list-moves (c ∷ cs) (v ∷ vs) h =
      at_add E V t (σ.on c ∷ []) ((PolyR E).◌⊠◌ (β ∷ I ∷ []) (twist E σ β cs)) v (t' *ᵛ eval (ValueR d) vs t')
      (raised-constant E V t (σ.on c) v (moves c v h.0))
      (at_mul E V t (β ∷ I ∷ []) (twist E σ β cs) t' (eval (ValueR d) vs t') point-has (list-moves cs vs h.1))

  pub polynomial-moves : (p : List A) (v : Value d) → IsPolynomialAt E V'.Has t' p v → IsPolynomialAt E V.Has t (twist E σ β p) v
  polynomial-moves p v h =
      subst (IsPolynomialAt E V.Has t (twist E σ β p)) (sym h.value)
      (at_same E V t (twist E σ β h.coefficients) (twist E σ β p) (eval (ValueR d) h.values t') ((twistH E σ β).on_cong h.coefficients p ((PolyR E).symm h.same)) (list-moves h.coefficients h.values h.each))

module _ {d : ℕ} where
  -- a factor whose product isn't 0 isn't 0
  factor_ne : (a t t' : Value d) → t' ≡ a *ᵛ t → ¬ (t' ≡ zero_value) → ¬ (a ≡ zero_value)
  factor_ne a t t' e n z = n (e ∙ ap (λ b. b *ᵛ t) z ∙ ring (ValueR d) (t ∷ []) (search reads depth 12) refl)

  pub inverse-has : (k : ℤ) (α : Value (suc d)) (a : Value d) → IsQuotientAt k α a → ¬ (a ≡ zero_value) → IsQuotientAt k (inv_value α) (inv_value a)
  inverse-has k α a h n =
      subst (λ (x : Value (suc d)). IsQuotientAt k x (inv_value a)) (one_over (suc d) α)
      (subst (IsQuotientAt k (one_value /ᵛ α)) (one_over d a) (quotient-over k one_value α one_value a (quotients d k).one_has h n))
    where
      one_over : (d : ℕ) (x : Value d) → one_value /ᵛ x ≡ inv_value x
      one_over d x = ring (ValueR d) (inv_value x ∷ []) (search reads depth 12) refl

  laurents_move : (αs : List (Value (suc d))) (s : Each (Some (ValueF (suc d))) αs) (k : ℤ) (ts us : ℕ → Value d) → ((i : ℕ) → ¬ (ts i ≡ zero_value)) → ((i : ℕ) → ¬ (us i ≡ zero_value)) → FollowsProducts αs k ts us
      → (x : (LaurentsR (ValueF (suc d)) (length αs)).A) (v : Value d) → HasLaurent (length αs) (k +ℤ pos 1) us x v → HasLaurent (length αs) k ts ((shift (ValueF (suc d)) (shift_valueH d) αs s).on x) v
  laurents_move [] s k ts us m n f x v h = quotient-moves k x v h
  laurents_move (α ∷ αs) s k ts us m n f x v h =
      laurent-moves (LaurentsD (ValueF (suc d)) r) (shift (ValueF (suc d)) (shift_valueH d) αs s.1) ((lift (ValueF (suc d)) r).on α) ((lift (ValueF (suc d)) r).on (inv_value α)) (unit_lift (ValueF (suc d)) r α s.0)
      (evaluation_of (laurent_laws r k (λ i. ts (suc i)) (λ i. m (suc i)))) (evaluation_of (laurent_laws r (k +ℤ pos 1) (λ i. us (suc i)) (λ i. n (suc i))))
      (laurents_move αs s.1 k (λ i. ts (suc i)) (λ i. us (suc i)) (λ i. m (suc i)) (λ i. n (suc i)) f.1)
      (ts 0) (us 0) f.0.0 (inv_value f.0.0)
      (laurent-lifted r k (λ i. ts (suc i)) (λ i. m (suc i)) α f.0.0 f.0.1)
      (laurent-lifted r k (λ i. ts (suc i)) (λ i. m (suc i)) (inv_value α) (inv_value f.0.0) (inverse-has k α f.0.0 f.0.1 (factor_ne f.0.0 (ts 0) (us 0) f.0.2 (n 0))))
      f.0.2 (m 0) (n 0) x v h
    where
      r : ℕ
      r = length αs

  grown : (t t' : Value d) → t' ≡ t +ᵛ (t' -ᵛ t)
  grown t t' = ring (ValueR d) (t ∷ t' ∷ []) (search reads depth 16) refl

  moves_in : (αs : List (Value (suc d))) (n : ℕ) (s : Shape (base αs) n) (p q : Point d) → FollowsIn αs n s p q → (x : (NestedR (base αs) n).A) (v : Value d) → HasIn αs n q x v → HasIn αs n p ((tower (base αs) (base_shift αs) n s).σ.on x) v
  moves_in αs zero s p q h x v i =
      laurents_move (factors αs) (factors_some αs) p.variable p.products q.products p.nonzero q.nonzero h.1 x v (subst (λ (k : ℤ). HasLaurent (length (factors αs)) k q.products x v) h.0 i)
  moves_in αs (suc n) s p q h x v i =
      polynomial-moves (NestedR (base αs) n) (tower (base αs) (base_shift αs) n s.0).σ s.1 (evaluation_in αs n p) (evaluation_in αs n q) (moves_in αs n s.0 p q h.0)
      (p.sums n) (q.sums n) (q.sums n -ᵛ p.sums n) h.1 (grown (p.sums n) (q.sums n)) x v i

  pub moves : (f : Formal d) (p q : Point d) → Follows f p q → (x : Element f) (v : Value d) → HasElement f q x v → HasElement f p ((shifted f).σ.on x) v
  moves f p q h x v i = moves_in f.products f.sums f.shape p q h x v i
