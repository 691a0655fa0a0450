-- From a relation of the factor of a product to a rational function that the product agrees with.
--   Constants b       each constant is a rational expression
--   polynomial_tree   a polynomial as an expression; `polynomial-worth`
--   meet_of_relation  the product agrees with a constant times the ratio
--   fractions         fractions are rational expressions; `functions`: functions of the parameter are, where it may stand
use Rattle.std.proofs.Common.{◌≡◌, ℕ, zero, suc, ◌+◌, ◌≤◌, ℤ, pos, ◌+ℤ◌, ◌-ℤ◌, ◌≤ℤ◌, unsigned_abs, refl, sym, ap, ◌∙◌, subst, List, [], ◌∷◌, Bool, true, false, arith}
use Rattle.std.proofs.lemmas.Int.{ints}
use Rattle.sg_algebra.specs.Coefficients.{eval}
use Rattle.sg_algebra.proofs.Solver.{by, ring, scale, reads}
use Rattle.sg_algebra.proofs.PolynomialRing.{PolyR, X, cons-is}
use Rattle.sg_algebra.proofs.Value.{Value, ◌+ᵛ◌, ◌*ᵛ◌, ◌/ᵛ◌, neg_value, inv_value, zero_value, one_value}
use Rattle.sg_algebra.proofs.ValueField.{ValueR, ValueF, value_mul-inv, value_quotient, value_product}
use Rattle.sg_algebra.proofs.Embedding.{constant_value, constant_valueH, constant_value-whole, polynomial_value, polynomial_value_cong, polynomial_value-add, polynomial_value-mul, polynomial_value-zero, polynomial_value_same, over_value-quotient, numeral_ne}
use Rattle.sg_algebra.proofs.Rational.{whole_value, fraction_value-rational}
use Rattle.sg_spec.specs.Tree.{Tree, numeral, here, param, add, mul, div}
use Rattle.sg_spec.specs.Worth.{HasWorth}
use Rattle.sg_worth_theory.proofs.Worths.{worth_unique}
use Rattle.sg_worth_theory.proofs.Closes.{no_letter}
use Rattle.sg_tower_theory.proofs.ShiftValue.{shift_valueH}
use Rattle.sg_value_theory.proofs.Elements.{IsQuotientAt}
use Rattle.sg_value_theory.proofs.Quotients.{quotients}
use Rattle.sg_value_theory.proofs.NextPlace.{quotient-moves}
use Rattle.sg_value_theory.proofs.Parts.{Parts, parts_of, numer, denom, denom_positive, value_is_fraction}
use Rattle.sg_value_theory.proofs.Places.{Places}
use Rattle.sg_value_theory.proofs.RationalPlaces.{point, rational_places, root_free}
use Rattle.sg_value_theory.proofs.Bound.{ApartPast}
use Rattle.sg_answers_theory.specs.Matches.{IsRational}
use Rattle.sg_answers_theory.proofs.AtParameters.{letter}
use Rattle.sg_answers_theory.proofs.Answers.{IsProductOf}
use Rattle.sg_answers_theory.proofs.Meeting.{Meet}
use Rattle.sg_answers_theory.proofs.Relating.{Relation}

abbrev pub Constants : {d : ℕ} → Value d → Bool → Type 0
Constants {d} letter b = (c : Value d) → (t : Tree) × IsRational b t × ((k : ℤ) → HasWorth letter t k c)

module _ {d : ℕ} (letter : Value d) (b : Bool) (constant : Constants letter b) where
  pub polynomial_tree : List (Value d) → Tree
  polynomial_tree [] = numeral (pos 0)
  polynomial_tree (a ∷ p) = add (constant a).0 (mul here (polynomial_tree p))

  polynomial-rational : (p : List (Value d)) → IsRational b (polynomial_tree p)
  unfolding polynomial_tree
  polynomial-rational [] = tt
  polynomial-rational (a ∷ p) = ((constant a).1, (tt, polynomial-rational p))

  polynomial-worth : (p : List (Value d)) (k : ℤ) → HasWorth letter (polynomial_tree p) k (eval (ValueR d) p (whole_value d k))
  unfolding polynomial_tree
  polynomial-worth [] k = refl
  polynomial-worth (a ∷ p) k = (a, whole_value d k *ᵛ eval (ValueR d) p (whole_value d k), (constant a).2 k, (whole_value d k, eval (ValueR d) p (whole_value d k), refl, polynomial-worth p k, refl), refl)

  module _ (s : ℤ) (t : Tree) (A : Value (suc d)) (product : IsProductOf letter s t A) (relation : Relation letter A) where
    abbrev ρ : Value (suc d)
    ρ = relation.ratio

    abbrev P : Places (ValueR (suc d)) (ValueR d) (shift_valueH d)
    P = rational_places d s

    parts : Parts d ρ
    parts = parts_of d ρ

    abbrev place : ℕ → ℤ
    place j = s +ℤ pos j

    next : (j : ℕ) → place (suc j) ≡ place j +ℤ pos 1
    next j = omega (arith, ints)

    late : (j : ℕ) → s ≤ℤ place j
    late j = omega (arith, ints)

    rootless : ApartPast (ValueR d) (point d s) parts.q
    rootless = root_free d s parts.q parts.q_ne

    abbrev upper : ℕ → Value d
    upper j = eval (ValueR d) parts.p (whole_value d (place j))

    abbrev lower : ℕ → Value d
    lower j = eval (ValueR d) parts.q (whole_value d (place j))

    abbrev f : ℕ → Value d
    f j = upper j /ᵛ lower j

    abbrev g : ℕ → Value d
    g j = (product.next (place j) (late j)).1

    abbrev N : ℕ
    N = rootless.bound + P.from (inv_value ρ)

    first : (m n j : ℕ) → m + n ≤ j → m ≤ j
    first m n j l = omega (arith, l)

    second : (m n j : ℕ) → m + n ≤ j → n ≤ j
    second m n j l = omega (arith, l)

    -- past the bound the ratio has a value, which isn't 0
    f-has : (j : ℕ) → N ≤ j → IsQuotientAt (place j) ρ (f j)
    f-has j l = record { upper = parts.p; lower = parts.q; quotient = parts.is; defined = rootless.apart j (first rootless.bound (P.from (inv_value ρ)) j l); value = refl }

    f-ne : (j : ℕ) → N ≤ j → ¬ (f j ≡ zero_value)
    f-ne j l z =
        let u = P.has_past (inv_value ρ) j (second rootless.bound (P.from (inv_value ρ)) j l) in
        (ValueF d).one_ne (sym (P.has_unique (ρ *ᵛ inv_value ρ) j (f j *ᵛ u.0) one_value (P.has_mul ρ (inv_value ρ) j (f j) u.0 (f-has j l) u.1) (P.has_same one_value (ρ *ᵛ inv_value ρ) j one_value one_value (sym (value_mul-inv (suc d) ρ relation.some)) refl (P.has_one j)))
        ∙ ap (λ x. x *ᵛ u.0) z ∙ ring (ValueR d) (u.0 ∷ []) (search reads depth 12) refl)

    -- both go on by the value of the factor
    factor_at : ℕ → Value d
    factor_at j = (product.next (place j) (late j)).0

    g-next : (j : ℕ) → g (suc j) ≡ factor_at j *ᵛ g j
    unfolding factor_at
    g-next j =
        let a = product.next (place j) (late j) in
        let c = product.next (place (suc j)) (late (suc j)) in
        worth_unique letter t (place j +ℤ pos 1) (g (suc j)) a.2 (subst (λ (z : ℤ). HasWorth letter t z (g (suc j))) (next j) c.4) a.5 ∙ a.6

    more : (m j : ℕ) → m ≤ j → m ≤ suc j
    more m j l = omega (arith, l)

    f-next : (j : ℕ) → N ≤ j → f (suc j) ≡ factor_at j *ᵛ f j
    unfolding factor_at
    f-next j l =
        let a = product.next (place j) (late j) in
        let q = quotients d (place j) in
        q.unique (A *ᵛ ρ) (f (suc j)) (a.0 *ᵛ f j)
        (subst (λ (x : Value (suc d)). IsQuotientAt (place j) x (f (suc j))) relation.is (quotient-moves (place j) ρ (f (suc j)) (subst (λ (z : ℤ). IsQuotientAt z ρ (f (suc j))) (next j) (f-has (suc j) (more N j l)))))
        (q.mul_has A ρ a.0 (f j) a.3 (f-has j l))

    beyond : (i m : ℕ) → m ≤ i + m
    beyond i m = omega arith

    least : N ≤ N
    least = omega arith

    -- so their quotient stays
    stays : (i j : ℕ) → j ≡ i + N → g j *ᵛ f N ≡ f j *ᵛ g N
    stays zero j e = subst (λ (m : ℕ). g m *ᵛ f N ≡ f m *ᵛ g N) (same j N e) (swap (g N) (f N))
      where
        same : (j m : ℕ) → j ≡ 0 + m → m ≡ j
        same j m e = omega (arith, e)

        swap : (u w : Value d) → u *ᵛ w ≡ w *ᵛ u
        swap u w = ring (ValueR d) (u ∷ w ∷ []) (search reads depth 12) refl
    stays (suc i) zero e = absurd (none i N e)
      where
        none : (i m : ℕ) → 0 ≡ suc i + m → ⊥
        none i m e = omega (arith, e)
    stays (suc i) (suc j) e = ap (λ x. x *ᵛ f N) (g-next j) ∙ turned (factor_at j) (g j) (f j) (f N) (g N) (stays i j (one_less i j N e)) ∙ ap (λ x. x *ᵛ g N) (sym (f-next j (reach i j N e)))
      where
        one_less : (i j m : ℕ) → suc j ≡ suc i + m → j ≡ i + m
        one_less i j m e = omega (arith, e)

        reach : (i j m : ℕ) → suc j ≡ suc i + m → m ≤ j
        reach i j m e = omega (arith, e)

        turned : (a u w x y : Value d) → u *ᵛ x ≡ w *ᵛ y → (a *ᵛ u) *ᵛ x ≡ (a *ᵛ w) *ᵛ y
        turned a u w x y h = by (ValueR d) (a ∷ u ∷ w ∷ x ∷ y ∷ []) (scale (ValueR d) a h) (search reads depth 16) refl

    abbrev c : Value d
    c = g N /ᵛ f N

    is-scaled : (i : ℕ) → g (i + N) ≡ c *ᵛ f (i + N)
    is-scaled i = divided (g (i + N)) (f (i + N)) (f N) (g N) (inv_value (f N)) (value_mul-inv d (f N) (f-ne N least)) (stays i (i + N) refl)
      where
        divided : (u w x y z : Value d) → x *ᵛ z ≡ one_value → u *ᵛ x ≡ w *ᵛ y → u ≡ (y *ᵛ z) *ᵛ w
        divided u w x y z h k = by (ValueR d) (u ∷ w ∷ x ∷ y ∷ z ∷ []) ((ValueR d).add_cong (scale (ValueR d) z k) (scale (ValueR d) (neg_value u) h)) (search reads depth 20 fits 4000) refl

    abbrev ratio_tree : Tree
    ratio_tree = mul (constant c).0 (div (polynomial_tree parts.p) (polynomial_tree parts.q))

    place_of : (s : ℤ) (n : ℕ) (k : ℤ) → (s +ℤ pos n) ≤ℤ k → (i : ℕ) × (s +ℤ pos (i + n) ≡ k)
    place_of s n k l = (unsigned_abs (k -ℤ (s +ℤ pos n)), reaches s n k l)
      where
        reaches : (s : ℤ) (n : ℕ) (k : ℤ) → (s +ℤ pos n) ≤ℤ k → s +ℤ pos (unsigned_abs (k -ℤ (s +ℤ pos n)) + n) ≡ k
        reaches s n k l = grind (arith, ints, l)

    pub meet_of_relation : (r : Tree) × IsRational b r × Meet letter t r
    meet_of_relation = (ratio_tree, ((constant c).1, (polynomial-rational parts.p, polynomial-rational parts.q)), record { from = s +ℤ pos N; meet = λ k l. at k (place_of s N k l) })
      where
        at : (k : ℤ) → (i : ℕ) × (place (i + N) ≡ k) → (v : Value d) × HasWorth letter t k v × HasWorth letter ratio_tree k v
        at k r =
            let j = r.0 + N in
            let w : HasWorth letter ratio_tree (place j) (c *ᵛ f j) =
            (c, f j, (constant c).2 (place j), (upper j, lower j, polynomial-worth parts.p (place j), polynomial-worth parts.q (place j), rootless.apart j (first rootless.bound (P.from (inv_value ρ)) j (beyond r.0 N)), refl), refl) in
            subst (λ (z : ℤ). (v : Value d) × HasWorth letter t z v × HasWorth letter ratio_tree z v) r.1
            (g j, (product.next (place j) (late j)).4, subst (λ (x : Value d). HasWorth letter ratio_tree (place j) x) (sym (is-scaled r.0)) w)

-- ---- The constants

pub fractions : Constants no_letter false
fractions c = (div (numeral (numer c)) (numeral (pos (denom c))), (tt, tt), λ k. (whole_value 0 (numer c), whole_value 0 (pos (denom c)), refl, refl, numeral_ne 0 (denom c) (denom_positive c), value_is_fraction c ∙ fraction_value-rational (numer c) (denom c) (denom_positive c)))

-- a fraction as a function of the parameter
fraction_tree : Value 0 → Tree
fraction_tree c = div (numeral (numer c)) (numeral (pos (denom c)))

fraction-worth : (c : Value 0) (k : ℤ) → HasWorth letter (fraction_tree c) k (constant_value 0 c)
unfolding fraction_tree
fraction-worth c k = (
  whole_value 1 (numer c),
  whole_value 1 (pos (denom c)),
  refl,
  refl,
  numeral_ne 1 (denom c) (denom_positive c),
  value_quotient (whole_value 1 (numer c)) (whole_value 1 (pos (denom c))) (constant_value 0 c) (numeral_ne 1 (denom c) (denom_positive c))
      (ap (◌*ᵛ◌ (constant_value 0 c)) (sym (constant_value-whole 0 (pos (denom c)))) ∙ sym ((constant_valueH 0).on-mul c (whole_value 0 (pos (denom c))))
      ∙ ap (constant_value 0) (ap (λ x. x *ᵛ whole_value 0 (pos (denom c))) (value_is_fraction c ∙ fraction_value-rational (numer c) (denom c) (denom_positive c)) ∙ value_product (whole_value 0 (numer c)) (whole_value 0 (pos (denom c))) (numeral_ne 0 (denom c) (denom_positive c)))
      ∙ constant_value-whole 0 (numer c)),
)

-- a polynomial in the parameter
parameter_tree : List (Value 0) → Tree
parameter_tree [] = numeral (pos 0)
parameter_tree (a ∷ p) = add (fraction_tree a) (mul param (parameter_tree p))

parameter-rational : (p : List (Value 0)) → IsRational true (parameter_tree p)
unfolding parameter_tree fraction_tree
parameter-rational [] = tt
parameter-rational (a ∷ p) = ((tt, tt), (refl, parameter-rational p))

parameter-worth : (p : List (Value 0)) (k : ℤ) → HasWorth letter (parameter_tree p) k (polynomial_value 0 p)
unfolding parameter_tree
parameter-worth [] k = polynomial_value-zero 0
parameter-worth (a ∷ p) k = (
  constant_value 0 a,
  letter *ᵛ polynomial_value 0 p,
  fraction-worth a k,
  (letter, polynomial_value 0 p, refl, parameter-worth p k, refl),
  polynomial_value_cong 0 (a ∷ p) ((PolyR (ValueR 0)).◌⊞◌ (a ∷ []) ((PolyR (ValueR 0)).◌⊠◌ (X (ValueR 0)) p)) (cons-is (ValueR 0) a p)
      ∙ polynomial_value-add 0 (a ∷ []) ((PolyR (ValueR 0)).◌⊠◌ (X (ValueR 0)) p) ∙ ap (◌+ᵛ◌ (constant_value 0 a)) (polynomial_value-mul 0 (X (ValueR 0)) p),
)

pub functions : Constants letter true
functions c = of (parts_of 0 c)
  where
    of : Parts 0 c → (t : Tree) × IsRational true t × ((k : ℤ) → HasWorth letter t k c)
    of r = (
      div (parameter_tree r.p) (parameter_tree r.q),
      (parameter-rational r.p, parameter-rational r.q),
      λ k. (
        polynomial_value 0 r.p,
        polynomial_value 0 r.q,
        parameter-worth r.p k,
        parameter-worth r.q k,
        λ z. r.q_ne (polynomial_value_same 0 r.q [] (z ∙ sym (polynomial_value-zero 0))),
        r.is ∙ over_value-quotient 0 r.p r.q r.q_ne,
      ),
    )
