-- A product that is free over others agrees in no power with an expression over these.
--   follow_products      products with their factors are those of a tower without sums
--   tower_of             it is their tower
--   free_powers          a power other than 0 of a free product agrees with no expression over the products before, in divisors
--                        polynomials and products alone
--   free_new             nor does the product itself
use Rattle.std.proofs.Common.{◌≡◌, ◌≢◌, ℕ, suc, ◌<◌, ℤ, pos, negsuc, ◌+ℤ◌, ◌≤ℤ◌, refl, sym, ap, ◌∙◌, subst, List, [], ◌∷◌, ◌++◌, length, Contains, Bool, arith}
use Rattle.std.proofs.lemmas.Int.{ints}
use Rattle.sg_algebra.specs.Coefficients.{Each}
use Rattle.sg_algebra.specs.Ring.{Ring, Field}
use Rattle.sg_algebra.proofs.Ring.{I_mul}
use Rattle.sg_algebra.proofs.Solver.{by, ring, scale, reads}
use Rattle.sg_algebra.proofs.Value.{Value, ◌*ᵛ◌, neg_value, zero_value, one_value}
use Rattle.sg_algebra.proofs.ValueField.{ValueR, ValueF}
use Rattle.sg_spec.specs.Tree.{Tree}
use Rattle.sg_spec.specs.Generators.{Allowed, BuiltOver}
use Rattle.sg_spec.specs.Worth.{HasWorth}
use Rattle.sg_worth_theory.proofs.Worths.{worth_unique}
use Rattle.sg_algebra.proofs.ShiftValue.{shift_value, shift_valueH}
use Rattle.sg_tower_theory.proofs.Slices.{pairwise_length}
use Rattle.sg_tower_theory.specs.Powers.{power as power_in, powers}
use Rattle.sg_tower_theory.proofs.Products.{listed, listed_length, Expresses}
use Rattle.sg_tower_theory.proofs.Formal.{no_sums, factors, factors_same, repaired_same}
use Rattle.sg_relations_theory.specs.Rows.{multiple_row}
use Rattle.sg_relations_theory.specs.Relations.{Holds, OnlyZeros}
use Rattle.sg_relations_theory.proofs.PowerLaws.{Some, powers_ne, powers-multiple}
use Rattle.sg_relations_theory.proofs.Multiples.{powers-last}
use Rattle.sg_relations_theory.proofs.Factors.{zero_each, to_factors}
use Rattle.sg_value_theory.proofs.Elements.{IsQuotientAt, FollowsProducts}
use Rattle.sg_value_theory.proofs.TreePoints.{AreValues}
use Rattle.sg_value_theory.proofs.TowerOf.{IsTowerOf}
use Rattle.sg_value_theory.proofs.PointsOf.{HasUnits}
use Rattle.sg_value_theory.proofs.OwnSums.{nothing}
use Rattle.sg_answers_theory.specs.Matches.{power_tree}
use Rattle.sg_answers_theory.proofs.ElementsOver.{IsPlaced}
use Rattle.sg_answers_theory.proofs.ZeroPast.{FollowFrom}
use Rattle.sg_answers_theory.proofs.Answers.{IsProductOf, new_product}
use Rattle.sg_answers_theory.proofs.Meeting.{Meet}
use Rattle.sg_answers_theory.proofs.Relating.{product_power, AreProducts}
use Rattle.sg_answers_theory.proofs.OwnProducts.{placed_own}
use Rattle.sg_matches_theory.proofs.Exactly.{length-snoc, last-at}

module _ {d : ℕ} (letter : Value d) (s : ℤ) where
  follows-each : (ps : List Tree) (αs : List (Value (suc d))) → AreProducts letter s ps αs → (k k' : ℤ) → s ≤ℤ k → k' ≡ k +ℤ pos 1 → (ts us : ℕ → Value d)
      → AreValues letter k ps ts → AreValues letter k' ps us → FollowsProducts (factors αs) k ts us
  follows-each [] [] h k k' l e ts us a b = tt
  follows-each [] (α ∷ αs) h k k' l e ts us a b = absurd h
  follows-each (p ∷ ps) [] h k k' l e ts us a b = absurd h
  follows-each (p ∷ ps) (α ∷ αs) h k k' l e ts us a b =
      let n = h.0.next k l in (
        (
          n.0,
          subst (λ (x : Value (suc d)). IsQuotientAt k x n.0) (sym (repaired_same α h.0.some)) n.3,
          worth_unique letter p k' (us 0) n.2 b.0 (subst (λ (z : ℤ). HasWorth letter p z n.2) (sym e) n.5) ∙ n.6 ∙ ap (λ x. n.0 *ᵛ x) (worth_unique letter p k n.1 (ts 0) n.4 a.0),
        ),
        follows-each ps αs h.1 k k' l e (λ i. ts (suc i)) (λ i. us (suc i)) a.1 b.1,
      )

  module _ (ps : List Tree) (αs : List (Value (suc d))) (are : AreProducts letter s ps αs) where
    pub follow_products : FollowFrom letter s ps [] (no_sums αs)
    follow_products p q l e i j = (e, follows-each ps αs are p.variable q.variable l e p.products q.products i.0 j.0)

    pub tower_of : IsTowerOf letter s ps [] (no_sums αs) [] []
    tower_of = record {
      adjoined = pairwise_length (IsProductOf letter s) ps αs are;
      size = refl;
      ascending = tt;
      inside = tt;
      follows = follow_products;
      known_agree = tt;
      own = λ i l. absurd (none i l);
      earlier = λ j l. absurd (none j l);
    }
      where
        none : (i : ℕ) → i < 0 → ⊥
        none i l = omega (arith, l)

    somes : (qs : List Tree) (βs : List (Value (suc d))) → AreProducts letter s qs βs → Each (Some (ValueF (suc d))) βs
    somes [] [] h = tt
    somes [] (β ∷ βs) h = absurd h
    somes (q ∷ qs) [] h = absurd h
    somes (q ∷ qs) (β ∷ βs) h = (h.0.some, somes qs βs h.1)

    module _ (units : Each (HasUnits letter) ps) (free : OnlyZeros αs) (p : Tree) (α : Value (suc d)) (is : IsProductOf letter s p α)
        (new : OnlyZeros (αs ++ α ∷ [])) where
      abbrev K : Field
      K = ValueF (suc d)

      abbrev R : Ring
      R = ValueR (suc d)

      some : Each (Some K) αs
      some = somes ps αs are

      -- no power of the factor is expressed
      not_expressed : (m : ℤ) → m ≢ pos 0 → (es : List ℤ) → length es ≡ length αs → (r : Value (suc d)) → ¬ (r ≡ zero_value)
          → power_in K α m *ᵛ r ≡ powers K αs es *ᵛ shift_value d r → ⊥
      not_expressed m n es l r some_r e =
          n (sym (last-at (multiple_row (negsuc 0) es) m (length αs) size) ∙ zero_each (multiple_row (negsuc 0) es ++ m ∷ []) (new.only_zero (multiple_row (negsuc 0) es ++ m ∷ []) (length-snoc (multiple_row (negsuc 0) es) m (length αs) size ∙ sym (length-snoc αs α (length αs) refl)) holds) (length αs))
        where
          length-multiple : (t : ℤ) (es : List ℤ) → length (multiple_row t es) ≡ length es
          length-multiple t [] = refl
          length-multiple t (e ∷ es) = ap suc (length-multiple t es)

          size : length (multiple_row (negsuc 0) es) ≡ length αs
          size = length-multiple (negsuc 0) es ∙ l

          A : Value (suc d)
          A = power_in K α m

          Q : Value (suc d)
          Q = powers K αs es

          N : Value (suc d)
          N = powers K αs (multiple_row (negsuc 0) es)

          undo : N *ᵛ Q ≡ one_value
          undo = R.trans (R.mul_cong (R.trans (powers-multiple K αs (negsuc 0) es some) (I_mul R)) R.rfl) (R.trans R.mul_comm (K.mul_inv Q (powers_ne K αs es some)))

          holds : Holds (αs ++ α ∷ []) (multiple_row (negsuc 0) es ++ m ∷ [])
          holds = (
            r,
            record {
              some = some_r;
              is = by R (A ∷ Q ∷ N ∷ powers K (αs ++ α ∷ []) (multiple_row (negsuc 0) es ++ m ∷ []) ∷ r ∷ shift_value d r ∷ [])
                  (R.add_cong (scale R (neg_value N) e) (R.add_cong (scale R (neg_value r) (powers-last K (shift_valueH d) αs α (multiple_row (negsuc 0) es) m size)) (scale R (neg_value (shift_value d r)) undo)))
                  (search reads depth 20 fits 6000) refl;
            },
          )

      module _ (allowed : Allowed) (products : (g : Tree) → Contains allowed.products g → IsPlaced letter s ps [] (no_sums αs) g)
          (none : (g : Tree) → ¬ Contains allowed.sums g) where
        pub free_placed : (m : ℤ) → m ≢ pos 0 → (e : Tree) → BuiltOver allowed e → ¬ Meet letter e (power_tree p m)
        free_placed m n = new_product letter s ps αs follow_products units (to_factors αs some free) allowed products none (power_tree p m) (power_in K α m) (product_power letter s p α m is) clash
          where
            clash : ¬ Expresses K (shift_valueH d) (factors αs) (power_in K α m)
            clash x = at (subst (λ (βs : List (Value (suc d))). Expresses K (shift_valueH d) βs (power_in K α m)) (factors_same αs some) x)
              where
                at : Expresses K (shift_valueH d) αs (power_in K α m) → ⊥
                at y = not_expressed m n (listed (length αs) y.exponents) (listed_length (length αs) y.exponents) y.ratio y.some y.is

      -- over the free products themselves
      pub free_powers : (parameter : Bool) (m : ℤ) → m ≢ pos 0 → (e : Tree) → BuiltOver (record { parameter = parameter; products = ps; sums = [] }) e
          → ¬ Meet letter e (power_tree p m)
      free_powers parameter = free_placed (record { parameter = parameter; products = ps; sums = [] }) (λ g c. placed_own letter s ps [] (no_sums αs) [] [] tower_of g c) (λ g c. nothing c)

      -- so no expression over them agrees with the product itself
      pub free_new : (parameter : Bool) (e : Tree) → BuiltOver (record { parameter = parameter; products = ps; sums = [] }) e → ¬ Meet letter e p
      free_new parameter e o m = free_powers parameter (pos 1) (λ z. omega (arith, ints, z)) e o (record { from = m.from; meet = λ k l. once k (m.meet k l) })
        where
          once : (k : ℤ) → (v : Value d) × HasWorth letter e k v × HasWorth letter p k v
              → (v : Value d) × HasWorth letter e k v × HasWorth letter (power_tree p (pos 1)) k v
          once k r = (r.0, r.1, (r.0, r.2, ring (ValueR d) (r.0 ∷ []) (search reads depth 12) refl))
