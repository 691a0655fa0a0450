-- Two polynomials meet or are coprime, and where polynomials meet whose whole roots are split off.
--   meets_or_coprime   a and b meet at m, or a(k) and b(k + m) are coprime
--   meets_common       not both
--   listed_roots       the product over r as a list
--   scaled_some        c^n a(k/c) isn't 0
--   unit_meets         c^n a(k/c) and c^n b(k/c) meet at c m where a and b meet at m
--   split_meets        the shifts are those of what is left, and the differences of roots
use Rattle.std.proofs.Common.{◌≡◌, ◌≢◌, ℕ, zero, suc, refl, sym, ◌∙◌, ap, ap₂, subst, List, [], ◌∷◌, map, ℤ, pos, ◌+ℤ◌, ◌-ℤ◌, ◌*ℤ◌, Contains, ◌⊎◌, inl, inr, ◌↔◌, arith}
use Rattle.std.proofs.lemmas.Int.{ints}
use Rattle.std.proofs.lemmas.List.Elements.{Contains-append_left, Contains-append_right, Contains-push, Contains-push_cases, Contains-append_cases}
use Rattle.sg_algebra.specs.Coefficients.{zip_longest, poly_mul, eval, Each}
use Rattle.sg_algebra.proofs.Ring.{O_mul}
use Rattle.sg_algebra.proofs.Solver.{ring, by, scale, reads}
use Rattle.sg_algebra.proofs.Divides.{Divides, dvd_on}
use Rattle.sg_algebra.proofs.Coprime.{Coprime, coprime_dvd_both, coprime_same}
use Rattle.sg_algebra.proofs.Euclid.{Bezout, coprime_of_unit}
use Rattle.sg_algebra.proofs.PolynomialRing.{PolyR}
use Rattle.sg_algebra.proofs.Degree.{Degree}
use Rattle.sg_algebra.proofs.Division.{bezoutPoly}
use Rattle.sg_algebra.proofs.Evaluation.{eval-mul, eval-add, eval_cong, compose, compose_cong}
use Rattle.sg_algebra.proofs.Shift.{moved, movedH, moved_cong, moved-eval}
use Rattle.sg_algebra.proofs.Value.{Value, ◌+ᵛ◌, ◌-ᵛ◌, ◌*ᵛ◌, neg_value, zero_value, one_value}
use Rattle.sg_algebra.proofs.ValueField.{ValueR, ValueF, value_one_ne}
use Rattle.sg_algebra.proofs.Rational.{whole_value}
use Rattle.sg_algebra.proofs.Embedding.{whole_value_zero}
use Rattle.sg_algebra.proofs.Polynomial.{PolynomialR, poly, zero_polynomial, poly_cong, same_list, same_poly, poly-mul, ◌*ᵖ◌}
use Rattle.sg_dispersion_theory.proofs.Listed.{coprime_poly, poly_coprime, poly_degree}
use Rattle.sg_dispersion_theory.proofs.Radical.{constant_unit, divisor_degree}
use Rattle.sg_dispersion_theory.proofs.Splits.{split_coprime, of_roots as roots_list, linear as linear_list}
use Rattle.sg_num.specs.Scaled.{scaled}
use Rattle.sg_dispersion_theory.proofs.Scaling.{times, of_scaled, scaled_coprime, unscaled_coprime}
use Rattle.sg_num.specs.Roots.{IsRoot}
use Rattle.sg_spread.specs.Shifts.{Meets}
use Rattle.sg_spread.specs.Splits.{linear, of_roots}
use Rattle.sg_spread.proofs.Meeting.{meets_apart}
use Rattle.sg_num.proofs.WholeSteps.{whole_value-add, whole_value-mul}

module _ {d : ℕ} (a b : List (Value d)) (m : ℤ) where
  abbrev after : List (Value d)
  after = moved (ValueR d) (whole_value d m) b

  by_divisor : (c : Bezout (PolyR (ValueR d)) a after) → (n : ℕ) → Degree (ValueR d) n c.g → Meets a b m ⊎ Coprime (PolynomialR d) (poly a) (poly after)
  by_divisor c zero e = inr (coprime_poly a after (coprime_of_unit (PolyR (ValueR d)) a after c (constant_unit (ValueF d) c.g e)))
  by_divisor c (suc n) e = inl (record {
    common = poly c.g;
    left = record { cofactor = poly c.s; is = sym (poly_cong c.of_a) ∙ poly-mul c.g c.s };
    right = record { cofactor = poly c.t; is = sym (poly_cong c.of_b) ∙ poly-mul c.g c.t };
    positive = λ x h. e.lead (same_poly c.g (x ∷ []) h (suc n));
  })

  pub meets_or_coprime : ¬ (poly a ≡ zero_polynomial) → Meets a b m ⊎ Coprime (PolynomialR d) (poly a) (poly after)
  meets_or_coprime some =
      let c = bezoutPoly (ValueF d) a after in
      let e = poly_degree a some in
      let g = divisor_degree (ValueF d) e.0 a c.g c.s e.1 c.of_a in
      by_divisor c g.0 g.1

  pub meets_common : Meets a b m → Coprime (PolynomialR d) (poly a) (poly after) → ⊥
  meets_common k c = meets_apart a b m a b one_value (λ x h. h) (ring (PolynomialR d) (poly b ∷ []) (search reads depth 16) refl) k c

-- ---- Lists of whole numbers

same_or_not : (x m : ℤ) → (x ≡ m) ⊎ (x ≢ m)
same_or_not x m = grind (arith, ints)

pub contains_or_not : (r : List ℤ) (m : ℤ) → Contains r m ⊎ ¬ Contains r m
contains_or_not [] m = inr (λ h. let inside = h.1 in omega arith)
contains_or_not (x ∷ r) m = elim (same_or_not x m) [
  | inl e ↦ inl (subst (λ y. Contains (x ∷ r) y) e (first x r))
  | inr n ↦ elim (contains_or_not r m) [ inl h ↦ inl (later x r m h) | inr k ↦ inr (λ h. elim (cases x r m h) [ inl e ↦ n e | inr g ↦ k g ]) ]
]
  where
    first : (x : ℤ) (r : List ℤ) → Contains (x ∷ r) x
    first x r = Contains-append_left (x ∷ []) r x (Contains-push [] x)

    later : (x : ℤ) (r : List ℤ) (m : ℤ) → Contains r m → Contains (x ∷ r) m
    later x r m h = Contains-append_right (x ∷ []) r m h

    cases : (x : ℤ) (r : List ℤ) (m : ℤ) → Contains (x ∷ r) m → (x ≡ m) ⊎ Contains r m
    cases x r m h = elim (Contains-append_cases (x ∷ []) r m h) [
      | inl k ↦ elim (Contains-push_cases [] x m k) [ inl z ↦ absurd (let inside = z.1 in omega arith) | inr e ↦ inl e ]
      | inr k ↦ inr k
    ]

abbrev w : ℤ → Value 0
w = whole_value 0

each_whole : (Q : Value 0 → Type 0) (r : List ℤ) → ((z : ℤ) → Contains r z → Q (w z)) → Each Q (map w r)
each_whole Q [] f = tt
each_whole Q (x ∷ r) f = (f x (Contains-append_left (x ∷ []) r x (Contains-push [] x)), each_whole Q r (λ z h. f z (Contains-append_right (x ∷ []) r z h)))

back_by : (x y z : ℤ) → x -ℤ y ≡ z → x ≡ z +ℤ y
back_by x y z h = omega (arith, ints)

sum_back : (x y : ℤ) → (x -ℤ y) +ℤ y ≡ x
sum_back x y = omega (arith, ints)

difference_zero : (x y : ℤ) → x -ℤ y ≡ pos 0 → x ≡ y
difference_zero x y h = omega (arith, ints)

shift_of : (z y m : ℤ) → z +ℤ m ≡ y → m ≡ y -ℤ z
shift_of z y m h = omega (arith, ints)

whole-difference : (x y : ℤ) → w (x -ℤ y) ≡ w x -ᵛ w y
whole-difference x y = by (ValueR 0) (w x ∷ w y ∷ w (x -ℤ y) ∷ []) (sym (whole_value-add (x -ℤ y) y) ∙ ap w (sum_back x y)) (search reads depth 16) refl

pub whole_same : (x y : ℤ) → w x ≡ w y → x ≡ y
whole_same x y e = difference_zero x y (whole_value_zero 0 (x -ℤ y) (whole-difference x y ∙ by (ValueR 0) (w x ∷ w y ∷ []) e (search reads depth 16) refl))

-- ---- Products of linear polynomials

abbrev list_of_roots : List ℤ → List (Value 0)
list_of_roots r = roots_list (ValueF 0) (map w r)

pub listed_roots : (r : List ℤ) → of_roots r ≡ poly (list_of_roots r)
listed_roots [] = refl
listed_roots (m ∷ r) = ap (λ x. linear m *ᵖ x) (listed_roots r) ∙ sym (poly-mul (linear_list (ValueF 0) (w m)) (list_of_roots r))

-- an item of the list is a root
is_root : (r : List ℤ) (z : ℤ) → Contains r z → eval (ValueR 0) (list_of_roots r) (w z) ≡ zero_value
is_root [] z h = absurd (let inside = h.1 in omega arith)
is_root (x ∷ r) z h = eval-mul (ValueR 0) (linear_list (ValueF 0) (w x)) (list_of_roots r) (w z) ∙ elim (Contains-append_cases (x ∷ []) r z h) [
  | inl k ↦ elim (Contains-push_cases [] x z k) [
    | inl n ↦ absurd (let inside = n.1 in omega arith)
    | inr e ↦ here x z (eval (ValueR 0) (list_of_roots r) (w z)) (ap w e)
  ]
  | inr k ↦ there x z (eval (ValueR 0) (list_of_roots r) (w z)) (is_root r z k)
]
  where
    here : (x z : ℤ) (v : Value 0) → w x ≡ w z → eval (ValueR 0) (linear_list (ValueF 0) (w x)) (w z) *ᵛ v ≡ zero_value
    here x z v e = by (ValueR 0) (w x ∷ w z ∷ v ∷ []) (scale (ValueR 0) (neg_value v) e) (search reads depth 20) refl

    there : (x z : ℤ) (v : Value 0) → v ≡ zero_value → eval (ValueR 0) (linear_list (ValueF 0) (w x)) (w z) *ᵛ v ≡ zero_value
    there x z v e = by (ValueR 0) (w x ∷ w z ∷ v ∷ []) (scale (ValueR 0) (w z -ᵛ w x) e) (search reads depth 20) refl

-- what is coprime has no root in common
no_common_root : (p q : List (Value 0)) (x : Value 0) → eval (ValueR 0) p x ≡ zero_value → eval (ValueR 0) q x ≡ zero_value → Coprime (PolyR (ValueR 0)) p q → ⊥
no_common_root p q x e f c =
    let u = c.u in
    let v = c.w in
    value_one_ne 0 (
    one_at x
    ∙ sym (eval_cong (ValueR 0) (zip_longest ◌+ᵛ◌ (poly_mul (ValueR 0) u p) (poly_mul (ValueR 0) v q)) (one_value ∷ []) x x c.comb refl)
    ∙ eval-add (ValueR 0) (poly_mul (ValueR 0) u p) (poly_mul (ValueR 0) v q) x
    ∙ ap₂ ◌+ᵛ◌ (eval-mul (ValueR 0) u p x) (eval-mul (ValueR 0) v q x)
    ∙ zero_sum (eval (ValueR 0) u x) (eval (ValueR 0) v x) (eval (ValueR 0) p x) (eval (ValueR 0) q x) e f)
  where
    zero_sum : (u v p q : Value 0) → p ≡ zero_value → q ≡ zero_value → u *ᵛ p +ᵛ v *ᵛ q ≡ zero_value
    zero_sum u v p q e f = by (ValueR 0) (u ∷ v ∷ p ∷ q ∷ []) ((ValueR 0).add_cong (scale (ValueR 0) u e) (scale (ValueR 0) v f)) (search reads depth 16) refl

    one_at : (x : Value 0) → one_value ≡ eval (ValueR 0) (one_value ∷ []) x
    one_at x = ring (ValueR 0) (x ∷ []) (search reads depth 16) refl

module _ (a b p q : List (Value 0)) (r s l all : List ℤ) (m : ℤ) (of_a : of_roots r *ᵖ poly p ≡ poly a) (of_b : of_roots s *ᵖ poly q ≡ poly b) where
  abbrev β : Value 0
  β = w m

  list_a : (PolyR (ValueR 0)).◌≈◌ (poly_mul (ValueR 0) (list_of_roots r) p) a
  list_a = same_list (poly_mul (ValueR 0) (list_of_roots r) p) a (poly-mul (list_of_roots r) p ∙ ap (λ x. x *ᵖ poly p) (sym (listed_roots r)) ∙ of_a)

  list_b : (PolyR (ValueR 0)).◌≈◌ (poly_mul (ValueR 0) (list_of_roots s) q) b
  list_b = same_list (poly_mul (ValueR 0) (list_of_roots s) q) b (poly-mul (list_of_roots s) q ∙ ap (λ x. x *ᵖ poly q) (sym (listed_roots s)) ∙ of_b)

  list_moved : (PolyR (ValueR 0)).◌≈◌ (moved (ValueR 0) β (poly_mul (ValueR 0) (list_of_roots s) q)) (moved (ValueR 0) β b)
  list_moved = (movedH (ValueR 0) β).on_cong (poly_mul (ValueR 0) (list_of_roots s) q) b list_b

  roots_meet : (z y : ℤ) → Contains r z → Contains s y → m ≡ y -ℤ z → Coprime (PolyR (ValueR 0)) a (moved (ValueR 0) β b) → ⊥
  roots_meet z y h k e c = no_common_root a (moved (ValueR 0) β b) (w z)
      (eval_cong (ValueR 0) a (poly_mul (ValueR 0) (list_of_roots r) p) (w z) (w z) ((PolyR (ValueR 0)).symm list_a) refl
      ∙ eval-mul (ValueR 0) (list_of_roots r) p (w z) ∙ zero_times (eval (ValueR 0) p (w z)) (is_root r z h))
      (moved-eval (ValueR 0) β (w z) b
      ∙ eval_cong (ValueR 0) b (poly_mul (ValueR 0) (list_of_roots s) q) (w z +ᵛ w m) (w y) ((PolyR (ValueR 0)).symm list_b) (sym (whole_value-add z m) ∙ ap w (at z y m e))
      ∙ eval-mul (ValueR 0) (list_of_roots s) q (w y) ∙ zero_times (eval (ValueR 0) q (w y)) (is_root s y k)) c
    where
      at : (z y m : ℤ) → m ≡ y -ℤ z → z +ℤ m ≡ y
      at z y m e = omega (arith, ints)

      zero_times : {x : Value 0} (v : Value 0) → x ≡ zero_value → x *ᵛ v ≡ zero_value
      zero_times {x} v e = by (ValueR 0) (x ∷ v ∷ []) (scale (ValueR 0) v e) (search reads depth 16) refl

  rests_meet : Meets p q m → Coprime (PolyR (ValueR 0)) a (moved (ValueR 0) β b) → ⊥
  rests_meet k c = meets_common p q m k (coprime_poly p (moved (ValueR 0) β q) (coprime_dvd_both (PolyR (ValueR 0)) a (moved (ValueR 0) β b) p (moved (ValueR 0) β q)
      (second a (list_of_roots r) p list_a)
      (dvd_on (PolyR (ValueR 0)) (PolyR (ValueR 0)) (movedH (ValueR 0) β) q b (second b (list_of_roots s) q list_b)) c))
    where
      second : (x g t : List (Value 0)) → (PolyR (ValueR 0)).◌≈◌ (poly_mul (ValueR 0) g t) x → Divides (PolyR (ValueR 0)) t x
      second x g t e = record { cofactor = g; is = (PolyR (ValueR 0)).trans ((PolyR (ValueR 0)).symm e) ((PolyR (ValueR 0)).mul_comm {x = g} {y = t}) }

  apart : ((z y : ℤ) → Contains r z → Contains s y → m ≢ y -ℤ z) → ((z : ℤ) → ¬ IsRoot p z) → ((z : ℤ) → ¬ IsRoot q z) → Coprime (PolyR (ValueR 0)) p (moved (ValueR 0) β q)
      → Coprime (PolyR (ValueR 0)) a (moved (ValueR 0) β b)
  apart none np nq c = coprime_same (PolyR (ValueR 0)) (poly_mul (ValueR 0) (list_of_roots r) p) (moved (ValueR 0) β (poly_mul (ValueR 0) (list_of_roots s) q)) a (moved (ValueR 0) β b) list_a list_moved
      (split_coprime (ValueF 0) β (map w r) (map w s) p q
      (each_whole (λ x. Each (λ y. ¬ (x +ᵛ β ≡ y)) (map w s)) r (λ z h. each_whole (λ y. ¬ (w z +ᵛ β ≡ y)) s (λ y k e. none z y h k (shift_of z y m (whole_same (z +ℤ m) y (whole_value-add z m ∙ e))))))
      (each_whole (λ x. ¬ (eval (ValueR 0) q (x +ᵛ β) ≡ zero_value)) r (λ z h e. nq (z +ℤ m) (ap (λ x. eval (ValueR 0) q x) (whole_value-add z m) ∙ e)))
      (each_whole (λ x. ¬ (eval (ValueR 0) p (x -ᵛ β) ≡ zero_value)) s (λ y k e. np (y -ℤ m) (ap (λ x. eval (ValueR 0) p x) (whole-difference y m) ∙ e))) c)

  module _ (some_a : ¬ (poly a ≡ zero_polynomial)) (some_p : ¬ (poly p ≡ zero_polynomial)) (np : (z : ℤ) → ¬ IsRoot p z) (nq : (z : ℤ) → ¬ IsRoot q z)
      (rests : Contains l m ↔ Meets p q m) (is : Contains all m ↔ (Contains l m ⊎ ((z : ℤ) × Contains r z × ((y : ℤ) × Contains s y × (m ≡ y -ℤ z))))) where
    found : Contains all m → Meets a b m
    found h = elim (meets_or_coprime a b m some_a) [
      | inl k ↦ k
      | inr c ↦ absurd (elim (is.0 h) [
        | inl k ↦ rests_meet (rests.0 k) (poly_coprime a (moved (ValueR 0) β b) c)
        | inr k ↦ let (z, g, i) = k in let (y, n, e) = i in roots_meet z y g n e (poly_coprime a (moved (ValueR 0) β b) c)
      ])
    ]

    complete : Meets a b m → Contains all m
    complete k = elim (contains_or_not all m) [
      | inl h ↦ h
      | inr n ↦ elim (meets_or_coprime p q m some_p) [
        | inl g ↦ absurd (n (is.1 (inl (rests.1 g))))
        | inr c ↦ absurd (meets_common a b m k (coprime_poly a (moved (ValueR 0) β b)
            (apart (λ z y h g e. n (is.1 (inr (z, h, (y, g, e))))) np nq (poly_coprime p (moved (ValueR 0) β q) c))))
      ]
    ]

    pub split_meets : Contains all m ↔ Meets a b m
    split_meets = (found, complete)

-- ---- Another unit

module _ (c : ℤ) (n : c ≢ pos 0) where
  unit_ne : ¬ (w c ≡ zero_value)
  unit_ne z = n (whole_value_zero 0 c z)

  pub scaled_some : (a A : List (Value 0)) → poly A ≡ poly (scaled (ValueR 0) (w c) a) → ¬ (poly a ≡ zero_polynomial) → ¬ (poly A ≡ zero_polynomial)
  scaled_some a A e some z = some (poly_cong (none (of_scaled (ValueF 0) (w c) unit_ne a)))
    where
      empty : (PolyR (ValueR 0)).◌≈◌ (compose (ValueR 0) (scaled (ValueR 0) (w c) a) (times (ValueF 0) (w c))) []
      empty = compose_cong (ValueR 0) (scaled (ValueR 0) (w c) a) [] (times (ValueF 0) (w c)) (times (ValueF 0) (w c)) (same_list (scaled (ValueR 0) (w c) a) [] (sym e ∙ z)) (PolyR (ValueR 0)).rfl

      none : Divides (PolyR (ValueR 0)) (compose (ValueR 0) (scaled (ValueR 0) (w c) a) (times (ValueF 0) (w c))) a → (PolyR (ValueR 0)).◌≈◌ a []
      none h = (PolyR (ValueR 0)).trans h.is ((PolyR (ValueR 0)).trans ((PolyR (ValueR 0)).mul_cong {x = compose (ValueR 0) (scaled (ValueR 0) (w c) a) (times (ValueF 0) (w c))} {y = []} {u = h.cofactor} {v = h.cofactor} empty (PolyR (ValueR 0)).rfl) (O_mul (PolyR (ValueR 0)) {x = h.cofactor}))

  abbrev in_unit : List (Value 0) → List (Value 0)
  in_unit p = scaled (ValueR 0) (w c) p

  pub unit_meets : (a b A B : List (Value 0)) (m : ℤ) → poly A ≡ poly (scaled (ValueR 0) (w c) a) → poly B ≡ poly (scaled (ValueR 0) (w c) b) → ¬ (poly a ≡ zero_polynomial)
      → Meets A B (c *ℤ m) ↔ Meets a b m
  unit_meets a b A B m e f some = (
    λ k. elim (meets_or_coprime a b m some) [
      | inl h ↦ h
      | inr h ↦ absurd (meets_common A B (c *ℤ m) k (coprime_poly A (moved (ValueR 0) (w (c *ℤ m)) B)
          (coprime_same (PolyR (ValueR 0)) (in_unit a) (moved (ValueR 0) (w c *ᵛ w m) (in_unit b)) A (moved (ValueR 0) (w (c *ℤ m)) B) same_a same_b
          (unscaled_coprime (ValueF 0) (w c) unit_ne (w m) a b (poly_coprime a (moved (ValueR 0) (w m) b) h)))))
    ],
    λ k. elim (meets_or_coprime A B (c *ℤ m) (scaled_some a A e some)) [
      | inl h ↦ h
      | inr h ↦ absurd (meets_common a b m k (coprime_poly a (moved (ValueR 0) (w m) b)
          (scaled_coprime (ValueF 0) (w c) unit_ne (w m) a b
          (coprime_same (PolyR (ValueR 0)) A (moved (ValueR 0) (w (c *ℤ m)) B) (in_unit a) (moved (ValueR 0) (w c *ᵛ w m) (in_unit b)) ((PolyR (ValueR 0)).symm same_a) ((PolyR (ValueR 0)).symm same_b)
          (poly_coprime A (moved (ValueR 0) (w (c *ℤ m)) B) h)))))
    ],
  )
    where
      same_a : (PolyR (ValueR 0)).◌≈◌ (in_unit a) A
      same_a = same_list (in_unit a) A (sym e)

      same_b : (PolyR (ValueR 0)).◌≈◌ (moved (ValueR 0) (w c *ᵛ w m) (in_unit b)) (moved (ValueR 0) (w (c *ℤ m)) B)
      same_b = moved_cong (ValueR 0) (w c *ᵛ w m) (w (c *ℤ m)) (in_unit b) B (sym (whole_value-mul c m)) (same_list (in_unit b) B (sym f))
