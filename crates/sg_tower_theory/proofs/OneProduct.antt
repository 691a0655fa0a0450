-- One more product x, with σ(x) = α x: where no power of α but the zeroth is g/σ(g), the laws of the tower are kept.
--   IsFree            no g but 0 has α^e σ(g) = g, for an exponent e other than 0
--   only_constant     an element that the shift fixes is its coefficient at 0, which σ fixes
--   lowest            a polynomial that isn't 0 is a power of the variable times one whose constant isn't 0
--   lawful_product    the laws: numerals aren't 0, fixed elements are units, combinations of an element and its shifts reach one
use Rattle.std.proofs.Common.{◌≡◌, ℕ, zero, suc, ◌+◌, ◌≤◌, refl, List, [], ◌∷◌, ℤ, pos, negsuc, length, arith}
use Rattle.sg_algebra.specs.Ring.{Ring, Domain, Hom}
use Rattle.sg_algebra.specs.Coefficients.{coef}
use Rattle.sg_algebra.proofs.Ring.{nat, pow, mul_O, I_mul}
use Rattle.sg_algebra.proofs.Solver.{ring, by, reads}
use Rattle.sg_algebra.proofs.Divides.{Divides, dvd_on, dvd_same, on-nat, on-O}
use Rattle.sg_algebra.proofs.PolynomialRing.{PolyR, X, coef-zip, coef-scale, cons_cong}
use Rattle.sg_algebra.proofs.Degree.{Below, poly_zero}
use Rattle.sg_tower_theory.proofs.Combination.{Gen, g_self, g_add, g_mul, g_on, g_same, gen_trans}
use Rattle.sg_tower_theory.proofs.Lawful.{Lawful}
use Rattle.sg_tower_theory.proofs.Ends.{coef-past}
use Rattle.sg_tower_theory.proofs.Laurent.{Laurent, LaurentR, LaurentD, equal, polynomialH, polynomial-add, constantsH, lifted_power}
use Rattle.sg_tower_theory.proofs.LaurentCoefficients.{at, at_cong, same_at, at-none, zero_poly, times_X, pos_ne, negsuc_ne}
use Rattle.sg_tower_theory.proofs.LaurentShift.{unit_power, scaledH, scaled-coef, shiftedH, at-shifted}

-- no power of α but the zeroth is g/σ(g)
abbrev pub IsFree : (D : Domain) → Hom D.R D.R → D.R.A → D.R.A → Type 0
IsFree D σ α β = (e : ℤ) → ¬ (e ≡ pos 0) → (g : D.R.A) → D.R.◌≈◌ (D.R.◌⊠◌ (unit_power D.R α β e) (σ.on g)) g → D.R.◌≈◌ g D.R.O

module _ (D : Domain) where
  open D use {R, is_zero}
  open R use {A, ◌≈◌, O, I, rfl, symm, trans}
  open PolyR R use {◌≈◌ as ◌≋◌, ◌⊞◌ as ◌⊕◌, ◌⊠◌ as ◌⊗◌}

  abbrev P : Ring
  P = PolyR R

  pub record Low (p : List A) : Type 0 where
    pub power : ℕ
    pub rest : List A
    pub is : p ≋ pow P (X R) power ⊗ rest
    pub some : ¬ (coef R rest 0 ≈ O)
    pub at_rest : (i k : ℕ) → k ≡ power + i → coef R rest i ≈ coef R p k

  pub lowest : (p : List A) → ¬ (p ≋ []) → Low p
  lowest [] h = absurd (h (P.rfl {x = []}))
  lowest (a ∷ p) h = go (is_zero a) (λ n. lowest p n)
    where
      go : Dec (a ≈ O) → (¬ (p ≋ []) → Low p) → Low (a ∷ p)
      go (no z) k = record {
        power = 0;
        rest = a ∷ p;
        is = P.symm (I_mul P);
        some = z;
        at_rest = λ i k e. let s : k ≡ i = omega (arith, e) in rw s rfl;
      }
      go (yes z) k = from (k (λ n. h (P.trans (cons_cong R a O p [] z n) (record { image = record { at = none } }))))
        where
          none : (n : ℕ) → coef R (O ∷ []) n ≈ O
          none zero = rfl
          none (suc n) = rfl

          from : Low p → Low (a ∷ p)
          from l = record {
            power = suc l.power;
            rest = l.rest;
            is = P.trans (cons_cong R a O p p z P.rfl) (P.trans (P.symm (times_X R p)) (P.trans (P.mul_cong (P.rfl {x = X R}) l.is) (step (pow P (X R) l.power) l.rest)));
            some = l.some;
            at_rest = later;
          }
            where
              step : (q r : List A) → X R ⊗ (q ⊗ r) ≋ (q ⊗ X R) ⊗ r
              step q r = ring P (q ∷ r ∷ X R ∷ []) (search reads depth 16) refl

              later : (i k : ℕ) → k ≡ suc l.power + i → coef R l.rest i ≈ coef R (a ∷ p) k
              later i zero e = absurd (omega (arith, e))
              later i (suc k) e = l.at_rest i k (omega (arith, e))

module _ (D : Domain) (σ : Hom D.R D.R) (α β : D.R.A) (unit : D.R.◌≈◌ (D.R.◌⊠◌ α β) D.R.I) where
  open D use {R, is_zero}
  open R use {A, ◌≈◌, ◌⊞◌, ◌⊠◌, ⊟, O, I, rfl, symm, trans, add_cong, mul_cong, add_O, mul_comm, mul_I}
  open PolyR R use {◌≈◌ as ◌≋◌, ◌⊞◌ as ◌⊕◌, ◌⊠◌ as ◌⊗◌, ⊟ as ⊖}

  abbrev L : Ring
  L = LaurentR D

  abbrev τ : Hom L L
  τ = shiftedH D σ α β unit

  abbrev scaled : List A → List A
  scaled p = (scaledH D σ α β unit).on p

  abbrev whole : List A → Laurent D
  whole p = record { poly = p; lag = 0 }

  module _ (free : IsFree D σ α β) where
    pub only_constant : (x : Laurent D) → L.◌≈◌ (τ.on x) x → L.◌≈◌ x (whole (at D (pos 0) x ∷ [])) × (σ.on (at D (pos 0) x) ≈ at D (pos 0) x)
    only_constant x h = (same_at D x (whole (at D (pos 0) x ∷ [])) there, trans (symm (I_mul R)) (still (pos 0)))
      where
        still : (e : ℤ) → unit_power R α β e ⊠ σ.on (at D e x) ≈ at D e x
        still e = trans (symm (at-shifted D σ α β unit x e)) (at_cong D (τ.on x) x h e)

        there : (e : ℤ) → at D e x ≈ at D e (whole (at D (pos 0) x ∷ []))
        there (pos zero) = rfl
        there (pos (suc n)) = free (pos (suc n)) (pos_ne n) (at D (pos (suc n)) x) (still (pos (suc n)))
        there (negsuc n) = free (negsuc n) (negsuc_ne n) (at D (negsuc n) x) (still (negsuc n))

  module _ (free : IsFree D σ α β) (good : Lawful D σ) where
    pub fixed_unit : (x : Laurent D) → L.◌≈◌ (τ.on x) x → ¬ (L.◌≈◌ x L.O) → Divides L x L.I
    fixed_unit x h n = go (only_constant free x h)
      where
        c : A
        c = at D (pos 0) x

        go : L.◌≈◌ x (whole (c ∷ [])) × (σ.on c ≈ c) → Divides L x L.I
        go k = dvd_same L (whole (c ∷ [])) (whole (I ∷ [])) x L.I (L.symm k.0) L.rfl
            (dvd_on R L (constantsH D) c I (good.fixed c k.1 (λ z. n (L.trans k.0 (L.trans ((constantsH D).on_cong c O z) (on-O R L (constantsH D)))))))

    -- ---- The law of combinations

    record Lifted (n : ℕ) (p : List A) (x : A) : Type 0 where
      u : List A
      gen : Gen L τ (whole p) (whole u)
      short : Below R n u
      low : coef R u 0 ≈ x

    on_whole : (u : List A) → L.◌≈◌ (τ.on (whole u)) (whole (scaled u))
    on_whole u = (polynomialH D).on_cong (scaled u ⊗ (I ∷ [])) (scaled u) (P D).mul_I

    lifted : (n : ℕ) (p : List A) → Below R n p → {x : A} → Gen R σ (coef R p 0) x → Lifted n p x
    lifted n p b g_self = record { u = p; gen = g_self; short = b; low = rfl }
    lifted n p b (g_add g h) =
        let y = lifted n p b g in
        let z = lifted n p b h in
        record {
          u = y.u ⊕ z.u;
          gen = g_same (L.symm (polynomial-add D y.u z.u)) (g_add y.gen z.gen);
          short = record { none_from = λ i k. trans (coef-zip R y.u z.u i) (trans (add_cong (y.short.none_from i k) (z.short.none_from i k)) add_O) };
          low = trans (coef-zip R y.u z.u 0) (add_cong y.low z.low);
        }
    lifted n p b (g_mul c g) =
        let y = lifted n p b g in
        record {
          u = (c ∷ []) ⊗ y.u;
          gen = g_mul (whole (c ∷ [])) y.gen;
          short = record { none_from = λ i k. trans (coef-scale R c y.u i) (trans (mul_cong rfl (y.short.none_from i k)) (mul_O R)) };
          low = trans (coef-scale R c y.u 0) (mul_cong rfl y.low);
        }
    lifted n p b (g_on {x} g) =
        let y = lifted n p b g in
        record {
          u = scaled y.u;
          gen = g_same (on_whole y.u) (g_on y.gen);
          short = record { none_from = λ i k. trans (scaled-coef D σ α β unit y.u i) (trans (mul_cong rfl (trans (σ.on_cong (coef R y.u i) O (y.short.none_from i k)) (on-O R R σ))) (mul_O R)) };
          low = trans (scaled-coef D σ α β unit y.u 0) (trans (I_mul R) (σ.on_cong (coef R y.u 0) x y.low));
        }
    lifted n p b (g_same k g) = let y = lifted n p b g in record { u = y.u; gen = y.gen; short = y.short; low = trans y.low k }

    -- the difference of the shifted polynomial
    abbrev step : List A → List A
    step u = scaled u ⊕ ((⊟ I ∷ []) ⊗ u)

    step-coef : (u : List A) (i : ℕ) → coef R (step u) i ≈ pow R α i ⊠ σ.on (coef R u i) ⊞ ⊟ (coef R u i)
    step-coef u i = trans (coef-zip R (scaled u) ((⊟ I ∷ []) ⊗ u) i) (add_cong (scaled-coef D σ α β unit u i) (trans (coef-scale R (⊟ I) u i) (minus (coef R u i))))
      where
        minus : (x : A) → ⊟ I ⊠ x ≈ ⊟ x
        minus x = ring R (x ∷ []) (search reads depth 12) refl

    step-gen : (p u : List A) → Gen L τ (whole p) (whole u) → Gen L τ (whole p) (whole (step u))
    step-gen p u g = g_same (L.symm (polynomial-add D (scaled u) ((⊟ I ∷ []) ⊗ u))) (g_add (g_same (on_whole u) (g_on g)) (g_mul (whole (⊟ I ∷ [])) g))

    reached : (p u : List A) → Gen L τ (whole p) (whole u) → coef R u 0 ≈ I → ((i : ℕ) → coef R u (suc i) ≈ O) → Gen L τ (whole p) L.I
    reached p u g h k = g_same ((polynomialH D).on_cong u (I ∷ []) (record { image = record { at = there } })) g
      where
        there : (i : ℕ) → coef R u i ≈ coef R (I ∷ []) i
        there zero = h
        there (suc i) = k i

    law_from : (n : ℕ) (p : List A) → Below R (suc n) p → ¬ (coef R p 0 ≈ O) → Gen L τ (whole p) L.I
    law_from zero p b h = let y = lifted 1 p b (good.law (coef R p 0) h) in reached p y.u y.gen y.low (λ i. y.short.none_from (suc i) (omega arith))
    law_from (suc n) p b h = go (lifted (suc (suc n)) p b (good.law (coef R p 0) h)) (law_from n)
      where
        go : Lifted (suc (suc n)) p I → ((q : List A) → Below R (suc n) q → ¬ (coef R q 0 ≈ O) → Gen L τ (whole q) L.I) → Gen L τ (whole p) L.I
        go y again = elim (poly_zero R is_zero (step y.u)) [
          | yes z ↦ reached p y.u y.gen y.low (λ i. free (pos (suc i)) (pos_ne i) (coef R y.u (suc i)) (flat i z))
          | no z ↦ descend (lowest D (step y.u) z)
        ]
          where
            flat : (i : ℕ) → step y.u ≋ [] → pow R α (suc i) ⊠ σ.on (coef R y.u (suc i)) ≈ coef R y.u (suc i)
            flat i z = by R (pow R α (suc i) ∷ σ.on (coef R y.u (suc i)) ∷ coef R y.u (suc i) ∷ []) (trans (symm (step-coef y.u (suc i))) (z.image.at (suc i))) (search reads depth 16) refl

            at_zero : coef R (step y.u) 0 ≈ O
            at_zero = trans (step-coef y.u 0) (trans (add_cong (trans (I_mul R) (trans (σ.on_cong (coef R y.u 0) I y.low) σ.on-one)) (R.neg_cong y.low)) R.add_neg)

            past : (i : ℕ) → suc (suc n) ≤ i → coef R (step y.u) i ≈ O
            past i l = trans (step-coef y.u i) (trans (add_cong (trans (mul_cong rfl (trans (σ.on_cong (coef R y.u i) O (y.short.none_from i l)) (on-O R R σ))) (mul_O R)) (R.neg_cong (y.short.none_from i l))) R.add_neg)

            descend : Low D (step y.u) → Gen L τ (whole p) L.I
            descend l = from l.power refl
              where
                from : (j : ℕ) → l.power ≡ j → Gen L τ (whole p) L.I
                from zero e = absurd (l.some (trans (l.at_rest 0 0 (omega (arith, e))) at_zero))
                from (suc j) e = gen_trans L τ (whole p) (whole l.rest)
                    (g_same (lifted_power D l.rest l.power) (g_mul (record { poly = I ∷ []; lag = l.power }) (g_same ((polynomialH D).on_cong (step y.u) (pow (P D) (X R) l.power ⊗ l.rest) l.is) (step-gen p y.u y.gen))))
                    (again l.rest (record { none_from = λ i k. trans (l.at_rest i (l.power + i) refl) (past (l.power + i) (omega (arith, e, k))) }) l.some)

    law : (x : Laurent D) → ¬ (L.◌≈◌ x L.O) → Gen L τ x L.I
    law x h = go (lowest D x.poly (λ z. h (zero_poly D x z)))
      where
        swapped : (q p : List A) → (q ⊗ p) ⊗ (I ∷ []) ≋ p ⊗ q
        swapped q p = ring (P D) (q ∷ p ∷ []) (search reads depth 16) refl

        cleared : L.◌≈◌ (L.◌⊠◌ (whole (pow (P D) (X R) x.lag)) x) (whole x.poly)
        cleared = equal D (L.◌⊠◌ (whole (pow (P D) (X R) x.lag)) x) (whole x.poly) (let e : 0 + x.lag ≡ x.lag = omega arith in rw e (swapped (pow (P D) (X R) x.lag) x.poly))

        go : Low D x.poly → Gen L τ x L.I
        go l = gen_trans L τ x (whole l.rest)
            (g_same (lifted_power D l.rest l.power) (g_mul (record { poly = I ∷ []; lag = l.power })
            (g_same ((polynomialH D).on_cong x.poly (pow (P D) (X R) l.power ⊗ l.rest) l.is) (g_same cleared (g_mul (whole (pow (P D) (X R) x.lag)) g_self)))))
            (law_from (length l.rest) l.rest (record { none_from = λ i k. coef-past R l.rest i (omega (arith, k)) }) l.some)

    pub lawful_product : Lawful (LaurentD D) τ
    lawful_product = record {
      char = λ n z. good.char n (trans (symm (at_cong D (nat L (suc n)) (whole (nat R (suc n) ∷ [])) (L.symm (on-nat R L (constantsH D) (suc n))) (pos 0))) (trans (at_cong D (nat L (suc n)) L.O z (pos 0)) (at-none D (pos 0))));
      fixed = fixed_unit;
      law = law;
    }
