-- Which products of powers of given elements are of the form τ(r)/r: those whose exponents send the rows of exponents to 0.
--   Written x        the element x as c times a product of powers of the generators, up to τ(r)/r, c a unit of the domain
--   total xs rows    the sum of the multiples of the rows by xs
--   row_law          the product of the powers of written elements by xs is c τ(r)/r, for a unit c, exactly where the total of their rows is 0 and the product of the powers of their units is c
use Rattle.std.proofs.Common.{ℕ, zero, suc, refl, List, [], ◌∷◌, map, ℤ, pos, negsuc}
use Rattle.sg_algebra.specs.Ring.{Domain, Field, Hom}
use Rattle.sg_algebra.specs.Coefficients.{Each}
use Rattle.sg_algebra.proofs.Ring.{pow, I_mul, O_mul}
use Rattle.sg_algebra.proofs.Solver.{by, ring, scale, reads}
use Rattle.sg_algebra.proofs.Field.{domain, product_ne, inv_is}
use Rattle.sg_algebra.proofs.Divides.{Divides}
use Rattle.sg_tower_theory.specs.Powers.{power, powers}
use Rattle.sg_relations_theory.specs.Rows.{sum_row, multiple_row, total}
use Rattle.sg_relations_theory.proofs.PowerLaws.{Some, powers_ne, powers-sum, powers-multiple, mul-power}
use Rattle.sg_relations_theory.proofs.Similar.{Similar, similar_same, similar_refl, similar_symm, similar_trans, similar-mul, similar-power}
use Rattle.sg_relations_theory.proofs.RatioTheorem.{Inside, Rel}
use Rattle.sg_relations_theory.proofs.Generators.{AreGenerators, Zeros, independent, ι_some, all_some}

module _ (D : Domain) (σ : Hom D.R D.R) (K : Field) (f : Inside D K) where
  open D use {R}
  open R use {A, ◌≈◌, ◌⊠◌, O, I, rfl, symm, trans, mul_cong, mul_comm, mul_I}
  open f use {ι, ι_cong, ι_same, ι-mul, ι-one, ι-zero, τ}
  open K use {R as S, inv, mul_inv}
  open S use {A as T, ◌≈◌ as ◌≃◌, ◌⊞◌ as ◌+ᵏ◌, ◌⊠◌ as ◌*ᵏ◌, ⊟ as minus, O as Oᵏ, I as Iᵏ, rfl as rflᵏ, symm as symmᵏ, trans as transᵏ, add_cong as addᵏ, mul_cong as mulᵏ}

  -- ---- Units of the domain, in the field

  pub record UnitValue (c : T) : Type 0 where
    pub u : A
    pub unit : Divides R u I
    pub is : c ≃ ι u

  pub unit_value_one : UnitValue Iᵏ
  unit_value_one = record { u = I; unit = record { cofactor = I; is = symm mul_I }; is = symmᵏ ι-one }

  pub unit_value-mul : (c d : T) → UnitValue c → UnitValue d → UnitValue (c *ᵏ d)
  unit_value-mul c d h k = record {
    u = h.u ⊠ k.u;
    unit = record { cofactor = h.unit.cofactor ⊠ k.unit.cofactor; is = by R (h.u ∷ k.u ∷ h.unit.cofactor ∷ k.unit.cofactor ∷ []) (mul_cong h.unit.is k.unit.is) (search reads depth 16) refl };
    is = transᵏ (mulᵏ h.is k.is) (symmᵏ (ι-mul h.u k.u));
  }

  pub unit_value_some : (c : T) → UnitValue c → Some K c
  unit_value_some c h z = ι_some D σ K f h.u (λ e. D.one_ne (trans h.unit.is (trans (mul_cong e rfl) (O_mul R)))) (transᵏ (symmᵏ h.is) z)

  pub unit_value-inv : (c : T) → UnitValue c → UnitValue (inv c)
  unit_value-inv c h = record {
    u = h.unit.cofactor;
    unit = record { cofactor = h.u; is = trans h.unit.is mul_comm };
    is = symmᵏ (inv_is K c (ι h.unit.cofactor) (unit_value_some c h) (transᵏ (mulᵏ h.is rflᵏ) (transᵏ (symmᵏ (ι-mul h.u h.unit.cofactor)) (transᵏ (symmᵏ (ι_cong I (h.u ⊠ h.unit.cofactor) h.unit.is)) ι-one))));
  }

  unit_value-pow : (c : T) (n : ℕ) → UnitValue c → UnitValue (pow S c n)
  unit_value-pow c zero h = unit_value_one
  unit_value-pow c (suc n) h = unit_value-mul (pow S c n) c (unit_value-pow c n h) h

  pub unit_value-power : (c : T) (e : ℤ) → UnitValue c → UnitValue (power K c e)
  unit_value-power c (pos n) h = unit_value-pow c n h
  unit_value-power c (negsuc n) h = unit_value-pow (inv c) (suc n) (unit_value-inv c h)

  pub unit_value-powers : (cs : List T) (xs : List ℤ) → Each UnitValue cs → UnitValue (powers K cs xs)
  unit_value-powers [] xs h = unit_value_one
  unit_value-powers (c ∷ cs) [] h = unit_value_one
  unit_value-powers (c ∷ cs) (x ∷ xs) h = unit_value-mul (power K c x) (powers K cs xs) (unit_value-power c x h.0) (unit_value-powers cs xs h.1)

  -- ---- Written elements

  module _ (ps : List A) (gens : AreGenerators D σ ps) where
    abbrev gs : List T
    gs = map ι ps

    gs_some : Each (Some K) gs
    gs_some = all_some D σ K f ps gens.some

    pub record Written (x : T) : Type 0 where
      pub some : Some K x
      pub c : T
      pub exps : List ℤ
      pub constant : UnitValue c
      pub is : Similar K τ x (c *ᵏ powers K gs exps)

    -- a list of elements, their units and their rows
    abbrev pub AllWritten : List T → List T → List (List ℤ) → Type 0
    AllWritten [] [] [] = Unit {0}
    AllWritten (x ∷ xs) (c ∷ cs) (e ∷ es) = Some K x × UnitValue c × Similar K τ x (c *ᵏ powers K gs e) × AllWritten xs cs es
    AllWritten [] [] (e ∷ es) = ⊥
    AllWritten [] (c ∷ cs) es = ⊥
    AllWritten (x ∷ xs) [] es = ⊥
    AllWritten (x ∷ xs) (c ∷ cs) [] = ⊥

    pub units : (αs cs : List T) (es : List (List ℤ)) → AllWritten αs cs es → Each UnitValue cs
    units [] [] [] w = tt
    units (x ∷ αs) (c ∷ cs) (e ∷ es) w = (w.1, units αs cs es w.3)
    units [] [] (e ∷ es) w = absurd w
    units [] (c ∷ cs) es w = absurd w
    units (x ∷ αs) [] es w = absurd w
    units (x ∷ αs) (c ∷ cs) [] w = absurd w

    -- the product of powers is the product of the powers of the units times that of the generators by the total row
    pub gathered : (αs cs : List T) (es : List (List ℤ)) → AllWritten αs cs es → (xs : List ℤ) → Similar K τ (powers K αs xs) (powers K cs xs *ᵏ powers K gs (total xs es))
    gathered [] [] [] w xs = similar_same K τ Iᵏ Iᵏ Iᵏ (Iᵏ *ᵏ powers K gs (total xs [])) rflᵏ (nothing xs) (similar_refl K τ Iᵏ)
      where
        none : powers K gs [] ≃ Iᵏ
        none = go gs
          where
            go : (gs : List T) → powers K gs [] ≃ Iᵏ
            go [] = rflᵏ
            go (g ∷ gs) = rflᵏ

        nothing : (xs : List ℤ) → Iᵏ ≃ Iᵏ *ᵏ powers K gs (total xs [])
        nothing [] = symmᵏ (transᵏ (I_mul S) none)
        nothing (x ∷ xs) = symmᵏ (transᵏ (I_mul S) none)
    gathered (α ∷ αs) (c ∷ cs) (e ∷ es) w [] = similar_same K τ Iᵏ Iᵏ Iᵏ (Iᵏ *ᵏ powers K gs []) rflᵏ (symmᵏ (transᵏ (I_mul S) (go gs))) (similar_refl K τ Iᵏ)
      where
        go : (gs : List T) → powers K gs [] ≃ Iᵏ
        go [] = rflᵏ
        go (g ∷ gs) = rflᵏ
    gathered (α ∷ αs) (c ∷ cs) (e ∷ es) w (x ∷ xs) =
        similar_same K τ (power K α x *ᵏ powers K αs xs) (power K (c *ᵏ powers K gs e) x *ᵏ (powers K cs xs *ᵏ powers K gs (total xs es)))
        (power K α x *ᵏ powers K αs xs) ((power K c x *ᵏ powers K cs xs) *ᵏ powers K gs (sum_row (multiple_row x e) (total xs es))) rflᵏ order
        (similar-mul K τ (power K α x) (power K (c *ᵏ powers K gs e) x) (powers K αs xs) (powers K cs xs *ᵏ powers K gs (total xs es))
        (similar-power K τ α (c *ᵏ powers K gs e) x w.0 (product_ne (domain K) c_some ps_some) w.2) (gathered αs cs es w.3 xs))
      where
        c_some : Some K c
        c_some = unit_value_some c w.1

        ps_some : Some K (powers K gs e)
        ps_some = powers_ne K gs e gs_some

        order : power K (c *ᵏ powers K gs e) x *ᵏ (powers K cs xs *ᵏ powers K gs (total xs es)) ≃ (power K c x *ᵏ powers K cs xs) *ᵏ powers K gs (sum_row (multiple_row x e) (total xs es))
        order = transᵏ (mulᵏ (mul-power K c (powers K gs e) x c_some ps_some) rflᵏ)
            (transᵏ (ring S (power K c x ∷ power K (powers K gs e) x ∷ powers K cs xs ∷ powers K gs (total xs es) ∷ []) (search reads depth 16) refl)
            (mulᵏ rflᵏ (symmᵏ (transᵏ (powers-sum K gs (multiple_row x e) (total xs es) gs_some) (mulᵏ (powers-multiple K gs x e gs_some) rflᵏ)))))
    gathered [] [] (e ∷ es) w xs = absurd w
    gathered [] (c ∷ cs) es w xs = absurd w
    gathered (x ∷ αs) [] es w xs = absurd w
    gathered (x ∷ αs) (c ∷ cs) [] w xs = absurd w

    zero_powers : (qs : List A) (y : List ℤ) → Zeros qs y → powers K (map ι qs) y ≃ Iᵏ
    zero_powers [] y z = rflᵏ
    zero_powers (q ∷ qs) [] z = rflᵏ
    zero_powers (q ∷ qs) (e ∷ y) z = rw (z.0) (transᵏ (I_mul S) (zero_powers qs y z.1))

    module _ (rel : Rel D σ K f) (αs cs : List T) (es : List (List ℤ)) (w : AllWritten αs cs es) (xs : List ℤ) (k : T) (k_unit : UnitValue k) where
      abbrev C : T
      C = powers K cs xs

      C_unit : UnitValue C
      C_unit = unit_value-powers cs xs (units αs cs es w)

      abbrev P : T
      P = powers K gs (total xs es)

      P_some : Some K P
      P_some = powers_ne K gs (total xs es) gs_some

      pub row_law_to : Similar K τ (powers K αs xs) k → Zeros ps (total xs es) × (C ≃ k)
      row_law_to s = (found.0, back one)
        where
          u : UnitValue (C *ᵏ inv k)
          u = unit_value-mul C (inv k) C_unit (unit_value-inv k k_unit)

          k_some : Some K k
          k_some = unit_value_some k k_unit

          s1 : Similar K τ (C *ᵏ P) k
          s1 = similar_trans K τ (C *ᵏ P) (powers K αs xs) k (similar_symm K τ (powers K αs xs) (C *ᵏ P) (gathered αs cs es w xs)) s some
            where
              some : Some K (powers K αs xs)
              some = powers_ne K αs xs (all αs cs es w)
                where
                  all : (αs cs : List T) (es : List (List ℤ)) → AllWritten αs cs es → Each (Some K) αs
                  all [] [] [] w = tt
                  all (x ∷ αs) (c ∷ cs) (e ∷ es) w = (w.0, all αs cs es w.3)
                  all [] [] (e ∷ es) w = absurd w
                  all [] (c ∷ cs) es w = absurd w
                  all (x ∷ αs) [] es w = absurd w
                  all (x ∷ αs) (c ∷ cs) [] w = absurd w

          s2 : Similar K τ (ι u.u *ᵏ P) Iᵏ
          s2 = similar_same K τ ((C *ᵏ P) *ᵏ inv k) (k *ᵏ inv k) (ι u.u *ᵏ P) Iᵏ
              (transᵏ (ring S (C ∷ P ∷ inv k ∷ []) (search reads depth 16) refl) (mulᵏ u.is rflᵏ)) (mul_inv k k_some)
              (similar-mul K τ (C *ᵏ P) k (inv k) (inv k) s1 (similar_refl K τ (inv k)))

          found : Zeros ps (total xs es) × (u.u ≈ I)
          found = independent D σ K f rel ps gens u.u u.unit (total xs es) s2

          one : C *ᵏ inv k ≃ Iᵏ
          one = transᵏ u.is (transᵏ (ι_cong u.u I found.1) ι-one)

          back : C *ᵏ inv k ≃ Iᵏ → C ≃ k
          back e = by S (C ∷ k ∷ inv k ∷ []) (addᵏ (scale S k e) (scale S (minus C) (mul_inv k k_some))) (search reads depth 16) refl

      pub row_law_from : Zeros ps (total xs es) → C ≃ k → Similar K τ (powers K αs xs) k
      row_law_from z e = similar_same K τ (powers K αs xs) (C *ᵏ P) (powers K αs xs) k rflᵏ (transᵏ (mulᵏ e (zero_powers ps (total xs es) z)) S.mul_I) (gathered αs cs es w xs)
