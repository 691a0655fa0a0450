-- A product of powers of elements that are pairwise apart, no units, is of the form τ(r)/r only where all exponents are 0. No element needs to be apart from its own images.
--   AllApart ps        any two elements in different places are apart
--   AreGenerators ps   they are, none is 0 and none is a unit
--   Zeros ps y         the exponents of y that stand at an element of ps are 0
--   independent        where c times the product of the powers of ps by y is τ(r)/r, for a unit c, the exponents are 0 and c is 1
use Rattle.std.proofs.Common.{◌≡◌, ℕ, zero, suc, refl, List, [], ◌∷◌, map, ℤ, pos, negsuc}
use Rattle.sg_algebra.specs.Ring.{Domain, Field, Hom}
use Rattle.sg_algebra.specs.Coefficients.{Each}
use Rattle.sg_algebra.proofs.Ring.{pow, I_mul}
use Rattle.sg_algebra.proofs.Solver.{by, ring, scale, reads}
use Rattle.sg_algebra.proofs.Divides.{Divides, dvd_trans}
use Rattle.sg_relations_theory.proofs.Apart.{Apart, apart_symm, apart_one, apart-mul, apart-mul_left, apart-pow, apart-pow_left}
use Rattle.sg_tower_theory.specs.Powers.{power, powers}
use Rattle.sg_relations_theory.proofs.PowerLaws.{Some}
use Rattle.sg_relations_theory.proofs.Similar.{Similar}
use Rattle.sg_relations_theory.proofs.RatioTheorem.{Inside, Rel, Related}

abbrev pub up_part : ℤ → ℕ
up_part (pos n) = n
up_part (negsuc n) = 0

abbrev pub down_part : ℤ → ℕ
down_part (pos n) = 0
down_part (negsuc n) = suc n

abbrev pub Zeros : {A : Type 0} → List A → List ℤ → Type 0
Zeros [] y = Unit {0}
Zeros (p ∷ ps) [] = Unit {0}
Zeros (p ∷ ps) (e ∷ y) = (e ≡ pos 0) × Zeros ps y

module _ (D : Domain) (σ : Hom D.R D.R) where
  open D use {R}
  open R use {A, ◌≈◌, ◌⊠◌, O, I, rfl, symm, trans, mul_cong, mul_comm, mul_I}

  abbrev pub AllApart : List A → Type 0
  AllApart [] = Unit {0}
  AllApart (p ∷ ps) = Each (Apart R σ p) ps × AllApart ps

  pub record AreGenerators (ps : List A) : Type 0 where
    pub apart : AllApart ps
    pub some : Each (λ p. ¬ (p ≈ O)) ps
    pub proper : Each (λ p. ¬ Divides R p I) ps

  abbrev pub ups : List A → List ℤ → A
  ups [] y = I
  ups (p ∷ ps) [] = I
  ups (p ∷ ps) (e ∷ y) = pow R p (up_part e) ⊠ ups ps y

  abbrev pub downs : List A → List ℤ → A
  downs [] y = I
  downs (p ∷ ps) [] = I
  downs (p ∷ ps) (e ∷ y) = pow R p (down_part e) ⊠ downs ps y

  apart-ups : (p : A) (ps : List A) (y : List ℤ) → Each (Apart R σ p) ps → Apart R σ p (ups ps y)
  apart-ups p [] y h = apart_symm R σ I p (apart_one R σ p)
  apart-ups p (q ∷ ps) [] h = apart_symm R σ I p (apart_one R σ p)
  apart-ups p (q ∷ ps) (e ∷ y) h = apart-mul R σ p (pow R q (up_part e)) (ups ps y) (apart-pow R σ p q (up_part e) h.0) (apart-ups p ps y h.1)

  apart-downs : (p : A) (ps : List A) (y : List ℤ) → Each (Apart R σ p) ps → Apart R σ p (downs ps y)
  apart-downs p [] y h = apart_symm R σ I p (apart_one R σ p)
  apart-downs p (q ∷ ps) [] h = apart_symm R σ I p (apart_one R σ p)
  apart-downs p (q ∷ ps) (e ∷ y) h = apart-mul R σ p (pow R q (down_part e)) (downs ps y) (apart-pow R σ p q (down_part e) h.0) (apart-downs p ps y h.1)

  -- one of the two powers is 1
  own : (p : A) (e : ℤ) → Apart R σ (pow R p (up_part e)) (pow R p (down_part e))
  own p (pos n) = apart_symm R σ I (pow R p n) (apart_one R σ (pow R p n))
  own p (negsuc n) = apart_one R σ (pow R p (suc n))

  pub ups_downs : (ps : List A) (y : List ℤ) → AllApart ps → Apart R σ (ups ps y) (downs ps y)
  ups_downs [] y h = apart_one R σ I
  ups_downs (p ∷ ps) [] h = apart_one R σ I
  ups_downs (p ∷ ps) (e ∷ y) h =
      apart-mul_left R σ (pow R p (up_part e)) (ups ps y) (pow R p (down_part e) ⊠ downs ps y)
      (apart-mul R σ (pow R p (up_part e)) (pow R p (down_part e)) (downs ps y) (own p e) (apart-pow_left R σ p (downs ps y) (up_part e) (apart-downs p ps y h.0)))
      (apart-mul R σ (ups ps y) (pow R p (down_part e)) (downs ps y)
      (apart-pow R σ (ups ps y) p (down_part e) (apart_symm R σ p (ups ps y) (apart-ups p ps y h.0)))
      (ups_downs ps y h.1))

  first_unit : (x y : A) → Divides R (x ⊠ y) I → Divides R x I
  first_unit x y d = dvd_trans R x (x ⊠ y) I (record { cofactor = y; is = rfl }) d

  second_unit : (x y : A) → Divides R (x ⊠ y) I → Divides R y I
  second_unit x y d = dvd_trans R y (x ⊠ y) I (record { cofactor = x; is = mul_comm }) d

  zero_exponent : (p : A) (e : ℤ) → ¬ Divides R p I → Divides R (pow R p (up_part e)) I → Divides R (pow R p (down_part e)) I → e ≡ pos 0
  zero_exponent p (pos zero) h u w = refl
  zero_exponent p (pos (suc n)) h u w = absurd (h (second_unit (pow R p n) p u))
  zero_exponent p (negsuc n) h u w = absurd (h (second_unit (pow R p n) p w))

  pub unit_zeros : (ps : List A) (y : List ℤ) → Each (λ p. ¬ Divides R p I) ps → Divides R (ups ps y) I → Divides R (downs ps y) I → Zeros ps y
  unit_zeros [] y h u w = tt
  unit_zeros (p ∷ ps) [] h u w = tt
  unit_zeros (p ∷ ps) (e ∷ y) h u w = (
    zero_exponent p e h.0 (first_unit (pow R p (up_part e)) (ups ps y) u) (first_unit (pow R p (down_part e)) (downs ps y) w),
    unit_zeros ps y h.1 (second_unit (pow R p (up_part e)) (ups ps y) u) (second_unit (pow R p (down_part e)) (downs ps y) w),
  )

  zero_ups : (ps : List A) (y : List ℤ) → Zeros ps y → (ups ps y ≈ I) × (downs ps y ≈ I)
  zero_ups [] y z = (rfl, rfl)
  zero_ups (p ∷ ps) [] z = (rfl, rfl)
  zero_ups (p ∷ ps) (e ∷ y) z = rw (z.0) (trans (I_mul R) (zero_ups ps y z.1).0, trans (I_mul R) (zero_ups ps y z.1).1)

  module _ (K : Field) (f : Inside D K) where
    open f use {ι, ι_cong, ι_same, ι-mul, ι-one, ι-zero, τ}
    open K use {R as S, inv, mul_inv}
    open S use {A as T, ◌≈◌ as ◌≃◌, ◌⊞◌ as ◌+ᵏ◌, ◌⊠◌ as ◌*ᵏ◌, ⊟ as minus, O as Oᵏ, I as Iᵏ, rfl as rflᵏ, symm as symmᵏ, trans as transᵏ, add_cong as addᵏ, mul_cong as mulᵏ}

    pub ι_some : (x : A) → ¬ (x ≈ O) → Some K (ι x)
    ι_some x h e = h (ι_same x O (transᵏ e (symmᵏ ι-zero)))

    pub all_some : (ps : List A) → Each (λ p. ¬ (p ≈ O)) ps → Each (Some K) (map ι ps)
    all_some [] h = tt
    all_some (p ∷ ps) h = (ι_some p h.0, all_some ps h.1)

    ι-pow : (x : A) (n : ℕ) → ι (pow R x n) ≃ pow S (ι x) n
    ι-pow x zero = ι-one
    ι-pow x (suc n) = transᵏ (ι-mul (pow R x n) x) (mulᵏ (ι-pow x n) rflᵏ)

    undo : (x : T) (n : ℕ) → Some K x → pow S (inv x) n *ᵏ pow S x n ≃ Iᵏ
    undo x zero h = S.mul_I
    undo x (suc n) h = transᵏ (ring S (pow S (inv x) n ∷ inv x ∷ pow S x n ∷ x ∷ []) (search reads depth 16) refl) (transᵏ (mulᵏ (undo x n h) (mul_inv x h)) S.mul_I)

    one_power : (p : A) (e : ℤ) → ¬ (p ≈ O) → ι (pow R p (up_part e)) ≃ power K (ι p) e *ᵏ ι (pow R p (down_part e))
    one_power p (pos n) h = transᵏ (ι-pow p n) (symmᵏ (transᵏ (mulᵏ rflᵏ ι-one) S.mul_I))
    one_power p (negsuc n) h = transᵏ ι-one (transᵏ (symmᵏ (undo (ι p) (suc n) (ι_some p h))) (mulᵏ rflᵏ (symmᵏ (ι-pow p (suc n)))))

    pub parted : (ps : List A) (y : List ℤ) → Each (λ p. ¬ (p ≈ O)) ps → ι (ups ps y) ≃ powers K (map ι ps) y *ᵏ ι (downs ps y)
    parted [] y h = symmᵏ (I_mul S)
    parted (p ∷ ps) [] h = symmᵏ (I_mul S)
    parted (p ∷ ps) (e ∷ y) h =
        transᵏ (ι-mul (pow R p (up_part e)) (ups ps y)) (transᵏ (mulᵏ (one_power p e h.0) (parted ps y h.1))
        (transᵏ (ring S (power K (ι p) e ∷ ι (pow R p (down_part e)) ∷ powers K (map ι ps) y ∷ ι (downs ps y) ∷ []) (search reads depth 16) refl)
        (mulᵏ rflᵏ (symmᵏ (ι-mul (pow R p (down_part e)) (downs ps y))))))

    pub independent : Rel D σ K f → (ps : List A) → AreGenerators ps → (c : A) → Divides R c I → (y : List ℤ) → Similar K τ (ι c *ᵏ powers K (map ι ps) y) Iᵏ → Zeros ps y × (c ≈ I)
    independent rel ps g c d y s = (zeros, one)
      where
        U : A
        U = ups ps y

        V : A
        V = downs ps y

        P : T
        P = powers K (map ι ps) y

        found : Related D σ K U V c
        found = rel U V c d (ups_downs ps y g.apart) s.r s.some
            (transᵏ (by S (ι c ∷ P ∷ ι U ∷ ι V ∷ s.r ∷ τ.on s.r ∷ []) (addᵏ (scale S (ι V) s.is) (scale S (minus (ι c *ᵏ s.r)) (parted ps y g.some))) (search reads depth 20 fits 5000) refl)
            (mulᵏ (symmᵏ (ι-mul c U)) (rflᵏ {x = s.r})))

        zeros : Zeros ps y
        zeros = unit_zeros ps y g.proper found.left found.right

        one : c ≈ I
        one = let z = zero_ups ps y zeros in symm (trans (symm z.1) (trans found.same (trans (mul_cong rfl z.0) mul_I)))
