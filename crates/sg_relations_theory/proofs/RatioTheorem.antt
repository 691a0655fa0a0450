-- Which fractions of coprime elements are of the form τ(r)/r: only one.
--   Rel              what is to be shown of a map σ: where V τ(r) = c U r with U and V apart and c a unit, U and V are units and V = c U
--   Inside           the domain in a field
--   rel              it holds, where the denominator of a solution is a unit as the terminal lemma says, and units stay as they are under the map
--   rel_identity     it holds of the identity
use Rattle.std.proofs.Common.{ℕ, suc, refl, [], ◌∷◌}
use Rattle.sg_algebra.specs.Ring.{Domain, Field, Hom}
use Rattle.sg_algebra.proofs.Solver.{by, scale, reads}
use Rattle.sg_algebra.proofs.Ring.{O_mul}
use Rattle.sg_algebra.proofs.Divides.{Divides, iter, dvd_refl}
use Rattle.sg_algebra.proofs.Coprime.{Coprime, coprime_symm, coprime-mul, coprime_unit}
use Rattle.sg_algebra.proofs.Field.{field_cancel}
use Rattle.sg_first_order_theory.proofs.Terminal.{Sides}
use Rattle.sg_first_order_theory.proofs.Fractions.{Fractions, Solves, solution_sides, whole_part}
use Rattle.sg_relations_theory.proofs.Apart.{Apart, apart-mul_left, apart_unit, unit_coprime}
use Rattle.sg_relations_theory.proofs.PowerLaws.{Some}
use Rattle.sg_relations_theory.proofs.Similar.{on-inv}

-- a domain with a map σ in a field with a map τ; which images of it are the same, it knows
pub record Inside (D : Domain) (K : Field) : Type 0 where
  pub ι : D.R.A → K.R.A
  pub ι_cong : (x y : D.R.A) → D.R.◌≈◌ x y → K.R.◌≈◌ (ι x) (ι y)
  pub ι_same : (x y : D.R.A) → K.R.◌≈◌ (ι x) (ι y) → D.R.◌≈◌ x y
  pub ι-mul : (x y : D.R.A) → K.R.◌≈◌ (ι (D.R.◌⊠◌ x y)) (K.R.◌⊠◌ (ι x) (ι y))
  pub ι-one : K.R.◌≈◌ (ι D.R.I) K.R.I
  pub ι-zero : K.R.◌≈◌ (ι D.R.O) K.R.O
  pub τ : Hom K.R K.R

abbrev pub inside : {D : Domain} {σ : Hom D.R D.R} {K : Field} → Fractions D σ K → Inside D K
inside f = record { ι = f.ι; ι_cong = f.ι_cong; ι_same = f.ι_same; ι-mul = f.ι-mul; ι-one = f.ι-one; ι-zero = f.ι-zero; τ = f.τ }

module _ (D : Domain) (σ : Hom D.R D.R) (K : Field) where
  open D use {R, cancel_mul}
  open R use {A, ◌≈◌, ◌⊞◌, ◌⊠◌, ⊟, O, I, rfl, symm, trans, add_cong, mul_cong, mul_comm, mul_I, mul_assoc}
  open K use {R as S, inv, mul_inv}
  open S use {A as T, ◌≈◌ as ◌≃◌, ◌⊞◌ as ◌+ᵏ◌, ◌⊠◌ as ◌*ᵏ◌, ⊟ as minus, O as Oᵏ, I as Iᵏ, rfl as rflᵏ, symm as symmᵏ, trans as transᵏ, add_cong as addᵏ, mul_cong as mulᵏ}

  pub record Related (U V c : A) : Type 0 where
    pub left : Divides R U I
    pub right : Divides R V I
    pub same : V ≈ c ⊠ U

  abbrev pub Rel : Inside D K → Type 0
  Rel g = (U V c : A) → Divides R c I → Apart R σ U V → (r : T) → Some K r → g.ι V *ᵏ g.τ.on r ≃ g.ι (c ⊠ U) *ᵏ r → Related U V c

  -- V = c U with U and V coprime
  related : (U V c : A) → Divides R c I → Coprime R U V → V ≈ c ⊠ U → Related U V c
  related U V c d k e = record {
    left = unit;
    right = record { cofactor = d.cofactor ⊠ unit.cofactor; is = by R (c ∷ U ∷ V ∷ d.cofactor ∷ unit.cofactor ∷ []) (add_cong (mul_cong d.is unit.is) (scale R (⊟ (d.cofactor ⊠ unit.cofactor)) e)) (search reads depth 16 fits 4000) refl };
    same = e;
  }
    where
      unit : Divides R U I
      unit = coprime_unit R U V U (dvd_refl R U) (record { cofactor = c; is = trans e mul_comm }) k

  module _ (f : Fractions D σ K) (unit_below : (a b q : A) → ¬ (q ≈ O) → Sides R σ a b q → ((m : ℕ) → Coprime R a (iter R σ (suc m) b)) → Divides R q I) (unit_fixed : (x : A) → Divides R x I → σ.on x ≈ x) where
    open f use {ι, ι_cong, ι_same, ι-add, ι-mul, ι-neg, ι-one, ι-zero, τ, ι-on, parts, lowest, q_ne}

    scaled_coprime : (c U x : A) → Divides R c I → Coprime R U x → Coprime R (c ⊠ U) x
    scaled_coprime c U x d k = coprime_symm R x (c ⊠ U) (coprime-mul R x c U (coprime_symm R c x (unit_coprime R σ c x d)) (coprime_symm R U x k))

    unit_ne : (x : A) → Divides R x I → ¬ (x ≈ O)
    unit_ne x d e = D.one_ne (trans d.is (trans (mul_cong e rfl) (O_mul R)))

    -- a solution of V τ(r) = W r has a unit below, where V is coprime to all later W
    unit_part : (V W : A) → ((m : ℕ) → Coprime R V (iter R σ (suc m) W)) → (r : T) → ι V *ᵏ τ.on r ≃ ι W *ᵏ r → Divides R (f.q r) I
    unit_part V W k r h = unit_below V W (f.q r) (q_ne r) (solution_sides D σ K f V W O r solves) k
      where
        solves : Solves D σ K f V W (ι O) r
        solves = transᵏ (by S (ι V ∷ ι W ∷ r ∷ τ.on r ∷ []) h (search reads depth 16) refl) (symmᵏ ι-zero)

    pub rel : Rel (inside f)
    rel U V c d k r some h = related U V c d (k.ahead 0) (symm (cancel_mul x_ne x_same))
      where
        W : A
        W = c ⊠ U

        apart : Apart R σ W V
        apart = apart-mul_left R σ c U V (apart_unit R σ c V d) k

        below : Divides R (f.q r) I
        below = unit_part V W (λ m. apart.behind (suc m)) r h

        above : Divides R (f.q (inv r)) I
        above = unit_part W V (λ m. apart.ahead (suc m)) (inv r)
            (by S (ι V ∷ ι W ∷ r ∷ inv r ∷ τ.on r ∷ τ.on (inv r) ∷ [])
            (addᵏ (scale S (minus (inv r *ᵏ τ.on (inv r))) h) (addᵏ (scale S (minus (ι W *ᵏ τ.on (inv r))) (mul_inv r some)) (scale S (ι V *ᵏ inv r) (on-inv K τ r some)))) (search reads depth 20 fits 6000) refl)

        x : A
        x = f.p r ⊠ below.cofactor

        y : A
        y = f.p (inv r) ⊠ above.cofactor

        r_is : r ≃ ι x
        r_is = whole_part D σ K f r below

        one : I ≈ x ⊠ y
        one = ι_same I (x ⊠ y) (transᵏ ι-one (transᵏ (symmᵏ (mul_inv r some)) (transᵏ (mulᵏ r_is (whole_part D σ K f (inv r) above)) (symmᵏ (ι-mul x y)))))

        x_unit : Divides R x I
        x_unit = record { cofactor = y; is = one }

        x_ne : ¬ (x ≈ O)
        x_ne = unit_ne x x_unit

        x_same : x ⊠ W ≈ x ⊠ V
        x_same = by R (x ∷ σ.on x ∷ V ∷ W ∷ []) (add_cong (symm moved) (scale R (⊟ V) (symm (unit_fixed x x_unit)))) (search reads depth 16) refl
          where
            moved : V ⊠ σ.on x ≈ W ⊠ x
            moved = ι_same (V ⊠ σ.on x) (W ⊠ x) (transᵏ (ι-mul V (σ.on x)) (transᵏ (mulᵏ rflᵏ (transᵏ (symmᵏ (ι-on x)) (symmᵏ (τ.on_cong r (ι x) r_is)))) (transᵏ h (transᵏ (mulᵏ rflᵏ r_is) (symmᵏ (ι-mul W x))))))

  pub rel_identity : (g : Inside D K) → ((x : T) → g.τ.on x ≃ x) → Rel g
  rel_identity g still U V c d k r some h = related U V c d (k.ahead 0) (g.ι_same V (c ⊠ U) (field_cancel K some (transᵏ S.mul_comm (transᵏ (mulᵏ rflᵏ (symmᵏ (still r))) (transᵏ h S.mul_comm)))))
