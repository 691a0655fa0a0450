-- The words of a formal tower with one more sum are those of polynomials over the tower. The sum of H(k).
use Rattle.std.proofs.Common.{◌≡◌, ℕ, zero, suc, ◌≤◌, refl, List, [], ◌∷◌, arith}
use Rattle.sg_algebra.specs.Ring.{Ring}
use Rattle.sg_algebra.specs.Coefficients.{coef}
use Rattle.sg_algebra.proofs.Solver.{by, scale, reads}
use Rattle.sg_algebra.proofs.Divides.{on-neg}
use Rattle.sg_algebra.proofs.PolynomialRing.{PolyR}
use Rattle.sg_algebra.proofs.Degree.{Below}
use Rattle.sg_algebra.proofs.Shift.{twist}
use Rattle.sg_algebra.proofs.Value.{Value}
use Rattle.sg_tower_theory.proofs.Difference.{Difference, delta, Solves}
use Rattle.sg_tower_theory.proofs.Above.{above, delta-top, delta-past, delta-second}
use Rattle.sg_tower_theory.proofs.Degrees.{IsNew}
use Rattle.sg_tower_theory.proofs.ShiftValue.{shift_value}
use Rattle.sg_tower_theory.proofs.Formal.{Formal, Element, elements, shifted, one_more, rational, IsIndependent}

module _ {d : ℕ} (f : Formal d) (β : Element f) where
  same : (p q : List (Element f)) → (PolyR (elements f)).◌≈◌ p q → (elements (one_more f β)).◌≈◌ p q
  same p q h = h

  sum : (p q r : List (Element f)) → (elements (one_more f β)).◌≈◌ r ((elements (one_more f β)).◌⊞◌ p q) → (PolyR (elements f)).◌≈◌ r ((PolyR (elements f)).◌⊞◌ p q)
  sum p q r h = h

  shift : (p q : List (Element f)) → (elements (one_more f β)).◌≈◌ q ((shifted (one_more f β)).σ.on p) → (PolyR (elements f)).◌≈◌ q (twist (elements f) (shifted f).σ β p)
  shift p q h = h

  constant : (c : Value d) (q : List (Element f)) → (elements (one_more f β)).◌≈◌ q ((shifted (one_more f β)).κ.on c) → (PolyR (elements f)).◌≈◌ q ((shifted f).κ.on c ∷ [])
  constant c q h = h

  solves : {X : Type 0} (m : X → List (Element f)) (fs : List X) (c : ℕ → Value d) (g : List (Element f)) → Solves (above (shifted f) β) m fs c g → Solves (shifted (one_more f β)) m fs c g
  solves m fs c g h = h

  independent : IsIndependent f → IsNew (shifted f) β → IsIndependent (one_more f β)
  independent h n = (h, n)

-- without sums, elements are Laurent polynomials, without products rational functions
module _ {d : ℕ} where
  rational-element : Value (suc d) → Element (rational {d = d})
  rational-element x = x

  rational-shift : (x : Value (suc d)) → (shifted (rational {d = d})).σ.on x ≡ shift_value d x
  rational-shift x = refl

-- ---- The sum of H(k): over any ring with k, where k + 1 has the inverse b, and t stands for H(k), k t - k telescopes t

module _ {C R : Ring} (B : Difference C R) (k b : R.A) (next : R.◌≈◌ (B.σ.on k) (R.◌⊞◌ k R.I)) (inverse : R.◌≈◌ (R.◌⊠◌ (R.◌⊞◌ k R.I) b) R.I) where
  open B use {σ}
  open R use {A, ◌≈◌, ◌⊞◌, ◌⊠◌, ⊟, O, I, symm, trans}

  g : List A
  g = ⊟ k ∷ k ∷ []

  short : Below R 2 g
  unfolding g
  short = record { none_from = past }
    where
      past : (n : ℕ) → 2 ≤ n → coef R (⊟ k ∷ k ∷ []) n ≈ O
      past zero l = absurd (omega (arith, l))
      past (suc zero) l = absurd (omega (arith, l))
      past (suc (suc n)) l = R.rfl

  sums_harmonic : (n : ℕ) → coef R (delta (above B b) g) n ≈ coef R (O ∷ I ∷ []) n
  unfolding g
  sums_harmonic zero = trans (delta-second B b 0 g short) (first k b (σ.on k) (σ.on (⊟ k)) next (on-neg R R σ k) inverse)
    where
      first : (k b s m : A) → s ≈ k ⊞ I → m ≈ ⊟ s → (k ⊞ I) ⊠ b ≈ I → (m ⊞ b ⊠ ((O ⊞ I) ⊠ s)) ⊞ ⊟ (⊟ k) ≈ O
      first k b s m h i j = by R (k ∷ b ∷ s ∷ m ∷ []) (R.add_cong (scale R (b ⊞ ⊟ I) h) (R.add_cong i j)) (search reads depth 20) refl
  sums_harmonic (suc zero) = trans (delta-top B b 1 g short) (by R (k ∷ σ.on k ∷ []) next (search reads depth 12) refl)
  sums_harmonic (suc (suc n)) = (delta-past B b 1 g short).none_from (suc (suc n)) (omega arith)
