-- Refining a list of generators. A column is a generator with its exponent in one element; the element is, up to a unit and τ(r)/r, the product of the columns.
--   Column                a generator and its exponent
--   product cs            the product of the powers of the columns
--   similar_iter          an element is similar to its later images
--   split_columns         two columns w = g w', b = h b', with h similar to g: as w', b' and g with the sum of the exponents
--   drop_unit             a column whose generator is a unit goes into the constant
--   measure, split_less   twice the sizes of what waits, and that less one of each that stands: it falls at each split and at each move
use Rattle.std.proofs.Common.{◌≡◌, ℕ, zero, suc, ◌+◌, ◌-◌, ◌<◌, refl, List, [], ◌∷◌, ◌++◌, ℤ, ◌+ℤ◌, arith}
use Rattle.sg_algebra.specs.Ring.{Field, Hom}
use Rattle.sg_algebra.proofs.Ring.{I_mul}
use Rattle.sg_algebra.proofs.Solver.{ring, reads}
use Rattle.sg_algebra.proofs.Divides.{iter}
use Rattle.sg_tower_theory.specs.Powers.{power}
use Rattle.sg_relations_theory.proofs.PowerLaws.{Some, power_cong, power-add, mul-power}
use Rattle.sg_relations_theory.proofs.Similar.{Similar, similar_same, similar_refl, similar_trans, similar-mul, similar-power, keeps}

pub record Column (A : Type 0) : Type 0 where
  pub generator : A
  pub exponent : ℤ

module _ (K : Field) (τ : Hom K.R K.R) where
  open K use {R}
  open R use {A, ◌≈◌, ◌⊠◌, O, I, rfl, symm, trans, mul_cong, mul_comm, mul_assoc, mul_I}

  -- τ(x) x = x τ(x): x is its own r
  pub similar_next : (x : A) → Some K x → Similar K τ (τ.on x) x
  similar_next x h = record { r = x; some = h; is = mul_comm }

  pub similar_iter : (m : ℕ) (x : A) → Some K x → Similar K τ (iter R τ m x) x × Some K (iter R τ m x)
  similar_iter zero x h = (similar_refl K τ x, h)
  similar_iter (suc m) x h =
      let k = similar_iter m x h in
      (similar_trans K τ (iter R τ (suc m) x) (iter R τ m x) x (similar_next (iter R τ m x) k.1) k.0 k.1, keeps K τ (iter R τ m x) k.1)

  abbrev pub product : List (Column A) → A
  product [] = I
  product (c ∷ cs) = power K c.generator c.exponent ⊠ product cs

  pub product-join : (cs ds : List (Column A)) → product (cs ++ ds) ≈ product cs ⊠ product ds
  product-join [] ds = symm (I_mul R)
  product-join (c ∷ cs) ds = trans (mul_cong rfl (product-join cs ds)) (symm mul_assoc)

  module _ (w b w' b' g h : A) (w_some : Some K w') (b_some : Some K b') (g_some : Some K g) (h_some : Some K h) (w_is : w ≈ g ⊠ w') (b_is : b ≈ h ⊠ b') (s : Similar K τ h g) where
    pub split_columns : (e f : ℤ) → Similar K τ (power K w e ⊠ power K b f) (power K w' e ⊠ (power K b' f ⊠ power K g (e +ℤ f)))
    split_columns e f = similar_same K τ ((power K g e ⊠ power K w' e) ⊠ (power K h f ⊠ power K b' f)) ((power K g e ⊠ power K w' e) ⊠ (power K g f ⊠ power K b' f)) _ _
        (symm (mul_cong (trans (power_cong K w (g ⊠ w') e w_is) (mul-power K g w' e g_some w_some)) (trans (power_cong K b (h ⊠ b') f b_is) (mul-power K h b' f h_some b_some))))
        (trans (ring R (power K g e ∷ power K g f ∷ power K w' e ∷ power K b' f ∷ []) (search reads depth 16) refl) (mul_cong rfl (mul_cong rfl (symm (power-add K g e f g_some)))))
        (similar-mul K τ (power K g e ⊠ power K w' e) (power K g e ⊠ power K w' e) (power K h f ⊠ power K b' f) (power K g f ⊠ power K b' f) (similar_refl K τ (power K g e ⊠ power K w' e))
        (similar-mul K τ (power K h f) (power K g f) (power K b' f) (power K b' f) (similar-power K τ h g f h_some g_some s) (similar_refl K τ (power K b' f))))

  -- a column that goes into the constant
  pub drop_unit : (c u : A) (e : ℤ) (cs : List (Column A)) → c ⊠ product (record { generator = u; exponent = e } ∷ cs) ≈ (c ⊠ power K u e) ⊠ product cs
  drop_unit c u e cs = symm mul_assoc

-- ---- The measure

module _ {A : Type 0} (size : A → ℕ) where
  -- what waits
  abbrev pub waiting : List A → ℕ
  waiting [] = 0
  waiting (p ∷ ps) = (size p + size p) + waiting ps

  -- what stands; its elements have positive sizes
  abbrev pub standing : List A → ℕ
  standing [] = 0
  standing (p ∷ ps) = (size p + (size p - 1)) + standing ps

-- w waits and b stands: g and what is left of w and of b wait instead, where the sizes of g and of the rest add up to those of w and b
pub split_less : (w b w' b' g W B : ℕ) → w ≡ g + w' → b ≡ g + b' → 0 < g → ((w' + w') + ((b' + b') + ((g + g) + W))) + B < ((w + w) + W) + ((b + (b - 1)) + B)
split_less w b w' b' g W B e f l = omega arith

-- w stands from now on
pub move_less : (w W B : ℕ) → 0 < w → W + ((w + (w - 1)) + B) < ((w + w) + W) + B
move_less w W B l = omega arith
