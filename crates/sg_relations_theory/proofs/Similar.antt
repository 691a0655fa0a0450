-- Elements of a field with a map τ that differ by a factor τ(r)/r.
--   Similar K τ x y      y τ(r) = x r for some r that isn't 0
--   similar_refl, similar_symm, similar_trans, similar_same, similar-mul, similar-inv, similar-power, similar-powers      it is a congruence of products and powers
use Rattle.std.proofs.Common.{ℕ, zero, suc, refl, List, [], ◌∷◌, ℤ, pos, negsuc}
use Rattle.sg_algebra.specs.Ring.{Field, Hom}
use Rattle.sg_algebra.proofs.Ring.{pow}
use Rattle.sg_algebra.proofs.Solver.{by, scale, reads}
use Rattle.sg_algebra.proofs.Field.{domain, product_ne, field_cancel, inv_ne}
use Rattle.sg_tower_theory.specs.Powers.{power, powers}
use Rattle.sg_relations_theory.proofs.PowerLaws.{Some}

module _ (K : Field) (τ : Hom K.R K.R) where
  open K use {R, inv, mul_inv, one_ne}
  open R use {A, ◌≈◌, ◌⊞◌, ◌⊠◌, ⊟, O, I, rfl, symm, trans, add_cong, mul_cong, mul_comm}

  pub record Similar (x y : A) : Type 0 where
    pub r : A
    pub some : Some K r
    pub is : y ⊠ τ.on r ≈ x ⊠ r

  pub keeps : (x : A) → Some K x → Some K (τ.on x)
  keeps x h e = one_ne (trans (symm τ.on-one) (trans (symm (τ.on_cong (x ⊠ inv x) I (mul_inv x h))) (trans (τ.on-mul x (inv x)) (trans (mul_cong e rfl) (trans mul_comm (Rattle.sg_algebra.proofs.Ring.mul_O R))))))

  pub on-inv : (x : A) → Some K x → τ.on x ⊠ τ.on (inv x) ≈ I
  on-inv x h = trans (symm (τ.on-mul x (inv x))) (trans (τ.on_cong (x ⊠ inv x) I (mul_inv x h)) τ.on-one)

  pub similar_same : (x y x' y' : A) → x ≈ x' → y ≈ y' → Similar x y → Similar x' y'
  similar_same x y x' y' h k s = record { r = s.r; some = s.some; is = trans (mul_cong (symm k) rfl) (trans s.is (mul_cong h rfl)) }

  pub similar_refl : (x : A) → Similar x x
  similar_refl x = record { r = I; some = one_ne; is = mul_cong rfl τ.on-one }

  pub similar_symm : (x y : A) → Similar x y → Similar y x
  similar_symm x y s = record {
    r = inv s.r;
    some = inv_ne K s.r s.some;
    is = by R (x ∷ y ∷ s.r ∷ inv s.r ∷ τ.on s.r ∷ τ.on (inv s.r) ∷ [])
        (add_cong (scale R (⊟ (inv s.r ⊠ τ.on (inv s.r))) s.is) (add_cong (scale R (⊟ (x ⊠ τ.on (inv s.r))) (mul_inv s.r s.some)) (scale R (y ⊠ inv s.r) (on-inv s.r s.some)))) (search reads depth 20 fits 5000) refl;
  }

  pub similar_trans : (x y z : A) → Similar x y → Similar y z → Some K y → Similar x z
  similar_trans x y z s t h = record {
    r = s.r ⊠ t.r;
    some = product_ne (domain K) s.some t.some;
    is = field_cancel K h (by R (x ∷ y ∷ z ∷ s.r ∷ t.r ∷ τ.on s.r ∷ τ.on t.r ∷ τ.on (s.r ⊠ t.r) ∷ [])
        (add_cong (scale R (y ⊠ z) (τ.on-mul s.r t.r)) (add_cong (scale R (z ⊠ τ.on t.r) s.is) (scale R (x ⊠ s.r) t.is))) (search reads depth 20 fits 6000) refl);
  }

  pub similar-mul : (x y x' y' : A) → Similar x y → Similar x' y' → Similar (x ⊠ x') (y ⊠ y')
  similar-mul x y x' y' s t = record {
    r = s.r ⊠ t.r;
    some = product_ne (domain K) s.some t.some;
    is = by R (x ∷ y ∷ x' ∷ y' ∷ s.r ∷ t.r ∷ τ.on s.r ∷ τ.on t.r ∷ τ.on (s.r ⊠ t.r) ∷ [])
        (add_cong (scale R (y ⊠ y') (τ.on-mul s.r t.r)) (add_cong (scale R (y' ⊠ τ.on t.r) s.is) (scale R (x ⊠ s.r) t.is))) (search reads depth 20 fits 6000) refl;
  }

  pub similar-inv : (x y : A) → Some K x → Some K y → Similar x y → Similar (inv x) (inv y)
  similar-inv x y h k s = record {
    r = t.r;
    some = t.some;
    is = by R (x ∷ y ∷ inv x ∷ inv y ∷ t.r ∷ τ.on t.r ∷ [])
        (add_cong (scale R (inv x ⊠ inv y) t.is) (add_cong (scale R (⊟ (inv y ⊠ τ.on t.r)) (mul_inv x h)) (scale R (inv x ⊠ t.r) (mul_inv y k)))) (search reads depth 20 fits 6000) refl;
  }
    where
      t : Similar y x
      t = similar_symm x y s

  similar-pow : (x y : A) (n : ℕ) → Similar x y → Similar (pow R x n) (pow R y n)
  similar-pow x y zero s = similar_refl I
  similar-pow x y (suc n) s = similar-mul (pow R x n) (pow R y n) x y (similar-pow x y n s) s

  pub similar-power : (x y : A) (e : ℤ) → Some K x → Some K y → Similar x y → Similar (power K x e) (power K y e)
  similar-power x y (pos n) h k s = similar-pow x y n s
  similar-power x y (negsuc n) h k s = similar-pow (inv x) (inv y) (suc n) (similar-inv x y h k s)

  -- each element of one list is similar to that of the other in its place, and none is 0
  abbrev pub AllSimilar : List A → List A → Type 0
  AllSimilar [] [] = Unit {0}
  AllSimilar [] (y ∷ ys) = ⊥
  AllSimilar (x ∷ xs) [] = ⊥
  AllSimilar (x ∷ xs) (y ∷ ys) = Some K x × Some K y × Similar x y × AllSimilar xs ys

  pub similar-powers : (xs ys : List A) (es : List ℤ) → AllSimilar xs ys → Similar (powers K xs es) (powers K ys es)
  similar-powers [] [] es m = similar_refl I
  similar-powers [] (y ∷ ys) es m = absurd m
  similar-powers (x ∷ xs) [] es m = absurd m
  similar-powers (x ∷ xs) (y ∷ ys) [] m = similar_refl I
  similar-powers (x ∷ xs) (y ∷ ys) (e ∷ es) m = similar-mul (power K x e) (power K y e) (powers K xs es) (powers K ys es) (similar-power x y e m.0 m.1 m.2) (similar-powers xs ys es m.3)
