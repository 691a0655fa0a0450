-- Horner's value of a list of coefficients, each taken into a ring by f.
--   horner-zip, -each, -neg, -conv    the value of a sum, of a multiple, of a negative and of a product of lists
--   horner-zero, horner_cong          of a list whose coefficients go to zero; equal at equal arguments
--   hom-horner                        a map between rings goes inside
use Rattle.std.proofs.Common.{List, [], ◌∷◌, map}
use Rattle.sg_algebra.specs.Ring.{Ring, Hom}
use Rattle.sg_algebra.specs.Coefficients.{zip_longest, conv, horner, Each}
use Rattle.sg_algebra.proofs.Ring.{O_add, O_mul, mul_O, mul_neg, mul_swap, add4, neg_O, neg_add, distrib_right}

module _ (R : Ring) where
  open R use {A, ◌≈◌, ◌⊞◌, ◌⊠◌, ⊟, O, I, rfl, symm, trans, add_cong, mul_cong, add_O, mul_assoc, distrib}

  module _ {C : Type 0} (f : C → A) (x : A) where
    pub horner-zip : (add : C → C → C) → ((a b : C) → f (add a b) ≈ f a ⊞ f b) → (p q : List C) → horner R f x (zip_longest add p q) ≈ horner R f x p ⊞ horner R f x q
    horner-zip add h [] q = symm (O_add R)
    horner-zip add h (a ∷ p) [] = symm add_O
    horner-zip add h (a ∷ p) (b ∷ q) = trans (add_cong (h a b) (trans (mul_cong rfl (horner-zip add h p q)) distrib)) (add4 R)

    pub horner-each : (g : C → C) (c : A) → ((a : C) → f (g a) ≈ c ⊠ f a) → (p : List C) → horner R f x (map g p) ≈ c ⊠ horner R f x p
    horner-each g c h [] = symm (mul_O R)
    horner-each g c h (a ∷ p) = trans (add_cong (h a) (trans (mul_cong rfl (horner-each g c h p)) (mul_swap R))) (symm distrib)

    pub horner-neg : (g : C → C) → ((a : C) → f (g a) ≈ ⊟ (f a)) → (p : List C) → horner R f x (map g p) ≈ ⊟ (horner R f x p)
    horner-neg g h [] = symm (neg_O R)
    horner-neg g h (a ∷ p) = trans (add_cong (h a) (trans (mul_cong rfl (horner-neg g h p)) (mul_neg R))) (symm (neg_add R))

    pub horner-conv : (add mul : C → C → C) (z : C) → ((a b : C) → f (add a b) ≈ f a ⊞ f b) → ((a b : C) → f (mul a b) ≈ f a ⊠ f b) → f z ≈ O
        → (p q : List C) → horner R f x (conv add mul z p q) ≈ horner R f x p ⊠ horner R f x q
    horner-conv add mul z ha hm hz [] q = symm (O_mul R)
    horner-conv add mul z ha hm hz (a ∷ p) q =
        trans (horner-zip add ha (map (mul a) q) (z ∷ conv add mul z p q))
        (trans (add_cong (horner-each (mul a) (f a) (hm a) q) (trans (add_cong hz (trans (mul_cong rfl (horner-conv add mul z ha hm hz p q)) (symm mul_assoc))) (O_add R)))
        (symm (distrib_right R)))

    pub horner-zero : (p : List C) → Each (λ a. f a ≈ O) p → horner R f x p ≈ O
    horner-zero [] h = rfl
    horner-zero (a ∷ p) h = trans (add_cong h.0 (trans (mul_cong rfl (horner-zero p h.1)) (mul_O R))) add_O

  pub horner_cong : {C : Type 0} (f g : C → A) (x y : A) (p : List C) → ((a : C) → f a ≈ g a) → x ≈ y → horner R f x p ≈ horner R g y p
  horner_cong f g x y [] h e = rfl
  horner_cong f g x y (a ∷ p) h e = add_cong (h a) (mul_cong e (horner_cong f g x y p h e))

module _ (R S : Ring) (σ : Hom R S) where
  open S use {◌≈◌, rfl, trans, add_cong, mul_cong}

  pub hom-horner : {C : Type 0} (f : C → R.A) (x : R.A) (p : List C) → σ.on R.O ≈ S.O → σ.on (horner R f x p) ≈ horner S (λ a. σ.on (f a)) (σ.on x) p
  hom-horner f x [] z = z
  hom-horner f x (a ∷ p) z = trans (σ.on-add (f a) (R.◌⊠◌ x (horner R f x p))) (add_cong rfl (trans (σ.on-mul x (horner R f x p)) (mul_cong rfl (hom-horner f x p z))))
