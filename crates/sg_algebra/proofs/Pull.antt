-- A ring from another: operations on B whose images in the ring S are those of S, with equality of images.
--   Into S B     a map f of B into S, and operations on B that it keeps
--   Same S f     equal where the images are
--   PullR        the ring of B
use Rattle.sg_algebra.specs.Ring.{Ring}

pub record Into (S : Ring) (B : Type 0) : Type 1 where
  pub f : B → S.A
  pub add : B → B → B
  pub mul : B → B → B
  pub neg : B → B
  pub zer : B
  pub one : B
  pub f-add : (x y : B) → S.◌≈◌ (f (add x y)) (S.◌⊞◌ (f x) (f y))
  pub f-mul : (x y : B) → S.◌≈◌ (f (mul x y)) (S.◌⊠◌ (f x) (f y))
  pub f-neg : (x : B) → S.◌≈◌ (f (neg x)) (S.⊟ (f x))
  pub f-zer : S.◌≈◌ (f zer) S.O
  pub f-one : S.◌≈◌ (f one) S.I

-- equal where the images are
pub record Same (S : Ring) {B : Type 0} (f : B → S.A) (x y : B) : Type 0 where
  pub image : S.◌≈◌ (f x) (f y)

abbrev pub PullR : (S : Ring) (B : Type 0) → Into S B → Ring
PullR S B t = record {
  A = B;
  ◌≈◌ = Same S t.f;
  ◌⊞◌ = t.add;
  ◌⊠◌ = t.mul;
  ⊟ = t.neg;
  O = t.zer;
  I = t.one;
  rfl = record { image = S.rfl };
  symm = λ h. record { image = S.symm h.image };
  trans = λ h k. record { image = S.trans h.image k.image };
  add_cong = λ {x} {y} {u} {v} h k. record { image = S.trans (t.f-add x u) (S.trans (S.add_cong h.image k.image) (S.symm (t.f-add y v))) };
  mul_cong = λ {x} {y} {u} {v} h k. record { image = S.trans (t.f-mul x u) (S.trans (S.mul_cong h.image k.image) (S.symm (t.f-mul y v))) };
  neg_cong = λ {x} {y} h. record { image = S.trans (t.f-neg x) (S.trans (S.neg_cong h.image) (S.symm (t.f-neg y))) };
  add_assoc = λ {x} {y} {z}. record { image = S.trans (S.trans (t.f-add (t.add x y) z) (S.add_cong (t.f-add x y) S.rfl)) (S.trans S.add_assoc (S.symm (S.trans (t.f-add x (t.add y z)) (S.add_cong S.rfl (t.f-add y z))))) };
  add_comm = λ {x} {y}. record { image = S.trans (t.f-add x y) (S.trans S.add_comm (S.symm (t.f-add y x))) };
  add_O = λ {x}. record { image = S.trans (t.f-add x t.zer) (S.trans (S.add_cong S.rfl t.f-zer) S.add_O) };
  add_neg = λ {x}. record { image = S.trans (t.f-add x (t.neg x)) (S.trans (S.add_cong S.rfl (t.f-neg x)) (S.trans S.add_neg (S.symm t.f-zer))) };
  mul_assoc = λ {x} {y} {z}. record { image = S.trans (S.trans (t.f-mul (t.mul x y) z) (S.mul_cong (t.f-mul x y) S.rfl)) (S.trans S.mul_assoc (S.symm (S.trans (t.f-mul x (t.mul y z)) (S.mul_cong S.rfl (t.f-mul y z))))) };
  mul_comm = λ {x} {y}. record { image = S.trans (t.f-mul x y) (S.trans S.mul_comm (S.symm (t.f-mul y x))) };
  mul_I = λ {x}. record { image = S.trans (t.f-mul x t.one) (S.trans (S.mul_cong S.rfl t.f-one) S.mul_I) };
  distrib = λ {x} {y} {z}. record {
    image = S.trans (S.trans (t.f-mul x (t.add y z)) (S.mul_cong S.rfl (t.f-add y z)))
        (S.trans S.distrib (S.symm (S.trans (t.f-add (t.mul x y) (t.mul x z)) (S.add_cong (t.f-mul x y) (t.f-mul x z)))));
  };
}
