-- Values of elements at the places 0, 1, 2, ..: partial, and from some place on everywhere.
--   Places R V σ     which value in V an element of R has at a place, if any; at a place the element σ(x) has the value that x has at the next
--   Reg, RegR        the elements with a value at a place: a ring
--   elementH, valueH    the element and the value are maps of rings
use Rattle.std.proofs.Common.{ℕ, suc, ◌≤◌}
use Rattle.sg_algebra.specs.Ring.{Ring, Hom}
use Rattle.sg_algebra.proofs.Pull.{PullR}

pub record Places (R V : Ring) (σ : Hom R R) : Type 1 where
  pub Has : R.A → ℕ → V.A → Type 0
  pub has_same : (x y : R.A) (k : ℕ) (u v : V.A) → R.◌≈◌ x y → V.◌≈◌ u v → Has x k u → Has y k v
  pub has_unique : (x : R.A) (k : ℕ) (u v : V.A) → Has x k u → Has x k v → V.◌≈◌ u v
  pub has_zero : (k : ℕ) → Has R.O k V.O
  pub has_one : (k : ℕ) → Has R.I k V.I
  pub has_add : (x y : R.A) (k : ℕ) (u v : V.A) → Has x k u → Has y k v → Has (R.◌⊞◌ x y) k (V.◌⊞◌ u v)
  pub has_mul : (x y : R.A) (k : ℕ) (u v : V.A) → Has x k u → Has y k v → Has (R.◌⊠◌ x y) k (V.◌⊠◌ u v)
  pub has_neg : (x : R.A) (k : ℕ) (u : V.A) → Has x k u → Has (R.⊟ x) k (V.⊟ u)
  pub has_shift : (x : R.A) (k : ℕ) (u : V.A) → Has x (suc k) u → Has (σ.on x) k u
  pub from : R.A → ℕ
  pub has_past : (x : R.A) (k : ℕ) → from x ≤ k → (v : V.A) × Has x k v

module _ (R V : Ring) (σ : Hom R R) (p : Places R V σ) where
  open p use {Has, has_same, has_unique}

  pub record Reg (k : ℕ) : Type 0 where
    pub x : R.A
    pub v : V.A
    pub has : Has x k v

  abbrev pub RegR : ℕ → Ring
  RegR k = PullR R (Reg k) (record {
    f = λ r. r.x;
    add = λ r s. record { x = R.◌⊞◌ r.x s.x; v = V.◌⊞◌ r.v s.v; has = p.has_add r.x s.x k r.v s.v r.has s.has };
    mul = λ r s. record { x = R.◌⊠◌ r.x s.x; v = V.◌⊠◌ r.v s.v; has = p.has_mul r.x s.x k r.v s.v r.has s.has };
    neg = λ r. record { x = R.⊟ r.x; v = V.⊟ r.v; has = p.has_neg r.x k r.v r.has };
    zer = record { x = R.O; v = V.O; has = p.has_zero k };
    one = record { x = R.I; v = V.I; has = p.has_one k };
    f-add = λ r s. R.rfl;
    f-mul = λ r s. R.rfl;
    f-neg = λ r. R.rfl;
    f-zer = R.rfl;
    f-one = R.rfl;
  })

  abbrev pub elementH : (k : ℕ) → Hom (RegR k) R
  elementH k = record { on = λ r. r.x; on_cong = λ r s h. h.image; on-add = λ r s. R.rfl; on-mul = λ r s. R.rfl; on-one = R.rfl }

  abbrev pub valueH : (k : ℕ) → Hom (RegR k) V
  valueH k = record { on = λ r. r.v; on_cong = λ r s h. has_unique s.x k r.v s.v (has_same r.x s.x k r.v r.v h.image V.rfl r.has) s.has; on-add = λ r s. V.rfl; on-mul = λ r s. V.rfl; on-one = V.rfl }
