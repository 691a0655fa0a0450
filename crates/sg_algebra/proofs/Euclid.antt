-- Greatest common divisors in a domain with a division, found by Euclid's divisions.
--   Euclidean          a domain with a size, where a is a multiple of b and a remainder of smaller size, for b other than zero
--   Bezout R a b       g, a combination of a and b, with a = g s and b = g t
--   bezout             there is one for each a, b
--   bezout_dvd, greatest    g divides both, and each common divisor divides g
--   bezout-scale       the same combination of two multiples
--   coprime_parts_of   s and t are coprime, where b isn't zero
--   coprime_of_unit    where g is a unit, a and b are coprime
use Rattle.std.proofs.Common.{ℕ, zero, suc, ◌<◌, refl, [], ◌∷◌, arith}
use Rattle.sg_algebra.specs.Ring.{Ring, Domain}
use Rattle.sg_algebra.proofs.Ring.{O_mul, mul_swap}
use Rattle.sg_algebra.proofs.Solver.{ring, by, scale, reads}
use Rattle.sg_algebra.proofs.Divides.{Divides}
use Rattle.sg_algebra.proofs.Coprime.{Coprime}

pub record Division (R : Ring) (size : R.A → ℕ) (a b : R.A) : Type 0 where
  pub q : R.A
  pub r : R.A
  pub is : R.◌≈◌ a (R.◌⊞◌ (R.◌⊠◌ q b) r)
  pub less : size r < size b

pub record Euclidean : Type 1 where
  pub D : Domain
  pub size : D.R.A → ℕ
  pub divide : (a b : D.R.A) → ¬ (D.R.◌≈◌ b D.R.O) → Division D.R size a b

pub record Bezout (R : Ring) (a b : R.A) : Type 0 where
  pub g : R.A
  pub u : R.A
  pub w : R.A
  pub s : R.A
  pub t : R.A
  pub comb : R.◌≈◌ (R.◌⊞◌ (R.◌⊠◌ u a) (R.◌⊠◌ w b)) g
  pub of_a : R.◌≈◌ (R.◌⊠◌ g s) a
  pub of_b : R.◌≈◌ (R.◌⊠◌ g t) b

module _ (R : Ring) where
  open R use {A, ◌≈◌, ◌⊞◌, ◌⊠◌, ⊟, O, I, rfl, symm, trans, add_cong, mul_cong, mul_assoc, distrib}

  last : (a b : A) → b ≈ O → Bezout R a b
  last a b h = record {
    g = a;
    u = I;
    w = O;
    s = I;
    t = O;
    comb = ring R (a ∷ b ∷ []) (search reads depth 12) refl;
    of_a = ring R (a ∷ []) (search reads depth 12) refl;
    of_b = by R (a ∷ b ∷ []) (scale R (⊟ I) h) (search reads depth 12) refl;
  }

  next : (a b q r : A) → a ≈ q ⊠ b ⊞ r → Bezout R b r → Bezout R a b
  next a b q r e c = record {
    g = c.g;
    u = c.w;
    w = c.u ⊞ ⊟ (c.w ⊠ q);
    s = q ⊠ c.s ⊞ c.t;
    t = c.s;
    comb = by R (a ∷ b ∷ q ∷ r ∷ c.g ∷ c.u ∷ c.w ∷ []) (add_cong c.comb (scale R c.w e)) (search reads depth 16 fits 4000) refl;
    of_a = by R (a ∷ b ∷ q ∷ r ∷ c.g ∷ c.s ∷ c.t ∷ []) (add_cong (add_cong (scale R q c.of_a) c.of_b) (scale R (⊟ I) e)) (search reads depth 16 fits 4000) refl;
    of_b = c.of_a;
  }

  pub bezout_dvd : (a b : A) (c : Bezout R a b) → Divides R c.g a × Divides R c.g b
  bezout_dvd a b c = (record { cofactor = c.s; is = symm c.of_a }, record { cofactor = c.t; is = symm c.of_b })

  abbrev pub bezout-scale : (m a b : A) → Bezout R a b → Bezout R (m ⊠ a) (m ⊠ b)
  bezout-scale m a b c = record {
    g = m ⊠ c.g;
    u = c.u;
    w = c.w;
    s = c.s;
    t = c.t;
    comb = trans (add_cong (mul_swap R) (mul_swap R)) (trans (symm distrib) (mul_cong rfl c.comb));
    of_a = trans mul_assoc (mul_cong rfl c.of_a);
    of_b = trans mul_assoc (mul_cong rfl c.of_b);
  }

  pub greatest : (a b d : A) (c : Bezout R a b) → Divides R d a → Divides R d b → Divides R d c.g
  greatest a b d c p q = record {
    cofactor = c.u ⊠ p.cofactor ⊞ c.w ⊠ q.cofactor;
    is = by R (a ∷ b ∷ d ∷ c.g ∷ c.u ∷ c.w ∷ p.cofactor ∷ q.cofactor ∷ [])
        (add_cong (scale R (⊟ I) c.comb) (add_cong (scale R c.u p.is) (scale R c.w q.is))) (search reads depth 16 fits 4000) refl;
  }

  pub coprime_of_unit : (a b : A) (c : Bezout R a b) → Divides R c.g I → Coprime R a b
  coprime_of_unit a b c d = record {
    u = d.cofactor ⊠ c.u;
    w = d.cofactor ⊠ c.w;
    comb = by R (a ∷ b ∷ c.g ∷ c.u ∷ c.w ∷ d.cofactor ∷ []) (add_cong (scale R d.cofactor c.comb) (scale R (⊟ I) d.is)) (search reads depth 16 fits 4000) refl;
  }

module _ (D : Domain) where
  open D use {R, cancel_mul}
  open R use {A, ◌≈◌, O, rfl, symm, trans, add_cong, mul_cong}

  pub coprime_parts_of : (a b : A) (c : Bezout R a b) → ¬ (b ≈ O) → Coprime R c.s c.t
  coprime_parts_of a b c h = record {
    u = c.u;
    w = c.w;
    comb = cancel_mul {c = c.g} (λ z. h (trans (symm c.of_b) (trans (mul_cong z rfl) (O_mul R))))
        (by R (a ∷ b ∷ c.g ∷ c.u ∷ c.w ∷ c.s ∷ c.t ∷ []) (add_cong c.comb (add_cong (scale R c.u c.of_a) (scale R c.w c.of_b))) (search reads depth 16 fits 4000) refl);
  }

module _ (E : Euclidean) where
  open E use {D, size, divide}
  open D use {R, is_zero}
  open R use {A}

  euclid : (n : ℕ) (a b : A) → size b < n → Bezout R a b
  euclid zero a b l = absurd (omega arith)
  euclid (suc n) a b l =
      elim (is_zero b) [
        | yes h ↦ last R a b h
        | no h ↦
            let d = divide a b h in
            next R a b d.q d.r d.is (euclid n b d.r (less_than n (size d.r) (size b) d.less l))
      ]
    where
      less_than : (n r b : ℕ) → r < b → b < suc n → r < n
      less_than n r b h k = omega arith

  pub bezout : (a b : A) → Bezout R a b
  bezout a b = euclid (suc (size b)) a b (omega arith)
