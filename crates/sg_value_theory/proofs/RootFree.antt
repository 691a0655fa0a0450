-- Past some place no whole root, one variable higher: over a field whose elements have values, from the field of the values.
--   bound_up      at one place all coefficients have values, and the leading one's isn't 0; there the polynomial's value isn't 0 either
use Rattle.std.proofs.Common.{◌≡◌, ℕ, ◌+◌, ◌≤◌, refl, List, [], ◌∷◌, map, arith}
use Rattle.sg_algebra.specs.Ring.{Ring, Domain, Hom}
use Rattle.sg_algebra.specs.Coefficients.{coef, eval, horner}
use Rattle.sg_algebra.proofs.PolynomialRing.{PolyR}
use Rattle.sg_algebra.proofs.Degree.{Degree, degree_of}
use Rattle.sg_value_theory.proofs.Mapped.{horner-map, coef-map}
use Rattle.sg_tower_theory.proofs.Lawful.{Lawful}
use Rattle.sg_value_theory.proofs.Places.{Places, Reg, RegR, elementH, valueH}
use Rattle.sg_value_theory.proofs.Bound.{ApartPast}
use Rattle.sg_value_theory.proofs.First.{NonzeroAt, nonzero_at}

module _ (D V : Domain) (σ : Hom D.R D.R) (places : Places D.R V.R σ) (lawful : Lawful D σ) (point : ℕ → D.R.A) (image : ℕ → V.R.A) (has_point : (k n : ℕ) → places.Has (point k) n (image k))
    (below : (p : List V.R.A) → ¬ ((PolyR V.R).◌≈◌ p []) → ApartPast V.R image p) where
  open D use {R, is_zero}
  open R use {A, ◌≈◌, O}
  open places use {Has, from, has_past, has_unique}

  abbrev W : Ring
  W = V.R

  -- all coefficients have values past this place
  abbrev most : List A → ℕ
  most [] = 0
  most (a ∷ q) = from a + most q

  regular : (q : List A) (n : ℕ) → most q ≤ n → (cs : List (Reg R W σ places n)) × (map (λ (r : Reg R W σ places n). r.x) cs ≡ q)
  regular [] n l = ([], refl)
  regular (a ∷ q) n l = go (has_past a n (omega arith)) (regular q n (omega arith))
    where
      go : (v : W.A) × Has a n v → (cs : List (Reg R W σ places n)) × (map (λ (r : Reg R W σ places n). r.x) cs ≡ q) → (cs : List (Reg R W σ places n)) × (map (λ (r : Reg R W σ places n). r.x) cs ≡ a ∷ q)
      go h c = (record { x = a; v = h.0; has = h.1 } ∷ c.0, rw c.1 refl)

  -- the value of the polynomial at a point has the value of the polynomial of the values
  has_eval : (n k : ℕ) (cs : List (Reg R W σ places n)) → Has (horner R (λ (r : Reg R W σ places n). r.x) (point k) cs) n (horner W (λ (r : Reg R W σ places n). r.v) (image k) cs)
  has_eval n k [] = places.has_zero n
  has_eval n k (c ∷ cs) = places.has_add c.x (R.◌⊠◌ (point k) (horner R (λ (r : Reg R W σ places n). r.x) (point k) cs)) n c.v (W.◌⊠◌ (image k) (horner W (λ (r : Reg R W σ places n). r.v) (image k) cs)) c.has
      (places.has_mul (point k) (horner R (λ (r : Reg R W σ places n). r.x) (point k) cs) n (image k) (horner W (λ (r : Reg R W σ places n). r.v) (image k) cs) (has_point k n) (has_eval n k cs))

  values : (n : ℕ) → List (Reg R W σ places n) → List W.A
  values n cs = map (λ (r : Reg R W σ places n). r.v) cs

  pub bound_up : (q : List A) → ¬ ((PolyR R).◌≈◌ q []) → ApartPast R point q
  unfolding values
  bound_up q h = go (degree_of R is_zero q h)
    where
      go : (m : ℕ) × Degree R m q → ApartPast R point q
      go d = at (nonzero_at D V σ places lawful (coef R q d.0) d.1.lead (most q))
        where
          at : NonzeroAt D V σ places (coef R q d.0) (most q) → ApartPast R point q
          at z = made (regular q z.k z.past)
            where
              made : (cs : List (Reg R W σ places z.k)) × (map (λ (r : Reg R W σ places z.k). r.x) cs ≡ q) → ApartPast R point q
              made c = done (below (values z.k c.0) ne)
                where
                  lead_value : W.◌≈◌ (coef W (values z.k c.0) d.0) z.v
                  lead_value = W.trans (coef-map (RegR R W σ places z.k) W (valueH R W σ places z.k) c.0 d.0)
                      (has_unique (coef R q d.0) z.k (coef (RegR R W σ places z.k) c.0 d.0).v z.v
                      (places.has_same (coef (RegR R W σ places z.k) c.0 d.0).x (coef R q d.0) z.k (coef (RegR R W σ places z.k) c.0 d.0).v (coef (RegR R W σ places z.k) c.0 d.0).v
                      (R.symm (rw c.1 at (coef-map (RegR R W σ places z.k) R (elementH R W σ places z.k) c.0 d.0))) W.rfl (coef (RegR R W σ places z.k) c.0 d.0).has) z.has)

                  ne : ¬ ((PolyR W).◌≈◌ (values z.k c.0) [])
                  ne e = z.ne (W.trans (W.symm lead_value) (e.image.at d.0))

                  done : ApartPast W image (values z.k c.0) → ApartPast R point q
                  done r = record {
                    bound = r.bound;
                    apart = λ k l e. r.apart k l (W.trans (W.symm (rw (horner-map (RegR R W σ places z.k) W (valueH R W σ places z.k) W (λ a. a) (image k) c.0) W.rfl))
                        (has_unique O z.k (horner W (λ (r : Reg R W σ places z.k). r.v) (image k) c.0) W.O
                        (places.has_same (horner R (λ (r : Reg R W σ places z.k). r.x) (point k) c.0) O z.k (horner W (λ (r : Reg R W σ places z.k). r.v) (image k) c.0) (horner W (λ (r : Reg R W σ places z.k). r.v) (image k) c.0)
                        (value_zero k e) W.rfl (has_eval z.k k c.0)) (places.has_zero z.k)));
                  }
                    where
                      value_zero : (k : ℕ) → eval R q (point k) ≈ O → horner R (λ (r : Reg R W σ places z.k). r.x) (point k) c.0 ≈ O
                      value_zero k e = rw (horner-map (RegR R W σ places z.k) R (elementH R W σ places z.k) R (λ a. a) (point k) c.0) (rw c.1 e)
