-- The law of fractions: a fraction whose difference is an element is an element.
--   Integral D σ           where σ(p/q) - p/q = f, said without fractions, q divides p
--   integral_field         it holds in a field
--   integral_above         one more sum that is free keeps it
--   integral_telescopes    the quotient is then an antidifference of f
use Rattle.std.proofs.Common.{◌≡◌, ℕ, zero, suc, ◌≤◌, ◌<◌, refl, sym, subst, List, [], ◌∷◌, map, ◌⊎◌, inl, inr, arith, length}
use Rattle.sg_algebra.specs.Ring.{Ring, Domain, Field, Hom}
use Rattle.sg_algebra.specs.Coefficients.{coef}
use Rattle.sg_algebra.proofs.Ring.{nat, O_mul, neg_O}
use Rattle.sg_algebra.proofs.Solver.{by, scale, reads}
use Rattle.sg_algebra.proofs.Field.{domain, product_ne, field_cancel}
use Rattle.sg_algebra.proofs.Divides.{Divides, on-nat, on-neg}
use Rattle.sg_algebra.proofs.Coprime.{gauss, coprime_symm}
use Rattle.sg_algebra.proofs.PolynomialRing.{PolyR, coef-zip, coef-each}
use Rattle.sg_algebra.proofs.Degree.{Below, Degree, Monic, below_zero, PolyD}
use Rattle.sg_algebra.proofs.Division.{divide_unique}
use Rattle.sg_algebra.proofs.MonicLowest.{MonicLowest, monic_lowest}
use Rattle.sg_algebra.proofs.Quotient.{Quotient, ◌≃◌, QuotientR, QuotientF, wholeH, whole_quotient, whole_same}
use Rattle.sg_algebra.proofs.Shift.{twist, twistH, twist-second}
use Rattle.sg_tower_theory.proofs.Nested.{Telescopes}
use Rattle.sg_tower_theory.proofs.Lawful.{Lawful, Delta, coef-Delta, Delta-top, Delta-past}
use Rattle.sg_value_theory.proofs.Mapped.{mapH, coef-map, map_same, map-twist, twist_keeps}
use Rattle.sg_tower_theory.proofs.QuotientShift.{quotientH, quotient-on, quotient_keeps}

-- σ(p) q - p σ(q) = f q σ(q)
abbrev pub Crossed : (R : Ring) → Hom R R → R.A → R.A → R.A → Type 0
Crossed R σ p q f = R.◌≈◌ (R.◌⊞◌ (R.◌⊠◌ (σ.on p) q) (R.⊟ (R.◌⊠◌ p (σ.on q)))) (R.◌⊠◌ f (R.◌⊠◌ q (σ.on q)))

abbrev pub Keeps : (R : Ring) → Hom R R → Type 0
Keeps R σ = (x : R.A) → ¬ (R.◌≈◌ x R.O) → ¬ (R.◌≈◌ (σ.on x) R.O)

pub record Integral (D : Domain) (σ : Hom D.R D.R) : Type 0 where
  pub keeps : Keeps D.R σ
  pub divides : (p q f : D.R.A) → ¬ (D.R.◌≈◌ q D.R.O) → Crossed D.R σ p q f → Divides D.R q p

module _ (D : Domain) (σ : Hom D.R D.R) (good : Integral D σ) where
  open D use {R, cancel_mul}
  open R use {A, ◌≈◌, ◌⊞◌, ◌⊠◌, ⊟, O, I, rfl, symm, trans, add_cong, mul_cong}

  pub integral_telescopes : (p q f : A) → ¬ (q ≈ O) → Crossed R σ p q f → (g : A) × (p ≈ q ⊠ g) × Telescopes R σ g f
  integral_telescopes p q f n h = go (good.divides p q f n h)
    where
      go : Divides R q p → (g : A) × (p ≈ q ⊠ g) × Telescopes R σ g f
      go d = (d.cofactor, d.is, cancel_mul (product_ne D n (good.keeps q n)) (final p q (σ.on p) (σ.on q) d.cofactor (σ.on d.cofactor) f h d.is (trans (σ.on_cong p (q ⊠ d.cofactor) d.is) (σ.on-mul q d.cofactor))))
        where
          final : (p q p' q' g g' f : A) → p' ⊠ q ⊞ ⊟ (p ⊠ q') ≈ f ⊠ (q ⊠ q') → p ≈ q ⊠ g → p' ≈ q' ⊠ g' → (q ⊠ q') ⊠ (g' ⊞ ⊟ g) ≈ (q ⊠ q') ⊠ f
          final p q p' q' g g' f h i j = by R (p ∷ q ∷ p' ∷ q' ∷ g ∷ g' ∷ f ∷ []) (add_cong h (add_cong (scale R q' i) (scale R (⊟ q) j))) (search reads depth 20 fits 4000) refl

module _ (K : Field) (σ : Hom K.R K.R) where
  open K use {R, one_ne, inv, mul_inv}
  open R use {A, ◌≈◌, ◌⊠◌, O, I, rfl, symm, trans, mul_cong, mul_comm, mul_I, mul_assoc}

  pub field_keeps : Keeps R σ
  field_keeps x n z = one_ne (trans (symm σ.on-one) (trans (σ.on_cong I (x ⊠ inv x) (symm (mul_inv x n))) (trans (σ.on-mul x (inv x)) (trans (mul_cong z rfl) (O_mul R)))))

  pub integral_field : Integral (domain K) σ
  integral_field = record {
    keeps = field_keeps;
    divides = λ p q f n h. record { cofactor = inv q ⊠ p; is = symm (trans (symm mul_assoc) (trans (mul_cong (mul_inv q n) rfl) (trans mul_comm mul_I))) };
  }

module _ (D : Domain) (σ : Hom D.R D.R) (β : D.R.A) (lawful : Lawful D σ) (good : Integral D σ) (free : (g : D.R.A) → ¬ Telescopes D.R σ g β) where
  open D use {R, is_zero}
  open R use {A, ◌≈◌, ◌⊞◌, ◌⊠◌, ⊟, O, I, rfl, symm, trans, add_cong, mul_cong, mul_I}

  abbrev P : Ring
  P = PolyR R

  abbrev F : Field
  F = QuotientF D

  abbrev S : Ring
  S = QuotientR D

  abbrev τ : Hom S S
  τ = quotientH D σ good.keeps

  abbrev w : Hom R S
  w = wholeH D

  abbrev b : Quotient D
  b = whole_quotient D β

  abbrev Q : Ring
  Q = PolyR S

  open PolyR S use {◌≈◌ as ◌≋◌, ◌⊞◌ as ◌⊕◌, ◌⊠◌ as ◌⊗◌, ⊟ as ⊖}

  abbrev T : List (Quotient D) → List (Quotient D)
  T u = twist S τ b u

  abbrev TH : Hom Q Q
  TH = twistH S τ b

  -- ---- Below: a fraction whose difference is an element is one

  pub quotient_telescopes : (y : Quotient D) (f : A) → Telescopes S τ y (whole_quotient D f) → (g : A) × (◌≃◌ D y (whole_quotient D g)) × Telescopes R σ g f
  quotient_telescopes y f h = go (integral_telescopes D σ good y.num y.den f y.den_ne (crossed y.num y.den (σ.on y.num) (σ.on y.den) h.cross))
    where
      crossed : (p q p' q' : A) → (p' ⊠ q ⊞ ⊟ p ⊠ q') ⊠ I ≈ f ⊠ (q' ⊠ q) → p' ⊠ q ⊞ ⊟ (p ⊠ q') ≈ f ⊠ (q ⊠ q')
      crossed p q p' q' e = by R (p ∷ q ∷ p' ∷ q' ∷ f ∷ []) e (search reads depth 20) refl

      go : (g : A) × (y.num ≈ y.den ⊠ g) × Telescopes R σ g f → (g : A) × (◌≃◌ D y (whole_quotient D g)) × Telescopes R σ g f
      go r = (r.0, record { cross = trans mul_I (trans r.1 R.mul_comm) }, r.2)

  -- ---- A monic polynomial that divides its shift is 1

  module _ (m : ℕ) (d : List (Quotient D)) (a : Monic S m d) (div : Divides Q d (T d)) where
    whole_degree : Degree S m d
    whole_degree = record { lead = λ z. F.one_ne (S.trans (S.symm a.top) z); ends = a.ends }

    short : Below S (suc m) d
    short = record { none_from = λ i l. a.ends i (omega arith) }

    smaller : Below S m (Delta (domain F) τ b d)
    smaller = record { none_from = λ i l. at i (split i l) }
      where
        split : (i : ℕ) → m ≤ i → (i ≡ m) ⊎ (suc m ≤ i)
        split i l = grind arith

        top : S.◌≈◌ (coef S (Delta (domain F) τ b d) m) S.O
        top = S.trans (Delta-top (domain F) τ b m d short) (S.trans (S.add_cong (S.trans (τ.on_cong (coef S d m) S.I a.top) τ.on-one) (S.neg_cong a.top)) S.add_neg)

        at : (i : ℕ) → (i ≡ m) ⊎ (suc m ≤ i) → S.◌≈◌ (coef S (Delta (domain F) τ b d) i) S.O
        at i (inl e) = subst (λ (j : ℕ). S.◌≈◌ (coef S (Delta (domain F) τ b d) j) S.O) (sym e) top
        at i (inr l) = (Delta-past (domain F) τ b m d short).none_from i l

    still : Delta (domain F) τ b d ≋ []
    still = Q.symm (divide_unique F m d whole_degree div.cofactor (S.I ∷ []) [] (Delta (domain F) τ b d) (parts d (T d) div.cofactor div.is) (record { none_from = λ i l. S.rfl }) smaller).1
      where
        parts : (d t k : List (Quotient D)) → t ≋ d ⊗ k → k ⊗ d ⊕ [] ≋ (S.I ∷ []) ⊗ d ⊕ (t ⊕ ⊖ d)
        parts d t k h = by Q (d ∷ t ∷ k ∷ []) (scale Q (⊖ (S.I ∷ [])) h) (search reads depth 20) refl

    pub no_degree : m ≡ 0
    no_degree = go m refl
      where
        go : (n : ℕ) → m ≡ n → m ≡ 0
        go zero e = e
        go (suc n) e = absurd (free (found n e).0 (found n e).2)
          where
            found : (n : ℕ) → m ≡ suc n → (g : A) × (◌≃◌ D (S.◌⊠◌ (S.⊟ (coef S d n)) (F.inv (nat S (suc n)))) (whole_quotient D g)) × Telescopes R σ g β
            found n e = quotient_telescopes (S.◌⊠◌ (S.⊟ u) (F.inv c)) β
                (S.trans (S.add_cong (S.trans (τ.on-mul (S.⊟ u) (F.inv c)) (S.mul_cong (on-neg S S τ u) fixed)) S.rfl) (final u (τ.on u) c (F.inv c) b equation (F.mul_inv c c_ne)))
              where
                u : Quotient D
                u = coef S d n

                c : Quotient D
                c = nat S (suc n)

                c_ne : ¬ (S.◌≈◌ c S.O)
                c_ne z = lawful.char n (whole_same D (nat R (suc n)) O (S.trans (on-nat R S w (suc n)) z))

                fixed : S.◌≈◌ (τ.on (F.inv c)) (F.inv c)
                fixed = field_cancel F c_ne (S.trans (S.mul_cong (S.symm (on-nat S S τ (suc n))) S.rfl)
                    (S.trans (S.symm (τ.on-mul c (F.inv c))) (S.trans (τ.on_cong (S.◌⊠◌ c (F.inv c)) S.I (F.mul_inv c c_ne)) (S.trans τ.on-one (S.symm (F.mul_inv c c_ne))))))

                lead : S.◌≈◌ (τ.on (coef S d (suc n))) S.I
                lead = S.trans (τ.on_cong (coef S d (suc n)) S.I (rw (sym e) a.top)) τ.on-one

                past : (i : ℕ) → suc n < i → S.◌≈◌ (coef S d i) S.O
                past i l = a.ends i (rw e l)

                equation : S.◌≈◌ (S.◌⊞◌ (S.◌⊞◌ (τ.on u) (S.◌⊠◌ b c)) (S.⊟ u)) S.O
                equation = S.trans (S.add_cong (S.add_cong S.rfl (S.mul_cong S.rfl (S.symm (S.trans (S.mul_cong S.rfl lead) S.mul_I)))) S.rfl)
                    (S.trans (S.symm (S.trans (coef-Delta (domain F) τ b d n) (S.add_cong (twist-second S τ b n d past) S.rfl))) (still.image.at n))

                final : (u v c y b : Quotient D) → S.◌≈◌ (S.◌⊞◌ (S.◌⊞◌ v (S.◌⊠◌ b c)) (S.⊟ u)) S.O → S.◌≈◌ (S.◌⊠◌ c y) S.I → S.◌≈◌ (S.◌⊞◌ (S.◌⊠◌ (S.⊟ v) y) (S.⊟ (S.◌⊠◌ (S.⊟ u) y))) b
                final u v c y b h k = by S (u ∷ v ∷ c ∷ y ∷ b ∷ []) (S.add_cong (scale S (S.⊟ y) h) (scale S b k)) (search reads depth 20 fits 4000) refl

  -- ---- A polynomial over fractions whose difference is one over elements is one over elements

  abbrev up : List A → List (Quotient D)
  up p = map w.on p

  abbrev monomial : ℕ → A → List A
  monomial zero x = x ∷ []
  monomial (suc n) x = O ∷ monomial n x

  monomial-at : (n : ℕ) (x : A) → coef R (monomial n x) n ≈ x
  monomial-at zero x = rfl
  monomial-at (suc n) x = monomial-at n x

  monomial-past : (n k : ℕ) (x : A) → n < k → coef R (monomial n x) k ≈ O
  monomial-past zero zero x l = absurd (omega arith)
  monomial-past zero (suc k) x l = rfl
  monomial-past (suc n) zero x l = absurd (omega arith)
  monomial-past (suc n) (suc k) x l = monomial-past n k x (omega arith)

  up-twist : (p : List A) → up (twist R σ β p) ≋ T (up p)
  up-twist p = map-twist R S w σ τ (quotient-on D σ good.keeps) β p

  up-neg : (p : List A) → up (P.⊟ p) ≋ ⊖ (up p)
  up-neg p = on-neg P Q (mapH R S w) p

  descend : (N : ℕ) (u : List (Quotient D)) (f : List A) → Below S N u → Telescopes Q TH u (up f) → (g : List A) × (u ≋ up g)
  descend zero u f bel h = ([], below_zero S u bel)
  descend (suc n) u f bel h = go (descend n) (quotient_telescopes (coef S u n) (coef R f n) top)
    where
      top : Telescopes S τ (coef S u n) (whole_quotient D (coef R f n))
      top = S.trans (S.symm (Delta-top (domain F) τ b n u bel)) (S.trans (h.image.at n) (coef-map R S w f n))

      go : ((u : List (Quotient D)) (f : List A) → Below S n u → Telescopes Q TH u (up f) → (g : List A) × (u ≋ up g))
          → (g : A) × (◌≃◌ D (coef S u n) (whole_quotient D g)) × Telescopes R σ g (coef R f n) → (g : List A) × (u ≋ up g)
      go again r = join (again (u ⊕ ⊖ (up m)) (P.◌⊞◌ f (P.⊟ (P.◌⊞◌ (twist R σ β m) (P.⊟ m)))) less equation)
        where
          m : List A
          m = monomial n r.0

          at : (i : ℕ) → S.◌≈◌ (coef S (u ⊕ ⊖ (up m)) i) (S.◌⊞◌ (coef S u i) (S.⊟ (whole_quotient D (coef R m i))))
          at i = S.trans (coef-zip S u (⊖ (up m)) i) (S.add_cong S.rfl (S.trans (coef-each S S.⊟ (neg_O S) (up m) i) (S.neg_cong (coef-map R S w m i))))

          split : (i : ℕ) → n ≤ i → (i ≡ n) ⊎ (suc n ≤ i)
          split i l = grind arith

          gone : (i : ℕ) → (i ≡ n) ⊎ (suc n ≤ i) → S.◌≈◌ (S.◌⊞◌ (coef S u i) (S.⊟ (whole_quotient D (coef R m i)))) S.O
          gone i (inl e) = subst (λ (j : ℕ). S.◌≈◌ (S.◌⊞◌ (coef S u j) (S.⊟ (whole_quotient D (coef R m j)))) S.O) (sym e)
              (S.trans (S.add_cong r.1 (S.neg_cong (w.on_cong (coef R m n) r.0 (monomial-at n r.0)))) S.add_neg)
          gone i (inr l) = S.trans (S.add_cong (bel.none_from i l) (S.trans (S.neg_cong (w.on_cong (coef R m i) O (monomial-past n i r.0 (omega arith)))) (neg_O S))) S.add_O

          less : Below S n (u ⊕ ⊖ (up m))
          less = record { none_from = λ i l. S.trans (at i) (gone i (split i l)) }

          equation : Telescopes Q TH (u ⊕ ⊖ (up m)) (up (P.◌⊞◌ f (P.⊟ (P.◌⊞◌ (twist R σ β m) (P.⊟ m)))))
          equation = Q.trans (Q.add_cong (Q.trans (TH.on-add u (⊖ (up m))) (Q.add_cong {x = T u} {y = T u} Q.rfl (on-neg Q Q TH (up m)))) Q.rfl)
              (Q.trans (rest u (T u) (up m) (T (up m)) (up f) h)
              (Q.symm (Q.trans ((mapH R S w).on-add f (P.⊟ (P.◌⊞◌ (twist R σ β m) (P.⊟ m)))) (Q.add_cong {x = up f} {y = up f} Q.rfl
              (Q.trans (up-neg (P.◌⊞◌ (twist R σ β m) (P.⊟ m))) (Q.neg_cong (Q.trans ((mapH R S w).on-add (twist R σ β m) (P.⊟ m)) (Q.add_cong (up-twist m) (up-neg m)))))))))
            where
              rest : (u v x y f : List (Quotient D)) → v ⊕ ⊖ u ≋ f → (v ⊕ ⊖ y) ⊕ ⊖ (u ⊕ ⊖ x) ≋ f ⊕ ⊖ (y ⊕ ⊖ x)
              rest u v x y f h = by Q (u ∷ v ∷ x ∷ y ∷ f ∷ []) h (search reads depth 20) refl

          join : (g : List A) × ((u ⊕ ⊖ (up m)) ≋ up g) → (g : List A) × (u ≋ up g)
          join s = (P.◌⊞◌ s.0 m, Q.trans (sides u (up m) (up s.0) s.1) (Q.symm ((mapH R S w).on-add s.0 m)))
            where
              sides : (u x g : List (Quotient D)) → u ⊕ ⊖ x ≋ g → u ≋ g ⊕ x
              sides u x g h = by Q (u ∷ x ∷ g ∷ []) h (search reads depth 16) refl

  -- ---- The law

  whole_ne : (q : List A) → ¬ (P.◌≈◌ q []) → ¬ (up q ≋ [])
  whole_ne q n z = n (map_same R S w (whole_same D) q [] z)

  up_crossed : (p q f : List A) → Crossed P (twistH R σ β) p q f → Crossed Q TH (up p) (up q) (up f)
  up_crossed p q f h =
      Q.trans (Q.symm (Q.trans (u.on-add (P.◌⊠◌ (twist R σ β p) q) (P.⊟ (P.◌⊠◌ p (twist R σ β q)))) (Q.add_cong (Q.trans (u.on-mul (twist R σ β p) q) (Q.mul_cong (up-twist p) Q.rfl))
      (Q.trans (up-neg (P.◌⊠◌ p (twist R σ β q))) (Q.neg_cong (Q.trans (u.on-mul p (twist R σ β q)) (Q.mul_cong {x = up p} {y = up p} Q.rfl (up-twist q))))))))
      (Q.trans (u.on_cong (P.◌⊞◌ (P.◌⊠◌ (twist R σ β p) q) (P.⊟ (P.◌⊠◌ p (twist R σ β q)))) (P.◌⊠◌ f (P.◌⊠◌ q (twist R σ β q))) h)
      (Q.trans (u.on-mul f (P.◌⊠◌ q (twist R σ β q))) (Q.mul_cong {x = up f} {y = up f} Q.rfl (Q.trans (u.on-mul q (twist R σ β q)) (Q.mul_cong {x = up q} {y = up q} Q.rfl (up-twist q))))))
    where
      u : Hom P Q
      u = mapH R S w

  keeps_up : Keeps Q TH
  keeps_up = twist_keeps (domain F) τ b (quotient_keeps D σ good.keeps)

  divides_above : (p q f : List A) → ¬ (P.◌≈◌ q []) → Crossed P (twistH R σ β) p q f → Divides P q p
  divides_above p q f n h = go (monic_lowest F (record { num = up p; den = up q; den_ne = whole_ne q n }))
    where
      go : MonicLowest F (record { num = up p; den = up q; den_ne = whole_ne q n }) → Divides P q p
      go l = done (descend (length l.p) l.p f (record { none_from = λ i k. past l.p i k }) telescopes)
        where
          past : (p : List (Quotient D)) (n : ℕ) → length p ≤ n → S.◌≈◌ (coef S p n) S.O
          past [] n l = S.rfl
          past (a ∷ p) zero l = absurd (omega arith)
          past (a ∷ p) (suc n) l = past p n (omega arith)

          shifted : T (up p) ⊗ T l.q ≋ T l.p ⊗ T (up q)
          shifted = Q.trans (Q.symm (TH.on-mul (up p) l.q)) (Q.trans (TH.on_cong (up p ⊗ l.q) (l.p ⊗ up q) l.cross) (TH.on-mul l.p (up q)))

          reduced : Crossed Q TH l.p l.q (up f)
          reduced = (PolyD (domain F)).cancel_mul {c = up q ⊗ T (up q)} (product_ne (PolyD (domain F)) (whole_ne q n) (keeps_up (up q) (whole_ne q n)))
              (cross (up p) (up q) (T (up p)) (T (up q)) l.p l.q (T l.p) (T l.q) (up f) l.cross shifted (up_crossed p q f h))
            where
              cross : (p q p' q' s d s' d' f : List (Quotient D)) → p ⊗ d ≋ s ⊗ q → p' ⊗ d' ≋ s' ⊗ q' → p' ⊗ q ⊕ ⊖ (p ⊗ q') ≋ f ⊗ (q ⊗ q')
                  → (q ⊗ q') ⊗ (s' ⊗ d ⊕ ⊖ (s ⊗ d')) ≋ (q ⊗ q') ⊗ (f ⊗ (d ⊗ d'))
              cross p q p' q' s d s' d' f h i j = by Q (p ∷ q ∷ p' ∷ q' ∷ s ∷ d ∷ s' ∷ d' ∷ f ∷ [])
                  (Q.add_cong (scale Q (d' ⊗ q') h) (Q.add_cong (scale Q (⊖ (d ⊗ q)) i) (scale Q (d ⊗ d') j))) (search reads depth 24 fits 8000) refl

          divisor : Divides Q l.q (T l.q)
          divisor = gauss Q l.q l.p (T l.q) (coprime_symm Q l.p l.q l.coprime) (record { cofactor = T l.p ⊕ ⊖ (up f ⊗ T l.q); is = factor l.p l.q (T l.p) (T l.q) (up f) reduced })
            where
              factor : (s d s' d' f : List (Quotient D)) → s' ⊗ d ⊕ ⊖ (s ⊗ d') ≋ f ⊗ (d ⊗ d') → s ⊗ d' ≋ d ⊗ (s' ⊕ ⊖ (f ⊗ d'))
              factor s d s' d' f h = by Q (s ∷ d ∷ s' ∷ d' ∷ f ∷ []) (scale Q (⊖ (S.I ∷ [])) h) (search reads depth 20 fits 4000) refl

          flat : l.n ≡ 0
          flat = no_degree l.n l.q l.monic divisor

          one : l.q ≋ (S.I ∷ [])
          one = record { image = record { at = at } }
            where
              zeroth : Monic S 0 l.q
              zeroth = subst (λ (j : ℕ). Monic S j l.q) flat l.monic

              at : (i : ℕ) → S.◌≈◌ (coef S l.q i) (coef S (S.I ∷ []) i)
              at zero = zeroth.top
              at (suc i) = zeroth.ends (suc i) (omega arith)

          one_shifted : T l.q ≋ (S.I ∷ [])
          one_shifted = Q.trans (TH.on_cong l.q (S.I ∷ []) one) TH.on-one

          telescopes : Telescopes Q TH l.p (up f)
          telescopes = simple l.p l.q (T l.p) (T l.q) (up f) reduced one one_shifted
            where
              simple : (s d s' d' f : List (Quotient D)) → s' ⊗ d ⊕ ⊖ (s ⊗ d') ≋ f ⊗ (d ⊗ d') → d ≋ (S.I ∷ []) → d' ≋ (S.I ∷ []) → s' ⊕ ⊖ s ≋ f
              simple s d s' d' f h i j = by Q (s ∷ d ∷ s' ∷ d' ∷ f ∷ [])
                  (Q.add_cong h (Q.add_cong (scale Q (⊖ s' ⊕ f ⊗ d') i) (scale Q (s ⊕ f) j))) (search reads depth 24 fits 8000) refl

          done : (g : List A) × (l.p ≋ up g) → Divides P q p
          done r = record { cofactor = r.0; is = map_same R S w (whole_same D) p (P.◌⊠◌ q r.0) (Q.trans (last (up p) (up q) l.p l.q (up r.0) l.cross one r.1) (Q.symm ((mapH R S w).on-mul q r.0))) }
            where
              last : (p q s d g : List (Quotient D)) → p ⊗ d ≋ s ⊗ q → d ≋ (S.I ∷ []) → s ≋ g → p ≋ q ⊗ g
              last p q s d g h i j = by Q (p ∷ q ∷ s ∷ d ∷ g ∷ []) (Q.add_cong h (Q.add_cong (scale Q (⊖ p) i) (scale Q q j))) (search reads depth 20 fits 4000) refl

  pub integral_above : Integral (PolyD D) (twistH R σ β)
  integral_above = record { keeps = twist_keeps D σ β good.keeps; divides = divides_above }
