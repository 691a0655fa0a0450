-- Laurent polynomials in one product x over a domain D: a polynomial over a power of x.
--   Laurent D          the polynomial `poly` over x^lag
--   LaurentR, LaurentD     the ring and the domain, with the equality of fractions
--   polynomialH, constantsH    polynomials, and elements of D, as Laurent polynomials
--   power_of e         x^e
use Rattle.std.proofs.Common.{ℕ, zero, suc, ◌+◌, refl, List, [], ◌∷◌, ℤ, pos, negsuc, add-zero}
use Rattle.sg_algebra.specs.Ring.{Ring, Domain, Hom}
use Rattle.sg_algebra.proofs.Ring.{pow, pow-add}
use Rattle.sg_algebra.proofs.Solver.{ring, reads}
use Rattle.sg_algebra.proofs.Field.{product_ne, domain}
use Rattle.sg_algebra.proofs.Divides.{after}
use Rattle.sg_algebra.proofs.Pull.{Into, PullR}
use Rattle.sg_algebra.proofs.PolynomialRing.{PolyR, X, constantH}
use Rattle.sg_algebra.proofs.Degree.{PolyD}
use Rattle.sg_algebra.proofs.Quotient.{Quotient, QuotientR, QuotientF}

-- a ring whose images lie in a domain is a domain
module _ (S : Domain) (B : Type 0) (t : Into S.R B) where
  open S use {R}

  abbrev pub PullD : Domain
  PullD = record {
    R = PullR S.R B t;
    is_zero = λ x. elim (S.is_zero (t.f x)) [ yes h ↦ yes (record { image = R.trans h (R.symm t.f-zer) }) | no h ↦ no (λ e. h (R.trans e.image t.f-zer)) ];
    one_ne = λ e. S.one_ne (R.trans (R.symm t.f-one) (R.trans e.image t.f-zer));
    cancel_mul = λ {c} {x} {y} h e. record {
      image = S.cancel_mul (λ z. h (record { image = R.trans z (R.symm t.f-zer) })) (R.trans (R.symm (t.f-mul c x)) (R.trans e.image (t.f-mul c y)));
    };
  }

module _ (D : Domain) where
  open D use {R, one_ne}
  open R use {A, ◌≈◌, O, I}
  open PolyR R use {◌≈◌ as ◌≋◌, ◌⊞◌ as ◌⊕◌, ◌⊠◌ as ◌⊗◌, ⊟ as ⊖}

  abbrev P : Ring
  P = PolyR R

  pub X_ne : ¬ (X R ≋ [])
  X_ne h = one_ne (h.image.at 1)

  pub power_ne : (n : ℕ) → ¬ (pow P (X R) n ≋ [])
  power_ne zero = (PolyD D).one_ne
  power_ne (suc n) = product_ne (PolyD D) (power_ne n) X_ne

  pub record Laurent : Type 0 where
    pub poly : List A
    pub lag : ℕ

  abbrev pub fraction : Laurent → Quotient (PolyD D)
  fraction x = record { num = x.poly; den = pow P (X R) x.lag; den_ne = power_ne x.lag }

  abbrev pub into : Into (QuotientR (PolyD D)) Laurent
  into = record {
    f = fraction;
    add = λ x y. record { poly = x.poly ⊗ pow P (X R) y.lag ⊕ y.poly ⊗ pow P (X R) x.lag; lag = x.lag + y.lag };
    mul = λ x y. record { poly = x.poly ⊗ y.poly; lag = x.lag + y.lag };
    neg = λ x. record { poly = ⊖ x.poly; lag = x.lag };
    zer = record { poly = []; lag = 0 };
    one = record { poly = I ∷ []; lag = 0 };
    f-add = λ x y. record { cross = P.mul_cong (P.rfl {x = x.poly ⊗ pow P (X R) y.lag ⊕ y.poly ⊗ pow P (X R) x.lag}) (P.symm (pow-add P (X R) x.lag y.lag)) };
    f-mul = λ x y. record { cross = P.mul_cong (P.rfl {x = x.poly ⊗ y.poly}) (P.symm (pow-add P (X R) x.lag y.lag)) };
    f-neg = λ x. record { cross = P.rfl };
    f-zer = record { cross = P.rfl };
    f-one = record { cross = P.rfl };
  }

  abbrev pub LaurentD : Domain
  LaurentD = PullD (domain (QuotientF (PolyD D))) Laurent into

  abbrev pub LaurentR : Ring
  LaurentR = PullR (QuotientR (PolyD D)) Laurent into

  -- equal: the cross products are
  pub equal : (x y : Laurent) → x.poly ⊗ pow P (X R) y.lag ≋ y.poly ⊗ pow P (X R) x.lag → LaurentR.◌≈◌ x y
  equal x y h = record { image = record { cross = h } }

  pub polynomial-add : (p q : List A) → LaurentR.◌≈◌ (record { poly = p ⊕ q; lag = 0 }) (LaurentR.◌⊞◌ (record { poly = p; lag = 0 }) (record { poly = q; lag = 0 }))
  polynomial-add p q = equal (record { poly = p ⊕ q; lag = 0 }) (LaurentR.◌⊞◌ (record { poly = p; lag = 0 }) (record { poly = q; lag = 0 })) (ring P (p ∷ q ∷ []) (search reads depth 20) refl)

  abbrev pub polynomialH : Hom P LaurentR
  polynomialH = record {
    on = λ p. record { poly = p; lag = 0 };
    on_cong = λ p q h. record { image = record { cross = P.mul_cong h (P.rfl {x = I ∷ []}) } };
    on-add = polynomial-add;
    on-mul = λ p q. record { image = record { cross = P.rfl } };
    on-one = LaurentR.rfl;
  }

  abbrev pub constantsH : Hom R LaurentR
  constantsH = after R P LaurentR (constantH R) polynomialH

  abbrev pub power_of : ℤ → Laurent
  power_of (pos n) = record { poly = pow P (X R) n; lag = 0 }
  power_of (negsuc n) = record { poly = I ∷ []; lag = suc n }

  -- p over x^m is x^-m times p
  pub over_power : (p : List A) (m : ℕ) → LaurentR.◌≈◌ (record { poly = p; lag = m }) (LaurentR.◌⊠◌ (record { poly = I ∷ []; lag = m }) (record { poly = p; lag = 0 }))
  over_power p m = equal (record { poly = p; lag = m }) (LaurentR.◌⊠◌ (record { poly = I ∷ []; lag = m }) (record { poly = p; lag = 0 }))
      (rw add-zero (ring P (p ∷ pow P (X R) m ∷ []) (search reads depth 16) refl))

  -- x^j over x^j is one
  pub lifted_power : (p : List A) (j : ℕ) → LaurentR.◌≈◌ (LaurentR.◌⊠◌ (record { poly = I ∷ []; lag = j }) (record { poly = pow P (X R) j ⊗ p; lag = 0 })) (record { poly = p; lag = 0 })
  lifted_power p j = equal (LaurentR.◌⊠◌ (record { poly = I ∷ []; lag = j }) (record { poly = pow P (X R) j ⊗ p; lag = 0 })) (record { poly = p; lag = 0 })
      (rw add-zero (ring P (p ∷ pow P (X R) j ∷ []) (search reads depth 16) refl))
