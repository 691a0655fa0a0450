-- Fractions over a domain, equal where their cross products are: a ring, and a field.
--   Quotient D            a numerator over a denominator that isn't zero
--   x ≃ y                 the cross products are equal
--   add_quotient, mul_quotient, neg_quotient, whole_quotient    sum, product, negative, an element over one
--   QuotientR D, QuotientF D      the ring and the field
--   wholeH, whole_same    the embedding of the domain is a map of rings; equal fractions over one have equal numerators
--   num_zero, zero_num    a fraction is zero exactly where its numerator is
--   Lowest, lowest        over a Euclidean domain, an equal fraction in lowest terms
use Rattle.std.proofs.Common.{refl, [], ◌∷◌}
use Rattle.sg_algebra.specs.Ring.{Ring, Domain, Field, Hom}
use Rattle.sg_algebra.proofs.Ring.{mul_O}
use Rattle.sg_algebra.proofs.Solver.{ring, by, scale, reads}
use Rattle.sg_algebra.proofs.Field.{product_ne}
use Rattle.sg_algebra.proofs.Coprime.{Coprime}
use Rattle.sg_algebra.proofs.Euclid.{Euclidean, Bezout, bezout, coprime_parts_of}

module _ (D : Domain) where
  open D use {R, is_zero, one_ne, cancel_mul}
  open R use {A, ◌≈◌, ◌⊞◌, ◌⊠◌, ⊟, O, I, rfl, symm, trans, mul_cong, add_cong, neg_cong, mul_I}

  pub record Quotient : Type 0 where
    pub num : A
    pub den : A
    pub den_ne : ¬ (den ≈ O)

  infix 4 ◌≃◌
  pub record ◌≃◌ (x y : Quotient) : Type 0 where
    pub cross : x.num ⊠ y.den ≈ y.num ⊠ x.den

  abbrev pub add_quotient : Quotient → Quotient → Quotient
  add_quotient x y = record { num = x.num ⊠ y.den ⊞ y.num ⊠ x.den; den = x.den ⊠ y.den; den_ne = product_ne D x.den_ne y.den_ne }

  abbrev pub mul_quotient : Quotient → Quotient → Quotient
  mul_quotient x y = record { num = x.num ⊠ y.num; den = x.den ⊠ y.den; den_ne = product_ne D x.den_ne y.den_ne }

  abbrev pub neg_quotient : Quotient → Quotient
  neg_quotient x = record { num = ⊟ x.num; den = x.den; den_ne = x.den_ne }

  abbrev pub whole_quotient : A → Quotient
  whole_quotient a = record { num = a; den = I; den_ne = one_ne }

  -- ---- The ring

  pub ≃_trans : {x y z : Quotient} → x ≃ y → y ≃ z → x ≃ z
  ≃_trans {x} {y} {z} h k = record {
    cross = cancel_mul y.den_ne (by R (x.num ∷ x.den ∷ y.num ∷ y.den ∷ z.num ∷ z.den ∷ [])
        (add_cong (scale R z.den h.cross) (scale R x.den k.cross)) (search reads depth 20) refl);
  }

  pub add_quotient_cong : {x y u v : Quotient} → x ≃ y → u ≃ v → add_quotient x u ≃ add_quotient y v
  add_quotient_cong {x} {y} {u} {v} h k = record {
    cross = by R (x.num ∷ x.den ∷ y.num ∷ y.den ∷ u.num ∷ u.den ∷ v.num ∷ v.den ∷ [])
        (add_cong (scale R (u.den ⊠ v.den) h.cross) (scale R (x.den ⊠ y.den) k.cross)) (search reads depth 20 fits 4000) refl;
  }

  pub mul_quotient_cong : {x y u v : Quotient} → x ≃ y → u ≃ v → mul_quotient x u ≃ mul_quotient y v
  mul_quotient_cong {x} {y} {u} {v} h k = record {
    cross = by R (x.num ∷ x.den ∷ y.num ∷ y.den ∷ u.num ∷ u.den ∷ v.num ∷ v.den ∷ [])
        (mul_cong h.cross k.cross) (search reads depth 20 fits 4000) refl;
  }

  pub neg_quotient_cong : {x y : Quotient} → x ≃ y → neg_quotient x ≃ neg_quotient y
  neg_quotient_cong {x} {y} h = record { cross = by R (x.num ∷ x.den ∷ y.num ∷ y.den ∷ []) (neg_cong h.cross) (search reads depth 20) refl }

  pub add_quotient-assoc : (x y z : Quotient) → add_quotient (add_quotient x y) z ≃ add_quotient x (add_quotient y z)
  add_quotient-assoc x y z = record { cross = ring R (x.num ∷ x.den ∷ y.num ∷ y.den ∷ z.num ∷ z.den ∷ []) (search reads depth 20) refl }

  pub add_quotient-comm : (x y : Quotient) → add_quotient x y ≃ add_quotient y x
  add_quotient-comm x y = record { cross = ring R (x.num ∷ x.den ∷ y.num ∷ y.den ∷ []) (search reads depth 20) refl }

  pub add_quotient-O : (x : Quotient) → add_quotient x (whole_quotient O) ≃ x
  add_quotient-O x = record { cross = ring R (x.num ∷ x.den ∷ []) (search reads depth 20) refl }

  pub add_quotient-neg : (x : Quotient) → add_quotient x (neg_quotient x) ≃ whole_quotient O
  add_quotient-neg x = record { cross = ring R (x.num ∷ x.den ∷ []) (search reads depth 20) refl }

  pub mul_quotient-assoc : (x y z : Quotient) → mul_quotient (mul_quotient x y) z ≃ mul_quotient x (mul_quotient y z)
  mul_quotient-assoc x y z = record { cross = ring R (x.num ∷ x.den ∷ y.num ∷ y.den ∷ z.num ∷ z.den ∷ []) (search reads depth 20) refl }

  pub mul_quotient-comm : (x y : Quotient) → mul_quotient x y ≃ mul_quotient y x
  mul_quotient-comm x y = record { cross = ring R (x.num ∷ x.den ∷ y.num ∷ y.den ∷ []) (search reads depth 20) refl }

  pub mul_quotient-I : (x : Quotient) → mul_quotient x (whole_quotient I) ≃ x
  mul_quotient-I x = record { cross = ring R (x.num ∷ x.den ∷ []) (search reads depth 20) refl }

  pub mul-add_quotient : (x y z : Quotient) → mul_quotient x (add_quotient y z) ≃ add_quotient (mul_quotient x y) (mul_quotient x z)
  mul-add_quotient x y z = record { cross = ring R (x.num ∷ x.den ∷ y.num ∷ y.den ∷ z.num ∷ z.den ∷ []) (search reads depth 20) refl }

  abbrev pub QuotientR : Ring
  QuotientR = record {
    A = Quotient;
    ◌≈◌ = ◌≃◌;
    ◌⊞◌ = add_quotient;
    ◌⊠◌ = mul_quotient;
    ⊟ = neg_quotient;
    O = whole_quotient O;
    I = whole_quotient I;
    rfl = record { cross = rfl };
    symm = λ h. record { cross = symm h.cross };
    trans = ≃_trans;
    add_cong = add_quotient_cong;
    mul_cong = mul_quotient_cong;
    neg_cong = neg_quotient_cong;
    add_assoc = λ {x} {y} {z}. add_quotient-assoc x y z;
    add_comm = λ {x} {y}. add_quotient-comm x y;
    add_O = λ {x}. add_quotient-O x;
    add_neg = λ {x}. add_quotient-neg x;
    mul_assoc = λ {x} {y} {z}. mul_quotient-assoc x y z;
    mul_comm = λ {x} {y}. mul_quotient-comm x y;
    mul_I = λ {x}. mul_quotient-I x;
    distrib = λ {x} {y} {z}. mul-add_quotient x y z;
  }

  -- ---- The embedding

  pub whole_quotient_cong : (a b : A) → a ≈ b → whole_quotient a ≃ whole_quotient b
  whole_quotient_cong a b h = record { cross = mul_cong h rfl }

  pub whole-add : (a b : A) → whole_quotient (a ⊞ b) ≃ add_quotient (whole_quotient a) (whole_quotient b)
  whole-add a b = record { cross = ring R (a ∷ b ∷ []) (search reads depth 16) refl }

  pub whole-mul : (a b : A) → whole_quotient (a ⊠ b) ≃ mul_quotient (whole_quotient a) (whole_quotient b)
  whole-mul a b = record { cross = ring R (a ∷ b ∷ []) (search reads depth 16) refl }

  abbrev pub wholeH : Hom R QuotientR
  wholeH = record { on = whole_quotient; on_cong = whole_quotient_cong; on-add = whole-add; on-mul = whole-mul; on-one = record { cross = rfl } }

  pub whole_same : (a b : A) → whole_quotient a ≃ whole_quotient b → a ≈ b
  whole_same a b h = trans (symm mul_I) (trans h.cross mul_I)

  -- ---- The field

  pub num_zero : {x : Quotient} → x.num ≈ O → x ≃ whole_quotient O
  num_zero {x} h = record { cross = by R (x.num ∷ x.den ∷ []) h (search reads depth 12) refl }

  pub zero_num : {x : Quotient} → x ≃ whole_quotient O → x.num ≈ O
  zero_num {x} h = by R (x.num ∷ x.den ∷ []) h.cross (search reads depth 12) refl

  pub quotient_zero : (x : Quotient) → Dec (x ≃ whole_quotient O)
  quotient_zero x = elim (is_zero x.num) [ yes h ↦ yes (num_zero h) | no h ↦ no (λ e. h (zero_num e)) ]

  -- the quotient turned over, and zero where the numerator is zero
  unfoldable pub flip_by : (x : Quotient) → Dec (x.num ≈ O) → Quotient
  flip_by x (yes h) = whole_quotient O
  flip_by x (no h) = record { num = x.den; den = x.num; den_ne = h }

  pub flip_cong : (x y : Quotient) (d : Dec (x.num ≈ O)) (e : Dec (y.num ≈ O)) → x ≃ y → flip_by x d ≃ flip_by y e
  unfolding flip_by
  flip_cong x y (yes h) (yes k) e = record { cross = rfl }
  flip_cong x y (yes h) (no k) e = absurd (k (zero_num (≃_trans (QuotientR.symm e) (num_zero h))))
  flip_cong x y (no h) (yes k) e = absurd (h (zero_num (≃_trans e (num_zero k))))
  flip_cong x y (no h) (no k) e = record { cross = by R (x.num ∷ x.den ∷ y.num ∷ y.den ∷ []) (symm e.cross) (search reads depth 12) refl }

  pub mul-flip : (x : Quotient) (d : Dec (x.num ≈ O)) → ¬ (x ≃ whole_quotient O) → mul_quotient x (flip_by x d) ≃ whole_quotient I
  unfolding flip_by
  mul-flip x (yes h) n = absurd (n (num_zero h))
  mul-flip x (no h) n = record { cross = ring R (x.num ∷ x.den ∷ []) (search reads depth 12) refl }

  pub flip_O : (d : Dec (O ≈ O)) → flip_by (whole_quotient O) d ≃ whole_quotient O
  unfolding flip_by
  flip_O (yes h) = record { cross = rfl }
  flip_O (no h) = absurd (h rfl)

  pub quotient_one_ne : ¬ (whole_quotient I ≃ whole_quotient O)
  quotient_one_ne h = one_ne (zero_num h)

  abbrev pub QuotientF : Field
  QuotientF = record {
    R = QuotientR;
    is_zero = quotient_zero;
    one_ne = quotient_one_ne;
    inv = λ x. flip_by x (is_zero x.num);
    inv_cong = λ {x} {y} h. flip_cong x y (is_zero x.num) (is_zero y.num) h;
    mul_inv = λ x. mul-flip x (is_zero x.num);
  }

-- ---- Lowest terms

module _ (E : Euclidean) where
  open E use {D}
  open D use {R}
  open R use {A, ◌≈◌, ◌⊠◌, ⊟, O, symm, trans, add_cong, mul_cong, rfl}

  pub record Lowest (x : Quotient D) : Type 0 where
    pub form : Quotient D
    pub same : ◌≃◌ D x form
    pub coprime : Coprime R form.num form.den

  pub lowest : (x : Quotient D) → Lowest x
  lowest x = record {
    form = record { num = c.s; den = c.t; den_ne = λ z. x.den_ne (trans (symm c.of_b) (trans (mul_cong rfl z) (mul_O R))) };
    same = record { cross = crossed x.num x.den c.g c.s c.t c.of_a c.of_b };
    coprime = coprime_parts_of D x.num x.den c x.den_ne;
  }
    where
      c : Bezout R x.num x.den
      c = bezout E x.num x.den

      crossed : (p q g s t : A) → g ⊠ s ≈ p → g ⊠ t ≈ q → p ⊠ t ≈ s ⊠ q
      crossed p q g s t h k = by R (p ∷ q ∷ g ∷ s ∷ t ∷ []) (add_cong (scale R (⊟ t) h) (scale R s k)) (search reads depth 16) refl
