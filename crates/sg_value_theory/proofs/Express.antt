-- From expressions with divisors to elements: each is a quotient of elements, said without dividing.
--   Known            an element whose values are those of the expression at every place
--   Expressed        elements p and q, q not zero, with q's value times the expression's value = p's value from some place on
--   express          every expression over known sums whose values exist from some place on is so; divisors may hold sums
use Rattle.std.proofs.Common.{◌≡◌, ℕ, zero, suc, ◌+◌, ◌≤◌, refl, ◌∙◌, ap, ap₂, List, [], ◌∷◌, ℤ, pos, negsuc, ◌+ℤ◌, Option, Contains, arith}
use Rattle.sg_algebra.specs.Ring.{Domain, Hom}
use Rattle.sg_algebra.proofs.Ring.{nat, pow}
use Rattle.sg_algebra.proofs.Solver.{ring, by, scale, reads}
use Rattle.sg_algebra.proofs.Field.{product_ne}
use Rattle.sg_algebra.proofs.Value.{Value, ◌+ᵛ◌, ◌*ᵛ◌, neg_value, zero_value, one_value}
use Rattle.sg_algebra.proofs.ValueField.{ValueR, ValueD, value_is_zero}
use Rattle.sg_algebra.proofs.Rational.{whole_value, fraction_value-whole}
use Rattle.sg_spec.specs.Fraction.{Fraction}
use Rattle.sg_spec.specs.Tree.{Tree, numeral, here, param, add, neg, mul, div, power, sum_from, prod_from}
use Rattle.sg_spec.specs.Value.{val, both, sum_of, product_of, quotient_of}
use Rattle.sg_spec.specs.Generators.{Over}
use Rattle.sg_spec.proofs.Values.{val-proper}
use Rattle.sg_spec.proofs.Worth.{Worth, worth-sum, worth-product, worth-opposite, worth-power}
use Rattle.sg_value_theory.proofs.NumberParts.{HasNumber, number_unique, both_parts, opposite_part, power_part, quotient_worth, pow-mul}
use Rattle.sg_tower_theory.proofs.Lawful.{Lawful}
use Rattle.sg_value_theory.proofs.Places.{Places}
use Rattle.sg_value_theory.proofs.First.{zero_only}

module _ (D : Domain) (σ : Hom D.R D.R) (places : Places D.R (ValueR 0) σ) (k0 : ℤ) where
  open D use {R}
  open R use {A, ◌≈◌, ◌⊞◌, ◌⊠◌, ⊟, O, I}
  open places use {Has, from, has_past, has_unique}

  abbrev pub worth_at : Tree → ℕ → Value 0 → Type 0
  worth_at e k v = Worth (val e (pos 0) (k0 +ℤ pos k)) v

  -- whole numbers and powers

  pub has_nat : (n k : ℕ) → Has (nat R n) k (nat (ValueR 0) n)
  has_nat zero k = places.has_zero k
  has_nat (suc n) k = places.has_add (nat R n) I k (nat (ValueR 0) n) one_value (has_nat n k) (places.has_one k)

  abbrev whole_element : ℤ → A
  whole_element (pos n) = nat R n
  whole_element (negsuc n) = ⊟ (nat R (suc n))

  has_whole : (c : ℤ) (k : ℕ) → Has (whole_element c) k (whole_value 0 c)
  has_whole (pos n) k = has_nat n k
  has_whole (negsuc n) k = places.has_neg (nat R (suc n)) k (nat (ValueR 0) (suc n)) (has_nat (suc n) k)

  has_pow : (x : A) (k : ℕ) (v : Value 0) (e : ℕ) → Has x k v → Has (pow R x e) k (pow (ValueR 0) v e)
  has_pow x k v zero h = places.has_one k
  has_pow x k v (suc e) h = places.has_mul (pow R x e) x k (pow (ValueR 0) v e) v (has_pow x k v e h) h

  pow_ne : (x : A) (e : ℕ) → ¬ (x ≈ O) → ¬ (pow R x e ≈ O)
  pow_ne x zero n = D.one_ne
  pow_ne x (suc e) n = product_ne D (pow_ne x e n) n

  -- ---- Quotients

  abbrev pub Known : Tree → A → Type 0
  Known t h = (k : ℕ) → (v : Value 0) × Has h k v × worth_at t k v

  pub record Expressed (e : Tree) : Type 0 where
    pub p : A
    pub q : A
    pub q_ne : ¬ (q ≈ O)
    pub bound : ℕ
    pub is : (k : ℕ) (u w x : Value 0) → bound ≤ k → Has q k u → Has p k w → worth_at e k x → u *ᵛ x ≡ w

  record Part (e : Tree) (a : Expressed e) (k : ℕ) : Type 0 where
    u : Value 0
    w : Value 0
    x : Value 0
    has_q : Has a.q k u
    has_p : Has a.p k w
    worth : worth_at e k x
    is : u *ᵛ x ≡ w

  abbrev ready : (e : Tree) → Expressed e → ℕ
  ready e a = a.bound + (from a.p + from a.q)

  part : (e : Tree) (a : Expressed e) (k : ℕ) → ready e a ≤ k → HasNumber (val e (pos 0) (k0 +ℤ pos k)) → Part e a k
  part e a k l x = go (has_past a.q k (omega arith)) (has_past a.p k (omega arith))
    where
      go : (u : Value 0) × Has a.q k u → (w : Value 0) × Has a.p k w → Part e a k
      go u w = record { u = u.0; w = w.0; x = x.0; has_q = u.1; has_p = w.1; worth = x.1; is = a.is k u.0 w.0 x.0 (omega arith) u.1 w.1 x.1 }

  known_expressed : (e : Tree) (h : A) → Known e h → Expressed e
  known_expressed e h known = record {
    p = h;
    q = I;
    q_ne = D.one_ne;
    bound = 0;
    is = λ k u w x l g i j. at k u w x g i j (known k);
  }
    where
      at : (k : ℕ) (u w x : Value 0) → Has I k u → Has h k w → worth_at e k x → (v : Value 0) × Has h k v × worth_at e k v → u *ᵛ x ≡ w
      at k u w x g i j v = ap₂ ◌*ᵛ◌ (has_unique I k u one_value g (places.has_one k)) (number_unique (val e (pos 0) (k0 +ℤ pos k)) x v.0 j v.2)
          ∙ ring (ValueR 0) (v.0 ∷ []) (search reads depth 12) refl ∙ has_unique h k v.0 w v.1 i

  add_expressed : (x y : Tree) → Expressed x → Expressed y → Expressed (add x y)
  add_expressed x y a b = record {
    p = a.p ⊠ b.q ⊞ b.p ⊠ a.q;
    q = a.q ⊠ b.q;
    q_ne = product_ne D a.q_ne b.q_ne;
    bound = ready x a + ready y b;
    is = λ k u w v l g i j. let n = both_parts sum_of (val x (pos 0) (k0 +ℤ pos k)) (val y (pos 0) (k0 +ℤ pos k)) v j in
        at k u w v g i j (part x a k (first (ready x a) (ready y b) k l) n.0) (part y b k (second (ready x a) (ready y b) k l) n.1);
  }
    where
      first : (m n k : ℕ) → m + n ≤ k → m ≤ k
      first m n k l = omega arith

      second : (m n k : ℕ) → m + n ≤ k → n ≤ k
      second m n k l = omega arith

      sums : (u w x s y z : Value 0) → u *ᵛ x ≡ w → s *ᵛ z ≡ y → (u *ᵛ s) *ᵛ (x +ᵛ z) ≡ w *ᵛ s +ᵛ y *ᵛ u
      sums u w x s y z h k = by (ValueR 0) (u ∷ w ∷ x ∷ s ∷ y ∷ z ∷ []) ((ValueR 0).add_cong (scale (ValueR 0) s h) (scale (ValueR 0) u k)) (search reads depth 16 fits 4000) refl

      at : (k : ℕ) (u w v : Value 0) → Has (a.q ⊠ b.q) k u → Has (a.p ⊠ b.q ⊞ b.p ⊠ a.q) k w → worth_at (add x y) k v → Part x a k → Part y b k → u *ᵛ v ≡ w
      at k u w v g i j s t =
          ap₂ ◌*ᵛ◌ (has_unique (a.q ⊠ b.q) k u (s.u *ᵛ t.u) g (places.has_mul a.q b.q k s.u t.u s.has_q t.has_q))
          (number_unique (val (add x y) (pos 0) (k0 +ℤ pos k)) v (s.x +ᵛ t.x) j
          (worth-sum (val x (pos 0) (k0 +ℤ pos k)) (val y (pos 0) (k0 +ℤ pos k)) s.x t.x (val-proper x (pos 0) (k0 +ℤ pos k)) (val-proper y (pos 0) (k0 +ℤ pos k)) s.worth t.worth))
          ∙ sums s.u s.w s.x t.u t.w t.x s.is t.is
          ∙ has_unique (a.p ⊠ b.q ⊞ b.p ⊠ a.q) k (s.w *ᵛ t.u +ᵛ t.w *ᵛ s.u) w
          (places.has_add (a.p ⊠ b.q) (b.p ⊠ a.q) k (s.w *ᵛ t.u) (t.w *ᵛ s.u) (places.has_mul a.p b.q k s.w t.u s.has_p t.has_q) (places.has_mul b.p a.q k t.w s.u t.has_p s.has_q)) i

  mul_expressed : (x y : Tree) → Expressed x → Expressed y → Expressed (mul x y)
  mul_expressed x y a b = record {
    p = a.p ⊠ b.p;
    q = a.q ⊠ b.q;
    q_ne = product_ne D a.q_ne b.q_ne;
    bound = ready x a + ready y b;
    is = λ k u w v l g i j. let n = both_parts product_of (val x (pos 0) (k0 +ℤ pos k)) (val y (pos 0) (k0 +ℤ pos k)) v j in
        at k u w v g i j (part x a k (first (ready x a) (ready y b) k l) n.0) (part y b k (second (ready x a) (ready y b) k l) n.1);
  }
    where
      first : (m n k : ℕ) → m + n ≤ k → m ≤ k
      first m n k l = omega arith

      second : (m n k : ℕ) → m + n ≤ k → n ≤ k
      second m n k l = omega arith

      products : (u w x s y z : Value 0) → u *ᵛ x ≡ w → s *ᵛ z ≡ y → (u *ᵛ s) *ᵛ (x *ᵛ z) ≡ w *ᵛ y
      products u w x s y z h k = by (ValueR 0) (u ∷ w ∷ x ∷ s ∷ y ∷ z ∷ []) ((ValueR 0).add_cong (scale (ValueR 0) (s *ᵛ z) h) (scale (ValueR 0) w k)) (search reads depth 16 fits 4000) refl

      at : (k : ℕ) (u w v : Value 0) → Has (a.q ⊠ b.q) k u → Has (a.p ⊠ b.p) k w → worth_at (mul x y) k v → Part x a k → Part y b k → u *ᵛ v ≡ w
      at k u w v g i j s t =
          ap₂ ◌*ᵛ◌ (has_unique (a.q ⊠ b.q) k u (s.u *ᵛ t.u) g (places.has_mul a.q b.q k s.u t.u s.has_q t.has_q))
          (number_unique (val (mul x y) (pos 0) (k0 +ℤ pos k)) v (s.x *ᵛ t.x) j
          (worth-product (val x (pos 0) (k0 +ℤ pos k)) (val y (pos 0) (k0 +ℤ pos k)) s.x t.x (val-proper x (pos 0) (k0 +ℤ pos k)) (val-proper y (pos 0) (k0 +ℤ pos k)) s.worth t.worth))
          ∙ products s.u s.w s.x t.u t.w t.x s.is t.is
          ∙ has_unique (a.p ⊠ b.p) k (s.w *ᵛ t.w) w (places.has_mul a.p b.p k s.w t.w s.has_p t.has_p) i

  neg_expressed : (x : Tree) → Expressed x → Expressed (neg x)
  neg_expressed x a = record {
    p = ⊟ a.p;
    q = a.q;
    q_ne = a.q_ne;
    bound = ready x a;
    is = λ k u w v l g i j. at k u w v g i j (part x a k l (opposite_part (val x (pos 0) (k0 +ℤ pos k)) v j));
  }
    where
      opposite : (u w x : Value 0) → u *ᵛ x ≡ w → u *ᵛ neg_value x ≡ neg_value w
      opposite u w x h = by (ValueR 0) (u ∷ w ∷ x ∷ []) ((ValueR 0).neg_cong h) (search reads depth 16) refl

      at : (k : ℕ) (u w v : Value 0) → Has a.q k u → Has (⊟ a.p) k w → worth_at (neg x) k v → Part x a k → u *ᵛ v ≡ w
      at k u w v g i j s =
          ap₂ ◌*ᵛ◌ (has_unique a.q k u s.u g s.has_q)
          (number_unique (val (neg x) (pos 0) (k0 +ℤ pos k)) v (neg_value s.x) j (worth-opposite (val x (pos 0) (k0 +ℤ pos k)) s.x (val-proper x (pos 0) (k0 +ℤ pos k)) s.worth))
          ∙ opposite s.u s.w s.x s.is
          ∙ has_unique (⊟ a.p) k (neg_value s.w) w (places.has_neg a.p k s.w s.has_p) i

  power_expressed : (x : Tree) (e : ℕ) → Expressed x → Expressed (power x e)
  power_expressed x e a = record {
    p = pow R a.p e;
    q = pow R a.q e;
    q_ne = pow_ne a.q e a.q_ne;
    bound = ready x a;
    is = λ k u w v l g i j. at k u w v g i j (part x a k l (power_part (val x (pos 0) (k0 +ℤ pos k)) e v j));
  }
    where
      at : (k : ℕ) (u w v : Value 0) → Has (pow R a.q e) k u → Has (pow R a.p e) k w → worth_at (power x e) k v → Part x a k → u *ᵛ v ≡ w
      at k u w v g i j s =
          ap₂ ◌*ᵛ◌ (has_unique (pow R a.q e) k u (pow (ValueR 0) s.u e) g (has_pow a.q k s.u e s.has_q))
          (number_unique (val (power x e) (pos 0) (k0 +ℤ pos k)) v (pow (ValueR 0) s.x e) j (worth-power (val x (pos 0) (k0 +ℤ pos k)) s.x e (val-proper x (pos 0) (k0 +ℤ pos k)) s.worth))
          ∙ pow-mul s.u s.x e ∙ ap (λ y. pow (ValueR 0) y e) s.is
          ∙ has_unique (pow R a.p e) k (pow (ValueR 0) s.w e) w (has_pow a.p k s.w e s.has_p) i

  module _ (lawful : Lawful D σ) where
    -- a divisor's element isn't zero, else the divisor's values were 0 at last
    divisor_ne : (x y : Tree) (b : Expressed y) (K : ℕ) → ((k : ℕ) → K ≤ k → HasNumber (val (div x y) (pos 0) (k0 +ℤ pos k))) → ¬ (b.p ≈ O)
    divisor_ne x y b K defined z = b.q_ne (zero_only D (ValueD 0) σ places lawful b.q (K + ready y b) none)
      where
        first : (m n k : ℕ) → m + n ≤ k → m ≤ k
        first m n k l = omega arith

        second : (m n k : ℕ) → m + n ≤ k → n ≤ k
        second m n k l = omega arith

        none : (k : ℕ) (v : Value 0) → K + ready y b ≤ k → Has b.q k v → v ≡ zero_value
        none k v l h = go (defined k (first K (ready y b) k l))
          where
            U : Option Fraction
            U = val x (pos 0) (k0 +ℤ pos k)

            W : Option Fraction
            W = val y (pos 0) (k0 +ℤ pos k)

            vanish : (u x : Value 0) → ¬ (x ≡ zero_value) → u *ᵛ x ≡ zero_value → u ≡ zero_value
            vanish u x n e = elim (value_is_zero 0 u) [ yes i ↦ i | no i ↦ absurd (product_ne (ValueD 0) i n e) ]

            go : HasNumber (both quotient_of U W) → v ≡ zero_value
            go c = parts (both_parts quotient_of U W c.0 c.1)
              where
                parts : HasNumber U × HasNumber W → v ≡ zero_value
                parts n = at (part y b k (second K (ready y b) k l) n.1)
                  where
                    at : Part y b k → v ≡ zero_value
                    at s = has_unique b.q k v s.u h s.has_q
                        ∙ vanish s.u s.x (quotient_worth U W c.0 n.0.0 s.x (val-proper x (pos 0) (k0 +ℤ pos k)) (val-proper y (pos 0) (k0 +ℤ pos k)) c.1 n.0.1 s.worth).0
                        (s.is ∙ has_unique O k s.w zero_value (places.has_same b.p O k s.w s.w z refl s.has_p) (places.has_zero k))

    div_expressed : (x y : Tree) → Expressed x → (b : Expressed y) → ¬ (b.p ≈ O) → Expressed (div x y)
    div_expressed x y a b n = record {
      p = a.p ⊠ b.q;
      q = a.q ⊠ b.p;
      q_ne = product_ne D a.q_ne n;
      bound = ready x a + ready y b;
      is = λ k u w v l g i j. let n = both_parts quotient_of (val x (pos 0) (k0 +ℤ pos k)) (val y (pos 0) (k0 +ℤ pos k)) v j in
          at k u w v g i j (part x a k (first (ready x a) (ready y b) k l) n.0) (part y b k (second (ready x a) (ready y b) k l) n.1);
    }
      where
        first : (m n k : ℕ) → m + n ≤ k → m ≤ k
        first m n k l = omega arith

        second : (m n k : ℕ) → m + n ≤ k → n ≤ k
        second m n k l = omega arith

        quotients : (u w x s y z v : Value 0) → u *ᵛ x ≡ w → s *ᵛ z ≡ y → v *ᵛ z ≡ x → (u *ᵛ y) *ᵛ v ≡ w *ᵛ s
        quotients u w x s y z v h k e = by (ValueR 0) (u ∷ w ∷ x ∷ s ∷ y ∷ z ∷ v ∷ [])
            ((ValueR 0).add_cong (scale (ValueR 0) s h) ((ValueR 0).add_cong (scale (ValueR 0) (neg_value (u *ᵛ v)) k) (scale (ValueR 0) (u *ᵛ s) e))) (search reads depth 20 fits 4000) refl

        at : (k : ℕ) (u w v : Value 0) → Has (a.q ⊠ b.p) k u → Has (a.p ⊠ b.q) k w → worth_at (div x y) k v → Part x a k → Part y b k → u *ᵛ v ≡ w
        at k u w v g i j s t =
            ap (λ y. y *ᵛ v) (has_unique (a.q ⊠ b.p) k u (s.u *ᵛ t.w) g (places.has_mul a.q b.p k s.u t.w s.has_q t.has_p))
            ∙ quotients s.u s.w s.x t.u t.w t.x v s.is t.is
            (quotient_worth (val x (pos 0) (k0 +ℤ pos k)) (val y (pos 0) (k0 +ℤ pos k)) v s.x t.x (val-proper x (pos 0) (k0 +ℤ pos k)) (val-proper y (pos 0) (k0 +ℤ pos k)) j s.worth t.worth).1
            ∙ has_unique (a.p ⊠ b.q) k (s.w *ᵛ t.u) w (places.has_mul a.p b.q k s.w t.u s.has_p t.has_q) i

    module _ (ss : List Tree) (sums : (t : Tree) → Contains ss t → (h : A) × Known t h) (variable : A) (variable_known : Known here variable) where
      abbrev pub DefinedFrom : Tree → ℕ → Type 0
      DefinedFrom e K = (k : ℕ) → K ≤ k → HasNumber (val e (pos 0) (k0 +ℤ pos k))

      pub express : (e : Tree) → Over ss e → (K : ℕ) → DefinedFrom e K → Expressed e
      express (numeral c) o K d = known_expressed (numeral c) (whole_element c) (λ k. (whole_value 0 c, has_whole c k, fraction_value-whole c))
      express here o K d = known_expressed here variable variable_known
      express param o K d = absurd o
      express (add x y) o K d = add_expressed x y (express x o.0 K (λ k l. let c = d k l in (both_parts sum_of (val x (pos 0) (k0 +ℤ pos k)) (val y (pos 0) (k0 +ℤ pos k)) c.0 c.1).0))
          (express y o.1 K (λ k l. let c = d k l in (both_parts sum_of (val x (pos 0) (k0 +ℤ pos k)) (val y (pos 0) (k0 +ℤ pos k)) c.0 c.1).1))
      express (neg x) o K d = neg_expressed x (express x o K (λ k l. let c = d k l in opposite_part (val x (pos 0) (k0 +ℤ pos k)) c.0 c.1))
      express (mul x y) o K d = mul_expressed x y (express x o.0 K (λ k l. let c = d k l in (both_parts product_of (val x (pos 0) (k0 +ℤ pos k)) (val y (pos 0) (k0 +ℤ pos k)) c.0 c.1).0))
          (express y o.1 K (λ k l. let c = d k l in (both_parts product_of (val x (pos 0) (k0 +ℤ pos k)) (val y (pos 0) (k0 +ℤ pos k)) c.0 c.1).1))
      express (div x y) o K d =
          let b = express y o.1 K (λ k l. let c = d k l in (both_parts quotient_of (val x (pos 0) (k0 +ℤ pos k)) (val y (pos 0) (k0 +ℤ pos k)) c.0 c.1).1) in
          div_expressed x y (express x o.0 K (λ k l. let c = d k l in (both_parts quotient_of (val x (pos 0) (k0 +ℤ pos k)) (val y (pos 0) (k0 +ℤ pos k)) c.0 c.1).0)) b (divisor_ne x y b K d)
      express (power x e) o K d = power_expressed x e (express x o K (λ k l. let c = d k l in power_part (val x (pos 0) (k0 +ℤ pos k)) e c.0 c.1))
      express (sum_from a body) o K d = let h = sums (sum_from a body) o in known_expressed (sum_from a body) h.0 h.1
      express (prod_from a body) o K d = absurd o
