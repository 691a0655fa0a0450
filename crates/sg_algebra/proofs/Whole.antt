-- The whole numbers as a ring and as a domain, with the order of products and Euclid's division.
--   ℤR, readsℤ     the ring, and the rules that read its terms: `ring ℤR atoms (search readsℤ depth 16) refl`; numerals are `pos 3`, `negsuc 4`
--   ℤD             the domain
--   add-mulℤ, mul-assocℤ, mul-oneℤ, cancelℤ        the laws of the product that std lacks
--   mul_nonneg, mul_positive, square_nonneg        signs of products
--   mul_le, mul_lt, le_of_mul, lt_of_mul           a product by a number of at least 0, by a positive one; taken away again
--   division       a is a multiple of b and a remainder of smaller size, for b other than 0
use Rattle.std.proofs.Common.{◌≡◌, ◌≢◌, ℕ, zero, suc, ◌*◌, ◌<◌, ◌⊎◌, inl, inr, refl, sym, ap, ap₂, ◌∙◌, [], ◌∷◌, ℤ, pos, negsuc, ◌+ℤ◌, ◌-ℤ◌, ◌*ℤ◌, ◌≤ℤ◌, ◌<ℤ◌, neg_ℤ, unsigned_abs, int_div, int_rem, arith, List}
use Rattle.std.proofs.lemmas.Int.{ints, unsigned_abs-mul, quot-rem, rem_below}
use lib.IntN.{ℤ_discrete, suc_ℤ, pred_ℤ, suc_ℤ-+ℤ, pred_ℤ-+ℤ, suc_ℤ-*ℤ, pred_ℤ-*ℤ, +ℤ_assoc, +ℤ_comm, +ℤ_idl, +ℤ_idr, +ℤ_invr, *ℤ_comm, *ℤ-one, zero-*ℤ, one}
use Rattle.sg_algebra.specs.Ring.{Ring, Domain}
use Rattle.sg_algebra.proofs.Ring.{nat}
use Rattle.sg_algebra.proofs.Solver.{Reads, reads, r_num, r_neg, ring, by}

-- a statement holds of all whole numbers, if it does of 0 and goes up and down by one
up_down : (P : ℤ → Type 0) → P (pos 0) → ((z : ℤ) → P z → P (suc_ℤ z)) → ((z : ℤ) → P z → P (pred_ℤ z)) → (z : ℤ) → P z
up_down P o u d (pos zero) = o
up_down P o u d (pos (suc n)) = u (pos n) (up_down P o u d (pos n))
up_down P o u d (negsuc zero) = d (pos zero) o
up_down P o u d (negsuc (suc n)) = d (negsuc n) (up_down P o u d (negsuc n))

pub add-mulℤ : (m n k : ℤ) → (m +ℤ n) *ℤ k ≡ m *ℤ k +ℤ n *ℤ k
add-mulℤ m n k = up_down (λ m. (m +ℤ n) *ℤ k ≡ m *ℤ k +ℤ n *ℤ k)
    (rw (+ℤ_idl n) (rw (zero-*ℤ k) (sym (+ℤ_idl (n *ℤ k)))))
    (λ z h. rw (suc_ℤ-+ℤ z n) (rw (suc_ℤ-*ℤ (z +ℤ n) k) (rw (suc_ℤ-*ℤ z k) (rw h (omega (arith, ints))))))
    (λ z h. rw (pred_ℤ-+ℤ z n) (rw (pred_ℤ-*ℤ (z +ℤ n) k) (rw (pred_ℤ-*ℤ z k) (rw h (omega (arith, ints))))))
    m

pub mul-assocℤ : (m n k : ℤ) → (m *ℤ n) *ℤ k ≡ m *ℤ (n *ℤ k)
mul-assocℤ m n k = up_down (λ m. (m *ℤ n) *ℤ k ≡ m *ℤ (n *ℤ k))
    (rw (zero-*ℤ n) (rw (zero-*ℤ k) (sym (zero-*ℤ (n *ℤ k)))))
    (λ z h. rw (suc_ℤ-*ℤ z n) (rw (add-mulℤ (z *ℤ n) n k) (rw (suc_ℤ-*ℤ z (n *ℤ k)) (rw h))))
    (λ z h. down z h)
    m
  where
    mul_neg : (a b : ℤ) → neg_ℤ a *ℤ b ≡ neg_ℤ (a *ℤ b)
    mul_neg a b =
        let e : (a +ℤ neg_ℤ a) *ℤ b ≡ a *ℤ b +ℤ neg_ℤ a *ℤ b = add-mulℤ a (neg_ℤ a) b in
        let f : pos 0 ≡ a *ℤ b +ℤ neg_ℤ a *ℤ b = sym (zero-*ℤ b) ∙ (rw (+ℤ_invr a) at e) in
        omega (arith, ints)

    down : (z : ℤ) → (z *ℤ n) *ℤ k ≡ z *ℤ (n *ℤ k) → (pred_ℤ z *ℤ n) *ℤ k ≡ pred_ℤ z *ℤ (n *ℤ k)
    down z h = rw (pred_ℤ-*ℤ z n) (rw (add-mulℤ (z *ℤ n) (neg_ℤ n) k) (rw (pred_ℤ-*ℤ z (n *ℤ k)) (rw h (rw (mul_neg n k)))))

pub mul-oneℤ : (x : ℤ) → x *ℤ pos 1 ≡ x
unfolding one
mul-oneℤ x = *ℤ-one x

abbrev pub ℤR : Ring
ℤR = record {
  A = ℤ;
  ◌≈◌ = λ x y. x ≡ y;
  ◌⊞◌ = ◌+ℤ◌;
  ◌⊠◌ = ◌*ℤ◌;
  ⊟ = neg_ℤ;
  O = pos 0;
  I = pos 1;
  rfl = refl;
  symm = sym;
  trans = ◌∙◌;
  add_cong = ap₂ ◌+ℤ◌;
  mul_cong = ap₂ ◌*ℤ◌;
  neg_cong = ap neg_ℤ;
  add_assoc = λ {x} {y} {z}. +ℤ_assoc x y z;
  add_comm = λ {x} {y}. +ℤ_comm x y;
  add_O = λ {x}. +ℤ_idr x;
  add_neg = λ {x}. +ℤ_invr x;
  mul_assoc = λ {x} {y} {z}. mul-assocℤ x y z;
  mul_comm = λ {x} {y}. *ℤ_comm x y;
  mul_I = λ {x}. mul-oneℤ x;
  distrib = λ {x} {y} {z}. *ℤ_comm x (y +ℤ z) ∙ add-mulℤ y z x ∙ ap₂ ◌+ℤ◌ (*ℤ_comm y x) (*ℤ_comm z x);
}

pub nat-pos : (n : ℕ) → nat ℤR n ≡ pos n
nat-pos zero = refl
nat-pos (suc n) = rw (nat-pos n) (omega (arith, ints))

abbrev pub r_pos : {xs : List ℤ} (n : ℕ) → Reads ℤR xs (pos n)
r_pos n = r_num n (nat-pos n)

abbrev pub r_negsuc : {xs : List ℤ} (n : ℕ) → Reads ℤR xs (negsuc n)
r_negsuc n = r_neg (r_pos (suc n))

pub ruleset readsℤ = (reads, r_pos, r_negsuc)

-- ---- Order of products

pub mul_nonneg : (a b : ℤ) → pos 0 ≤ℤ a → pos 0 ≤ℤ b → pos 0 ≤ℤ (a *ℤ b)
mul_nonneg a b h k = grind (arith, ints)

pub square_nonneg : (a : ℤ) → pos 0 ≤ℤ (a *ℤ a)
square_nonneg a = grind (arith, ints)

pub mul_positive : (a b : ℤ) → pos 0 <ℤ a → pos 0 <ℤ b → pos 0 <ℤ (a *ℤ b)
mul_positive a b h k =
    let d : pos 0 ≤ℤ ((a -ℤ pos 1) *ℤ (b -ℤ pos 1)) = mul_nonneg (a -ℤ pos 1) (b -ℤ pos 1) (omega (arith, ints)) (omega (arith, ints)) in
    let e : (a -ℤ pos 1) *ℤ (b -ℤ pos 1) ≡ (a *ℤ b -ℤ a) -ℤ (b -ℤ pos 1) = ring ℤR (a ∷ b ∷ []) (search readsℤ depth 12) refl in
    omega (arith, ints)

difference-mul : (a b c : ℤ) → (b -ℤ a) *ℤ c ≡ b *ℤ c -ℤ a *ℤ c
difference-mul a b c = ring ℤR (a ∷ b ∷ c ∷ []) (search readsℤ depth 12) refl

pub mul_le : (a b c : ℤ) → a ≤ℤ b → pos 0 ≤ℤ c → (a *ℤ c) ≤ℤ (b *ℤ c)
mul_le a b c h k =
    let d : pos 0 ≤ℤ ((b -ℤ a) *ℤ c) = mul_nonneg (b -ℤ a) c (omega (arith, ints)) k in
    let e : (b -ℤ a) *ℤ c ≡ b *ℤ c -ℤ a *ℤ c = difference-mul a b c in
    omega (arith, ints)

pub mul_lt : (a b c : ℤ) → a <ℤ b → pos 0 <ℤ c → (a *ℤ c) <ℤ (b *ℤ c)
mul_lt a b c h k =
    let d : pos 0 <ℤ ((b -ℤ a) *ℤ c) = mul_positive (b -ℤ a) c (omega (arith, ints)) k in
    let e : (b -ℤ a) *ℤ c ≡ b *ℤ c -ℤ a *ℤ c = difference-mul a b c in
    omega (arith, ints)

le_or_lt : (a b : ℤ) → (a ≤ℤ b) ⊎ (b <ℤ a)
le_or_lt a b = grind (arith, ints)

pub le_of_mul : (a b c : ℤ) → (a *ℤ c) ≤ℤ (b *ℤ c) → pos 0 <ℤ c → a ≤ℤ b
le_of_mul a b c h k = elim (le_or_lt a b) [
  | inl l ↦ l
  | inr g ↦ absurd (let m : (b *ℤ c) <ℤ (a *ℤ c) = mul_lt b a c g k in omega (arith, ints))
]

pub lt_of_mul : (a b c : ℤ) → (a *ℤ c) <ℤ (b *ℤ c) → pos 0 <ℤ c → a <ℤ b
lt_of_mul a b c h k = elim (le_or_lt b a) [
  | inr l ↦ l
  | inl g ↦ absurd (let m : (b *ℤ c) ≤ℤ (a *ℤ c) = mul_le b a c g (omega (arith, ints)) in omega (arith, ints))
]

-- ---- The domain

abs_zero : (x : ℤ) → unsigned_abs x ≡ 0 → x ≡ pos 0
abs_zero x h = grind (arith, ints)

zero_product : (m n : ℕ) → m * n ≡ 0 → m ≢ 0 → n ≡ 0
zero_product m n e h = grind arith

-- a product is 0 only where a factor is
pub mul_zeroℤ : (c x : ℤ) → c ≢ pos 0 → c *ℤ x ≡ pos 0 → x ≡ pos 0
mul_zeroℤ c x n h = abs_zero x (zero_product (unsigned_abs c) (unsigned_abs x) (sym (unsigned_abs-mul c x) ∙ ap unsigned_abs h) (λ e. n (abs_zero c e)))

pub cancelℤ : (c x y : ℤ) → c ≢ pos 0 → c *ℤ x ≡ c *ℤ y → x ≡ y
cancelℤ c x y n h = by ℤR (x ∷ y ∷ []) (mul_zeroℤ c (x -ℤ y) n (by ℤR (c ∷ x ∷ y ∷ []) h (search readsℤ depth 12) refl)) (search readsℤ depth 12) refl

pub one_neℤ : pos 1 ≢ pos 0
one_neℤ e = grind arith

abbrev pub ℤD : Domain
ℤD = record { R = ℤR; is_zero = λ x. ℤ_discrete x (pos 0); one_ne = one_neℤ; cancel_mul = λ {c} {x} {y} h e. cancelℤ c x y h e }

-- a positive number isn't 0
pub positive_ne : (a : ℤ) → pos 0 <ℤ a → a ≢ pos 0
positive_ne a h e = omega (arith, ints)

-- ---- Euclid's division

abs_positive : (x : ℤ) → x ≢ pos 0 → 0 < unsigned_abs x
abs_positive x h = grind (arith, ints)

pub division : (a b : ℤ) → b ≢ pos 0 → (a ≡ int_div a b *ℤ b +ℤ int_rem a b) × (unsigned_abs (int_rem a b) < unsigned_abs b)
division a b h = (sym (quot-rem a b), rem_below a b (abs_positive b h))
