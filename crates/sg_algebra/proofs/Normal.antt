-- The solver's inside: expressions, their normal forms, and that two expressions with one normal form are equal in every ring.
--   Exp                  an expression: a variable by its number, a numeral, sum, difference, product, negative, power
--   Normal n             a polynomial in n variables with whole coefficients, dense: at 0 variables a pair (a, b) for a - b, else a list of coefficients
--   normal n e           the normal form of e
--   left_over n l r      the terms of l - r: nothing, where l = r holds in every ring; a term is (a, b, powers), with the coefficient a - b
--   exp_value, normal_value    what an expression and a normal form stand for, where the atoms are given by a list
--   normal_sound, solve  the normal form stands for what the expression does; where nothing is left over both sides are equal
use Rattle.std.proofs.Common.{◌≡◌, map, ℕ, zero, suc, ◌+◌, ◌*◌, Bool, true, false, eqb, List, [], ◌∷◌, refl, sym, subst, T}
use mathlib.Core.List.{cons≢nil}
use lib.Dec.{eqb→eq}
use Rattle.sg_algebra.specs.Ring.{Ring}
use Rattle.sg_algebra.specs.Coefficients.{zip_longest, conv, horner}
use Rattle.sg_algebra.proofs.Ring.{nat, pow, O_add, mul_O, mul_neg, neg_mul, neg_neg, neg_add, neg_O, add4, distrib_right, eq_of_sub, nat-add, nat-mul, pow_cong}
use Rattle.sg_algebra.proofs.Horner.{horner-zip, horner-neg, horner-conv}

-- ---- Expressions and normal forms

infixl 6 ◌⊕◌
infixl 6 ◌⊖◌
infixl 7 ◌⊗◌
pub data Exp : Type 0 where
  var : ℕ → Exp
  con : ℕ → Exp
  ◌⊕◌ : Exp → Exp → Exp
  ◌⊖◌ : Exp → Exp → Exp
  ◌⊗◌ : Exp → Exp → Exp
  neg : Exp → Exp
  power : Exp → ℕ → Exp

abbrev pub Normal : ℕ → Type 0
Normal zero = ℕ × ℕ
Normal (suc n) = List (Normal n)

abbrev pub normal_con : (n : ℕ) → ℕ → Normal n
normal_con zero c = (c, 0)
normal_con (suc n) c = normal_con n c ∷ []

abbrev pub normal_add : (n : ℕ) → Normal n → Normal n → Normal n
normal_add zero a b = (a.0 + b.0, a.1 + b.1)
normal_add (suc n) p q = zip_longest (normal_add n) p q

abbrev pub normal_mul : (n : ℕ) → Normal n → Normal n → Normal n
normal_mul zero a b = (a.0 * b.0 + a.1 * b.1, a.0 * b.1 + a.1 * b.0)
normal_mul (suc n) p q = conv (normal_add n) (normal_mul n) (normal_con n 0) p q

abbrev pub normal_neg : (n : ℕ) → Normal n → Normal n
normal_neg zero a = (a.1, a.0)
normal_neg (suc n) p = map (normal_neg n) p

abbrev pub normal_var : (n : ℕ) → ℕ → Normal n
normal_var zero i = (0, 0)
normal_var (suc n) zero = normal_con n 0 ∷ normal_con n 1 ∷ []
normal_var (suc n) (suc i) = normal_var n i ∷ []

abbrev pub normal_pow : (n : ℕ) → Normal n → ℕ → Normal n
normal_pow n p zero = normal_con n 1
normal_pow n p (suc m) = normal_mul n (normal_pow n p m) p

abbrev pub normal : (n : ℕ) → Exp → Normal n
normal n (var i) = normal_var n i
normal n (con c) = normal_con n c
normal n (a ⊕ b) = normal_add n (normal n a) (normal n b)
normal n (a ⊖ b) = normal_add n (normal n a) (normal_neg n (normal n b))
normal n (a ⊗ b) = normal_mul n (normal n a) (normal n b)
normal n (neg a) = normal_neg n (normal n a)
normal n (power a m) = normal_pow n (normal n a) m

-- ---- The terms of a normal form

-- the two parts of the coefficient, and the power of each variable
abbrev pub Term : Type 0
Term = ℕ × ℕ × List ℕ

abbrev pub tag : ℕ → List Term → List Term → List Term
tag i [] rest = rest
tag i (t ∷ ts) rest = (t.0, t.1, i ∷ t.2) ∷ tag i ts rest

abbrev pub walk : {C : Type 0} → (C → List Term) → ℕ → List C → List Term
walk f i [] = []
walk f i (x ∷ xs) = tag i (f x) (walk f (suc i) xs)

abbrev pub unless : Bool → Term → List Term
unless true t = []
unless false t = t ∷ []

-- the terms with a coefficient that isn't zero
abbrev pub terms : (n : ℕ) → Normal n → List Term
terms zero a = unless (eqb a.0 a.1) (a.0, a.1, [])
terms (suc n) p = walk (terms n) 0 p

abbrev pub left_over : ℕ → Exp → Exp → List Term
left_over n l r = terms n (normal n (l ⊖ r))

tag_left : (i : ℕ) (ts rest : List Term) → tag i ts rest ≡ [] → ts ≡ []
tag_left i [] rest e = refl
tag_left i (t ∷ ts) rest e = absurd (cons≢nil e)

tag_right : (i : ℕ) (ts rest : List Term) → tag i ts rest ≡ [] → rest ≡ []
tag_right i [] rest e = e
tag_right i (t ∷ ts) rest e = absurd (cons≢nil e)

unless_none : (b : Bool) (t : Term) → unless b t ≡ [] → b ≡ true
unless_none true t e = refl
unless_none false t e = absurd (cons≢nil e)

-- ---- What they stand for

module _ (R : Ring) where
  open R use {A, ◌≈◌, ◌⊞◌, ◌⊠◌, ⊟, O, I, rfl, symm, trans, add_cong, mul_cong, neg_cong, add_comm, add_O, add_neg, mul_I, distrib}

  abbrev pub head_of : List A → A
  head_of [] = O
  head_of (x ∷ xs) = x

  abbrev pub tail_of : List A → List A
  tail_of [] = []
  tail_of (x ∷ xs) = xs

  abbrev pub atom : ℕ → List A → ℕ → A
  atom zero xs i = O
  atom (suc n) xs zero = head_of xs
  atom (suc n) xs (suc i) = atom n (tail_of xs) i

  abbrev pub exp_value : ℕ → List A → Exp → A
  exp_value n xs (var i) = atom n xs i
  exp_value n xs (con c) = nat R c
  exp_value n xs (a ⊕ b) = exp_value n xs a ⊞ exp_value n xs b
  exp_value n xs (a ⊖ b) = exp_value n xs a ⊞ ⊟ (exp_value n xs b)
  exp_value n xs (a ⊗ b) = exp_value n xs a ⊠ exp_value n xs b
  exp_value n xs (neg a) = ⊟ (exp_value n xs a)
  exp_value n xs (power a m) = pow R (exp_value n xs a) m

  abbrev pub normal_value : (n : ℕ) → List A → Normal n → A
  normal_value zero xs a = nat R a.0 ⊞ ⊟ (nat R a.1)
  normal_value (suc n) xs p = horner R (normal_value n (tail_of xs)) (head_of xs) p

  -- ---- Each operation on normal forms has the value that it should

  pub normal_value-con : (n : ℕ) (xs : List A) (c : ℕ) → normal_value n xs (normal_con n c) ≈ nat R c
  normal_value-con zero xs c = trans (add_cong rfl (neg_O R)) add_O
  normal_value-con (suc n) xs c = trans (add_cong (normal_value-con n (tail_of xs) c) (mul_O R)) add_O

  pub normal_value-add : (n : ℕ) (xs : List A) (p q : Normal n) → normal_value n xs (normal_add n p q) ≈ normal_value n xs p ⊞ normal_value n xs q
  normal_value-add zero xs p q = trans (add_cong (nat-add R p.0 q.0) (trans (neg_cong (nat-add R p.1 q.1)) (neg_add R))) (add4 R)
  normal_value-add (suc n) xs p q = horner-zip R (normal_value n (tail_of xs)) (head_of xs) (normal_add n) (normal_value-add n (tail_of xs)) p q

  sub_mul : {a b c d : A} → (a ⊞ ⊟ b) ⊠ (c ⊞ ⊟ d) ≈ (a ⊠ c ⊞ b ⊠ d) ⊞ ⊟ (a ⊠ d ⊞ b ⊠ c)
  sub_mul = trans distrib (trans
      (add_cong (trans (distrib_right R) (add_cong rfl (neg_mul R))) (trans (distrib_right R) (trans (add_cong (mul_neg R) (trans (neg_mul R) (trans (neg_cong (mul_neg R)) (neg_neg R)))) add_comm)))
      (trans (add4 R) (add_cong rfl (trans add_comm (symm (neg_add R))))))

  pub normal_value-mul : (n : ℕ) (xs : List A) (p q : Normal n) → normal_value n xs (normal_mul n p q) ≈ normal_value n xs p ⊠ normal_value n xs q
  normal_value-mul zero xs p q = trans (add_cong (two p.0 q.0 p.1 q.1) (neg_cong (two p.0 q.1 p.1 q.0))) (symm sub_mul)
    where
      two : (a b c d : ℕ) → nat R (a * b + c * d) ≈ nat R a ⊠ nat R b ⊞ nat R c ⊠ nat R d
      two a b c d = trans (nat-add R (a * b) (c * d)) (add_cong (nat-mul R a b) (nat-mul R c d))
  normal_value-mul (suc n) xs p q =
      horner-conv R (normal_value n (tail_of xs)) (head_of xs) (normal_add n) (normal_mul n) (normal_con n 0)
      (normal_value-add n (tail_of xs)) (normal_value-mul n (tail_of xs)) (normal_value-con n (tail_of xs) 0) p q

  pub normal_value-neg : (n : ℕ) (xs : List A) (p : Normal n) → normal_value n xs (normal_neg n p) ≈ ⊟ (normal_value n xs p)
  normal_value-neg zero xs p = trans add_comm (trans (add_cong rfl (symm (neg_neg R))) (symm (neg_add R)))
  normal_value-neg (suc n) xs p = horner-neg R (normal_value n (tail_of xs)) (head_of xs) (normal_neg n) (normal_value-neg n (tail_of xs)) p

  pub normal_value-var : (n : ℕ) (xs : List A) (i : ℕ) → normal_value n xs (normal_var n i) ≈ atom n xs i
  normal_value-var zero xs i = add_neg
  normal_value-var (suc n) xs zero =
      trans (add_cong (normal_value-con n (tail_of xs) 0) (trans (mul_cong rfl (trans (add_cong (trans (normal_value-con n (tail_of xs) 1) (O_add R)) (mul_O R)) add_O)) mul_I)) (O_add R)
  normal_value-var (suc n) xs (suc i) = trans (add_cong (normal_value-var n (tail_of xs) i) (mul_O R)) add_O

  pub normal_value-pow : (n : ℕ) (xs : List A) (p : Normal n) (m : ℕ) → normal_value n xs (normal_pow n p m) ≈ pow R (normal_value n xs p) m
  normal_value-pow n xs p zero = trans (normal_value-con n xs 1) (O_add R)
  normal_value-pow n xs p (suc m) = trans (normal_value-mul n xs (normal_pow n p m) p) (mul_cong (normal_value-pow n xs p m) rfl)

  -- ---- The solver is sound

  horner-walk : {C : Type 0} (f : C → A) (x : A) (g : C → List Term) → ((a : C) → g a ≡ [] → f a ≈ O) → (i : ℕ) (p : List C) → walk g i p ≡ [] → horner R f x p ≈ O
  horner-walk f x g h i [] e = rfl
  horner-walk f x g h i (a ∷ p) e =
      trans (add_cong (h a (tag_left i (g a) (walk g (suc i) p) e)) (trans (mul_cong rfl (horner-walk f x g h (suc i) p (tag_right i (g a) (walk g (suc i) p) e))) (mul_O R))) add_O

  pub normal_value-zero : (n : ℕ) (xs : List A) (p : Normal n) → terms n p ≡ [] → normal_value n xs p ≈ O
  normal_value-zero zero xs p e = subst (λ (m : ℕ). nat R p.0 ⊞ ⊟ (nat R m) ≈ O) (eqb→eq p.0 p.1 (subst T (sym (unless_none (eqb p.0 p.1) (p.0, p.1, []) e)) tt)) add_neg
  normal_value-zero (suc n) xs p e = horner-walk (normal_value n (tail_of xs)) (head_of xs) (terms n) (normal_value-zero n (tail_of xs)) 0 p e

  pub normal_sound : (n : ℕ) (xs : List A) (e : Exp) → normal_value n xs (normal n e) ≈ exp_value n xs e
  normal_sound n xs (var i) = normal_value-var n xs i
  normal_sound n xs (con c) = normal_value-con n xs c
  normal_sound n xs (a ⊕ b) = trans (normal_value-add n xs (normal n a) (normal n b)) (add_cong (normal_sound n xs a) (normal_sound n xs b))
  normal_sound n xs (a ⊖ b) =
      trans (normal_value-add n xs (normal n a) (normal_neg n (normal n b))) (add_cong (normal_sound n xs a) (trans (normal_value-neg n xs (normal n b)) (neg_cong (normal_sound n xs b))))
  normal_sound n xs (a ⊗ b) = trans (normal_value-mul n xs (normal n a) (normal n b)) (mul_cong (normal_sound n xs a) (normal_sound n xs b))
  normal_sound n xs (neg a) = trans (normal_value-neg n xs (normal n a)) (neg_cong (normal_sound n xs a))
  normal_sound n xs (power a m) = trans (normal_value-pow n xs (normal n a) m) (pow_cong R m (normal_sound n xs a))

  pub solve : (n : ℕ) (xs : List A) (l r : Exp) → left_over n l r ≡ [] → exp_value n xs l ≈ exp_value n xs r
  solve n xs l r e = eq_of_sub R (trans (symm (normal_sound n xs (l ⊖ r))) (normal_value-zero n xs (normal n (l ⊖ r)) e))
