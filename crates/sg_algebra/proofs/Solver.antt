-- The ring solver: the terms of an identity are read off the goal by `search`, and both sides are brought to a normal form.
--   ring R atoms (search reads depth 16) refl        an identity of commutative rings; the atoms are any terms of R
--   by R atoms h (search reads depth 16) refl        l ≈ r from h : x ≈ y, where l - r = x - y in every ring
--   scale R c h                                      c x ≈ c y from h : x ≈ y; hypotheses are joined by `add_cong`, `mul_cong`, `neg_cong`
--   reads                                            the rules by which `search` reads a term
--   r_num, r_as                                      further rules: a term that is a numeral, a term that is equal to one that is read
use Rattle.std.proofs.Common.{◌≡◌, ℕ, suc, List, [], ◌∷◌, refl, length}
use Rattle.sg_algebra.specs.Ring.{Ring}
use Rattle.sg_algebra.proofs.Ring.{nat, cancel}
use Rattle.sg_algebra.proofs.Normal.{Exp, var, con, ◌⊕◌, ◌⊗◌, neg, left_over, atom, exp_value, solve}

-- x stands in the list
pub data In {A : Type 0} : List A → A → Type 0 where
  here : {x : A} {xs : List A} → In (x ∷ xs) x
  there : {x y : A} {xs : List A} → In xs x → In (y ∷ xs) x

abbrev pub place : {A : Type 0} {xs : List A} {x : A} → In xs x → ℕ
place here = 0
place (there i) = suc (place i)

-- the element is made from the atoms xs
pub data Reads (R : Ring) (xs : List R.A) : R.A → Type 0 where
  r_add : {x y : R.A} → Reads R xs x → Reads R xs y → Reads R xs (R.◌⊞◌ x y)
  r_mul : {x y : R.A} → Reads R xs x → Reads R xs y → Reads R xs (R.◌⊠◌ x y)
  r_neg : {x : R.A} → Reads R xs x → Reads R xs (R.⊟ x)
  r_O : Reads R xs R.O
  r_I : Reads R xs R.I
  r_atom : {x : R.A} → In xs x → Reads R xs x
  r_num : {x : R.A} (n : ℕ) → R.◌≈◌ (nat R n) x → Reads R xs x
  r_as : {x y : R.A} → R.◌≈◌ x y → Reads R xs x → Reads R xs y

abbrev pub exp : {R : Ring} {xs : List R.A} {x : R.A} → Reads R xs x → Exp
exp (r_add p q) = exp p ⊕ exp q
exp (r_mul p q) = exp p ⊗ exp q
exp (r_neg p) = neg (exp p)
exp r_O = con 0
exp r_I = con 1
exp (r_atom i) = var (place i)
exp (r_num n h) = con n
exp (r_as h p) = exp p

-- both sides of an identity are
pub data Both (R : Ring) (xs : List R.A) : R.A → R.A → Type 0 where
  both : {x y : R.A} → Reads R xs x → Reads R xs y → Both R xs x y

abbrev pub left : {R : Ring} {xs : List R.A} {x y : R.A} → Both R xs x y → Exp
left (both p q) = exp p

abbrev pub right : {R : Ring} {xs : List R.A} {x y : R.A} → Both R xs x y → Exp
right (both p q) = exp q

pub ruleset reads = (both, r_add, r_mul, r_neg, r_O, r_I, r_atom, here, there)

pub atom-place : (R : Ring) {xs : List R.A} {x : R.A} (i : In xs x) → atom R (length xs) xs (place i) ≡ x
atom-place R here = refl
atom-place R (there i) = atom-place R i

pub exp_value-exp : (R : Ring) {xs : List R.A} {x : R.A} (p : Reads R xs x) → R.◌≈◌ (exp_value R (length xs) xs (exp p)) x
exp_value-exp R (r_add p q) = R.add_cong (exp_value-exp R p) (exp_value-exp R q)
exp_value-exp R (r_mul p q) = R.mul_cong (exp_value-exp R p) (exp_value-exp R q)
exp_value-exp R (r_neg p) = R.neg_cong (exp_value-exp R p)
exp_value-exp R r_O = R.rfl
exp_value-exp R r_I = R.trans R.add_comm R.add_O
exp_value-exp R {xs} {x} (r_atom i) = rw (atom-place R i) R.rfl
exp_value-exp R (r_num n h) = h
exp_value-exp R (r_as h p) = R.trans (exp_value-exp R p) h

pub ring : (R : Ring) (xs : List R.A) {x y : R.A} (b : Both R xs x y) → left_over (length xs) (left b) (right b) ≡ [] → R.◌≈◌ x y
ring R xs (both p q) e = R.trans (R.symm (exp_value-exp R p)) (R.trans (solve R (length xs) xs (exp p) (exp q) e) (exp_value-exp R q))

pub by : (R : Ring) (xs : List R.A) {l r x y : R.A} → R.◌≈◌ x y → (b : Both R xs (R.◌⊞◌ l y) (R.◌⊞◌ r x)) → left_over (length xs) (left b) (right b) ≡ [] → R.◌≈◌ l r
by R xs {l} {r} {x} {y} h b e = cancel R {x = y} (R.trans R.add_comm (R.trans (ring R xs b e) (R.trans R.add_comm (R.add_cong h R.rfl))))

pub scale : (R : Ring) (c : R.A) {x y : R.A} → R.◌≈◌ x y → R.◌≈◌ (R.◌⊠◌ c x) (R.◌⊠◌ c y)
scale R c h = R.mul_cong R.rfl h
