-- Combinations of an element and its shifts.
--   Gen R σ e x      x is reached from e by sums, multiples and shifts
--   combo cs e       c₀ e + c₁ σ(e) + ..
--   combo_of         what is reached is such a combination
use Rattle.std.proofs.Common.{refl, List, [], ◌∷◌, map}
use Rattle.sg_algebra.specs.Ring.{Ring, Hom}
use Rattle.sg_algebra.specs.Coefficients.{zip_longest}
use Rattle.sg_algebra.proofs.Ring.{mul_O, O_mul, O_add}
use Rattle.sg_algebra.proofs.Solver.{by, reads}
use Rattle.sg_algebra.proofs.Divides.{on-O}

pub data Gen (R : Ring) (σ : Hom R R) (e : R.A) : R.A → Type 0 where
  g_self : Gen R σ e e
  g_add : {x y : R.A} → Gen R σ e x → Gen R σ e y → Gen R σ e (R.◌⊞◌ x y)
  g_mul : {x : R.A} (c : R.A) → Gen R σ e x → Gen R σ e (R.◌⊠◌ c x)
  g_on : {x : R.A} → Gen R σ e x → Gen R σ e (σ.on x)
  g_same : {x y : R.A} → R.◌≈◌ x y → Gen R σ e x → Gen R σ e y

pub gen_trans : (R : Ring) (σ : Hom R R) (e w : R.A) → Gen R σ e w → {x : R.A} → Gen R σ w x → Gen R σ e x
gen_trans R σ e w g g_self = g
gen_trans R σ e w g (g_add a b) = g_add (gen_trans R σ e w g a) (gen_trans R σ e w g b)
gen_trans R σ e w g (g_mul c a) = g_mul c (gen_trans R σ e w g a)
gen_trans R σ e w g (g_on a) = g_on (gen_trans R σ e w g a)
gen_trans R σ e w g (g_same h a) = g_same h (gen_trans R σ e w g a)

module _ (R : Ring) (σ : Hom R R) where
  open R use {A, ◌≈◌, ◌⊞◌, ◌⊠◌, ⊟, O, I, rfl, symm, trans, add_cong, mul_cong, add_O, mul_I, mul_comm}

  abbrev pub combo : List A → A → A
  combo [] e = O
  combo (c ∷ cs) e = c ⊠ e ⊞ combo cs (σ.on e)

  combo-add : (cs ds : List A) (e : A) → combo (zip_longest ◌⊞◌ cs ds) e ≈ combo cs e ⊞ combo ds e
  combo-add [] ds e = symm (O_add R)
  combo-add (c ∷ cs) [] e = symm add_O
  combo-add (c ∷ cs) (d ∷ ds) e = by R (c ∷ d ∷ e ∷ combo cs (σ.on e) ∷ combo ds (σ.on e) ∷ combo (zip_longest ◌⊞◌ cs ds) (σ.on e) ∷ []) (combo-add cs ds (σ.on e)) (search reads depth 16) refl

  combo-mul : (c : A) (cs : List A) (e : A) → combo (map (λ x. c ⊠ x) cs) e ≈ c ⊠ combo cs e
  combo-mul c [] e = symm (mul_O R)
  combo-mul c (d ∷ cs) e = by R (c ∷ d ∷ e ∷ combo cs (σ.on e) ∷ combo (map (λ x. c ⊠ x) cs) (σ.on e) ∷ []) (combo-mul c cs (σ.on e)) (search reads depth 16) refl

  combo-on : (cs : List A) (e : A) → combo (map σ.on cs) (σ.on e) ≈ σ.on (combo cs e)
  combo-on [] e = symm (on-O R R σ)
  combo-on (c ∷ cs) e = symm (trans (σ.on-add (c ⊠ e) (combo cs (σ.on e))) (add_cong (σ.on-mul c e) (symm (combo-on cs (σ.on e)))))

  pub record Combo (e x : A) : Type 0 where
    pub cs : List A
    pub is : combo cs e ≈ x

  pub combo_of : (e : A) {x : A} → Gen R σ e x → Combo e x
  combo_of e g_self = record { cs = I ∷ []; is = trans add_O (trans mul_comm mul_I) }
  combo_of e (g_add a b) = let p = combo_of e a in let q = combo_of e b in record { cs = zip_longest ◌⊞◌ p.cs q.cs; is = trans (combo-add p.cs q.cs e) (add_cong p.is q.is) }
  combo_of e (g_mul c a) = let p = combo_of e a in record { cs = map (λ x. c ⊠ x) p.cs; is = trans (combo-mul c p.cs e) (mul_cong rfl p.is) }
  combo_of e (g_on {x} a) = let p = combo_of e a in record { cs = O ∷ map σ.on p.cs; is = trans (trans (add_cong (O_mul R) rfl) (O_add R)) (trans (combo-on p.cs e) (σ.on_cong (combo p.cs e) x p.is)) }
  combo_of e (g_same h a) = let p = combo_of e a in record { cs = p.cs; is = trans p.is h }
