-- No pole and no zero factor: no numerator has the value 0 from its limit on.
--   Separates letter      a polynomial in the letter with whole coefficients is 0 only where all of these are
--   worth_of_tree         the value of a polynomial is that of its coefficients
--   spared_part           a plain part that is 0 nowhere from its limit on is spared
--   plain_parts           the parts of a tree in form are plain
--   each_spared           so all parts of a tree in form without pole and zero factor are spared
use Rattle.std.proofs.Common.{◌≡◌, ℕ, zero, suc, refl, sym, ap, ap₂, subst, ◌∙◌, Bool, true, false, List, [], ◌∷◌, ◌++◌, map, ℤ, pos, neg_ℤ, ◌+ℤ◌, ◌*ℤ◌, Some, arith}
use Rattle.std.proofs.lemmas.Int.{ints}
use Rattle.sg_algebra.specs.Coefficients.{Each, eval, horner, zip_longest, conv}
use Rattle.sg_algebra.proofs.Ring.{pow}
use Rattle.sg_algebra.proofs.Whole.{ℤR}
use Rattle.sg_algebra.proofs.Horner.{horner-zip, horner-conv, horner-neg}
use Rattle.sg_algebra.proofs.Solver.{ring, reads}
use Rattle.sg_algebra.proofs.Value.{Value, ◌+ᵛ◌, ◌*ᵛ◌, neg_value, zero_value, one_value}
use Rattle.sg_algebra.proofs.ValueField.{ValueR, zero_add_value}
use Rattle.sg_algebra.proofs.Rational.{whole_value}
use Rattle.sg_algebra.proofs.Embedding.{whole_value_zero}
use Rattle.sg_spec.specs.Fraction.{whole}
use Rattle.sg_spec.specs.Printing.{InForm}
use Rattle.sg_spec.specs.Shape.{is_divisor_tree}
use Rattle.sg_spec.specs.Tree.{Tree, numeral, here, param, add, neg, mul, div, power, sum_from, prod_from}
use Rattle.sg_spec.specs.Value.{val, SameValue}
use Rattle.sg_spec.specs.Parts.{Plane, plane_add, plane_mul, plane_neg, plane_power, coefficients, Part, Role, anywhere, divides, is_body, parts, own_part, numer, ratio_of, IsZeroAt}
use Rattle.sg_spec.specs.Worth.{HasWorth}
use Rattle.sg_parts.proofs.PlaneValues.{IsPolynomialTree, value_of_tree}
use Rattle.sg_parts.specs.Planes.{VanishesAt}
use Rattle.sg_parts.proofs.Bounds.{zero_always}
use Rattle.sg_limits.proofs.Wholes.{whole_value-add, whole_value-mul, whole_value-neg}
use Rattle.sg_limits.proofs.SoundWorth.{Plainly, body_plainly, polynomial_plainly, IsSpared}
use Rattle.sg_limits.proofs.Elementary.{each_append, both_true}

-- ---- Numerators and denominators are polynomials

pub ratio_polynomial : (t : Tree) → Plainly t → IsPolynomialTree (ratio_of t).over × IsPolynomialTree (ratio_of t).under
ratio_polynomial (numeral c) h = (tt, tt)
ratio_polynomial here h = (tt, tt)
ratio_polynomial param h = (tt, tt)
ratio_polynomial (add x y) h = let (p, q) = ratio_polynomial x h.0 in let (r, s) = ratio_polynomial y h.1 in (((p, s), (r, q)), (q, s))
ratio_polynomial (neg x) h = ratio_polynomial x h
ratio_polynomial (mul x y) h = let (p, q) = ratio_polynomial x h.0 in let (r, s) = ratio_polynomial y h.1 in ((p, r), (q, s))
ratio_polynomial (div x y) h = let (p, q) = ratio_polynomial x h.0 in let (r, s) = ratio_polynomial y h.1 in ((p, s), (q, r))
ratio_polynomial (power x e) h = ratio_polynomial x h
ratio_polynomial (sum_from from body) h = absurd h
ratio_polynomial (prod_from from body) h = absurd h

-- ---- The value of a polynomial at the letter

module _ {d : ℕ} (letter : Value d) where
  abbrev pub at_letter : ℤ → Plane → Value d
  at_letter k p = horner (ValueR d) (λ row. whole_value d (eval ℤR row k)) letter p

  abbrev pub Separates : Type 0
  Separates = (k : ℤ) (p : Plane) → at_letter k p ≡ zero_value → VanishesAt p k

  row-add : (k : ℤ) (p q : List ℤ) → whole_value d (eval ℤR (zip_longest ◌+ℤ◌ p q) k) ≡ whole_value d (eval ℤR p k) +ᵛ whole_value d (eval ℤR q k)
  row-add k p q = ap (whole_value d) (horner-zip ℤR (λ a. a) k ◌+ℤ◌ (λ a b. refl) p q) ∙ whole_value-add d (eval ℤR p k) (eval ℤR q k)

  row-mul : (k : ℤ) (p q : List ℤ) → whole_value d (eval ℤR (conv ◌+ℤ◌ ◌*ℤ◌ (pos 0) p q) k) ≡ whole_value d (eval ℤR p k) *ᵛ whole_value d (eval ℤR q k)
  row-mul k p q = ap (whole_value d) (horner-conv ℤR (λ a. a) k ◌+ℤ◌ ◌*ℤ◌ (pos 0) (λ a b. refl) (λ a b. refl) refl p q) ∙ whole_value-mul d (eval ℤR p k) (eval ℤR q k)

  row-neg : (k : ℤ) (p : List ℤ) → whole_value d (eval ℤR (map neg_ℤ p) k) ≡ neg_value (whole_value d (eval ℤR p k))
  row-neg k p = ap (whole_value d) (horner-neg ℤR (λ a. a) k neg_ℤ (λ a. refl) p) ∙ whole_value-neg d (eval ℤR p k)

  at-add : (k : ℤ) (p q : Plane) → at_letter k (plane_add p q) ≡ at_letter k p +ᵛ at_letter k q
  at-add k p q = horner-zip (ValueR d) (λ row. whole_value d (eval ℤR row k)) letter (zip_longest ◌+ℤ◌) (row-add k) p q

  at-mul : (k : ℤ) (p q : Plane) → at_letter k (plane_mul p q) ≡ at_letter k p *ᵛ at_letter k q
  at-mul k p q = horner-conv (ValueR d) (λ row. whole_value d (eval ℤR row k)) letter (zip_longest ◌+ℤ◌) (conv ◌+ℤ◌ ◌*ℤ◌ (pos 0)) [] (row-add k) (row-mul k) refl p q

  at-neg : (k : ℤ) (p : Plane) → at_letter k (plane_neg p) ≡ neg_value (at_letter k p)
  at-neg k p = horner-neg (ValueR d) (λ row. whole_value d (eval ℤR row k)) letter (map neg_ℤ) (row-neg k) p

  single : (k c : ℤ) → at_letter k ((c ∷ []) ∷ []) ≡ whole_value d c
  single k c = at_end (whole_value d (c +ℤ k *ℤ pos 0)) ∙ ap (whole_value d) (plain c k)
    where
      at_end : (x : Value d) → x +ᵛ letter *ᵛ zero_value ≡ x
      at_end x = ring (ValueR d) (x ∷ letter ∷ []) (search reads depth 16) refl

      plain : (c k : ℤ) → c +ℤ k *ℤ pos 0 ≡ c
      plain c k = omega (arith, ints)

  variable : (k : ℤ) → at_letter k ((pos 0 ∷ (pos 1 ∷ [])) ∷ []) ≡ whole_value d k
  variable k = at_end (whole_value d (pos 0 +ℤ k *ℤ (pos 1 +ℤ k *ℤ pos 0))) ∙ ap (whole_value d) (plain k)
    where
      at_end : (x : Value d) → x +ᵛ letter *ᵛ zero_value ≡ x
      at_end x = ring (ValueR d) (x ∷ letter ∷ []) (search reads depth 16) refl

      plain : (k : ℤ) → pos 0 +ℤ k *ℤ (pos 1 +ℤ k *ℤ pos 0) ≡ k
      plain k = let e : k *ℤ pos 0 ≡ pos 0 = omega (arith, ints) in rw e (omega (arith, ints))

  parameter : (k : ℤ) → at_letter k ([] ∷ ((pos 1 ∷ []) ∷ [])) ≡ letter
  parameter k = ap (λ w. whole_value d (pos 0) +ᵛ letter *ᵛ w) (single k (pos 1)) ∙ at_first
    where
      at_first : whole_value d (pos 0) +ᵛ letter *ᵛ whole_value d (pos 1) ≡ letter
      at_first = ring (ValueR d) (letter ∷ []) (search reads depth 16) refl

  at-power : (k : ℤ) (p : Plane) (e : ℕ) → at_letter k (plane_power p e) ≡ pow (ValueR d) (at_letter k p) e
  at-power k p zero = single k (pos 1) ∙ zero_add_value one_value
  at-power k p (suc e) = at-mul k p (plane_power p e) ∙ ap (λ w. at_letter k p *ᵛ w) (at-power k p e) ∙ swap (at_letter k p) (pow (ValueR d) (at_letter k p) e)
    where
      swap : (x y : Value d) → x *ᵛ y ≡ y *ᵛ x
      swap x y = ring (ValueR d) (x ∷ y ∷ []) (search reads depth 16) refl

  pub worth_of_tree : (t : Tree) (k : ℤ) (v : Value d) → IsPolynomialTree t → HasWorth letter t k v → v ≡ at_letter k (coefficients t)
  worth_of_tree (numeral c) k v h e = e ∙ sym (single k c)
  worth_of_tree here k v h e = e ∙ sym (variable k)
  worth_of_tree param k v h e = e ∙ sym (parameter k)
  worth_of_tree (add x y) k v h (u, w, hu, hw, e) = e ∙ ap₂ ◌+ᵛ◌ (worth_of_tree x k u h.0 hu) (worth_of_tree y k w h.1 hw) ∙ sym (at-add k (coefficients x) (coefficients y))
  worth_of_tree (neg x) k v h (u, hu, e) = e ∙ ap neg_value (worth_of_tree x k u h hu) ∙ sym (at-neg k (coefficients x))
  worth_of_tree (mul x y) k v h (u, w, hu, hw, e) = e ∙ ap₂ ◌*ᵛ◌ (worth_of_tree x k u h.0 hu) (worth_of_tree y k w h.1 hw) ∙ sym (at-mul k (coefficients x) (coefficients y))
  worth_of_tree (div x y) k v h e = absurd h
  worth_of_tree (power x e) k v h (u, hu, f) = f ∙ ap (λ u. pow (ValueR d) u e) (worth_of_tree x k u h hu) ∙ sym (at-power k (coefficients x) e)
  worth_of_tree (sum_from from body) k v h e = absurd h
  worth_of_tree (prod_from from body) k v h e = absurd h

  -- ---- Spared

  pub is_zero : (t : Tree) (k n : ℤ) → IsPolynomialTree t → VanishesAt (coefficients t) k → SameValue (val t n k) (Some (whole (pos 0)))
  is_zero t k n h z = subst (λ v. SameValue v (Some (whole (pos 0)))) (sym (value_of_tree n k t h ∙ ap (λ z. Some (whole z)) (zero_always (coefficients t) k n z))) refl

  -- at this polynomial alone
  abbrev pub SeparatesAt : Plane → Type 0
  SeparatesAt p = (k : ℤ) → at_letter k p ≡ zero_value → VanishesAt p k

  -- any letter separates where there is no power of it
  pub one_row : (row : List ℤ) → SeparatesAt (row ∷ [])
  one_row row k z = (whole_value_zero d (eval ℤR row k) (sym (at_end (whole_value d (eval ℤR row k))) ∙ z), tt)
    where
      at_end : (x : Value d) → x +ᵛ letter *ᵛ zero_value ≡ x
      at_end x = ring (ValueR d) (x ∷ letter ∷ []) (search reads depth 16) refl

  pub no_row : SeparatesAt []
  no_row k z = tt

  pub spared_part : (p : Part) → SeparatesAt (coefficients (numer p.tree)) → Plainly p.tree → ((k : ℤ) → IsZeroAt p k → ⊥) → IsSpared letter p
  spared_part p separates h none k le v hv z =
      let polynomial = (ratio_polynomial p.tree h).0 in
      let vanishes = separates k (sym (worth_of_tree (numer p.tree) k v polynomial hv) ∙ z) in
      none k (le, λ n. is_zero (numer p.tree) k n polynomial vanishes)

-- ---- The parts of a tree in form

abbrev pub StandsAs : Role → Bool → Tree → Type 0
StandsAs anywhere inside t = Unit {0}
StandsAs divides inside t = is_divisor_tree t ≡ true
StandsAs is_body inside t = inside ≡ true

abbrev IsOwn : Role → Type 0
IsOwn anywhere = ⊥
IsOwn divides = Unit {0}
IsOwn is_body = Unit {0}

abbrev pub IsPlainPart : Part → Type 0
IsPlainPart p = Plainly p.tree

own : (r : Role) (l : ℤ) (depth : ℕ) (t : Tree) (inner : List Part) → (IsOwn r → Plainly t) → Each IsPlainPart inner → Each IsPlainPart (own_part r l depth t inner)
own anywhere l depth t inner h rest = rest
own divides l depth t inner h rest = (h tt, rest)
own is_body l depth t inner h rest = (h tt, rest)

sum_plainly : (known inside : Bool) (r : Role) (x y : Tree) → InForm known inside (add x y) → StandsAs r inside (add x y) → IsOwn r → Plainly (add x y)
sum_plainly known inside anywhere x y f s o = absurd o
sum_plainly known inside divides x y f s o = polynomial_plainly (add x y) s
sum_plainly known inside is_body x y f s o = body_plainly known (add x y) (subst (λ i. InForm known i (add x y)) s f)

left_as : (r : Role) (inside : Bool) (x y : Tree) → StandsAs r inside (mul x y) → StandsAs r inside x
left_as anywhere inside x y h = tt
left_as divides inside x y h = (both_true (is_divisor_tree x) (is_divisor_tree y) h).0
left_as is_body inside x y h = h

right_as : (r : Role) (inside : Bool) (x y : Tree) → StandsAs r inside (mul x y) → StandsAs r inside y
right_as anywhere inside x y h = tt
right_as divides inside x y h = (both_true (is_divisor_tree x) (is_divisor_tree y) h).1
right_as is_body inside x y h = h

neg_as : (r : Role) (inside : Bool) (x : Tree) → StandsAs r inside (neg x) → StandsAs r inside x
neg_as anywhere inside x h = tt
neg_as divides inside x h = h
neg_as is_body inside x h = h

power_as : (r : Role) (inside : Bool) (x : Tree) (e : ℕ) → StandsAs r inside (power x e) → StandsAs r inside x
power_as anywhere inside x e h = tt
power_as divides inside x e h = h
power_as is_body inside x e h = h

over_as : (r : Role) (inside : Bool) (x y : Tree) → StandsAs r inside (div x y) → StandsAs r inside x
over_as anywhere inside x y h = tt
over_as divides inside x y h = cc
over_as is_body inside x y h = h

pub plain_parts : (known inside : Bool) (r : Role) (t : Tree) (l : ℤ) (depth : ℕ) → InForm known inside t → StandsAs r inside t → Each IsPlainPart (parts r l depth t)
plain_parts known inside r (numeral c) l depth f s = own r l depth (numeral c) [] (λ o. tt) tt
plain_parts known inside r here l depth f s = own r l depth here [] (λ o. tt) tt
plain_parts known inside r param l depth f s = own r l depth param [] (λ o. tt) tt
plain_parts known inside r (add x y) l depth f s =
    own r l depth (add x y) (parts anywhere l depth x ++ parts anywhere l depth y) (sum_plainly known inside r x y f s)
    (each_append IsPlainPart (parts anywhere l depth x) (parts anywhere l depth y) (plain_parts known inside anywhere x l depth f.0 tt) (plain_parts known inside anywhere y l depth f.1 tt))
plain_parts known inside r (neg x) l depth f s = plain_parts known inside r x l depth f (neg_as r inside x s)
plain_parts known inside r (mul x y) l depth f s =
    each_append IsPlainPart (parts r l depth x) (parts r l depth y) (plain_parts known inside r x l depth f.0 (left_as r inside x y s)) (plain_parts known inside r y l depth f.1 (right_as r inside x y s))
plain_parts known inside r (div x y) l depth f s =
    each_append IsPlainPart (parts r l depth x) (parts divides l depth y) (plain_parts known inside r x l depth f.0 (over_as r inside x y s)) (plain_parts known inside divides y l depth f.1 f.2)
plain_parts known inside r (power x zero) l depth f s = plain_parts known inside anywhere x l depth f tt
plain_parts known inside r (power x (suc e)) l depth f s = plain_parts known inside r x l depth f (power_as r inside x (suc e) s)
plain_parts known inside r (sum_from from body) l depth f s = plain_parts known false anywhere body from (suc depth) f.2 tt
plain_parts known inside r (prod_from from body) l depth f s = plain_parts known true is_body body from (suc depth) f.2 refl

-- ---- Without parameter there is one row at most

abbrev pub IsShortPlane : Plane → Type 0
IsShortPlane [] = Unit {0}
IsShortPlane (row ∷ []) = Unit {0}
IsShortPlane (row ∷ (next ∷ p)) = ⊥

short-add : (p q : Plane) → IsShortPlane p → IsShortPlane q → IsShortPlane (plane_add p q)
short-add [] q h k = k
short-add (a ∷ []) [] h k = tt
short-add (a ∷ []) (b ∷ []) h k = tt
short-add (a ∷ []) (b ∷ (c ∷ q)) h k = absurd k
short-add (a ∷ (b ∷ p)) q h k = absurd h

short-mul : (p q : Plane) → IsShortPlane p → IsShortPlane q → IsShortPlane (plane_mul p q)
short-mul [] q h k = tt
short-mul (a ∷ []) [] h k = tt
short-mul (a ∷ []) (b ∷ []) h k = tt
short-mul (a ∷ []) (b ∷ (c ∷ q)) h k = absurd k
short-mul (a ∷ (b ∷ p)) q h k = absurd h

short-neg : (p : Plane) → IsShortPlane p → IsShortPlane (plane_neg p)
short-neg [] h = tt
short-neg (a ∷ []) h = tt
short-neg (a ∷ (b ∷ p)) h = absurd h

short-power : (p : Plane) (e : ℕ) → IsShortPlane p → IsShortPlane (plane_power p e)
short-power p zero h = tt
short-power p (suc e) h = short-mul p (plane_power p e) h (short-power p e h)

abbrev pub NoParam : Tree → Type 0
NoParam (numeral c) = Unit {0}
NoParam here = Unit {0}
NoParam param = ⊥
NoParam (add x y) = NoParam x × NoParam y
NoParam (neg x) = NoParam x
NoParam (mul x y) = NoParam x × NoParam y
NoParam (div x y) = NoParam x × NoParam y
NoParam (power x e) = NoParam x
NoParam (sum_from from body) = NoParam body
NoParam (prod_from from body) = NoParam body

pub short_tree : (t : Tree) → NoParam t → IsShortPlane (coefficients t)
short_tree (numeral c) h = tt
short_tree here h = tt
short_tree param h = absurd h
short_tree (add x y) h = short-add (coefficients x) (coefficients y) (short_tree x h.0) (short_tree y h.1)
short_tree (neg x) h = short-neg (coefficients x) (short_tree x h)
short_tree (mul x y) h = short-mul (coefficients x) (coefficients y) (short_tree x h.0) (short_tree y h.1)
short_tree (div x y) h = tt
short_tree (power x e) h = short-power (coefficients x) e (short_tree x h)
short_tree (sum_from from body) h = tt
short_tree (prod_from from body) h = tt

pub ratio_no_param : (t : Tree) → NoParam t → NoParam (ratio_of t).over × NoParam (ratio_of t).under
ratio_no_param (numeral c) h = (tt, tt)
ratio_no_param here h = (tt, tt)
ratio_no_param param h = absurd h
ratio_no_param (add x y) h = let (p, q) = ratio_no_param x h.0 in let (r, s) = ratio_no_param y h.1 in (((p, s), (r, q)), (q, s))
ratio_no_param (neg x) h = ratio_no_param x h
ratio_no_param (mul x y) h = let (p, q) = ratio_no_param x h.0 in let (r, s) = ratio_no_param y h.1 in ((p, r), (q, s))
ratio_no_param (div x y) h = let (p, q) = ratio_no_param x h.0 in let (r, s) = ratio_no_param y h.1 in ((p, s), (q, r))
ratio_no_param (power x e) h = ratio_no_param x h
ratio_no_param (sum_from from body) h = (h, tt)
ratio_no_param (prod_from from body) h = (h, tt)
