-- The element of an expression from those of its parts.
--   known-length                      there are as many items as expressions
--   placeable-sum, placeable-product, ..       parts of what can be placed can be
--   item-at, item-left, item-right, item-found, item-tree, contains-place     an item and its expression
--   function-element, placed-item, placed-polynomial, placed-sum, ..       the element of a compound from those of its parts
--   is-opposite, power-none, power-even, power-odd     opposites and powers
use Rattle.std.proofs.Common.{◌≡◌, ℕ, zero, suc, ◌+◌, ◌-◌, ◌<◌, ◌≤◌, ◌/◌, ◌%◌, refl, sym, ap, subst, ◌∙◌, List, [], ◌∷◌, ◌++◌, length, map, take, drop, get_or, Contains, ◌⊎◌, inl, inr, arith}
use Rattle.std.proofs.lemmas.List.{get_or_append_left, get_or-append-add, get_or-drop, get_or-map, length-append, length-map, length-drop, take_all}
use Rattle.sg_algebra.specs.Ring.{Ring}
use Rattle.sg_algebra.proofs.Ring.{pow, pow-add}
use Rattle.sg_algebra.proofs.Value.{Value, inv_value}
use Rattle.sg_spec.specs.Tree.{Tree, here, add, neg, mul, div, power}
use Rattle.sg_expr.specs.Tree.{tree_of}
use Rattle.sg_expr.specs.declared.tree.Expr.{Expr}
use Rattle.sg_tower_theory.proofs.Formal.{elements, lifted}
use Rattle.sg_value_theory.proofs.Elements.{Point, HasElement}
use Rattle.sg_value_theory.proofs.Evaluations.{evaluation, lifted-has}
use Rattle.sg_value_theory.proofs.OwnSums.{contains_cons, nothing}
use Rattle.sg_value_theory.proofs.Placing.{agrees-add, agrees-neg, agrees-mul, agrees-power, agrees-power_zero, agrees_same}
use Rattle.sg_value_theory.proofs.TreePoints.{Agrees}
use Rattle.sg_tower.specs.Elements.{Reading, Same, IsZero, IsOne, IsCopy, IsSum, IsDifference, IsProduct}
use Rattle.sg_build.specs.Points.{KnownAt, IsPlaced}
use Rattle.sg_build.specs.Placed.{IsItem, IsOpposite, IsPower, IsFunctionOf, IsElementOf, IsPlaceable, IsInvertible, IsInverted}

-- ---- Items

pub item-left : {E : Type 0} (gens more : List Tree) (xs : List E) (t : Tree) (x : E) → IsItem gens xs t x → IsItem (gens ++ more) xs t x
item-left gens more xs t x h = (h.0, (let l = length-append gens more in omega (arith, l, h.1)), get_or_append_left gens more here h.0 h.1 ∙ h.2, h.3)

-- an item after others
pub item-right : {E : Type 0} (before gens : List Tree) (xs : List E) (n : ℕ) (t : Tree) (x : E) → n ≡ length before → IsItem gens (take (length xs - n) (drop n xs)) t x → IsItem (before ++ gens) xs t x
item-right {E} before gens xs n t x e h = go (subst (λ (ys : List E). IsItem gens ys t x) (take_all (length xs - n) (drop n xs) rest) h)
  where
    rest : length (drop n xs) ≤ length xs - n
    rest = let m = length-drop n xs in omega (arith, m)

    go : IsItem gens (drop n xs) t x → IsItem (before ++ gens) xs t x
    go h = (
      length before + h.0,
      (let m = length-append before gens in let l = h.1 in omega (arith, m, l)),
      get_or-append-add before gens h.0 here ∙ h.2,
      h.3 ∙ get_or-drop n xs h.0 x ∙ ap (λ (j : ℕ). get_or xs (j + h.0) x) e,
    )

-- the item that was found, and that there is one
pub item-found : {E : Type 0} (gens : List Expr) (items : List E) (i : ℕ) (g : Expr) (t : Tree) (x : E) → i < length gens → g ≡ get_or gens i g → tree_of g ≡ t → x ≡ get_or items i x → IsItem (map tree_of gens) items t x
item-found gens items i g t x l e f h = (
  i,
  (let m = length-map gens tree_of in omega (arith, l, m)),
  get_or-map tree_of gens i g here l ∙ ap tree_of (sym e) ∙ f,
  h,
)

pub item-tree : (gens : List Expr) (i : ℕ) (g : Expr) (t : Tree) → i < length gens → g ≡ get_or gens i g → get_or (map tree_of gens) i here ≡ t → tree_of g ≡ t
item-tree gens i g t l e h = ap tree_of e ∙ sym (get_or-map tree_of gens i g here l) ∙ h

pub contains-place : (ts : List Tree) (t : Tree) → Contains ts t → (i : ℕ) × (i < length ts) × (get_or ts i here ≡ t)
contains-place [] t c = absurd (nothing c)
contains-place (u ∷ ts) t c = go (contains_cons u t ts c) (λ h. contains-place ts t h)
  where
    go : (u ≡ t) ⊎ Contains ts t → (Contains ts t → (i : ℕ) × (i < length ts) × (get_or ts i here ≡ t)) → (i : ℕ) × (i < suc (length ts)) × (get_or (u ∷ ts) i here ≡ t)
    go (inl e) again = (0, omega arith, e)
    go (inr h) again = let r = again h in let l = r.1 in (suc r.0, omega (arith, l), r.2)

-- ---- Opposites and powers

module _ {d : ℕ} {E : Type 0} (ρ : Reading d E) where
  abbrev S : Ring
  S = elements ρ.formal

  pub is-opposite : (z x r : E) → IsZero ρ z → IsDifference ρ z x r → IsOpposite ρ x r
  is-opposite z x r h i = S.trans i (S.trans (S.add_cong h S.rfl) (S.trans S.add_comm S.add_O))

  pub power-none : (x r : E) (e : ℕ) → e ≡ 0 → IsOne ρ r → IsPower ρ x e r
  power-none x r e z h = subst (λ (n : ℕ). IsPower ρ x n r) (sym z) h

  pub power-even : (x h s : E) (e q : ℕ) → q ≡ e / 2 → e % 2 ≡ 0 → IsPower ρ x q h → IsProduct ρ h h s → IsPower ρ x e s
  power-even x h s e q f m k l =
      let twice : q + q ≡ e = omega (arith, f, m) in
      subst (λ (n : ℕ). IsPower ρ x n s) twice (S.trans l (S.trans (S.mul_cong k k) (S.symm (pow-add S (ρ.of x) q q))))

  pub power-odd : (x h s r : E) (e q : ℕ) → q ≡ e / 2 → ¬ (e % 2 ≡ 0) → IsPower ρ x q h → IsProduct ρ h h s → IsProduct ρ s x r → IsPower ρ x e r
  power-odd x h s r e q f m k l i =
      let more : suc (q + q) ≡ e = omega (arith, f, m) in
      subst (λ (n : ℕ). IsPower ρ x n r) more (S.trans i (S.mul_cong (S.trans l (S.trans (S.mul_cong k k) (S.symm (pow-add S (ρ.of x) q q)))) S.rfl))

module _ {d : ℕ} {E : Type 0} (letter : Value d) (ρ : Reading d E) where
  abbrev R : Ring
  R = elements ρ.formal

  pub known-length : (p : Point d) (gens : List Tree) (xs : List E) → KnownAt letter ρ p gens xs → length xs ≡ length gens
  known-length p [] [] k = refl
  known-length p [] (x ∷ xs) k = absurd k
  known-length p (g ∷ gens) [] k = absurd k
  known-length p (g ∷ gens) (x ∷ xs) k = ap suc (known-length p gens xs k.1)

  pub item-at : (p : Point d) (gens : List Tree) (xs : List E) (t : Tree) (x : E) → KnownAt letter ρ p gens xs → IsItem gens xs t x → Agrees letter ρ.formal p (ρ.of x) t
  item-at p gens xs t x k h = subst (Agrees letter ρ.formal p (ρ.of x)) h.2 (go gens xs h.0 k h.1 h.3)
    where
      go : (gens : List Tree) (xs : List E) (i : ℕ) → KnownAt letter ρ p gens xs → i < length gens → x ≡ get_or xs i x → Agrees letter ρ.formal p (ρ.of x) (get_or gens i here)
      go [] xs i k l e = absurd (omega (arith, l))
      go (g ∷ gens) [] i k l e = absurd k
      go (g ∷ gens) (y ∷ xs) zero k l e = subst (λ (z : E). Agrees letter ρ.formal p (ρ.of z) g) (sym e) k.0
      go (g ∷ gens) (y ∷ xs) (suc i) k l e = go gens xs i k.1 (omega (arith, l)) e

  pub function-element : (t : Tree) (c : Value (suc d)) (r : E) → IsFunctionOf letter t c → Same ρ (ρ.of r) (lifted ρ.formal c) → IsElementOf letter ρ t r
  function-element t c r f h p v w = (evaluation ρ.formal p).same (lifted ρ.formal c) (ρ.of r) v (R.symm h) (lifted-has ρ.formal p c v (f p.variable v w))

  -- ---- Parts

  module _ (ps ss : List Tree) (xs : List E) where
    pub items-length : (t : Tree) → IsPlaceable letter ρ ps ss xs t → length xs ≡ length ps + length ss
    items-length t h = known-length h.somewhere.0 (ps ++ ss) xs h.somewhere.1 ∙ length-append ps ss

    pub placeable-sum : (s t : Tree) → IsPlaceable letter ρ ps ss xs (add s t) → IsPlaceable letter ρ ps ss xs s × IsPlaceable letter ρ ps ss xs t
    placeable-sum s t h =
        let o = h.somewhere in (
          record { built = h.built.0; no_letter = h.no_letter.0; units = h.units; somewhere = (o.0, o.1, (o.2.1.0, o.2.1.2)) },
          record { built = h.built.1; no_letter = h.no_letter.1; units = h.units; somewhere = (o.0, o.1, (o.2.1.1, o.2.1.3)) },
        )

    pub placeable-product : (s t : Tree) → IsPlaceable letter ρ ps ss xs (mul s t) → IsPlaceable letter ρ ps ss xs s × IsPlaceable letter ρ ps ss xs t
    placeable-product s t h =
        let o = h.somewhere in (
          record { built = h.built.0; no_letter = h.no_letter.0; units = h.units; somewhere = (o.0, o.1, (o.2.1.0, o.2.1.2)) },
          record { built = h.built.1; no_letter = h.no_letter.1; units = h.units; somewhere = (o.0, o.1, (o.2.1.1, o.2.1.3)) },
        )

    pub placeable-quotient : (s t : Tree) → IsPlaceable letter ρ ps ss xs (div s t) → IsPlaceable letter ρ ps ss xs s × IsInvertible letter ρ ps ss xs t
    placeable-quotient s t h =
        let o = h.somewhere in (
          record { built = h.built.0; no_letter = h.no_letter.0; units = h.units; somewhere = (o.0, o.1, (o.2.1.0, o.2.1.2)) },
          record { divisor = h.built.2; no_letter = h.no_letter.1; units = h.units; somewhere = (o.0, o.1, (o.2.1.1, o.2.1.3, o.2.1.4)) },
        )

    pub placeable-opposite : (s : Tree) → IsPlaceable letter ρ ps ss xs (neg s) → IsPlaceable letter ρ ps ss xs s
    placeable-opposite s h = let o = h.somewhere in record { built = h.built; no_letter = h.no_letter; units = h.units; somewhere = (o.0, o.1, (o.2.1.0, o.2.1.1)) }

    pub placeable-power : (s : Tree) (e : ℕ) → IsPlaceable letter ρ ps ss xs (power s e) → IsPlaceable letter ρ ps ss xs s
    placeable-power s e h = let o = h.somewhere in record { built = h.built; no_letter = h.no_letter; units = h.units; somewhere = (o.0, o.1, (o.2.1.0, o.2.1.1)) }

  module _ (gens : List Tree) (xs : List E) where
    -- ---- The element

    pub placed-item : (t : Tree) (x r : E) → IsItem gens xs t x → IsCopy ρ x r → IsPlaced letter ρ gens xs t r
    placed-item t x r h e p k = agrees_same R (evaluation ρ.formal p) letter p.variable (ρ.of x) (ρ.of r) t (R.symm e) (item-at p gens xs t x k h)

    pub placed-polynomial : (t : Tree) (r : E) → IsElementOf letter ρ t r → IsPlaced letter ρ gens xs t r
    placed-polynomial t r h p k = h p

    pub placed-sum : (s t : Tree) (x y r : E) → IsPlaced letter ρ gens xs s x → IsPlaced letter ρ gens xs t y → IsSum ρ x y r → IsPlaced letter ρ gens xs (add s t) r
    placed-sum s t x y r h i e p k = agrees_same R (evaluation ρ.formal p) letter p.variable (R.◌⊞◌ (ρ.of x) (ρ.of y)) (ρ.of r) (add s t) (R.symm e) (agrees-add R (evaluation ρ.formal p) letter p.variable (ρ.of x) (ρ.of y) s t (h p k) (i p k))

    pub placed-opposite : (s : Tree) (x r : E) → IsPlaced letter ρ gens xs s x → IsOpposite ρ x r → IsPlaced letter ρ gens xs (neg s) r
    placed-opposite s x r h e p k = agrees_same R (evaluation ρ.formal p) letter p.variable (R.⊟ (ρ.of x)) (ρ.of r) (neg s) (R.symm e) (agrees-neg R (evaluation ρ.formal p) letter p.variable (ρ.of x) s (h p k))

    pub placed-product : (s t : Tree) (x y r : E) → IsPlaced letter ρ gens xs s x → IsPlaced letter ρ gens xs t y → IsProduct ρ x y r → IsPlaced letter ρ gens xs (mul s t) r
    placed-product s t x y r h i e p k = agrees_same R (evaluation ρ.formal p) letter p.variable (R.◌⊠◌ (ρ.of x) (ρ.of y)) (ρ.of r) (mul s t) (R.symm e) (agrees-mul R (evaluation ρ.formal p) letter p.variable (ρ.of x) (ρ.of y) s t (h p k) (i p k))

    pub placed-power : (s : Tree) (e : ℕ) (x r : E) → IsPlaced letter ρ gens xs s x → IsPower ρ x e r → IsPlaced letter ρ gens xs (power s e) r
    placed-power s e x r h q p k = agrees_same R (evaluation ρ.formal p) letter p.variable (pow R (ρ.of x) e) (ρ.of r) (power s e) (R.symm q) (agrees-power R (evaluation ρ.formal p) letter p.variable (ρ.of x) s e (h p k))

    -- a base under the exponent 0 isn't placed
    pub placed-one : (s : Tree) (e : ℕ) (r : E) → e ≡ 0 → IsOne ρ r → IsPlaced letter ρ gens xs (power s e) r
    placed-one s e r z q =
        subst (λ (n : ℕ). IsPlaced letter ρ gens xs (power s n) r) (sym z)
        (λ p k. agrees_same R (evaluation ρ.formal p) letter p.variable R.I (ρ.of r) (power s 0) (R.symm q) (agrees-power_zero R (evaluation ρ.formal p) letter p.variable s))

    pub placed-quotient : (s t : Tree) (x z r : E) → IsPlaced letter ρ gens xs s x → IsInverted letter ρ gens xs t z → IsProduct ρ x z r → IsPlaced letter ρ gens xs (div s t) r
    placed-quotient s t x z r h i e p k v w =
        (evaluation ρ.formal p).same (R.◌⊠◌ (ρ.of x) (ρ.of z)) (ρ.of r) v (R.symm e)
        (subst (HasElement ρ.formal p (R.◌⊠◌ (ρ.of x) (ρ.of z))) (sym w.5) ((evaluation ρ.formal p).mul_has (ρ.of x) (ρ.of z) w.0 (inv_value w.1) (h p k w.0 w.2) (i p k w.1 w.3 w.4)))
