-- Lists of coefficients under a map that keeps operations at the elements where V holds.
--   each_all, each_to, each_map       P holds of each element, where it holds of all, where it follows, of a list mapped
--   each-zip, each-map, each-conv     V holds of each element of a sum, of a list mapped, of a product
--   map-zip_longest, map-map, map-conv    the map of a sum, of a list mapped, of a product
--   length_map                        a list mapped has the same length
use Rattle.std.proofs.Common.{◌≡◌, suc, refl, ◌∙◌, ap, ap₂, List, [], ◌∷◌, map, length}
use Rattle.sg_algebra.specs.Coefficients.{zip_longest, conv, Each}

pub each_all : {C : Type 0} (P : C → Type 0) (xs : List C) → ((x : C) → P x) → Each P xs
each_all P [] h = tt
each_all P (x ∷ xs) h = (h x, each_all P xs h)

pub each_to : {C : Type 0} (P Q : C → Type 0) (xs : List C) → ((x : C) → P x → Q x) → Each P xs → Each Q xs
each_to P Q [] h e = tt
each_to P Q (x ∷ xs) h e = (h x e.0, each_to P Q xs h e.1)

pub each_map : {B C : Type 0} (P : C → Type 0) (f : B → C) (xs : List B) → Each (λ x. P (f x)) xs → Each P (map f xs)
each_map P f [] h = tt
each_map P f (x ∷ xs) h = (h.0, each_map P f xs h.1)

pub length_map : {B C : Type 0} (f : B → C) (xs : List B) → length (map f xs) ≡ length xs
length_map f [] = refl
length_map f (x ∷ xs) = ap suc (length_map f xs)

module _ {B : Type 0} (V : B → Type 0) where
  pub each-map : (g : B → B) → ((x : B) → V x → V (g x)) → (p : List B) → Each V p → Each V (map g p)
  each-map g h [] v = tt
  each-map g h (x ∷ p) v = (h x v.0, each-map g h p v.1)

  module _ (add mul : B → B → B) (va : (x y : B) → V x → V y → V (add x y)) (vm : (x y : B) → V x → V y → V (mul x y)) where
    pub each-zip : (p q : List B) → Each V p → Each V q → Each V (zip_longest add p q)
    each-zip [] q g h = h
    each-zip (x ∷ p) [] g h = g
    each-zip (x ∷ p) (y ∷ q) g h = (va x y g.0 h.0, each-zip p q g.1 h.1)

    pub each-conv : (z : B) → V z → (p q : List B) → Each V p → Each V q → Each V (conv add mul z p q)
    each-conv z w [] q g h = tt
    each-conv z w (x ∷ p) q g h = each-zip (map (mul x) q) (z ∷ conv add mul z p q) (each-map (mul x) (λ y v. vm x y g.0 v) q h) (w, each-conv z w p q g.1 h)

module _ {B C : Type 0} (f : B → C) (V : B → Type 0) where
  pub map-map : (g : B → B) (g' : C → C) → ((x : B) → V x → f (g x) ≡ g' (f x)) → (p : List B) → Each V p → map f (map g p) ≡ map g' (map f p)
  map-map g g' h [] v = refl
  map-map g g' h (x ∷ p) v = ap₂ ◌∷◌ (h x v.0) (map-map g g' h p v.1)

  module _ (add mul : B → B → B) (add' mul' : C → C → C) (va : (x y : B) → V x → V y → V (add x y)) (vm : (x y : B) → V x → V y → V (mul x y))
      (ha : (x y : B) → V x → V y → f (add x y) ≡ add' (f x) (f y)) (hm : (x y : B) → V x → V y → f (mul x y) ≡ mul' (f x) (f y)) where
    pub map-zip_longest : (p q : List B) → Each V p → Each V q → map f (zip_longest add p q) ≡ zip_longest add' (map f p) (map f q)
    map-zip_longest [] q g h = refl
    map-zip_longest (x ∷ p) [] g h = refl
    map-zip_longest (x ∷ p) (y ∷ q) g h = ap₂ ◌∷◌ (ha x y g.0 h.0) (map-zip_longest p q g.1 h.1)

    pub map-conv : (z : B) → V z → (p q : List B) → Each V p → Each V q → map f (conv add mul z p q) ≡ conv add' mul' (f z) (map f p) (map f q)
    map-conv z w [] q g h = refl
    map-conv z w (x ∷ p) q g h =
        map-zip_longest (map (mul x) q) (z ∷ conv add mul z p q) (each-map V (mul x) (λ y v. vm x y g.0 v) q h) (w, each-conv V add mul va vm z w p q g.1 h)
        ∙ ap₂ (zip_longest add') (map-map (mul x) (mul' (f x)) (λ y v. hm x y g.0 v) q h) (ap (◌∷◌ (f z)) (map-conv z w p q g.1 h))
